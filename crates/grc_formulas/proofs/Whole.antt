-- A table that was made part by part is that of its graph.
use Rattle.std.proofs.Common.{◌≡◌, ℕ, ◌+◌, ◌-◌, ◌<◌, ◌≤◌, Bool, true, false, ◌&&◌, ◌==◌, min, List, [], ◌∷◌, length, map, slice_index_or, refl, sym, ap, ◌∙◌}
use Rattle.std.proofs.Common.{subst, arith, length-append, IsTrue, inl, inr}
use Rattle.std.specs.Prelude.{All, if◌then◌else◌}
use Rattle.std.specs.List.{range_with_len, sum_by}
use Rattle.std.proofs.lemmas.Bool.{cases_lt, cases_Bool, ltb-true, and_parts}
use Rattle.std.proofs.lemmas.List.{length-map, get_or-map, get_or_append_left, ext_get_or, take_all}
use Rattle.std.proofs.lemmas.List.Elements.{All-head, All-tail}
use Rattle.std.proofs.lemmas.List.FromFn.{get_or-map-range_with_len, length-map-range_with_len}
use Rattle.std.proofs.lemmas.List.Sums.{prefix_len-le-length}
use Rattle.est_kernel.specs.Plain.{program_of, outgoing_count}
use Rattle.est_kernel.specs.Preorder.{statement_count}
use Rattle.est_kernel.specs.WellFormed.{IsKernel}
use Rattle.est_kernel.proofs.Exports.{statement_count-pos}
use Rattle.grc_graph.specs.declared.graph.Graph.{Graph}
use Rattle.grc_graph.specs.GraphRuns.{shown}
use Rattle.grc_graph.specs.PlainGraphs.{instances_of, names_of, plain_graph}
use Rattle.grc_graph.specs.PlainInstances.{instance_of}
use Rattle.grc_graph.specs.Readings.{holds_at, state_holds_at}
use Rattle.grc_graph.specs.Residuals.{holds}
use Rattle.grc_graph.specs.Rows.{row_at, program_rows}
use Rattle.grc_graph.specs.SelectionTrees.{body_leaves, selecting}
use Rattle.grc_graph.specs.Walk.{State, Initial, Selecting}
use Rattle.grc_graph.specs.Wires as names
use Rattle.grc_graph.proofs.Exports.{holds-none}
use Rattle.grc_formulas.specs.declared.assembly.MadeSources.{MadeSources}
use Rattle.grc_formulas.specs.declared.table.Source.{Source}
use Rattle.grc_formulas.specs.declared.table.Source.TheVariants as sources
use Rattle.grc_formulas.specs.declared.table.Row.{Row}
use Rattle.grc_formulas.specs.declared.table.Row.TheVariants as rows
use Rattle.grc_formulas.specs.declared.table.Words.{Words}
use Rattle.grc_formulas.specs.Building.{Says, Extends, RowsFit}
use Rattle.grc_formulas.specs.Choosing.{SelectedMade, selection}
use Rattle.grc_formulas.specs.EndLists.{EndsFound, OutputsSaid, PausedMade, is_no_end_of}
use Rattle.grc_formulas.specs.Holdings.{HoldingsMade}
use Rattle.grc_formulas.specs.MadeSources.{AreMade}
use Rattle.grc_formulas.specs.Occasions.{Occasion, FalseOffWires, state_in}
use Rattle.grc_formulas.specs.Rows.{source_fits, row_fits}
use Rattle.grc_formulas.specs.Sizes.{instance_rows, rows_at_most}
use Rattle.grc_formulas.specs.WordLaws.{WordsFit, AreWordsOf, early_bounds, late_bounds, value_of, first_end}
use Rattle.grc_formulas.proofs.EndWords.{upto-by-ends}
use Rattle.grc_formulas.proofs.Holding.{holds_at-row, behind-last}
use Rattle.grc_formulas.proofs.Saying.{says-more, fits-grown, extends-trans}

-- ---- what early rows read late ones may read

source-late : (g : Graph) (n : ℕ) (s : Source) → IsTrue (source_fits (early_bounds g n) s) → IsTrue (source_fits (late_bounds g n) s)
source-late g n (sources.Const b) h = refl
source-late g n (sources.Leaf k) h = h
source-late g n (sources.Input s) h = absurd (omega (arith, ltb-true s.0 0 h))
source-late g n (sources.Wire w) h = absurd (omega (arith, ltb-true w.0 0 h))
source-late g n (sources.Row r) h = h

row-late : (g : Graph) (n : ℕ) (r : Row) → IsTrue (row_fits (early_bounds g n) r) → IsTrue (row_fits (late_bounds g n) r)
row-late g n (rows.Not a) h = source-late g n a h
row-late g n (rows.And a b) h =
    let parts = and_parts (source_fits (early_bounds g n) a) (source_fits (early_bounds g n) b) h in
    λ i. source-late g n a parts.0 i && source-late g n b parts.1 i
row-late g n (rows.Or a b) h =
    let parts = and_parts (source_fits (early_bounds g n) a) (source_fits (early_bounds g n) b) h in
    λ i. source-late g n a parts.0 i && source-late g n b parts.1 i

pub rows-late : (g : Graph) (rs : List Row) → RowsFit (early_bounds g 0) rs → RowsFit (late_bounds g 0) rs
rows-late g rs f k d low = row-late g k (slice_index_or rs k d) (f k d low)

-- ---- what is selected

selecting-none : (leaves : List ℕ) (bits : List Bool) (n : ℕ) → All (λ b. b ≡ false) bits → selecting leaves bits n ≡ false
selecting-none [] bits n h = refl
selecting-none (m ∷ ms) [] n h = refl
selecting-none (m ∷ ms) (b ∷ bits) n h =
    both (n == m) (All-head (λ b. b ≡ false) b bits h) (selecting-none ms bits n (All-tail (λ b. b ≡ false) b bits h))
  where
    both : (c : Bool) → b ≡ false → selecting ms bits n ≡ false → (if c then b else selecting ms bits n) ≡ false
    both true e f = e
    both false e f = f

-- whether the state of an occasion selects a pause in a statement
holds-in : (g : Graph) (t : Occasion g) (m : ℕ) → IsKernel (program_of g.program).body → m < statement_count (program_of g.program).body
    → holds (selection g t) (row_at (program_rows (program_of g.program)) m).statement m ≡ state_holds_at (state_in g t) (plain_graph g).body m
holds-in g t m kernel low = elim (cases_Bool t.boot) [
  | inl first ↦
      holds-none (selection g t) (row_at (program_rows (program_of g.program)) m).statement m
      (λ n. selecting-none (body_leaves (program_of g.program).body) t.bits n (t.unselected first))
      ∙ sym (ap (λ b. state_holds_at (state_of_bit b) (program_of g.program).body m) first)
  | inr later ↦
      sym (holds_at-row (program_of g.program) (selection g t) m kernel low)
      ∙ sym (ap (λ b. state_holds_at (state_of_bit b) (program_of g.program).body m) later)
]
  where
    state_of_bit : Bool → State
    state_of_bit b = if b then Initial else Selecting (selecting (body_leaves (program_of g.program).body) t.bits)

-- a number behind the last statement is read as of the last one
holds-clamped : (g : Graph) (t : Occasion g) (n m : ℕ) → m ≡ min n (statement_count (program_of g.program).body - 1)
    → state_holds_at (state_in g t) (plain_graph g).body m ≡ state_holds_at (state_in g t) (plain_graph g).body n
holds-clamped g t n m e = by (state_in g t)
  where
    by : (q : State) → state_holds_at q (program_of g.program).body m ≡ state_holds_at q (program_of g.program).body n
    by Initial = refl
    by (Selecting S) =
        let count = statement_count (program_of g.program).body in
        let some = statement_count-pos (program_of g.program).body in
        elim (cases_lt n count) [
          | inl less ↦ let same : m ≡ n = omega arith in ap (holds_at S (program_of g.program).body 0) same
          | inr more ↦
              let last : m ≡ count - 1 = omega arith in
              ap (holds_at S (program_of g.program).body 0) last ∙ sym (behind-last S (program_of g.program).body n more)
        ]

-- ---- the whole table

pub record Made (g : Graph) (w : Words) : Type 0 where
  pub kernel : IsKernel (program_of g.program).body
  pub early_rows : List Row
  pub late_rows : List Row
  pub early : w.early ≡ length early_rows
  pub selected : SelectedMade g w.selected.items early_rows 0
  pub holdings : HoldingsMade g early_rows late_rows w.kept.items w.held.items (length g.instances.list.items)
  pub paused : PausedMade g late_rows w.rows.items w.paused
  pub ends : EndsFound g 0 w.ends.items
  pub outputs : OutputsSaid g (outgoing_count (program_of g.program)) w.outputs.items

whole-extends : (g : Graph) (w : Words) (m : Made g w) → Extends (late_bounds g 0) m.early_rows w.rows.items
whole-extends g w m = extends-trans (late_bounds g 0) m.early_rows m.late_rows w.rows.items m.holdings.extends m.paused.extends

selected-says : (g : Graph) (w : Words) (m : Made g w) (n : ℕ) (d : Source) → n < length w.selected.items
    → Says g (late_bounds g 0) w.rows.items (slice_index_or w.selected.items n d)
    (λ t. holds (selection g t) (row_at (program_rows (program_of g.program)) n).statement n)
selected-says g w m n d low =
    let s = slice_index_or w.selected.items n d in
    let h = m.selected.made n d (omega arith) low in
    let here : Says g (late_bounds g 0) m.early_rows s (λ t. holds (selection g t) (row_at (program_rows (program_of g.program)) n).statement n) =
    record { fits = source-late g (length m.early_rows) s h.fits; value = h.value } in
    says-more g (late_bounds g 0) m.early_rows w.rows.items s _ (whole-extends g w m) here

fit-of : (g : Graph) (w : Words) (m : Made g w) → WordsFit g w
fit-of g w m =
    let x = whole-extends g w m in
    let longer = ap length x.more.1 ∙ length-append m.early_rows x.more.0 in
    record {
      early = omega (arith, m.early);
      early_rows = λ k d low.
          let within : k < length m.early_rows = omega (arith, m.early) in
          subst (λ r. IsTrue (row_fits (early_bounds g k) r))
          (sym (ap (λ rs. slice_index_or rs k d) x.more.1 ∙ get_or_append_left m.early_rows x.more.0 d k within)) (m.selected.fit k d within);
      rows = m.paused.extends.fit;
      selected = λ n d low. subst (λ e. IsTrue (source_fits (early_bounds g e) (slice_index_or w.selected.items n d))) (sym m.early)
          (m.selected.made n d (omega arith) low).fits;
      kept = λ i d low. fits-grown (late_bounds g 0) m.late_rows w.rows.items (slice_index_or w.kept.items i d) m.paused.extends
          (m.holdings.kept_says i d (omega (arith, m.holdings.kept_all))).fits;
      held = λ i d low. fits-grown (late_bounds g 0) m.late_rows w.rows.items (slice_index_or w.held.items i d) m.paused.extends
          (m.holdings.held_says i d (omega (arith, m.holdings.held_all))).fits;
      ends = λ i d low. omega (arith, m.ends.found i d low, prefix_len-le-length (is_no_end_of i) g.wires.items);
      outputs = λ k d low. (m.outputs.says k d w.rows.items (omega (arith, m.outputs.each))).fits;
      paused = m.paused.says.fits;
    }

-- the outgoing signals one by one
outputs-of : (g : Graph) (w : Words) (m : Made g w) (t : Occasion g) → FalseOffWires g t.valuation
    → map (value_of g w t) w.outputs.items ≡ (shown (plain_graph g) t.valuation).outputs
outputs-of g w m t off =
    let p = program_of g.program in
    let count = outgoing_count p in
    let f = λ (s : ℕ). t.valuation (names.Out s) in
    let left = length-map w.outputs.items (value_of g w t) in
    let right = length-map-range_with_len f p.inputs count in
    ext_get_or false (map (value_of g w t) w.outputs.items) (map f (range_with_len p.inputs count)) (omega (arith, m.outputs.each))
    (λ k low.
    let d = sources.Const false in
    let within : k < count = omega (arith, m.outputs.each) in
    get_or-map (value_of g w t) w.outputs.items k d false (omega (arith, m.outputs.each))
    ∙ (m.outputs.says k d w.rows.items within).value t off
    ∙ sym (get_or-map-range_with_len f p.inputs count k (p.inputs + k) false within refl))

pub words-are : (g : Graph) (w : Words) → Made g w → AreWordsOf g w
words-are g w m =
    let body = (program_of g.program).body in
    let many = length-map g.instances.list.items instance_of in
    record {
      fit = fit-of g w m;
      one_per_instance = (m.holdings.kept_all, m.holdings.held_all, m.ends.each);
      one_per_output = m.outputs.each;
      one_per_statement = omega (arith, m.selected.many, statement_count-pos body);
      selected = λ t n off.
          let at = min n (length w.selected.items - 1) in
          let some = statement_count-pos body in
          let low : at < length w.selected.items = omega (arith, m.selected.many) in
          (selected-says g w m at (sources.Const false) low).value t off
          ∙ holds-in g t at m.kernel (omega (arith, m.selected.many))
          ∙ holds-clamped g t n at (ap (λ c. min n (c - 1)) m.selected.many);
      kept = λ t i d off low.
          (says-more g (late_bounds g 0) m.late_rows w.rows.items (slice_index_or w.kept.items i d) _ m.paused.extends (m.holdings.kept_says i d low)).value t
          off;
      held = λ t i d off low.
          (says-more g (late_bounds g 0) m.late_rows w.rows.items (slice_index_or w.held.items i d) _ m.paused.extends (m.holdings.held_says i d low)).value t
          off;
      upto = λ t i k off low.
          upto-by-ends g t.valuation i k (first_end w i) (record { low = omega arith; off = off })
          (m.ends.found i (record { 0 = 0 }) (omega (arith, m.ends.each)) ∙ omega arith);
      outputs = λ t off. outputs-of g w m t off;
      paused = λ t off. m.paused.says.value t off;
    }

pub rows-few : (g : Graph) (rows : List Row) (s : MadeSources) → AreMade g rows s → length rows ≤ rows_at_most g
rows-few g rows s m =
    let many = length-map g.instances.list.items instance_of in
    let all = ap (sum_by (instance_rows g)) (take_all (length g.instances.list.items) (instances_of g) (omega arith)) in
    omega (arith, m.selected.few, m.selected.many, m.holdings.few, m.paused.few)
