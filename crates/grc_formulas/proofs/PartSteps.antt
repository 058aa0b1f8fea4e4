-- One more statement whose source says that it holds a selected pause.
use Rattle.std.proofs.Common.{◌≡◌, ℕ, suc, ◌+◌, ◌<◌, ◌≤◌, Bool, false, ◌||◌, List, [], ◌∷◌, length, drop, slice_index_or, slice_set, refl, sym, ap}
use Rattle.std.proofs.Common.{◌∙◌, subst, arith, inl, inr, length-set, get_or-set_same, get_or-set_other, drop-cons}
use Rattle.std.specs.Prelude.{if◌then◌else◌}
use Rattle.std.specs.List.{sum_by}
use Rattle.std.proofs.lemmas.Bool.{cases_eq, cases_Bool, and_left}
use Rattle.std.proofs.lemmas.List.Sums.{sum_by-cons}
use Rattle.est_kernel.specs.Plain.{program_of, Program}
use Rattle.est_kernel.specs.Preorder.{statement_count}
use Rattle.est_kernel.specs.Terms.{Term, Nothing, Pause, Emit, Exit, Present, Suspend, Seq, Loop, Par, Trap, Local, Awake}
use Rattle.grc_graph.specs.declared.graph.Graph.{Graph}
use Rattle.grc_graph.specs.Layers.{Liveness, part_liveness, second_liveness, loop_liveness}
use Rattle.grc_graph.specs.Residuals.{holds}
use Rattle.grc_graph.specs.Rows.{Row, row, rows, row_at, second_of, program_rows}
use Rattle.grc_graph.specs.Scopes.{Scope, bind}
use Rattle.grc_graph.specs.Statements.{Entry, Part, Branch, Then, Else, Suspended, Second, Looped}
use Rattle.grc_graph.proofs.Exports.{StandsAt, program_placed, length-rows, stands_one, stands_first, stands_second, row_read, length-program_rows}
use Rattle.grc_formulas.specs.declared.selected.Parts.{Parts}
use Rattle.grc_formulas.specs.declared.selected.Parts.TheVariants as kinds
use Rattle.grc_formulas.specs.declared.table.Source.{Source}
use Rattle.grc_formulas.specs.declared.table.Source.TheVariants.{Const}
use Rattle.grc_formulas.specs.declared.table.Row as tables
use Rattle.grc_formulas.specs.Building.{Says, Extends, with_either, either_source}
use Rattle.grc_formulas.specs.Choosing.{LeavesChosen, SelectedMade, selection}
use Rattle.grc_formulas.specs.Sizes.{statement_row}
use Rattle.grc_graph.specs.RowCosts.{selection_rows}
use Rattle.grc_formulas.specs.Occasions.{Occasion}
use Rattle.grc_formulas.specs.PartKinds.{kind_of}
use Rattle.grc_formulas.specs.WordLaws.{early_bounds}
use Rattle.grc_formulas.proofs.RowCounts.{either-few}
use Rattle.grc_formulas.proofs.Saying.{says-more, extends-refl, makes-either}

-- what a statement with this many parts holds, which may be resumed or not; if it is not, no part of it is
abbrev pub HoldsBy : List Row → Bool → Term → (n m : ℕ) → Parts → Type 0
HoldsBy W b t n m kinds.Itself = (S : ℕ → Bool) → holds S t n ≡ S n
HoldsBy W b t n m kinds.None = (S : ℕ → Bool) → holds S t n ≡ false
HoldsBy W b t n m kinds.One = (n + 1 < length W) × ((S : ℕ → Bool) → holds S t n ≡ holds S (row_at W (n + 1)).statement (n + 1))
    × (b ≡ false → (row_at W (n + 1)).live.resumed ≡ false)
HoldsBy W b t n m (kinds.Two k) = (n + 1 < length W) × (n < k) × (k < length W)
    × ((S : ℕ → Bool) → holds S t n ≡ (holds S (row_at W (n + 1)).statement (n + 1) || holds S (row_at W k).statement k))
    × (b ≡ false → (row_at W (n + 1)).live.resumed ≡ false) × (b ≡ false → (row_at W k).live.resumed ≡ false)

one-holds : (W : List Row) (b : Bool) (a : Liveness) (B : Scope) (y : Entry) (t p : Term) (n : ℕ) → (b ≡ false → a.resumed ≡ false)
    → StandsAt W (n + 1) (rows a B y p (n + 1)) → ((S : ℕ → Bool) → holds S t n ≡ holds S p (n + 1))
    → (n + 1 < length W) × ((S : ℕ → Bool) → holds S t n ≡ holds S (row_at W (n + 1)).statement (n + 1))
    × (b ≡ false → (row_at W (n + 1)).live.resumed ≡ false)
one-holds W b a B y t p n off h e =
    let k = row_read W a B y p (n + 1) h in (
      k.within,
      λ S. e S ∙ ap (λ (r : Row). holds S r.statement (n + 1)) (sym k.same),
      λ no. ap (λ (r : Row). r.live.resumed) k.same ∙ off no,
    )

two-hold : (W : List Row) (v : Bool) (a b : Liveness) (B : Scope) (y z : Entry) (t p q : Term) (n c : ℕ) → (v ≡ false → a.resumed ≡ false)
    → (v ≡ false → b.resumed ≡ false) → n < c → StandsAt W (n + 1) (rows a B y p (n + 1)) → StandsAt W c (rows b B z q c)
    → ((S : ℕ → Bool) → holds S t n ≡ (holds S p (n + 1) || holds S q c))
    → (n + 1 < length W) × (n < c) × (c < length W)
    × ((S : ℕ → Bool) → holds S t n ≡ (holds S (row_at W (n + 1)).statement (n + 1) || holds S (row_at W c).statement c))
    × (v ≡ false → (row_at W (n + 1)).live.resumed ≡ false) × (v ≡ false → (row_at W c).live.resumed ≡ false)
two-hold W v a b B y z t p q n c offa offb before h g e =
    let k = row_read W a B y p (n + 1) h in
    let j = row_read W b B z q c g in (
      k.within,
      before,
      j.within,
      λ S. e S ∙ ap (λ (r : Row). holds S r.statement (n + 1) || holds S q c) (sym k.same)
          ∙ ap (λ (r : Row). holds S (row_at W (n + 1)).statement (n + 1) || holds S r.statement c) (sym j.same),
      λ no. ap (λ (r : Row). r.live.resumed) k.same ∙ offa no,
      λ no. ap (λ (r : Row). r.live.resumed) j.same ∙ offb no,
    )

by-kind : (W : List Row) (a : Liveness) (B : Scope) (x : Entry) (t : Term) (n : ℕ) → StandsAt W n (rows a B x t n)
    → HoldsBy W a.resumed t n (second_of t n) (kind_of t (second_of t n))
by-kind W a B x Nothing n h = λ S. refl
by-kind W a B x Pause n h = λ S. refl
by-kind W a B x (Emit s) n h = λ S. refl
by-kind W a B x (Exit k) n h = λ S. refl
by-kind W a B x (Present e p q) n h =
    let c = n + 1 + statement_count p in
    let ps = rows (part_liveness a p) B (Then n e) p (n + 1) in
    let qs = rows (part_liveness a q) B (Else n e) q c in
    two-hold W a.resumed (part_liveness a p) (part_liveness a q) B (Then n e) (Else n e) (Present e p q) p q n c (and_left a.resumed _) (and_left a.resumed _)
    (omega arith)
    (stands_first W n (row a B x (Present e p q) c) ps qs h)
    (stands_second W n (row a B x (Present e p q) c) p ps qs (length-rows (part_liveness a p) B (Then n e) p (n + 1)) h) (λ S. refl)
by-kind W a B x (Suspend e p) n h =
    one-holds W a.resumed (part_liveness a p) B (Suspended n e) (Suspend e p) p n (and_left a.resumed _)
    (stands_one W n (row a B x (Suspend e p) 0) (rows (part_liveness a p) B (Suspended n e) p (n + 1)) h) (λ S. refl)
by-kind W a B x (Seq p q) n h =
    let c = n + 1 + statement_count p in
    let b = second_liveness a p q (n + 1 + statement_count p) in
    let ps = rows (part_liveness a p) B (Branch n) p (n + 1) in
    let qs = rows b B (Second n) q c in
    two-hold W a.resumed (part_liveness a p) b B (Branch n) (Second n) (Seq p q) p q n c (and_left a.resumed _) (and_left a.resumed _) (omega arith)
    (stands_first W n (row a B x (Seq p q) c) ps qs h)
    (stands_second W n (row a B x (Seq p q) c) p ps qs (length-rows (part_liveness a p) B (Branch n) p (n + 1)) h) (λ S. refl)
by-kind W a B x (Loop at p) n h =
    one-holds W a.resumed (loop_liveness a p (n + 1)) B (Looped n) (Loop at p) p n (and_left a.resumed _)
    (stands_one W n (row a B x (Loop at p) 0) (rows (loop_liveness a p (n + 1)) B (Looped n) p (n + 1)) h) (λ S. refl)
by-kind W a B x (Par p q) n h =
    let c = n + 1 + statement_count p in
    let ps = rows (part_liveness a p) B (Branch n) p (n + 1) in
    let qs = rows (part_liveness a q) B (Branch n) q c in
    two-hold W a.resumed (part_liveness a p) (part_liveness a q) B (Branch n) (Branch n) (Par p q) p q n c (and_left a.resumed _) (and_left a.resumed _)
    (omega arith)
    (stands_first W n (row a B x (Par p q) c) ps qs h)
    (stands_second W n (row a B x (Par p q) c) p ps qs (length-rows (part_liveness a p) B (Branch n) p (n + 1)) h) (λ S. refl)
by-kind W a B x (Trap p) n h =
    one-holds W a.resumed (part_liveness a p) B (Part n) (Trap p) p n (and_left a.resumed _)
    (stands_one W n (row a B x (Trap p) 0) (rows (part_liveness a p) B (Part n) p (n + 1)) h) (λ S. refl)
by-kind W a B x (Local s p) n h =
    one-holds W a.resumed (part_liveness a p) (bind B s n) (Part n) (Local s p) p n (and_left a.resumed _)
    (stands_one W n (row a B x (Local s p) 0) (rows (part_liveness a p) (bind B s n) (Part n) p (n + 1)) h) (λ S. refl)
by-kind W a B x (Awake e p) n h = λ S. refl

-- each statement of a program, by what its row says
pub program_parts : (p : Program) (n : ℕ) → n < statement_count p.body
    → HoldsBy (program_rows p) (row_at (program_rows p) n).live.resumed (row_at (program_rows p) n).statement n (row_at (program_rows p) n).second
    (kind_of (row_at (program_rows p) n).statement (row_at (program_rows p) n).second)
program_parts p n low =
    let W = program_rows p in
    let r = row_at W n in
    let placed = program_placed p n low in
    subst (λ m. HoldsBy W r.live.resumed r.statement n m (kind_of r.statement m)) (sym placed.second)
    (by-kind W r.live r.scope r.entry r.statement n placed.stands)

-- ---- one more source

abbrev holding : (g : Graph) → ℕ → Occasion g → Bool
holding g n t = holds (selection g t) (row_at (program_rows (program_of g.program)) n).statement n

-- a statement's rows and those of the statements behind it
rows-from : (g : Graph) (j : ℕ) → j < length (program_rows (program_of g.program))
    → sum_by selection_rows (drop j (program_rows (program_of g.program)))
    ≡ selection_rows (statement_row g j) + sum_by selection_rows (drop (j + 1) (program_rows (program_of g.program)))
rows-from g j low =
    let W = program_rows (program_of g.program) in
    let next : suc j ≡ j + 1 = omega arith in
    ap (sum_by selection_rows) (drop-cons W j _ low ∙ ap (λ i. statement_row g j ∷ drop i W) next)
    ∙ sum_by-cons selection_rows (statement_row g j) (drop (j + 1) W)

-- a source for the statement before those that have one
selected-more : (g : Graph) (old new : List tables.Row) (sources : List Source) (place j : ℕ) (s : Source) → SelectedMade g sources old place → place ≡ j + 1
    → j < length sources → Extends (early_bounds g 0) old new → length new ≤ length old + selection_rows (statement_row g j)
    → ((statement_row g j).live.resumed ≡ false → s ≡ Const false) → Says g (early_bounds g 0) new s (holding g j)
    → SelectedMade g (slice_set sources j s) new j
selected-more g old new sources place j s m e low x more off h =
    let many = length-set sources j s in
    let W = program_rows (program_of g.program) in
    let before : length old ≤ sum_by selection_rows (drop (j + 1) W) = subst (λ i. length old ≤ sum_by selection_rows (drop i W)) e m.few in
    record {
      fit = x.fit;
      many = many ∙ m.many;
      few = omega (arith, before, more, rows-from g j (omega (arith, m.many, length-program_rows (program_of g.program))));
      resumed = λ n d below no. elim (cases_eq n j) [
        | inl same ↦
            ap (λ i. slice_index_or (slice_set sources j s) i d) same ∙ get_or-set_same sources j s d low
            ∙ off (ap (λ i. (statement_row g i).live.resumed) (sym same) ∙ no)
        | inr other ↦ get_or-set_other sources j n s d other ∙ m.resumed n d (omega arith) no
      ];
      made = λ n d from below. elim (cases_eq n j) [
        | inl same ↦
            let put : slice_index_or (slice_set sources j s) n d ≡ s = ap (λ i. slice_index_or (slice_set sources j s) i d) same
            ∙ get_or-set_same sources j s d low in
            subst (λ y. Says g (early_bounds g 0) new y (holding g n)) (sym put) (subst (λ i. Says g (early_bounds g 0) new s (holding g i)) (sym same) h)
        | inr other ↦
            subst (λ y. Says g (early_bounds g 0) new y (holding g n)) (sym (get_or-set_other sources j n s d other))
            (says-more g (early_bounds g 0) old new (slice_index_or sources n d) _ x (m.made n d (omega (arith, other)) (omega arith)))
      ];
      left = λ n d before below.
          let other : n ≡ j → ⊥ = λ q. absurd (omega arith) in
          subst (λ y. Says g (early_bounds g 0) new y (λ t. selection g t n)) (sym (get_or-set_other sources j n s d other))
          (says-more g (early_bounds g 0) old new (slice_index_or sources n d) _ x (m.left n d (omega arith) (omega arith)));
    }

says-as : (g : Graph) (rs : List tables.Row) (s : Source) (m n : Occasion g → Bool) → ((t : Occasion g) → m t ≡ n t) → Says g (early_bounds g 0) rs s m
    → Says g (early_bounds g 0) rs s n
says-as g rs s m n e h = record { fits = h.fits; value = λ t off. h.value t off ∙ e t }

-- a statement's row, as it is read
pub record RowRead (g : Graph) (j : ℕ) (kind : Parts) : Type 0 where
  pub low : j < statement_count (program_of g.program).body
  pub kind_is : kind ≡ kind_of (row_at (program_rows (program_of g.program)) j).statement (row_at (program_rows (program_of g.program)) j).second

parts-read : (g : Graph) (j : ℕ) (kind : Parts) → RowRead g j kind
    → HoldsBy (program_rows (program_of g.program)) (statement_row g j).live.resumed (statement_row g j).statement j (statement_row g j).second kind
parts-read g j kind r =
    subst (HoldsBy (program_rows (program_of g.program)) (statement_row g j).live.resumed (statement_row g j).statement j (statement_row g j).second)
    (sym r.kind_is) (program_parts (program_of g.program) j r.low)

pub select-itself : (g : Graph) (rs : List tables.Row) (sources : List Source) (place j : ℕ) (s d : Source) → SelectedMade g sources rs place → place ≡ j + 1
    → RowRead g j kinds.Itself → s ≡ slice_index_or sources j d → SelectedMade g (slice_set sources j s) rs j
select-itself g rs sources place j s d m e r is =
    let low : j < length sources = omega (arith, m.many, r.low) in
    let own = m.left j d (omega arith) low in
    selected-more g rs rs sources place j s m e low (extends-refl (early_bounds g 0) rs m.fit) (omega arith) (λ no. is ∙ m.resumed j d low no)
    (subst (λ y. Says g (early_bounds g 0) rs y (holding g j)) (sym is)
    (says-as g rs (slice_index_or sources j d) _ _ (λ t. sym (parts-read g j kinds.Itself r (selection g t))) own))

pub select-none : (g : Graph) (rs : List tables.Row) (sources : List Source) (place j : ℕ) → SelectedMade g sources rs place → place ≡ j + 1
    → RowRead g j kinds.None → SelectedMade g (slice_set sources j (Const false)) rs j
select-none g rs sources place j m e r =
    selected-more g rs rs sources place j (Const false) m e (omega (arith, m.many, r.low)) (extends-refl (early_bounds g 0) rs m.fit) (omega arith)
    (λ no. refl) (record { fits = refl; value = λ t off. sym (parts-read g j kinds.None r (selection g t)) })

pub select-one : (g : Graph) (rs : List tables.Row) (sources : List Source) (place j : ℕ) (s d : Source) → SelectedMade g sources rs place → place ≡ j + 1
    → RowRead g j kinds.One → s ≡ slice_index_or sources (j + 1) d → SelectedMade g (slice_set sources j s) rs j
select-one g rs sources place j s d m e r is =
    let parts = parts-read g j kinds.One r in
    let many = length-program_rows (program_of g.program) in
    let inside : j + 1 < length sources = omega (arith, m.many, parts.0) in
    let part = m.made (j + 1) d (omega arith) inside in
    selected-more g rs rs sources place j s m e (omega (arith, m.many, r.low)) (extends-refl (early_bounds g 0) rs m.fit) (omega arith)
    (λ no. is ∙ m.resumed (j + 1) d inside (parts.2 no)) (subst (λ y. Says g (early_bounds g 0) rs y (holding g j)) (sym is)
    (says-as g rs (slice_index_or sources (j + 1) d) _ _ (λ t. sym (parts.1 (selection g t))) part))

-- a row for the or of two sources, unless the first is false because nothing is resumed
either-rows : (r : Row) (rs : List tables.Row) (a b : Source) → (r.live.resumed ≡ false → a ≡ Const false)
    → length (with_either rs a b) ≤ length rs + selection_rows r
either-rows r rs a b off = elim (cases_Bool r.live.resumed) [
  | inl may ↦ let one : selection_rows r ≡ 1 = ap (λ v. if v then 1 else 0) may in omega (arith, one, either-few rs a b)
  | inr never_so ↦ let none : with_either rs a b ≡ rs = ap (λ y. with_either rs y b) (off never_so) in omega (arith, ap length none)
]

pub select-two : (g : Graph) (rs new : List tables.Row) (sources : List Source) (place j k : ℕ) (s a b d : Source) → SelectedMade g sources rs place →
    place ≡ j + 1
    → RowRead g j (kinds.Two k) → a ≡ slice_index_or sources (j + 1) d → b ≡ slice_index_or sources k d → new ≡ with_either rs a b → s ≡ either_source rs a b
    → SelectedMade g (slice_set sources j s) new j
select-two g rs new sources place j k s a b d m e r ea eb grown is =
    let parts = parts-read g j (kinds.Two k) r in
    let many = length-program_rows (program_of g.program) in
    let within : j + 1 < length sources = omega (arith, m.many, parts.0) in
    let within2 : k < length sources = omega (arith, m.many, parts.2) in
    let first = subst (λ y. Says g (early_bounds g 0) rs y (holding g (j + 1))) (sym ea) (m.made (j + 1) d (omega arith) within) in
    let other = subst (λ y. Says g (early_bounds g 0) rs y (holding g k)) (sym eb) (m.made k d (omega (arith, parts.1)) within2) in
    let made = makes-either g (early_bounds g 0) rs a b _ _ m.fit first other in
    let off = λ (no : (statement_row g j).live.resumed ≡ false). ea ∙ m.resumed (j + 1) d within (parts.4 no) in
    let offs = λ (no : (statement_row g j).live.resumed ≡ false).
    ap (λ y. either_source rs y b) (off no) ∙ eb ∙ m.resumed k d within2 (parts.5 no) in
    let whole : SelectedMade g (slice_set sources j (either_source rs a b)) (with_either rs a b) j =
    selected-more g rs (with_either rs a b) sources place j (either_source rs a b) m e (omega (arith, m.many, r.low)) made.extends
    (either-rows (statement_row g j) rs a b off) offs
    (says-as g (with_either rs a b) (either_source rs a b) _ _ (λ t. sym (parts.3 (selection g t))) made.says) in
    subst (λ x. SelectedMade g (slice_set sources j s) x j) (sym grown)
    (subst (λ x. SelectedMade g (slice_set sources j x) (with_either rs a b) j) (sym is) whole)

-- what the parts of a two-part statement are, for whoever reads their sources
pub two-within : (g : Graph) (j k : ℕ) → RowRead g j (kinds.Two k) →
    (j + 1 < statement_count (program_of g.program).body) × (k < statement_count (program_of g.program).body)
two-within g j k r =
    let parts = parts-read g j (kinds.Two k) r in
    let many = length-program_rows (program_of g.program) in
    (omega (arith, parts.0), omega (arith, parts.2))

pub one-within : (g : Graph) (j : ℕ) → RowRead g j kinds.One → j + 1 < statement_count (program_of g.program).body
one-within g j r = let parts = parts-read g j kinds.One r in let many = length-program_rows (program_of g.program) in omega (arith, parts.0)

pub selected-begun : (g : Graph) (rs : List tables.Row) (sources : List Source) (count place : ℕ) → LeavesChosen g count sources → length rs ≡ 0
    → count ≡ statement_count (program_of g.program).body → place ≡ count → SelectedMade g sources rs place
selected-begun g rs sources count place c none e at =
    let empty : rs ≡ [] = no-rows rs none in
    record {
      fit = λ k d low. absurd (omega arith);
      many = c.many ∙ e;
      few = omega arith;
      resumed = c.resumed;
      made = λ n d from below. absurd (omega (arith, c.many));
      left = λ n d before below. subst (λ x. Says g (early_bounds g 0) x (slice_index_or sources n d) (λ t. selection g t n)) (sym empty)
          (c.says n d (omega arith));
    }
  where
    no-rows : (xs : List tables.Row) → length xs ≡ 0 → xs ≡ []
    no-rows [] h = refl
    no-rows (x ∷ xs) h = absurd (omega arith)
