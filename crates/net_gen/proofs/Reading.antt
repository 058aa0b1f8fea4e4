-- Which formulas are ready: those along the order, and all of them once every wire and row has its net.
use Rattle.std.proofs.Common.{◌≡◌, ℕ, ◌+◌, ◌-◌, ◌<◌, ◌≤◌, Bool, true, false, ◌&&◌, ◌==◌, nat_lt, nat_le, min, List, [], ◌∷◌, length, map, slice_index_or, refl}
use Rattle.std.proofs.Common.{sym, ap, ◌∙◌, subst, arith, IsTrue, All, Option, Some, None, zero, suc}
use Rattle.std.specs.List.{list_all}
use Rattle.std.proofs.lemmas.Bool.{and_parts, ltb-true, leb-true, eqb-true}
use Rattle.std.proofs.lemmas.List.{get_or_default, get_or-map}
use Rattle.std.proofs.Common.{drop, length-drop}
use Rattle.std.proofs.lemmas.List.Sums.{AllPass-from_list_all, prefix_len-le-length}
use Rattle.base_types.specs.declared.indices.WireId.{WireId}
use Rattle.grc_graph.specs.declared.formulas.Formula.{Formula}
use Rattle.grc_graph.specs.declared.formulas.Formula.TheVariants as formulas
use Rattle.grc_graph.specs.declared.graph.Graph.{Graph}
use Rattle.grc_graph.specs.declared.wires.Wire.{Wire}
use Rattle.grc_graph.specs.declared.wires.Wire.TheVariants as wires
use Rattle.grc_graph.specs.Formulas as plain
use Rattle.grc_graph.specs.GraphShapes.{formula_fits}
use Rattle.grc_graph.specs.Layers.{Resumed}
use Rattle.grc_graph.specs.PlainGraphs.{formula_of, wire_of, instances_of, instance_at, names_of, wire_at}
use Rattle.grc_graph.specs.Reads.{ReadsOnly}
use Rattle.grc_graph.specs.Wires as plain_wires
use Rattle.grc_formulas.specs.declared.table.Source.{Source}
use Rattle.grc_formulas.specs.declared.table.Source.TheVariants as sources
use Rattle.grc_formulas.specs.declared.table.Row.{Row}
use Rattle.grc_formulas.specs.declared.table.Row.TheVariants as rows
use Rattle.grc_formulas.specs.declared.table.Words.{Words}
use Rattle.grc_formulas.specs.Rows.{Bounds, source_fits, row_fits}
use Rattle.grc_formulas.specs.WordLaws.{AreWordsOf, WordsFit, early_bounds, late_bounds, selected_source, is_end_upto, first_end, ends_upto}
use Rattle.net_gen.specs.Drawings.{Drawing, Placed}
use Rattle.net_gen.specs.Readiness.{SourceReady, FormulaReady, EndsReady, SourceReads, RowReads, RowsReady, RowsPlaced, WiresPlaced, kept_source, held_source}
use Rattle.net_gen.specs.Senses.{Sound, first_of}
use Rattle.net_gen.proofs.EndRuns.{run-passes}

-- what an early source reads
early-reads : (g : Graph) (w : Words) (d : Drawing) (k : ℕ) (x : Source) → Sound g w d → IsTrue (source_fits (early_bounds g k) x) → SourceReads d k x
early-reads g w d k (sources.Const b) s fits = tt
early-reads g w d k (sources.Leaf n) s fits = let low = ltb-true n (length g.next.items) fits in omega (arith, s.given, s.first)
early-reads g w d k (sources.Input n) s fits = let low = ltb-true n.0 0 fits in absurd (omega arith)
early-reads g w d k (sources.Wire v) s fits = let low = ltb-true v.0 0 fits in absurd (omega arith)
early-reads g w d k (sources.Row r) s fits = ltb-true r k fits

early-row : (g : Graph) (w : Words) (d : Drawing) (k : ℕ) (x : Row) → Sound g w d → IsTrue (row_fits (early_bounds g k) x) → RowReads d k x
early-row g w d k (rows.Not a) s fits = early-reads g w d k a s fits
early-row g w d k (rows.And a b) s fits =
    let parts = and_parts (source_fits (early_bounds g k) a) (source_fits (early_bounds g k) b) fits in
    (early-reads g w d k a s parts.0, early-reads g w d k b s parts.1)
early-row g w d k (rows.Or a b) s fits =
    let parts = and_parts (source_fits (early_bounds g k) a) (source_fits (early_bounds g k) b) fits in
    (early-reads g w d k a s parts.0, early-reads g w d k b s parts.1)

-- the early rows are ready before anything is made
pub early-ready : (g : Graph) (w : Words) (d : Drawing) → Sound g w d → WordsFit g w → RowsReady w d 0 w.early
early-ready g w d s fit = λ k x low high. early-row g w d k (slice_index_or w.rows.items k x) s (fit.early_rows k x high)

late-reads : (g : Graph) (w : Words) (d : Drawing) (k : ℕ) (x : Source) → Sound g w d → WiresPlaced d (length g.wires.items)
    → IsTrue (source_fits (late_bounds g k) x) → SourceReads d k x
late-reads g w d k (sources.Const b) s p fits = tt
late-reads g w d k (sources.Leaf n) s p fits = let low = ltb-true n (length g.next.items) fits in omega (arith, s.given, s.first)
late-reads g w d k (sources.Input n) s p fits = let low = ltb-true n.0 _ fits in omega (arith, s.given)
late-reads g w d k (sources.Wire v) s p fits = p v.0 (ltb-true v.0 (length g.wires.items) fits)
late-reads g w d k (sources.Row r) s p fits = ltb-true r k fits

late-row : (g : Graph) (w : Words) (d : Drawing) (k : ℕ) (x : Row) → Sound g w d → WiresPlaced d (length g.wires.items)
    → IsTrue (row_fits (late_bounds g k) x) → RowReads d k x
late-row g w d k (rows.Not a) s p fits = late-reads g w d k a s p fits
late-row g w d k (rows.And a b) s p fits =
    let parts = and_parts (source_fits (late_bounds g k) a) (source_fits (late_bounds g k) b) fits in
    (late-reads g w d k a s p parts.0, late-reads g w d k b s p parts.1)
late-row g w d k (rows.Or a b) s p fits =
    let parts = and_parts (source_fits (late_bounds g k) a) (source_fits (late_bounds g k) b) fits in
    (late-reads g w d k a s p parts.0, late-reads g w d k b s p parts.1)

-- every row is ready once all wires have their nets
pub late-ready : (g : Graph) (w : Words) (d : Drawing) (from : ℕ) → Sound g w d → WordsFit g w → WiresPlaced d (length g.wires.items)
    → RowsReady w d from (length w.rows.items)
late-ready g w d from s fit p = λ k x low high. late-row g w d k (slice_index_or w.rows.items k x) s p (fit.rows k x high)

-- a source is ready where the rows that it may read are made
reads-ready : (d : Drawing) (k : ℕ) (x : Source) → RowsPlaced d k → SourceReads d k x → SourceReady d x
reads-ready d k (sources.Const b) p r = r
reads-ready d k (sources.Leaf n) p r = r
reads-ready d k (sources.Input n) p r = r
reads-ready d k (sources.Wire v) p r = r
reads-ready d k (sources.Row n) p r = p n r

pub source-early : (g : Graph) (w : Words) (d : Drawing) (x : Source) → Sound g w d → RowsPlaced d w.early → IsTrue (source_fits (early_bounds g w.early) x)
    → SourceReady d x
source-early g w d x s p fits = reads-ready d w.early x p (early-reads g w d w.early x s fits)

pub source-late : (g : Graph) (w : Words) (d : Drawing) (x : Source) → Sound g w d → WiresPlaced d (length g.wires.items) → RowsPlaced d (length w.rows.items)
    → IsTrue (source_fits (late_bounds g (length w.rows.items)) x) → SourceReady d x
source-late g w d x s wp p fits = reads-ready d (length w.rows.items) x p (late-reads g w d (length w.rows.items) x s wp fits)

selected-ready : (g : Graph) (w : Words) (d : Drawing) (n : ℕ) → Sound g w d → AreWordsOf g w → RowsPlaced d w.early → SourceReady d (selected_source w n)
selected-ready g w d n s a p =
    let many = a.one_per_statement in
    let at = min n (length w.selected.items - 1) in
    source-early g w d (selected_source w n) s p (a.fit.selected at (sources.Const false) (omega arith))

-- an end of an instance by name
end-name : (g : Graph) (i k v : ℕ) (x : Wire) → is_end_upto i k x ≡ true
    → (c : ℕ) × (c ≤ k) × (wire_of (instances_of g) x ≡ plain_wires.End (instance_at (instances_of g) i).path (instance_at (instances_of g) i).layer c)
end-name g i k v (wires.Go j) e = absurd (cc)
end-name g i k v (wires.End j c) e =
    let parts = and_parts (j.0 == i) (nat_le c k) e in
    let same = eqb-true j.0 i parts.0 in
    (c, leb-true c k parts.1, ap (λ n. plain_wires.End (instance_at (instances_of g) n).path (instance_at (instances_of g) n).layer c) same)
end-name g i k v (wires.Local j) e = absurd (cc)
end-name g i k v (wires.Out s) e = absurd (cc)

name-at : (g : Graph) (v : ℕ) (d : Wire) → v < length g.wires.items → wire_at (names_of g) v ≡ wire_of (instances_of g) (slice_index_or g.wires.items v d)
name-at g v d low = get_or-map (wire_of (instances_of g)) g.wires.items v d (plain_wires.Go 0 Resumed) low

-- the wires that a formula may read have their nets
abbrev pub ReadsPlaced : Graph → Drawing → (plain_wires.Wire → Type 0) → Type 0
ReadsPlaced g d P = (v : ℕ) → v < length g.wires.items → P (wire_at (names_of g) v) → Placed d.wires v

run-below : (g : Graph) (w : Words) (i k v : ℕ) → AreWordsOf g w → i < length g.instances.list.items → v < first_end w i + ends_upto g w i k
    → v < length g.wires.items
run-below g w i k v a h high =
    let first = first_end w i in
    let within : first ≤ length g.wires.items = a.fit.ends i (record { 0 = 0 }) (omega (arith, a.one_per_instance.2)) in
    omega (arith, prefix_len-le-length (is_end_upto i k) (drop first g.wires.items), length-drop first g.wires.items)

ends-ready : (g : Graph) (w : Words) (d : Drawing) (P : plain_wires.Wire → Type 0) (i k : ℕ) → AreWordsOf g w → ReadsPlaced g d P
    → i < length g.instances.list.items
    → ((c : ℕ) → c ≤ k → P (plain_wires.End (instance_at (instances_of g) i).path (instance_at (instances_of g) i).layer c)) → EndsReady g w d i k
ends-ready g w d P i k a placed h reads = λ v begin end.
    let x : Wire = wires.Out (record { 0 = 0 }) in
    let low = run-below g w i k v a h end in
    let named = end-name g i k v (slice_index_or g.wires.items v x) (run-passes g w i k v x begin end) in
    placed v low (subst P (sym (name-at g v x low ∙ named.2)) (reads named.0 named.1))

-- each of the wires of an or is read
any-read : (g : Graph) (P : plain_wires.Wire → Type 0) (list : List WireId)
    → ReadsOnly P (plain.any_of (map (λ (v : WireId). plain.Value (wire_at (names_of g) v.0)) list))
    → (k : ℕ) (x : WireId) → k < length list → P (wire_at (names_of g) (slice_index_or list k x).0)
any-read g P [] reads k x h = absurd (omega arith)
any-read g P (v ∷ []) reads zero x h = reads
any-read g P (v ∷ []) reads (suc k) x h = absurd (omega arith)
any-read g P (v ∷ (u ∷ list)) reads zero x h = reads.0
any-read g P (v ∷ (u ∷ list)) reads (suc k) x h = any-read g P (u ∷ list) reads.1 k x (omega arith)

-- a formula along the order
pub ready-along : (g : Graph) (w : Words) (d : Drawing) (P : plain_wires.Wire → Type 0) (f : Formula) → Sound g w d → AreWordsOf g w
    → RowsPlaced d w.early → ReadsPlaced g d P → IsTrue (formula_fits (length g.instances.list.items) (length g.wires.items) f)
    → ReadsOnly P (formula_of (instances_of g) (names_of g) f) → FormulaReady g w d f
ready-along g w d P (formulas.Const b) s a p q fits reads = tt
ready-along g w d P formulas.Boot s a p q fits reads = tt
ready-along g w d P (formulas.Input x) s a p q fits reads = tt
ready-along g w d P (formulas.Wire v) s a p q fits reads = q v.0 (ltb-true v.0 (length g.wires.items) fits) reads
ready-along g w d P (formulas.Selected n) s a p q fits reads = selected-ready g w d n.0 s a p
ready-along g w d P (formulas.Upto i k) s a p q fits reads =
    let h = ltb-true i.0 (length g.instances.list.items) fits in (h, ends-ready g w d P i.0 k a q h reads)
ready-along g w d P (formulas.Kept i) s a p q fits reads = absurd reads
ready-along g w d P (formulas.Held i) s a p q fits reads = absurd reads
ready-along g w d P (formulas.Not' x f) s a p q fits reads = ready-along g w d P f s a p q fits reads
ready-along g w d P (formulas.And' x f y h) s a p q fits reads =
    let parts = and_parts (formula_fits (length g.instances.list.items) (length g.wires.items) f)
    (formula_fits (length g.instances.list.items) (length g.wires.items) h) fits in
    (ready-along g w d P f s a p q parts.0 reads.0, ready-along g w d P h s a p q parts.1 reads.1)
ready-along g w d P (formulas.Or' x f y h) s a p q fits reads =
    let parts = and_parts (formula_fits (length g.instances.list.items) (length g.wires.items) f)
    (formula_fits (length g.instances.list.items) (length g.wires.items) h) fits in
    (ready-along g w d P f s a p q parts.0 reads.0, ready-along g w d P h s a p q parts.1 reads.1)
ready-along g w d P (formulas.AnyOf v) s a p q fits reads = λ k x h.
    let low = ltb-true (slice_index_or v.items k x).0 (length g.wires.items)
    (AllPass-from_list_all (λ (u : WireId). nat_lt u.0 (length g.wires.items)) v.items fits k x h) in
    q (slice_index_or v.items k x).0 low (any-read g P v.items reads k x h)

-- any formula, once all wires and rows have their nets
pub ready-late : (g : Graph) (w : Words) (d : Drawing) (f : Formula) → Sound g w d → AreWordsOf g w → WiresPlaced d (length g.wires.items)
    → RowsPlaced d (length w.rows.items) → IsTrue (formula_fits (length g.instances.list.items) (length g.wires.items) f) → FormulaReady g w d f
ready-late g w d (formulas.Const b) s a p q fits = tt
ready-late g w d formulas.Boot s a p q fits = tt
ready-late g w d (formulas.Input x) s a p q fits = tt
ready-late g w d (formulas.Wire v) s a p q fits = p v.0 (ltb-true v.0 (length g.wires.items) fits)
ready-late g w d (formulas.Selected n) s a p q fits =
    let few = a.fit.early in selected-ready g w d n.0 s a (λ k h. q k (omega arith))
ready-late g w d (formulas.Upto i k) s a p q fits =
    let h = ltb-true i.0 (length g.instances.list.items) fits in (h, λ v begin end. p v (run-below g w i.0 k v a h end))
ready-late g w d (formulas.Kept i) s a p q fits =
    let h = ltb-true i.0 (length g.instances.list.items) fits in
    (h, source-late g w d (kept_source w i.0) s p q (a.fit.kept i.0 (sources.Const false) (omega (arith, a.one_per_instance.0))))
ready-late g w d (formulas.Held i) s a p q fits =
    let h = ltb-true i.0 (length g.instances.list.items) fits in
    (h, source-late g w d (held_source w i.0) s p q (a.fit.held i.0 (sources.Const false) (omega (arith, a.one_per_instance.1))))
ready-late g w d (formulas.Not' x f) s a p q fits = ready-late g w d f s a p q fits
ready-late g w d (formulas.And' x f y h) s a p q fits =
    let parts = and_parts (formula_fits (length g.instances.list.items) (length g.wires.items) f)
    (formula_fits (length g.instances.list.items) (length g.wires.items) h) fits in
    (ready-late g w d f s a p q parts.0, ready-late g w d h s a p q parts.1)
ready-late g w d (formulas.Or' x f y h) s a p q fits =
    let parts = and_parts (formula_fits (length g.instances.list.items) (length g.wires.items) f)
    (formula_fits (length g.instances.list.items) (length g.wires.items) h) fits in
    (ready-late g w d f s a p q parts.0, ready-late g w d h s a p q parts.1)
ready-late g w d (formulas.AnyOf v) s a p q fits = λ k x h.
    p (slice_index_or v.items k x).0 (ltb-true (slice_index_or v.items k x).0 (length g.wires.items)
    (AllPass-from_list_all (λ (u : WireId). nat_lt u.0 (length g.wires.items)) v.items fits k x h))
