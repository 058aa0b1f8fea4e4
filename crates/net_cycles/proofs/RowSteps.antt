-- What nets of sources and rows say, and one more row.
use Rattle.std.proofs.Common.{◌≡◌, ℕ, suc, ◌+◌, ◌<◌, ◌≤◌, ◌^◌, true, false, not, ◌&&◌, ◌||◌, List, [], ◌∷◌, ◌++◌, length, refl, sym, ap, ◌∙◌, subst}
use Rattle.std.proofs.Common.{arith}
use Rattle.std.proofs.Common.{IsTrue, slice_index_or, ⊎_elim}
use Rattle.std.proofs.lemmas.Bool.{and_parts, cases_lt, ltb-true}
use Rattle.std.proofs.lemmas.List.{get_or-append-add, get_or_append_left, get_or_push, length_push}
use Rattle.base_types.specs.declared.indices.NetId.{NetId}
use Rattle.grc_graph.specs.declared.graph.Graph.{Graph}
use Rattle.grc_formulas.specs.declared.table.Source.{Source}
use Rattle.grc_formulas.specs.declared.table.Source.TheVariants as sources
use Rattle.grc_formulas.specs.declared.table.Row.{Row}
use Rattle.grc_formulas.specs.declared.table.Row.TheVariants as rows
use Rattle.grc_formulas.specs.declared.table.Words.{Words}
use Rattle.grc_formulas.specs.Occasions.{Occasion, surroundings}
use Rattle.grc_formulas.specs.Rows.{row_fits, row_value, source_fits, source_value}
use Rattle.grc_formulas.specs.WordLaws.{late_bounds}
use Rattle.grc_formulas.proofs.Exports.{rows-met}
use Rattle.net_gen.specs.Senses.{first_of, start_of}
use Rattle.net_ir.specs.declared.netlist.Op.{Op}
use Rattle.net_ir.specs.Gates.{op_value, operand_end, value_in}
use Rattle.net_ir.proofs.Exports.{value_in-gate_values}
use Rattle.net_unroll.specs.declared.growing.Growing.{Growing}
use Rattle.net_unroll.specs.Copies.{AreNets, Grows, Pushed, net_at, next_number, values_of}
use Rattle.net_unroll.proofs.Exports.{grows-both, grows-none, grows-push, grows-value, nets-stay, pushed-new}
use Rattle.net_cycles.specs.declared.base.Base.{Base}
use Rattle.net_cycles.specs.Bases.{AreRows, CarryWires, IsBase, IsReady, RowsAdded, bounds_of, row_op, rows_in, source_net}
use Rattle.net_gen.proofs.Exports.{length-start}

-- ---- what stays while gates grow

pub base-stays : (g : Graph) (b : Base) (old new : Growing) (k : ℕ) → IsBase g b old → Grows old new k → IsBase g b new
base-stays g b old new k base more = record {
  given = base.given;
  leaves = base.leaves;
  first = more.first ∙ base.first;
  few = base.few;
  no = record {
    low = let l = base.no.low in let m = more.many in omega arith;
    never = λ front wide. let w = wide ∙ more.first in grows-value old new k front b.no.0 more w base.no.low ∙ base.no.never front w;
  };
  yes = record {
    low = let l = base.yes.low in let m = more.many in omega arith;
    always = λ front wide. let w = wide ∙ more.first in grows-value old new k front b.yes.0 more w base.yes.low ∙ base.yes.always front w;
  };
  growing = more.growing;
  silent = more.silent ∙ base.silent;
}

pub carry-before : (g : Graph) (b : Base) (wires : List NetId) (old new : Growing) (k : ℕ) (t : Occasion g) → IsBase g b old → AreNets old wires
    → Grows old new k
    → CarryWires g wires new t → CarryWires g wires old t
carry-before g b wires old new k t base nets more c = record {
  off = c.off;
  says = λ v low.
      sym (grows-value old new k (start_of g t) (net_at wires v).0 more (length-start g t ∙ sym base.first) (nets v (record { 0 = 0 }) low)) ∙ c.says v low;
}

-- ---- what sources and rows say

module _ (g : Graph) (w : Words) (b : Base) (wires rs : List NetId) (d : Growing) (base : IsBase g b d) (a : AreRows g w wires rs d) (t : Occasion g)
    (c : CarryWires g wires d t) where
  before : (n : ℕ) → n < first_of g → value_in (values_of d (start_of g t)) n ≡ slice_index_or (start_of g t) n false
  before n low = let m = length-start g t in value_in-gate_values (start_of g t) d.list.items n (omega arith)

  wide : length (start_of g t) ≡ d.first
  wide = length-start g t ∙ sym base.first

  pub source-says : (s : Source) → IsTrue (source_fits (bounds_of b (length wires) (length rs)) s)
      → value_in (values_of d (start_of g t)) (source_net b wires rs s).0 ≡ source_value (surroundings g t) (rows_in g w t) s
  source-says (sources.Const true) fits = base.yes.always (start_of g t) wide
  source-says (sources.Const false) fits = base.no.never (start_of g t) wide
  source-says (sources.Leaf k) fits =
      let low = ltb-true k b.leaves fits in
      let e = base.given in
      let l = base.leaves in
      let many = t.one_per_given in
      let place : b.given + 1 + k ≡ length t.event + suc k = omega arith in
      before (b.given + 1 + k) (omega arith) ∙ ap (λ n. slice_index_or (start_of g t) n false) place
      ∙ get_or-append-add t.event (t.boot ∷ t.bits) (suc k) false
  source-says (sources.Input s) fits =
      let low = ltb-true s.0 b.given fits in
      let e = base.given in
      let many = t.one_per_given in
      before s.0 (omega arith) ∙ get_or_append_left t.event (t.boot ∷ t.bits) false s.0 (omega arith)
  source-says (sources.Wire v) fits = c.says v.0 (ltb-true v.0 (length wires) fits)
  source-says (sources.Row r) fits = a.says t c r (ltb-true r (length rs) fits)

  pub row-says : (r : Row) → IsTrue (row_fits (bounds_of b (length wires) (length rs)) r)
      → op_value (value_in (values_of d (start_of g t))) (row_op b wires rs r) ≡ row_value (surroundings g t) (rows_in g w t) r
  row-says (rows.Not x) fits = ap not (source-says x fits)
  row-says (rows.And x y) fits =
      let B = bounds_of b (length wires) (length rs) in
      let p = and_parts (source_fits B x) (source_fits B y) fits in
      let u = source-says x p.0 in
      let v = source-says y p.1 in
      λ i. u i && v i
  row-says (rows.Or x y) fits =
      let B = bounds_of b (length wires) (length rs) in
      let p = and_parts (source_fits B x) (source_fits B y) fits in
      let u = source-says x p.0 in
      let v = source-says y p.1 in
      λ i. u i || v i

module _ (g : Graph) (w : Words) (b : Base) (wires rs : List NetId) (d : Growing) (ready : IsReady g w b wires rs d) where
  pub source-low : (s : Source) → IsTrue (source_fits (bounds_of b (length wires) (length rs)) s) → (source_net b wires rs s).0 < next_number d
  source-low (sources.Const true) fits = ready.base.yes.low
  source-low (sources.Const false) fits = ready.base.no.low
  source-low (sources.Leaf k) fits =
      let low = ltb-true k b.leaves fits in
      let e = ready.base.given in
      let l = ready.base.leaves in
      let f = ready.base.first in
      omega arith
  source-low (sources.Input s) fits =
      let low = ltb-true s.0 b.given fits in
      let e = ready.base.given in
      let f = ready.base.first in
      omega arith
  source-low (sources.Wire v) fits = ready.wire_nets v.0 (record { 0 = 0 }) (ltb-true v.0 (length wires) fits)
  source-low (sources.Row r) fits = ready.row_nets.nets r (record { 0 = 0 }) (ltb-true r (length rs) fits)

  row-low : (r : Row) → IsTrue (row_fits (bounds_of b (length wires) (length rs)) r) → operand_end (row_op b wires rs r) ≤ next_number d
  row-low (rows.Not x) fits = let l = source-low x fits in omega arith
  row-low (rows.And x y) fits =
      let B = bounds_of b (length wires) (length rs) in
      let p = and_parts (source_fits B x) (source_fits B y) fits in
      let u = source-low x p.0 in
      let v = source-low y p.1 in
      omega arith
  row-low (rows.Or x y) fits =
      let B = bounds_of b (length wires) (length rs) in
      let p = and_parts (source_fits B x) (source_fits B y) fits in
      let u = source-low x p.0 in
      let v = source-low y p.1 in
      omega arith

  -- one more row
  pub row-step : (new : Growing) (row : Row) (op : Op) (net : NetId) → length rs < length w.rows.items → row ≡ slice_index_or w.rows.items (length rs) row
      → IsTrue (row_fits (bounds_of b (length wires) (length rs)) row) → op ≡ row_op b wires rs row
      → Pushed d new op → net.0 ≡ next_number d → next_number d < 2 ^ 32
      → IsReady g w b wires (rs ++ net ∷ []) new × Grows d new 1
  row-step new row op net few is fits made p number room = (
    record {
      words = ready.words;
      base = base-stays g b d new 1 ready.base more;
      wire_nets = nets-stay d new 1 wires more ready.wire_nets;
      row_nets = record {
        nets = λ i x low. ⊎_elim
            (λ (less : i < length rs).
            let at = get_or_append_left rs (net ∷ []) x i less in
            let l = ready.row_nets.nets i x less in
            let m = more.many in
            subst (λ (y : NetId). y.0 < next_number new) (sym at) (omega arith))
            (λ (last : length rs ≤ i).
            let n = length_push rs net in
            let at = get_or_push rs net x i (omega arith) in
            let m = more.many in
            subst (λ (y : NetId). y.0 < next_number new) (sym at) (omega arith))
            (cases_lt i (length rs));
        says = λ t c r low.
            let front = start_of g t in
            let old = carry-before g b wires d new 1 t ready.base ready.wire_nets more c in
            let wide_d : length front ≡ d.first = length-start g t ∙ sym ready.base.first in
            ⊎_elim
            (λ (less : r < length rs).
            ap (λ (y : NetId). value_in (values_of new front) y.0) (get_or_append_left rs (net ∷ []) (record { 0 = 0 }) r less)
            ∙ grows-value d new 1 front (net_at rs r).0 more wide_d (ready.row_nets.nets r (record { 0 = 0 }) less)
            ∙ ready.row_nets.says t old r less)
            (λ (last : length rs ≤ r).
            let n = length_push rs net in
            let same : r ≡ length rs = omega arith in
            ap (λ (y : NetId). value_in (values_of new front) y.0) (get_or_push rs net (record { 0 = 0 }) r (sym same))
            ∙ pushed-new d new op front net.0 p wide_d number
            ∙ ap (op_value (value_in (values_of d front))) made
            ∙ row-says g w b wires rs d ready.base ready.row_nets t old row fits
            ∙ ap (row_value (surroundings g t) (rows_in g w t)) is
            ∙ sym (rows-met (surroundings g t) (late_bounds g) w.rows.items (length rs) row (λ k. refl) (λ j h. ready.words.fit.rows j row h) few)
            ∙ ap (λ k. slice_index_or (rows_in g w t) k false) (sym same))
            (cases_lt r (length rs));
      };
    },
    more,
  )
    where
      more : Grows d new 1
      more = grows-push d d new op 0 (grows-none d ready.base.growing) p
          (subst (λ x. operand_end x ≤ next_number d) (sym made) (row-low row fits)) room

pub rows-begun : (g : Graph) (w : Words) (b : Base) (wires rs : List NetId) (d : Growing) → IsReady g w b wires rs d → RowsAdded g w b d d wires rs (length rs)
rows-begun g w b wires rs d ready = record {
  ready = ready;
  many = refl;
  grew = record { count = 0; grows = grows-none d ready.base.growing };
}

pub rows-more : (g : Graph) (w : Words) (b : Base) (old now new : Growing) (wires rs : List NetId) (k : ℕ) (row : Row) (op : Op) (net : NetId)
    → RowsAdded g w b old now wires rs k → k < length w.rows.items → row ≡ slice_index_or w.rows.items k row
    → IsTrue (row_fits (bounds_of b (length wires) k) row) → op ≡ row_op b wires rs row → Pushed now new op → net.0 ≡ next_number now
    → next_number now < 2 ^ 32 → RowsAdded g w b old new wires (rs ++ net ∷ []) (k + 1)
rows-more g w b old now new wires rs k row op net a few is fits made p number room =
    let many = a.many in
    let low : length rs < length w.rows.items = omega arith in
    let here : row ≡ slice_index_or w.rows.items (length rs) row = is ∙ ap (λ n. slice_index_or w.rows.items n row) (sym many) in
    let fit : IsTrue (row_fits (bounds_of b (length wires) (length rs)) row) = subst (λ n. IsTrue (row_fits (bounds_of b (length wires) n) row)) (sym many)
    fits in
    let s = row-step g w b wires rs now a.ready new row op net low here fit made p number room in
    record {
      ready = s.0;
      many = length_push rs net ∙ ap (λ n. n + 1) many;
      grew = record { count = a.grew.count + 1; grows = grows-both old now new a.grew.count 1 a.grew.grows s.1 };
    }
