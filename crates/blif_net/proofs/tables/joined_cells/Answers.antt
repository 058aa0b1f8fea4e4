use Rattle.std.proofs.Common.{◌≡◌, ◌+◌, true, false, ◌&&◌, None, Some, length, take, get_or, slice_index_or, refl, sym, ap, subst, ◌∙◌, arith, Bool, List}
use Rattle.std.specs.List.{sum_by}
use Rattle.std.proofs.lemmas.List.{get_or-map, length-map, take_all}
use Rattle.std.proofs.lemmas.List.Sums.{sum_by_more}
use Rattle.base_types.specs.declared.indices.NetId.{NetId}
use Rattle.net_ir.specs.Gates.{value_in, gate_values}
use Rattle.blif_text.specs.declared.circuit.Cell.{Cell}
use Rattle.blif_text.specs.Runs.{cell_fits, row_fits}
use Rattle.blif_net.specs.Depths.{cell_depth, cells_depth, gate_depths}
use Rattle.blif_net.specs.Drawings.{Joins, depth_at, said, read_depths, read_values}
use Rattle.blif_net.specs.Sizes.{cell_parts}
use Rattle.blif_net.proofs.DepthLaws.{cell-sofar, cells-more, deepens-as, deepens-none, deepens-then, depth-stays}
use Rattle.blif_net.proofs.Drawings.{draws-none, draws-then, draws-value, value-stays}
use Rattle.blif_net.proofs.Rows.{row-more}
use Rattle.blif_net.proofs.tables.joined_cells.Goals as goal

pub loop-k-preserved : goal.loop-k-preserved
loop-k-preserved c =
    let first = c.args.first in
    let a = c.args.gates.now.items in
    let b = c.loop-k.gates.items in
    let k = c.loop-k.k in
    let cells = c.args.cells.now in
    let reads = c.args.reads.now in
    let all = c.loop-k.all in
    let zero : Cell = Cell.Zero in
    let none : NetId = record { 0 = 0 } in
    let cell = slice_index_or cells k zero in
    let net = slice_index_or reads k none in
    let f : List Bool → Bool = λ values. row_fits (take k cells) (take k (read_values reads values)) in
    record {
      draws = draws-then first a b c.with_cell.new.gates.items all c.in_ok-all.all true true f
          (λ values. said true all values && cell_fits cell (said true (Some net) values))
          (λ values. row_fits (take (k + 1) cells) (take (k + 1) (read_values reads values))) c.loop-k.invariant.draws c.in_ok-all.ensures.draws
          (λ given wide.
          let values = gate_values given a in
          let low = c.requires.low k none (omega (arith, c.requires.width)) in
          let here : value_in (gate_values given b) net.0 ≡ get_or (read_values reads values) k false =
          value-stays first a b all true f c.loop-k.invariant.draws given wide net.0 low
          ∙ sym (get_or-map (λ (n : NetId). value_in values n.0) reads k none false (omega (arith, c.requires.width))) in
          ap (λ x. x && cell_fits cell (value_in (gate_values given b) net.0)) (c.loop-k.invariant.draws.says given wide)
          ∙ ap (λ x. row_fits (take k cells) (take k (read_values reads values)) && cell_fits cell x) here
          ∙ sym (row-more cells (read_values reads values) k zero (omega arith)
          (c.requires.width ∙ sym (length-map reads (λ (n : NetId). value_in values n.0)))));
      deep = deepens-then first a b c.with_cell.new.gates.items all c.in_ok-all.all
          (λ depths. cells_depth None (take k cells) (take k (read_depths reads depths)))
          (λ depths. cell_depth (depth_at all depths) cell (get_or depths net.0 0))
          (λ depths. cells_depth None (take (k + 1) cells) (take (k + 1) (read_depths reads depths))) c.loop-k.invariant.deep c.in_ok-all.ensures.deep
          (λ given wide.
          let depths = gate_depths given a in
          let drawn = c.loop-k.invariant.draws in
          let low = c.requires.low k none (omega (arith, c.requires.width)) in
          let here : get_or (gate_depths given b) net.0 0 ≡ get_or (read_depths reads depths) k 0 =
          depth-stays first a b drawn.more drawn.added given wide net.0 low
          ∙ sym (get_or-map (λ (n : NetId). get_or depths n.0 0) reads k none 0 (omega (arith, c.requires.width))) in
          ap (λ o. cell_depth o cell (get_or (gate_depths given b) net.0 0)) (c.loop-k.invariant.deep.deep given wide)
          ∙ ap (λ d. cell_depth (cells_depth None (take k cells) (take k (read_depths reads depths))) cell d) here
          ∙ sym (cells-more cells (read_depths reads depths) k zero (omega arith)
          (c.requires.width ∙ sym (length-map reads (λ (n : NetId). get_or depths n.0 0)))))
          (λ given wide. cell-sofar (depth_at all (gate_depths given b)) cell (get_or (gate_depths given b) net.0 0));
      joins = subst (λ n. Joins (length a) (length c.with_cell.new.gates.items) c.in_ok-all.all n)
          (sym (sum_by_more cell_parts cells k zero (omega arith)))
          (c.in_ok-all.ensures.joins (length a) (sum_by cell_parts (take k cells)) c.loop-k.invariant.joins);
      few = omega (arith, c.in_ok-all.ensures.few, c.loop-k.invariant.few);
    }

pub returns-clause-joins : goal.returns-clause-joins
returns-clause-joins c =
    subst (λ l. Joins (length c.args.gates.now.items) (length c.loop-k.gates.items) c.loop-k.all (sum_by cell_parts l))
    (take_all c.loop-k.k c.args.cells.now (omega arith)) c.loop-k.invariant.joins

pub loop-k-init : goal.loop-k-init
loop-k-init c = record {
  draws = draws-value c.args.first c.args.gates.now.items c.args.gates.now.items None true (said true None) _ (λ values. refl)
      (draws-none c.args.first c.args.gates.now.items None true c.requires.drawing tt);
  deep = deepens-as c.args.first c.args.gates.now.items c.args.gates.now.items None (depth_at None) _ (λ depths. refl)
      (deepens-none c.args.first c.args.gates.now.items None);
  joins = (refl, refl);
  few = omega arith;
}

pub returns-clause-deep : goal.returns-clause-deep
returns-clause-deep c =
    let cells = c.args.cells.now in
    let reads = c.args.reads.now in
    let k = c.loop-k.k in
    deepens-as c.args.first c.args.gates.now.items c.loop-k.gates.items c.loop-k.all _
    (λ depths. cells_depth None cells (read_depths reads depths))
    (λ depths. ap (λ cs. cells_depth None cs (take k (read_depths reads depths))) (take_all k cells (omega arith))
    ∙ ap (λ ds. cells_depth None cells ds)
    (take_all k (read_depths reads depths) (omega (arith, c.requires.width, length-map reads (λ (n : NetId). get_or depths n.0 0)))))
    c.loop-k.invariant.deep
