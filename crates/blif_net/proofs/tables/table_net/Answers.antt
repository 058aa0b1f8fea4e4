use Rattle.std.proofs.Common.{◌≡◌, ℕ, ◌+◌, false, ◌||◌, Some, None, List, length, take, map, refl, sym, ap, subst, ◌∙◌, arith, Bool}
use Rattle.std.specs.List.{list_any, sum_by}
use Rattle.std.proofs.lemmas.List.{take_all}
use Rattle.std.proofs.lemmas.Result.{IfOk-weaker}
use Rattle.net_ir.specs.Gates.{value_in, gate_values, op_value}
use Rattle.net_ir.specs.declared.netlist.Op.TheVariants.{Const}
use Rattle.blif_text.specs.declared.circuit.Cell.{Cell}
use Rattle.blif_text.specs.Plain.{plain_row}
use Rattle.blif_text.specs.Runs.{row_fits}
use Rattle.blif_net.specs.Depths.{gate_depths, or_constant, row_joined, rows_depth}
use Rattle.blif_net.specs.Drawings.{Deepens, Draws, Joins, depth_at, said, read_depths, read_values}
use Rattle.blif_net.specs.Sizes.{if_wide, row_gates, row_nets, table_gates}
use Rattle.blif_net.proofs.DepthLaws.{deepens-then, deepens-whole, depths-stay, row-sofar, rows-next}
use Rattle.blif_net.proofs.Drawings.{draws-then, reads-stay}
use Rattle.blif_net.proofs.GateCounts.{joined-count, joins-as, none-count}
use Rattle.blif_net.proofs.Rows.{mapped-sum, mapped-within, rows-more}
use Rattle.blif_net.proofs.tables.table_net.Goals as goal

pub loop-row-preserved : goal.loop-row-preserved
loop-row-preserved c =
    let first = c.args.first in
    let a = c.args.gates.now.items in
    let b = c.loop-row.gates.items in
    let i = c.loop-row.row-index in
    let rows = c.args.rows.now in
    let reads = c.args.reads.now in
    let any = c.loop-row.any in
    let row = c.row-item.result in
    let some_fits : ℕ → List Bool → Bool =
    λ j values. list_any (λ (cells : List Cell). row_fits cells (read_values reads values)) (map plain_row (take j rows)) in
    let drawn : List Cell → ℕ = λ cells. if_wide (length reads) cells (row_gates cells) in
    let counted : List Cell → ℕ = λ cells. if_wide (length reads) cells 1 in
    let plain = plain_row row in
    let before = length a + sum_by drawn (map plain_row (take i rows)) in
    let count = sum_by counted (map plain_row (take i rows)) in
    let more = mapped-sum row_nets plain_row c.args.rows.now c.loop-row.row-index c.row-item.result (omega arith) c.row-item.is in
    record {
      draws = draws-then first a b c.with_row.new.gates.items any c.in_ok-any.any false false (some_fits i)
          (λ values. said false any values || row_fits row.cells.items (read_values reads values))
          (some_fits (i + 1)) c.loop-row.invariant.draws c.in_ok-any.ensures.draws
          (λ given wide.
          let values = gate_values given a in
          ap (λ x. x || row_fits row.cells.items (read_values reads (gate_values given b))) (c.loop-row.invariant.draws.says given wide)
          ∙ ap (λ l. some_fits i values || row_fits row.cells.items l)
          (reads-stay first a b any false (some_fits i) c.loop-row.invariant.draws given wide reads c.requires.low)
          ∙ sym (rows-more rows (read_values reads values) i row (omega arith) c.row-item.is));
      deep = deepens-then first a b c.with_row.new.gates.items any c.in_ok-any.any
          (λ depths. rows_depth (read_depths reads depths) None (map plain_row (take i rows)))
          (λ depths. row_joined (read_depths reads depths) (depth_at any depths) row.cells.items)
          (λ depths. rows_depth (read_depths reads depths) None (map plain_row (take (i + 1) rows))) c.loop-row.invariant.deep c.in_ok-any.ensures.deep
          (λ given wide.
          let depths = gate_depths given a in
          let made = c.loop-row.invariant.draws in
          ap (λ ds. row_joined ds (depth_at any (gate_depths given b)) row.cells.items)
          (depths-stay first a b made.more made.added given wide reads c.requires.low)
          ∙ ap (λ o. row_joined (read_depths reads depths) o row.cells.items) (c.loop-row.invariant.deep.deep given wide)
          ∙ sym (rows-next (read_depths reads depths) rows i row (omega arith) c.row-item.is))
          (λ given wide. row-sofar (read_depths reads (gate_depths given b)) (depth_at any (gate_depths given b)) row.cells.items);
      joins = joins-as (before + drawn plain) (length c.with_row.new.gates.items) (count + counted plain)
          (length a + sum_by drawn (map plain_row (take (i + 1) rows))) (length c.with_row.new.gates.items)
          (sum_by counted (map plain_row (take (i + 1) rows))) c.in_ok-any.any
          (omega (arith, mapped-sum drawn plain_row rows i row (omega arith) c.row-item.is)) refl
          (sym (mapped-sum counted plain_row rows i row (omega arith) c.row-item.is))
          (c.in_ok-any.ensures.joins before count c.loop-row.invariant.joins);
      few = omega (arith, more, c.in_ok-any.ensures.few, c.loop-row.invariant.few);
    }

pub returns-in-None-clause-draws : goal.returns-in-None-clause-draws
returns-in-None-clause-draws c =
    let first = c.args.first in
    let a = c.args.gates.now.items in
    let b = c.loop-row.gates.items in
    let new = c.push_gate.new.gates.items in
    let rows = c.args.rows.now in
    let reads = c.args.reads.now in
    let some_fits : ℕ → List Bool → Bool =
    λ j values. list_any (λ (cells : List Cell). row_fits cells (read_values reads values)) (map plain_row (take j rows)) in
    let f : List Bool → Bool = λ values. list_any (λ (cells : List Cell). row_fits cells (read_values reads values)) (map plain_row rows) in
    let all : take c.loop-row.row-index rows ≡ rows = take_all c.loop-row.row-index rows (omega arith) in
    let none : c.loop-row.any ≡ None = c.in-None.is in
    IfOk-weaker c.push_gate.result (λ n. Draws first b new (Some n) false (λ values. op_value (value_in values) (Const false)))
    (λ n. Draws first a new (Some n) false f)
    (λ n made.
    draws-then first a b new c.loop-row.any (Some n) false false (some_fits c.loop-row.row-index) (λ values. op_value (value_in values) (Const false)) f
    c.loop-row.invariant.draws made
    (λ given wide.
    ap (λ o. said false o (gate_values given b)) (sym none) ∙ c.loop-row.invariant.draws.says given wide
    ∙ ap (λ l. list_any (λ (cells : List Cell). row_fits cells (read_values reads (gate_values given a))) (map plain_row l)) all))
    c.push_gate.ensures.draws

pub with_row-requires-clause-room : goal.with_row-requires-clause-room
with_row-requires-clause-room c =
    let within = mapped-within row_nets plain_row c.args.rows.now c.loop-row.row-index c.row-item.result (omega arith) c.row-item.is in
    omega (arith, within, c.requires.room, c.loop-row.invariant.few)

pub returns-in-Some-clause-count : goal.returns-in-Some-clause-count
returns-in-Some-clause-count c =
    let a = length c.args.gates.now.items in
    let b = length c.loop-row.gates.items in
    let width = length c.args.reads.now in
    let rows = c.args.rows.now in
    let drawn : List Cell → ℕ = λ cells. if_wide width cells (row_gates cells) in
    let counted : List Cell → ℕ = λ cells. if_wide width cells 1 in
    let all : take c.loop-row.row-index rows ≡ rows = take_all c.loop-row.row-index rows (omega arith) in
    let j = subst (λ l. Joins (a + sum_by drawn (map plain_row l)) b c.loop-row.any (sum_by counted (map plain_row l))) all c.loop-row.invariant.joins in
    let some = rw c.in-Some.is at j in
    omega (arith, joined-count (a + sum_by drawn (map plain_row rows)) b (sum_by counted (map plain_row rows)) c.in-Some.net some)

pub returns-in-None-clause-count : goal.returns-in-None-clause-count
returns-in-None-clause-count c =
    let a = length c.args.gates.now.items in
    let b = length c.loop-row.gates.items in
    let width = length c.args.reads.now in
    let rows = c.args.rows.now in
    let drawn : List Cell → ℕ = λ cells. if_wide width cells (row_gates cells) in
    let counted : List Cell → ℕ = λ cells. if_wide width cells 1 in
    let all : take c.loop-row.row-index rows ≡ rows = take_all c.loop-row.row-index rows (omega arith) in
    let j = subst (λ l. Joins (a + sum_by drawn (map plain_row l)) b c.loop-row.any (sum_by counted (map plain_row l))) all c.loop-row.invariant.joins in
    let none = rw c.in-None.is at j in
    let count = none-count (a + sum_by drawn (map plain_row rows)) b (sum_by counted (map plain_row rows)) none in
    IfOk-weaker c.push_gate.result (λ n. length c.push_gate.new.gates.items ≡ b + 1)
    (λ n. length c.push_gate.new.gates.items ≡ a + table_gates width (map plain_row rows)) (λ n one. omega (arith, one, count)) c.push_gate.ensures.one

pub returns-in-Some-clause-deep : goal.returns-in-Some-clause-deep
returns-in-Some-clause-deep c =
    let first = c.args.first in
    let a = c.args.gates.now.items in
    let b = c.loop-row.gates.items in
    let rows = c.args.rows.now in
    let reads = c.args.reads.now in
    let all : take c.loop-row.row-index rows ≡ rows = take_all c.loop-row.row-index rows (omega arith) in
    let f = λ (depths : List ℕ). rows_depth (read_depths reads depths) None (map plain_row rows) in
    let whole = subst (λ l. Deepens first a b c.loop-row.any (λ depths. rows_depth (read_depths reads depths) None (map plain_row l))) all
    c.loop-row.invariant.deep in
    deepens-whole first a b c.in-Some.net f (subst (λ o. Deepens first a b o f) c.in-Some.is whole)

pub returns-in-None-clause-deep : goal.returns-in-None-clause-deep
returns-in-None-clause-deep c =
    let first = c.args.first in
    let a = c.args.gates.now.items in
    let b = c.loop-row.gates.items in
    let new = c.push_gate.new.gates.items in
    let rows = c.args.rows.now in
    let reads = c.args.reads.now in
    let all : take c.loop-row.row-index rows ≡ rows = take_all c.loop-row.row-index rows (omega arith) in
    let f = λ (depths : List ℕ). rows_depth (read_depths reads depths) None (map plain_row rows) in
    let whole = subst (λ l. Deepens first a b c.loop-row.any (λ depths. rows_depth (read_depths reads depths) None (map plain_row l))) all
    c.loop-row.invariant.deep in
    let one = subst (λ o. Deepens first a b o f) c.in-None.is whole in
    IfOk-weaker c.push_gate.result (λ n. Deepens first b new (Some n) (λ depths. Some 0))
    (λ n. Deepens first a new (Some n) (λ depths. Some (or_constant (f depths))))
    (λ n two. deepens-then first a b new None (Some n) f (λ depths. Some 0) (λ depths. Some (or_constant (f depths))) one two
    (λ given wide. ap (λ o. Some (or_constant o)) (one.deep given wide))
    (λ given wide. omega arith))
    c.push_gate.ensures.deep
