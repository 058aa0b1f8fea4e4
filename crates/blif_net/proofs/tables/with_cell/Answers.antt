use Rattle.std.proofs.Common.{◌≡◌, ℕ, ◌+◌, true, false, ◌&&◌, not, Some, length, refl, sym, ap, subst, ◌∙◌, Bool, List, get_or}
use Rattle.net_ir.specs.Gates.{value_in, op_value, gate_values}
use Rattle.net_ir.specs.declared.netlist.Op.TheVariants.{Not}
use Rattle.blif_text.specs.Runs.{cell_fits}
use Rattle.blif_net.specs.Depths.{cell_depth, gate_depths, joined_depth, or_constant}
use Rattle.blif_net.specs.Drawings.{Deepens, Joins, depth_at, said}
use Rattle.blif_net.specs.Sizes.{cell_parts}
use Rattle.blif_net.proofs.DepthLaws.{deepens-as, deepens-none, deepens-then, depth_at-stays, joined-part}
use Rattle.blif_net.proofs.Drawings.{draws-then, said-stays}
use Rattle.blif_net.proofs.GateCounts.{joins-as, joins-more, joins-negated}
use Rattle.blif_net.proofs.tables.with_cell.Goals as goal

pub returns-in_ok-with-in-Zero-clause-draws : goal.returns-in_ok-with-in-Zero-clause-draws
returns-in_ok-with-in-Zero-clause-draws c =
    let first = c.args.first in
    let a = c.args.gates.now.items in
    let b = c.push_gate.new.gates.items in
    let all = c.args.all in
    let opposite = c.in_ok-opposite-in-Zero.opposite in
    let f : List Bool → Bool = λ values. op_value (value_in values) (Not c.args.net) in
    let one = c.in_ok-opposite-in-Zero.ensures.draws in
    draws-then first a b c.both-in-Zero.new.gates.items (Some opposite) (Some c.in_ok-with-in-Zero.with) false true f
    (λ values. said true all values && said true (Some opposite) values)
    (λ values. said true all values && cell_fits c.args.cell (said true (Some c.args.net) values)) one c.in_ok-with-in-Zero.ensures.draws
    (λ given wide.
    let first_part = said-stays first a b (Some opposite) false f one given wide all true c.requires.all in
    let here = one.says given wide in
    let fits : cell_fits c.args.cell (said true (Some c.args.net) (gate_values given a)) ≡ not (value_in (gate_values given a) c.args.net.0) =
    ap (λ cell. cell_fits cell (value_in (gate_values given a) c.args.net.0)) c.in-Zero.is in
    ap (λ x. x && value_in (gate_values given b) opposite.0) first_part
    ∙ ap (λ x. said true all (gate_values given a) && x) (here ∙ sym fits))

pub returns-in_ok-with-in-Zero-clause-joins : goal.returns-in_ok-with-in-Zero-clause-joins
returns-in_ok-with-in-Zero-clause-joins c = λ before parts j.
    let a = length c.args.gates.now.items in
    let b = length c.push_gate.new.gates.items in
    let new = length c.both-in-Zero.new.gates.items in
    let more = joins-as (before + 1) (a + 1) parts (before + 1) b parts c.args.all refl (sym c.in_ok-opposite-in-Zero.ensures.one) refl
    (joins-more before a 1 parts c.args.all j) in
    let joined = c.in_ok-with-in-Zero.ensures.joins (before + 1) parts more in
    subst (λ n. Joins before new (Some c.in_ok-with-in-Zero.with) (parts + n)) (sym (ap cell_parts c.in-Zero.is))
    (joins-negated before new parts c.in_ok-with-in-Zero.with joined)

pub returns-in_ok-with-in-Zero-clause-deep : goal.returns-in_ok-with-in-Zero-clause-deep
returns-in_ok-with-in-Zero-clause-deep c =
    let first = c.args.first in
    let a = c.args.gates.now.items in
    let b = c.push_gate.new.gates.items in
    let all = c.args.all in
    let net = c.args.net in
    let opposite = c.in_ok-opposite-in-Zero.opposite in
    let drawn = c.in_ok-opposite-in-Zero.ensures.draws in
    let one = c.in_ok-opposite-in-Zero.ensures.deep in
    let g = λ (depths : List ℕ). joined_depth (depth_at all depths) (get_or depths opposite.0 0) in
    subst (λ cell. Deepens first a c.both-in-Zero.new.gates.items (Some c.in_ok-with-in-Zero.with)
    (λ depths. cell_depth (depth_at all depths) cell (get_or depths net.0 0))) (sym c.in-Zero.is)
    (deepens-then first a b c.both-in-Zero.new.gates.items (Some opposite) (Some c.in_ok-with-in-Zero.with) _ g
    (λ depths. joined_depth (depth_at all depths) (get_or depths net.0 0 + 1)) one c.in_ok-with-in-Zero.ensures.deep
    (λ given wide.
    ap (λ o. joined_depth o (get_or (gate_depths given b) opposite.0 0)) (depth_at-stays first a b drawn.more drawn.added given wide all c.requires.all)
    ∙ ap (λ d. joined_depth (depth_at all (gate_depths given a)) d) (ap or_constant (one.deep given wide)))
    (λ given wide. joined-part (depth_at all (gate_depths given b)) (get_or (gate_depths given b) opposite.0 0)))

pub returns-in-Any-clause-deep : goal.returns-in-Any-clause-deep
returns-in-Any-clause-deep c =
    let first = c.args.first in
    let gates = c.args.gates.now.items in
    deepens-as first gates gates c.args.all (depth_at c.args.all) _
    (λ depths. ap (λ cell. cell_depth (depth_at c.args.all depths) cell (get_or depths c.args.net.0 0)) (sym c.in-Any.is))
    (deepens-none first gates c.args.all)
