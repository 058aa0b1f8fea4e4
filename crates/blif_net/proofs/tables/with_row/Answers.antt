use Rattle.std.proofs.Common.{◌≡◌, ◌+◌, ◌==◌, true, false, ◌||◌, if◌then◌else◌, Some, length, refl, sym, ap, ◌∙◌, arith, Bool, List, get_or}
use Rattle.std.proofs.lemmas.Bool.{eq-eqb, ne_eqb}
use Rattle.std.proofs.lemmas.List.{length-map}
use Rattle.base_facts.proofs.Tests.{or-false}
use Rattle.base_types.specs.declared.indices.NetId.{NetId}
use Rattle.net_ir.specs.Gates.{value_in, gate_values}
use Rattle.blif_text.specs.Runs.{row_fits}
use Rattle.blif_net.specs.Depths.{gate_depths, joined_depth, or_constant, row_depth, row_joined}
use Rattle.blif_net.specs.Drawings.{depth_at, said, read_depths, read_values}
use Rattle.blif_net.specs.Sizes.{if_wide, row_gates}
use Rattle.blif_net.proofs.DepthLaws.{deepens-as, deepens-none, deepens-then, depth_at-stays, joined-part}
use Rattle.blif_net.proofs.Drawings.{draws-then, draws-none, draws-value, said-stays}
use Rattle.blif_net.proofs.GateCounts.{joins-as, joins-more, wide-all}
use Rattle.blif_net.proofs.Rows.{row-wide}
use Rattle.blif_net.proofs.tables.with_row.Goals as goal

pub returns-then-len-reads-clause-draws : goal.returns-then-len-reads-clause-draws
returns-then-len-reads-clause-draws c =
    let first = c.args.first in
    let a = c.args.gates.now.items in
    let any = c.args.any in
    let cells = c.args.row.now.cells.items in
    let reads = c.args.reads.now in
    draws-value first a a any false (said false any) (λ values. said false any values || row_fits cells (read_values reads values))
    (λ values.
    let other : row_fits cells (read_values reads values) ≡ false =
    row-wide cells (read_values reads values)
    (λ e. absurd (c.if-len-reads.true (omega (arith, e, c.len.ensures, length-map reads (λ (n : NetId). value_in values n.0))))) in
    sym (ap (λ x. said false any values || x) other ∙ or-false (said false any values)))
    (draws-none first a any false c.requires.drawing c.requires.any)

pub returns-clause-draws : goal.returns-clause-draws
returns-clause-draws c =
    let first = c.args.first in
    let a = c.args.gates.now.items in
    let b = c.row_net.new.gates.items in
    let any = c.args.any in
    let cells = c.args.row.now.cells.items in
    let reads = c.args.reads.now in
    let net = c.in_ok-net.net in
    let f : List Bool → Bool = λ values. row_fits cells (read_values reads values) in
    let one = rw c.deref.ensures.value at c.in_ok-net.ensures.draws in
    draws-then first a b c.either.new.gates.items (Some net) (Some c.in_ok-with.with) true false f
    (λ values. said false any values || said false (Some net) values)
    (λ values. said false any values || row_fits cells (read_values reads values)) one c.in_ok-with.ensures.draws
    (λ given wide.
    ap (λ x. x || value_in (gate_values given b) net.0) (said-stays first a b (Some net) true f one given wide any false c.requires.any)
    ∙ ap (λ x. said false any (gate_values given a) || x) (one.says given wide))

pub returns-clause-joins : goal.returns-clause-joins
returns-clause-joins c = λ before count j.
    let cells = c.args.row.now.cells.items in
    let width = length c.args.reads.now in
    let same : length cells ≡ width = omega (arith, c.if-len-reads.false, c.len.ensures) in
    let k = row_gates cells in
    let drawn : length c.row_net.new.gates.items ≡ length c.args.gates.now.items + k = rw c.deref.ensures.value at c.in_ok-net.ensures.count in
    let more = joins-as (before + k) (length c.args.gates.now.items + k) count (before + k) (length c.row_net.new.gates.items) count c.args.any refl
    (sym drawn) refl (joins-more before (length c.args.gates.now.items) k count c.args.any j) in
    joins-as (before + k) (length c.either.new.gates.items) (count + 1) (before + if_wide width cells k) (length c.either.new.gates.items)
    (count + if_wide width cells 1) (Some c.in_ok-with.with) (ap (λ n. before + n) (sym (wide-all width k cells same))) refl
    (ap (λ n. count + n) (sym (wide-all width 1 cells same))) (c.in_ok-with.ensures.joins (before + k) count more)

pub returns-then-len-reads-clause-deep : goal.returns-then-len-reads-clause-deep
returns-then-len-reads-clause-deep c =
    let first = c.args.first in
    let a = c.args.gates.now.items in
    let any = c.args.any in
    let cells = c.args.row.now.cells.items in
    let reads = c.args.reads.now in
    deepens-as first a a any (depth_at any) (λ depths. row_joined (read_depths reads depths) (depth_at any depths) cells)
    (λ depths.
    let other : (length cells == length (read_depths reads depths)) ≡ false =
    ne_eqb (length cells) (length (read_depths reads depths))
    (λ e. absurd (c.if-len-reads.true (omega (arith, e, c.len.ensures, length-map reads (λ (n : NetId). get_or depths n.0 0))))) in
    sym (ap (λ b. if b then joined_depth (depth_at any depths) (row_depth cells (read_depths reads depths)) else depth_at any depths) other))
    (deepens-none first a any)

pub returns-clause-deep : goal.returns-clause-deep
returns-clause-deep c =
    let first = c.args.first in
    let a = c.args.gates.now.items in
    let b = c.row_net.new.gates.items in
    let any = c.args.any in
    let cells = c.args.row.now.cells.items in
    let reads = c.args.reads.now in
    let net = c.in_ok-net.net in
    let drawn = c.in_ok-net.ensures.draws in
    let one = rw c.deref.ensures.value at c.in_ok-net.ensures.deep in
    let same : length cells ≡ length reads = omega (arith, c.if-len-reads.false, c.len.ensures) in
    deepens-then first a b c.either.new.gates.items (Some net) (Some c.in_ok-with.with) (λ depths. Some (row_depth cells (read_depths reads depths)))
    (λ depths. joined_depth (depth_at any depths) (get_or depths net.0 0))
    (λ depths. row_joined (read_depths reads depths) (depth_at any depths) cells) one c.in_ok-with.ensures.deep
    (λ given wide.
    let depths = gate_depths given a in
    let own = row_depth cells (read_depths reads depths) in
    ap (λ o. joined_depth o (get_or (gate_depths given b) net.0 0)) (depth_at-stays first a b drawn.more drawn.added given wide any c.requires.any)
    ∙ ap (λ d. joined_depth (depth_at any depths) d) (ap or_constant (one.deep given wide))
    ∙ sym (ap (λ b. if b then joined_depth (depth_at any depths) own else depth_at any depths)
    (eq-eqb (length cells) (length (read_depths reads depths)) (same ∙ sym (length-map reads (λ (n : NetId). get_or depths n.0 0))))))
    (λ given wide. joined-part (depth_at any (gate_depths given b)) (get_or (gate_depths given b) net.0 0))
