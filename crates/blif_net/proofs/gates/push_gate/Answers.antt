use Rattle.std.proofs.Common.{rules, ◌≡◌, ℕ, ◌+◌, Some, false, List, length, subst, sym, ap, Bool, slice_index_or}
use Rattle.base_types.specs.declared.indices.NetId.{NetId}
use Rattle.net_ir.specs.declared.netlist.Gate.{Gate}
use Rattle.net_ir.specs.Gates.{op_value, value_in}
use Rattle.blif_net.specs.Depths.{op_depth}
use Rattle.blif_net.specs.Drawings.{Deepens, Draws}
use Rattle.blif_net.proofs.DepthLaws.{deepens-push}
use Rattle.blif_net.proofs.Drawings.{draws-push}
use Rattle.blif_net.proofs.gates.push_gate.Goals as goal

pub returns-clause-draws : goal.returns-clause-draws
returns-clause-draws c =
    let first = c.args.first in
    let old = c.args.gates.now.items in
    let f : List Bool → Bool = λ values. op_value (value_in values) c.args.op in
    let count : c.len.result ≡ length old = search rules in
    let number : ℕ → NetId = λ k. record { 0 = first + k } in
    subst (λ (n : NetId). Draws first old c.push.new.self.items (Some n) false f) (ap number (sym count))
    (subst (λ (gates : List Gate). Draws first old gates (Some (record { 0 = first + length old })) false f) (sym c.in_ok-push.ensures.items)
    (draws-push first old c.args.op c.requires.drawing c.requires.low c.requires.room))

pub returns-clause-deep : goal.returns-clause-deep
returns-clause-deep c =
    let first = c.args.first in
    let old = c.args.gates.now.items in
    let f = λ (depths : List ℕ). Some (op_depth (λ k. slice_index_or depths k 0) c.args.op) in
    let count : c.len.result ≡ length old = search rules in
    let number : ℕ → NetId = λ k. record { 0 = first + k } in
    subst (λ (n : NetId). Deepens first old c.push.new.self.items (Some n) f) (ap number (sym count))
    (subst (λ (gates : List Gate). Deepens first old gates (Some (record { 0 = first + length old })) f) (sym c.in_ok-push.ensures.items)
    (deepens-push first old c.args.op))
