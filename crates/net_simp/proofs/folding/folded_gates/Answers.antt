use Rattle.std.proofs.Common.{◌≡◌, ◌+◌, ◌<◌, ◌≤◌, false, None, List, [], length, slice_index_or, subst, sym, refl, ap, arith, take, drop}
use Rattle.std.proofs.lemmas.List.{take_more, take_all, length-take-le}
use Rattle.net_ir.specs.declared.netlist.Gate.{Gate}
use Rattle.net_ir.specs.declared.netlist.Op.TheVariants.{Const}
use Rattle.net_ir.specs.Gates.{operand_end}
use Rattle.net_simp.specs.Renaming.{stand_in, renamed_op}
use Rattle.net_simp.specs.Rules.{reduced_op}
use Rattle.net_simp.specs.Drafts.{Drafted, Folded, form_in, found_op}
use Rattle.net_simp.proofs.Drafting.{drafted-next, drafted-start, nothing-in, in-range, folded}
use Rattle.net_simp.proofs.folding.folded_gates.Goals as goal

pub loop-gate-init : goal.loop-gate-init
loop-gate-init c =
    subst (λ gates. Drafted c.args.first [] gates c.in_ok-names.names.items (form_in c.new-2.result)) (sym c.new.ensures.items)
    (drafted-start c.args.first c.in_ok-names.names.items (form_in c.new-2.result) c.in_ok-names.ensures.count c.in_ok-names.ensures.own
    (λ q. nothing-in c.new-2.result c.new-2.ensures.empty q))

pub loop-gate-preserved : goal.loop-gate-preserved
loop-gate-preserved c =
    let gates = c.args.gates.now in
    let k = c.loop-gate.gate-index in
    let d : Gate = record { op = Const false; wire = None } in
    let g : Gate = slice_index_or gates k d in
    let here : k < length gates = c.loop-gate-test.true in
    let many = length-take-le k gates (omega arith) in
    let new = c.loop-gate.draft.gates.items in
    let names = c.loop-gate.draft.names.items in
    let known = form_in c.loop-gate.draft.known in
    let low : operand_end g.op ≤ length names =
    omega (arith, many, c.loop-gate.invariant.count, c.requires.reads_lower k d here) in
    drafted-next c.args.first k gates new c.add.new.self.gates.items names c.add.new.self.names.items known (form_in c.add.new.self.known) g
    (found_op known (reduced_op c.args.first new (renamed_op (stand_in names) g.op)))
    c.loop-gate.invariant (take_more gates k d here) low refl c.in_ok-add.ensures.gates c.in_ok-add.ensures.names c.in_ok-add.ensures.known

pub add-requires-clause-in_range : goal.add-requires-clause-in_range
add-requires-clause-in_range c =
    in-range c.args.first (take c.loop-gate.gate-index c.args.gates.now) c.loop-gate.draft.gates.items c.loop-gate.draft.names.items
    (form_in c.loop-gate.draft.known) c.loop-gate.invariant

pub returns : goal.returns
returns c =
    let all = take_all c.loop-gate.gate-index c.args.gates.now (omega arith) in
    subst (λ old. Folded c.args.first old c.loop-gate.draft.gates.items c.loop-gate.draft.names.items) all
    (folded c.args.first (take c.loop-gate.gate-index c.args.gates.now) c.loop-gate.draft.gates.items c.loop-gate.draft.names.items
    (form_in c.loop-gate.draft.known) c.loop-gate.invariant)
