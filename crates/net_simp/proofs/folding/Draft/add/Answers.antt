use Rattle.std.proofs.Common.{◌≡◌, ◌+◌, ◌≤◌, length, subst, sym, ap, ◌∙◌}
use Rattle.net_ir.specs.Gates.{operand_end}
use Rattle.net_simp.specs.Renaming.{stand_in, renamed_op}
use Rattle.net_simp.specs.Rules.{reduced_op}
use Rattle.net_simp.specs.Drafts.{form_in, found_op}
use Rattle.net_simp.proofs.Drafting.{renamed-end, found-end}
use Rattle.net_simp.proofs.folding.Draft.add.Goals as goal

pub reduced_op-requires : goal.reduced_op-requires
reduced_op-requires c =
    let d = c.args.self.now in
    let made = c.renamed_op.ensures ∙ ap (λ ns. renamed_op (stand_in ns) c.args.gate.op) c.deref-2.ensures.value in
    subst (λ op. operand_end op ≤ c.args.first + length c.deref.result.now) (sym made)
    (subst (λ gates. operand_end (renamed_op (stand_in d.names.items) c.args.gate.op) ≤ c.args.first + length gates) (sym c.deref.ensures.value)
    (renamed-end c.args.first d.gates.items d.names.items (form_in d.known) c.args.gate.op c.requires.in_range c.requires.low))

pub put-requires-clause-low : goal.put-requires-clause-low
put-requires-clause-low c =
    let d = c.args.self.now in
    let made = c.renamed_op.ensures ∙ ap (λ ns. renamed_op (stand_in ns) c.args.gate.op) c.deref-2.ensures.value in
    let is = c.found_op-op.ensures ∙ ap (found_op (form_in d.known)) (c.reduced_op.ensures
    ∙ ap (λ gates. reduced_op c.args.first gates c.renamed_op.result) c.deref.ensures.value
    ∙ ap (reduced_op c.args.first d.gates.items) made) in
    subst (λ op. operand_end op ≤ c.args.first + length d.gates.items) (sym is)
    (found-end c.args.first d.gates.items d.names.items (form_in d.known) c.args.gate.op c.requires.in_range c.requires.low)
