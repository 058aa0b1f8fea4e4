use Rattle.std.proofs.Common.{sym, ◌∙◌}
use Rattle.blif_net.proofs.Words.{marked-named, marked-nameless}
use Rattle.blif_net.proofs.interface.has_name.Goals as goal

pub returns-in-Some-clause-named : goal.returns-in-Some-clause-named
returns-in-Some-clause-named c = λ yes.
    marked-named c.args.inputs.now c.in-Some.name.now c.args.word.now c.requires.inputs (sym c.is_input.ensures ∙ yes) c.in-Some.ensures

pub returns-in-Some-clause-nameless : goal.returns-in-Some-clause-nameless
returns-in-Some-clause-nameless c = λ no.
    marked-nameless c.args.inputs.now c.in-Some.name.now c.args.word.now (sym c.is_input.ensures ∙ no) c.in-Some.ensures
