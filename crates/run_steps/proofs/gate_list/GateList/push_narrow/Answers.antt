use Rattle.std.proofs.Common.{map, take, All, sym, ◌∙◌, subst}
use Rattle.std.proofs.lemmas.List.{take-map}
use Rattle.std.proofs.lemmas.List.Elements.{All-append, All-take}
use Rattle.run_steps.specs.Records.{GateFits, widened}
use Rattle.run_steps.proofs.gate_list.GateList.push_narrow.Goals as goal

pub returns-in_err-push-clause-fits : goal.returns-in_err-push-clause-fits
returns-in_err-push-clause-fits c = λ slots old more.
    let gates = c.args.gates.now in
    let i = c.loop-gate.gate-index in
    let front = subst (All (GateFits slots)) (take-map widened i gates) (All-take (GateFits slots) i (map widened gates) more) in
    subst (All (GateFits slots)) (sym (c.in_err-push.ensures.kept ∙ c.loop-gate.invariant))
    (All-append (GateFits slots) c.args.self.now (map widened (take i gates)) old front)
