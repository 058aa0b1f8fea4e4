use Rattle.std.proofs.Common.{map, All, sym, subst}
use Rattle.std.proofs.lemmas.List.Elements.{All-map}
use Rattle.run_steps.specs.Records.{GateFits, widened}
use Rattle.run_steps.proofs.GateParts.{front-fits, behind-fits}
use Rattle.run_steps.proofs.gate_list.GateList.append.Goals as goal

pub returns-in_err-push_narrow-clause-fits : goal.returns-in_err-push_narrow-clause-fits
returns-in_err-push_narrow-clause-fits c = λ slots old more.
    let narrow = c.others.inside.narrow.items in
    let parts = subst (All (GateFits slots)) (sym c.others.view_is) more in
    let front = All-map (GateFits slots) widened narrow (front-fits slots narrow c.others.inside.wide.items parts) in
    c.push_narrow.ensures.fits slots old (subst (λ l. All (GateFits slots) (map widened l)) (sym c.deref.ensures.value) front)

pub returns-clause-fits : goal.returns-clause-fits
returns-clause-fits c = λ slots old more.
    let narrow = c.others.inside.narrow.items in
    let parts = subst (All (GateFits slots)) (sym c.others.view_is) more in
    let front = All-map (GateFits slots) widened narrow (front-fits slots narrow c.others.inside.wide.items parts) in
    let behind = behind-fits slots narrow c.others.inside.wide.items parts in
    c.push_wide.ensures.fits slots
    (c.push_narrow.ensures.fits slots old (subst (λ l. All (GateFits slots) (map widened l)) (sym c.deref.ensures.value) front))
    (subst (All (GateFits slots)) (sym c.deref-2.ensures.value) behind)
