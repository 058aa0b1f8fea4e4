use Rattle.std.proofs.Common.{◌≡◌, ℕ, List, false, ap, subst, map}
use Rattle.std.specs.Prelude.{IfSome}
use Rattle.net_ir.specs.declared.netlist.NetOut.{NetOut}
use Rattle.net_ir.specs.NameLists.{is_among}
use Rattle.cec_prove_sources.specs.Verdicts.{HasPlace}
use Rattle.cec_prove_sources.proofs.places.output_place.Goals as goal

pub returns-clause-found : goal.returns-clause-found
returns-clause-found c =
    let names = ap (map (λ (o : NetOut). o.name)) c.deref.ensures.value in
    subst (λ (n : List (List ℕ)). IfSome c.place_among.result (HasPlace n c.args.name.now)) names c.place_among.ensures.found

pub returns-clause-none : goal.returns-clause-none
returns-clause-none c = λ none.
    let names = ap (map (λ (o : NetOut). o.name)) c.deref.ensures.value in
    subst (λ (n : List (List ℕ)). is_among c.args.name.now n ≡ false) names (c.place_among.ensures.none none)
