use Rattle.std.proofs.Common.{◌≡◌, ℕ, List, false, subst}
use Rattle.std.specs.Prelude.{IfSome}
use Rattle.net_ir.specs.NameLists.{is_among}
use Rattle.cec_prove_sources.specs.Verdicts.{HasPlace}
use Rattle.cec_prove_sources.proofs.places.place_of.Goals as goal

pub returns-clause-found : goal.returns-clause-found
returns-clause-found c =
    subst (λ (n : List (List ℕ)). IfSome c.output_place.result (HasPlace n c.args.name.now)) c.requires.keeps.outputs c.output_place.ensures.found

pub returns-clause-none : goal.returns-clause-none
returns-clause-none c = λ none.
    subst (λ (n : List (List ℕ)). is_among c.args.name.now n ≡ false) c.requires.keeps.outputs (c.output_place.ensures.none none)
