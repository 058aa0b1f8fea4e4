use Rattle.std.proofs.Common.{◌≡◌, map, rules, subst, tests}
use Rattle.std.specs.Prelude.{IfOk}
use Rattle.std.proofs.lemmas.Iterator.Consumers.{map_from_collect}
use Rattle.std.proofs.lemmas.Iterator.Splits.{YieldsList-from_slice_split}
use Rattle.cec_opt_texts.specs.Related.{names_between_commas}
use Rattle.cec_opt_texts.proofs.relations.names_between_commas.Goals as goal

pub returns : goal.returns
returns c =
    subst (λ r. IfOk r (λ list. map (λ name. name.now) list.items ≡ names_between_commas c.args.names.now)) c.in_ok-list.was
    (map_from_collect _ c.collect.ensures.ran
    (YieldsList-from_slice_split _ _ c.args.names.now c.split.ensures.rest c.split.ensures.done c.split.ensures.closure (λ x r q k. search (rules, tests))))
