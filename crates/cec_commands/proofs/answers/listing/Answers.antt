use Rattle.std.proofs.lemmas.Result.{IfErr-weaker, IfOk-at_ok, IfOk-weaker}
use Rattle.cec_compile.proofs.Exports.{own_graph}
use Rattle.cec_commands.proofs.Listings.{listing_stands}
use Rattle.cec_commands.proofs.answers.listing.Goals as goal

pub list-requires : goal.list-requires
list-requires c =
    let s = c.in-Ok.ensures.compiles in
    (own_graph c.in-Ok.found s.program s.graphed).graph

pub returns-in-Ok-clause-text : goal.returns-in-Ok-clause-text
returns-in-Ok-clause-text c = IfOk-weaker c.text_made.result _ _
    (λ text is. listing_stands _ _ c.in-Ok.found text.items c.in-Ok.ensures.compiles (IfOk-at_ok _ is c.list.ensures)) c.text_made.ensures.text

pub returns-in-Ok-clause-refuses : goal.returns-in-Ok-clause-refuses
returns-in-Ok-clause-refuses c = IfErr-weaker c.text_made.result _ _ (λ r is. rw is tt) c.text_made.ensures.refuses
