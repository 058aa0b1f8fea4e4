use Rattle.std.proofs.Common.{arith}
use Rattle.est_kernel.specs.Plain.{term_of}
use Rattle.est_kernel.proofs.Exports.{statement_count-pos}
use Rattle.grc_list.specs.PlaceViews.{place_of}
use Rattle.grc_graph.proofs.Exports.{path_at-past}
use Rattle.grc_list.proofs.Climbing.{length-body_places}
use Rattle.grc_list.proofs.places.Places.known.Goals as goal

pub returns-else-at-len-clause-within : goal.returns-else-at-len-clause-within
returns-else-at-len-clause-within c =
    let places = c.args.self.now in
    omega (arith, length-body_places place_of places.list.items (term_of places.body.now) places.listed, statement_count-pos (term_of places.body.now))

pub returns-else-at-len-clause-path : goal.returns-else-at-len-clause-path
returns-else-at-len-clause-path c =
    let places = c.args.self.now in
    path_at-past (term_of places.body.now) c.args.number.0
    (omega (arith, length-body_places place_of places.list.items (term_of places.body.now) places.listed))
