use Rattle.std.proofs.Common.{◌∙◌, ap, sym, arith}
use Rattle.est_kernel.specs.Plain.{term_of}
use Rattle.grc_list.specs.Places.{Place}
use Rattle.grc_list.specs.PlaceViews.{place_of}
use Rattle.grc_graph.proofs.Exports.{bound_at-past}
use Rattle.grc_list.proofs.Climbing.{place_in, length-body_places, bound_at-place}
use Rattle.grc_list.proofs.places.Places.bound_at.Goals as goal

pub returns-then-at-len : goal.returns-then-at-len
returns-then-at-len c =
    let places = c.args.self.now in
    let body = term_of places.body.now in
    let n = c.args.number.0 in
    let x = c.index.result.now in
    ap (λ (y : Place). y.bound) (place_in place_of places.list.items body n x places.listed (omega arith) c.index.ensures)
    ∙ bound_at-place body n (place_of x) (omega (arith, length-body_places place_of places.list.items body places.listed))

pub returns-else-at-len : goal.returns-else-at-len
returns-else-at-len c =
    let places = c.args.self.now in
    let body = term_of places.body.now in
    sym (bound_at-past body c.args.number.0 (omega (arith, length-body_places place_of places.list.items body places.listed)))
