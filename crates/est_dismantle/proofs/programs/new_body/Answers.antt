use Rattle.std.proofs.Common.{◌≡◌, length, map, refl, ap, arith}
use Rattle.std.proofs.lemmas.List.{length-map}
use Rattle.est_ast.specs.FlatViews.{flat_of}
use Rattle.est_dismantle.specs.Boxes.{boxed_term}
use Rattle.est_dismantle.proofs.Exits.{traps-Whole}
use Rattle.est_dismantle.proofs.WholePrograms.{body-fits, body-made, new-counted}
use Rattle.est_dismantle.proofs.programs.new_body.Goals as goal

pub expand-requires-clause-room : goal.expand-requires-clause-room
expand-requires-clause-room c =
    let fits = body-fits (flat_of c.args.flat.now) c.args.flat.now.body _ refl c.requires in
    omega (arith, fits.1, ap length traps-Whole)

pub expand-requires-clause-numbers : goal.expand-requires-clause-numbers
expand-requires-clause-numbers c =
    let fits = body-fits (flat_of c.args.flat.now) c.args.flat.now.body _ refl c.requires in
    omega (arith, fits.0, c.args.flat.now.few, c.len-count.ensures)

pub returns-clause-term : goal.returns-clause-term
returns-clause-term c =
    let code = c.args.flat.now in let first = c.len-count.result in
    let same : first ≡ length (map (λ s. s.name) code.signals.items) =
    omega (arith, length-map code.signals.items (λ s. s.name), c.len-count.ensures) in
    body-made (flat_of code) code.body _ first (boxed_term c.in_ok-term.term) refl c.in_ok-term.ensures.term traps-Whole same

pub returns-clause-signals : goal.returns-clause-signals
returns-clause-signals c = new-counted c.args.flat.now.body c.len-count.result c.expand.new.next c.in_ok-term.ensures.next
