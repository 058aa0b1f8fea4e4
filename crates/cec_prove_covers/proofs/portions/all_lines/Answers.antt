use Rattle.std.specs.Prelude.{option_map, true}
use Rattle.std.proofs.Common.{◌≡◌, length, subst, sym, arith}
use Rattle.est_ast.specs.FlatViews.{flat_of}
use Rattle.cec_prove_covers.specs.Portions.{HasLines}
use Rattle.cec_prove_covers.specs.Stages.{IsCoveringPart}
use Rattle.cec_prove_covers.proofs.CoveringLines.{part-none}
use Rattle.cec_prove_covers.proofs.portions.all_lines.Goals as goal

pub loop-number-init : goal.loop-number-init
loop-number-init g c =
    let asked = c.args.asked.now in
    let assumed = option_map (λ n. n.now) asked.assumed in
    subst (λ t. IsCoveringPart asked.source.now (flat_of asked.flat.now) assumed asked.points.now 0 t true) (sym c.new.ensures.items)
    (part-none asked.source.now (flat_of asked.flat.now) assumed asked.points.now)

pub returns : goal.returns
returns g c =
    let all : c.loop-number.number ≡ length c.args.asked.now.points.now = omega (arith, c.loop-number.invariant.low) in
    subst (λ n. HasLines c.args.asked.now n c.loop-number.lines) all c.loop-number.invariant
