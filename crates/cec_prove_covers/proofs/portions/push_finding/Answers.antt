use Rattle.std.specs.Prelude.{option_map}
use Rattle.std.proofs.Common.{◌∙◌, ◌&&◌, ap}
use Rattle.est_ast.specs.FlatViews.{flat_of}
use Rattle.cec_prove_covers.specs.Findings.{reach_of}
use Rattle.cec_prove_covers.proofs.CoveringLines.{part-more}
use Rattle.cec_prove_covers.proofs.portions.push_finding.Goals as goal

pub returns : goal.returns
returns c = λ before.
    let asked = c.args.asked.now in
    part-more asked.source.now (flat_of asked.flat.now) (option_map (λ n. n.now) asked.assumed) asked.points.now c.args.number _ _ _ _
    c.point_at-point.result (reach_of c.args.finding.now) c.requires.within c.point_at-point.ensures c.requires.reach c.in_ok-push_point.ensures
    (c.both-lines.ensures ∙ ap (λ b. c.args.lines.now.whole && b) c.is_decided.ensures) before
