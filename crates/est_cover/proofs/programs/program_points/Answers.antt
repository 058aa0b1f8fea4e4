use Rattle.std.proofs.Common.{◌∙◌}
use Rattle.est_cover.proofs.Rows.{points-from}
use Rattle.est_cover.proofs.programs.program_points.Goals as goal

pub returns : goal.returns
returns c = c.in_ok-body.ensures.points ∙ points-from _ _ c.new-points.ensures.items
