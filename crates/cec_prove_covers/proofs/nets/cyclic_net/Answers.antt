use Rattle.std.specs.Prelude.{IfSome}
use Rattle.std.proofs.Common.{map, subst}
use Rattle.base_types.specs.declared.interface.SignalInfo.{SignalInfo}
use Rattle.est_ast.specs.FlatViews.{flat_of}
use Rattle.est_cover.specs.Covered.{covered}
use Rattle.cec_prove_covers.specs.Stages.{IsAnalysedCover}
use Rattle.cec_prove_covers.proofs.nets.cyclic_net.Goals as goal

pub returns-in-Some : goal.returns-in-Some
returns-in-Some c =
    let made = covered (flat_of c.args.flat.now) c.args.first (map (λ (s : SignalInfo). s.name) c.args.names.now) in
    let analysed = subst (λ o. IfSome o (IsAnalysedCover made)) c.in-Some.is c.in_ok-analysed_cover.ensures in
    c.constructive_net.ensures made analysed.program
