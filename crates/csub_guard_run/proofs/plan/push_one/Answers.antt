use Rattle.std.proofs.Common.{map, refl, arith}
use Rattle.std.proofs.lemmas.List.{length-map}
use Rattle.csub_text.specs.Views.{assign_of}
use Rattle.csub_guard_run.proofs.Stretches.{stretch-more}
use Rattle.csub_guard_run.proofs.plan.push_one.Goals as goal

pub returns : goal.returns
returns c =
    let wide = length-map c.args.slots.now.keys (λ k. k.now) in
    λ assigns is. stretch-more (map (λ k. k.now) c.args.slots.now.keys) assigns (assign_of c.args.assign.now) c.args.stretch.now _ is
    c.in_ok-push_assign.ensures.adds c.in_ok-push_assign.ensures.tables (omega (arith, c.requires.low, wide)) refl
