use Rattle.std.proofs.Common.{take, slice_index_or, false, arith}
use Rattle.std.proofs.lemmas.List.{take_more}
use Rattle.net_follow.specs.declared.literals.Side.TheVariants.{Always}
use Rattle.net_follow.specs.declared.literals.Literal.{Literal}
use Rattle.net_follow.specs.declared.literals.Equation.{Equation}
use Rattle.net_follow.proofs.Clausal.{begins-more}
use Rattle.net_follow.proofs.proving.assuming.Goals as goal

pub loop-equation-preserved : goal.loop-equation-preserved
loop-equation-preserved c =
    let xs = c.args.assumed.now in
    let i = c.loop-equation.equation-index in
    let l : Literal = record { late = false; side = Always; number = 0; positive = false } in
    let d : Equation = record { out = l; left = l; right = l } in
    begins-more (take i xs) _ (slice_index_or xs i d) _ _ (take_more xs i d (omega arith)) c.loop-equation.invariant c.in_ok-assume.ensures
