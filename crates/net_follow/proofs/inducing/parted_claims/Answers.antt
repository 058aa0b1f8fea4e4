use Rattle.std.proofs.Common.{◌+◌, take, slice_index_or, false, arith, subst, List}
use Rattle.std.proofs.lemmas.List.{take_more, take_all}
use Rattle.net_follow.specs.declared.literals.Side.TheVariants.{Always}
use Rattle.net_follow.specs.declared.literals.Literal.{Literal}
use Rattle.net_follow.specs.declared.literals.Equation.{Equation}
use Rattle.net_follow.specs.Proving.{Entails}
use Rattle.net_follow.proofs.Clausal.{claimed-next, entails-claimed}
use Rattle.net_follow.proofs.inducing.parted_claims.Goals as goal

pub loop-k-preserved : goal.loop-k-preserved
loop-k-preserved c =
    let xs = c.args.claims.now in
    let k = c.loop-k.k in
    let l : Literal = record { late = false; side = Always; number = 0; positive = false } in
    let d : Equation = record { out = l; left = l; right = l } in
    claimed-next (take k xs) (take (k + 1) xs) (slice_index_or xs k d) k c.loop-k.unshown.items c.part_at.new.unshown.items _ c.loop-k.prover
    c.part_at.new.prover (take_more xs k d (omega arith)) c.loop-k.invariant c.in_ok-part_at.ensures

pub returns : goal.returns
returns c = λ none.
    let all = take_all c.loop-k.k c.args.claims.now (omega arith) in
    subst (λ (claims : List Equation). Entails c.args.known.now claims) all
    (entails-claimed c.args.known.now (take c.loop-k.k c.args.claims.now) c.loop-k.unshown.items _ _ c.in_ok-prover.ensures c.loop-k.invariant none)
