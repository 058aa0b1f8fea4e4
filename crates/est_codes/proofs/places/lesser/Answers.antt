use Rattle.std.proofs.Common.{arith, ⊎_elim}
use Rattle.est_codes.proofs.places.lesser.Goals as goal
use Rattle.est_codes.specs.Faults.{IsNotAfter}
use Rattle.est_codes.proofs.LeastPlaces.{least_second}

pub returns-else-one-other-3 : goal.returns-else-one-other-3
returns-else-one-other-3 c =
    let m : IsNotAfter c.in-Some-Some.other c.in-Some-Some.one = ⊎_elim (λ h. record { start = h.0; end = λ e. omega arith })
    (λ h. record { start = omega arith; end = λ e. omega arith }) c.if-one-other-3.either in
    λ a b h g. rw c.in-Some-Some.is-1 (least_second c.in-Some-Some.one c.in-Some-Some.other a b m (rw c.in-Some-Some.is-0 at h) (rw c.in-Some-Some.is-1 at g))
