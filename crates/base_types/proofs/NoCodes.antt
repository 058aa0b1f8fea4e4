-- No code up to a bound, where a set has none.
use Rattle.std.proofs.Common.{Bool, arith, false, suc, zero, ℕ, ◌≡◌, ◌≤◌}
use Rattle.base_types.specs.Codes.{upto}

-- a set has no code up to k where it has none of them
pub upto-none : (A : ℕ → Bool) (k : ℕ) → ((j : ℕ) → j ≤ k → A j ≡ false) → upto A k ≡ false
upto-none A zero h = h 0 (omega arith)
upto-none A (suc k) h =
    let below : upto A k ≡ false = upto-none A k (λ j l. h j (omega arith)) in
    let last : A (suc k) ≡ false = h (suc k) (omega arith) in
    rw below last
