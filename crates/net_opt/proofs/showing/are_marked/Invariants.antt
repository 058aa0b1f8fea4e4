use Rattle.std.proofs.Common.{ℕ, ◌<◌, ◌≤◌, IsTrue}
use Rattle.net_opt.specs.Showing.{marked}
use Rattle.net_opt.proofs.showing.are_marked.Given as goal

abbrev pub invariant-loop-place : goal.invariant-loop-place
invariant-loop-place l = (n : ℕ) → l.first ≤ n → n < l.place → IsTrue (marked l.marks n)
