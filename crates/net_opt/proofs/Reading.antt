-- What is shown, and what it reads.
use Rattle.std.proofs.Common.{◌≡◌, ℕ, ◌+◌, ◌<◌, Bool, false, List, [], length, replicate, sym, ap, ◌∙◌, subst, arith}
use Rattle.std.proofs.Common.{inl, inr, All, IsTrue, slice_index_or}
use Rattle.std.proofs.lemmas.List.{get_or-replicate, length-replicate}
use Rattle.std.proofs.lemmas.Bool.{cases_lt, both_ways}
use Rattle.std.proofs.Math.ListN.{get_or-eq_default}
use Rattle.base_types.specs.declared.indices.NetId.{NetId}
use Rattle.net_ir.specs.declared.netlist.Gate.{Gate}
use Rattle.net_ir.specs.declared.netlist.Latch.{Latch}
use Rattle.net_ir.specs.Netlists.{Netlist, first_gate}
use Rattle.net_opt.specs.Showing.{marked, AllAre}
use Rattle.net_opt.specs.Shown.{IsClosed, IsRead}

-- what a latch reads
pub latch-read : (net : Netlist) (P : ℕ → Bool) → IsClosed net P → (n k : ℕ) (l : Latch) → n ≡ length net.inputs + k → k < length net.latches
    → l ≡ slice_index_or net.latches k l → IsTrue (P n) → IsTrue (P l.from.0)
latch-read net P closed n k l at low is here =
    subst (λ (x : Latch). IsTrue (P x.from.0)) (sym is) (closed.latches k l low (subst (λ m. IsTrue (P m)) at here))

-- what a gate reads
pub gate-read : (net : Netlist) (P : ℕ → Bool) → IsClosed net P → (n k : ℕ) (g : Gate) → n ≡ first_gate net + k → k < length net.gates
    → g ≡ slice_index_or net.gates k g → IsTrue (P n) → IsRead P g.op
gate-read net P closed n k g at low is here =
    subst (λ (x : Gate). IsRead P x.op) (sym is) (closed.gates k g low (subst (λ m. IsTrue (P m)) at here))

pub none-marked : (count n : ℕ) → marked (replicate count false) n ≡ false
none-marked count n = elim (cases_lt n count) [
  | inl low ↦ get_or-replicate count n false false low
  | inr high ↦ get_or-eq_default (replicate count false) false (omega (arith, length-replicate count false))
]

-- nothing is marked yet
pub none-are : (P : ℕ → Bool) (count : ℕ) (marks : List Bool) (found : List NetId) → marks ≡ replicate count false → found ≡ [] → AllAre P marks found
none-are P count marks found blank none = record {
  each_mark = λ n on. absurd (both_ways (marked marks n) (ap (λ ms. marked ms n) blank ∙ none-marked count n) on);
  each_found = subst (λ (l : List NetId). All (λ (m : NetId). IsTrue (P m.0)) l) (sym none) (λ k d low. absurd (omega arith));
}
