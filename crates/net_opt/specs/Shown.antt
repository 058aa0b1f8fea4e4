-- To believe: netlists in which nothing is unobserved.
use Rattle.std.specs.Prelude.{⊤, ℕ, ◌+◌, ◌<◌, ◌≤◌, Bool, length, slice_index_or, IsTrue, All}
use Rattle.net_ir.specs.declared.netlist.Op.{Op}
use Rattle.net_ir.specs.declared.netlist.Op.TheVariants.{Const, Copy, Not, And, Or}
use Rattle.net_ir.specs.declared.netlist.Gate.{Gate}
use Rattle.net_ir.specs.declared.netlist.Latch.{Latch}
use Rattle.net_ir.specs.Netlists.{Netlist, first_gate, net_count}

-- the set has each net that the operator reads
abbrev pub IsRead : (ℕ → Bool) → Op → Type 0
IsRead P (Const b) = ⊤
IsRead P (Copy n) = IsTrue (P n.0)
IsRead P (Not n) = IsTrue (P n.0)
IsRead P (And m n) = IsTrue (P m.0) × IsTrue (P n.0)
IsRead P (Or m n) = IsTrue (P m.0) × IsTrue (P n.0)

-- the set has the nets of the outputs and of `paused`, and with a latch or a gate what that reads
pub record IsClosed (net : Netlist) (P : ℕ → Bool) : Type 0 where
  pub outputs : All (λ o. IsTrue (P o.net.0)) net.outputs
  pub paused : IsTrue (P net.paused)
  pub latches : (k : ℕ) (d : Latch) → k < length net.latches → IsTrue (P (length net.inputs + k))
      → IsTrue (P (slice_index_or net.latches k d).from.0)
  pub gates : (k : ℕ) (d : Gate) → k < length net.gates → IsTrue (P (first_gate net + k))
      → IsRead P (slice_index_or net.gates k d).op

-- Something shows each latch and each gate: it is read on a way to an output or `paused`, so it is in each set that has
-- what is shown and what that reads.
abbrev pub EachIsShown : Netlist → Type 0
EachIsShown net = (P : ℕ → Bool) → IsClosed net P → (n : ℕ) → length net.inputs ≤ n → n < net_count net → IsTrue (P n)
