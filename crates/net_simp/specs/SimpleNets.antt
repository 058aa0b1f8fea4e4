-- To believe: the netlists in which nothing is left to simplify. Each point is on the gates that carry no wire.
use Rattle.std.specs.Prelude.{⊤, ◌≡◌, ℕ, ◌+◌, ◌<◌, Bool, true, false, ◌||◌, ◌==◌, None, List, length, slice_index_or}
use Rattle.std.specs.Prelude.{IsTrue, All, ◌⊎◌}
use Rattle.std.specs.List.{list_any}
use Rattle.net_ir.specs.declared.netlist.Op.{Op}
use Rattle.net_ir.specs.declared.netlist.Op.TheVariants.{Const, Copy, Not, And, Or}
use Rattle.net_ir.specs.declared.netlist.Gate.{Gate}
use Rattle.net_ir.specs.Netlists.{Netlist, first_gate}
use Rattle.net_simp.specs.Rules.{reduced_op}

-- the operator with its operands in the other order
abbrev pub turned : Op → Op
turned (Const b) = Const b
turned (Copy n) = Copy n
turned (Not n) = Not n
turned (And m n) = And n m
turned (Or m n) = Or n m

-- no two have the same operator, in whichever order its operands stand
abbrev pub EachFormOnce : Netlist → Type 0
EachFormOnce net = (j k : ℕ) (d : Gate) → j < length net.gates → k < length net.gates
    → (slice_index_or net.gates j d).wire ≡ None → (slice_index_or net.gates k d).wire ≡ None
    → ((slice_index_or net.gates j d).op ≡ (slice_index_or net.gates k d).op)
    ⊎ ((slice_index_or net.gates j d).op ≡ turned (slice_index_or net.gates k d).op) → j ≡ k

-- no rule makes less of one: no double negation, no absorbed operand, no constant that is not said to be one
abbrev pub EachIsReduced : Netlist → Type 0
EachIsReduced net = All (λ g. g.wire ≡ None → reduced_op (first_gate net) net.gates g.op ≡ g.op) net.gates

abbrev pub IsNoCopy : Op → Type 0
IsNoCopy (Const b) = ⊤
IsNoCopy (Copy n) = ⊥
IsNoCopy (Not n) = ⊤
IsNoCopy (And m n) = ⊤
IsNoCopy (Or m n) = ⊤

-- none is a copy
abbrev pub NoCopies : Netlist → Type 0
NoCopies net = All (λ g. g.wire ≡ None → IsNoCopy g.op) net.gates

abbrev pub Computes : Op → Type 0
Computes (Const b) = ⊥
Computes (Copy n) = ⊥
Computes (Not n) = ⊤
Computes (And m n) = ⊤
Computes (Or m n) = ⊤

-- whether an operator reads the net of this number
abbrev pub reads : Op → ℕ → Bool
reads (Const b) n = false
reads (Copy m) n = m.0 == n
reads (Not m) n = m.0 == n
reads (And l m) n = l.0 == n || m.0 == n
reads (Or l m) n = l.0 == n || m.0 == n

-- none reads a gate that is a copy or a constant, whether that gate carries a wire or not
abbrev pub ReadsComputed : Netlist → Type 0
ReadsComputed net = (j k : ℕ) (d : Gate) → j < length net.gates → k < length net.gates
    → (slice_index_or net.gates j d).wire ≡ None
    → IsTrue (reads (slice_index_or net.gates j d).op (first_gate net + k)) → Computes (slice_index_or net.gates k d).op

abbrev pub OperandsDiffer : Op → Type 0
OperandsDiffer (Const b) = ⊤
OperandsDiffer (Copy n) = ⊤
OperandsDiffer (Not n) = ⊤
OperandsDiffer (And m n) = m.0 ≡ n.0 → ⊥
OperandsDiffer (Or m n) = m.0 ≡ n.0 → ⊥

-- none reads one net twice
abbrev pub ReadsNoneTwice : Netlist → Type 0
ReadsNoneTwice net = All (λ g. g.wire ≡ None → OperandsDiffer g.op) net.gates

-- whether a gate, a latch, an output or `paused` reads the net of this number
abbrev pub is_used : Netlist → ℕ → Bool
is_used net n = net.paused == n || list_any (λ o. o.net.0 == n) net.outputs || list_any (λ l. l.from.0 == n) net.latches
    || list_any (λ g. reads g.op n) net.gates

-- each is read
abbrev pub EachIsUsed : Netlist → Type 0
EachIsUsed net = (k : ℕ) (d : Gate) → k < length net.gates → (slice_index_or net.gates k d).wire ≡ None
    → IsTrue (is_used net (first_gate net + k))

-- nothing is left to simplify
pub record IsSimple (net : Netlist) : Type 0 where
  pub once : EachFormOnce net
  pub reduced : EachIsReduced net
  pub no_copies : NoCopies net
  pub reads_computed : ReadsComputed net
  pub reads_none_twice : ReadsNoneTwice net
  pub used : EachIsUsed net
