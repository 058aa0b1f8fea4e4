-- To believe: what a signal number stands for at a place of a body.
use Rattle.std.specs.Prelude.{ℕ, ◌==◌, nat_lt, if◌then◌else◌}

-- An entering signal is an input alone: its status comes with the event. An outgoing one is an output, or input
-- and output. A bound one belongs to the Local with this number in preorder.
pub data Binding : Type 0 where
  Entering : Binding
  Outgoing : Binding
  BoundAt : (n : ℕ) → Binding
  Unbound : Binding

-- a binding for each signal number
abbrev pub Scope : Type 0
Scope = ℕ → Binding

-- the scope of the body of a Local at n that binds s: the nearest binder counts
abbrev pub bind : Scope → ℕ → ℕ → Scope
bind B s n = λ t. if t == s then BoundAt n else B t

-- the scope of a program's body: signals are numbered inputs first, then the outgoing ones, then the local ones
abbrev pub program_scope : (inputs interface : ℕ) → Scope
program_scope inputs interface = λ s. if nat_lt s inputs then Entering else if nat_lt s interface then Outgoing else
    Unbound
