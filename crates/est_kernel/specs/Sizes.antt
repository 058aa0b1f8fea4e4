-- To believe: the size and the height of a statement.
use Rattle.std.specs.Prelude.{ℕ, ◌+◌, max}
use Rattle.est_kernel.specs.Terms.{Expression, Tick, Sig, Not, And, Or, Term, Nothing, Pause, Emit, Exit, Present}
use Rattle.est_kernel.specs.Terms.{Suspend, Seq, Loop, Par, Trap, Local, Awake}

-- the number of nodes of a test
abbrev pub test_size : Expression → ℕ
test_size Tick = 1
test_size (Sig s) = 1
test_size (Not a) = 1 + test_size a
test_size (And a b) = 1 + test_size a + test_size b
test_size (Or a b) = 1 + test_size a + test_size b

-- the number of statement nodes plus the number of test nodes
abbrev pub size_of : Term → ℕ
size_of Nothing = 1
size_of Pause = 1
size_of (Emit s) = 1
size_of (Exit k) = 1
size_of (Present e p q) = 1 + test_size e + size_of p + size_of q
size_of (Suspend e p) = 1 + test_size e + size_of p
size_of (Seq p q) = 1 + size_of p + size_of q
size_of (Loop at p) = 1 + size_of p
size_of (Par p q) = 1 + size_of p + size_of q
size_of (Trap p) = 1 + size_of p
size_of (Local s p) = 1 + size_of p
size_of (Awake e p) = 1 + test_size e + size_of p

-- the number of nodes on the longest way down a test
abbrev pub test_height : Expression → ℕ
test_height Tick = 1
test_height (Sig s) = 1
test_height (Not a) = 1 + test_height a
test_height (And a b) = 1 + max (test_height a) (test_height b)
test_height (Or a b) = 1 + max (test_height a) (test_height b)

-- the number of nodes on the longest way down a statement, tests included
abbrev pub height_of : Term → ℕ
height_of Nothing = 1
height_of Pause = 1
height_of (Emit s) = 1
height_of (Exit k) = 1
height_of (Present e p q) = 1 + max (test_height e) (max (height_of p) (height_of q))
height_of (Suspend e p) = 1 + max (test_height e) (height_of p)
height_of (Seq p q) = 1 + max (height_of p) (height_of q)
height_of (Loop at p) = 1 + height_of p
height_of (Par p q) = 1 + max (height_of p) (height_of q)
height_of (Trap p) = 1 + height_of p
height_of (Local s p) = 1 + height_of p
height_of (Awake e p) = 1 + max (test_height e) (height_of p)

-- the number of traps one in another
abbrev pub trap_depth : Term → ℕ
trap_depth Nothing = 0
trap_depth Pause = 0
trap_depth (Emit s) = 0
trap_depth (Exit k) = 0
trap_depth (Present e p q) = max (trap_depth p) (trap_depth q)
trap_depth (Suspend e p) = trap_depth p
trap_depth (Seq p q) = max (trap_depth p) (trap_depth q)
trap_depth (Loop at p) = trap_depth p
trap_depth (Par p q) = max (trap_depth p) (trap_depth q)
trap_depth (Trap p) = 1 + trap_depth p
trap_depth (Local s p) = trap_depth p
trap_depth (Awake e p) = trap_depth p
