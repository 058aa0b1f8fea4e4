-- Contract: how many rows a table of words needs, which says once what formulas say of many places: what holds a
-- selected pause, what is kept and what is held.
use Rattle.std.specs.Prelude.{ℕ, ◌+◌, if◌then◌else◌, List, Option, Some, None, Vec}
use Rattle.std.specs.Global.{Global}
use Rattle.std.specs.List.{sum_by}
use Rattle.est_kernel.specs.Plain.{Program}
use Rattle.est_kernel.specs.Terms.{Expression, Tick, Sig, Not, And, Or, Term, Nothing, Pause, Emit, Exit, Present}
use Rattle.est_kernel.specs.Terms.{Suspend, Seq, Loop, Par, Trap, Local, Awake}
use Rattle.grc_graph.specs.declared.loops.LoopBodies.{LoopBodies}
use Rattle.grc_graph.specs.Instances.{Instance, body_instances}
use Rattle.grc_graph.specs.Layers.{Layer, Resumed, Started}
use Rattle.grc_graph.specs.Rows.{Row, program_rows, row_at}

-- the test of a suspension
abbrev pub test_of : Term → Option Expression
test_of Nothing = None
test_of Pause = None
test_of (Emit s) = None
test_of (Exit k) = None
test_of (Present e p q) = None
test_of (Suspend e p) = Some e
test_of (Seq p q) = None
test_of (Loop at p) = None
test_of (Par p q) = None
test_of (Trap p) = None
test_of (Local s p) = None
test_of (Awake e p) = None

-- how many operators a test has
abbrev pub operators : Expression → ℕ
operators Tick = 0
operators (Sig s) = 0
operators (Not a) = operators a + 1
operators (And a b) = operators a + operators b + 1
operators (Or a b) = operators a + operators b + 1

-- An instance takes a row to say that it is kept. A resumed suspension takes its test, and three more rows to say that
-- it is held: that it runs, that it is kept, and what is held around.
abbrev pub rows_by : Option Expression → Layer → ℕ
rows_by None l = 1
rows_by (Some e) Resumed = operators e + 4
rows_by (Some e) (Started r) = 1

-- A statement that may be resumed takes a row to say whether it holds a selected pause. No other holds one.
abbrev pub selection_rows : Row → ℕ
selection_rows r = if r.live.resumed then 1 else 0

-- Where instances are shared ones, each may take one row more, to say what it sees of the end of a parallel around it.
abbrev pub with_lasting : Option (Vec LoopBodies Global) → ℕ → ℕ
with_lasting None rows = rows
with_lasting (Some loops) rows = rows + 1

-- The rows of the statements, those of these instances, and one to say that the program pauses.
abbrev pub rows_over : Program → List Instance → Option (Vec LoopBodies Global) → ℕ
rows_over p insts loops =
    sum_by selection_rows (program_rows p)
    + sum_by (λ y. with_lasting loops (rows_by (test_of (row_at (program_rows p) y.path).statement) y.layer)) insts + 1

-- of all live instances of a program
abbrev pub rows_of : Program → ℕ
rows_of p = rows_over p (body_instances p.body) None
