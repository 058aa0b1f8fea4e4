-- Inner: the size, the height and the traps of an expansion, without the expansion.
use Rattle.std.specs.Prelude.{ℕ, zero, suc, ◌+◌, ◌-◌, ◌*◌, ◌^◌, min, max, nat_le, if◌then◌else◌, List, [], ◌∷◌, length}
use Rattle.est_kernel.specs.Terms.{Term, Expression}
use Rattle.est_kernel.specs.Sizes.{test_size, test_height, size_of, height_of, trap_depth}
use Rattle.est_ast.specs.FlatTrees.{Delay, Plain, Immediate, Count, Stmt, At, Form, Nothing, Pause, Halt, Emit, Sustain}
use Rattle.est_ast.specs.FlatTrees.{Await, AwaitCase, Present, PresentCase, Loop, LoopEach, Every, Repeat, Abort}
use Rattle.est_ast.specs.FlatTrees.{AbortCase, WeakAbort, Suspend, Trap, Exit, Signal, Seq, Par, Part, Missing, Written}
use Rattle.est_ast.specs.FlatTrees.{Stmts, NoStmts, MoreStmts, Cases, NoCases, MoreCases}
use Rattle.est_dismantle.specs.Kernels.{nested, expression, any_event}

-- the nodes, those on the longest way down, and the traps one in another
pub record Measures : Type 0 where
  pub size : ℕ
  pub height : ℕ
  pub traps : ℕ

abbrev pub measures_of : Term → Measures
measures_of p = record { size = size_of p; height = height_of p; traps = trap_depth p }

-- those of a test, in which there is no trap
abbrev pub test_measures : Expression → Measures
test_measures e = record { size = test_size e; height = test_height e; traps = 0 }

-- each number at most the greatest u64
unfoldable pub capped : Measures → Measures
capped m = record {
  size = min m.size (2 ^ 64 - 1);
  height = min m.height (2 ^ 64 - 1);
  traps = min m.traps (2 ^ 64 - 1);
}

-- ---- kernel statements

-- a node without parts, over one part, and over two
unfoldable pub leaf : Measures
leaf = record { size = 1; height = 1; traps = 0 }

unfoldable pub over : Measures → Measures
over p = record { size = 1 + p.size; height = 1 + p.height; traps = p.traps }

unfoldable pub trapped : Measures → Measures
trapped p = record { size = 1 + p.size; height = 1 + p.height; traps = 1 + p.traps }

unfoldable pub joined : Measures → Measures → Measures
joined p q = record { size = 1 + p.size + q.size; height = 1 + max p.height q.height; traps = max p.traps q.traps }

-- a test between two parts, and before one
unfoldable pub tested : Measures → Measures → Measures → Measures
tested e p q = record {
  size = 1 + e.size + p.size + q.size;
  height = 1 + max e.height (max p.height q.height);
  traps = max p.traps q.traps;
}

unfoldable pub suspended : Measures → Measures → Measures
suspended e p = record { size = 1 + e.size + p.size; height = 1 + max e.height p.height; traps = p.traps }

-- n copies in one sequence
unfoldable pub copied : ℕ → Measures → Measures
copied zero p = leaf
copied (suc n) p = record { size = suc n * p.size + n; height = n + p.height; traps = p.traps }

-- n nodes, one over another
unfoldable pub raised : ℕ → Measures → Measures
raised n p = record { size = n + p.size; height = n + p.height; traps = p.traps }

-- ---- derived statements, by the measures of their tests and parts

abbrev pub watched : Measures → Measures
watched e = over (joined leaf (tested e leaf leaf))

abbrev pub awaited : Measures → Measures
awaited e = trapped (watched e)

abbrev pub awaited_delay : Delay → Measures
awaited_delay (Plain event) = awaited (test_measures (expression event))
awaited_delay (Immediate event) = trapped (over (joined (tested (test_measures (expression event)) leaf leaf) leaf))
awaited_delay (Count count span event) = copied count (awaited (test_measures (expression event)))

abbrev pub aborted : Measures → Measures → Measures
aborted e p = joined (joined (suspended e p) leaf) (watched e)

abbrev pub aborted_counted : ℕ → Measures → Measures → Measures
aborted_counted count e p =
    over (joined (joined (suspended leaf p) leaf) (joined (copied count (awaited e)) (joined leaf leaf)))

abbrev pub aborted_later : Delay → Measures → Measures
aborted_later (Plain event) p = aborted (test_measures (expression event)) p
aborted_later (Immediate event) p = aborted (test_measures (expression event)) p
aborted_later (Count count span event) p =
    if nat_le count 1 then aborted (test_measures (expression event)) p
    else aborted_counted count (test_measures (expression event)) p

-- the test at the start, of an immediate delay only
abbrev pub tested_first : Delay → Measures → Measures
tested_first (Plain event) p = p
tested_first (Immediate event) p = tested (test_measures (expression event)) leaf p
tested_first (Count count span event) p = p

abbrev pub abortion_measures : Delay → Measures → Measures
abortion_measures delay p = tested_first delay (trapped (aborted_later delay p))

abbrev pub handled_measures : Measures → Measures → Measures
handled_measures p q = trapped (joined (trapped p) q)

abbrev pub each_measures : Delay → Measures → Measures
each_measures delay p = over (abortion_measures delay (joined p (over leaf)))

abbrev pub each_later_measures : Delay → Measures → Measures
each_later_measures delay p = over (trapped (aborted_later delay (joined p (over leaf))))

abbrev pub weakly_measures : Delay → Measures → Measures
weakly_measures delay p = trapped (joined (joined p leaf) (joined (awaited_delay delay) leaf))

abbrev pub suspension_measures : Delay → Measures → Measures
suspension_measures (Plain event) p = suspended (test_measures (expression event)) p
suspension_measures (Immediate event) p =
    joined (trapped (over (tested (test_measures (expression event)) leaf leaf)))
    (suspended (test_measures (expression event)) p)
suspension_measures (Count count span event) p = suspended (test_measures (expression event)) p

-- ---- flat statements

abbrev mutual
  pub kernel_measures : Stmt → Measures
  kernel_measures (At span form) = form_measures form

  pub form_measures : Form → Measures
  form_measures Nothing = leaf
  form_measures Pause = leaf
  form_measures Halt = over leaf
  form_measures (Emit s) = leaf
  form_measures (Sustain s) = over (joined leaf leaf)
  form_measures (Await delay Missing) = awaited_delay delay
  form_measures (Await delay (Written q)) = joined (awaited_delay delay) (kernel_measures q)
  form_measures (AwaitCase cases) = joined (awaited (test_measures (any_event cases))) (cases_measures cases leaf)
  form_measures (Present e p q) = tested (test_measures (expression e)) (part_measures p) (part_measures q)
  form_measures (PresentCase cases q) = cases_measures cases (part_measures q)
  form_measures (Loop p) = over (kernel_measures p)
  form_measures (LoopEach p delay) = each_measures delay (kernel_measures p)
  form_measures (Every delay p) = joined (awaited_delay delay) (each_later_measures delay (kernel_measures p))
  form_measures (Repeat count span p) = copied count (kernel_measures p)
  form_measures (Abort p delay Missing) = abortion_measures delay (kernel_measures p)
  form_measures (Abort p delay (Written q)) =
      handled_measures (tested_first delay (aborted_later delay (kernel_measures p))) (kernel_measures q)
  form_measures (AbortCase p cases) =
      handled_measures (aborted (test_measures (any_event cases)) (kernel_measures p)) (cases_measures cases leaf)
  form_measures (WeakAbort p delay) = weakly_measures delay (kernel_measures p)
  form_measures (Suspend p delay) = suspension_measures delay (kernel_measures p)
  form_measures (Trap p Missing) = trapped (kernel_measures p)
  form_measures (Trap p (Written q)) = handled_measures (joined (kernel_measures p) leaf) (kernel_measures q)
  form_measures (Exit k) = leaf
  form_measures (Signal signals p) = raised (length signals) (kernel_measures p)
  form_measures (Seq parts) = nested joined leaf (stmts_measures parts)
  form_measures (Par parts) = nested joined leaf (stmts_measures parts)

  pub part_measures : Part → Measures
  part_measures Missing = leaf
  part_measures (Written p) = kernel_measures p

  pub stmts_measures : Stmts → List Measures
  stmts_measures NoStmts = []
  stmts_measures (MoreStmts p others) = kernel_measures p ∷ stmts_measures others

  pub cases_measures : Cases → Measures → Measures
  cases_measures NoCases r = r
  cases_measures (MoreCases event body others) r =
      tested (test_measures (expression event)) (part_measures body) (cases_measures others r)
