-- What the laws ask of a program's body, from what is asked of programs: exits have codes below 64.
use Rattle.std.proofs.Common.{ℕ, ◌+◌, ◌≤◌, arith}
use Rattle.est_kernel.specs.Terms.{Term, Exit, Present, Suspend, Seq, Loop, Par, Trap, Local, Awake}
use Rattle.est_kernel.specs.Plain.{Program}
use Rattle.est_kernel.specs.Sizes.{trap_depth}
use Rattle.est_kernel.specs.WellFormed.{ExitsStandInTraps, IsWellFormed}
use Rattle.est_kernel.specs.WellFormed as programs
use Rattle.grc_graph.specs.Selected.{HasExitCodes}

pub kernel_of : (t : Term) (d : ℕ) → programs.IsKernel t → ExitsStandInTraps d t → d + trap_depth t ≤ 62 → HasExitCodes t
kernel_of (Exit c) d k e l = (e.0, omega (arith, e.1))
kernel_of (Present c p q) d k e l = (kernel_of p d k.0 e.0 (omega arith), kernel_of q d k.1 e.1 (omega arith))
kernel_of (Suspend c p) d k e l = kernel_of p d k e (omega arith)
kernel_of (Seq p q) d k e l = (kernel_of p d k.0 e.0 (omega arith), kernel_of q d k.1 e.1 (omega arith))
kernel_of (Loop at p) d k e l = kernel_of p d k e (omega arith)
kernel_of (Par p q) d k e l = (kernel_of p d k.0 e.0 (omega arith), kernel_of q d k.1 e.1 (omega arith))
kernel_of (Trap p) d k e l = kernel_of p (d + 1) k e (omega arith)
kernel_of (Local s p) d k e l = kernel_of p d k e (omega arith)
kernel_of (Awake c p) d k e l = absurd k
kernel_of _ d k e l = tt

pub program_kernel : (p : Program) → IsWellFormed p → programs.IsKernel p.body → HasExitCodes p.body
program_kernel p formed k =
    kernel_of p.body 0 k formed.body.exits (omega (arith, formed.body.traps))
