-- Inner: the plan of a module's reactions.
use Rattle.std.specs.Prelude.{ℕ, false, List, [], ◌++◌, map, slice_index_or}
use Rattle.net_expressions.specs.Trees.{Expr, Const}
use Rattle.run_steps.specs.Expressions.{expr_step}
use Rattle.run_steps.specs.Plans.{Planned}
use Rattle.run_steps.specs.Solvers.{IsPlanOf}
use Rattle.run_steps.specs.Steps.{Step}
use Rattle.vlog_text.specs.Machine.{given_inputs, driven_names}
use Rattle.vlog_text.specs.Trees.{Assign, VerilogModule}
use Rattle.vlog_run.specs.Loops.{equations_of}

-- the names that have a value before the assignments: the inputs in addition to the clock, and the registers
abbrev pub given_names : VerilogModule → List (List ℕ)
given_names design = given_inputs design ++ map (λ r. r.name) design.registers

-- the step of an assignment
abbrev pub assign_step : List (List ℕ) → Assign Expr → Step
assign_step names a = expr_step names a.target a.value

abbrev pub no_assign : Assign Expr
no_assign = record { target = []; value = Const false }

-- the step of the assignment with this number
abbrev pub step_at : List (List ℕ) → List (Assign Expr) → ℕ → Step
step_at names assigns k = assign_step names (slice_index_or assigns k no_assign)

-- The plan makes the assignments in an evaluation order, and there are the slots of the names that the registers get
-- and of the outputs.
abbrev pub IsPlan : VerilogModule → Planned → List ℕ → List ℕ → Type 0
IsPlan design =
    IsPlanOf (given_names design) (equations_of design) (driven_names design) (map (λ r. r.from) design.registers)
    design.outputs
