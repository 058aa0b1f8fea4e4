-- To believe: combinational cycles of a module, and what is asked of a module that is run.
use Rattle.std.specs.Prelude.{ℕ, List, map}
use Rattle.net_expressions.specs.Names.{names_in}
use Rattle.net_expressions.specs.Trees.{Expr}
use Rattle.net_expressions.specs.Values.{value_of}
use Rattle.vlog_read.specs.declared.refusal.VlogFault.{VlogFault}
use Rattle.vlog_read.specs.declared.refusal.VlogFault.TheVariants.{Loop}
use Rattle.vlog_text.specs.Texts.{Describes}
use Rattle.vlog_text.specs.Trees.{Assign, VerilogModule}
use Rattle.run_steps.specs.Equations as equations
use Rattle.run_steps.specs.Equations.{NameEquation}

-- a module that some text describes
abbrev pub IsDescribed : VerilogModule → Type 0
IsDescribed design = (text : List ℕ) × Describes text design

-- an assignment gives its target a value from those of the names in its expression
abbrev pub equation_of : Assign Expr → NameEquation
equation_of a = record { output = a.target; reads = names_in a.value; value = λ v. value_of v a.value }

abbrev pub equations_of : VerilogModule → List NameEquation
equations_of design = map equation_of design.assigns

-- A combinational cycle: each next name is in the expression that is assigned to the one before, and the first in
-- the one that is assigned to the last.
abbrev pub IsLoop : VerilogModule → List (List ℕ) → Type 0
IsLoop design names = equations.IsEquationLoop (equations_of design) names

abbrev pub HasNoLoop : VerilogModule → Type 0
HasNoLoop design = equations.HasNoEquationLoop (equations_of design)

-- the fault is a combinational cycle of the module
abbrev pub LoopFault : VerilogModule → VlogFault → Type 0
LoopFault design (Loop names) = IsLoop design names.items
LoopFault design others = ⊥
