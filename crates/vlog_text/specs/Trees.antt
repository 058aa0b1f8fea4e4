-- To believe: what a text says as a plain tree, and the module that it stands for.
use Rattle.std.specs.Prelude.{ℕ, Bool, List}
use Rattle.net_expressions.specs.Trees.{Expr}

-- what a name is declared as
pub data Sort : Type 0 where
  Input : Sort
  Output : Sort
  Wire : Sort
  Reg : Sort

pub record Declaration : Type 0 where
  pub sort : Sort
  pub name : List ℕ

-- the value of a reg before the first event
pub record Initial : Type 0 where
  pub name : List ℕ
  pub value : Bool

-- a name that always has the value of an expression
pub record Assign (E : Type 0) : Type 0 where
  pub target : List ℕ
  pub value : E

-- a reg that gets the value of a name at each event
pub record Next : Type 0 where
  pub target : List ℕ
  pub source : List ℕ

-- What a text says, in its own order, where E is what its expressions are: the module's name, its ports, and the name
-- after `posedge` among them.
pub record Source (E : Type 0) : Type 0 where
  pub name : List ℕ
  pub ports : List (List ℕ)
  pub declarations : List Declaration
  pub initials : List Initial
  pub assigns : List (Assign E)
  pub clock : List ℕ
  pub nexts : List Next

-- a reg, its value before the first event, and the name whose value it gets at each event
pub record Register : Type 0 where
  pub name : List ℕ
  pub init : Bool
  pub from : List ℕ

-- A module. Inputs, of which the first is the clock, outputs, registers and wires are in the order of their
-- declarations, and the assignments in the order of the text.
pub record VerilogModule : Type 0 where
  pub name : List ℕ
  pub inputs : List (List ℕ)
  pub outputs : List (List ℕ)
  pub registers : List Register
  pub wires : List (List ℕ)
  pub assigns : List (Assign Expr)
