-- Inner: the statements that the reader has taken, and the faults of its parts.
use Rattle.std.specs.Prelude.{◌≡◌, ℕ, Bool, List, [], ◌∷◌, find, Option, Some, None}
use Rattle.blif_read.specs.declared.fault.BlifFault.{BlifFault}
use Rattle.blif_read.specs.declared.fault.BlifFault.TheVariants as faults
use Rattle.blif_read.specs.declared.statements.Statement.{Statement}
use Rattle.blif_read.specs.declared.statements.Statement.TheVariants as rust
use Rattle.blif_text.specs.Statements as spec
use Rattle.blif_text.specs.Statements.{refused_line}
use Rattle.net_ir.specs.NameLists.{first_again}
use Rattle.blif_text.specs.Circuits.{driven_again, not_driven}

abbrev pub plain_statement : Statement → spec.Statement
plain_statement (rust.Model name) = spec.Model name
plain_statement (rust.Inputs names) = spec.Inputs names.items
plain_statement (rust.Outputs names) = spec.Outputs names.items
plain_statement (rust.Latch latch) = spec.Latch latch.from latch.to latch.init
plain_statement (rust.Names inputs output) = spec.Names inputs.items output
plain_statement (rust.Row row) = spec.Row row.cells.items
plain_statement rust.End = spec.End

-- the last statement, if there is one
abbrev pub last_of : List spec.Statement → Option spec.Statement
last_of [] = None
last_of (s ∷ []) = Some s
last_of (s ∷ t ∷ more) = last_of (t ∷ more)

-- the line is the first that is refused
abbrev pub LineFault : List ℕ → BlifFault → Type 0
LineFault text (faults.Line number) = refused_line text ≡ Some number
LineFault text others = ⊥

-- the name is the first that stands a second time
abbrev pub AgainFault : List (List ℕ) → BlifFault → Type 0
AgainFault names (faults.TwoDrivers name) = first_again [] names ≡ Some name
AgainFault names others = ⊥

-- the name is the first that passes a test
abbrev pub FoundFault : (List ℕ → Bool) → List (List ℕ) → BlifFault → Type 0
FoundFault test names (faults.NoDriver name) = find test names ≡ Some name
FoundFault test names others = ⊥

-- the name is the first that is driven again, or else the first that is used and not driven
abbrev pub DriverFault : List spec.Statement → BlifFault → Type 0
DriverFault statements (faults.TwoDrivers name) = driven_again statements ≡ Some name
DriverFault statements (faults.NoDriver name) = (driven_again statements ≡ None) × (not_driven statements ≡ Some name)
DriverFault statements others = ⊥
