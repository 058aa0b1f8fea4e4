-- Inner: the tables over which a graph is built.
use Rattle.std.specs.Prelude.{◌≡◌, ℕ, ◌+◌, true, List, length, map, slice_index_or, Option, Contains, ⊤, MatchOption}
use Rattle.est_kernel.specs.Plain.{Program, program_of}
use Rattle.est_kernel.specs.Terms.{Expression, Tick, Sig, Not, And, Or}
use Rattle.est_kernel.specs.WellFormed.{IsWellFormed}
use Rattle.grc_graph.specs.declared.formulas.Formula.{Formula}
use Rattle.grc_graph.specs.Formulas as plain
use Rattle.grc_graph.specs.Formulas.{Const, Negation, Conjunction, Disjunction}
use Rattle.grc_graph.specs.Instances.{body_instances}
use Rattle.grc_graph.specs.Layers.{Layer}
use Rattle.grc_graph.specs.Neighbouring.{instances_in, names_in, program_wires}
use Rattle.grc_graph.specs.Rows.{Row, program_rows, row_at}
use Rattle.grc_graph.specs.Scopes.{Binding, Unbound}
use Rattle.grc_graph.specs.Spots.{status_formula}
use Rattle.grc_graph.specs.Statements.{program_listed, signals_in}
use Rattle.grc_graph.specs.StatementViews.{view_of}
use Rattle.grc_graph.specs.Wires.{Wire, status_wire}
use Rattle.grc_build.specs.declared.tables.Tables.{Tables}
use Rattle.grc_build.specs.Meanings.{Means, MeansAny}

abbrev pub program_in : Tables → Program
program_in t = program_of t.program.now

-- the row of the statement with a number
abbrev pub row_in : Tables → ℕ → Row
row_in t n = row_at (program_rows (program_in t)) n

-- the tables are those of their program
pub record AreTables (t : Tables) : Type 0 where
  pub formed : IsWellFormed (program_in t)
  pub statements : map view_of t.statements.items ≡ program_listed (program_in t)
  pub instances : instances_in t.wires ≡ body_instances (program_in t).body
  pub wires : names_in t.wires ≡ program_wires (program_in t)

-- the instance is live, the wire is there
abbrev pub IsLive : Tables → ℕ → Layer → Type 0
IsLive t n l = Contains (instances_in t.wires) (record { path = n; layer = l })

abbrev pub IsThere : Tables → Wire → Type 0
IsThere t w = Contains (names_in t.wires) w

-- meanings by the tables
abbrev pub MeansIn : Tables → Formula → plain.Formula → Type 0
MeansIn t f a = Means (instances_in t.wires) (names_in t.wires) f a

abbrev pub MeansAnyIn : Tables → Option Formula → List plain.Formula → Type 0
MeansAnyIn t r xs = MeansAny (instances_in t.wires) (names_in t.wires) r xs

-- a test whose signals have these bindings, from the place k on
abbrev pub bound_test : List Binding → ℕ → Expression → Layer → plain.Formula
bound_test bs k Tick l = Const true
bound_test bs k (Sig s) l = status_formula (slice_index_or bs k Unbound) s l
bound_test bs k (Not a) l = Negation (bound_test bs k a l)
bound_test bs k (And a b) l = Conjunction (bound_test bs k a l) (bound_test bs (k + length (signals_in a)) b l)
bound_test bs k (Or a b) l = Disjunction (bound_test bs k a l) (bound_test bs (k + length (signals_in a)) b l)

-- the status wire of a signal with this binding is there, if it has one
abbrev pub StatusIsThere : Tables → Binding → ℕ → Layer → Type 0
StatusIsThere t b s l = MatchOption (status_wire b s l) ⊤ (λ w. IsThere t w)

-- the same of each signal of a test
abbrev pub StatusesAreThere : Tables → List Binding → ℕ → Expression → Layer → Type 0
StatusesAreThere t bs k Tick l = ⊤
StatusesAreThere t bs k (Sig s) l = StatusIsThere t (slice_index_or bs k Unbound) s l
StatusesAreThere t bs k (Not a) l = StatusesAreThere t bs k a l
StatusesAreThere t bs k (And a b) l = StatusesAreThere t bs k a l
    × StatusesAreThere t bs (k + length (signals_in a)) b l
StatusesAreThere t bs k (Or a b) l = StatusesAreThere t bs k a l × StatusesAreThere t bs (k + length (signals_in a)) b l
