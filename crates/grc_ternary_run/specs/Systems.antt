-- Inner: the system of a graph.
use Rattle.std.specs.Prelude.{◌≡◌, ℕ, ◌+◌, ◌<◌, ◌^◌, false, List, ◌++◌, length, slice_index_or}
use Rattle.est_kernel.specs.Plain.{program_of, given_count}
use Rattle.grc_graph.specs.declared.formulas.Formula.{Formula}
use Rattle.grc_graph.specs.declared.formulas.Formula.TheVariants.{Const}
use Rattle.grc_graph.specs.declared.graph.Graph.{Graph}
use Rattle.grc_formulas.specs.declared.table.Words.{Words}
use Rattle.grc_ternary_gates.specs.declared.gates.Gate.{Gate}
use Rattle.grc_ternary_gates.specs.declared.gates.System.{System}
use Rattle.grc_ternary_gates.specs.Systems.{gate_at}
use Rattle.grc_ternary_gates.specs.Tables.{AreGates, GateSays}
use Rattle.grc_ternary_run.specs.declared.formulas.Making.{Making}
use Rattle.grc_ternary_run.specs.declared.numbers.Counts.{Counts}
use Rattle.grc_ternary_run.specs.Meanings.{Ready, meaning_in, meaning_of, shape_of}
use Rattle.grc_ternary_run.specs.Numbers.{shape}

-- the numbers of given signals and of statements
pub record CountsOf (g : Graph) (w : Words) (c : Counts) : Type 0 where
  pub given : c.given ≡ given_count (program_of g.program)
  pub statements : c.statements ≡ length w.selected.items
  pub small : 3 + c.given + c.statements < 2 ^ 64

-- the formula of a wire
abbrev pub equation_at : Graph → ℕ → Formula
equation_at g v = slice_index_or g.equations.items v (Const false)

-- the gates of so many wires were made over a table
pub record GatesMade (m : Making) (table gates : List Gate) (count : ℕ) : Type 0 where
  pub ready : Ready m table
  pub each : length gates ≡ count
  pub says : (v : ℕ) → v < count
      → GateSays (shape_of m) table (gate_at gates v) (meaning_of m (equation_at m.graph.now v))

-- A system is that of a graph: the wires are its first nodes, their gates say what their equations mean, and the other
-- nodes are a table of gates.
pub record IsSystemOf (g : Graph) (w : Words) (s : System) : Type 0 where
  pub counts : Counts
  pub counted : CountsOf g w counts
  pub sources : s.sources ≡ 3 + counts.given + counts.statements
  pub front : List Gate
  pub table : List Gate
  pub whole : s.gates.items ≡ front ++ table
  pub gates : AreGates (shape g counts) front table (λ v. meaning_in g w counts (equation_at g v))
