-- Inner: what is read of the statement around one that is entered.
use Rattle.std.specs.Prelude.{◌≡◌, ℕ, ◌+◌, ◌<◌, ◌^◌, Bool, ◌==◌, if◌then◌else◌}
use Rattle.est_kernel.specs.Terms.{Expression}
use Rattle.grc_graph.specs.Formulas.{Formula, Negation}
use Rattle.grc_graph.specs.Layers.{Layer, Resumed, Started}
use Rattle.grc_graph.specs.Scopes.{Scope}
use Rattle.grc_graph.specs.Spots.{test_formula, tested_entry, suspended_entry}
use Rattle.grc_graph.specs.Statements.{signals_in, signals_of}
use Rattle.grc_graph.specs.Wires.{Wire, Go, End}
use Rattle.grc_build.specs.declared.tables.Tables.{Tables}
use Rattle.grc_build.specs.Tabled.{AreTables, IsLive, IsThere, row_in}

-- a branch of a test, or of its negation
abbrev pub tested_by : Scope → Expression → Bool → ℕ → ℕ → Layer → Formula
tested_by B e negates n c l = tested_entry n c (λ j.
    if negates then Negation (test_formula B e j) else test_formula B e j) l

abbrev pub suspended_by : Scope → Expression → ℕ → Layer → Formula
suspended_by B e n l = suspended_entry n (test_formula B e) l

-- this is the test of a statement whose instance in this layer is live
pub record IsTestOf (t : Tables) (n : ℕ) (e : Expression) (l : Layer) : Type 0 where
  pub tables : AreTables t
  pub live : IsLive t n l
  pub go : IsThere t (Go n l)
  pub signals : signals_of (row_in t n).statement ≡ signals_in e

-- the wire that starts the second part of a sequence at n
abbrev pub first_end : ℕ → ℕ → Layer → Wire
first_end n m Resumed = Go n Resumed
first_end n m (Started r) = End (n + 1) (if r == m then Resumed else Started r) 0

pub record FirstEnd (t : Tables) (n m : ℕ) (l : Layer) : Type 0 where
  pub number : n + 1 < 2 ^ 32
  pub there : IsThere t (first_end n m l)

-- the wire that starts the body of a loop at n
abbrev pub loop_start : ℕ → Layer → Wire
loop_start n Resumed = Go n Resumed
loop_start n (Started r) = if r == n + 1 then End (n + 1) Resumed 0 else Go n (Started r)

pub record LoopStart (t : Tables) (n : ℕ) (l : Layer) : Type 0 where
  pub number : n + 1 < 2 ^ 32
  pub there : IsThere t (loop_start n l)
