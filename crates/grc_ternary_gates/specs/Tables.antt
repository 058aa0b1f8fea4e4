-- Inner: gates of wires over a table of further gates, each of which reads wires and gates before it in the table
-- alone. So what a gate of the table says is a function of the statuses of the wires.
use Rattle.std.specs.Prelude.{◌≡◌, ℕ, ◌+◌, ◌-◌, ◌<◌, Bool, true, false, if◌then◌else◌, nat_lt, List, [], ◌∷◌, ◌++◌}
use Rattle.std.specs.Prelude.{length}
use Rattle.std.specs.Prelude.{slice_index_or, IsTrue}
use Rattle.est_kernel.specs.Laws.{IsBelow}
use Rattle.est_kernel.specs.Statuses.{Status, Unknown}
use Rattle.grc_ternary_gates.specs.declared.gates.Gate.{Gate}
use Rattle.grc_ternary_gates.specs.Systems.{gate_at, gate_fits, gate_status}

-- how many wires and sources there are
pub record Shape : Type 0 where
  pub wires : ℕ
  pub sources : ℕ

-- the status of a node, where the wires have these statuses and the gates of the table so far these values
abbrev pub node_status : ℕ → (ℕ → Status) → List Status → ℕ → Status
node_status wires T values n = if nat_lt n wires then T n else slice_index_or values (n - wires) Unknown

-- the values of the gates of a table, where those before the first of these are given
abbrev pub table_values : ℕ → List Bool → (ℕ → Status) → List Status → List Gate → List Status
table_values wires S T values [] = values
table_values wires S T values (g ∷ gs) =
    table_values wires S T (values ++ gate_status S (node_status wires T values) g ∷ []) gs

-- the statuses of wires and of the gates of a table
abbrev pub nodes_of : ℕ → List Bool → (ℕ → Status) → List Gate → ℕ → Status
nodes_of wires S T table = node_status wires T (table_values wires S T [] table)

-- the first two sources are false and true
pub record IsFixed (S : List Bool) : Type 0 where
  pub zero : slice_index_or S 0 false ≡ false
  pub one : slice_index_or S 1 false ≡ true

-- a status for each value of the sources and statuses of the wires
abbrev pub Meaning : Type 0
Meaning = List Bool → (ℕ → Status) → Status

-- each gate of a table reads wires, sources and gates before it alone
abbrev pub TableFits : Shape → List Gate → Type 0
TableFits b table = (k : ℕ) → k < length table → IsTrue (gate_fits (b.wires + k) b.sources (gate_at table k))

-- a gate over a table has this meaning
pub record GateSays (b : Shape) (table : List Gate) (g : Gate) (m : Meaning) : Type 0 where
  pub fits : IsTrue (gate_fits (b.wires + length table) b.sources g)
  pub value : (S : List Bool) (T : ℕ → Status) → IsFixed S → gate_status S (nodes_of b.wires S T table) g ≡ m S T

-- a node has this meaning
pub record NodeSays (b : Shape) (table : List Gate) (n : ℕ) (m : Meaning) : Type 0 where
  pub low : n < b.wires + length table
  pub value : (S : List Bool) (T : ℕ → Status) → IsFixed S → nodes_of b.wires S T table n ≡ m S T

-- a table grew
pub record Extends (b : Shape) (old new : List Gate) : Type 0 where
  pub fit : TableFits b new
  pub more : (extra : List Gate) × (new ≡ old ++ extra)

-- the gates of wires have these meanings
pub record AreGates (b : Shape) (gates table : List Gate) (F : ℕ → Meaning) : Type 0 where
  pub each : length gates ≡ b.wires
  pub fit : TableFits b table
  pub says : (w : ℕ) → w < b.wires → GateSays b table (gate_at gates w) (F w)

-- the least solution of so many equations
pub record IsLeastOf (count : ℕ) (F : ℕ → (ℕ → Status) → Status) (V : ℕ → Status) : Type 0 where
  pub solves : (w : ℕ) → w < count → V w ≡ F w V
  pub least : (U : ℕ → Status) → ((w : ℕ) → w < count → U w ≡ F w U) → (w : ℕ) → w < count → IsBelow (V w) (U w)
