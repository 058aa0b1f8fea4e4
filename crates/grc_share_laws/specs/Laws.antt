-- Contract: the laws of shared instances.
use Rattle.std.specs.Prelude.{◌≡◌, ◌↔◌, ◌<◌, ◌≤◌, ◌+◌, ℕ, true, Bool, List, length, filter, Contains}
use Rattle.est_kernel.specs.Plain.{Program, given_count}
use Rattle.est_kernel.specs.Preorder.{statement_count}
use Rattle.est_kernel.specs.StaticCodes.{NoInstantLoop}
use Rattle.est_kernel.specs.WellFormed.{IsKernel, IsWellFormed}
use Rattle.grc_graph.specs.GraphRuns.{graph_of, program_wires, SolvesGraph}
use Rattle.grc_graph.specs.Layers.{Layer}
use Rattle.grc_graph.specs.Readings.{Valuation}
use Rattle.grc_graph.specs.Selected.{IsState}
use Rattle.grc_graph.specs.Walk.{State}
use Rattle.grc_graph.specs.Wires.{Go, Wire}
use Rattle.grc_share.specs.SharedInstances.{body_sharing, key, one_instance}
use Rattle.grc_share.specs.SharedWires.{is_started, one_wire, shared_layers, shared_wire}

-- In a solution of a program's graph, in a state of its body, of two instances of one statement for which this holds
-- no two run.
abbrev pub Exclude : (Program → ℕ → Layer → Layer → Type 0) → Type 0
Exclude One =
    (p : Program) (q : State) (event : List Bool) (V : Valuation)
    → IsWellFormed p → IsKernel p.body → NoInstantLoop p.body → IsState q p.body → length event ≡ given_count p
    → SolvesGraph (graph_of p) q event V
    → (n : ℕ) (l j : Layer) → V (Go n l) ≡ true → V (Go n j) ≡ true → One p n l j → l ≡ j

-- Of two members of a shared instance no two run in one instant.
abbrev pub MembersExcludeEachOther : Type 0
MembersExcludeEachOther = Exclude (λ p n l j. one_instance (body_sharing p.body) n l j ≡ true)

-- Of two instances with one key no two run in one instant: so no start runs beside what is resumed, where both have one
-- status, as those of a Local may.
abbrev pub KeysTellApart : Type 0
KeysTellApart = Exclude (λ p n l j. key (body_sharing p.body) n l ≡ key (body_sharing p.body) n j)

-- Two wires of a program's graph are one shared wire exactly where they have one shared name.
abbrev pub NamesTellSharedWires : Type 0
NamesTellSharedWires =
    (p : Program) (u w : Wire) → IsKernel p.body → Contains (program_wires p) u → Contains (program_wires p) w
    → (one_wire (body_sharing p.body) u w ≡ true)
    ↔ (shared_wire (body_sharing p.body) u ≡ shared_wire (body_sharing p.body) w)

-- A statement has at most one shared started instance more than there are loop bodies that it is in or is.
abbrev pub StartsAreFew : Type 0
StartsAreFew =
    (p : Program) (n : ℕ) → IsKernel p.body → n < statement_count p.body
    → length (filter is_started (shared_layers (body_sharing p.body) n)) ≤ (body_sharing p.body).resumed n + 1
