-- Inner: where the instances and wires of a shared graph are found.
use Rattle.std.specs.Prelude.{◌≡◌, ℕ, ◌+◌, ◌<◌, true, List, length, filter, slice_index, take}
use Rattle.est_kernel.specs.Plain.{program_of}
use Rattle.grc_graph.specs.declared.graph.Graph.{Graph}
use Rattle.grc_graph.specs.PlainGraphs.{instance_at, instances_of, names_of}
use Rattle.grc_graph.specs.Wires.{same_wire}
use Rattle.grc_share.specs.Renamings.{is_named}
use Rattle.grc_share.specs.SharedGraphs.{shared_instances}
use Rattle.grc_share.specs.SharedInstances.{body_sharing}
use Rattle.grc_share.specs.SharedWires.{shared_wire, shared_wires}

-- how many of the first instances of a graph name their shared ones
abbrev pub named_before : Graph → ℕ → ℕ
named_before g i = length (filter (is_named (body_sharing (program_of g.program).body)) (take i (instances_of g)))

-- these are the numbers of the first shared wires of those of the first instances that name their shared ones
pub record AreFirstsOf (g : Graph) (numbers : List ℕ) (end : ℕ) (firsts : List ℕ) : Type 0 where
  pub each : length firsts ≡ named_before g end
  pub own : (i : ℕ) → i < end
      → is_named (body_sharing (program_of g.program).body) (instance_at (instances_of g) i) ≡ true
      → slice_index firsts (named_before g i) ≡ slice_index numbers (slice_index g.first_wires.items i)

-- how many of the first wires of a graph name their shared ones
abbrev pub shared_before : Graph → ℕ → ℕ
shared_before g w =
    length (filter (λ u. same_wire (shared_wire (body_sharing (program_of g.program).body) u) u) (take w (names_of g)))

-- for each shared instance the number of its first wire, and at last the number of shared wires
pub record AreFirstWires (g : Graph) (firsts : List ℕ) : Type 0 where
  pub each : length firsts ≡ length (shared_instances (program_of g.program)) + 1
  pub own : (i : ℕ) → i < length (instances_of g)
      → is_named (body_sharing (program_of g.program).body) (instance_at (instances_of g) i) ≡ true
      → slice_index firsts (named_before g i) ≡ shared_before g (slice_index g.first_wires.items i)
  pub last : slice_index firsts (length (shared_instances (program_of g.program)))
      ≡ length (shared_wires (program_of g.program))
