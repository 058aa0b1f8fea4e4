-- Contract: the graph of a source, whose dependencies may have a cycle, and why a source has none.
use Rattle.std.specs.Prelude.{◌≡◌, ◌≤◌, ℕ, List, length, map, Option}
use Rattle.base_types.specs.declared.bounds.TheConstants.Limits.{INSTANCES}
use Rattle.est_kernel.specs.Plain.{Program}
use Rattle.est_kernel.specs.StaticCodes.{NoInstantLoop}
use Rattle.est_kernel.specs.WellFormed.{IsWellFormed, HasNames}
use Rattle.grc_graph.specs.declared.graph.Graph.{Graph}
use Rattle.grc_graph.specs.BuiltGraphs.{IsGraphOf}
use Rattle.grc_graph.specs.Instances.{body_instances}
use Rattle.grc_graph.specs.SelectionTrees.{body_leaves, body_tree}
use Rattle.grc_graph.specs.TreeForms.{tree_node}
use Rattle.est_front.specs.Sources.{StandsFor}
use Rattle.cec_compile.specs.Refusals.{DoesNotCompile, IsRefused}
use Rattle.cec_compile.specs.declared.refusal.Refusal.{Refusal}
use Rattle.cec_compile.specs.declared.refusal.Refusal.TheVariants.{Cyclic}

-- The graph is the program's, and so is its tree.
pub record IsBuilt (g : Graph) (p : Program) : Type 0 where
  pub formed : IsWellFormed p
  pub names : HasNames p
  pub no_loop : NoInstantLoop p.body
  pub few : length (body_instances p.body) ≤ INSTANCES
  pub graph : IsGraphOf g p
  pub tree : map tree_node g.tree.nodes.items ≡ body_tree p.body
  pub leaves : g.tree.leaves ≡ length (body_leaves p.body)

-- The bytes stand for the program of the graph.
pub record StandsForBuilt (text : List ℕ) (main : Option (List ℕ)) (g : Graph) : Type 0 where
  pub program : Program
  pub source : StandsFor text main program
  pub built : IsBuilt g program

-- why a program has no graph: as why it does not compile, except for a cycle
abbrev pub HasNoGraph : Program → Refusal → Type 0
HasNoGraph p (Cyclic c) = ⊥
HasNoGraph p others = DoesNotCompile p others

-- why a source has none
abbrev pub IsRefusedGraph : List ℕ → Option (List ℕ) → Refusal → Type 0
IsRefusedGraph text main (Cyclic c) = ⊥
IsRefusedGraph text main others = IsRefused text main others
