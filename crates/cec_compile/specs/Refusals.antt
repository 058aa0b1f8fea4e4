-- To believe: why a source has no text. The refusals come in the order of the passes, so each says that none before it
-- comes. Running out of memory has no cause in the source.
use Rattle.std.specs.Prelude.{◌<◌, ◌≤◌, ℕ, List, length, map, Option, ⊤}
use Rattle.base_types.specs.declared.bounds.TheConstants.Limits.{SOURCE_BYTES, INSTANCES, WIRES}
use Rattle.est_kernel.specs.Plain.{Program}
use Rattle.grc_graph.specs.GraphSizes.{graph_size}
use Rattle.grc_graph.specs.Instances.{body_instances}
use Rattle.grc_graph.specs.PlainWireNames.{wire_name_of}
use Rattle.est_front.specs.Refusals as front
use Rattle.est_front.specs.Sources.{StandsFor}
use Rattle.est_front.specs.declared.refusal.Quantity.TheVariants as quantities
use Rattle.est_front.specs.declared.refusal.SourceRefusal.TheVariants as fronts
use Rattle.cec_compile.specs.Cycles.{ShowsCycle, IsAcyclic}
use Rattle.cec_compile.specs.declared.refusal.Limit.TheVariants as limits
use Rattle.cec_compile.specs.declared.refusal.Refusal.{Refusal}
use Rattle.cec_compile.specs.declared.refusal.Refusal.TheVariants.{Static, Cyclic, Limit, NoMemory}

-- The graph of a program keeps the limits.
pub record KeepsGraphLimits (p : Program) : Type 0 where
  pub few_instances : length (body_instances p.body) ≤ INSTANCES
  pub few_wires : graph_size p ≤ WIRES

-- A program that compiles: its graph keeps the limits, and its dependency relation has no cycle.
pub record Compiles (p : Program) : Type 0 where
  pub limits : KeepsGraphLimits p
  pub acyclic : IsAcyclic p

-- why a program does not compile
abbrev pub DoesNotCompile : Program → Refusal → Type 0
DoesNotCompile p (Static fault) = ⊥
DoesNotCompile p (Cyclic c) = KeepsGraphLimits p × ShowsCycle p (map wire_name_of c.wires.items)
DoesNotCompile p (Limit limits.Instances) = INSTANCES < length (body_instances p.body)
DoesNotCompile p (Limit limits.Wires) = (length (body_instances p.body) ≤ INSTANCES) × (WIRES < graph_size p)
DoesNotCompile p (Limit others) = ⊥
DoesNotCompile p NoMemory = ⊤

-- the source stands for such a program
abbrev pub StandsWithoutText : List ℕ → Option (List ℕ) → Refusal → Type 0
StandsWithoutText text main refusal = (p : Program) × StandsFor text main p × DoesNotCompile p refusal

abbrev pub IsRefused : List ℕ → Option (List ℕ) → Refusal → Type 0
IsRefused text main (Static fault) = front.IsSourceRefused text main (fronts.Static fault)
IsRefused text main (Cyclic c) = StandsWithoutText text main (Cyclic c)
IsRefused text main (Limit limits.Source) = SOURCE_BYTES < length text
IsRefused text main (Limit limits.Nesting) = front.IsSourceRefused text main (fronts.Limit quantities.Nesting)
IsRefused text main (Limit limits.Statements) = front.IsSourceRefused text main (fronts.Limit quantities.Statements)
IsRefused text main (Limit limits.Signals) = front.IsSourceRefused text main (fronts.Limit quantities.Signals)
IsRefused text main (Limit limits.Kernel) = front.IsSourceRefused text main (fronts.Limit quantities.Kernel)
IsRefused text main (Limit limits.Height) = front.IsSourceRefused text main (fronts.Limit quantities.Height)
IsRefused text main (Limit limits.Traps) = front.IsSourceRefused text main (fronts.Limit quantities.Traps)
IsRefused text main (Limit limits.Instances) = StandsWithoutText text main (Limit limits.Instances)
IsRefused text main (Limit limits.Wires) = StandsWithoutText text main (Limit limits.Wires)
IsRefused text main (Limit limits.Trace) = ⊥
IsRefused text main (Limit limits.Text) = ⊥
IsRefused text main NoMemory = ⊤
