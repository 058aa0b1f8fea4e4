-- A source that compiles has no cause of a refusal.
use Rattle.std.proofs.Common.{◌≡◌, ℕ, ◌<◌, ◌≤◌, List, [], ◌∷◌, length, Option, refl, subst, arith}
use Rattle.base_types.specs.declared.bounds.TheConstants.Limits.{SOURCE_BYTES, INSTANCES, WIRES}
use Rattle.est_kernel.specs.Plain.{Program}
use Rattle.grc_graph.specs.GraphSizes.{graph_size}
use Rattle.grc_graph.specs.Edges.{Edge, edge}
use Rattle.grc_graph.specs.Instances.{body_instances}
use Rattle.grc_graph.specs.Orders.{GoUp}
use Rattle.grc_graph.specs.WireNames.{WireName}
use Rattle.grc_graph.specs.Wires.{Wire}
use Rattle.est_front.proofs.Exports.{one_program}
use Rattle.est_front.proofs.Unrefused as front
use Rattle.est_front.specs.declared.refusal.Quantity.{Quantity}
use Rattle.est_front.specs.declared.refusal.Quantity.TheVariants as quantities
use Rattle.est_front.specs.declared.refusal.SourceRefusal.TheVariants as fronts
use Rattle.est_front.specs.Refusals as front_refusals
use Rattle.est_front.specs.Sources.{StandsFor}
use Rattle.cec_commands.specs.declared.outcome.Outcome.TheVariants.{Limit}
use Rattle.cec_compile.specs.declared.refusal.Limit as bounds
use Rattle.cec_compile.specs.declared.refusal.Limit.TheVariants as limits
use Rattle.cec_compile.specs.declared.refusal.Refusal.{Refusal}
use Rattle.cec_compile.specs.declared.refusal.Refusal.TheVariants as refusals
use Rattle.cec_compile.specs.Cycles.{LeadsBack, IsCycle, ShowsCycle, IsAcyclic}
use Rattle.cec_commands.specs.Outcomes.{MakesOn}
use Rattle.cec_compile.specs.Refusals.{KeepsGraphLimits, IsRefused}
use Rattle.cec_compile.specs.Sources.{IsSource}
use Rattle.cec_commands.specs.TriRuns.{IsGraphSource}

-- ---- cycles

-- a walk along edges that go up in rank does not lead back
no_way_back : (edges : List Edge) (rank : Wire → ℕ) (first last : Wire) (walk : List Wire) → GoUp rank edges → rank first ≤ rank last
    → LeadsBack edges first last walk → ⊥
no_way_back edges rank first last [] up above leads =
    let less : rank last < rank first = up (edge last first) leads in
    absurd (omega (arith, above, less))
no_way_back edges rank first last (w ∷ ws) up above leads =
    let less : rank last < rank w = up (edge last w) leads.0 in
    no_way_back edges rank first w ws up (omega (arith, above, less)) leads.1

no_walk : (edges : List Edge) (rank : Wire → ℕ) (walk : List Wire) → GoUp rank edges → IsCycle edges walk → ⊥
no_walk edges rank [] up cycle = cycle
no_walk edges rank (w ∷ ws) up cycle = no_way_back edges rank w w ws up (omega arith) cycle

no_cycle : (p : Program) (names : List WireName) → IsAcyclic p → ShowsCycle p names → ⊥
no_cycle p names acyclic shown = no_walk _ acyclic.rank shown.walk acyclic.up shown.cycle

-- ---- refusals

-- a source that compiles has a graph
pub graph_source : (main : Option (List ℕ)) (bytes : List ℕ) → IsSource main bytes → IsGraphSource main bytes
graph_source main bytes s = record { program = s.program; short = s.short; source = s.source; limits = s.compiles.limits }

-- the graph of the program that a source stands for keeps the limits
the_limits : (main : Option (List ℕ)) (bytes : List ℕ) (q : Program) → IsGraphSource main bytes → StandsFor bytes main q → KeepsGraphLimits q
the_limits main bytes q s stands = subst KeepsGraphLimits (one_program bytes main s.program q s.source stands) s.limits

not_fronted : (main : Option (List ℕ)) (bytes : List ℕ) (quantity : Quantity) → IsGraphSource main bytes
    → front_refusals.IsSourceRefused bytes main (fronts.Limit quantity) → ⊥
not_fronted main bytes quantity s r =
    let same = front.unrefused bytes main s.program (fronts.Limit quantity) s.source r in
    cc

few_instances : (main : Option (List ℕ)) (bytes : List ℕ) (q : Program) → IsGraphSource main bytes → StandsFor bytes main q
    → INSTANCES < length (body_instances q.body) → ⊥
few_instances main bytes q s stands many =
    let few = (the_limits main bytes q s stands).few_instances in
    absurd (omega (arith, few, many))

few_wires : (main : Option (List ℕ)) (bytes : List ℕ) (q : Program) → IsGraphSource main bytes → StandsFor bytes main q → WIRES < graph_size q → ⊥
few_wires main bytes q s stands many =
    let few = (the_limits main bytes q s stands).few_wires in
    absurd (omega (arith, few, many))

short_enough : (main : Option (List ℕ)) (bytes : List ℕ) → IsGraphSource main bytes → SOURCE_BYTES < length bytes → ⊥
short_enough main bytes s long =
    let short = s.short in
    absurd (omega (arith, short, long))

-- a limit that a source with a graph passes
pub within_limits : (main : Option (List ℕ)) (bytes : List ℕ) (quantity : bounds.Limit) → IsGraphSource main bytes
    → IsRefused bytes main (refusals.Limit quantity) → ⊥
within_limits main bytes limits.Source s r = short_enough main bytes s r
within_limits main bytes limits.Trace s r = r
within_limits main bytes limits.Text s r = r
within_limits main bytes limits.Nesting s r = not_fronted main bytes quantities.Nesting s r
within_limits main bytes limits.Statements s r = not_fronted main bytes quantities.Statements s r
within_limits main bytes limits.Signals s r = not_fronted main bytes quantities.Signals s r
within_limits main bytes limits.Kernel s r = not_fronted main bytes quantities.Kernel s r
within_limits main bytes limits.Height s r = not_fronted main bytes quantities.Height s r
within_limits main bytes limits.Traps s r = not_fronted main bytes quantities.Traps s r
within_limits main bytes limits.Instances s r = few_instances main bytes r.0 s r.1 r.2
within_limits main bytes limits.Wires s r = few_wires main bytes r.0 s r.1 r.2.1

-- a source that compiles is refused for want of memory alone
pub unrefused : (main : Option (List ℕ)) (bytes : List ℕ) (refusal : Refusal) → IsSource main bytes → IsRefused bytes main refusal → refusal ≡ refusals.NoMemory
unrefused main bytes (refusals.Static fault) s r = absurd (front.no_fault bytes main s.program fault s.source r)
unrefused main bytes (refusals.Cyclic c) s r =
    let same : s.program ≡ r.0 = one_program bytes main s.program r.0 s.source r.1 in
    absurd (no_cycle r.0 _ (subst IsAcyclic same s.compiles.acyclic) r.2.1)
unrefused main bytes (refusals.Limit quantity) s r = absurd (within_limits main bytes quantity (graph_source main bytes s) r)
unrefused main bytes refusals.NoMemory s r = refl

-- a limit that a source passes
pub passes_limit : (main : Option (List ℕ)) (bytes : List ℕ) (quantity : bounds.Limit) → IsSource main bytes → MakesOn main (Limit quantity) bytes → ⊥
passes_limit main bytes limits.Source s a = within_limits main bytes limits.Source (graph_source main bytes s) a
passes_limit main bytes limits.Trace s a = within_limits main bytes limits.Trace (graph_source main bytes s) a.refused
passes_limit main bytes limits.Text s a = within_limits main bytes limits.Text (graph_source main bytes s) a.refused
passes_limit main bytes limits.Nesting s a = within_limits main bytes limits.Nesting (graph_source main bytes s) a.refused
passes_limit main bytes limits.Statements s a = within_limits main bytes limits.Statements (graph_source main bytes s) a.refused
passes_limit main bytes limits.Signals s a = within_limits main bytes limits.Signals (graph_source main bytes s) a.refused
passes_limit main bytes limits.Kernel s a = within_limits main bytes limits.Kernel (graph_source main bytes s) a.refused
passes_limit main bytes limits.Height s a = within_limits main bytes limits.Height (graph_source main bytes s) a.refused
passes_limit main bytes limits.Traps s a = within_limits main bytes limits.Traps (graph_source main bytes s) a.refused
passes_limit main bytes limits.Instances s a = within_limits main bytes limits.Instances (graph_source main bytes s) a.refused
passes_limit main bytes limits.Wires s a = within_limits main bytes limits.Wires (graph_source main bytes s) a.refused
