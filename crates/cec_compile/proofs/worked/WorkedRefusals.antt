-- Written by hand: where the bounds of graphs and texts lie, and what each refusal says, row by row.
use Rattle.std.proofs.Common.{◌≡◌, ◌<◌, ◌≤◌, ℕ, List, [], length, map, None, Option, arith}
use Rattle.est_kernel.specs.Plain.{Program}
use Rattle.grc_graph.specs.GraphSizes.{graph_size}
use Rattle.grc_graph.specs.Instances.{body_instances}
use Rattle.grc_graph.specs.PlainWireNames.{wire_name_of}
use Rattle.est_front.specs.Refusals as front
use Rattle.est_front.specs.Sources.{StandsFor}
use Rattle.est_front.specs.declared.refusal.Fault.TheVariants as faults
use Rattle.est_front.specs.declared.refusal.Quantity.TheVariants as quantities
use Rattle.est_front.specs.declared.refusal.SourceRefusal.TheVariants as fronts
use Rattle.cec_compile.specs.Compiling.{IsVerilogOf}
use Rattle.cec_compile.specs.Cycles.{ShowsCycle, IsAcyclic}
use Rattle.cec_compile.specs.EncodedTexts.{IsEncodedBlifOf}
use Rattle.cec_compile.specs.GuardedTexts.{IsGuardedOf}
use Rattle.cec_compile.specs.Refusals.{KeepsGraphLimits, Compiles, DoesNotCompile, StandsWithoutText, IsRefused}
use Rattle.cec_compile.specs.Sources.{IsSource, IsRefusedSource, HasLongText, WritesLongText}
use Rattle.cec_compile.specs.declared.forms.TextForm.TheVariants as forms
use Rattle.cec_compile.specs.declared.refusal.Limit.TheVariants as limits
use Rattle.cec_compile.specs.declared.refusal.Refusal.{Refusal}
use Rattle.cec_compile.specs.declared.refusal.Refusal.TheVariants.{Static, Cyclic, Limit, NoMemory}
use Rattle.cec_compile.specs.declared.cycles.Cycle.{Cycle}

-- ---- graphs

keeps_its_limits : (p : Program) → length (body_instances p.body) ≡ 131072 → graph_size p ≡ 262144 → KeepsGraphLimits p
keeps_its_limits p instances wires = record { few_instances = omega (arith, instances); few_wires = omega (arith, wires) }

too_many_instances : (p : Program) → length (body_instances p.body) ≡ 131073 → KeepsGraphLimits p → ⊥
too_many_instances p instances h = let few = h.few_instances in omega (arith, instances, few)

too_many_wires : (p : Program) → graph_size p ≡ 262145 → KeepsGraphLimits p → ⊥
too_many_wires p wires h = let few = h.few_wires in omega (arith, wires, few)

what_compiles : (p : Program) → Compiles p → KeepsGraphLimits p × IsAcyclic p
what_compiles p h = (h.limits, h.acyclic)

-- ---- programs that do not compile

for_no_fault : (p : Program) → DoesNotCompile p (Static (faults.BadByte 3)) → ⊥
for_no_fault p h = h

for_instances : (p : Program) → length (body_instances p.body) ≡ 131073 → DoesNotCompile p (Limit limits.Instances)
for_instances p instances = omega (arith, instances)

not_at_the_bound : (p : Program) → length (body_instances p.body) ≡ 131072 → DoesNotCompile p (Limit limits.Instances) → ⊥
not_at_the_bound p instances h = omega (arith, instances, h)

for_wires : (p : Program) → length (body_instances p.body) ≡ 131072 → graph_size p ≡ 262145 → DoesNotCompile p (Limit limits.Wires)
for_wires p instances wires = (omega (arith, instances), omega (arith, wires))

not_at_the_bound_of_wires : (p : Program) → graph_size p ≡ 262144 → DoesNotCompile p (Limit limits.Wires) → ⊥
not_at_the_bound_of_wires p wires h = let many = h.1 in omega (arith, wires, many)

for_no_other_limit : (p : Program) → DoesNotCompile p (Limit limits.Kernel) → ⊥
for_no_other_limit p h = h

for_a_cycle : (p : Program) (c : Cycle) → DoesNotCompile p (Cyclic c) → KeepsGraphLimits p × ShowsCycle p (map wire_name_of c.wires.items)
for_a_cycle p c h = h

want_of_memory : (p : Program) → DoesNotCompile p NoMemory
want_of_memory p = tt

-- ---- sources that are refused

stands_without : (text : List ℕ) (main : Option (List ℕ)) (refusal : Refusal) → StandsWithoutText text main refusal
    → (p : Program) × StandsFor text main p × DoesNotCompile p refusal
stands_without text main refusal h = h

too_long : (text : List ℕ) → length text ≡ 1048577 → IsRefused text None (Limit limits.Source)
too_long text long = omega (arith, long)

not_at_the_bound_of_sources : (text : List ℕ) → length text ≡ 1048576 → IsRefused text None (Limit limits.Source) → ⊥
not_at_the_bound_of_sources text long h = omega (arith, long, h)

by_the_front : (text : List ℕ) (main : Option (List ℕ))
    → (IsRefused text main (Limit limits.Nesting) → front.IsSourceRefused text main (fronts.Limit quantities.Nesting))
    × (IsRefused text main (Limit limits.Statements) → front.IsSourceRefused text main (fronts.Limit quantities.Statements))
    × (IsRefused text main (Limit limits.Signals) → front.IsSourceRefused text main (fronts.Limit quantities.Signals))
    × (IsRefused text main (Limit limits.Kernel) → front.IsSourceRefused text main (fronts.Limit quantities.Kernel))
    × (IsRefused text main (Limit limits.Height) → front.IsSourceRefused text main (fronts.Limit quantities.Height))
    × (IsRefused text main (Limit limits.Traps) → front.IsSourceRefused text main (fronts.Limit quantities.Traps))
    × (IsRefused text main (Static (faults.BadByte 3)) → front.IsSourceRefused text main (fronts.Static (faults.BadByte 3)))
by_the_front text main = (λ h. h, λ h. h, λ h. h, λ h. h, λ h. h, λ h. h, λ h. h)

by_the_graph : (text : List ℕ) (main : Option (List ℕ)) (c : Cycle)
    → (IsRefused text main (Limit limits.Instances) → StandsWithoutText text main (Limit limits.Instances))
    × (IsRefused text main (Limit limits.Wires) → StandsWithoutText text main (Limit limits.Wires))
    × (IsRefused text main (Cyclic c) → StandsWithoutText text main (Cyclic c))
by_the_graph text main c = (λ h. h, λ h. h, λ h. h)

never_for_a_trace : IsRefused [] None (Limit limits.Trace) → ⊥
never_for_a_trace h = h

never_for_a_text : IsRefused [] None (Limit limits.Text) → ⊥
never_for_a_text h = h

want_of_memory_has_no_cause : IsRefused [] None NoMemory
want_of_memory_has_no_cause = tt

-- ---- sources, and texts that are too long to be read

a_source : (main : Option (List ℕ)) (bytes : List ℕ) (h : IsSource main bytes)
    → (length bytes ≤ 1048576) × StandsFor bytes main h.program × Compiles h.program
a_source main bytes h = (h.short, h.source, h.compiles)

a_refused_source : (main : Option (List ℕ)) (bytes : List ℕ) → IsRefusedSource main NoMemory bytes → (length bytes ≤ 1048576) × IsRefused bytes main NoMemory
a_refused_source main bytes h = (h.short, h.refused)

a_long_text : (main : Option (List ℕ)) (bytes : List ℕ) (h : HasLongText IsVerilogOf main bytes)
    → (length bytes ≤ 1048576) × IsVerilogOf bytes main h.text × (268435456 < length h.text)
a_long_text main bytes h = (h.short, h.written, h.long)

of_these_forms : (main : Option (List ℕ)) (bytes : List ℕ) → (WritesLongText forms.EncodedBlif main bytes → HasLongText IsEncodedBlifOf main bytes)
    × (WritesLongText forms.Guarded main bytes → HasLongText IsGuardedOf main bytes)
    × (WritesLongText forms.Verilog main bytes → HasLongText IsVerilogOf main bytes)
of_these_forms main bytes = (λ h. h, λ h. h, λ h. h)

of_no_other_form : (main : Option (List ℕ)) (bytes : List ℕ) → (WritesLongText forms.Blif main bytes → ⊥) × (WritesLongText forms.C main bytes → ⊥)
of_no_other_form main bytes = (λ h. h, λ h. h)
