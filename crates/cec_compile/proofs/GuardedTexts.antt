-- The guarded text of a compiled program keeps what the program means.
use Rattle.std.proofs.Common.{◌≡◌, ℕ, ◌≤◌, List, ◌++◌, map, length, Option, sym, ap, ◌∙◌, subst, arith}
use Rattle.std.proofs.lemmas.List.{length-take}
use Rattle.std.proofs.lemmas.Simd.{map-map}
use Rattle.std.specs.Prelude.{false, codes}
use Rattle.base_types.specs.declared.indices.WireId.{WireId}
use Rattle.est_kernel.specs.Plain.{Program, given_count, program_of}
use Rattle.base_machines.proofs.Exports.{shows-computed}
use Rattle.grc_graph.specs.BuiltGraphs.{IsGraphOf}
use Rattle.grc_solutions_laws.proofs.Exports.{program_kernel}
use Rattle.grc_regions.specs.Regions.{AreRegions, HeadsAreFree}
use Rattle.net_ir.specs.Netlists.{Netlist}
use Rattle.net_ir.specs.Runs.{netlist_of}
use Rattle.csub_text.specs.Machine.{first_memory}
use Rattle.csub_text.specs.Written.{input_variable, shown_by_call}
use Rattle.csub_guard.specs.Machine.{call, calls, seen}
use Rattle.csub_guard_blocks.specs.Blocks.{guarded_text}
use Rattle.csub_guard_blocks.specs.Owners.{owners}
use Rattle.csub_guard_writer.specs.Meaning.{GuardedMeans}
use Rattle.csub_guard_writer.specs.Regions.{region_by}
use Rattle.csub_guard_writer_laws.specs.Guarded.{GuardedRuns}
use Rattle.csub_guard_writer_laws.proofs.Exports.{guarded_texts_run_lem}
use Rattle.cec_compile.specs.Compiling.{IsCompiled, StandsForNet}
use Rattle.cec_compile.specs.Following.{FollowsGraph}
use Rattle.cec_compile.specs.GuardedTexts.{GuardedTextKeeps, guarded_seen}
use Rattle.cec_compile.specs.MadeGuarded.{IsGuardedBy}
use Rattle.cec_compile.specs.NetMeaning.{NetKeeps}
use Rattle.cec_compile.specs.SourceTexts.{IsSourceText}
use Rattle.cec_compile.specs.WireGroups.{is_shared}
use Rattle.cec_compile.specs.declared.passes.Compiled.{Compiled}
use Rattle.cec_compile.specs.declared.forms.TextForm.TheVariants as forms
use Rattle.cec_compile.proofs.Joined.{given-few, inputs_wide, kernel_of}
use Rattle.cec_compile.proofs.Keeping.{called, calls-seen, map-variables, widths}

-- a text that means a net over all items, which keeps what a program means, keeps it too
guarded_keeps : (text : List ℕ) (net : Netlist) (regions : List (Option WireId)) (p : Program) → given_count p ≤ length p.signals
    → NetKeeps net p → GuardedRuns text net regions → GuardedTextKeeps text p
guarded_keeps text net regions p few keeps means = record {
  program = means.program;
  describes = means.describes;
  inputs = means.inputs ∙ ap (map input_variable) keeps.inputs;
  outputs = means.outputs ∙ map-variables net.outputs ∙ ap (map (λ name. codes "O_" ++ name)) keeps.outputs;
  keeps = record {
    runs = λ items fits.
        let c = means.program in
        let found = keeps.runs items fits in
        let wide : given_count p ≡ length net.inputs = sym (ap length keeps.inputs ∙ omega (arith, length-take (given_count p) p.signals)) in
        let runs = means.shows items (widths p (length net.inputs) wide items fits) in
        let told = sym (calls-seen found.0) ∙ ap (λ l. map called (map shown_by_call l)) (sym found.2) ∙ ap (map called) (sym runs)
        ∙ map-map called (seen c) (calls c items) in
        let all = shows-computed (first_memory c.states) (λ m inputs. call c inputs m) (λ m inputs behind. behind.memory) (guarded_seen c)
        (first_memory c.states) items in (
          found.0,
          found.1,
          record { some_run = all.some_run; each_run = λ ms run. told ∙ all.each_run ms run },
        );
  };
}

-- where wires are not shared, the graph of what a source is compiled to is that of its own program
pub own_made : {text : List ℕ} {main : Option (List ℕ)} (c : Compiled) → StandsForNet text main c → is_shared c.graph ≡ false
    → IsGraphOf c.graph (program_of c.graph.program)
own_made c s own = subst (IsGraphOf c.graph) (sym s.compiled.program) (s.compiled.own own)

-- the text that is written of a compiled program by the regions of its graph
pub guarded_by : (c : Compiled) (p : Program) (regions : List (Option WireId)) (text : List ℕ) → IsCompiled c p
    → IsGraphOf c.graph (program_of c.graph.program) → FollowsGraph c → AreRegions c.graph regions
    → HeadsAreFree regions → text ≡ guarded_text (netlist_of c.net) (owners (netlist_of c.net) (region_by (netlist_of c.net) regions))
    → GuardedMeans text (netlist_of c.net) regions → IsGuardedBy c text
guarded_by c p regions text h built follows are free spelled means = record {
  regions = regions;
  are = are;
  free = free;
  spelled = spelled;
  runs = guarded_texts_run_lem c.graph p (netlist_of c.net) regions h.compiles.acyclic.rank text
      (program_kernel p h.formed (kernel_of c.graph p h.program)) h.no_loop h.compiles.acyclic.up (subst (IsGraphOf c.graph) h.program built)
      (sym (inputs_wide c p h)) follows.runs are means;
}

pub guarded_is : (bytes : List ℕ) (main : Option (List ℕ)) (c : Compiled) (text : List ℕ) → StandsForNet bytes main c
    → is_shared c.graph ≡ false → IsGuardedBy c text → IsSourceText forms.Guarded main bytes text
guarded_is bytes main c text s own g = (
  record {
    program = s.program;
    source = s.source;
    compiles = s.compiled.compiles;
    keeps = guarded_keeps text (netlist_of c.net) g.regions s.program (given-few s.program s.compiled.formed) s.compiled.keeps g.runs;
  },
  record { made = c; compiled = s; own = own; regions = g.regions; are = g.are; free = g.free; text = g.spelled; runs = g.runs },
)
