-- What the embedded text of a source keeps, and why a source has none under a name.
use Rattle.std.proofs.Common.{◌≡◌, ◌≤◌, ℕ, Bool, List, ◌++◌, length, map, Option, Result, Ok, Err, sym, ap, ap₂, ◌∙◌, subst, arith}
use Rattle.std.specs.Prelude.{IfOk}
use Rattle.std.proofs.lemmas.List.{length-take}
use Rattle.base_facts.proofs.Lists.{map-composed}
use Rattle.base_types.specs.Stops.{IfFault}
use Rattle.base_types.specs.declared.stop.Stop.{Stop}
use Rattle.est_kernel.specs.Plain.{Program, given_count}
use Rattle.net_ir.specs.declared.netlist.Net.{Net}
use Rattle.net_ir.specs.Netlists.{Netlist}
use Rattle.net_ir.specs.Runs.{netlist_of}
use Rattle.csub_text.specs.Written.{shown_by_call}
use Rattle.csub_embed.specs.Faults.{IsEmbedFault, signals, under_name}
use Rattle.csub_embed.specs.Machine.{own_items}
use Rattle.csub_embed.specs.Texts.{EmbedFiles}
use Rattle.csub_embed.specs.Written.{files_with, written, Means}
use Rattle.csub_embed.specs.declared.layout.EmbedLayout.{EmbedLayout}
use Rattle.cec_compile.specs.NetMeaning.{NetKeeps, net_seen}
use Rattle.cec_compile.proofs.Exports.{widths}
use Rattle.cec_cycles.specs.Constructive.{IsConstructiveNetOf, StandsForConstructiveNet}
use Rattle.cec_opt_sources.specs.declared.light.Coding.TheVariants.{Lighter}
use Rattle.cec_cycles.specs.declared.findings.CycleRefusal.{CycleRefusal}
use Rattle.cec_opt_faults.proofs.Exports.{unmade-as}
use Rattle.cec_opt_faults.specs.Causes.{IsSourceCause, IsUnmade}
use Rattle.cec_opt_faults.specs.declared.unmade.Unmade.{Unmade}
use Rattle.csub_embed.specs.declared.fault.EmbedFault.{EmbedFault}
use Rattle.cec_opt_embed.specs.Faults.{IsProgramNameFault, IsSourceEmbedFault}
use Rattle.cec_opt_embed.specs.Sources.{EmbeddedTextKeeps, IsComponentNetOf, StandsForEmbedded}
use Rattle.cec_opt_embed.proofs.Apart.{apart}

-- files that mean a net under a name keep what the net keeps
net-keeps : (packed : Bool) (files : EmbedFiles) (name : List ℕ) (net : Netlist) (p : Program) → given_count p ≤ length p.signals → NetKeeps net p
    → Means packed files (under_name name net) → EmbeddedTextKeeps packed files name p
net-keeps packed files name net p few keeps means = record {
  component = means.component;
  describes = means.describes;
  named = means.name;
  inputs = means.inputs ∙ keeps.inputs;
  outputs = means.outputs ∙ keeps.outputs;
  keeps = λ instances calls k begins fits.
      let items = own_items k calls in
      let found = keeps.runs items fits in
      let wide : given_count p ≡ length net.inputs = sym (ap length keeps.inputs ∙ omega (arith, length-take (given_count p) p.signals)) in (
        found.0,
        found.1,
        means.shows instances calls k begins (widths p (length net.inputs) wide items fits) ∙ ap (map shown_by_call) found.2
            ∙ sym (map-composed shown_by_call net_seen found.0),
      );
  apart = apart means.component;
}

pub source-stands : (text : List ℕ) (main : Option (List ℕ)) (name : List ℕ) (layout : EmbedLayout) (net : Netlist) (embedded : List ℕ)
    → IsComponentNetOf text main name net → embedded ≡ written layout net → Means layout.packed (files_with layout embedded net) net
    → StandsForEmbedded text main name layout embedded
source-stands text main name layout net embedded is spelled means =
    let s = is.stands in
    let files = files_with layout embedded net in
    record {
      program = s.program;
      source = s.source;
      limits = s.limits;
      made = record { net = net; is = is; spelled = spelled };
      keeps = net-keeps layout.packed files name is.given s.program s.few s.keeps (subst (Means layout.packed files) is.named means);
    }

-- ---- a netlist under a name

pub source-net : (text : List ℕ) (main : Option (List ℕ)) (name : List ℕ) (given : Netlist) (result : Result Net (Stop (Unmade CycleRefusal EmbedFault)))
    → StandsForConstructiveNet text main given → IsConstructiveNetOf Lighter text main given → IfOk result (λ n. netlist_of n ≡ under_name name given)
    → IfOk result (λ n. IsComponentNetOf text main name (netlist_of n))
source-net text main name given (Ok n) stands made named = record { given = given; stands = stands; made = made; named = named }
source-net text main name given (Err stop) stands made named = tt

-- a fault of the name or of a signal, where the source has a netlist
pub source-fault : (text : List ℕ) (main : Option (List ℕ)) (name : List ℕ) (given : Netlist) (result : Result Net (Stop (Unmade CycleRefusal EmbedFault)))
    → StandsForConstructiveNet text main given → IfFault result (IsUnmade (λ cause. ⊥) (IsEmbedFault name (signals given)))
    → IfFault result (IsSourceEmbedFault text main name)
source-fault text main name given result stands is =
    unmade-as (IsSourceCause text main) (IsEmbedFault name (signals given)) (IsProgramNameFault text main name) result (λ fault is. record {
      net = given;
      stands = stands;
      is = subst (λ names. IsEmbedFault name names fault) (ap₂ (λ inputs outputs. inputs ++ outputs) stands.keeps.inputs stands.keeps.outputs) is;
    }) is
