-- The program of a net's text shows what the net does.
use Rattle.std.proofs.Common.{◌≡◌, ℕ, List, [], ◌∷◌, length, map, refl, sym, ap, ◌∙◌}
use Rattle.std.proofs.lemmas.List.{length-map}
use Rattle.std.proofs.lemmas.Simd.{map-map}
use Rattle.base_types.specs.Items.{Item}
use Rattle.base_machines.proofs.Exports.{computed-shows}
use Rattle.net_ir.specs.Netlists.{Netlist}
use Rattle.net_ir.specs.Runs.{Shown, net_run}
use Rattle.csub_read.specs.Faults.{ReadsAs}
use Rattle.csub_read.proofs.Exports.{written-are-read}
use Rattle.csub_text.specs.Machine.{seen, first_memory, call, memories, run}
use Rattle.csub_text.specs.Names.{inputs_of, outputs_of}
use Rattle.csub_text.specs.Trees.{Program}
use Rattle.csub_text.specs.Written.{Means, input_variable, output_variable, shown_by_call}
use Rattle.csub_run.specs.ProgramAnswers.{answer_seen, call_answer, program_shows}
use Rattle.csub_run.specs.Runners.{Runner, program_in, IsFresh}
use Rattle.csub_run.specs.Showing.{runner_shows}
use Rattle.csub_run.specs.Tracing.{IsProgramOf}
use Rattle.csub_run.proofs.Showing.{fresh_shows}
use Rattle.run_over_traces.specs.Languages.{shown_answer, IsOfNet}
use Rattle.run_over_traces.specs.Machines.{ShownAnswer}

-- and reads it as the program by which it means the net
pub reader-reads : (text : List ℕ) (net : Netlist) (p : Program) → Means text net → ReadsAs text p → IsProgramOf net p
reader-reads text net p means reads = record { text = text; means = means; is = (written-are-read text net means).only p reads.describes }

-- its program has as many inputs and outputs as the net
pub inputs-counted : (net : Netlist) (p : Program) → IsProgramOf net p → length net.inputs ≡ length (inputs_of p)
inputs-counted net p of =
    sym (ap (λ q. length (inputs_of q)) of.is ∙ ap length of.means.inputs ∙ length-map net.inputs input_variable)

pub outputs-counted : (net : Netlist) (p : Program) → IsProgramOf net p → length net.outputs ≡ length (outputs_of p)
outputs-counted net p of =
    sym (ap (λ q. length (outputs_of q)) of.is ∙ ap length of.means.outputs ∙ length-map net.outputs output_variable)

pub answers-shown : (shown : List Shown) → map answer_seen (map shown_by_call shown) ≡ map shown_answer shown
answers-shown [] = refl
answers-shown (s ∷ shown) = ap (λ l. shown_answer s ∷ l) (answers-shown shown)

-- a program shows the answers of its run
shows-run : (p : Program) (items : List Item) (answers : List ShownAnswer) → program_shows p items answers → answers ≡ map answer_seen (run p items)
shows-run p items answers shows =
    computed-shows (first_memory p.states) (λ m inputs. call p inputs m) (λ m inputs behind. behind) (call_answer p) (first_memory p.states) items answers shows
    ∙ sym (map-map answer_seen (seen p) (memories p items))

-- a fresh machine of it shows the net
pub runner-net : (net : Netlist) (r : Runner) → IsProgramOf net (program_in r) → IsFresh r → IsOfNet runner_shows r net
runner-net net r of fresh = record {
  told = λ items answers wide shows.
      shows-run (program_in r) items answers (fresh_shows r fresh items answers shows) ∙ ap (λ q. map answer_seen (run q items)) of.is
      ∙ ap (map answer_seen) (of.means.shows items wide) ∙ answers-shown (net_run net items);
}
