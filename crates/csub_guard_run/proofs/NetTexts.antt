-- Inner: the program of a net's text shows what the net does.
use Rattle.std.proofs.Common.{◌≡◌, ℕ, List, length, map, sym, ap, ◌∙◌}
use Rattle.std.proofs.lemmas.List.{length-map}
use Rattle.std.proofs.lemmas.Simd.{map-map}
use Rattle.base_types.specs.Items.{Item}
use Rattle.base_machines.proofs.Exports.{computed-shows}
use Rattle.net_ir.specs.Netlists.{Netlist}
use Rattle.net_ir.specs.Runs.{net_run}
use Rattle.csub_guard.specs.Machine.{inputs_of, outputs_of, call, calls, run, seen}
use Rattle.csub_guard.specs.Trees.{Program}
use Rattle.csub_run.proofs.Exports.{answers-shown}
use Rattle.csub_run.specs.ProgramAnswers.{answer_seen}
use Rattle.csub_text.specs.Machine.{first_memory}
use Rattle.csub_text.specs.Written.{input_variable, output_variable}
use Rattle.csub_guard_read.specs.Faults.{ReadsAs}
use Rattle.csub_guard_read.proofs.Exports.{described-are-read}
use Rattle.csub_guard_run.specs.ProgramAnswers.{call_answer, program_shows}
use Rattle.csub_guard_run.specs.Showing.{Counter, IsNew, counted_program, counter_shows}
use Rattle.csub_guard_run.specs.Texts.{Means}
use Rattle.csub_guard_run.specs.Tracing.{IsProgramOf}
use Rattle.csub_guard_run.proofs.Showing.{fresh_shows}
use Rattle.run_over_traces.specs.Languages.{IsOfNet}
use Rattle.run_over_traces.specs.Machines.{ShownAnswer}

-- such a text is read as the program by which it means the net
pub reader-reads : (text : List ℕ) (net : Netlist) (p : Program) → Means text net → ReadsAs text p → IsProgramOf text net p
reader-reads text net p means reads =
    record { means = means; is = (described-are-read text means.program means.describes).only p reads.describes }

-- its program has as many inputs and outputs as the net
pub inputs-counted : (text : List ℕ) (net : Netlist) (p : Program) → IsProgramOf text net p → length (inputs_of p) ≡ length net.inputs
inputs-counted text net p of = ap (λ q. length (inputs_of q)) of.is ∙ ap length of.means.inputs ∙ length-map net.inputs input_variable

pub outputs-counted : (text : List ℕ) (net : Netlist) (p : Program) → IsProgramOf text net p → length (outputs_of p) ≡ length net.outputs
outputs-counted text net p of = ap (λ q. length (outputs_of q)) of.is ∙ ap length of.means.outputs ∙ length-map net.outputs output_variable

-- a program shows the answers of its run
shows-run : (p : Program) (items : List Item) (answers : List ShownAnswer) → program_shows p items answers → answers ≡ map answer_seen (run p items)
shows-run p items answers shows =
    computed-shows (first_memory p.states) (λ m inputs. call p inputs m) (λ m inputs behind. behind.memory) (call_answer p) (first_memory p.states) items
    answers shows
    ∙ sym (map-map answer_seen (seen p) (calls p items))

-- a new machine of it shows the net
pub counter-net : (text : List ℕ) (net : Netlist) (m : Counter) → IsProgramOf text net (counted_program m) → IsNew m → IsOfNet counter_shows m net
counter-net text net m of new = record {
  told = λ items answers wide shows.
      shows-run (counted_program m) items answers (fresh_shows m new.calls items answers shows)
      ∙ ap (λ q. map answer_seen (run q items)) of.is ∙ ap (map answer_seen) (of.means.shows items wide) ∙ answers-shown (net_run net items);
}
