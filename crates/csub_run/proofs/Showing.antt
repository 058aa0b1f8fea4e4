-- What a machine shows: a call and a reset put their item in front of what it shows from then on.
use Rattle.std.proofs.Common.{◌≡◌, ℕ, Bool, List, ◌∷◌, map, refl, sym, ap, ◌∙◌, subst}
use Rattle.base_types.specs.Items.{Item, Event}
use Rattle.base_machines.specs.Machines.{Shows}
use Rattle.base_machines.proofs.Exports.{shows-event, shows-reset}
use Rattle.csub_text.specs.Machine.{Memory, value_of, first_memory, call, program_machine}
use Rattle.csub_text.specs.Names.{outputs_of}
use Rattle.csub_text.specs.Views.{program_of}
use Rattle.csub_run.specs.ProgramAnswers.{call_answer, program_shows}
use Rattle.csub_run.specs.Runners.{Runner, program_in, memory_of, outputs_shown, IsFresh, Reacts, Resets}
use Rattle.csub_run.specs.Showing.{runner_shows}
use Rattle.run_over_traces.specs.Languages.{word_of}
use Rattle.run_over_traces.specs.Machines.{ShownAnswer, Answered, PutBack}

-- memories that agree on every name are one
pub same-memory : (m n : Memory) → ((name : List ℕ) → m name ≡ n name) → m ≡ n
same-memory m n same = λ i name. same name i

-- one call
pub answered : (old new : Runner) (inputs : List Bool) (value : Bool) → Reacts old inputs value new
    → Answered runner_shows old inputs (record { present = outputs_shown new; word = word_of value }) new
answered old new inputs value reacts = record { in_front = in_front }
  where
    in_front : (items : List Item) (answers : List ShownAnswer) → runner_shows new items answers
        → Shows (program_machine (program_in old)) (call_answer (program_in old)) (memory_of old) (Event inputs ∷ items)
        (record { present = outputs_shown new; word = word_of value } ∷ answers)
    in_front items answers shows =
        let p = program_in old in
        let behind = call p inputs (memory_of old) in
        let after : memory_of new ≡ behind = same-memory (memory_of new) behind reacts.memory in
        let code : program_in new ≡ p = ap program_of reacts.same in
        let there : Shows (program_machine p) (call_answer p) behind items answers =
        subst (λ m. Shows (program_machine p) (call_answer p) m items answers) after
        (subst (λ q. Shows (program_machine q) (call_answer q) (memory_of new) items answers) code shows) in
        let outputs : outputs_shown new ≡ map behind (outputs_of p) =
        ap (λ q. map (memory_of new) (outputs_of q)) code ∙ ap (λ m. map m (outputs_of p)) after in
        let returned : value ≡ value_of behind p.answer = reacts.returned ∙ ap (λ m. value_of m p.answer) after in
        let here : call_answer p behind ≡ record { present = outputs_shown new; word = word_of value } =
        sym (ap (λ o. record { present = o; word = word_of value }) outputs
        ∙ ap (λ b. record { present = map behind (outputs_of p); word = word_of b }) returned) in
        let each : (m : Memory) → m ≡ behind → (call_answer p m ≡ record { present = outputs_shown new; word = word_of value })
        × Shows (program_machine p) (call_answer p) m items answers = λ m is.
        (ap (call_answer p) is ∙ here, subst (λ k. Shows (program_machine p) (call_answer p) k items answers) (sym is) there) in
        shows-event (program_machine p) (call_answer p) (memory_of old) inputs items (record { present = outputs_shown new; word = word_of value }) answers
        behind refl each

-- a fresh machine shows what its program does
pub fresh_shows : (r : Runner) → IsFresh r → (items : List Item) (answers : List ShownAnswer) → runner_shows r items answers
    → program_shows (program_in r) items answers
fresh_shows r fresh items answers shows =
    let p = program_in r in
    subst (λ m. Shows (program_machine p) (call_answer p) m items answers) (same-memory (memory_of r) (first_memory p.states) fresh) shows

-- a reset
pub put_back : (old new : Runner) → Resets old new → PutBack runner_shows old new
put_back old new resets items answers shows =
    let p = program_in old in
    let behind = subst (λ q. program_shows q items answers) (ap program_of resets.same) (fresh_shows new resets.fresh items answers shows) in
    shows-reset (program_machine p) (call_answer p) (memory_of old) items answers behind
