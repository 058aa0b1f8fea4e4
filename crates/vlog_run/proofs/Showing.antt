-- What a runner shows: a reaction and a reset put their item in front of what it shows from then on.
use Rattle.std.proofs.Common.{◌≡◌, Bool, List, ◌∷◌, length, map, take, refl, sym, ap, ◌∙◌, subst}
use Rattle.std.proofs.lemmas.List.{length-map}
use Rattle.base_facts.proofs.Lists.{map-composed}
use Rattle.base_types.specs.Items.{Item, Event}
use Rattle.base_machines.specs.Machines.{Shows}
use Rattle.base_machines.proofs.Exports.{shows-reset}
use Rattle.run_trace_io.specs.declared.lines.Word.{Word}
use Rattle.run_over_traces.specs.Machines.{ShownAnswer, Answered, PutBack}
use Rattle.run_over_traces.proofs.Exports.{event-told}
use Rattle.vlog_text.specs.Machine.{vlog_machine, driven_names}
use Rattle.vlog_text.specs.Trees.{VerilogModule, Register}
use Rattle.vlog_text.specs.Views.{module_of}
use Rattle.vlog_run.specs.Loops.{IsDescribed}
use Rattle.vlog_run.specs.ModuleAnswers.{listed_count, answer_of, module_answer, module_shows}
use Rattle.vlog_run.specs.Runners.{Runner, module_in, IsFresh, Reacts, Resets}
use Rattle.vlog_run.specs.Showing.{runner_shows}
use Rattle.vlog_run.proofs.Described.{IsSound, described-sound}

-- one reaction: every instant that there may be shows the same, and leaves the same values to the registers
pub answered : (old new : Runner) (inputs : List Bool) → IsDescribed (module_in old) → Reacts old inputs new
    → Answered runner_shows old inputs (answer_of (module_in new).outputs new.outputs) new
answered old new inputs described reacts = record { in_front = in_front }
  where
    sound : IsSound (module_in old)
    sound = described-sound described.0 (module_in old) described.1

    in_front : (items : List Item) (answers : List ShownAnswer) → runner_shows new items answers
        → Shows (vlog_machine (module_in old)) (module_answer (module_in old)) old.registers (Event inputs ∷ items)
        (answer_of (module_in new).outputs new.outputs ∷ answers)
    in_front items answers shows =
        let d = module_in old in
        let u = reacts.valuation in
        let sources = map (λ (r : Register). r.from) d.registers in
        let code : module_in new ≡ d = ap module_of reacts.same in
        let told : answer_of d.outputs (map u d.outputs) ≡ answer_of (module_in new).outputs new.outputs =
        sym (ap (λ (k : VerilogModule). answer_of k.outputs new.outputs) code ∙ ap (answer_of d.outputs) reacts.outputs) in
        let kept : new.registers ≡ map u sources = reacts.registers ∙ map-composed u (λ (r : Register). r.from) d.registers in
        let behind : Shows (vlog_machine d) (module_answer d) (map u sources) items answers =
        subst (λ l. Shows (vlog_machine d) (module_answer d) l items answers) kept
        (subst (λ k. Shows (vlog_machine k) (module_answer k) new.registers items answers) code shows) in
        subst (λ a. Shows (vlog_machine d) (module_answer d) old.registers (Event inputs ∷ items) (a ∷ answers)) told
        (event-told (vlog_machine d) (module_answer d) (answer_of d.outputs) (λ values. values) (driven_names d) d.outputs sources old.registers inputs u
        (λ v. refl) (λ v. map-composed v (λ (r : Register). r.from) d.registers) reacts.instant reacts.only sound.outputs sound.sources items answers behind)

-- the same, by the word that the outputs give
pub answered-as : (old new : Runner) (inputs : List Bool) (word : Word) → IsDescribed (module_in old) → Reacts old inputs new
    → word ≡ (answer_of (module_in new).outputs new.outputs).word
    → Answered runner_shows old inputs (record { present = take (listed_count (module_in new).outputs) new.outputs; word = word }) new
answered-as old new inputs word described reacts is =
    subst (λ w. Answered runner_shows old inputs (record { present = take (listed_count (module_in new).outputs) new.outputs; word = w }) new) (sym is)
    (answered old new inputs described reacts)

pub reacts-wide : (old new : Runner) (inputs : List Bool) → Reacts old inputs new → length new.outputs ≡ length (module_in new).outputs
reacts-wide old new inputs reacts =
    ap length reacts.outputs ∙ length-map (module_in old).outputs reacts.valuation ∙ sym (ap (λ k. length (module_of k).outputs) reacts.same)

-- a fresh runner shows what its module does
pub fresh_shows : (r : Runner) → IsFresh r → (items : List Item) (answers : List ShownAnswer) → runner_shows r items answers
    → module_shows (module_in r) items answers
fresh_shows r fresh items answers shows =
    subst (λ l. Shows (vlog_machine (module_in r)) (module_answer (module_in r)) l items answers) fresh.registers_initial shows

-- a reset
pub put_back : (old new : Runner) → Resets old new → PutBack runner_shows old new
put_back old new resets items answers shows =
    let d = module_in old in
    let behind = subst (λ k. module_shows k items answers) (ap module_of resets.same) (fresh_shows new resets.fresh items answers shows) in
    shows-reset (vlog_machine d) (module_answer d) old.registers items answers behind
