-- What a runner shows: a reaction and a reset put their item in front of what it shows from then on.
use Rattle.std.proofs.Common.{◌≡◌, Bool, true, List, ◌∷◌, length, map, take, refl, sym, ap, ◌∙◌, subst}
use Rattle.std.proofs.lemmas.List.{length-map}
use Rattle.base_facts.proofs.Lists.{map-composed}
use Rattle.base_types.specs.Items.{Item, Event}
use Rattle.base_machines.specs.Machines.{Shows}
use Rattle.base_machines.proofs.Exports.{shows-reset}
use Rattle.net_ir.specs.NameLists.{is_among}
use Rattle.blif_text.specs.Circuits.{Circuit, CircuitLatch}
use Rattle.blif_text.specs.Runs.{circuit_machine, circuit_latches, driven_names}
use Rattle.blif_text.proofs.Exports.{IsSound, described-sound}
use Rattle.run_steps.proofs.Exports.{all-made}
use Rattle.blif_run.specs.CircuitAnswers.{listed_count, answer_of, circuit_answer, circuit_shows}
use Rattle.blif_run.specs.Loops.{IsDescribed}
use Rattle.blif_run.specs.Runners.{Runner, IsFresh, Reacts, Resets}
use Rattle.blif_run.specs.Showing.{runner_shows}
use Rattle.run_trace_io.specs.declared.lines.Word.{Word}
use Rattle.run_over_traces.specs.Machines.{ShownAnswer, Answered, PutBack}
use Rattle.run_over_traces.proofs.Exports.{event-told}

-- one reaction: every instant that there may be shows the same, and leaves the same values to the latches
pub answered : (old new : Runner) (inputs : List Bool) → IsDescribed old.circuit → Reacts old inputs new
    → Answered runner_shows old inputs (answer_of new.circuit.outputs new.outputs) new
answered old new inputs described reacts = record { in_front = in_front }
  where
    sound : IsSound old.circuit
    sound = described-sound described.0 old.circuit described.1

    in_front : (items : List Item) (answers : List ShownAnswer) → runner_shows new items answers
        → Shows (circuit_machine old.circuit) (circuit_answer old.circuit) old.latches (Event inputs ∷ items)
        (answer_of new.circuit.outputs new.outputs ∷ answers)
    in_front items answers shows =
        let c = old.circuit in
        let u = reacts.valuation in
        let sources = map (λ (l : CircuitLatch). l.source) c.latches in
        let told : answer_of c.outputs (map u c.outputs) ≡ answer_of new.circuit.outputs new.outputs =
        sym (ap (λ (k : Circuit). answer_of k.outputs new.outputs) reacts.same ∙ ap (answer_of c.outputs) reacts.outputs) in
        let kept : new.latches ≡ map u sources = reacts.latches ∙ map-composed u (λ (l : CircuitLatch). l.source) c.latches in
        let behind : Shows (circuit_machine c) (circuit_answer c) (map u sources) items answers =
        subst (λ l. Shows (circuit_machine c) (circuit_answer c) l items answers) kept
        (subst (λ k. Shows (circuit_machine k) (circuit_answer k) new.latches items answers) reacts.same shows) in
        subst (λ a. Shows (circuit_machine c) (circuit_answer c) old.latches (Event inputs ∷ items) (a ∷ answers)) told
        (event-told (circuit_machine c) (circuit_answer c) (answer_of c.outputs) (λ values. values) (driven_names c) c.outputs sources old.latches inputs u
        (λ v. refl) (λ v. map-composed v (λ (l : CircuitLatch). l.source) c.latches) reacts.instant reacts.only sound.driven.outputs
        (all-made (λ x. is_among x (driven_names c) ≡ true) (λ (l : CircuitLatch). l.source) c.latches sound.driven.sources) items answers behind)

-- the same, by the word that the outputs give
pub answered-as : (old new : Runner) (inputs : List Bool) (word : Word) → IsDescribed old.circuit → Reacts old inputs new
    → word ≡ (answer_of new.circuit.outputs new.outputs).word
    → Answered runner_shows old inputs (record { present = take (listed_count new.circuit.outputs) new.outputs; word = word }) new
answered-as old new inputs word described reacts is =
    subst (λ w. Answered runner_shows old inputs (record { present = take (listed_count new.circuit.outputs) new.outputs; word = w }) new) (sym is)
    (answered old new inputs described reacts)

pub reacts-wide : (old new : Runner) (inputs : List Bool) → Reacts old inputs new → length new.outputs ≡ length new.circuit.outputs
reacts-wide old new inputs reacts =
    ap length reacts.outputs ∙ length-map old.circuit.outputs reacts.valuation ∙ sym (ap (λ (c : Circuit). length c.outputs) reacts.same)

-- a reset
pub put_back : (old new : Runner) → Resets old new → PutBack runner_shows old new
put_back old new resets items answers shows =
    let behind : Shows (circuit_machine old.circuit) (circuit_answer old.circuit) (circuit_latches old.circuit) items answers =
    subst (λ k. Shows (circuit_machine k) (circuit_answer k) (circuit_latches k) items answers) resets.same
    (subst (λ l. Shows (circuit_machine new.circuit) (circuit_answer new.circuit) l items answers) resets.fresh.latches_initial shows) in
    shows-reset (circuit_machine old.circuit) (circuit_answer old.circuit) old.latches items answers behind

-- a fresh runner shows what its circuit does
pub fresh_shows : (r : Runner) → IsFresh r → (items : List Item) (answers : List ShownAnswer) → runner_shows r items answers
    → circuit_shows r.circuit items answers
fresh_shows r fresh items answers shows =
    subst (λ l. Shows (circuit_machine r.circuit) (circuit_answer r.circuit) l items answers) fresh.latches_initial shows
