-- Runs over items: where they have answers, how many, and what their answers are before the last items.
use Rattle.std.proofs.Common.{◌≡◌, suc, ◌≤◌, Bool, List, [], ◌∷◌, ◌++◌, length, take, All, Option, Some, None, refl, sym, ap, ◌∙◌, subst, arith}
use Rattle.std.proofs.lemmas.List.Elements.{All-cons, All-nil}
use Rattle.base_types.specs.Items.{Item, Event, Reset}
use Rattle.est_kernel.specs.Terms.{Term}
use Rattle.est_kernel.specs.Statuses.{Environment, environment_of}
use Rattle.est_kernel.specs.Steps.{Step, step}
use Rattle.est_kernel.specs.Plain.{Interface}
use Rattle.est_kernel.specs.Reactions.{Answer, Reaction, settle, open_signals, answer_of, reaction_of, step_in, react, before, goes_on, run_from}
use Rattle.est_kernel.specs.WellFormed.{ExitsStandInTraps}
use Rattle.est_kernel.specs.Laws.{EachReacts, event_count, RunsWhereEachReacts, RunAnswersEachEvent, PrefixHasPrefixOfAnswers, RunPausesOrEnds}
use Rattle.est_kernel.proofs.ExitLaws.{step_keeps_exits_lem}

-- a run that has answers, behind the answer of an instant
pub record GoesOn (o : Option Reaction) (later : Term → Option (List Answer)) (answers : List Answer) : Type 0 where
  pub reaction : Reaction
  pub reacts : o ≡ Some reaction
  pub rest : List Answer
  pub answered : later reaction.residual ≡ Some rest
  pub whole : answers ≡ reaction.answer ∷ rest

before-parts : (a : Answer) (o : Option (List Answer)) (answers : List Answer) → before a o ≡ Some answers →
    (rest : List Answer) × (o ≡ Some rest) × (answers ≡ a ∷ rest)
before-parts a None answers e = cc
before-parts a (Some rest) answers e = (rest, refl, cc)

pub goes_on-parts : (o : Option Reaction) (later : Term → Option (List Answer)) (answers : List Answer) → goes_on o later ≡ Some answers →
    GoesOn o later answers
goes_on-parts None later answers e = cc
goes_on-parts (Some x) later answers e =
    let r = before-parts x.answer (later x.residual) answers e in
    record { reaction = x; reacts = refl; rest = r.0; answered = r.1; whole = r.2 }

-- one more instant of a run
pub run_of_reaction : (interface : Interface) (body r : Term) (event : List Bool) (items : List Item) (x : Reaction) → react interface r event ≡ Some x →
    run_from interface body r (Event event ∷ items) ≡ before x.answer (run_from interface body x.residual items)
run_of_reaction interface body r event items x e = ap (λ o. goes_on o (λ r'. run_from interface body r' items)) e

reacts_where_runs : (interface : Interface) (body r : Term) (items : List Item) (answers : List Answer) → run_from interface body r items ≡ Some answers →
    EachReacts interface body r items
reacts_where_runs interface body r [] answers e = tt
reacts_where_runs interface body r (Event event ∷ items) answers e =
    let g = goes_on-parts (react interface r event) (λ r'. run_from interface body r' items) answers e in
    (g.reaction, g.reacts, reacts_where_runs interface body g.reaction.residual items g.rest g.answered)
reacts_where_runs interface body r (Reset ∷ items) answers e = reacts_where_runs interface body body items answers e

runs_where_reacts : (interface : Interface) (body r : Term) (items : List Item) → EachReacts interface body r items →
    (answers : List Answer) × (run_from interface body r items ≡ Some answers)
runs_where_reacts interface body r [] h = ([], refl)
runs_where_reacts interface body r (Event event ∷ items) h =
    let later = runs_where_reacts interface body h.0.residual items h.2 in
    (h.0.answer ∷ later.0, run_of_reaction interface body r event items h.0 h.1 ∙ ap (before h.0.answer) later.1)
runs_where_reacts interface body r (Reset ∷ items) h = runs_where_reacts interface body body items h

pub runs_where_each_reacts_lem : RunsWhereEachReacts
runs_where_each_reacts_lem interface body r items =
    (λ a. reacts_where_runs interface body r items a.0 a.1, runs_where_reacts interface body r items)

pub run_answers_each_event_lem : RunAnswersEachEvent
run_answers_each_event_lem interface body r [] answers e =
    let z : answers ≡ [] = cc in ap length z
run_answers_each_event_lem interface body r (Event event ∷ items) answers e =
    let g = goes_on-parts (react interface r event) (λ r'. run_from interface body r' items) answers e in
    let rest = run_answers_each_event_lem interface body g.reaction.residual items g.rest g.answered in
    ap length g.whole ∙ ap suc rest
run_answers_each_event_lem interface body r (Reset ∷ items) answers e = run_answers_each_event_lem interface body body items answers e

pub prefix_has_prefix_of_answers_lem : PrefixHasPrefixOfAnswers
prefix_has_prefix_of_answers_lem interface body r [] more answers e = refl
prefix_has_prefix_of_answers_lem interface body r (Event event ∷ items) more answers e =
    let g = goes_on-parts (react interface r event) (λ r'. run_from interface body r' (items ++ more)) answers e in
    let rest = prefix_has_prefix_of_answers_lem interface body g.reaction.residual items more g.rest g.answered in
    run_of_reaction interface body r event items g.reaction g.reacts
    ∙ ap (before g.reaction.answer) rest
    ∙ ap (λ l. Some (take (event_count (Event event ∷ items)) l)) (sym g.whole)
prefix_has_prefix_of_answers_lem interface body r (Reset ∷ items) more answers e =
    prefix_has_prefix_of_answers_lem interface body body items more answers e

-- the step of a reaction
pub record Stepped (interface : Interface) (r : Term) (event : List Bool) (x : Reaction) : Type 0 where
  pub environment : Environment
  pub step_made : Step
  pub settles : settle (open_signals event interface.outgoing) r (environment_of interface.inputs event) ≡ Some environment
  pub steps : step r environment ≡ Some step_made
  pub whole : x ≡ record { answer = answer_of interface event step_made; residual = step_made.residual }

pub react-step : (interface : Interface) (r : Term) (event : List Bool) (x : Reaction) → react interface r event ≡ Some x → Stepped interface r event x
react-step interface r event x e = in_environment (settle (open_signals event interface.outgoing) r (environment_of interface.inputs event)) refl e
  where
    with_step : (E : Environment) → settle (open_signals event interface.outgoing) r (environment_of interface.inputs event) ≡ Some E → (o : Option Step) →
        step r E ≡ o → reaction_of interface event o ≡ Some x → Stepped interface r event x
    with_step E s None is h = cc
    with_step E s (Some a) is h = record { environment = E; step_made = a; settles = s; steps = is; whole = cc }

    in_environment : (o : Option Environment) → settle (open_signals event interface.outgoing) r (environment_of interface.inputs event) ≡ o →
        reaction_of interface event (step_in r o) ≡ Some x → Stepped interface r event x
    in_environment None is h = cc
    in_environment (Some E) is h = with_step E is (step r E) refl h

-- one reaction of a term whose exits stand in traps, with no trap around
reaction_ends : (interface : Interface) (r : Term) (event : List Bool) (x : Reaction) → ExitsStandInTraps 0 r → react interface r event ≡ Some x →
    (x.answer.code ≤ 1) × ExitsStandInTraps 0 x.residual
reaction_ends interface r event x h e =
    let s = react-step interface r event x e in
    let k = step_keeps_exits_lem 0 r s.environment s.step_made h s.steps in
    subst (λ y. (y.answer.code ≤ 1) × ExitsStandInTraps 0 y.residual) (sym s.whole) (omega (arith, k.code), k.residual)

answers_end : (interface : Interface) (body r : Term) (items : List Item) (answers : List Answer) → ExitsStandInTraps 0 body → ExitsStandInTraps 0 r →
    run_from interface body r items ≡ Some answers → All (λ a. a.code ≤ 1) answers
answers_end interface body r [] answers b h e =
    let z : answers ≡ [] = cc in subst (λ l. All (λ a. a.code ≤ 1) l) (sym z) (All-nil _)
answers_end interface body r (Event event ∷ items) answers b h e =
    let g = goes_on-parts (react interface r event) (λ r'. run_from interface body r' items) answers e in
    let k = reaction_ends interface r event g.reaction h g.reacts in
    let rest = answers_end interface body g.reaction.residual items g.rest b k.1 g.answered in
    subst (λ l. All (λ a. a.code ≤ 1) l) (sym g.whole) (All-cons (λ a. a.code ≤ 1) g.reaction.answer g.rest k.0 rest)
answers_end interface body r (Reset ∷ items) answers b h e = answers_end interface body body items answers b b e

pub run_pauses_or_ends_lem : RunPausesOrEnds
run_pauses_or_ends_lem interface body items answers h e = answers_end interface body body items answers h h e
