-- To believe: one reaction of a term to an event, and its run over a list of items. A reaction is constructive in the
-- sense of Berry, "The Constructive Semantics of Pure Esterel".
use Rattle.std.specs.Prelude.{ℕ, Bool, false, not, ◌||◌, List, [], ◌∷◌, map, filter, Option, Some, None, slice_index_or}
use Rattle.base_types.specs.Items.{Item, Event, Reset}
use Rattle.est_kernel.specs.Terms.{Term, Local}
use Rattle.est_kernel.specs.Statuses.{Environment, with_status, environment_of}
use Rattle.est_kernel.specs.Potentials.{decided}
use Rattle.est_kernel.specs.Steps.{Step, step, where_known}
use Rattle.est_kernel.specs.Plain.{Program, Interface, interface_of}

-- a term with signals bound round it, the first of them outermost
abbrev pub bound : List ℕ → Term → Term
bound [] r = r
bound (o ∷ os) r = Local o (bound os r)

-- The statuses of outgoing signals, decided in order: each is present where the term must emit it and
-- absent where it cannot, with the signals before it known and those after it bound round the term. There
-- is no answer where one of them is neither.
abbrev pub settle : List ℕ → Term → Environment → Option Environment
settle [] r E = Some E
settle (o ∷ os) r E =
    where_known (decided (bound os r) E o) (settle os r (with_status E o (decided (bound os r) E o)))

-- whether the event gives an outgoing signal, which is then input and output
abbrev pub is_given : List Bool → ℕ → Bool
is_given event s = slice_index_or event s false

-- the outgoing signals that the event does not give, which the program decides
abbrev pub open_signals : List Bool → List ℕ → List ℕ
open_signals event outgoing = filter (λ s. not (is_given event s)) outgoing

-- what the outside sees of an instant: which outgoing signals are present, in order, and the completion
-- code
pub record Answer : Type 0 where
  pub outputs : List Bool
  pub code : ℕ

-- an answer, and the term that is left for the next instant
pub record Reaction : Type 0 where
  pub answer : Answer
  pub residual : Term

-- what a step answers to an event: an outgoing signal is present where it is given or emitted
abbrev pub answer_of : Interface → List Bool → Step → Answer
answer_of interface event a = record {
  outputs = map (λ s. is_given event s || a.emitted s) interface.outgoing;
  code = a.code;
}

-- the reaction of a step, where there is one
abbrev pub reaction_of : Interface → List Bool → Option Step → Option Reaction
reaction_of interface event None = None
reaction_of interface event (Some a) =
    Some (record { answer = answer_of interface event a; residual = a.residual })

-- the step in an environment, where there is one
abbrev pub step_in : Term → Option Environment → Option Step
step_in r None = None
step_in r (Some E) = step r E

-- The reaction of a term to an event, which has one truth value per given signal. The outgoing signals that
-- are not given are settled, and with all of them known the term makes its step. A reaction is constructive
-- where there is one.
abbrev pub react : Interface → Term → List Bool → Option Reaction
react interface r event =
    reaction_of interface event
    (step_in r (settle (open_signals event interface.outgoing) r (environment_of interface.inputs event)))

-- an answer before the answers of the instants after it
abbrev pub before : Answer → Option (List Answer) → Option (List Answer)
before a None = None
before a (Some later) = Some (a ∷ later)

-- a reaction, and the run of what it leaves
abbrev pub goes_on : Option Reaction → (Term → Option (List Answer)) → Option (List Answer)
goes_on None later = None
goes_on (Some x) later = before x.answer (later x.residual)

-- The answers of the term r to a list of items, one per event; the run goes on with what each instant
-- leaves. A reset has no answer, and puts the whole body back. There are no answers where some reaction is
-- not constructive. After the end the residual is Nothing, so a later answer has just the given signals and
-- code 0.
abbrev pub run_from : Interface → Term → Term → List Item → Option (List Answer)
run_from interface body r [] = Some []
run_from interface body r (Event event ∷ items) =
    goes_on (react interface r event) (λ r'. run_from interface body r' items)
run_from interface body r (Reset ∷ items) = run_from interface body body items

-- the answers of a body that starts
abbrev pub run : Interface → Term → List Item → Option (List Answer)
run interface body items = run_from interface body body items

-- the answers of a kernel program to a list of items, each event of which has one truth value per given
-- signal
abbrev pub run_of : Program → List Item → Option (List Answer)
run_of p items = run (interface_of p) p.body items
