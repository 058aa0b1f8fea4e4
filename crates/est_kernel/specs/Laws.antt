-- To believe: the laws that tie the tables to one another: what Must and Can, steps, runs and codes must be.
use Rattle.std.specs.Prelude.{◌≡◌, ℕ, suc, ◌+◌, ◌<◌, ◌≤◌, ◌↔◌, Bool, ◌==◌, List, [], ◌∷◌, ◌++◌, length, take, slice_get}
use Rattle.std.specs.Prelude.{All, IsTrue, Option, Some, None, option_and_then, if◌then◌else◌, ⊤}
use Rattle.base_types.specs.Items.{Item, Event, Reset}
use Rattle.est_kernel.specs.Terms.{Term}
use Rattle.est_kernel.specs.Statuses.{Status, Plus, Minus, Unknown, Environment}
use Rattle.est_kernel.specs.Potentials.{Potential, must, can, may}
use Rattle.est_kernel.specs.Steps.{Step, step}
use Rattle.est_kernel.specs.Plain.{Interface}
use Rattle.est_kernel.specs.Reactions.{Answer, Reaction, react, run_from, run}
use Rattle.est_kernel.specs.StaticCodes.{started_codes, resumed_codes, NoInstantLoop}
use Rattle.est_kernel.specs.Sizes.{trap_depth}
use Rattle.est_kernel.specs.Preorder.{parts, preorder, statement_count}
use Rattle.est_kernel.specs.WellFormed.{IsKernel, ExitsStandInTraps, KeepsLimits}
use Rattle.est_kernel.specs.declared.statements.Kernel.{Kernel}
use Rattle.est_kernel.specs.Plain.{term_of}

-- each member of the first set is one of the second
abbrev pub IsSubset : (ℕ → Bool) → (ℕ → Bool) → Type 0
IsSubset A B = (k : ℕ) → IsTrue (A k) → IsTrue (B k)

-- each signal and each code of the first potential is one of the second
pub record IsWithin (a b : Potential) : Type 0 where
  pub signals : IsSubset a.signals b.signals
  pub codes : IsSubset a.codes b.codes

-- a status says what another says, or is unknown
abbrev pub IsBelow : Status → Status → Type 0
IsBelow Unknown w = ⊤
IsBelow Plus w = w ≡ Plus
IsBelow Minus w = w ≡ Minus

-- the second environment knows what the first knows, and maybe more
pub record KnowsMore (E F : Environment) : Type 0 where
  pub statuses : (s : ℕ) → IsBelow (E s) (F s)

-- Must grows with what is known
abbrev pub MustGrows : Type 0
MustGrows = (p : Term) (E F : Environment) → KnowsMore E F → IsWithin (must p E) (must p F)

-- Can, when the term must run, shrinks with what is known
abbrev pub CanShrinks : Type 0
CanShrinks = (p : Term) (E F : Environment) → KnowsMore E F → IsWithin (can p F) (can p E)

-- Can, when the term may run, shrinks with what is known
abbrev pub MayShrinks : Type 0
MayShrinks = (p : Term) (E F : Environment) → KnowsMore E F → IsWithin (may p F) (may p E)

-- what a term must do, it can do when it must run
abbrev pub MustLiesInCan : Type 0
MustLiesInCan = (p : Term) (E : Environment) → IsWithin (must p E) (can p E)

-- what a term can do when it must run, it can do when it may run
abbrev pub CanLiesInMay : Type 0
CanLiesInMay = (p : Term) (E : Environment) → IsWithin (can p E) (may p E)

-- two codes that a term must complete with are the same
abbrev pub MustHasOneCode : Type 0
MustHasOneCode =
    (p : Term) (E : Environment) (j k : ℕ) → IsTrue ((must p E).codes j) → IsTrue ((must p E).codes k) → j ≡ k

-- where no loop is instantaneous, a term can complete only with its static codes
abbrev pub MayKeepsStaticCodes : Type 0
MayKeepsStaticCodes =
    (p : Term) (E : Environment) → NoInstantLoop p → IsSubset (may p E).codes (started_codes p)

-- a potential is just what a step did: its signals are the emitted ones, and its one code is the step's
pub record IsJust (a : Potential) (x : Step) : Type 0 where
  pub signals : (t : ℕ) → a.signals t ≡ x.emitted t
  pub codes : (k : ℕ) → a.codes k ≡ (k == x.code)

-- A step, where there is one, emits and completes just as Must says, and nothing else can be done. This
-- holds in any environment, so in one that knows every free signal.
abbrev pub StepIsWhatMustBeDone : Type 0
StepIsWhatMustBeDone =
    (p : Term) (E : Environment) (x : Step) → step p E ≡ Some x → IsJust (must p E) x × IsJust (can p E) x

-- the code of a step is one of the term's static codes
abbrev pub StepKeepsStaticCodes : Type 0
StepKeepsStaticCodes =
    (p : Term) (E : Environment) (x : Step) → step p E ≡ Some x → IsTrue (started_codes p x.code)

-- the list of the statements in preorder is as long as there are statements
abbrev pub PreorderHasEachStatement : Type 0
PreorderHasEachStatement = (p : Term) → length (preorder p) ≡ statement_count p

-- The parts of a statement stand at the places after it: the first at the next place, and each later one
-- after the statements of the one before it.
abbrev pub StandAt : List Term → List Term → ℕ → Type 0
StandAt whole [] n = ⊤
StandAt whole (p ∷ ps) n = (slice_get whole n ≡ Some p) × StandAt whole ps (n + statement_count p)

-- Place 0 of preorder has the statement itself, and after place n stand the parts of what place n has.
pub record PreorderPlaces : Type 0 where
  pub whole : (p : Term) → slice_get (preorder p) 0 ≡ Some p
  pub parts_behind : (p t : Term) (n : ℕ) → slice_get (preorder p) n ≡ Some t → StandAt (preorder p) (parts t) (n + 1)

-- what a step leaves, where so many traps stand around the term
pub record KeepsExits (n : ℕ) (p : Term) (x : Step) : Type 0 where
  pub code : x.code < n + 2
  pub residual : ExitsStandInTraps n x.residual
  pub depth : trap_depth x.residual ≤ trap_depth p

-- exits that are in their traps reach no further out, and what is left keeps them there
abbrev pub StepKeepsExits : Type 0
StepKeepsExits =
    (n : ℕ) (p : Term) (E : Environment) (x : Step) → ExitsStandInTraps n p → step p E ≡ Some x → KeepsExits n p x

-- a whole program pauses or ends: no other code leaves it
abbrev pub RunPausesOrEnds : Type 0
RunPausesOrEnds =
    (interface : Interface) (body : Term) (items : List Item) (answers : List Answer) →
    ExitsStandInTraps 0 body → run interface body items ≡ Some answers → All (λ a. a.code ≤ 1) answers

-- each reaction of a run is there: from the term r on, of a body to which resets go back
abbrev pub EachReacts : Interface → Term → Term → List Item → Type 0
EachReacts interface body r [] = ⊤
EachReacts interface body r (Event event ∷ items) =
    (x : Reaction) × (react interface r event ≡ Some x) × EachReacts interface body x.residual items
EachReacts interface body r (Reset ∷ items) = EachReacts interface body body items

-- how many events there are among items
abbrev pub event_count : List Item → ℕ
event_count [] = 0
event_count (Event event ∷ items) = suc (event_count items)
event_count (Reset ∷ items) = event_count items

-- a run has its answers exactly where each of its reactions is there
abbrev pub RunsWhereEachReacts : Type 0
RunsWhereEachReacts =
    (interface : Interface) (body r : Term) (items : List Item) →
    ((answers : List Answer) × (run_from interface body r items ≡ Some answers)) ↔ EachReacts interface body r items

-- a run has one answer per event
abbrev pub RunAnswersEachEvent : Type 0
RunAnswersEachEvent =
    (interface : Interface) (body r : Term) (items : List Item) (answers : List Answer) →
    run_from interface body r items ≡ Some answers → length answers ≡ event_count items

-- what was answered stays answered: the first items of a run have the first of its answers
abbrev pub PrefixHasPrefixOfAnswers : Type 0
PrefixHasPrefixOfAnswers =
    (interface : Interface) (body r : Term) (items more : List Item) (answers : List Answer) →
    run_from interface body r (items ++ more) ≡ Some answers →
    run_from interface body r items ≡ Some (take (event_count items) answers)

-- what is left of a term after a step that pauses
abbrev pub left_by_step : Option Step → Option Term
left_by_step None = None
left_by_step (Some x) = if x.code == 1 then Some x.residual else None

-- what is left of a term after steps that pause, in one environment each
abbrev pub left_after : Term → List Environment → Option Term
left_after p [] = Some p
left_after p (E ∷ rest) = option_and_then (λ r. left_after r rest) (left_by_step (step p E))

-- the statements of the compiler's trees are kernel statements
abbrev pub TreesAreKernels : Type 0
TreesAreKernels = (tree : Kernel) → IsKernel (term_of tree)

-- Where no loop is instantaneous, what is left of a term after one instant or more completes with a code of
-- the resumed term.
abbrev pub LeftCompletesAsResumed : Type 0
LeftCompletesAsResumed =
    (p : Term) → IsKernel p → KeepsLimits p → NoInstantLoop p →
    (E : Environment) (rest : List Environment) (r : Term) → left_after p (E ∷ rest) ≡ Some r →
    (F : Environment) (x : Step) → step r F ≡ Some x → IsTrue (resumed_codes p x.code)
