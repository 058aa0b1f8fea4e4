-- Written by hand: worked traces item by item: resets, relations, and what a reader answers. Inputs are A, B and C; B is there whenever A is, and A
-- and C are never there at once.
use Rattle.std.proofs.Common.{◌≡◌, ℕ, zero, suc, ◌<◌, ◌∙◌, Bool, true, false, List, [], ◌∷◌, Some, None, Ok, Err, codes, refl, sym, arith}
use Rattle.std.specs.Prelude.{slice_index_or}
use Rattle.std.proofs.lemmas.Bool.{false≢true}
use Rattle.std.proofs.lemmas.List.Elements.{All-nil, All-cons}
use Rattle.base_types.specs.Items as driven
use Rattle.base_types.specs.Relations.{Relation, Implies, Excludes, IsPresent, Meets, MeetsAll}
use Rattle.run_trace_io.specs.declared.faults.TraceFault.{TraceFault}
use Rattle.run_trace_io.specs.declared.faults.TraceFault.TheVariants as faults
use Rattle.run_trace_io.specs.declared.faults.TraceError.TheVariants.{Fault, NoMemory}
use Rattle.run_trace_io.specs.declared.reader.Item.TheVariants as items
use Rattle.run_trace_io.specs.Broken.{IsFirstBroken}
use Rattle.run_trace_io.specs.Traces.{Reading}
use Rattle.run_trace_io.specs.Answers.{beginning, IsFault, IsTrace, AnswersGroup}

abbrev inputs : List (List ℕ)
inputs = codes "A" ∷ codes "B" ∷ codes "C" ∷ []

-- a reading in which no relation is kept, at this place and in this instant
abbrev free : List ℕ → ℕ → ℕ → Reading
free text at instant = record { text = text; inputs = inputs; relations = []; at = at; instant = instant }

abbrev relations : List Relation
relations = Implies 0 1 ∷ Excludes (0 ∷ 2 ∷ []) ∷ []

-- the same, in which the relations are kept
abbrev kept : List ℕ → ℕ → ℕ → Reading
kept text at instant = record { text = text; inputs = inputs; relations = relations; at = at; instant = instant }

abbrev event : Bool → Bool → Bool → List Bool
event a b c = a ∷ b ∷ c ∷ []

-- ---- traces

begins_at_once : (text : List ℕ) → beginning text inputs relations ≡ kept text 0 1
begins_at_once text = refl

none_kept : (given : List Bool) → MeetsAll [] given
none_kept given = All-nil (Meets given)

-- a reset is no instant: behind it a name stands twice in instant 2
behind_a_reset : IsTrace (free (codes "A; !reset; A A;") 0 1) (driven.Event (event true false false) ∷ driven.Reset ∷ []) (Some (faults.Repeated 2 (codes "A")))
behind_a_reset = (2, refl, none_kept (event true false false), (10, refl, refl))

two_instants : IsTrace (free (codes "A B;C;") 0 1) (driven.Event (event true true false) ∷ driven.Event (event false false true) ∷ []) None
two_instants = (4, refl, none_kept (event true true false), (6, refl, none_kept (event false false true), refl))

-- a trace goes on where a group stands
is_not_over : IsTrace (free (codes ";") 0 1) [] None → ⊥
is_not_over h = cc

-- ---- relations

abbrev only_b : List Bool
only_b = event false true false

present_b : (s : ℕ) → IsPresent only_b s → s ≡ 1
present_b zero h = absurd (false≢true h)
present_b (suc zero) h = refl
present_b (suc (suc zero)) h = absurd (false≢true h)
present_b (suc (suc (suc k))) h = absurd (false≢true h)

-- B alone breaks neither relation
b_alone : MeetsAll relations only_b
b_alone =
    All-cons (Meets only_b) (Implies 0 1) (Excludes (0 ∷ 2 ∷ []) ∷ []) (λ h. absurd (false≢true h))
    (All-cons (Meets only_b) (Excludes (0 ∷ 2 ∷ [])) [] (λ a b c d differ h i. differ (present_b a h ∙ sym (present_b b i))) (All-nil (Meets only_b)))

-- A and C without B break both, and the first is the fault; relations count from 1
a_and_c : IsFirstBroken relations (event true false true) 0
a_and_c = record {
  within = omega arith;
  broken = λ d h. false≢true (h refl);
  before = λ k d l. absurd (omega (arith, l));
}

first_of_two : IsTrace (kept (codes "B;A C;") 0 1) (driven.Event only_b ∷ []) (Some (faults.Breaks 2 1))
first_of_two = (2, refl, b_alone, (event true false true, 6, 0, refl, refl, refl, a_and_c))

-- all three break the second alone
all_three : IsFirstBroken relations (event true true true) 1
all_three = record {
  within = omega arith;
  broken = λ d h. h 0 2 (0, omega arith, refl) (1, omega arith, refl) (λ e. omega (arith, e)) refl refl;
  before = λ k d l. first k d l;
}
  where
    first : (k : ℕ) (d : Relation) → k < 1 → Meets (event true true true) (slice_index_or relations k d)
    first zero d l = λ h. refl
    first (suc k) d l = absurd (omega (arith, l))

second_alone : IsFault (kept (codes "!reset;A B C;") 7 3) (faults.Breaks 3 2)
second_alone = (event true true true, 13, 1, refl, refl, refl, all_three)

-- none is broken before the first
not_the_second : IsFirstBroken relations (event true false true) 1 → ⊥
not_the_second h = false≢true (h.before 0 (Implies 0 1) (omega arith) refl)

-- ---- what a reader answers, and where it then is

at_the_end : AnswersGroup (kept (codes "B;") 2 2) (Ok None) (kept (codes "B;") 2 2)
at_the_end = (refl, refl)

at_an_instant : AnswersGroup (kept (codes "B;") 0 1) (Ok (Some (items.React only_b))) (kept (codes "B;") 2 2)
at_an_instant = (2, refl, b_alone, refl)

at_a_reset : AnswersGroup (kept (codes "!reset;B;") 0 5) (Ok (Some items.Reset)) (kept (codes "!reset;B;") 7 5)
at_a_reset = (7, refl, refl)

at_a_fault : AnswersGroup (kept (codes "X;") 0 1) (Err (Fault (faults.UnknownInput 1 (codes "X")))) (kept (codes "X;") 0 1)
at_a_fault = (refl, refl)

-- after a fault, and after want of memory, the reader is where it was
stays_at_faults : (old new : Reading) (fault : TraceFault) → AnswersGroup old (Err (Fault fault)) new → new ≡ old
stays_at_faults old new fault h = h.1

stays_without_memory : (old new : Reading) → AnswersGroup old (Err NoMemory) new → new ≡ old
stays_without_memory old new h = h

stays_at_the_end : (old new : Reading) → AnswersGroup old (Ok None) new → new ≡ old
stays_at_the_end old new h = h.1

-- what is answered keeps the relations
kept_by_instants : (old new : Reading) (given : List Bool) → AnswersGroup old (Ok (Some (items.React given))) new → MeetsAll old.relations given
kept_by_instants old new given h = h.2
