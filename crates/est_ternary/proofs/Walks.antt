-- The walk of a term tells its potentials: one lemma per row, over any potentials, and then one induction.
use Rattle.std.proofs.Common.{◌≡◌, ℕ, zero, suc, Bool, true, false, not, ◌&&◌, ◌||◌, ◌==◌, cond, refl, sym, ap, ◌∙◌}
use Rattle.std.proofs.lemmas.Bool.{true≢false, eqb-true, eqb-false, cond-true, cond-false}
use Rattle.base_facts.proofs.Tests.{and-false, and-true, or-false}
use Rattle.base_types.specs.Codes.{except}
use Rattle.est_kernel.specs.Terms.{Term, Nothing, Pause, Emit, Exit, Present, Suspend, Seq, Loop, Par, Trap, Local, Awake}
use Rattle.est_kernel.specs.Statuses.{Status, Plus, Minus, Unknown, Environment, with_status, value, opposite, conjunction}
use Rattle.est_kernel.specs.Potentials.{PotentialKind, Must, Can, May, Potential, Potentials, idle, completes, emits, union, chosen, second_kind, codes_kept}
use Rattle.est_kernel.specs.Potentials.{sequence}
use Rattle.est_kernel.specs.Potentials.{in_turn, together, trapped, hidden, local_status, decided, potential}
use Rattle.est_kernel.proofs.Exports.{must_has_one_code_lem}
use Rattle.est_ternary.specs.TriWalks.{Tri, tri_idle, tri_completes, tri_emits, tri_either, tri_in_turn, tri_together, tri_trapped, tri_hidden, tri}
use Rattle.est_ternary.specs.TriWalks.{tri_decided}
use Rattle.est_ternary.specs.Laws.{sure, possible, rail, Tells, WalksTellPotentials}
use Rattle.est_ternary.proofs.Rails.{IsRail, sure_rail, possible_rail, impossible, gated, in_sequence, rail_completes}
use Rattle.est_ternary.proofs.Rails.{rail_emits, rail_either}
use Rattle.est_ternary.proofs.Rails.{rail_in_turn, rail_together, rail_trapped, rail_hidden}

-- ---- one thing that is done where the term runs

gated_tells : (g : Status) (a : Tri) (P : Potential) → rail sure a ≡ gated (sure g) P → rail possible a ≡ gated (possible g) P → Tells g a (λ k. P)
gated_tells Plus a P s p = record { sure = s; possible = p }
gated_tells Minus a P s p = record { sure = s; possible = p }
gated_tells Unknown a P s p = record { sure = s; possible = p }

completes_tells : (c : ℕ) (g : Status) → Tells g (tri_completes c g) (λ k. completes c)
completes_tells c g =
    gated_tells g (tri_completes c g) (completes c) (rail_completes sure sure_rail c g) (rail_completes possible possible_rail c g)

emits_tells : (s : ℕ) (g : Status) → Tells g (tri_emits s g) (λ k. emits s)
emits_tells s g = gated_tells g (tri_emits s g) (emits s) (rail_emits sure sure_rail s g) (rail_emits possible possible_rail s g)

-- ---- a choice

union_idle : (P : Potential) → union P idle ≡ P
union_idle P = λ i. record { signals = λ t. or-false (P.signals t) i; codes = λ k. or-false (P.codes k) i }

either_rails : (f : Status → Bool) (r : IsRail f) (a b : Tri) (A B : Potential) → rail f a ≡ A → rail f b ≡ B → rail f (tri_either a b) ≡ union A B
either_rails f r a b A B e h = rail_either f r a b ∙ ap (λ x. union x (rail f b)) e ∙ ap (λ x. union A x) h

-- a choice by a test with value v of a term that runs with status g
chosen_tells : (v g : Status) (a b : Tri) (P Q : Potentials) → Tells (conjunction g v) a P → Tells (conjunction g (opposite v)) b Q →
    Tells g (tri_either a b) (chosen v P Q)
chosen_tells Plus Plus a b P Q h k = record {
  sure = either_rails sure sure_rail a b _ _ h.sure k.sure ∙ union_idle (P Must);
  possible = either_rails possible possible_rail a b _ _ h.possible k.possible ∙ union_idle (P Can);
}
chosen_tells Plus Minus a b P Q h k = record {
  sure = either_rails sure sure_rail a b _ _ h.sure k.sure;
  possible = either_rails possible possible_rail a b _ _ h.possible k.possible;
}
chosen_tells Plus Unknown a b P Q h k = record {
  sure = either_rails sure sure_rail a b _ _ h.sure k.sure;
  possible = either_rails possible possible_rail a b _ _ h.possible k.possible ∙ union_idle (P May);
}
chosen_tells Minus Plus a b P Q h k = record {
  sure = either_rails sure sure_rail a b _ _ h.sure k.sure;
  possible = either_rails possible possible_rail a b _ _ h.possible k.possible;
}
chosen_tells Minus Minus a b P Q h k = record {
  sure = either_rails sure sure_rail a b _ _ h.sure k.sure;
  possible = either_rails possible possible_rail a b _ _ h.possible k.possible;
}
chosen_tells Minus Unknown a b P Q h k = record {
  sure = either_rails sure sure_rail a b _ _ h.sure k.sure;
  possible = either_rails possible possible_rail a b _ _ h.possible k.possible;
}
chosen_tells Unknown Plus a b P Q h k = record {
  sure = either_rails sure sure_rail a b _ _ h.sure k.sure;
  possible = either_rails possible possible_rail a b _ _ h.possible k.possible;
}
chosen_tells Unknown Minus a b P Q h k = record {
  sure = either_rails sure sure_rail a b _ _ h.sure k.sure;
  possible = either_rails possible possible_rail a b _ _ h.possible k.possible;
}
chosen_tells Unknown Unknown a b P Q h k = record {
  sure = either_rails sure sure_rail a b _ _ h.sure k.sure;
  possible = either_rails possible possible_rail a b _ _ h.possible k.possible;
}

-- ---- a sequence

sequence_rails : (f : Status → Bool) (r : IsRail f) (a b : Tri) (A B : Potential) → rail f a ≡ A → rail f b ≡ B →
    rail f (tri_in_turn a b) ≡ in_sequence A B
sequence_rails f r a b A B e h = rail_in_turn f r a b ∙ ap (λ x. in_sequence x (rail f b)) e ∙ ap (λ x. in_sequence A x) h

-- a first part that cannot terminate keeps all its codes
except_absent : (A : ℕ → Bool) → A 0 ≡ false → (k : ℕ) → except 0 A k ≡ A k
except_absent A e k = by (k == 0) refl
  where
    by : (b : Bool) → (k == 0) ≡ b → (A k && not b) ≡ A k
    by true is = and-false (A k) ∙ sym (ap A (eqb-true k 0 is) ∙ e)
    by false is = and-true (A k)

sequence_absent : (A : Potential) → A.codes 0 ≡ false → in_sequence A idle ≡ A
sequence_absent A e = λ i. record {
  signals = λ t. or-false (A.signals t) i;
  codes = λ k. (or-false (except 0 A.codes k) ∙ except_absent A.codes e k) i;
}

-- a first part of which termination is the only code keeps none
except_only : (A : ℕ → Bool) → ((j k : ℕ) → A j ≡ true → A k ≡ true → j ≡ k) → A 0 ≡ true → (k : ℕ) → except 0 A k ≡ false
except_only A one e k = by (A k) refl (k == 0) refl
  where
    by : (a : Bool) → A k ≡ a → (b : Bool) → (k == 0) ≡ b → (A k && not b) ≡ false
    by true h true is = and-false (A k)
    by true h false is = absurd (eqb-false k 0 is (one k 0 h e))
    by false h b is = ap (λ x. x && not b) h

both_parts : (k : PotentialKind) (A B : Potential) → A.codes 0 ≡ true → ((j : ℕ) → except 0 A.codes j ≡ codes_kept k A.codes j)
    → in_sequence A B ≡ sequence k A B
both_parts k A B e keep =
    (λ i. record { signals = λ t. A.signals t || B.signals t; codes = λ j. keep j i || B.codes j })
    ∙ sym (cond-true (A.codes 0) _ A e)

first_part : (k : PotentialKind) (A B : Potential) → A.codes 0 ≡ false → in_sequence A idle ≡ sequence k A B
first_part k A B e = sequence_absent A e ∙ sym (cond-false (A.codes 0) _ A e)

kept_of_may : (A : Potential) (j : ℕ) → except 0 A.codes j ≡ codes_kept May A.codes j
kept_of_may A j = refl

kept_of_can : (A : Potential) (j : ℕ) → except 0 A.codes j ≡ codes_kept Can A.codes j
kept_of_can A j = refl

-- what the code 0 of the first part tells
pub code_at : (f : Status → Bool) (a : Tri) (A : Potential) → rail f a ≡ A → (k : ℕ) → f (a.codes k) ≡ A.codes k
code_at f a A e k = ap (λ x. x.codes k) e

pub signal_at : (f : Status → Bool) (a : Tri) (A : Potential) → rail f a ≡ A → (t : ℕ) → f (a.signals t) ≡ A.signals t
signal_at f a A e t = ap (λ x. x.signals t) e

module _ (a b : Tri) (P Q : Potentials) where
  second_as : (c : Bool) (k : PotentialKind) → (P Must).codes 0 ≡ c → cond c Can May ≡ k
      → in_sequence (P Can) (Q k) ≡ in_sequence (P Can) (Q (second_kind Can P))
  second_as c k e is = ap (λ x. in_sequence (P Can) (Q x)) (sym is ∙ ap (λ x. cond x Can May) (sym e))

  plus_tells : ((j k : ℕ) → (P Must).codes j ≡ true → (P Must).codes k ≡ true → j ≡ k) → (h : Status) → a.codes 0 ≡ h →
      Tells Plus a P → Tells h b Q → Tells Plus (tri_in_turn a b) (in_turn P Q)
  plus_tells one Plus is f k =
      let must : (P Must).codes 0 ≡ true = sym (code_at sure a _ f.sure 0) ∙ ap sure is in
      let may : (P Can).codes 0 ≡ true = sym (code_at possible a _ f.possible 0) ∙ ap possible is in
      record {
        sure = sequence_rails sure sure_rail a b _ _ f.sure k.sure
            ∙ both_parts Must (P Must) (Q Must) must (except_only (P Must).codes one must);
        possible = sequence_rails possible possible_rail a b _ _ f.possible k.possible
            ∙ second_as true Can must refl
            ∙ both_parts Can (P Can) (Q (second_kind Can P)) may (kept_of_can (P Can));
      }
  plus_tells one Minus is f k =
      let must : (P Must).codes 0 ≡ false = sym (code_at sure a _ f.sure 0) ∙ ap sure is in
      let may : (P Can).codes 0 ≡ false = sym (code_at possible a _ f.possible 0) ∙ ap possible is in
      record {
        sure = sequence_rails sure sure_rail a b _ _ f.sure k.sure ∙ first_part Must (P Must) (Q Must) must;
        possible = sequence_rails possible possible_rail a b _ _ f.possible k.possible
            ∙ first_part Can (P Can) (Q (second_kind Can P)) may;
      }
  plus_tells one Unknown is f k =
      let must : (P Must).codes 0 ≡ false = sym (code_at sure a _ f.sure 0) ∙ ap sure is in
      let may : (P Can).codes 0 ≡ true = sym (code_at possible a _ f.possible 0) ∙ ap possible is in
      record {
        sure = sequence_rails sure sure_rail a b _ _ f.sure k.sure ∙ first_part Must (P Must) (Q Must) must;
        possible = sequence_rails possible possible_rail a b _ _ f.possible k.possible
            ∙ second_as false May must refl
            ∙ both_parts Can (P Can) (Q (second_kind Can P)) may (kept_of_can (P Can));
      }

  unknown_tells : (h : Status) → a.codes 0 ≡ h → Tells Unknown a P → Tells h b Q → Tells Unknown (tri_in_turn a b) (in_turn P Q)
  unknown_tells Plus is f k = absurd (true≢false (sym (ap sure is) ∙ code_at sure a _ f.sure 0))
  unknown_tells Minus is f k =
      let may : (P May).codes 0 ≡ false = sym (code_at possible a _ f.possible 0) ∙ ap possible is in
      record {
        sure = sequence_rails sure sure_rail a b _ _ f.sure k.sure;
        possible = sequence_rails possible possible_rail a b _ _ f.possible k.possible ∙ first_part May (P May) (Q May) may;
      }
  unknown_tells Unknown is f k =
      let may : (P May).codes 0 ≡ true = sym (code_at possible a _ f.possible 0) ∙ ap possible is in
      record {
        sure = sequence_rails sure sure_rail a b _ _ f.sure k.sure;
        possible = sequence_rails possible possible_rail a b _ _ f.possible k.possible
            ∙ both_parts May (P May) (Q May) may (kept_of_may (P May));
      }

  minus_tells : (h : Status) → a.codes 0 ≡ h → Tells Minus a P → Tells h b Q → Tells Minus (tri_in_turn a b) (in_turn P Q)
  minus_tells Plus is f k = absurd (true≢false (sym (ap possible is) ∙ code_at possible a _ f.possible 0))
  minus_tells Minus is f k = record {
    sure = sequence_rails sure sure_rail a b _ _ f.sure k.sure;
    possible = sequence_rails possible possible_rail a b _ _ f.possible k.possible;
  }
  minus_tells Unknown is f k = absurd (true≢false (sym (ap possible is) ∙ code_at possible a _ f.possible 0))

in_turn_tells : (g : Status) (a b : Tri) (P Q : Potentials) → ((j k : ℕ) → (P Must).codes j ≡ true → (P Must).codes k ≡ true → j ≡ k) →
    Tells g a P → Tells (a.codes 0) b Q → Tells g (tri_in_turn a b) (in_turn P Q)
in_turn_tells Plus a b P Q one f k = plus_tells a b P Q one (a.codes 0) refl f k
in_turn_tells Minus a b P Q one f k = minus_tells a b P Q (a.codes 0) refl f k
in_turn_tells Unknown a b P Q one f k = unknown_tells a b P Q (a.codes 0) refl f k

-- ---- a parallel, a trap

together_rails : (f : Status → Bool) (r : IsRail f) (a b : Tri) (A B : Potential) → rail f a ≡ A → rail f b ≡ B →
    rail f (tri_together a b) ≡ together A B
together_rails f r a b A B e h = rail_together f r a b ∙ ap (λ x. together x (rail f b)) e ∙ ap (λ x. together A x) h

together_tells : (g : Status) (a b : Tri) (P Q : Potentials) → Tells g a P → Tells g b Q → Tells g (tri_together a b) (λ k. together (P k) (Q k))
together_tells Plus a b P Q f k = record {
  sure = together_rails sure sure_rail a b _ _ f.sure k.sure;
  possible = together_rails possible possible_rail a b _ _ f.possible k.possible;
}
together_tells Minus a b P Q f k = record {
  sure = together_rails sure sure_rail a b _ _ f.sure k.sure;
  possible = together_rails possible possible_rail a b _ _ f.possible k.possible;
}
together_tells Unknown a b P Q f k = record {
  sure = together_rails sure sure_rail a b _ _ f.sure k.sure;
  possible = together_rails possible possible_rail a b _ _ f.possible k.possible;
}

lowered_none : (k : ℕ) → (trapped idle).codes k ≡ false
lowered_none zero = refl
lowered_none (suc zero) = refl
lowered_none (suc (suc k)) = refl

trapped_idle : trapped idle ≡ idle
trapped_idle = λ i. record { signals = λ t. false; codes = λ k. lowered_none k i }

trapped_rails : (f : Status → Bool) (r : IsRail f) (a : Tri) (A : Potential) → rail f a ≡ A → rail f (tri_trapped a) ≡ trapped A
trapped_rails f r a A e = rail_trapped f r a ∙ ap (λ x. trapped x) e

trapped_tells : (g : Status) (a : Tri) (P : Potentials) → Tells g a P → Tells g (tri_trapped a) (λ k. trapped (P k))
trapped_tells Plus a P f = record {
  sure = trapped_rails sure sure_rail a _ f.sure;
  possible = trapped_rails possible possible_rail a _ f.possible;
}
trapped_tells Minus a P f = record {
  sure = trapped_rails sure sure_rail a _ f.sure ∙ trapped_idle;
  possible = trapped_rails possible possible_rail a _ f.possible ∙ trapped_idle;
}
trapped_tells Unknown a P f = record {
  sure = trapped_rails sure sure_rail a _ f.sure ∙ trapped_idle;
  possible = trapped_rails possible possible_rail a _ f.possible;
}

-- ---- a local signal

hidden_rails : (f : Status → Bool) (r : IsRail f) (s : ℕ) (a : Tri) (A : Potential) → rail f a ≡ A → rail f (tri_hidden s a) ≡ hidden s A
hidden_rails f r s a A e = rail_hidden f r s a ∙ ap (λ x. hidden s x) e

-- a status from its rails, as Must and Can give it, and as May does
of_rails : (v : Status) (m c : Bool) → sure v ≡ m → possible v ≡ c → cond m Plus (cond c Unknown Minus) ≡ v
of_rails Plus m c e h = ap (λ x. cond x Plus (cond c Unknown Minus)) (sym e)
of_rails Minus m c e h = ap (λ x. cond x Plus (cond c Unknown Minus)) (sym e) ∙ ap (λ x. cond x Unknown Minus) (sym h)
of_rails Unknown m c e h = ap (λ x. cond x Plus (cond c Unknown Minus)) (sym e) ∙ ap (λ x. cond x Unknown Minus) (sym h)

of_possible : (v : Status) (c : Bool) → sure v ≡ false → possible v ≡ c → cond c Unknown Minus ≡ v
of_possible Plus c e h = absurd (true≢false e)
of_possible Minus c e h = ap (λ x. cond x Unknown Minus) (sym h)
of_possible Unknown c e h = ap (λ x. cond x Unknown Minus) (sym h)

-- the status that the body's potentials give to a signal is the one that its walk gives
decided_in_plus : (s : ℕ) (a : Tri) (P : Potentials) → Tells Plus a P → local_status s P Can ≡ a.signals s
decided_in_plus s a P f = of_rails (a.signals s) _ _ (signal_at sure a _ f.sure s) (signal_at possible a _ f.possible s)

decided_in_unknown : (s : ℕ) (a : Tri) (P : Potentials) → Tells Unknown a P → local_status s P May ≡ a.signals s
decided_in_unknown s a P f = of_possible (a.signals s) _ (signal_at sure a _ f.sure s) (signal_at possible a _ f.possible s)

-- over the body's walk and potentials as functions of the status of s
module _ (s : ℕ) (a : Status → Tri) (P : Status → Potentials) where
  abbrev local_potentials : Potentials
  local_potentials = λ k. hidden s (P (local_status s (P Unknown) k) k)

  local_tells : (g : Status) → ((v : Status) → Tells g (a v) (P v)) → Tells g (tri_hidden s (a ((a Unknown).signals s))) local_potentials
  local_tells Plus f =
      let v = (a Unknown).signals s in
      let is = decided_in_plus s (a Unknown) (P Unknown) (f Unknown) in
      record {
        sure = hidden_rails sure sure_rail s (a v) _ (f v).sure ∙ ap (λ w. hidden s (P w Must)) (sym is);
        possible = hidden_rails possible possible_rail s (a v) _ (f v).possible ∙ ap (λ w. hidden s (P w Can)) (sym is);
      }
  local_tells Minus f =
      let v = (a Unknown).signals s in
      record {
        sure = hidden_rails sure sure_rail s (a v) _ (f v).sure;
        possible = hidden_rails possible possible_rail s (a v) _ (f v).possible;
      }
  local_tells Unknown f =
      let v = (a Unknown).signals s in
      let is = decided_in_unknown s (a Unknown) (P Unknown) (f Unknown) in
      record {
        sure = hidden_rails sure sure_rail s (a v) _ (f v).sure;
        possible = hidden_rails possible possible_rail s (a v) _ (f v).possible ∙ ap (λ w. hidden s (P w May)) (sym is);
      }

-- ---- the induction

pub walk_tells : WalksTellPotentials
walk_tells Nothing g E = completes_tells 0 g
walk_tells Pause g E = completes_tells 1 g
walk_tells (Emit s) g E = emits_tells s g
walk_tells (Exit c) g E = completes_tells c g
walk_tells (Present e p q) g E =
    chosen_tells (value e E) g _ _ (potential p E) (potential q E)
    (walk_tells p (conjunction g (value e E)) E) (walk_tells q (conjunction g (opposite (value e E))) E)
walk_tells (Suspend e p) g E = walk_tells p g E
walk_tells (Seq p q) g E =
    in_turn_tells g (tri p g E) _ (potential p E) (potential q E) (must_has_one_code_lem p E)
    (walk_tells p g E) (walk_tells q ((tri p g E).codes 0) E)
walk_tells (Loop at p) g E = walk_tells p g E
walk_tells (Par p q) g E = together_tells g (tri p g E) (tri q g E) (potential p E) (potential q E) (walk_tells p g E) (walk_tells q g E)
walk_tells (Trap p) g E = trapped_tells g (tri p g E) (potential p E) (walk_tells p g E)
walk_tells (Local s p) g E =
    local_tells s (λ v. tri p g (with_status E s v)) (λ v. potential p (with_status E s v)) g (λ v. walk_tells p g (with_status E s v))
walk_tells (Awake e p) g E =
    chosen_tells (value e E) g _ _ (λ j. completes 1) (potential p E)
    (completes_tells 1 (conjunction g (value e E))) (walk_tells p (conjunction g (opposite (value e E))) E)

-- ---- what follows at once

-- a signal's status, as the potentials decide it
pub walk_decides : (p : Term) (E : Environment) (s : ℕ) → decided p E s ≡ tri_decided p Plus E s
walk_decides p E s = decided_in_plus s _ _ (walk_tells p Plus (with_status E s Unknown))

-- a term that does not run does nothing
pub silent_codes : (p : Term) (E : Environment) (k : ℕ) → (tri p Minus E).codes k ≡ Minus
silent_codes p E k = impossible _ (code_at possible _ _ (walk_tells p Minus E).possible k)

pub silent_signals : (p : Term) (E : Environment) (t : ℕ) → (tri p Minus E).signals t ≡ Minus
silent_signals p E t = impossible _ (signal_at possible _ _ (walk_tells p Minus E).possible t)

pub silent_walk : (p : Term) (E : Environment) → tri p Minus E ≡ tri_idle
silent_walk p E = λ i. record { signals = λ t. silent_signals p E t i; codes = λ k. silent_codes p E k i }
