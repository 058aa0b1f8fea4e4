-- What more knowledge makes of the potentials, and how the three kinds lie in one another: one lemma
-- per row of the tables, over any potentials, and then one induction.
use Rattle.std.proofs.Common.{◌≡◌, ℕ, ◌⊎◌, Bool, true, false, ◌||◌, cond, max, refl, sym, ap, ◌∙◌, subst, inl, inr, ⊎_elim}
use Rattle.std.proofs.lemmas.Bool.{or_cases, or_left, or_right, and_parts, and_from, eqb-true, false≢true, cond_both}
use Rattle.base_types.specs.Codes.{either}
use Rattle.est_kernel.specs.Terms.{Term, Nothing, Pause, Emit, Exit, Present, Suspend, Seq, Loop, Par, Trap, Local, Awake}
use Rattle.est_kernel.specs.Statuses.{Status, Plus, Minus, Unknown, Environment, with_status, value}
use Rattle.est_kernel.specs.Potentials.{PotentialKind, Must, Can, May, Potential, Potentials, idle, completes, emits, union, chosen, second_kind, codes_kept}
use Rattle.est_kernel.specs.Potentials.{sequence}
use Rattle.est_kernel.specs.Potentials.{in_turn, together, trapped, hidden, local_status, potential}
use Rattle.est_kernel.specs.Steps.{trap_code}
use Rattle.est_kernel.specs.Laws.{IsWithin, IsBelow, KnowsMore, MustGrows, CanShrinks, MayShrinks, MustLiesInCan, CanLiesInMay, MustHasOneCode}
use Rattle.est_kernel.proofs.Sets.{except-in, except-parts, maxima-parts, maxima-subset, lowered-subset, lowered-parts, either-subset}
use Rattle.est_kernel.proofs.Statuses.{below_self, knows_self, value_below, with_status-more}

within_self : (a : Potential) → IsWithin a a
within_self a = record { signals = λ t h. h; codes = λ k h. h }

within_both : {a b c : Potential} → IsWithin a b → IsWithin b c → IsWithin a c
within_both f g =
    record { signals = λ t h. g.signals t (f.signals t h); codes = λ k h. g.codes k (f.codes k h) }

idle_within : (a : Potential) → IsWithin idle a
idle_within a = record { signals = λ t h. absurd (false≢true h); codes = λ k h. absurd (false≢true h) }

union_within : {a b c d : Potential} → IsWithin a c → IsWithin b d → IsWithin (union a b) (union c d)
union_within {a} {b} {c} {d} f g =
    record {
      signals = either-subset a.signals b.signals c.signals d.signals f.signals g.signals;
      codes = either-subset a.codes b.codes c.codes d.codes f.codes g.codes;
    }

within_left : (a b : Potential) → IsWithin a (union a b)
within_left a b =
    record {
      signals = λ t h. or_left (a.signals t) (b.signals t) h;
      codes = λ k h. or_left (a.codes k) (b.codes k) h;
    }

within_right : (a b : Potential) → IsWithin b (union a b)
within_right a b =
    record {
      signals = λ t h. or_right (a.signals t) (b.signals t) h;
      codes = λ k h. or_right (a.codes k) (b.codes k) h;
    }

together_within : {a b c d : Potential} → IsWithin a c → IsWithin b d → IsWithin (together a b) (together c d)
together_within {a} {b} {c} {d} f g =
    record {
      signals = either-subset a.signals b.signals c.signals d.signals f.signals g.signals;
      codes = maxima-subset a.codes b.codes c.codes d.codes f.codes g.codes;
    }

trapped_within : {a b : Potential} → IsWithin a b → IsWithin (trapped a) (trapped b)
trapped_within {a} {b} f =
    record { signals = f.signals; codes = lowered-subset a.codes b.codes f.codes }

hidden_within : (s : ℕ) {a b : Potential} → IsWithin a b → IsWithin (hidden s a) (hidden s b)
hidden_within s {a} {b} f =
    record {
      signals = λ t h. let p = and_parts (a.signals t) _ h in and_from _ _ (f.signals t p.0) p.1;
      codes = f.codes;
    }

-- at most one code
record HasOneCode (a : Potential) : Type 0 where
  same : (j k : ℕ) → a.codes j ≡ true → a.codes k ≡ true → j ≡ k

-- what a sequence of kind k keeps of its first part's codes has each of them but termination
record KeepsOthers (k : PotentialKind) (a : Potential) : Type 0 where
  keeps : (j : ℕ) → a.codes 0 ≡ true → a.codes j ≡ true → (j ≡ 0 → ⊥) → codes_kept k a.codes j ≡ true

keeps_must : {a : Potential} → HasOneCode a → KeepsOthers Must a
keeps_must h = record { keeps = λ j z c n. absurd (n (h.same j 0 c z)) }

keeps_can : (a : Potential) → KeepsOthers Can a
keeps_can a = record { keeps = λ j z c n. except-in a.codes 0 j c n }

keeps_may : (a : Potential) → KeepsOthers May a
keeps_may a = record { keeps = λ j z c n. except-in a.codes 0 j c n }

codes_kept-parts : (k : PotentialKind) (A : ℕ → Bool) (j : ℕ) → codes_kept k A j ≡ true → (A j ≡ true) × (j ≡ 0 → ⊥)
codes_kept-parts Must A j h = absurd (false≢true h)
codes_kept-parts Can A j h = except-parts A 0 j h
codes_kept-parts May A j h = except-parts A 0 j h

-- both parts of a sequence of kind k
abbrev both_parts : PotentialKind → Potential → Potential → Potential
both_parts k a b =
    record { signals = λ t. a.signals t || b.signals t; codes = either (codes_kept k a.codes) b.codes }

-- the members of a sequence
module _ (k : PotentialKind) (a b : Potential) where
  sequence_signals-parts : (t : ℕ) → (sequence k a b).signals t ≡ true → (a.signals t ≡ true) ⊎ ((a.codes 0 ≡ true) × (b.signals t ≡ true))
  sequence_signals-parts t =
      cond_both (a.codes 0) (both_parts k a b) a
      (λ c. c.signals t ≡ true → (a.signals t ≡ true) ⊎ ((a.codes 0 ≡ true) × (b.signals t ≡ true)))
      (λ e h. ⊎_elim (λ x. inl x) (λ y. inr (e, y)) (or_cases (a.signals t) (b.signals t) h))
      (λ e h. inl h)

  pub sequence_codes-parts : (j : ℕ) → (sequence k a b).codes j ≡ true → ((a.codes j ≡ true) × (j ≡ 0 → ⊥)) ⊎ ((a.codes 0 ≡ true) × (b.codes j ≡ true))
  sequence_codes-parts j =
      cond_both (a.codes 0) (both_parts k a b) a
      (λ c. c.codes j ≡ true → ((a.codes j ≡ true) × (j ≡ 0 → ⊥)) ⊎ ((a.codes 0 ≡ true) × (b.codes j ≡ true)))
      (λ e h. ⊎_elim (λ x. inl (codes_kept-parts k a.codes j x)) (λ y. inr (e, y)) (or_cases (codes_kept k a.codes j) (b.codes j) h))
      (λ e h. inl (h, λ z. false≢true (sym e ∙ subst (λ n. a.codes n ≡ true) z h)))

  sequence_signals-first : (t : ℕ) → a.signals t ≡ true → (sequence k a b).signals t ≡ true
  sequence_signals-first t h =
      cond_both (a.codes 0) (both_parts k a b) a (λ c. c.signals t ≡ true)
      (λ e. or_left (a.signals t) (b.signals t) h)
      (λ e. h)

  sequence_signals-second : (t : ℕ) → a.codes 0 ≡ true → b.signals t ≡ true → (sequence k a b).signals t ≡ true
  sequence_signals-second t z h =
      cond_both (a.codes 0) (both_parts k a b) a (λ c. c.signals t ≡ true)
      (λ e. or_right (a.signals t) (b.signals t) h)
      (λ e. absurd (false≢true (sym e ∙ z)))

  sequence_codes-first : (j : ℕ) → KeepsOthers k a → a.codes j ≡ true → (j ≡ 0 → ⊥) → (sequence k a b).codes j ≡ true
  sequence_codes-first j keep h n =
      cond_both (a.codes 0) (both_parts k a b) a (λ c. c.codes j ≡ true)
      (λ e. or_left (codes_kept k a.codes j) (b.codes j) (keep.keeps j e h n))
      (λ e. h)

  sequence_codes-second : (j : ℕ) → a.codes 0 ≡ true → b.codes j ≡ true → (sequence k a b).codes j ≡ true
  sequence_codes-second j z h =
      cond_both (a.codes 0) (both_parts k a b) a (λ c. c.codes j ≡ true)
      (λ e. or_right (codes_kept k a.codes j) (b.codes j) h)
      (λ e. absurd (false≢true (sym e ∙ z)))

sequence_within : (k l : PotentialKind) (a b c d : Potential) → KeepsOthers l c → IsWithin a c → (a.codes 0 ≡ true → IsWithin b d) →
    IsWithin (sequence k a b) (sequence l c d)
sequence_within k l a b c d keep f g =
    record {
      signals = λ t h.
          ⊎_elim
          (λ x. sequence_signals-first l c d t (f.signals t x))
          (λ y. sequence_signals-second l c d t (f.codes 0 y.0) ((g y.0).signals t y.1))
          (sequence_signals-parts k a b t h);
      codes = λ j h.
          ⊎_elim
          (λ x. sequence_codes-first l c d j keep (f.codes j x.0) x.1)
          (λ y. sequence_codes-second l c d j (f.codes 0 y.0) ((g y.0).codes j y.1))
          (sequence_codes-parts k a b j h);
    }

sequence_has_one_code : (a b : Potential) → HasOneCode a → HasOneCode b → HasOneCode (sequence Must a b)
sequence_has_one_code a b f g =
    cond_both (a.codes 0) (both_parts Must a b) a (λ c. HasOneCode c) (λ e. record { same = g.same }) (λ e. f)

together_has_one_code : (a b : Potential) → HasOneCode a → HasOneCode b → HasOneCode (together a b)
together_has_one_code a b f g =
    record {
      same = λ j k x y.
          let p = maxima-parts a.codes b.codes j x in
          let q = maxima-parts a.codes b.codes k y in
          let left : p.0 ≡ q.0 = f.same p.0 q.0 p.2 q.2 in
          let right : p.1 ≡ q.1 = g.same p.1 q.1 p.3 q.3 in
          p.4 ∙ ap (λ n. max n p.1) left ∙ ap (λ n. max q.0 n) right ∙ sym q.4;
    }

trapped_has_one_code : (a : Potential) → HasOneCode a → HasOneCode (trapped a)
trapped_has_one_code a f =
    record {
      same = λ j k x y.
          let p = lowered-parts a.codes j x in
          let q = lowered-parts a.codes k y in
          p.2 ∙ ap trap_code (f.same p.0 q.0 p.1 q.1) ∙ sym q.2;
    }

completes_has_one_code : (c : ℕ) → HasOneCode (completes c)
completes_has_one_code c = record { same = λ j k x y. eqb-true j c x ∙ sym (eqb-true k c y) }

-- how the three kinds of a term's potential lie in one another
record Nests (a : Potentials) : Type 0 where
  must_in_can : IsWithin (a Must) (a Can)
  can_in_may : IsWithin (a Can) (a May)
  one_code : HasOneCode (a Must)

-- the potentials a, where less is known, and the potentials b of the same term, where more is known
record Refines (a b : Potentials) : Type 0 where
  low : Nests a
  high : Nests b
  grows : IsWithin (a Must) (b Must)
  can_shrinks : IsWithin (b Can) (a Can)
  may_shrinks : IsWithin (b May) (a May)

-- potentials that are the same for every kind and in every environment
constant_nests : (a : Potential) → HasOneCode a → Nests (λ k. a)
constant_nests a one = record { must_in_can = within_self a; can_in_may = within_self a; one_code = one }

constant_refines : (a : Potential) → HasOneCode a → Refines (λ k. a) (λ k. a)
constant_refines a one =
    record {
      low = constant_nests a one;
      high = constant_nests a one;
      grows = within_self a;
      can_shrinks = within_self a;
      may_shrinks = within_self a;
    }

-- a choice
unknown_nests : (a b : Potentials) → Nests (chosen Unknown a b)
unknown_nests a b =
    record {
      must_in_can = idle_within _;
      can_in_may = within_self _;
      one_code = record { same = λ j k x y. absurd (false≢true x) };
    }

chosen_refines : (v w : Status) {a a' b b' : Potentials} → IsBelow v w → Refines a a' → Refines b b' → Refines (chosen v a b) (chosen w a' b')
chosen_refines Plus Plus h f g = record { low = f.low; high = f.high; grows = f.grows; can_shrinks = f.can_shrinks; may_shrinks = f.may_shrinks }
chosen_refines Plus Minus h f g = cc
chosen_refines Plus Unknown h f g = cc
chosen_refines Minus Plus h f g = cc
chosen_refines Minus Minus h f g = record { low = g.low; high = g.high; grows = g.grows; can_shrinks = g.can_shrinks; may_shrinks = g.may_shrinks }
chosen_refines Minus Unknown h f g = cc
chosen_refines Unknown Plus {a} {a'} {b} {b'} h f g =
    record {
      low = unknown_nests a b;
      high = f.high;
      grows = idle_within _;
      can_shrinks = within_both f.high.can_in_may (within_both f.may_shrinks (within_left (a May) (b May)));
      may_shrinks = within_both f.may_shrinks (within_left (a May) (b May));
    }
chosen_refines Unknown Minus {a} {a'} {b} {b'} h f g =
    record {
      low = unknown_nests a b;
      high = g.high;
      grows = idle_within _;
      can_shrinks = within_both g.high.can_in_may (within_both g.may_shrinks (within_right (a May) (b May)));
      may_shrinks = within_both g.may_shrinks (within_right (a May) (b May));
    }
chosen_refines Unknown Unknown {a} {a'} {b} {b'} h f g =
    record {
      low = unknown_nests a b;
      high = unknown_nests a' b';
      grows = idle_within _;
      can_shrinks = union_within f.may_shrinks g.may_shrinks;
      may_shrinks = union_within f.may_shrinks g.may_shrinks;
    }

-- the second part of a sequence, taken as one that must be run where c holds
second_in_may : (c : Bool) (b : Potentials) → Nests b → IsWithin (b (cond c Can May)) (b May)
second_in_may true b n = n.can_in_may
second_in_may false b n = within_self (b May)

must_in_second : (c : Bool) (b : Potentials) → Nests b → c ≡ true → IsWithin (b Must) (b (cond c Can May))
must_in_second true b n e = n.must_in_can
must_in_second false b n e = absurd (false≢true e)

second_shrinks : (c d : Bool) {b b' : Potentials} → Refines b b' → (c ≡ true → d ≡ true) → IsWithin (b' (cond d Can May)) (b (cond c Can May))
second_shrinks true true f g = f.can_shrinks
second_shrinks true false f g = absurd (false≢true (g refl))
second_shrinks false true f g = within_both f.high.can_in_may f.may_shrinks
second_shrinks false false f g = f.may_shrinks

in_turn_nests : {a b : Potentials} → Nests a → Nests b → Nests (in_turn a b)
in_turn_nests {a} {b} f g =
    let test : Bool = (a Must).codes 0 in
    record {
      must_in_can = sequence_within Must Can (a Must) (b Must) (a Can) (b (second_kind Can a)) (keeps_can (a Can)) f.must_in_can
          (must_in_second ((a Must).codes 0) b g);
      can_in_may = sequence_within Can May (a Can) (b (second_kind Can a)) (a May) (b May) (keeps_may (a May)) f.can_in_may
          (λ e. second_in_may ((a Must).codes 0) b g);
      one_code = sequence_has_one_code (a Must) (b Must) f.one_code g.one_code;
    }

in_turn_refines : {a a' b b' : Potentials} → Refines a a' → Refines b b' → Refines (in_turn a b) (in_turn a' b')
in_turn_refines {a} {a'} {b} {b'} f g =
    record {
      low = in_turn_nests f.low g.low;
      high = in_turn_nests f.high g.high;
      grows = sequence_within Must Must (a Must) (b Must) (a' Must) (b' Must) (keeps_must f.high.one_code) f.grows (λ e. g.grows);
      can_shrinks = sequence_within Can Can (a' Can) (b' (second_kind Can a')) (a Can) (b (second_kind Can a)) (keeps_can (a Can)) f.can_shrinks
          (λ e. second_shrinks ((a Must).codes 0) ((a' Must).codes 0) g (f.grows.codes 0));
      may_shrinks = sequence_within May May (a' May) (b' May) (a May) (b May) (keeps_may (a May)) f.may_shrinks (λ e. g.may_shrinks);
    }

-- a parallel
together_nests : {a b : Potentials} → Nests a → Nests b → Nests (λ k. together (a k) (b k))
together_nests f g =
    record {
      must_in_can = together_within f.must_in_can g.must_in_can;
      can_in_may = together_within f.can_in_may g.can_in_may;
      one_code = together_has_one_code _ _ f.one_code g.one_code;
    }

together_refines : {a a' b b' : Potentials} → Refines a a' → Refines b b' → Refines (λ k. together (a k) (b k)) (λ k. together (a' k) (b' k))
together_refines f g =
    record {
      low = together_nests f.low g.low;
      high = together_nests f.high g.high;
      grows = together_within f.grows g.grows;
      can_shrinks = together_within f.can_shrinks g.can_shrinks;
      may_shrinks = together_within f.may_shrinks g.may_shrinks;
    }

-- a trap
trapped_nests : {a : Potentials} → Nests a → Nests (λ k. trapped (a k))
trapped_nests f =
    record {
      must_in_can = trapped_within f.must_in_can;
      can_in_may = trapped_within f.can_in_may;
      one_code = trapped_has_one_code _ f.one_code;
    }

trapped_refines : {a a' : Potentials} → Refines a a' → Refines (λ k. trapped (a k)) (λ k. trapped (a' k))
trapped_refines f =
    record {
      low = trapped_nests f.low;
      high = trapped_nests f.high;
      grows = trapped_within f.grows;
      can_shrinks = trapped_within f.can_shrinks;
      may_shrinks = trapped_within f.may_shrinks;
    }

-- the status that Must and Can give to a local signal, from what must and what can be emitted
decided_below : (m c m' c' : Bool) → (m ≡ true → m' ≡ true) → (c' ≡ true → c ≡ true) → (m' ≡ true → c' ≡ true) →
    IsBelow (cond m Plus (cond c Unknown Minus)) (cond m' Plus (cond c' Unknown Minus))
decided_below true c true c' f g h = refl
decided_below true c false c' f g h = absurd (false≢true (f refl))
decided_below false true m' c' f g h = tt
decided_below false false true c' f g h = absurd (false≢true (g (h refl)))
decided_below false false false true f g h = absurd (false≢true (g refl))
decided_below false false false false f g h = refl

-- the status that May gives to it
may_below : (y y' : Bool) → (y' ≡ true → y ≡ true) → IsBelow (cond y Unknown Minus) (cond y' Unknown Minus)
may_below true y' f = tt
may_below false true f = absurd (false≢true (f refl))
may_below false false f = refl

may_below_decided : (m c y : Bool) → (m ≡ true → c ≡ true) → (c ≡ true → y ≡ true) → IsBelow (cond y Unknown Minus) (cond m Plus (cond c Unknown Minus))
may_below_decided m c true f g = tt
may_below_decided true c false f g = absurd (false≢true (g (f refl)))
may_below_decided false true false f g = absurd (false≢true (g refl))
may_below_decided false false false f g = refl

-- a local signal s, over the body's potentials as a function of the status of s
module _ (s : ℕ) where
  abbrev local_potentials : (Status → Potentials) → Potentials
  local_potentials P = λ k. hidden s (P (local_status s (P Unknown) k) k)

  abbrev RefinesIn : (Status → Potentials) → (Status → Potentials) → Type 0
  RefinesIn P Q = (v w : Status) → IsBelow v w → Refines (P v) (Q w)

  local_nests : (P : Status → Potentials) → RefinesIn P P → Nests (local_potentials P)
  local_nests P r =
      let a = (r Unknown Unknown tt).low in
      let v = local_status s (P Unknown) Can in
      let u = local_status s (P Unknown) May in
      let uv : IsBelow u v =
      may_below_decided ((P Unknown Must).signals s) ((P Unknown Can).signals s) ((P Unknown May).signals s)
      (a.must_in_can.signals s) (a.can_in_may.signals s) in
      let at = (r v v (below_self v)).low in
      record {
        must_in_can = hidden_within s at.must_in_can;
        can_in_may = hidden_within s (within_both (r u v uv).can_shrinks (r u v uv).low.can_in_may);
        one_code = record { same = at.one_code.same };
      }

  local_refines : (P Q : Status → Potentials) → RefinesIn P P → RefinesIn Q Q → RefinesIn P Q → Refines (local_potentials P) (local_potentials Q)
  local_refines P Q rp rq r =
      let a = r Unknown Unknown tt in
      let v = local_status s (P Unknown) Can in
      let w = local_status s (Q Unknown) Can in
      let x = local_status s (P Unknown) May in
      let y = local_status s (Q Unknown) May in
      let vw : IsBelow v w =
      decided_below ((P Unknown Must).signals s) ((P Unknown Can).signals s)
      ((Q Unknown Must).signals s) ((Q Unknown Can).signals s)
      (a.grows.signals s) (a.can_shrinks.signals s) (a.high.must_in_can.signals s) in
      let xy : IsBelow x y =
      may_below ((P Unknown May).signals s) ((Q Unknown May).signals s) (a.may_shrinks.signals s) in
      record {
        low = local_nests P rp;
        high = local_nests Q rq;
        grows = hidden_within s (r v w vw).grows;
        can_shrinks = hidden_within s (r v w vw).can_shrinks;
        may_shrinks = hidden_within s (r x y xy).may_shrinks;
      }

-- the potentials of a term refine with what is known
refines : (p : Term) (E F : Environment) → KnowsMore E F → Refines (potential p E) (potential p F)
refines Nothing E F m = constant_refines (completes 0) (completes_has_one_code 0)
refines Pause E F m = constant_refines (completes 1) (completes_has_one_code 1)
refines (Emit s) E F m = constant_refines (emits s) (record { same = (completes_has_one_code 0).same })
refines (Exit c) E F m = constant_refines (completes c) (completes_has_one_code c)
refines (Present e p q) E F m =
    chosen_refines (value e E) (value e F) (value_below e E F m) (refines p E F m) (refines q E F m)
refines (Suspend e p) E F m = refines p E F m
refines (Seq p q) E F m = in_turn_refines (refines p E F m) (refines q E F m)
refines (Loop at p) E F m = refines p E F m
refines (Par p q) E F m = together_refines (refines p E F m) (refines q E F m)
refines (Trap p) E F m = trapped_refines (refines p E F m)
refines (Local s p) E F m =
    local_refines s (λ v. potential p (with_status E s v)) (λ v. potential p (with_status F s v))
    (λ v w h. refines p (with_status E s v) (with_status E s w) (with_status-more s v w (knows_self E) h))
    (λ v w h. refines p (with_status F s v) (with_status F s w) (with_status-more s v w (knows_self F) h))
    (λ v w h. refines p (with_status E s v) (with_status F s w) (with_status-more s v w m h))
refines (Awake e p) E F m =
    chosen_refines (value e E) (value e F) (value_below e E F m)
    (constant_refines (completes 1) (completes_has_one_code 1)) (refines p E F m)

pub must_grows_lem : MustGrows
must_grows_lem p E F m = (refines p E F m).grows

pub can_shrinks_lem : CanShrinks
can_shrinks_lem p E F m = (refines p E F m).can_shrinks

pub may_shrinks_lem : MayShrinks
may_shrinks_lem p E F m = (refines p E F m).may_shrinks

pub must_lies_in_can_lem : MustLiesInCan
must_lies_in_can_lem p E = (refines p E E (knows_self E)).low.must_in_can

pub can_lies_in_may_lem : CanLiesInMay
can_lies_in_may_lem p E = (refines p E E (knows_self E)).low.can_in_may

pub must_has_one_code_lem : MustHasOneCode
must_has_one_code_lem p E = (refines p E E (knows_self E)).low.one_code.same
