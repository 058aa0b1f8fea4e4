-- What the equations of ends make of the parts' ends, where each part's end that it does not have is absent: one lemma
-- per form.
use Rattle.std.proofs.Common.{◌≡◌, ℕ, Bool, true, false, not, ◌&&◌, ◌||◌, cond, refl, sym, ap, ◌∙◌, subst}
use Rattle.std.proofs.lemmas.Bool.{false≢true, true≢false, both_ways, false_from_ne_true}
use Rattle.base_types.specs.Codes.{maxima}
use Rattle.est_kernel.specs.Statuses.{Status, Minus, conjunction, disjunction}
use Rattle.est_kernel.proofs.Exports.{maxima-in, maxima-parts}
use Rattle.est_ternary.specs.TriWalks.{where_met, tri_upto, tri_maxima}
use Rattle.est_ternary.specs.Laws.{possible}
use Rattle.est_ternary.proofs.Exports.{possible_rail, impossible, rail_maxima}
use Rattle.grc_ternary.proofs.Formulas.{or_three, or_turned, met_same}

-- absent where the condition fails
abbrev pub Dead : Bool → Status → Type 0
Dead c x = c ≡ false → x ≡ Minus

pub only_ends : (c : Bool) (x : Status) → Dead c x → where_met c (where_met c x) ≡ x
only_ends true x f = refl
only_ends false x f = sym (f refl)

pub choice_ends : (c d : Bool) (x y : Status) → Dead c x → Dead d y → where_met (c || d) (disjunction (where_met c x) (where_met d y)) ≡ disjunction x y
choice_ends true true x y f g = refl
choice_ends true false x y f g = ap (λ v. disjunction x v) (sym (g refl))
choice_ends false true x y f g = ap (λ v. disjunction v y) (sym (f refl))
choice_ends false false x y f g = ap (λ v. disjunction v Minus) (sym (f refl)) ∙ ap (λ v. disjunction x v) (sym (g refl))

-- a first part keeps its codes but 0
kept_end : (c z : Bool) (x : Status) → Dead c x → where_met (c && not z) x ≡ where_met (not z) x
kept_end true z x f = refl
kept_end false true x f = refl
kept_end false false x f = sym (f refl)

cut_end : (c z : Bool) (x : Status) → Dead c x → Dead (c && not z) (where_met (not z) x)
cut_end true true x f e = refl
cut_end true false x f e = absurd (true≢false e)
cut_end false true x f e = refl
cut_end false false x f e = f refl

-- a sequence at its start: c0 says that the first part can terminate; z that the code is 0
pub sequence_ends : (c0 c d z : Bool) (x y : Status) → (z ≡ true → c ≡ c0) → Dead c x → Dead (c0 && d) y →
    where_met (cond c0 ((c && not z) || d) c) (disjunction (where_met (c && not z) x) (where_met (c0 && d) y)) ≡ disjunction (where_met (not z) x) y
sequence_ends true c d z x y s f g =
    ap (λ v. where_met ((c && not z) || d) (disjunction v (where_met d y)))
    (kept_end c z x f ∙ sym (met_same (c && not z) (where_met (not z) x) (cut_end c z x f)))
    ∙ choice_ends (c && not z) d (where_met (not z) x) y (cut_end c z x f) g
sequence_ends false true d true x y s f g = absurd (true≢false (s refl))
sequence_ends false true d false x y s f g = ap (λ v. disjunction x v) (sym (g refl))
sequence_ends false false d true x y s f g = sym (g refl)
sequence_ends false false d false x y s f g = ap (λ v. disjunction v Minus) (sym (f refl)) ∙ ap (λ v. disjunction x v) (sym (g refl))

-- a loop at its start, whose body cannot terminate at once
pub loop_ends : (c z : Bool) (x : Status) → (z ≡ true → c ≡ false) → Dead c x → where_met (c && not z) (where_met (c && not z) x) ≡ x
loop_ends true true x s f = absurd (true≢false (s refl))
loop_ends true false x s f = refl
loop_ends false z x s f = sym (f refl)

-- a parallel
pub dead_maxima : (C D : ℕ → Bool) (A B : ℕ → Status) → ((k : ℕ) → Dead (C k) (A k)) → ((k : ℕ) → Dead (D k) (B k)) → (k : ℕ) →
    Dead (maxima C D k) (tri_maxima A B k)
dead_maxima C D A B f g k e =
    impossible (tri_maxima A B k)
    (false_from_ne_true _ (λ h.
    let s = maxima-parts (λ j. possible (A j)) (λ j. possible (B j)) k (sym (rail_maxima possible possible_rail A B k) ∙ h) in
    both_ways (maxima C D k) e
    (subst (λ j. maxima C D j ≡ true) (sym s.4) (maxima-in C D s.0 s.1 (has (C s.0) (A s.0) (f s.0) s.2) (has (D s.1) (B s.1) (g s.1) s.3)))))
  where
    has : (c : Bool) (x : Status) → Dead c x → possible x ≡ true → c ≡ true
    has true x f p = refl
    has false x f p = absurd (true≢false (sym p ∙ ap possible (f refl)))

-- the formula of a parallel, whose ends are those of the branches
pub parallel_ends : (C D : ℕ → Bool) (A B : ℕ → Status) → ((k : ℕ) → Dead (C k) (A k)) → ((k : ℕ) → Dead (D k) (B k)) → (k : ℕ) →
    where_met (maxima C D k)
    (conjunction (tri_upto A k) (conjunction (tri_upto B k) (disjunction (where_met (C k) (A k)) (where_met (D k) (B k))))) ≡ tri_maxima A B k
parallel_ends C D A B f g k =
    ap (λ v. where_met (maxima C D k) (conjunction (tri_upto A k) (conjunction (tri_upto B k) (disjunction v (where_met (D k) (B k))))))
    (met_same (C k) (A k) (f k))
    ∙ ap (λ v. where_met (maxima C D k) (conjunction (tri_upto A k) (conjunction (tri_upto B k) (disjunction (A k) v)))) (met_same (D k) (B k) (g k))
    ∙ met_same (maxima C D k) (tri_maxima A B k) (dead_maxima C D A B f g k)

-- a resumed suspension: o is what it does where its test is true, in instant code 1
pub awake_ends : (c h z : Bool) (x o : Status) → Dead c x → h ≡ true → where_met (c || (h && z)) (disjunction (where_met c x) (where_met z o)) ≡
    disjunction (where_met z o) x
awake_ends c true z x o f h =
    ap (λ v. where_met (c || z) (disjunction (where_met c x) v)) (sym (same z o)) ∙ choice_ends c z x (where_met z o) f (late z o)
    ∙ or_turned x (where_met z o)
  where
    same : (z : Bool) (o : Status) → where_met z (where_met z o) ≡ where_met z o
    same true o = refl
    same false o = refl

    late : (z : Bool) (o : Status) → Dead z (where_met z o)
    late true o e = absurd (true≢false e)
    late false o e = refl
awake_ends c false z x o f h = absurd (false≢true h)

-- a resumed sequence
pub resumed_sequence_ends : (c0 c s pass d z : Bool) (x w y : Status) → Dead c x → Dead (c0 && s) w → Dead (pass && d) y →
    where_met ((c && not z) || ((c0 && s) || (pass && d)))
    (disjunction (where_met (c && not z) x) (disjunction (where_met (pass && d) y) (where_met (c0 && s) w)))
    ≡ disjunction (disjunction (where_met (not z) x) w) y
resumed_sequence_ends c0 c s pass d z x w y f g h =
    ap (λ v. where_met ((c && not z) || ((c0 && s) || (pass && d))) (disjunction v (disjunction (where_met (pass && d) y) (where_met (c0 && s) w))))
    (kept_end c z x f)
    ∙ ap (λ v. where_met ((c && not z) || ((c0 && s) || (pass && d))) (disjunction (where_met (not z) x) (disjunction v (where_met (c0 && s) w))))
    (met_same (pass && d) y h)
    ∙ ap (λ v. where_met ((c && not z) || ((c0 && s) || (pass && d))) (disjunction (where_met (not z) x) (disjunction y v))) (met_same (c0 && s) w g)
    ∙ ap (λ v. where_met ((c && not z) || ((c0 && s) || (pass && d))) (disjunction (where_met (not z) x) v)) (or_turned y w)
    ∙ three (c && not z) (c0 && s) (pass && d) (where_met (not z) x) w y (cut_end c z x f) g h
    ∙ sym (or_three (where_met (not z) x) w y)
  where
    three : (a b c : Bool) (x w y : Status) → Dead a x → Dead b w → Dead c y
        → where_met (a || (b || c)) (disjunction x (disjunction w y)) ≡ disjunction x (disjunction w y)
    three true b c x w y f g h = refl
    three false true c x w y f g h = refl
    three false false true x w y f g h = refl
    three false false false x w y f g h =
        sym (ap (λ v. disjunction v (disjunction w y)) (f refl) ∙ ap (λ v. disjunction v y) (g refl) ∙ h refl)

-- a resumed loop
pub resumed_loop_ends : (c0 c s z : Bool) (x w : Status) → (z ≡ true → s ≡ false) → Dead c x → Dead (c0 && s) w →
    where_met ((c && not z) || (c0 && (s && not z))) (disjunction (where_met (c && not z) x) (where_met (c0 && (s && not z)) w))
    ≡ disjunction (where_met (not z) x) w
resumed_loop_ends c0 c s z x w e f g =
    ap (λ v. where_met ((c && not z) || (c0 && (s && not z))) (disjunction v (where_met (c0 && (s && not z)) w)))
    (kept_end c z x f ∙ sym (met_same (c && not z) (where_met (not z) x) (cut_end c z x f)))
    ∙ choice_ends (c && not z) (c0 && (s && not z)) (where_met (not z) x) w (cut_end c z x f) (later c0 s z e g)
  where
    later : (c0 s z : Bool) → (z ≡ true → s ≡ false) → Dead (c0 && s) w → Dead (c0 && (s && not z)) w
    later true true true e g h = absurd (true≢false (e refl))
    later true true false e g h = absurd (true≢false h)
    later true false z e g h = g refl
    later false s z e g h = g refl
