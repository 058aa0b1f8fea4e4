-- The equations of a resumed parallel by Kleene's tables: a branch that holds no selected pause is over, and counts as
-- code 0.
use Rattle.std.proofs.Common.{◌≡◌, ℕ, zero, suc, Bool, true, false, ◌&&◌, ◌||◌, ◌==◌, cond, [], ◌∷◌, ◌++◌, inl, inr, refl, sym, ap, ◌∙◌}
use Rattle.std.proofs.Common.{arith}
use Rattle.std.proofs.lemmas.Bool.{ne_eqb, false≢true, true≢false, both_ways}
use Rattle.base_types.specs.Codes.{maxima}
use Rattle.est_kernel.specs.Terms.{Term}
use Rattle.est_kernel.specs.Statuses.{Status, Minus, known, opposite, conjunction, disjunction}
use Rattle.est_kernel.specs.StaticCodes.{has_code, branch_codes}
use Rattle.est_kernel.proofs.Exports.{disjunction-minus}
use Rattle.grc_graph.specs.Layers.{Resumed}
use Rattle.grc_graph.specs.Wires.{Go, End}
use Rattle.grc_graph.specs.Formulas.{Value, Selected, Upto, Conjunction, any_of}
use Rattle.grc_graph.specs.Equations.{branch_over, branch_upto, branch_end, resumed_parallel}
use Rattle.grc_graph.specs.Walk.{State, Values}
use Rattle.grc_graph.specs.Readings.{state_holds_at}
use Rattle.est_ternary.specs.TriWalks.{where_met, tri_upto, tri_maxima}
use Rattle.grc_ternary.specs.LeastSolutions.{Statuses, upto_status}
use Rattle.grc_ternary.proofs.Formulas.{val, or_all, or_append, if_meaning, two_meaning, met_absent, met_same, upto_same}
use Rattle.grc_ternary.proofs.ResumedWalks.{over_codes}
use Rattle.grc_ternary.proofs.StartedPlaces.{ends}
use Rattle.grc_ternary.proofs.ResumedPlaces.{over_ends, ParallelEnds}
use Rattle.grc_ternary.proofs.Ends.{Dead, dead_maxima}

over_none : (g : Status) (k : ℕ) → tri_upto (λ j. where_met (j == 0) g) k ≡ g
over_none g zero = refl
over_none g (suc k) =
    ap (λ v. disjunction v (where_met ((suc k) == 0) g)) (over_none g k)
    ∙ ap (λ b. disjunction g (where_met b g)) (ne_eqb (suc k) 0 (λ e. omega arith))
    ∙ disjunction-minus g

upto_over : (h c : Bool) (g : Status) (A : ℕ → Status) (k : ℕ) → (h ≡ true → c ≡ true) →
    disjunction (where_met c (conjunction (known h) (tri_upto A k))) (disjunction (conjunction (opposite (known h)) g) Minus) ≡ tri_upto (over_codes h g A) k
upto_over true true g A k f = disjunction-minus (tri_upto A k)
upto_over true false g A k f = absurd (false≢true (f refl))
upto_over false true g A k f = disjunction-minus g ∙ sym (over_none g k)
upto_over false false g A k f = disjunction-minus g ∙ sym (over_none g k)

end_over : (h c z : Bool) (g x : Status) → Dead c x →
    disjunction (where_met c (conjunction (known h) x)) (where_met z (conjunction (opposite (known h)) g)) ≡ cond h x (where_met z g)
end_over true c z g x d = ap (λ v. disjunction (where_met c x) v) (met_absent z) ∙ disjunction-minus (where_met c x) ∙ met_same c x d
end_over false c z g x d = ap (λ v. disjunction v (where_met z g)) (met_absent c)

-- the codes of a branch
dead_branch : (h : Bool) (A C : ℕ → Bool) (g : Status) (X : ℕ → Status) → (h ≡ false → (A 0 || C 0) ≡ true) → ((k : ℕ) → Dead (C k) (X k)) → (k : ℕ) →
    Dead (branch_codes A C k) (over_codes h g X k)
dead_branch h A C g X f d k e = by h (C k) refl (A 0 || C 0) refl (k == 0) e f
  where
    by : (h c : Bool) → C k ≡ c → (b : Bool) → (A 0 || C 0) ≡ b → (z : Bool) → (c || (b && z)) ≡ false → (h ≡ false → (A 0 || C 0) ≡ true) →
        cond h (X k) (where_met z g) ≡ Minus
    by true true i b j z e f = absurd (true≢false e)
    by true false i b j z e f = d k i
    by false true i b j z e f = absurd (true≢false e)
    by false false i true j true e f = absurd (true≢false e)
    by false false i true j false e f = refl
    by false false i false j z e f = absurd (both_ways (A 0 || C 0) j (f refl))

module _ (body : Term) (q : State) (given : Values) (U : Statuses) where
  picks : ℕ → Bool
  picks m = state_holds_at q body m

  upto_value : (A : ℕ → Bool) (n c k : ℕ) (h : Bool) → state_holds_at q body c ≡ h → (h ≡ true → has_code A ≡ true) →
      val body q given U (branch_upto A n c k) ≡ tri_upto (over_ends U h n c) k
  upto_value A n c k h e f =
      let own = Conjunction (Selected c) (Upto c Resumed k) in
      let over = branch_over n c in
      two_meaning body q given U (cond (has_code A) (own ∷ []) []) (over ∷ [])
      ∙ ap (λ v. disjunction v (or_all body q given U (over ∷ []))) (if_meaning body q given U (has_code A) own)
      ∙ ap (λ v. disjunction (where_met (has_code A) (val body q given U own)) v)
      (if_meaning body q given U true over ∙ sym (disjunction-minus (val body q given U over)))
      ∙ ap (λ b. disjunction (where_met (has_code A) (conjunction (known b) (upto_status (ends U c Resumed) k)))
      (disjunction (conjunction (opposite (known b)) (U (Go n Resumed))) Minus)) e
      ∙ ap (λ v. disjunction (where_met (has_code A) (conjunction (known h) v)) (disjunction (conjunction (opposite (known h)) (U (Go n Resumed))) Minus))
      (upto_same (ends U c Resumed) k)
      ∙ upto_over h (has_code A) (U (Go n Resumed)) (ends U c Resumed) k f

  end_value : (A : ℕ → Bool) (n c k : ℕ) (h : Bool) → state_holds_at q body c ≡ h → Dead (A k) (U (End c Resumed k)) →
      or_all body q given U (branch_end A n c k) ≡ over_ends U h n c k
  end_value A n c k h e d =
      let own = Conjunction (Selected c) (Value (End c Resumed k)) in
      let over = branch_over n c in
      or_append body q given U (cond (A k) (own ∷ []) []) (cond (k == 0) (over ∷ []) [])
      ∙ ap (λ v. disjunction v (or_all body q given U (cond (k == 0) (over ∷ []) []))) (if_meaning body q given U (A k) own)
      ∙ ap (λ v. disjunction (where_met (A k) (val body q given U own)) v) (if_meaning body q given U (k == 0) over)
      ∙ ap (λ b. disjunction (where_met (A k) (conjunction (known b) (U (End c Resumed k))))
      (where_met (k == 0) (conjunction (opposite (known b)) (U (Go n Resumed))))) e
      ∙ end_over h (A k) (k == 0) (U (Go n Resumed)) (U (End c Resumed k)) d

  pub parallel_value : (A C : ℕ → Bool) (n c d k : ℕ) (hp hq : Bool) → state_holds_at q body c ≡ hp → state_holds_at q body d ≡ hq →
      (hp ≡ true → has_code A ≡ true) → (hq ≡ true → has_code C ≡ true) → Dead (A k) (U (End c Resumed k)) → Dead (C k) (U (End d Resumed k)) →
      val body q given U (resumed_parallel A C n c d k) ≡ tri_maxima (over_ends U hp n c) (over_ends U hq n d) k
  parallel_value A C n c d k hp hq e f lp lq x y =
      let rest = any_of (branch_end A n c k ++ branch_end C n d k) in
      ap (λ v. conjunction v (conjunction (val body q given U (branch_upto C n d k)) (val body q given U rest))) (upto_value A n c k hp e lp)
      ∙ ap (λ v. conjunction (tri_upto (over_ends U hp n c) k) (conjunction v (val body q given U rest))) (upto_value C n d k hq f lq)
      ∙ ap (λ v. conjunction (tri_upto (over_ends U hp n c) k) (conjunction (tri_upto (over_ends U hq n d) k) v))
      (two_meaning body q given U (branch_end A n c k) (branch_end C n d k)
      ∙ ap (λ v. disjunction v (or_all body q given U (branch_end C n d k))) (end_value A n c k hp e x)
      ∙ ap (λ v. disjunction (over_ends U hp n c k) v) (end_value C n d k hq f y))

-- An end of a resumed parallel, which has it where b says so. Where a branch holds a selected pause, the ends that it
-- does not have are absent.
pub parallel_follows : (W U : Statuses) (n c d k : ℕ) (hp hq some : Bool) (A C D E : ℕ → Bool) → some ≡ true →
    ends W n Resumed k ≡ where_met (some && maxima (branch_codes A C) (branch_codes D E) k) (tri_maxima (over_ends U hp n c) (over_ends U hq n d) k) →
    ((hp || hq) ≡ true → (hp ≡ false → (A 0 || C 0) ≡ true) × (hq ≡ false → (D 0 || E 0) ≡ true)) →
    ((k : ℕ) → Dead (C k) (ends U c Resumed k)) → ((k : ℕ) → Dead (E k) (ends U d Resumed k)) → ParallelEnds W U hp hq n c d k
parallel_follows W U n c d k hp hq some A C D E i e f x y =
    by (maxima (branch_codes A C) (branch_codes D E) k) refl (hp || hq) refl
    (e ∙ ap (λ s. where_met (s && maxima (branch_codes A C) (branch_codes D E) k) (tri_maxima (over_ends U hp n c) (over_ends U hq n d) k)) i)
  where
    by : (b : Bool) → maxima (branch_codes A C) (branch_codes D E) k ≡ b → (h : Bool) → (hp || hq) ≡ h →
        ends W n Resumed k ≡ where_met (maxima (branch_codes A C) (branch_codes D E) k) (tri_maxima (over_ends U hp n c) (over_ends U hq n d) k) →
        ParallelEnds W U hp hq n c d k
    by true j h l e = inl (e ∙ ap (λ b. where_met b (tri_maxima (over_ends U hp n c) (over_ends U hq n d) k)) j)
    by false j true l e =
        inl (e ∙ met_same _ _ (dead_maxima (branch_codes A C) (branch_codes D E) (over_ends U hp n c) (over_ends U hq n d)
        (dead_branch hp A C (U (Go n Resumed)) (ends U c Resumed) (f l).0 x) (dead_branch hq D E (U (Go n Resumed)) (ends U d Resumed) (f l).1 y) k))
    by false j false l e = inr (e ∙ ap (λ b. where_met b (tri_maxima (over_ends U hp n c) (over_ends U hq n d) k)) j, l)
