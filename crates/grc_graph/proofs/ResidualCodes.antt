-- What is left of a body in a state completes with codes that the body has when it is resumed.
use Rattle.std.proofs.Common.{◌≡◌, ℕ, ◌+◌, ◌<◌, ◌≤◌, Bool, true, false, not, ◌&&◌, ◌||◌, List, [], length, refl, sym}
use Rattle.std.proofs.Common.{◌∙◌, subst, ⊎_elim, arith}
use Rattle.std.specs.Prelude.{if◌then◌else◌, Contains}
use Rattle.std.proofs.lemmas.Bool.{false≢true, and_parts, and_from, or_cases, or_left, or_right, false_from_ne_true}
use Rattle.std.proofs.lemmas.List.Elements.{Contains-append_cases, All-contains, All-nil}
use Rattle.std.proofs.lemmas.List.{append-nil}
use Rattle.base_types.specs.Codes.{only, either, except, maxima}
use Rattle.est_kernel.specs.Laws.{IsSubset}
use Rattle.est_kernel.specs.Terms.{Term, Pause, Present, Suspend, Seq, Loop, Par, Trap, Local}
use Rattle.est_kernel.specs.Preorder.{statement_count}
use Rattle.est_kernel.specs.StaticCodes.{codes_if, has_code, branch_codes, started_codes, resumed_codes}
use Rattle.est_kernel.proofs.Exports.{maxima-subset, lowered-subset, except-in, except-parts}
use Rattle.grc_graph.specs.Layers.{can_pass}
use Rattle.grc_graph.specs.Residuals.{holds, residual, left_if}
use Rattle.grc_graph.specs.SelectionTrees.{leaf_paths, resumes, second_resumes, body_leaves}
use Rattle.grc_graph.specs.Selections.{well_formed, at_most_one, each_or_over}
use Rattle.grc_graph.specs.InstanceLaws.{ResidualHasResumedCodes}
use Rattle.grc_graph.proofs.TreeSelections.{Placed, first_placed, second_placed, part_placed}

-- selected pauses are live
abbrev OnlyLive : (ℕ → Bool) → Bool → Term → ℕ → Type 0
OnlyLive S b Pause n = b ≡ false → S n ≡ false
OnlyLive S b (Present e p q) n = OnlyLive S (b && resumes p) p (n + 1) × OnlyLive S (b && resumes q) q (n + 1 + statement_count p)
OnlyLive S b (Suspend e p) n = OnlyLive S (b && resumes p) p (n + 1)
OnlyLive S b (Seq p q) n = OnlyLive S (b && resumes p) p (n + 1) × OnlyLive S (b && second_resumes p q) q (n + 1 + statement_count p)
OnlyLive S b (Loop at p) n = OnlyLive S (b && resumes p) p (n + 1)
OnlyLive S b (Par p q) n = OnlyLive S (b && resumes p) p (n + 1) × OnlyLive S (b && resumes q) q (n + 1 + statement_count p)
OnlyLive S b (Trap p) n = OnlyLive S (b && resumes p) p (n + 1)
OnlyLive S b (Local s p) n = OnlyLive S (b && resumes p) p (n + 1)
OnlyLive S b _ n = Unit {0}

holds_nothing : (S : ℕ → Bool) (t : Term) (n : ℕ) → OnlyLive S false t n → holds S t n ≡ false
holds_nothing S Pause n h = h refl
holds_nothing S (Present e p q) n h =
    (λ i. holds_nothing S p (n + 1) h.0 i || holds_nothing S q (n + 1 + statement_count p) h.1 i)
holds_nothing S (Suspend e p) n h = holds_nothing S p (n + 1) h
holds_nothing S (Seq p q) n h =
    (λ i. holds_nothing S p (n + 1) h.0 i || holds_nothing S q (n + 1 + statement_count p) h.1 i)
holds_nothing S (Loop at p) n h = holds_nothing S p (n + 1) h
holds_nothing S (Par p q) n h =
    (λ i. holds_nothing S p (n + 1) h.0 i || holds_nothing S q (n + 1 + statement_count p) h.1 i)
holds_nothing S (Trap p) n h = holds_nothing S p (n + 1) h
holds_nothing S (Local s p) n h = holds_nothing S p (n + 1) h
holds_nothing S _ n h = refl

holds_live : (S : ℕ → Bool) (b : Bool) (t : Term) (n : ℕ) → OnlyLive S b t n → holds S t n ≡ true → b ≡ true
holds_live S true t n h g = refl
holds_live S false t n h g = absurd (false≢true (sym (holds_nothing S t n h) ∙ g))

-- ---- sets of codes

subset_if : (b : Bool) (A : ℕ → Bool) (k : ℕ) → b ≡ true → A k ≡ true → codes_if b A k ≡ true
subset_if b A k h g = and_from b (A k) h g

-- a sequence of what is left of a first part and a second part
by_first : (R D T : ℕ → Bool) (k : ℕ) (b : Bool) → IsSubset R D → R 0 ≡ b → (if b then either (except 0 R) T else R) k ≡ true
    → either (except 0 D) (codes_if (D 0) T) k ≡ true
by_first R D T k true f e h =
    ⊎_elim
    (λ u. let v = except-parts R 0 k u in or_left _ _ (except-in D 0 k (f k v.0) v.1))
    (λ u. or_right _ _ (subset_if (D 0) T k (f 0 e) u))
    (or_cases (except 0 R k) (T k) h)
by_first R D T k false f e h =
    or_left _ _ (except-in D 0 k (f k h) (λ z. false≢true (sym e ∙ subst (λ m. R m ≡ true) z h)))

sequence_subset : (R D T : ℕ → Bool) → IsSubset R D → IsSubset (if R 0 then either (except 0 R) T else R) (either (except 0 D) (codes_if (D 0) T))
sequence_subset R D T f k h = by_first R D T k (R 0) f refl h

-- a part that is left where it holds a selected pause
chosen_residual : (P : Term → Type 0) (b : Bool) (r s : Term) → (b ≡ true → P r) → (b ≡ false → P s) → P (if b then r else s)
chosen_residual P true r s f g = f refl
chosen_residual P false r s f g = g refl

other_holds : (a b : Bool) → (a || b) ≡ true → a ≡ false → b ≡ true
other_holds true b h e = absurd (false≢true (sym e))
other_holds false b h e = h

-- a branch of a parallel: of one that holds nothing, nothing is left
branch_subset : (h : Bool) (p r : Term) → (h ≡ true → IsSubset (started_codes r) (resumed_codes p)) → (h || can_pass p) ≡ true
    → IsSubset (started_codes (left_if h r)) (branch_codes (started_codes p) (resumed_codes p))
branch_subset true p r f g k u = or_left _ _ (f refl k u)
branch_subset false p r f g k u = or_right _ _ (subset_if (started_codes p 0 || resumed_codes p 0) (only 0) k g u)

-- of the branches of a parallel that holds a selected pause, each holds one or can be over
pub branches_fit : (a x b y : Bool) → each_or_over a x b y ≡ true → (a || b) ≡ true → ((a || x) ≡ true) × ((b || y) ≡ true)
branches_fit a x b y h g =
    ⊎_elim (λ u. absurd (false≢true (sym ((λ i. not (g i))) ∙ u))) (λ u. and_parts (a || x) (b || y) u)
    (or_cases (not (a || b)) ((a || x) && (b || y)) h)

residual_codes : (S : ℕ → Bool) (t : Term) (n : ℕ) → OnlyLive S true t n → well_formed S t n ≡ true → holds S t n ≡ true
    → IsSubset (started_codes (residual S t n)) (resumed_codes t)
residual_codes S Pause n o w h = λ k u. u
residual_codes S (Present e p q) n o w h =
    let m = n + 1 + statement_count p in
    let parts = and_parts (well_formed S p (n + 1)) (well_formed S q m) (and_parts (at_most_one (holds S p (n + 1)) (holds S q m)) _ w).1 in
    chosen_residual (λ r. IsSubset (started_codes r) (either (resumed_codes p) (resumed_codes q))) (holds S p (n + 1)) (residual S p (n + 1)) (residual S q m)
    (λ g k u. or_left _ _ (residual_codes S p (n + 1) (subst (λ b. OnlyLive S b p (n + 1)) (holds_live S (resumes p) p (n + 1) o.0 g) o.0) parts.0 g k u))
    (λ g k u. let g' = other_holds (holds S p (n + 1)) (holds S q m) h g in
    or_right _ _ (residual_codes S q m (subst (λ b. OnlyLive S b q m) (holds_live S (resumes q) q m o.1 g') o.1) parts.1 g' k u))
residual_codes S (Suspend e p) n o w h = λ k u.
    let live = holds_live S (resumes p) p (n + 1) o h in
    ⊎_elim
    (λ v. or_right (resumed_codes p k) _ (subset_if (has_code (resumed_codes p)) (only 1) k live v))
    (λ v. or_left _ _ (residual_codes S p (n + 1) (subst (λ b. OnlyLive S b p (n + 1)) live o) w h k v))
    (or_cases (only 1 k) (started_codes (residual S p (n + 1)) k) u)
residual_codes S (Seq p q) n o w h =
    let m = n + 1 + statement_count p in
    let parts = and_parts (well_formed S p (n + 1)) (well_formed S q m) (and_parts (at_most_one (holds S p (n + 1)) (holds S q m)) _ w).1 in
    chosen_residual (λ r. IsSubset (started_codes r) (resumed_codes (Seq p q))) (holds S p (n + 1)) (Seq (residual S p (n + 1)) q) (residual S q m)
    (λ g k u.
    let inner = residual_codes S p (n + 1) (subst (λ b. OnlyLive S b p (n + 1)) (holds_live S (resumes p) p (n + 1) o.0 g) o.0) parts.0 g in
    ⊎_elim (λ v. or_left _ _ v) (λ v. or_right _ _ (or_left _ _ v))
    (or_cases (except 0 (resumed_codes p) k) (codes_if (resumed_codes p 0) (started_codes q) k)
    (sequence_subset (started_codes (residual S p (n + 1))) (resumed_codes p) (started_codes q) inner k u)))
    (λ g k u.
    let g' = other_holds (holds S p (n + 1)) (holds S q m) h g in
    let live = holds_live S (second_resumes p q) q m o.1 g' in
    or_right _ _ (or_right _ _ (subset_if (can_pass p) (resumed_codes q) k (and_parts (can_pass p) (resumes q) live).0
    (residual_codes S q m (subst (λ b. OnlyLive S b q m) live o.1) parts.1 g' k u))))
residual_codes S (Loop at p) n o w h = λ k u.
    let inner = residual_codes S p (n + 1) (subst (λ b. OnlyLive S b p (n + 1)) (holds_live S (resumes p) p (n + 1) o h) o) w h in
    sequence_subset (started_codes (residual S p (n + 1))) (resumed_codes p) (except 0 (started_codes p)) inner k u
residual_codes S (Par p q) n o w h = λ k u.
    let m = n + 1 + statement_count p in
    let both = and_parts (each_or_over (holds S p (n + 1)) (can_pass p) (holds S q m) (can_pass q)) _ w in
    let parts = and_parts (well_formed S p (n + 1)) (well_formed S q m) both.1 in
    let fit = branches_fit (holds S p (n + 1)) (can_pass p) (holds S q m) (can_pass q) both.0 h in
    let live : (has_code (resumed_codes p) || has_code (resumed_codes q)) ≡ true
    = ⊎_elim (λ g. or_left _ _ (holds_live S (resumes p) p (n + 1) o.0 g)) (λ g. or_right _ _ (holds_live S (resumes q) q m o.1 g))
    (or_cases (holds S p (n + 1)) (holds S q m) h) in
    subset_if _ (maxima (branch_codes (started_codes p) (resumed_codes p)) (branch_codes (started_codes q) (resumed_codes q))) k live
    (maxima-subset (started_codes (left_if (holds S p (n + 1)) (residual S p (n + 1)))) (started_codes (left_if (holds S q m) (residual S q m)))
    (branch_codes (started_codes p) (resumed_codes p)) (branch_codes (started_codes q) (resumed_codes q))
    (branch_subset (holds S p (n + 1)) p (residual S p (n + 1))
    (λ g. residual_codes S p (n + 1) (subst (λ b. OnlyLive S b p (n + 1)) (holds_live S (resumes p) p (n + 1) o.0 g) o.0) parts.0 g) fit.0)
    (branch_subset (holds S q m) q (residual S q m)
    (λ g. residual_codes S q m (subst (λ b. OnlyLive S b q m) (holds_live S (resumes q) q m o.1 g) o.1) parts.1 g) fit.1)
    k u)
residual_codes S (Trap p) n o w h =
    lowered-subset (started_codes (residual S p (n + 1))) (resumed_codes p)
    (residual_codes S p (n + 1) (subst (λ b. OnlyLive S b p (n + 1)) (holds_live S (resumes p) p (n + 1) o h) o) w h)
residual_codes S (Local s p) n o w h =
    residual_codes S p (n + 1) (subst (λ b. OnlyLive S b p (n + 1)) (holds_live S (resumes p) p (n + 1) o h) o) w h
residual_codes S _ n o w h = λ k u. absurd (false≢true h)

-- ---- the selected pauses are leaves

pause_live : (S : ℕ → Bool) (us : List ℕ) (b : Bool) (n k : ℕ) (pre post : List ℕ)
    → ((m : ℕ) → S m ≡ true → Contains us m) → Placed us b Pause n k pre post → b ≡ false → S n ≡ false
pause_live S us true n k pre post f h e = absurd (false≢true (sym e))
pause_live S us false n k pre post f h e =
    false_from_ne_true (S n) (λ s. ⊎_elim
    (λ u. let l = All-contains (λ m. m < n) pre n h.below u in omega arith)
    (λ u. let l = All-contains (λ m. n + 1 ≤ m) post n h.above u in omega arith)
    (Contains-append_cases pre post n (subst (λ l. Contains l n) h.whole (f n s))))

only_live : (S : ℕ → Bool) (us : List ℕ) (b : Bool) (t : Term) (n k : ℕ) (pre post : List ℕ)
    → ((m : ℕ) → S m ≡ true → Contains us m) → Placed us b t n k pre post → OnlyLive S b t n
only_live S us b Pause n k pre post f h = pause_live S us b n k pre post f h
only_live S us b (Present e p q) n k pre post f h = (
  only_live S us (b && resumes p) p (n + 1) k _ _ f (first_placed us b (resumes p) (resumes q) (Present e p q) p q n k pre post refl refl h),
  only_live S us (b && resumes q) q (n + 1 + statement_count p) (k + length (leaf_paths (resumes p) p (n + 1))) _ _ f
      (second_placed us b (resumes p) (resumes q) (Present e p q) p q n k pre post refl refl h),
)
only_live S us b (Suspend e p) n k pre post f h =
    only_live S us (b && resumes p) p (n + 1) k _ _ f (part_placed us b (resumes p) (Suspend e p) p n k pre post refl refl h)
only_live S us b (Seq p q) n k pre post f h = (
  only_live S us (b && resumes p) p (n + 1) k _ _ f (first_placed us b (resumes p) (second_resumes p q) (Seq p q) p q n k pre post refl refl h),
  only_live S us (b && second_resumes p q) q (n + 1 + statement_count p) (k + length (leaf_paths (resumes p) p (n + 1))) _ _ f
      (second_placed us b (resumes p) (second_resumes p q) (Seq p q) p q n k pre post refl refl h),
)
only_live S us b (Loop at p) n k pre post f h =
    only_live S us (b && resumes p) p (n + 1) k _ _ f (part_placed us b (resumes p) (Loop at p) p n k pre post refl refl h)
only_live S us b (Par p q) n k pre post f h = (
  only_live S us (b && resumes p) p (n + 1) k _ _ f (first_placed us b (resumes p) (resumes q) (Par p q) p q n k pre post refl refl h),
  only_live S us (b && resumes q) q (n + 1 + statement_count p) (k + length (leaf_paths (resumes p) p (n + 1))) _ _ f
      (second_placed us b (resumes p) (resumes q) (Par p q) p q n k pre post refl refl h),
)
only_live S us b (Trap p) n k pre post f h =
    only_live S us (b && resumes p) p (n + 1) k _ _ f (part_placed us b (resumes p) (Trap p) p n k pre post refl refl h)
only_live S us b (Local s p) n k pre post f h =
    only_live S us (b && resumes p) p (n + 1) k _ _ f (part_placed us b (resumes p) (Local s p) p n k pre post refl refl h)
only_live S us b _ n k pre post f h = tt

pub residual_has_resumed_codes_lem : ResidualHasResumedCodes
residual_has_resumed_codes_lem body S selection h =
    let live = only_live S (body_leaves body) (resumes body) body 0 0 [] [] selection.leaves (record {
      whole = sym (append-nil (leaf_paths (resumes body) body 0));
      place = λ y. refl;
      below = All-nil (λ m. m < 0);
      above = All-nil (λ m. 0 + statement_count body ≤ m);
    }) in
    residual_codes S body 0 (subst (λ b. OnlyLive S b body 0) (holds_live S (resumes body) body 0 live h) live) selection.formed h
