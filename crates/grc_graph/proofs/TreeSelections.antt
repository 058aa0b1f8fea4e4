-- The judgement of a tree by the numbers of its leaves is that of the body by the pauses that they select.
use Rattle.std.proofs.Common.{◌≡◌, ℕ, ◌+◌, ◌<◌, ◌≤◌, Bool, true, false, ◌==◌, ◌&&◌, List, [], ◌∷◌, ◌++◌, length, get_or, refl, sym, ap}
use Rattle.std.proofs.Common.{◌∙◌, arith, append_assoc, length-append}
use Rattle.std.specs.Prelude.{if◌then◌else◌, All}
use Rattle.std.proofs.lemmas.List.{append-nil}
use Rattle.std.proofs.lemmas.List.Elements.{All-append, All-nil, All-cons, All-weaker, All-head, All-tail}
use Rattle.std.proofs.lemmas.Bool.{false≢true, eq-eqb, ne_eqb}
use Rattle.est_kernel.specs.Terms.{Term, Nothing, Pause, Emit, Exit, Present, Suspend, Seq, Loop, Par, Trap, Local, Awake}
use Rattle.est_kernel.specs.Preorder.{statement_count}
use Rattle.grc_graph.specs.Layers.{can_pass}
use Rattle.grc_graph.specs.Residuals.{holds}
use Rattle.grc_graph.specs.Selections.{well_formed}
use Rattle.grc_graph.specs.SelectionTrees.{Exclusive, Parallel, leaf_paths, resumes, second_resumes, selecting, body_leaves}
use Rattle.grc_graph.specs.TreeJudgements.{Judgement, judgement, combined, none_selected}

-- the pauses of a statement are selected as its leaves are, the first of which has the number k; where its resumed
-- instance is not live, none is
abbrev Agrees : (ℕ → Bool) → List Bool → Bool → Term → (n k : ℕ) → Type 0
Agrees S bits b Pause n k = S n ≡ (if b then get_or bits k false else false)
Agrees S bits b (Present e p q) n k =
    Agrees S bits (b && resumes p) p (n + 1) k
    × Agrees S bits (b && resumes q) q (n + 1 + statement_count p) (k + length (leaf_paths (resumes p) p (n + 1)))
Agrees S bits b (Suspend e p) n k = Agrees S bits (b && resumes p) p (n + 1) k
Agrees S bits b (Seq p q) n k =
    Agrees S bits (b && resumes p) p (n + 1) k
    × Agrees S bits (b && second_resumes p q) q (n + 1 + statement_count p) (k + length (leaf_paths (resumes p) p (n + 1)))
Agrees S bits b (Loop at p) n k = Agrees S bits (b && resumes p) p (n + 1) k
Agrees S bits b (Par p q) n k =
    Agrees S bits (b && resumes p) p (n + 1) k
    × Agrees S bits (b && resumes q) q (n + 1 + statement_count p) (k + length (leaf_paths (resumes p) p (n + 1)))
Agrees S bits b (Trap p) n k = Agrees S bits (b && resumes p) p (n + 1) k
Agrees S bits b (Local s p) n k = Agrees S bits (b && resumes p) p (n + 1) k
Agrees S bits b _ n k = Unit {0}

-- what the selected pauses of a statement say
abbrev pub selection_judgement : (ℕ → Bool) → Term → ℕ → Judgement
selection_judgement S t n = record { holds = holds S t n; formed = well_formed S t n }

-- where nothing is live nothing is selected
judged_nothing : (S : ℕ → Bool) (bits : List Bool) (t : Term) (n k : ℕ) → Agrees S bits false t n k → selection_judgement S t n ≡ none_selected
judged_nothing S bits Pause n k h = λ i. record { holds = h i; formed = true }
judged_nothing S bits (Present e p q) n k h =
    let a = judged_nothing S bits p (n + 1) k h.0 in
    let b = judged_nothing S bits q (n + 1 + statement_count p) _ h.1 in
    λ i. combined bits Exclusive (a i) (b i)
judged_nothing S bits (Suspend e p) n k h = judged_nothing S bits p (n + 1) k h
judged_nothing S bits (Seq p q) n k h =
    let a = judged_nothing S bits p (n + 1) k h.0 in
    let b = judged_nothing S bits q (n + 1 + statement_count p) _ h.1 in
    λ i. combined bits Exclusive (a i) (b i)
judged_nothing S bits (Loop at p) n k h = judged_nothing S bits p (n + 1) k h
judged_nothing S bits (Par p q) n k h =
    let a = judged_nothing S bits p (n + 1) k h.0 in
    let b = judged_nothing S bits q (n + 1 + statement_count p) _ h.1 in
    λ i. combined bits (Parallel (can_pass p) (can_pass q)) (a i) (b i)
judged_nothing S bits (Trap p) n k h = judged_nothing S bits p (n + 1) k h
judged_nothing S bits (Local s p) n k h = judged_nothing S bits p (n + 1) k h
judged_nothing S bits _ n k h = refl

judged_selection : (S : ℕ → Bool) (bits : List Bool) (b : Bool) (t : Term) (n k : ℕ) → Agrees S bits b t n k →
    judgement bits b t n k ≡ selection_judgement S t n
judged_selection S bits false Nothing n k h = refl
judged_selection S bits false Pause n k h = sym (judged_nothing S bits Pause n k h)
judged_selection S bits false (Emit s) n k h = refl
judged_selection S bits false (Exit c) n k h = refl
judged_selection S bits false (Present e p q) n k h = sym (judged_nothing S bits (Present e p q) n k h)
judged_selection S bits false (Suspend e p) n k h = sym (judged_nothing S bits (Suspend e p) n k h)
judged_selection S bits false (Seq p q) n k h = sym (judged_nothing S bits (Seq p q) n k h)
judged_selection S bits false (Loop at p) n k h = sym (judged_nothing S bits (Loop at p) n k h)
judged_selection S bits false (Par p q) n k h = sym (judged_nothing S bits (Par p q) n k h)
judged_selection S bits false (Trap p) n k h = sym (judged_nothing S bits (Trap p) n k h)
judged_selection S bits false (Local s p) n k h = sym (judged_nothing S bits (Local s p) n k h)
judged_selection S bits false (Awake e p) n k h = refl
judged_selection S bits true Nothing n k h = refl
judged_selection S bits true Pause n k h = λ i. record { holds = sym h i; formed = true }
judged_selection S bits true (Emit s) n k h = refl
judged_selection S bits true (Exit c) n k h = refl
judged_selection S bits true (Present e p q) n k h =
    let a = judged_selection S bits (resumes p) p (n + 1) k h.0 in
    let c = judged_selection S bits (resumes q) q (n + 1 + statement_count p) _ h.1 in
    λ i. combined bits Exclusive (a i) (c i)
judged_selection S bits true (Suspend e p) n k h = judged_selection S bits (resumes p) p (n + 1) k h
judged_selection S bits true (Seq p q) n k h =
    let a = judged_selection S bits (resumes p) p (n + 1) k h.0 in
    let c = judged_selection S bits (second_resumes p q) q (n + 1 + statement_count p) _ h.1 in
    λ i. combined bits Exclusive (a i) (c i)
judged_selection S bits true (Loop at p) n k h = judged_selection S bits (resumes p) p (n + 1) k h
judged_selection S bits true (Par p q) n k h =
    let a = judged_selection S bits (resumes p) p (n + 1) k h.0 in
    let c = judged_selection S bits (resumes q) q (n + 1 + statement_count p) _ h.1 in
    λ i. combined bits (Parallel (can_pass p) (can_pass q)) (a i) (c i)
judged_selection S bits true (Trap p) n k h = judged_selection S bits (resumes p) p (n + 1) k h
judged_selection S bits true (Local s p) n k h = judged_selection S bits (resumes p) p (n + 1) k h
judged_selection S bits true (Awake e p) n k h = refl

-- ---- the pauses that a list of truth values selects agree with it

-- each path of a list lies below a number, or from it on
abbrev pub Below : ℕ → List ℕ → Type 0
Below n us = All (λ m. m < n) us

abbrev pub From : ℕ → List ℕ → Type 0
From n us = All (λ m. n ≤ m) us

selecting-passed : (us vs : List ℕ) (bits : List Bool) (n : ℕ) → Below n us → selecting (us ++ n ∷ vs) bits n ≡ get_or bits (length us) false
selecting-passed [] vs [] n h = refl
selecting-passed [] vs (b ∷ bits) n h = let e : (n == n) ≡ true = eq-eqb n n refl in rw e refl
selecting-passed (u ∷ us) vs [] n h = refl
selecting-passed (u ∷ us) vs (b ∷ bits) n h =
    let lt : u < n = All-head (λ m. m < n) u us h in
    let e : (n == u) ≡ false = ne_eqb n u (λ q. omega (arith, q, lt)) in
    rw e (selecting-passed us vs bits n (All-tail (λ m. m < n) u us h))

selecting-absent : (us vs : List ℕ) (bits : List Bool) (n : ℕ) → Below n us → From (n + 1) vs → selecting (us ++ vs) bits n ≡ false
selecting-absent [] [] bits n h g = refl
selecting-absent [] (v ∷ vs) [] n h g = refl
selecting-absent [] (v ∷ vs) (b ∷ bits) n h g =
    let lt : n + 1 ≤ v = All-head (λ m. n + 1 ≤ m) v vs g in
    let e : (n == v) ≡ false = ne_eqb n v (λ q. omega (arith, q, lt)) in
    rw e (selecting-absent [] vs bits n h (All-tail (λ m. n + 1 ≤ m) v vs g))
selecting-absent (u ∷ us) vs [] n h g = refl
selecting-absent (u ∷ us) vs (b ∷ bits) n h g =
    let lt : u < n = All-head (λ m. m < n) u us h in
    let e : (n == u) ≡ false = ne_eqb n u (λ q. omega (arith, q, lt)) in
    rw e (selecting-absent us vs bits n (All-tail (λ m. m < n) u us h) g)

-- the leaves of a statement lie among its numbers
abbrev Among : (n m : ℕ) → List ℕ → Type 0
Among n m us = All (λ u. (n ≤ u) × (u < m)) us

wider : (a b c d : ℕ) (us : List ℕ) → c ≤ a → b ≤ d → Among a b us → Among c d us
wider a b c d us h g l = All-weaker (λ u. (a ≤ u) × (u < b)) (λ u. (c ≤ u) × (u < d)) (λ u x. (omega (arith, x.0), omega (arith, x.1))) us l

among_if : (b : Bool) (n m : ℕ) (us : List ℕ) → Among n m us → Among n m (if b then us else [])
among_if true n m us h = h
among_if false n m us h = All-nil (λ u. (n ≤ u) × (u < m))

pub leaves_among : (b : Bool) (t : Term) (n : ℕ) → Among n (n + statement_count t) (leaf_paths b t n)
leaves_among b Pause n = among_if b n (n + 1) (n ∷ []) (All-cons (λ u. (n ≤ u) × (u < n + 1)) n [] (omega arith, omega arith)
    (All-nil (λ u. (n ≤ u) × (u < n + 1))))
leaves_among b (Present e p q) n = among_if b n _ _ (All-append (λ u. (n ≤ u) × (u < n + (1 + statement_count p + statement_count q))) _ _
    (wider (n + 1) (n + 1 + statement_count p) n _ _ (omega arith) (omega arith) (leaves_among (resumes p) p (n + 1)))
    (wider (n + 1 + statement_count p) (n + 1 + statement_count p + statement_count q) n _ _ (omega arith) (omega arith)
    (leaves_among (resumes q) q (n + 1 + statement_count p))))
leaves_among b (Suspend e p) n = among_if b n _ _ (wider (n + 1) (n + 1 + statement_count p) n _ _ (omega arith) (omega arith)
    (leaves_among (resumes p) p (n + 1)))
leaves_among b (Seq p q) n = among_if b n _ _ (All-append (λ u. (n ≤ u) × (u < n + (1 + statement_count p + statement_count q))) _ _
    (wider (n + 1) (n + 1 + statement_count p) n _ _ (omega arith) (omega arith) (leaves_among (resumes p) p (n + 1)))
    (wider (n + 1 + statement_count p) (n + 1 + statement_count p + statement_count q) n _ _ (omega arith) (omega arith)
    (leaves_among (second_resumes p q) q (n + 1 + statement_count p))))
leaves_among b (Loop at p) n = among_if b n _ _ (wider (n + 1) (n + 1 + statement_count p) n _ _ (omega arith) (omega arith)
    (leaves_among (resumes p) p (n + 1)))
leaves_among b (Par p q) n = among_if b n _ _ (All-append (λ u. (n ≤ u) × (u < n + (1 + statement_count p + statement_count q))) _ _
    (wider (n + 1) (n + 1 + statement_count p) n _ _ (omega arith) (omega arith) (leaves_among (resumes p) p (n + 1)))
    (wider (n + 1 + statement_count p) (n + 1 + statement_count p + statement_count q) n _ _ (omega arith) (omega arith)
    (leaves_among (resumes q) q (n + 1 + statement_count p))))
leaves_among b (Trap p) n = among_if b n _ _ (wider (n + 1) (n + 1 + statement_count p) n _ _ (omega arith) (omega arith) (leaves_among (resumes p) p (n + 1)))
leaves_among b (Local s p) n = among_if b n _ _ (wider (n + 1) (n + 1 + statement_count p) n _ _ (omega arith) (omega arith)
    (leaves_among (resumes p) p (n + 1)))
leaves_among b (Awake e p) n = All-nil (λ u. (n ≤ u) × (u < n + (1 + statement_count p)))
leaves_among b _ n = All-nil (λ u. (n ≤ u) × (u < n + 1))

-- where the resumed instance is not live there are no leaves
pub leaves_none : (t : Term) (n : ℕ) → leaf_paths false t n ≡ []
leaves_none Nothing n = refl
leaves_none _ n = refl

-- the leaves of a statement stand in a list of leaves, those before it below its numbers and those behind it above
pub record Placed (us : List ℕ) (b : Bool) (t : Term) (n k : ℕ) (pre post : List ℕ) : Type 0 where
  pub whole : us ≡ pre ++ (leaf_paths b t n ++ post)
  pub place : b ≡ true → k ≡ length pre
  pub below : Below n pre
  pub above : From (n + statement_count t) post

-- at a statement over two parts; where it is not live, neither is
pub first_placed : (us : List ℕ) (b r s : Bool) (t p q : Term) (n k : ℕ) (pre post : List ℕ)
    → leaf_paths b t n ≡ (if b then leaf_paths r p (n + 1) ++ leaf_paths s q (n + 1 + statement_count p) else [])
    → statement_count t ≡ 1 + statement_count p + statement_count q
    → Placed us b t n k pre post
    → Placed us (b && r) p (n + 1) k pre (leaf_paths (b && s) q (n + 1 + statement_count p) ++ post)
first_placed us true r s t p q n k pre post e c h = record {
  whole = h.whole ∙ ap (λ l. pre ++ (l ++ post)) e ∙ ap (λ l. pre ++ l)
      (append_assoc (leaf_paths r p (n + 1)) (leaf_paths s q (n + 1 + statement_count p)) post);
  place = λ y. h.place refl;
  below = All-weaker (λ m. m < n) (λ m. m < n + 1) (λ m l. omega arith) pre h.below;
  above = All-append (λ m. n + 1 + statement_count p ≤ m) _ post
      (All-weaker (λ u. (n + 1 + statement_count p ≤ u) × (u < n + 1 + statement_count p + statement_count q)) (λ m. n + 1 + statement_count p ≤ m)
      (λ m l. l.0) _ (leaves_among s q (n + 1 + statement_count p)))
      (All-weaker (λ m. n + statement_count t ≤ m) (λ m. n + 1 + statement_count p ≤ m) (λ m l. omega (arith, c, l)) post h.above);
}
first_placed us false r s t p q n k pre post e c h = record {
  whole = h.whole ∙ ap (λ l. pre ++ (l ++ post)) e ∙ (λ i. pre ++ (sym (leaves_none p (n + 1)) i
      ++ (sym (leaves_none q (n + 1 + statement_count p)) i ++ post)));
  place = λ y. absurd (false≢true y);
  below = All-weaker (λ m. m < n) (λ m. m < n + 1) (λ m l. omega arith) pre h.below;
  above = All-append (λ m. n + 1 + statement_count p ≤ m) _ post
      (All-weaker (λ u. (n + 1 + statement_count p ≤ u) × (u < n + 1 + statement_count p + statement_count q)) (λ m. n + 1 + statement_count p ≤ m)
      (λ m l. l.0) _ (leaves_among false q (n + 1 + statement_count p)))
      (All-weaker (λ m. n + statement_count t ≤ m) (λ m. n + 1 + statement_count p ≤ m) (λ m l. omega (arith, c, l)) post h.above);
}

pub second_placed : (us : List ℕ) (b r s : Bool) (t p q : Term) (n k : ℕ) (pre post : List ℕ)
    → leaf_paths b t n ≡ (if b then leaf_paths r p (n + 1) ++ leaf_paths s q (n + 1 + statement_count p) else [])
    → statement_count t ≡ 1 + statement_count p + statement_count q
    → Placed us b t n k pre post
    → Placed us (b && s) q (n + 1 + statement_count p) (k + length (leaf_paths r p (n + 1))) (pre ++ leaf_paths (b && r) p (n + 1)) post
second_placed us true r s t p q n k pre post e c h = record {
  whole = h.whole ∙ ap (λ l. pre ++ (l ++ post)) e
      ∙ ap (λ l. pre ++ l) (append_assoc (leaf_paths r p (n + 1)) (leaf_paths s q (n + 1 + statement_count p)) post)
      ∙ sym (append_assoc pre (leaf_paths r p (n + 1)) (leaf_paths s q (n + 1 + statement_count p) ++ post));
  place = λ y. omega (arith, h.place refl, length-append pre (leaf_paths r p (n + 1)));
  below = All-append (λ m. m < n + 1 + statement_count p) pre _
      (All-weaker (λ m. m < n) (λ m. m < n + 1 + statement_count p) (λ m l. omega arith) pre h.below)
      (All-weaker (λ u. (n + 1 ≤ u) × (u < n + 1 + statement_count p)) (λ m. m < n + 1 + statement_count p) (λ m l. l.1) _ (leaves_among r p (n + 1)));
  above = All-weaker (λ m. n + statement_count t ≤ m) (λ m. n + 1 + statement_count p + statement_count q ≤ m) (λ m l. omega (arith, c, l)) post h.above;
}
second_placed us false r s t p q n k pre post e c h = record {
  whole = h.whole ∙ ap (λ l. pre ++ (l ++ post)) e
      ∙ (λ i. pre ++ (sym (leaves_none p (n + 1)) i ++ (sym (leaves_none q (n + 1 + statement_count p)) i ++ post)))
      ∙ sym (append_assoc pre (leaf_paths false p (n + 1)) (leaf_paths false q (n + 1 + statement_count p) ++ post));
  place = λ y. absurd (false≢true y);
  below = All-append (λ m. m < n + 1 + statement_count p) pre _
      (All-weaker (λ m. m < n) (λ m. m < n + 1 + statement_count p) (λ m l. omega arith) pre h.below)
      (All-weaker (λ u. (n + 1 ≤ u) × (u < n + 1 + statement_count p)) (λ m. m < n + 1 + statement_count p) (λ m l. l.1) _ (leaves_among false p (n + 1)));
  above = All-weaker (λ m. n + statement_count t ≤ m) (λ m. n + 1 + statement_count p + statement_count q ≤ m) (λ m l. omega (arith, c, l)) post h.above;
}

-- at a statement over one part
pub part_placed : (us : List ℕ) (b r : Bool) (t p : Term) (n k : ℕ) (pre post : List ℕ)
    → leaf_paths b t n ≡ (if b then leaf_paths r p (n + 1) else [])
    → statement_count t ≡ 1 + statement_count p
    → Placed us b t n k pre post
    → Placed us (b && r) p (n + 1) k pre post
part_placed us true r t p n k pre post e c h = record {
  whole = h.whole ∙ ap (λ l. pre ++ (l ++ post)) e;
  place = λ y. h.place refl;
  below = All-weaker (λ m. m < n) (λ m. m < n + 1) (λ m l. omega arith) pre h.below;
  above = All-weaker (λ m. n + statement_count t ≤ m) (λ m. n + 1 + statement_count p ≤ m) (λ m l. omega (arith, c, l)) post h.above;
}
part_placed us false r t p n k pre post e c h = record {
  whole = h.whole ∙ ap (λ l. pre ++ (l ++ post)) e ∙ (λ i. pre ++ (sym (leaves_none p (n + 1)) i ++ post));
  place = λ y. absurd (false≢true y);
  below = All-weaker (λ m. m < n) (λ m. m < n + 1) (λ m l. omega arith) pre h.below;
  above = All-weaker (λ m. n + statement_count t ≤ m) (λ m. n + 1 + statement_count p ≤ m) (λ m l. omega (arith, c, l)) post h.above;
}

pause_agrees : (us : List ℕ) (bits : List Bool) (b : Bool) (n k : ℕ) (pre post : List ℕ) → Placed us b Pause n k pre post
    → selecting us bits n ≡ (if b then get_or bits k false else false)
pause_agrees us bits true n k pre post h =
    ap (λ l. selecting l bits n) h.whole ∙ selecting-passed pre post bits n h.below ∙ ap (λ j. get_or bits j false) (sym (h.place refl))
pause_agrees us bits false n k pre post h =
    ap (λ l. selecting l bits n) h.whole ∙ selecting-absent pre post bits n h.below h.above

agrees : (us : List ℕ) (bits : List Bool) (b : Bool) (t : Term) (n k : ℕ) (pre post : List ℕ) → Placed us b t n k pre post →
    Agrees (selecting us bits) bits b t n k
agrees us bits b Pause n k pre post h = pause_agrees us bits b n k pre post h
agrees us bits b (Present e p q) n k pre post h = (
  agrees us bits (b && resumes p) p (n + 1) k _ _ (first_placed us b (resumes p) (resumes q) (Present e p q) p q n k pre post refl refl h),
  agrees us bits (b && resumes q) q (n + 1 + statement_count p) (k + length (leaf_paths (resumes p) p (n + 1))) _ _
      (second_placed us b (resumes p) (resumes q) (Present e p q) p q n k pre post refl refl h),
)
agrees us bits b (Suspend e p) n k pre post h =
    agrees us bits (b && resumes p) p (n + 1) k _ _ (part_placed us b (resumes p) (Suspend e p) p n k pre post refl refl h)
agrees us bits b (Seq p q) n k pre post h = (
  agrees us bits (b && resumes p) p (n + 1) k _ _ (first_placed us b (resumes p) (second_resumes p q) (Seq p q) p q n k pre post refl refl h),
  agrees us bits (b && second_resumes p q) q (n + 1 + statement_count p) (k + length (leaf_paths (resumes p) p (n + 1))) _ _
      (second_placed us b (resumes p) (second_resumes p q) (Seq p q) p q n k pre post refl refl h),
)
agrees us bits b (Loop at p) n k pre post h =
    agrees us bits (b && resumes p) p (n + 1) k _ _ (part_placed us b (resumes p) (Loop at p) p n k pre post refl refl h)
agrees us bits b (Par p q) n k pre post h = (
  agrees us bits (b && resumes p) p (n + 1) k _ _ (first_placed us b (resumes p) (resumes q) (Par p q) p q n k pre post refl refl h),
  agrees us bits (b && resumes q) q (n + 1 + statement_count p) (k + length (leaf_paths (resumes p) p (n + 1))) _ _
      (second_placed us b (resumes p) (resumes q) (Par p q) p q n k pre post refl refl h),
)
agrees us bits b (Trap p) n k pre post h =
    agrees us bits (b && resumes p) p (n + 1) k _ _ (part_placed us b (resumes p) (Trap p) p n k pre post refl refl h)
agrees us bits b (Local s p) n k pre post h =
    agrees us bits (b && resumes p) p (n + 1) k _ _ (part_placed us b (resumes p) (Local s p) p n k pre post refl refl h)
agrees us bits b _ n k pre post h = tt

-- the judgement of a whole tree
pub judged_body : (bits : List Bool) (body : Term)
    → judgement bits (resumes body) body 0 0 ≡ selection_judgement (selecting (body_leaves body) bits) body 0
judged_body bits body =
    judged_selection (selecting (body_leaves body) bits) bits (resumes body) body 0 0
    (agrees (body_leaves body) bits (resumes body) body 0 0 [] [] (record {
      whole = sym (append-nil (leaf_paths (resumes body) body 0));
      place = λ y. refl;
      below = All-nil (λ m. m < 0);
      above = All-nil (λ m. 0 + statement_count body ≤ m);
    }))
