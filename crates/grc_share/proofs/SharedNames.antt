-- Wires of a program are one shared wire exactly where they have one shared name.
use Rattle.std.proofs.Common.{◌≡◌, ℕ, ◌==◌, ◌&&◌, Bool, true, false, cond, List, [], ◌∷◌, refl, sym, ap, ◌∙◌, subst, ⊎_elim}
use Rattle.std.specs.List.{list_any}
use Rattle.std.proofs.lemmas.Bool.{eq-eqb, eqb-true, false≢true, or_cases, and_parts, and_from, both_ways}
use Rattle.grc_graph.specs.Layers.{Layer, Resumed, Started}
use Rattle.grc_graph.specs.Rows.{live_in}
use Rattle.grc_share.specs.SharedInstances.{Sharing, key, one_instance}
use Rattle.grc_share.specs.SharedWires.{first_root, shared_layer, status_layer}

-- ---- the first root with a key

pub first_key : (c : ℕ → ℕ) (rs : List ℕ) (r : ℕ) → c (first_root c rs r) ≡ c r
first_key c [] r = refl
first_key c (s ∷ ss) r = by (c s == c r) refl (first_key c ss r)
  where
    by : (b : Bool) → (c s == c r) ≡ b → c (first_root c ss r) ≡ c r → c (cond b s (first_root c ss r)) ≡ c r
    by true e rest = eqb-true (c s) (c r) e
    by false e rest = rest

-- a root is among the others, where it is not the head, whose key is not its own
among_others : (c : ℕ → ℕ) (s q : ℕ) (ss : List ℕ) → (c s == c q) ≡ false → list_any (λ x. x == q) (s ∷ ss) ≡ true → list_any (λ x. x == q) ss ≡ true
among_others c s q ss f h = ⊎_elim (λ g. absurd (both_ways (c s == c q) f (eq-eqb (c s) (c q) (ap c (eqb-true s q g))))) (λ g. g)
    (or_cases (s == q) (list_any (λ x. x == q) ss) h)

pub first_same : (c : ℕ → ℕ) (rs : List ℕ) (q r : ℕ) → c q ≡ c r → list_any (λ s. s == q) rs ≡ true → first_root c rs q ≡ first_root c rs r
first_same c [] q r e h = absurd (false≢true h)
first_same c (s ∷ ss) q r e h = by (c s == c q) refl (λ f. first_same c ss q r e (among_others c s q ss f h))
  where
    same : (c s == c r) ≡ (c s == c q)
    same = ap (λ k. c s == k) (sym e)

    by : (b : Bool) → (c s == c q) ≡ b → ((c s == c q) ≡ false → first_root c ss q ≡ first_root c ss r)
        → cond (c s == c q) s (first_root c ss q) ≡ cond (c s == c r) s (first_root c ss r)
    by true f rest = ap (λ b. cond b s (first_root c ss q)) f ∙ sym (ap (λ b. cond b s (first_root c ss r)) (same ∙ f))
    by false f rest = ap (λ b. cond b s (first_root c ss q)) f ∙ rest f ∙ sym (ap (λ b. cond b s (first_root c ss r)) (same ∙ f))

-- ---- instances

started-apart : {X : Type 0} (q r : ℕ) → Started q ≡ Started r → (q ≡ r → X) → X
started-apart q r e f = f (ap root_of e)
  where
    root_of : Layer → ℕ
    root_of Resumed = 0
    root_of (Started r) = r

pub one_instance-named : (K : Sharing) (n : ℕ) (l j : Layer) → live_in (K.live n) l ≡ true → one_instance K n l j ≡ true
    → shared_layer K n l ≡ shared_layer K n j
one_instance-named K n Resumed Resumed v h = refl
one_instance-named K n Resumed (Started r) v h = absurd (false≢true h)
one_instance-named K n (Started q) Resumed v h = absurd (false≢true h)
one_instance-named K n (Started q) (Started r) v h =
    ap Started (first_same K.root (K.live n).roots q r (eqb-true (K.root q) (K.root r) h) v)

pub named-one_instance : (K : Sharing) (n : ℕ) (l j : Layer) → shared_layer K n l ≡ shared_layer K n j → one_instance K n l j ≡ true
named-one_instance K n Resumed Resumed h = refl
named-one_instance K n Resumed (Started r) h = absurd (cc)
named-one_instance K n (Started q) Resumed h = absurd (cc)
named-one_instance K n (Started q) (Started r) h =
    let rs = (K.live n).roots in
    started-apart (first_root K.root rs q) (first_root K.root rs r) h
    (λ e. eq-eqb (K.root q) (K.root r) (sym (first_key K.root rs q) ∙ ap K.root e ∙ first_key K.root rs r))

-- ---- statuses

-- a shared status is that of what is resumed, or it is not, and then a start's
data Named (K : Sharing) (n : ℕ) (l : Layer) : Type 0 where
  WithResumed : (K.live n).resumed ≡ true → K.resumed n ≡ key K n l → status_layer K n l ≡ Resumed → Named K n l
  WithStart : (r : ℕ) → l ≡ Started r → ((K.live n).resumed && K.resumed n == key K n l) ≡ false
      → status_layer K n l ≡ Started (first_root K.root (K.live n).roots r) → Named K n l

named : (K : Sharing) (n : ℕ) (l : Layer) → live_in (K.live n) l ≡ true → Named K n l
named K n l v = by ((K.live n).resumed && K.resumed n == key K n l) refl
  where
    by : (b : Bool) → ((K.live n).resumed && K.resumed n == key K n l) ≡ b → Named K n l
    by true e =
        let x = and_parts (K.live n).resumed (K.resumed n == key K n l) e in
        WithResumed x.0 (eqb-true (K.resumed n) (key K n l) x.1) (ap (λ b. cond b Resumed (shared_layer K n l)) e)
    by false e = start l v e
      where
        start : (l : Layer) → live_in (K.live n) l ≡ true → ((K.live n).resumed && K.resumed n == key K n l) ≡ false → Named K n l
        start Resumed v e = absurd (both_ways _ e (and_from (K.live n).resumed (K.resumed n == K.resumed n) v (eq-eqb (K.resumed n) (K.resumed n) refl)))
        start (Started r) v e = WithStart r refl e (ap (λ b. cond b Resumed (Started (first_root K.root (K.live n).roots r))) e)

apart_from_resumed : (K : Sharing) (n : ℕ) (l j : Layer) → (K.live n).resumed ≡ true → K.resumed n ≡ key K n l → key K n l ≡ key K n j
    → ((K.live n).resumed && K.resumed n == key K n j) ≡ false → ⊥
apart_from_resumed K n l j v d e f =
    both_ways _ f (and_from (K.live n).resumed (K.resumed n == key K n j) v (eq-eqb (K.resumed n) (key K n j) (d ∙ e)))

pub one_status-named : (K : Sharing) (n : ℕ) (l j : Layer) → live_in (K.live n) l ≡ true → live_in (K.live n) j ≡ true → key K n l ≡ key K n j
    → status_layer K n l ≡ status_layer K n j
one_status-named K n l j v w e = by (named K n l v) (named K n j w)
  where
    by : Named K n l → Named K n j → status_layer K n l ≡ status_layer K n j
    by (WithResumed a d x) (WithResumed b f y) = x ∙ sym y
    by (WithResumed a d x) (WithStart r i f y) = absurd (apart_from_resumed K n l j a d e f)
    by (WithStart q i f x) (WithResumed b d y) = absurd (apart_from_resumed K n j l b d (sym e) f)
    by (WithStart q i f x) (WithStart r k g y) =
        let same : K.root q ≡ K.root r = sym (ap (key K n) i) ∙ e ∙ ap (key K n) k in
        x ∙ ap Started (first_same K.root (K.live n).roots q r same (subst (λ z. live_in (K.live n) z ≡ true) i v)) ∙ sym y

pub named-one_status : (K : Sharing) (n : ℕ) (l j : Layer) → live_in (K.live n) l ≡ true → live_in (K.live n) j ≡ true
    → status_layer K n l ≡ status_layer K n j → key K n l ≡ key K n j
named-one_status K n l j v w e = by (named K n l v) (named K n j w)
  where
    resumed-started : {X : Type 0} (r : ℕ) → Resumed ≡ Started r → X
    resumed-started r e = absurd (cc)

    by : Named K n l → Named K n j → key K n l ≡ key K n j
    by (WithResumed a d x) (WithResumed b f y) = sym d ∙ f
    by (WithResumed a d x) (WithStart r i f y) = resumed-started _ (sym x ∙ e ∙ y)
    by (WithStart q i f x) (WithResumed b d y) = resumed-started _ (sym y ∙ sym e ∙ x)
    by (WithStart q i f x) (WithStart r k g y) =
        let rs = (K.live n).roots in
        ap (key K n) i ∙ started-apart _ _ (sym x ∙ e ∙ y) (λ z. sym (first_key K.root rs q) ∙ ap K.root z ∙ first_key K.root rs r) ∙ sym (ap (key K n) k)
