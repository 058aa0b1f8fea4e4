-- The outgoing signals that an event leaves open, and what an event gives.
use Rattle.std.proofs.Common.{◌≡◌, ℕ, zero, suc, ◌+◌, ◌<◌, ◌≤◌, Bool, true, false, cond, List, [], ◌∷◌, map, filter, length, Option, Some, None, refl, sym}
use Rattle.std.proofs.Common.{ap, ◌∙◌, subst, ⊎_elim, arith}
use Rattle.std.specs.List.{range_with_len, slice_get}
use Rattle.std.proofs.lemmas.Bool.{cond_both, false≢true, cases_lt}
use Rattle.std.proofs.lemmas.List.{get_or_past}
use Rattle.std.proofs.lemmas.Option.{slice_get-get_or, get_or_from_slice_get}
use Rattle.est_kernel.specs.Statuses.{Status, Plus, known, status_of_input, status_of_other}
use Rattle.est_kernel.specs.Reactions.{is_given}
use Rattle.est_kernel.specs.Laws.{IsBelow}
use Rattle.est_ternary.specs.Settled.{IsNoneOf, EachOnce, EachMeets}

none_of_range : (s a k : ℕ) → s < a → IsNoneOf s (range_with_len a k)
none_of_range s a zero h = tt
none_of_range s a (suc k) h = (λ e. omega arith, none_of_range s (a + 1) k (omega arith))

none_kept : (keep : ℕ → Bool) (s : ℕ) (os : List ℕ) → IsNoneOf s os → IsNoneOf s (filter keep os)
none_kept keep s [] h = tt
none_kept keep s (o ∷ os) h =
    cond_both (keep o) (o ∷ filter keep os) (filter keep os) (λ l. IsNoneOf s l)
    (λ e. (h.0, none_kept keep s os h.1))
    (λ e. none_kept keep s os h.1)

-- the signals of a range that are kept stand once
pub kept_once : (keep : ℕ → Bool) (a k : ℕ) → EachOnce (filter keep (range_with_len a k))
kept_once keep a zero = tt
kept_once keep a (suc k) =
    cond_both (keep a) (a ∷ filter keep (range_with_len (a + 1) k)) (filter keep (range_with_len (a + 1) k)) (λ l. EachOnce l)
    (λ e. (none_kept keep a _ (none_of_range a (a + 1) k (omega arith)), kept_once keep (a + 1) k))
    (λ e. kept_once keep (a + 1) k)

-- a signal below the range is none of them
pub below_range : (keep : ℕ → Bool) (s a k : ℕ) → s < a → IsNoneOf s (filter keep (range_with_len a k))
below_range keep s a k l = none_kept keep s (range_with_len a k) (none_of_range s a k l)

-- nor is one that is not kept
pub not_kept : (keep : ℕ → Bool) (s : ℕ) (os : List ℕ) → keep s ≡ false → IsNoneOf s (filter keep os)
not_kept keep s [] h = tt
not_kept keep s (o ∷ os) h =
    cond_both (keep o) (o ∷ filter keep os) (filter keep os) (λ l. IsNoneOf s l)
    (λ e. ((λ z. false≢true (sym h ∙ subst (λ x. keep x ≡ true) (sym z) e)), not_kept keep s os h))
    (λ e. not_kept keep s os h)

-- what each signal of a range that is kept meets
pub each_kept : (P : ℕ → Type 0) (keep : ℕ → Bool) (a k : ℕ) → ((o : ℕ) → a ≤ o → o < a + k → keep o ≡ true → P o) →
    EachMeets P (filter keep (range_with_len a k))
each_kept P keep a zero f = tt
each_kept P keep a (suc k) f =
    cond_both (keep a) (a ∷ filter keep (range_with_len (a + 1) k)) (filter keep (range_with_len (a + 1) k)) (λ l. EachMeets P l)
    (λ e. (f a (omega arith) (omega arith) e, each_kept P keep (a + 1) k (λ o l u. f o (omega arith) (omega arith))))
    (λ e. each_kept P keep (a + 1) k (λ o l u. f o (omega arith) (omega arith)))

pub kept_at : (P : ℕ → Type 0) (keep : ℕ → Bool) (a k : ℕ) → EachMeets P (filter keep (range_with_len a k)) → (o : ℕ) → a ≤ o → o < a + k → keep o ≡ true → P o
kept_at P keep a zero h o l u e = absurd (omega arith)
kept_at P keep a (suc k) h o l u e =
    ⊎_elim
    (λ i. let z : a ≡ o = omega arith in
    subst P z (head (keep a) (subst (λ x. keep x ≡ true) (sym z) e) h))
    (λ i. kept_at P keep (a + 1) k (tail (keep a) h) o i (omega arith) e)
    (cases_lt o (a + 1))
  where
    head : (c : Bool) → c ≡ true → EachMeets P (cond c (a ∷ filter keep (range_with_len (a + 1) k)) (filter keep (range_with_len (a + 1) k))) → P a
    head true e h = h.0
    head false e h = absurd (false≢true e)

    tail : (c : Bool) → EachMeets P (cond c (a ∷ filter keep (range_with_len (a + 1) k)) (filter keep (range_with_len (a + 1) k))) →
        EachMeets P (filter keep (range_with_len (a + 1) k))
    tail true h = h.1
    tail false h = h

-- two functions that agree on a range
pub map_range : (f g : ℕ → Bool) (a k : ℕ) → ((o : ℕ) → a ≤ o → o < a + k → f o ≡ g o) → map f (range_with_len a k) ≡ map g (range_with_len a k)
map_range f g a zero h = refl
map_range f g a (suc k) h =
    ap (λ b. b ∷ map f (range_with_len (a + 1) k)) (h a (omega arith) (omega arith))
    ∙ ap (λ l. g a ∷ l) (map_range f g (a + 1) k (λ o l u. h o (omega arith) (omega arith)))

-- what is known at first of a signal that goes out
pub other_status_below : (o : Option Bool) (w : Status) → (o ≡ Some true → w ≡ Plus) → IsBelow (status_of_other o) w
other_status_below None w f = tt
other_status_below (Some false) w f = tt
other_status_below (Some true) w f = f refl

-- ---- what the event gives, as a status and as a value

pub given_value : (event : List Bool) (s : ℕ) → s < length event → slice_get event s ≡ Some (is_given event s)
given_value event s l = slice_get-get_or event s false l

pub input_known : (o : Option Bool) (b : Bool) → o ≡ Some b → status_of_input o ≡ known b
input_known None b e = cc
input_known (Some c) b e = ap known (let f : c ≡ b = cc in f)

pub other_given : (o : Option Bool) → o ≡ Some true → status_of_other o ≡ known true
other_given None e = cc
other_given (Some true) e = refl
other_given (Some false) e = cc

pub given_from : (event : List Bool) (o : ℕ) → slice_get event o ≡ Some true → is_given event o ≡ true
given_from event o e = get_or_from_slice_get event o true false e

pub get_from : (event : List Bool) (o : ℕ) → is_given event o ≡ true → slice_get event o ≡ Some true
get_from event o e =
    ⊎_elim
    (λ l. given_value event o l ∙ ap Some e)
    (λ l. absurd (false≢true (sym (get_or_past event o false l) ∙ e)))
    (cases_lt o (length event))
