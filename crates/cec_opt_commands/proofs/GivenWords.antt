-- Names with commas between them.
use Rattle.std.proofs.Common.{◌≡◌, ℕ, ◌+◌, ◌<◌, Bool, true, false, List, [], ◌∷◌, length, None, cond, ⊎_elim, refl, sym, ap, ◌∙◌, arith}
use Rattle.std.specs.Prelude.{◌==◌, not}
use Rattle.std.specs.List.{after_first, before_first, onto_first, position_or_len, slice_split}
use Rattle.std.proofs.lemmas.Bool.{cases_Bool}
use Rattle.std.proofs.lemmas.List.Splits.{length-slice_split, slice_split-cons_no, slice_split_first}
use Rattle.cec_opt_texts.specs.Related.{names_between_commas}
use Rattle.cec_opt_commands.specs.Relations.{all_given, implication_of, never_of}

-- without a comma there is one name
no-cut : {X : Type 0} (p : X → Bool) → (xs : List X) → position_or_len p xs ≡ length xs → slice_split p xs ≡ xs ∷ []
no-cut p [] none = refl
no-cut p (x ∷ xs) none =
    let counts = λ (b : Bool) (is : p x ≡ b). sym (ap (λ v. cond (not v) (1 + position_or_len p xs) 0) is) ∙ none in
    ⊎_elim (λ here. absurd (omega (arith, counts true here)))
    (λ here. slice_split-cons_no p x xs here ∙ ap (onto_first x) (no-cut p xs (omega (arith, counts false here)))) (cases_Bool (p x))

pub one-name : (names : List ℕ) → position_or_len (λ c. c == 44) names ≡ length names → names_between_commas names ≡ names ∷ []
one-name names none = no-cut (λ c. c == 44) names none

pub first-name : (names : List ℕ) → position_or_len (λ c. c == 44) names < length names
    → names_between_commas names ≡ before_first (λ c. c == 44) names ∷ names_between_commas (after_first (λ c. c == 44) names)
first-name names cut = slice_split_first (λ c. c == 44) names 0 cut

some-name : (names : List ℕ) → 0 < length (names_between_commas names)
some-name names = omega (arith, length-slice_split (λ c. c == 44) names)

pub one-never : (names : List ℕ) → position_or_len (λ c. c == 44) names ≡ length names → None ≡ never_of (names_between_commas names)
one-never names none = ap never_of (sym (one-name names none))

two-never : (a : List ℕ) (others : List (List ℕ)) → 0 < length others → all_given (a ∷ others) ≡ never_of (a ∷ others)
two-never a [] some = absurd (omega (arith, some))
two-never a (b ∷ more) some = refl

pub more-never : (names : List ℕ) → position_or_len (λ c. c == 44) names < length names
    → all_given (names_between_commas names) ≡ never_of (names_between_commas names)
more-never names cut =
    let rest = after_first (λ c. c == 44) names in
    let are = first-name names cut in
    ap all_given are ∙ two-never (before_first (λ c. c == 44) names) (names_between_commas rest) (some-name rest) ∙ ap never_of (sym are)

pub one-implication : (names : List ℕ) → position_or_len (λ c. c == 44) names ≡ length names → None ≡ implication_of (names_between_commas names)
one-implication names none = ap implication_of (sym (one-name names none))

three-implication : (a b : List ℕ) (others : List (List ℕ)) → 0 < length others → None ≡ implication_of (a ∷ b ∷ others)
three-implication a b [] some = absurd (omega (arith, some))
three-implication a b (c ∷ more) some = refl

pub more-implication : (a names : List ℕ) → position_or_len (λ c. c == 44) names < length names → None ≡ implication_of (a ∷ names_between_commas names)
more-implication a names cut =
    let rest = after_first (λ c. c == 44) names in
    three-implication a (before_first (λ c. c == 44) names) (names_between_commas rest) (some-name rest)
    ∙ ap (λ l. implication_of (a ∷ l)) (sym (first-name names cut))
