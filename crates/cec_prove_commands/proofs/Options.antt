-- Options of which a further word was read, where the option that waits for its value, if any, and the words that are left give all.
use Rattle.std.specs.Prelude.{if◌then◌else◌, true, false}
use Rattle.std.proofs.Common.{◌≡◌, ℕ, List, ◌∷◌, Option, Some, None, sym, ap, ◌∙◌}
use Rattle.cec_prove_commands.specs.Words.{is_flag}

-- the word is an option that has no value
pub flag-word : {X : Type 0} (f : Option (List ℕ) → List (List ℕ) → X) (key : Option (List ℕ)) (words rest : List (List ℕ)) (word : List ℕ) (flag done all : X)
    → f None (word ∷ rest) ≡ (if is_flag word then flag else f (Some word) rest) → words ≡ word ∷ rest → key ≡ None → is_flag word ≡ true
    → flag ≡ done → f key words ≡ all → done ≡ all
flag-word f key words rest word flag done all step e none is_it is so =
    sym is ∙ sym (ap (λ b. if b then flag else f (Some word) rest) is_it) ∙ sym step ∙ sym (λ i. f (none i) (e i)) ∙ so

-- the word is an option that has a value
pub key-word : {X : Type 0} (f : Option (List ℕ) → List (List ℕ) → X) (key : Option (List ℕ)) (words rest : List (List ℕ)) (word : List ℕ) (flag all : X)
    → f None (word ∷ rest) ≡ (if is_flag word then flag else f (Some word) rest) → words ≡ word ∷ rest → key ≡ None → is_flag word ≡ false
    → f key words ≡ all → f (Some word) rest ≡ all
key-word f key words rest word flag all step e none is_none so =
    sym (ap (λ b. if b then flag else f (Some word) rest) is_none) ∙ sym step ∙ sym (λ i. f (none i) (e i)) ∙ so

-- the word is the value
pub value-word : {X : Type 0} (f : Option (List ℕ) → List (List ℕ) → X) (key : Option (List ℕ)) (name : List ℕ) (words rest : List (List ℕ)) (word : List ℕ)
    (value done all : X) → f (Some name) (word ∷ rest) ≡ value → words ≡ word ∷ rest → key ≡ Some name → value ≡ done → f key words ≡ all → done ≡ all
value-word f key name words rest word value done all step e some is so = sym is ∙ sym step ∙ sym (λ i. f (some i) (e i)) ∙ so
