-- Words after `verilog --reset` of which a further one was read, where the word that waits for its value, if any, and the words that are left give all.
use Rattle.std.specs.Prelude.{if◌then◌else◌, true, false}
use Rattle.std.proofs.Common.{◌≡◌, ℕ, List, ◌∷◌, Option, Some, None, sym, ap, ◌∙◌}
use Rattle.cec_opt_commands.specs.Resets.{needs_value}

-- the word has a value
pub waiting-word : {X : Type 0} (f : Option (List ℕ) → List (List ℕ) → X) (key : Option (List ℕ)) (words rest : List (List ℕ)) (word : List ℕ)
    (done all : X) → f None (word ∷ rest) ≡ (if needs_value word then f (Some word) rest else done) → words ≡ word ∷ rest → key ≡ None
    → needs_value word ≡ true → f key words ≡ all → f (Some word) rest ≡ all
waiting-word f key words rest word done all step e none is so =
    sym (ap (λ b. if b then f (Some word) rest else done) is) ∙ sym step ∙ sym (λ i. f (none i) (e i)) ∙ so

-- the word has none
pub whole-word : {X : Type 0} (f : Option (List ℕ) → List (List ℕ) → X) (key : Option (List ℕ)) (words rest : List (List ℕ)) (word : List ℕ)
    (given done all : X) → f None (word ∷ rest) ≡ (if needs_value word then f (Some word) rest else given) → words ≡ word ∷ rest → key ≡ None
    → needs_value word ≡ false → given ≡ done → f key words ≡ all → done ≡ all
whole-word f key words rest word given done all step e none is_none is so =
    sym is ∙ sym (ap (λ b. if b then f (Some word) rest else given) is_none) ∙ sym step ∙ sym (λ i. f (none i) (e i)) ∙ so

-- the word is the value
pub its-value : {X : Type 0} (f : Option (List ℕ) → List (List ℕ) → X) (given : X) {key : Option (List ℕ)} {name word : List ℕ} {words rest : List (List ℕ)}
    {done all : X} → key ≡ Some name → words ≡ word ∷ rest → f (Some name) (word ∷ rest) ≡ given → f key words ≡ all → given ≡ done → done ≡ all
its-value f given some e step so is = sym is ∙ sym step ∙ sym (λ i. f (some i) (e i)) ∙ so
