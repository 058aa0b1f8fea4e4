-- To believe: languages, the words in which a grammar is stated as a relation on whole lists of tokens.
-- A production is one clause of such a relation, by recursion on the plain tree.
use Rattle.std.specs.Prelude.{◌≡◌, ◌⊎◌, ◌≤◌, ℕ, List, [], ◌∷◌, ◌++◌, Option, Some, None}

-- no token
abbrev pub Empty : {T : Type 0} → List T → Type 0
Empty tokens = tokens ≡ []

-- one token, to which the test gives this value
pub record One {T X : Type 0} (test : T → Option X) (value : X) (tokens : List T) : Type 0 where
  pub token : T
  pub only : tokens ≡ token ∷ []
  pub passes : test token ≡ Some value

-- one part and then another: where the list is cut, and both parts
pub record Then {T : Type 0} (L M : List T → Type 0) (tokens : List T) : Type 0 where
  pub front : List T
  pub back : List T
  pub cut : tokens ≡ front ++ back
  pub first : L front
  pub second : M back

-- a token to which the test gives some value, and after it what the language for that value has
pub record Led {T X : Type 0} (test : T → Option X) (L : X → List T → Type 0) (tokens : List T) : Type 0 where
  pub token : T
  pub value : X
  pub rest : List T
  pub cut : tokens ≡ token ∷ rest
  pub passes : test token ≡ Some value
  pub behind : L value rest

-- one part and then another, for a pair of values
abbrev pub Both : {T A B : Type 0} → (A → List T → Type 0) → (B → List T → Type 0) → A × B → List T → Type 0
Both L M pair = Then (L pair.0) (M pair.1)

-- the part, or no token
abbrev pub Optional : {T A : Type 0} → (A → List T → Type 0) → Option A → List T → Type 0
Optional L None = Empty
Optional L (Some value) = L value

-- a token that may be left out
abbrev pub Maybe : {T : Type 0} → (T → Option (Unit {0})) → List T → Type 0
Maybe test tokens = Empty tokens ⊎ One test tt tokens

-- what the token opens, or else what ends a list
abbrev pub Parted : {T X A : Type 0} → (T → Option X) → (X → A → List T → Type 0) → (List T → Type 0) →
    Option A → List T → Type 0
Parted test L E None = E
Parted test L E (Some value) = Led test (λ x. L x value)

-- a step for each value, and the step that ends the list
abbrev pub Loop : {T A : Type 0} → (Option A → List T → Type 0) → List A → List T → Type 0
Loop S [] = S None
Loop S (value ∷ others) = Then (S (Some value)) (Loop S others)

-- the part, any number of times
abbrev pub Many : {T A : Type 0} → (A → List T → Type 0) → List A → List T → Type 0
Many L = Loop (Optional L)

-- the part, and what a function says of its tokens, as their place in a source
abbrev pub Placed : {T A P : Type 0} → (List T → P) → (A → List T → Type 0) → A × P → List T → Type 0
Placed place L value tokens = (value.1 ≡ place tokens) × L value.0 tokens

-- the language with a bound on the nesting
abbrev pub Within : {T A : Type 0} → (A → List T → Type 0) → (A → ℕ) → ℕ → A → List T → Type 0
Within L nesting room value tokens = L value tokens × (nesting value ≤ room)

-- the next token, if there is one
abbrev pub next_of : {T : Type 0} → List T → Option T
next_of [] = None
next_of (token ∷ tokens) = Some token
