-- What a language needs so that each beginning can be completed: its members stay with more room, and one
-- needs no room.
use Rattle.std.proofs.Common.{◌≡◌, ℕ, ◌≤◌, List, [], ◌∷◌, ◌++◌, Option, Some, None, refl, arith}
use Rattle.base_reader.specs.Languages.{One, Led, Both, Optional, Loop, Many, Within}

-- a language that keeps its members with more room
abbrev pub Grows : {T A : Type 0} → (ℕ → A → List T → Type 0) → Type 0
Grows {T} {A} L = (room more : ℕ) (value : A) (tokens : List T) → room ≤ more → L room value tokens → L more value tokens

-- and has a member with no room
pub record Proper {T A : Type 0} (L : ℕ → A → List T → Type 0) : Type 0 where
  pub grows : Grows L
  pub value : A
  pub tokens : List T
  pub member : L 0 value tokens

-- with a bound on the nesting, where a member has no nesting
pub Within-grows : {T A : Type 0} (L : A → List T → Type 0) (nesting : A → ℕ) → Grows (Within L nesting)
Within-grows L nesting room more value tokens le member = (member.0, omega (arith, member.1))

pub Within-proper : {T A : Type 0} (L : A → List T → Type 0) (nesting : A → ℕ) (value : A)
    (tokens : List T) → L value tokens → nesting value ≤ 0 → Proper (Within L nesting)
Within-proper L nesting value tokens member flat = record {
  grows = Within-grows L nesting;
  value = value;
  tokens = tokens;
  member = (member, flat);
}

-- one token, where some token is such
pub One-proper : {T X : Type 0} (test : T → Option X) (token : T) (x : X) → test token ≡ Some x →
    Proper (λ _. One test)
One-proper test token x takes = record {
  grows = λ room more value tokens le member. member;
  value = x;
  tokens = token ∷ [];
  member = record { token = token; only = refl; passes = takes };
}

-- a token and what it opens
pub Led-grows : {T X A : Type 0} (test : T → Option X) (L : ℕ → X → A → List T → Type 0) →
    ((x : X) → Grows (λ n. L n x)) → Grows (λ n value. Led test (λ x. L n x value))
Led-grows test L grows room more value tokens le led = record {
  token = led.token;
  value = led.value;
  rest = led.rest;
  cut = led.cut;
  passes = led.passes;
  behind = grows led.value room more value led.rest le led.behind;
}

pub Led-proper : {T X A : Type 0} (test : T → Option X) (L : ℕ → X → A → List T → Type 0) (token : T)
    (x : X) → test token ≡ Some x → ((x : X) → Grows (λ n. L n x)) → Proper (λ n. L n x) →
    Proper (λ n value. Led test (λ x. L n x value))
Led-proper test L token x takes grows proper = record {
  grows = Led-grows test L grows;
  value = proper.value;
  tokens = token ∷ proper.tokens;
  member = record {
    token = token;
    value = x;
    rest = proper.tokens;
    cut = refl;
    passes = takes;
    behind = proper.member;
  };
}

-- one part and then another
pub Both-proper : {T A B : Type 0} (L : ℕ → A → List T → Type 0) (M : ℕ → B → List T → Type 0) → Proper L →
    Proper M → Proper (λ n. Both (L n) (M n))
Both-proper L M proper_l proper_m = record {
  grows = λ room more value tokens le member. record {
    front = member.front;
    back = member.back;
    cut = member.cut;
    first = proper_l.grows room more value.0 member.front le member.first;
    second = proper_m.grows room more value.1 member.back le member.second;
  };
  value = (proper_l.value, proper_m.value);
  tokens = proper_l.tokens ++ proper_m.tokens;
  member = record {
    front = proper_l.tokens;
    back = proper_m.tokens;
    cut = refl;
    first = proper_l.member;
    second = proper_m.member;
  };
}

-- a part that may be left out
pub Optional-grows : {T A : Type 0} (L : ℕ → A → List T → Type 0) → Grows L → Grows (λ n. Optional (L n))
Optional-grows L grows room more None tokens le member = member
Optional-grows L grows room more (Some value) tokens le member = grows room more value tokens le member

pub Optional-proper : {T A : Type 0} (L : ℕ → A → List T → Type 0) → Grows L → Proper (λ n. Optional (L n))
Optional-proper L grows = record { grows = Optional-grows L grows; value = None; tokens = []; member = refl }

-- a loop, where a list ends it
pub Loop-grows : {T A : Type 0} (S : ℕ → Option A → List T → Type 0) → Grows S → Grows (λ n. Loop (S n))
Loop-grows S grows room more [] tokens le member = grows room more None tokens le member
Loop-grows S grows room more (value ∷ others) tokens le member = record {
  front = member.front;
  back = member.back;
  cut = member.cut;
  first = grows room more (Some value) member.front le member.first;
  second = Loop-grows S grows room more others member.back le member.second;
}

pub Loop-proper : {T A : Type 0} (S : ℕ → Option A → List T → Type 0) → Grows S → (last : List T) →
    S 0 None last → Proper (λ n. Loop (S n))
Loop-proper S grows last ends = record { grows = Loop-grows S grows; value = []; tokens = last; member = ends }

pub Many-proper : {T A : Type 0} (L : ℕ → A → List T → Type 0) → Grows L → Proper (λ n. Many (L n))
Many-proper L grows = Loop-proper (λ n. Optional (L n)) (Optional-grows L grows) [] refl
