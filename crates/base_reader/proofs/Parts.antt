-- The first law of a part with its place, and of one that may be left out.
use Rattle.std.proofs.Common.{◌≡◌, ℕ, ◌+◌, List, [], ◌∷◌, ◌++◌, length, Option, Some, None, Ok, Err, ◌-◌, take, length-append, refl, sym, ◌∙◌, ap, arith}
use Rattle.std.proofs.Math.Seq.{take-append_seam}
use Rattle.base_reader.specs.Languages.{Led, Optional, Placed}
use Rattle.base_reader.specs.Readings.{Read, Rule, give, follow, mapped, optional, maybe, taken_of, placed}
use Rattle.base_reader.specs.Exact.{BeginsMember, BeginsDeeper}
use Rattle.base_reader.proofs.Laws.{Answers, Runs}
use Rattle.base_reader.proofs.Runs.{give-runs, mapped-runs, when-runs, ahead-runs}

-- what was taken of a list is its front
pub taken_of-append : {T : Type 0} (tokens front rest : List T) → tokens ≡ front ++ rest →
    taken_of tokens rest ≡ front
taken_of-append tokens front rest cut =
    let sizes : length tokens ≡ length front + length rest = ap length cut ∙ length-append front rest in
    let count : length tokens - length rest ≡ length front = omega arith in
    ap (λ n. take n tokens) count ∙ ap (take (length front)) cut ∙ take-append_seam front rest

-- the part, and what a function says of its tokens
module _ {T A P : Type 0} (place : List T → P) (p : ℕ → Rule T A) (L : ℕ → A → List T → Type 0)
    (room : ℕ) where
  placed_deeper : (front rest : List T) → BeginsDeeper L front rest →
      BeginsDeeper (λ n. Placed place (L n)) front rest
  placed_deeper front [] deeper = deeper
  placed_deeper front (token ∷ rest) deeper =
      (deeper.0, (deeper.1, place (front ++ token ∷ deeper.2)), deeper.2, (refl, deeper.3))

  placed_on : (tokens : List T) (answer : Read T A) → Answers p L room tokens answer →
      Answers (λ n. placed place (p n))
      (λ n. Placed place (L n)) room tokens (follow answer (λ value rest. Ok ((value, place (taken_of tokens rest)), rest)))
  placed_on tokens (Ok found) took =
      let here : taken_of tokens found.1 ≡ took.front = taken_of-append tokens took.front found.1 took.cut in
      record {
        front = took.front;
        cut = took.cut;
        member = (ap place here, took.member);
        steady = λ more other le same.
            ap (λ r. follow r (λ value rest. Ok ((value, place (taken_of (took.front ++ other) rest)), rest))) (took.steady more other le same)
            ∙ ap (λ front. Ok ((found.0, place front), other)) (taken_of-append (took.front ++ other) took.front other refl ∙ sym here);
      }
  placed_on tokens (Err fault) stopped = record {
    front = stopped.front;
    rest = stopped.rest;
    cut = stopped.cut;
    place = stopped.place;
    begins = let b : BeginsMember (L room) stopped.front = stopped.begins in ((b.0, place (stopped.front ++ b.1)), b.1, (refl, b.2));
    steady = λ more other le fits same. ap (λ r. follow r (λ value rest. Ok ((value, place (taken_of (stopped.front ++ other) rest)), rest)))
        (stopped.steady more other le fits same);
    deeper = λ deep. placed_deeper stopped.front stopped.rest (stopped.deeper deep);
  }

  pub placed-runs : Runs p L room → Runs (λ n. placed place (p n)) (λ n. Placed place (L n)) room
  placed-runs runs tokens = placed_on tokens (p room tokens) (runs tokens)

-- the part alone where a value is there
abbrev pub OnlySome : {T A : Type 0} → (A → List T → Type 0) → Option A → List T → Type 0
OnlySome L None tokens = ⊥
OnlySome L (Some value) tokens = L value tokens

-- no part, with no token
abbrev pub OnlyNone : {T A : Type 0} → Option A → List T → Type 0
OnlyNone None tokens = tokens ≡ []
OnlyNone (Some value) tokens = ⊥

-- what the next token opens, or nothing
module _ {T X A : Type 0} (test : T → Option X) (p : ℕ → X → Rule T A) (L : ℕ → X → A → List T → Type 0)
    (room : ℕ) where
  opened : (n : ℕ) (value : Option A) (tokens : List T) → Led test (λ x. OnlySome (L n x) value) tokens →
      Optional (λ v. Led test (λ x. L n x v)) value tokens
  opened n None tokens led = absurd led.behind
  opened n (Some value) tokens led = led

  unopened : (n : ℕ) (value : Option A) (tokens : List T) → OnlyNone value tokens →
      Optional (λ v. Led test (λ x. L n x v)) value tokens
  unopened n None tokens none = none
  unopened n (Some value) tokens none = absurd none

  pub optional-runs : ((x : X) → Runs (λ n. p n x) (λ n. L n x) room) → Runs (λ n. optional test (p n))
      (λ n. Optional (λ v. Led test (λ x. L n x v))) room
  optional-runs runs =
      when-runs test (λ n x. mapped Some (p n x)) (λ n x. OnlySome (L n x)) (λ n. Optional (λ v. Led test (λ x. L n x v))) room opened
      (λ _. give None) (λ _. OnlyNone) unopened
      (λ x. mapped-runs Some (λ n. p n x) (λ n. L n x) (λ n. OnlySome (L n x)) room (λ n value tokens member. member) (runs x))
      (give-runs None (λ _. OnlyNone) room refl)

-- the part, where the next token is one that begins it
module _ {T X A : Type 0} (test : T → Option X) (p : ℕ → Rule T A) (L : ℕ → A → List T → Type 0)
    (room : ℕ) where
  there : (n : ℕ) (value : Option A) (tokens : List T) → OnlySome (L n) value tokens →
      Optional (L n) value tokens
  there n None tokens some = absurd some
  there n (Some value) tokens some = some

  not_there : (n : ℕ) (value : Option A) (tokens : List T) → OnlyNone value tokens → Optional (L n) value tokens
  not_there n None tokens none = none
  not_there n (Some value) tokens none = absurd none

  pub maybe-runs : Runs p L room → Runs (λ n. maybe test (p n)) (λ n. Optional (L n)) room
  maybe-runs runs =
      ahead-runs test (λ n. mapped Some (p n)) (λ _. give None) (λ n. OnlySome (L n)) (λ _. OnlyNone) (λ n. Optional (L n)) room there not_there
      (mapped-runs Some p L (λ n. OnlySome (L n)) room (λ n value tokens member. member) runs)
      (give-runs None (λ _. OnlyNone) room refl)
