-- The first law of a rule that needs room, and its choice by the next token.
use Rattle.std.proofs.Common.{◌≡◌, ℕ, zero, suc, ◌≤◌, Bool, false, IsTrue, List, [], ◌∷◌, ◌++◌, Ok, Err, arith}
use Rattle.base_reader.specs.Readings.{Read, Rule, next_of, fault_at}
use Rattle.base_reader.specs.Exact.{BeginsDeeper}
use Rattle.base_reader.proofs.Laws.{Answers, Runs}

-- what needs room for one more
abbrev pub Under : {T A : Type 0} → (ℕ → A → List T → Type 0) → ℕ → A → List T → Type 0
Under L zero value tokens = ⊥
Under L (suc room) value tokens = L room value tokens

-- A law at each room but 0, given at the room below.
abbrev pub Below : (ℕ → Type 0) → ℕ → Type 0
Below P zero = Unit {0}
Below P (suc room) = P room

-- what follows at each room from the room below holds at each
pub by_room : (P : ℕ → Type 0) → ((room : ℕ) → Below P room → P room) → (room : ℕ) → P room
by_room P step zero = step zero tt
by_room P step (suc room) = step (suc room) (by_room P step room)

-- a rule that counts the room down runs with one more
module _ {T A : Type 0} (p : ℕ → Rule T A) (L : ℕ → A → List T → Type 0) (room : ℕ) where
  lifted_steady : (deep : Bool) (front rest : List T) (answer : List T → Read T A) →
      ((more : ℕ) (other : List T) → room ≤ more → (IsTrue deep → more ≡ room) → next_of other ≡ next_of rest → p (suc more) (front ++ other) ≡ answer other) →
      (more : ℕ) (other : List T) → suc room ≤ more → (IsTrue deep → more ≡ suc room) → next_of other ≡ next_of rest → p more (front ++ other) ≡ answer other
  lifted_steady deep front rest answer steady zero other le fits same = absurd (omega arith)
  lifted_steady deep front rest answer steady (suc more) other le fits same = steady more other (omega arith) (λ d. let e = fits d in omega (arith, e)) same

  under_deeper : (front rest : List T) → BeginsDeeper L front rest → BeginsDeeper (Under L) front rest
  under_deeper front [] deeper = deeper
  under_deeper front (token ∷ rest) deeper = (suc deeper.0, deeper.1, deeper.2, deeper.3)

  pub lifted_on : (tokens : List T) (answer : Read T A) → Answers (λ n. p (suc n)) L room tokens answer →
      Answers p (Under L) (suc room) tokens answer
  lifted_on tokens (Ok found) took = record {
    front = took.front;
    cut = took.cut;
    member = took.member;
    steady = λ more other le same. lifted_steady false took.front found.1 (λ other. Ok (found.0, other))
        (λ more other le fits same. took.steady more other le same) more other le (λ d. cc) same;
  }
  lifted_on tokens (Err fault) stopped = record {
    front = stopped.front;
    rest = stopped.rest;
    cut = stopped.cut;
    place = stopped.place;
    begins = stopped.begins;
    steady = λ more other le fits same. lifted_steady fault.deep stopped.front stopped.rest
        (λ other. Err (fault_at fault.deep other)) stopped.steady more other le fits same;
    deeper = λ deep. under_deeper stopped.front stopped.rest (stopped.deeper deep);
  }

  pub lifted-runs : Runs (λ n. p (suc n)) L room → Runs p (Under L) (suc room)
  lifted-runs runs tokens = lifted_on tokens (p (suc room) tokens) (runs tokens)
