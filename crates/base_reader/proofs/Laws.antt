-- The two laws of a rule, stated for a family of rules, one for each room.
use Rattle.std.proofs.Common.{◌≡◌, ℕ, ◌≤◌, IsTrue, List, ◌++◌, length, Ok, Err}
use Rattle.base_reader.specs.declared.faults.Fault.{Fault}
use Rattle.base_reader.specs.Readings.{Read, Rule, next_of, fault_at}
use Rattle.base_reader.specs.Exact.{BeginsMember, BeginsDeeper}

-- What was taken is a member. What stands behind the next token does not matter, nor does more room.
pub record Took {T A : Type 0} (p : ℕ → Rule T A) (L : ℕ → A → List T → Type 0) (room : ℕ) (tokens : List T) (value : A) (rest : List T) : Type 0 where
  pub front : List T
  pub cut : tokens ≡ front ++ rest
  pub member : L room value front
  pub steady : (more : ℕ) (other : List T) → room ≤ more → next_of other ≡ next_of rest →
      p more (front ++ other) ≡ Ok (value, other)

-- What stands before the fault begins a member. What stands behind the next token does not matter, nor
-- does more room to a fault that is not for depth. At one for depth the next token begins a deeper member.
pub record Stopped {T A : Type 0} (p : ℕ → Rule T A) (L : ℕ → A → List T → Type 0) (room : ℕ) (tokens : List T) (fault : Fault) : Type 0 where
  pub front : List T
  pub rest : List T
  pub cut : tokens ≡ front ++ rest
  pub place : fault.left ≡ length rest
  pub begins : BeginsMember (L room) front
  pub steady : (more : ℕ) (other : List T) → room ≤ more → (IsTrue fault.deep → more ≡ room) →
      next_of other ≡ next_of rest → p more (front ++ other) ≡ Err (fault_at fault.deep other)
  pub deeper : IsTrue fault.deep → BeginsDeeper L front rest

abbrev pub Answers : {T A : Type 0} → (ℕ → Rule T A) → (ℕ → A → List T → Type 0) → ℕ → List T → Read T A →
    Type 0
Answers p L room tokens (Ok found) = Took p L room tokens found.0 found.1
Answers p L room tokens (Err fault) = Stopped p L room tokens fault

-- THE FIRST LAW, Runs: whatever the list, the rule's answer at this room is sound.
abbrev pub Runs : {T A : Type 0} → (ℕ → Rule T A) → (ℕ → A → List T → Type 0) → ℕ → Type 0
Runs {T} p L room = (tokens : List T) → Answers p L room tokens (p room tokens)

-- THE SECOND LAW, Totally: a member is read whole, where what stands behind it may follow it.
abbrev pub Totally : {T A : Type 0} → (ℕ → Rule T A) → (ℕ → A → List T → Type 0) → (A → List T → Type 0) →
    ℕ → Type 0
Totally {T} {A} p L Follows room =
    (value : A) (front rest : List T) → L room value front → Follows value rest → p room (front ++ rest) ≡ Ok (value, rest)
