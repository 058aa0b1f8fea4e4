-- A rule with both laws, over a whole list, is exact.
use Rattle.std.proofs.Common.{◌≡◌, ℕ, ◌+◌, ◌≤◌, Bool, true, false, IsTrue, List, [], ◌∷◌, ◌++◌, Some, Result, Ok, Err, refl, sym, ◌∙◌, ap, subst, arith}
use Rattle.std.proofs.lemmas.List.{append-nil}
use Rattle.base_reader.specs.declared.faults.Fault.{Fault}
use Rattle.base_reader.specs.declared.faults.ReadError.{ReadError}
use Rattle.base_reader.specs.declared.faults.ReadError.TheVariants as errors
use Rattle.base_reader.specs.Readings.{Read, Rule, next_of, fault_at, end_of, whole}
use Rattle.base_reader.specs.Exact.{BeginsDeeper, Exactly, GivesExactly}
use Rattle.base_reader.specs.Found.{Gives}
use Rattle.base_reader.proofs.Laws.{Took, Answers, Runs, Totally}

-- the two parts of an answer
abbrev value_or : {T A : Type 0} → Read T A → A → A
value_or (Ok found) other = found.0
value_or (Err fault) other = other

abbrev rest_or : {T A : Type 0} → Read T A → List T → List T
rest_or (Ok found) other = found.1
rest_or (Err fault) other = other

module _ {T A : Type 0} (p : ℕ → Rule T A) (L : ℕ → A → List T → Type 0) (F : A → List T → Type 0)
    (grows : (room more : ℕ) (value : A) (tokens : List T) → room ≤ more → L room value tokens → L more value tokens)
    (ends : (value : A) → F value []) (total : (room : ℕ) → Totally p L F room) (room : ℕ) where
  -- a member with nothing behind it
  alone : (n : ℕ) (value : A) (tokens : List T) → L n value tokens → p n tokens ≡ Ok (value, [])
  alone n value tokens member = ap (p n) (sym (append-nil tokens)) ∙ total n value tokens [] member (ends value)

  not_ok : (tokens : List T) (value : A) (fault : Fault) → p room tokens ≡ Ok (value, []) →
      p room tokens ≡ Err fault → ⊥
  not_ok tokens value fault ok err = cc

  -- where the list is longer than what was taken, no member begins so
  stuck_behind : (n : ℕ) (front : List T) (value : A) (token : T) (rest : List T) →
      next_of rest ≡ Some token → p n (front ++ rest) ≡ Ok (value, rest) → (other : A) →
      L n other (front ++ rest) → ⊥
  stuck_behind n front value token rest next took other member =
      let same : [] ≡ rest = ap (λ r. rest_or r rest) (sym (alone n other (front ++ rest) member) ∙ took) in
      cc

  ended_on : (tokens : List T) (value : A) (rest : List T) → p room tokens ≡ Ok (value, rest) →
      Took p L room tokens value rest → Exactly L room tokens (end_of {T = T} {A = A} (Ok (value, rest)))
  ended_on tokens value [] is took = record {
    member = subst (λ ts. L room value ts) (sym (took.cut ∙ append-nil took.front)) took.member;
    only = λ other member. ap (λ r. value_or r other) (sym (alone room other tokens member) ∙ is);
  }
  ended_on tokens value (token ∷ rest) is took = record {
    front = took.front;
    rest = token ∷ rest;
    cut = took.cut;
    place = refl;
    begins = (value, [], subst (λ ts. L room value ts) (sym (append-nil took.front)) took.member);
    stuck = λ other tail same member. stuck_behind room took.front value token tail same (took.steady room tail (omega arith) same) other member;
    deep = (
      λ d. cc,
      λ deeper. absurd
          (stuck_behind (room + deeper.0) took.front value token (token ∷ deeper.2) refl
          (took.steady (room + deeper.0) (token ∷ deeper.2) (omega arith) refl) deeper.1
          (grows deeper.0 (room + deeper.0) deeper.1 (took.front ++ token ∷ deeper.2) (omega arith) deeper.3)),
    );
  }

  -- a fault that is not for depth is one at any room
  depth_of : (deep : Bool) (front rest : List T) →
      ((more : ℕ) (other : List T) → room ≤ more → (IsTrue deep → more ≡ room) → next_of other ≡ next_of rest →
      p more (front ++ other) ≡ Err (fault_at deep other)) →
      BeginsDeeper L front rest → IsTrue deep
  depth_of true front rest steady deeper = refl
  depth_of false front [] steady deeper = absurd deeper
  depth_of false front (token ∷ rest) steady deeper =
      let err = steady (room + deeper.0) (token ∷ deeper.2) (omega arith) (λ d. cc) refl in
      let ok = alone (room + deeper.0) deeper.1 (front ++ token ∷ deeper.2)
      (grows deeper.0 (room + deeper.0) deeper.1 (front ++ token ∷ deeper.2) (omega arith) deeper.3) in
      cc

  exact_on : (tokens : List T) (answer : Read T A) → p room tokens ≡ answer →
      Answers p L room tokens answer → Exactly L room tokens (end_of answer)
  exact_on tokens (Ok found) is took = ended_on tokens found.0 found.1 is took
  exact_on tokens (Err fault) is stopped = record {
    front = stopped.front;
    rest = stopped.rest;
    cut = stopped.cut;
    place = stopped.place;
    begins = stopped.begins;
    stuck = λ value other same member. not_ok (stopped.front ++ other) value (fault_at fault.deep other) (alone room value (stopped.front ++ other) member)
        (stopped.steady room other (omega arith) (λ d. refl) same);
    deep = (stopped.deeper, depth_of fault.deep stopped.front stopped.rest stopped.steady);
  }

  -- THE COROLLARY: the one value for which the list is written, or the least place that no member passes.
  pub whole-exact : Runs p L room → (tokens : List T) → Exactly L room tokens (whole (p room) tokens)
  whole-exact runs tokens = exact_on tokens (p room tokens) refl (runs tokens)

-- what code returned is exact, where it gives what an exact function answers
pub GivesExactly-by : {T X Y : Type 0} (view : X → Y) (L : ℕ → Y → List T → Type 0) (room : ℕ)
    (tokens : List T) (result : Result X ReadError) (answer : Result Y Fault) → Gives view result answer →
    Exactly L room tokens answer → GivesExactly view L room tokens result
GivesExactly-by view L room tokens (Ok found) answer gives exact = subst (λ a. Exactly L room tokens a) gives exact
GivesExactly-by view L room tokens (Err (errors.Fault fault)) answer gives exact = subst (λ a. Exactly L room tokens a) gives exact
GivesExactly-by view L room tokens (Err errors.NoMemory) answer gives exact = tt
