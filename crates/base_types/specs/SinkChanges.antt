-- To believe: a sink before and after a call, as one value.
use Rattle.std.specs.Prelude.{◌≡◌, ℕ, List, Option}

-- what a sink tells, and its count of faults
pub record SinkChange : Type 0 where
  pub before : Option (List ℕ)
  pub after : Option (List ℕ)
  pub faults_before : ℕ
  pub faults_now : ℕ

-- the change of a sink of a type, whose values tell so and count faults so
abbrev pub change : {S : Type 0} → (S → Option (List ℕ)) → (S → ℕ) → S → S → SinkChange
change told faults old new = record {
  before = told old;
  after = told new;
  faults_before = faults old;
  faults_now = faults new;
}

-- the sink has what it had
abbrev pub IsUntouched : SinkChange → Type 0
IsUntouched s = (s.after ≡ s.before) × (s.faults_now ≡ s.faults_before)
