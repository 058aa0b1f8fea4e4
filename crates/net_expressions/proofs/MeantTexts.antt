-- Inner: from exact readings of what is written to readings of what that means.
use Rattle.std.proofs.Common.{◌≡◌, ℕ, Bool, true, false, List, [], ◌∷◌, map, Result, Ok, Err, sym, ◌∙◌, ap, subst}
use Rattle.std.proofs.lemmas.Bool.{false≢true}
use Rattle.base_reader.specs.declared.faults.Fault.{Fault}
use Rattle.base_reader.specs.Readings.{Rule, ended, end_of, whole}
use Rattle.base_reader.specs.Exact.{Exactly, IsLeastPlace}
use Rattle.net_expressions.specs.Spelled.{IsSpelled}
use Rattle.net_expressions.proofs.Images.{made}

abbrev value_or : {A : Type 0} → A → Result A Fault → A
value_or other (Ok a) = a
value_or other (Err fault) = other

abbrev fault_or : {A : Type 0} → Fault → Result A Fault → Fault
fault_or other (Ok a) = other
fault_or other (Err fault) = fault

abbrev good : {A : Type 0} → Result A Fault → Bool
good (Ok a) = true
good (Err fault) = false

module _ {K W M : Type 0} (L : ℕ → W → List K → Type 0) (room : ℕ) (meaning : W → M) (tokens : List K) where
  -- the one tree for which they are written
  pub spelled-meant : (meant : Result M Fault) (written : Result W Fault) → Exactly L room tokens written → meant ≡ made meaning written
      → (m : M) → meant ≡ Ok m → IsSpelled L room meaning tokens m
  spelled-meant meant (Ok w) exact is m told =
      record { written = w; spelled = exact.member; means = ap (value_or m) (sym is ∙ told); only = exact.only }
  spelled-meant meant (Err fault) exact is m told = absurd (false≢true (ap good (sym is ∙ told)))

  -- the least place that none passes
  pub least-meant : (meant : Result M Fault) (written : Result W Fault) → Exactly L room tokens written → meant ≡ made meaning written
      → (fault : Fault) → meant ≡ Err fault → IsLeastPlace L room tokens fault
  least-meant meant (Ok w) exact is fault told = absurd (false≢true (ap good (sym told ∙ is)))
  least-meant meant (Err other) exact is fault told = subst (IsLeastPlace L room tokens) (ap (fault_or {A = M} fault) (sym is ∙ told)) exact

-- what was read with nothing behind it
pub whole-ended : {K P C T : Type 0} (rule : Rule K P) (view : C → P) (kind : T → K) (ks : List K) (c d : C) (rest : List T)
    → rule ks ≡ Ok (view c, map kind rest) → ended c rest ≡ Ok d → whole rule ks ≡ Ok (view d)
whole-ended {K} {P} {C} {T} rule view kind ks c d [] read is = let same : c ≡ d = cc in ap end_of read ∙ ap (λ (x : C). Ok (view x)) same
whole-ended rule view kind ks c d (token ∷ rest) read is = absurd (false≢true (ap good is))
