-- Worked cycles, by hand: two equations that read one another, one that reads itself, and what is no cycle.
use Rattle.std.proofs.Common.{◌≡◌, ℕ, zero, suc, ◌+◌, ◌<◌, List, [], ◌∷◌, codes, refl, arith, lit<}
use Rattle.run_steps.specs.Equations.{NameEquation, NeedsName, name_at, IsEquationLoop, HasNoEquationLoop}

abbrev a : List ℕ
a = codes "a"

abbrev b : List ℕ
b = codes "b"

abbrev c : List ℕ
c = codes "c"

-- the equation that gives a name the value of another
abbrev copy : List ℕ → List ℕ → NameEquation
copy output read = record { output = output; reads = c ∷ read ∷ []; value = λ v. v read }

abbrev equations : List NameEquation
equations = copy a b ∷ copy b a ∷ record { output = c; reads = c ∷ []; value = λ v. v c } ∷ []

a_needs_b : NeedsName equations a b
a_needs_b = record { equation = copy a b; stands = (0, omega arith, refl); drives = refl; reads = (1, omega arith, refl) }

b_needs_a : NeedsName equations b a
b_needs_a = record { equation = copy b a; stands = (1, omega arith, refl); drives = refl; reads = (1, omega arith, refl) }

c_needs_c : NeedsName equations c c
c_needs_c = record {
  equation = record { output = c; reads = c ∷ []; value = λ v. v c };
  stands = (2, omega arith, refl);
  drives = refl;
  reads = (0, omega arith, refl);
}

one_another : IsEquationLoop equations (a ∷ b ∷ [])
one_another = record { some_name = lit< tt; steps = steps; closes = b_needs_a }
  where
    steps : (k : ℕ) → k + 1 < 2 → NeedsName equations (name_at (a ∷ b ∷ []) k) (name_at (a ∷ b ∷ []) (k + 1))
    steps zero low = a_needs_b
    steps (suc k) low = absurd (omega (arith, low))

itself : IsEquationLoop equations (c ∷ [])
itself = record { some_name = lit< tt; steps = λ k low. absurd (omega (arith, low)); closes = c_needs_c }

no_cycle_of_none : IsEquationLoop equations [] → ⊥
no_cycle_of_none h = let low = h.some_name in omega (arith, low)

names_by_place : name_at (a ∷ b ∷ []) 0 ∷ name_at (a ∷ b ∷ []) 1 ∷ name_at (a ∷ b ∷ []) 2 ∷ [] ≡ a ∷ b ∷ [] ∷ []
names_by_place = refl

they_have_a_cycle : HasNoEquationLoop equations → ⊥
they_have_a_cycle h = h (c ∷ []) itself

none_has_none : HasNoEquationLoop []
none_has_none names loop = let low = loop.closes.stands.1 in omega (arith, low)
