-- The least of the places of two lists together.
use Rattle.std.proofs.Common.{List, [], ◌∷◌, ◌++◌, refl, arith}
use Rattle.std.specs.Prelude.{Option, Some, None}
use Rattle.std.proofs.lemmas.List.Elements.{All-append, All-weaker, All-nil, All-cons, Contains-append_left, Contains-append_right}
use Rattle.std.proofs.lemmas.List.{append-nil}
use Rattle.base_types.specs.declared.place.Span.{Span}
use Rattle.est_codes.specs.Faults.{IsNotAfter, IsLeastSpan}

pub IsNotAfter-itself : (a : Span) → IsNotAfter a a
IsNotAfter-itself a = record { start = omega arith; end = λ e. omega arith }

pub IsNotAfter-trans : (a b d : Span) → IsNotAfter a b → IsNotAfter b d → IsNotAfter a d
IsNotAfter-trans a b d h g = record {
  start = omega (arith, h.start, g.start);
  end = λ e. omega (arith, h.start, g.start, h.end, g.end);
}

-- one loop's place
pub least_one : (a : Span) → IsLeastSpan (Some a) (a ∷ [])
least_one a =
    ((0, omega arith, refl), All-cons (λ b. IsNotAfter a b) a [] (IsNotAfter-itself a) (All-nil (λ b. IsNotAfter a b)))

pub least_left_none : (r : Option Span) (xs ys : List Span) → IsLeastSpan None xs → IsLeastSpan r ys → IsLeastSpan r (xs ++ ys)
least_left_none r xs ys e h = rw e h

pub least_right_none : (l : Option Span) (xs ys : List Span) → IsLeastSpan l xs → IsLeastSpan None ys → IsLeastSpan l (xs ++ ys)
least_right_none l xs ys h e = rw e (rw append-nil h)

pub least_first : (a b : Span) (xs ys : List Span) → IsNotAfter a b → IsLeastSpan (Some a) xs → IsLeastSpan (Some b) ys → IsLeastSpan (Some a) (xs ++ ys)
least_first a b xs ys n h g = (
  Contains-append_left xs ys a h.0,
  All-append (λ z. IsNotAfter a z) xs ys h.1
      (All-weaker (λ z. IsNotAfter b z) (λ z. IsNotAfter a z) (λ z m. IsNotAfter-trans a b z n m) ys g.1),
)

pub least_second : (a b : Span) (xs ys : List Span) → IsNotAfter b a → IsLeastSpan (Some a) xs → IsLeastSpan (Some b) ys → IsLeastSpan (Some b) (xs ++ ys)
least_second a b xs ys n h g = (
  Contains-append_right xs ys b g.0,
  All-append (λ z. IsNotAfter b z) xs ys
      (All-weaker (λ z. IsNotAfter a z) (λ z. IsNotAfter b z) (λ z m. IsNotAfter-trans b a z n m) xs h.1) g.1,
)
