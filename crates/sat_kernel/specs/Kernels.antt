-- Inner: the invariant of a kernel.
use Rattle.std.specs.Prelude.{◌≡◌, ℕ, List, length, replicate, Option, Some, None, slice_index_or}
use Rattle.sat_kernel.specs.declared.kernel.Kernel.TheInside.{Inside}
use Rattle.sat_kernel.specs.declared.literals.Literal.{Literal}
use Rattle.sat_kernel.specs.declared.marks.Mark.TheVariants.{Unknown}
use Rattle.sat_kernel.specs.Clauses.{Derivation, IsImplied, plain_assumed, plain_derived}

abbrev pub derivation_of : Inside → Derivation
derivation_of k = record {
  variables = length k.marks.items;
  assumed = plain_assumed k.assumed.items;
  derived = plain_derived k.derived.items;
}

-- each derived clause follows from the assumed ones
abbrev pub DerivedFollow : List (List Literal) → List (Option (List Literal)) → Type 0
DerivedFollow assumed derived =
    (k : ℕ) (clause : List Literal) → slice_index_or derived k None ≡ Some clause → IsImplied assumed clause

pub record IsSound (k : Inside) : Type 0 where
  pub follow : DerivedFollow (plain_assumed k.assumed.items) (plain_derived k.derived.items)
  pub unknown : k.marks.items ≡ replicate (length k.marks.items) Unknown
