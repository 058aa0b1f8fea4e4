-- Contract: the answer to a question under assumptions. An Unsatisfiable answer says that no model of the assumed
-- clauses meets the assumptions, that its clause follows, and that the kernel holds the clause under the premise. A
-- valuation says nothing by itself, since `is_model` checks it.
use Rattle.std.specs.Prelude.{◌≡◌, List, map, Some, ⊤}
use Rattle.sat_kernel.specs.Clauses.{Derivation, IsImplied, opposite}
use Rattle.sat_kernel.specs.Propagation.{cited}
use Rattle.sat_kernel.specs.declared.literals.Literal.{Literal}
use Rattle.sat_search.specs.declared.outcomes.SearchOutcome.{SearchOutcome}
use Rattle.sat_search.specs.declared.outcomes.SearchOutcome.TheVariants as outcomes
use Rattle.sat_search.specs.declared.outcomes.Refutation.{Refutation}

pub record IsRefutation (k : Derivation) (assumptions : List Literal) (r : Refutation) : Type 0 where
  pub never : IsImplied k.assumed (map opposite assumptions)
  pub follows : IsImplied k.assumed r.clause.items
  pub has : cited k.assumed k.derived r.premise ≡ Some r.clause.items

abbrev pub IsAnswer : Derivation → List Literal → SearchOutcome → Type 0
IsAnswer k assumptions (outcomes.Satisfiable values) = ⊤
IsAnswer k assumptions (outcomes.Unsatisfiable refutation) = IsRefutation k assumptions refutation
IsAnswer k assumptions (outcomes.Contradicting literal) = ⊤
IsAnswer k assumptions outcomes.Unknown = ⊤
