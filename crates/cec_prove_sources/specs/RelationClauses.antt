-- Contract: what an environment keeps of the given signals, as clauses over the inputs of a netlist, which are its
-- first nets.
use Rattle.std.specs.Prelude.{ℕ, ◌==◌, true, false, if◌then◌else◌, List, [], ◌∷◌, ◌++◌, length, nat_le}
use Rattle.std.specs.List.{flat_map}
use Rattle.base_types.specs.Relations.{Relation, Implies, Excludes}
use Rattle.sat_kernel.specs.declared.literals.Literal.{Literal}
use Rattle.net_never.specs.GateClauses.{signed}

-- one of two signals is absent, unless they are one
abbrev pub exclusion : ℕ → ℕ → List (List Literal)
exclusion s t = if s == t then [] else (signed s false ∷ signed t false ∷ []) ∷ []

abbrev pub exclusions : List ℕ → List (List Literal)
exclusions [] = []
exclusions (s ∷ signals) = flat_map (exclusion s) signals ++ exclusions signals

-- an exclusion of many signals, which has very many clauses, is left out
abbrev pub few_exclusions : List ℕ → List (List Literal)
few_exclusions signals = if nat_le (length signals) 512 then exclusions signals else []

abbrev pub relation_clauses : Relation → List (List Literal)
relation_clauses (Implies a b) = (signed a false ∷ signed b true ∷ []) ∷ []
relation_clauses (Excludes signals) = few_exclusions signals

abbrev pub all_relation_clauses : List Relation → List (List Literal)
all_relation_clauses relations = flat_map relation_clauses relations
