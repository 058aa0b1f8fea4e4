-- Contract: unit propagation along hints. That an implied clause follows is a law, and the kernel's contract states it;
-- so nobody has to read this file to believe a derivation.
use Rattle.std.specs.Prelude.{ℕ, ◌==◌, Bool, true, false, not, ◌&&◌, ◌||◌, if◌then◌else◌, List, [], ◌∷◌}
use Rattle.std.specs.Prelude.{find, replicate, Option, Some, None, slice_get, slice_index_or, slice_set}
use Rattle.std.specs.List.{list_all}
use Rattle.sat_kernel.specs.declared.literals.Literal.{Literal}
use Rattle.sat_kernel.specs.declared.literals.Premise.{Premise}
use Rattle.sat_kernel.specs.declared.literals.Premise.TheVariants.{Assumed, Derived}
use Rattle.sat_kernel.specs.declared.marks.Mark.{Mark}
use Rattle.sat_kernel.specs.declared.marks.Mark.TheVariants.{Unknown, False, True}
use Rattle.sat_kernel.specs.declared.propagation.ClauseState.{ClauseState}
use Rattle.sat_kernel.specs.declared.propagation.ClauseState.TheVariants.{Conflict, Unit, Open}
use Rattle.sat_kernel.specs.Clauses.{Derivation}

-- ---- marks

abbrev pub mark_at : List Mark → ℕ → Mark
mark_at marks x = slice_index_or marks x Unknown

abbrev pub truth_mark : Bool → Mark
truth_mark true = True
truth_mark false = False

abbrev pub with_mark : List Mark → ℕ → Mark → List Mark
with_mark marks x mark = slice_set marks x mark

-- whether a mark makes a literal with this sign false
abbrev pub denies : Mark → Bool → Bool
denies Unknown positive = false
denies False positive = positive
denies True positive = not positive

abbrev pub is_false : List Mark → Literal → Bool
is_false marks l = denies (mark_at marks l.variable) l.positive

-- the marks where each literal of a clause is assigned false
abbrev pub denied : List Mark → List Literal → List Mark
denied marks [] = marks
denied marks (l ∷ ls) = denied (with_mark marks l.variable (truth_mark (not l.positive))) ls

-- the marks where each variable of a clause is Unknown
abbrev pub cleared : List Mark → List Literal → List Mark
cleared marks [] = marks
cleared marks (l ∷ ls) = cleared (with_mark marks l.variable Unknown) ls

-- ---- clauses under marks

abbrev pub is_same_sign : Bool → Bool → Bool
is_same_sign true q = q
is_same_sign false q = not q

abbrev pub is_same : Literal → Literal → Bool
is_same l m = (l.variable == m.variable) && is_same_sign l.positive m.positive

-- the state of a clause, by its first literal that is not false
abbrev pub state_by_first : List Mark → List Literal → Option Literal → ClauseState
state_by_first marks clause None = Conflict
state_by_first marks clause (Some l) =
    if list_all (λ m. is_false marks m || is_same l m) clause then Unit l else Open

abbrev pub clause_state : List Mark → List Literal → ClauseState
clause_state marks clause = state_by_first marks clause (find (λ l. not (is_false marks l)) clause)

-- ---- along hints

-- the cited clause, if any
abbrev pub cited : List (List Literal) → List (Option (List Literal)) → Premise → Option (List Literal)
cited assumed derived (Assumed k) = slice_get assumed k
cited assumed derived (Derived k) = slice_index_or derived k None

-- the outcome of a propagation: whether all literals of a clause are false, and the marks
pub record Propagation : Type 0 where
  pub conflict : Bool
  pub marks : List Mark

-- the outcome of one clause: a conflict, one more literal assigned true, or nothing
abbrev pub after_state : List Mark → ClauseState → Propagation
after_state marks Conflict = record { conflict = true; marks = marks }
after_state marks (Unit l) = record { conflict = false; marks = with_mark marks l.variable (truth_mark l.positive) }
after_state marks Open = record { conflict = false; marks = marks }

abbrev pub after_clause : List Mark → Option (List Literal) → Propagation
after_clause marks None = record { conflict = false; marks = marks }
after_clause marks (Some clause) = after_state marks (clause_state marks clause)

-- the cited clauses in order, up to a conflict
abbrev pub propagated : (Premise → Option (List Literal)) → List Mark → List Premise → Propagation
propagated clause_of marks [] = record { conflict = false; marks = marks }
propagated clause_of marks (h ∷ hs) =
    let p = after_clause marks (clause_of h) in if p.conflict then p else propagated clause_of p.marks hs

-- the marks where each variable of the cited clauses is Unknown
abbrev pub cleared_by : List Mark → Option (List Literal) → List Mark
cleared_by marks None = marks
cleared_by marks (Some clause) = cleared marks clause

abbrev pub cleared_along : (Premise → Option (List Literal)) → List Mark → List Premise → List Mark
cleared_along clause_of marks [] = marks
cleared_along clause_of marks (h ∷ hs) = cleared_along clause_of (cleared_by marks (clause_of h)) hs

-- whether assigning false to each literal of the clause leads to a conflict along the hints
abbrev pub is_implied_along : Derivation → List Literal → List Premise → Bool
is_implied_along d clause hints =
    (propagated (cited d.assumed d.derived) (denied (replicate d.variables Unknown) clause) hints).conflict
