-- Clearing the marks along the hints undoes the propagation along them.
use Rattle.std.proofs.Common.{◌≡◌, ◌⊎◌, inl, inr, ℕ, Bool, true, false, not, ◌||◌, List, [], ◌∷◌, length, replicate, refl, sym, ap, ◌∙◌, subst, ⊎_elim}
use Rattle.std.proofs.Common.{Option, Some, None}
use Rattle.std.specs.Prelude.{◌≤◌, cond, if◌then◌else◌, find}
use Rattle.std.proofs.lemmas.Bool.{cases_lt}
use Rattle.std.proofs.lemmas.List.{get_or-set_same, get_or_past, length-set, length-replicate}
use Rattle.std.specs.List.{list_all}
use Rattle.sat_kernel.specs.declared.literals.Literal.{Literal}
use Rattle.sat_kernel.specs.declared.literals.Premise.{Premise}
use Rattle.sat_kernel.specs.declared.marks.Mark.{Mark}
use Rattle.sat_kernel.specs.declared.marks.Mark.TheVariants.{Unknown}
use Rattle.sat_kernel.specs.declared.propagation.ClauseState.{ClauseState}
use Rattle.sat_kernel.specs.declared.propagation.ClauseState.TheVariants.{Conflict, Unit, Open}
use Rattle.sat_kernel.specs.Propagation.{after_clause, after_state, denied, is_false, is_same, clause_state, state_by_first, mark_at}
use Rattle.sat_kernel.specs.Propagation.{cleared, cleared_along, cleared_by}
use Rattle.sat_kernel.specs.Propagation.{propagated, truth_mark, with_mark}
use Rattle.sat_kernel.proofs.MarkLaws.{mark_at-with_mark, mark_at-replicate, none-set}

-- the variable of one of the literals
abbrev IsVariableIn : List Literal → ℕ → Type 0
IsVariableIn [] x = ⊥
IsVariableIn (l ∷ ls) x = (l.variable ≡ x) ⊎ IsVariableIn ls x

abbrev IsVariableOf : Option (List Literal) → ℕ → Type 0
IsVariableOf None x = ⊥
IsVariableOf (Some c) x = IsVariableIn c x

abbrev IsVariableAlong : (Premise → Option (List Literal)) → List Premise → ℕ → Type 0
IsVariableAlong clause_of [] x = ⊥
IsVariableAlong clause_of (h ∷ hs) x = IsVariableOf (clause_of h) x ⊎ IsVariableAlong clause_of hs x

-- ---- what changes

denied-changes : (marks : List Mark) (clause : List Literal) (x : ℕ) → (mark_at (denied marks clause) x ≡ mark_at marks x) ⊎ IsVariableIn clause x
denied-changes marks [] x = inl refl
denied-changes marks (l ∷ ls) x = ⊎_elim
    (λ same. ⊎_elim
    (λ stays. inl (same ∙ stays))
    (λ set. inr (inl set.0))
    (mark_at-with_mark marks l.variable x (truth_mark (not l.positive))))
    (λ later. inr (inr later))
    (denied-changes (with_mark marks l.variable (truth_mark (not l.positive))) ls x)

found-in : (p : Literal → Bool) (clause : List Literal) (l : Literal) → find p clause ≡ Some l → IsVariableIn clause l.variable
found-in p [] l e = cc
found-in p (m ∷ ms) l e = elim (p m) as (λ b. cond b (Some m) (find p ms) ≡ Some l → (m.variable ≡ l.variable) ⊎ IsVariableIn ms l.variable) [
  | true ↦ λ is. inl (let same : m ≡ l = cc in ap (λ (k : Literal). k.variable) same)
  | false ↦ λ is. inr (found-in p ms l is)
] e

state-holds-changes : (marks : List Mark) (clause : List Literal) (x : ℕ) (first : Option Literal) → find (λ l. not (is_false marks l)) clause ≡ first
    → (mark_at (after_state marks (state_by_first marks clause first)).marks x ≡ mark_at marks x) ⊎ IsVariableIn clause x
state-holds-changes marks clause x None e = inl refl
state-holds-changes marks clause x (Some l) e = forced (list_all (λ m. is_false marks m || is_same l m) clause)
  where
    forced : (b : Bool) → (mark_at (after_state marks (if b then Unit l else Open)).marks x ≡ mark_at marks x) ⊎ IsVariableIn clause x
    forced true = ⊎_elim
        (λ stays. inl stays)
        (λ set. inr (subst (IsVariableIn clause) set.0 (found-in (λ m. not (is_false marks m)) clause l e)))
        (mark_at-with_mark marks l.variable x (truth_mark l.positive))
    forced false = inl refl

after-changes : (marks : List Mark) (clause : Option (List Literal)) (x : ℕ)
    → (mark_at (after_clause marks clause).marks x ≡ mark_at marks x) ⊎ IsVariableOf clause x
after-changes marks None x = inl refl
after-changes marks (Some c) x = state-holds-changes marks c x (find (λ l. not (is_false marks l)) c) refl

propagated-changes : (clause_of : Premise → Option (List Literal)) (marks : List Mark) (hints : List Premise) (x : ℕ)
    → (mark_at (propagated clause_of marks hints).marks x ≡ mark_at marks x) ⊎ IsVariableAlong clause_of hints x
propagated-changes clause_of marks [] x = inl refl
propagated-changes clause_of marks (h ∷ hs) x =
    let p = after_clause marks (clause_of h) in
    goes (after-changes marks (clause_of h) x) (propagated-changes clause_of p.marks hs x) p.conflict
  where
    goes : (mark_at (after_clause marks (clause_of h)).marks x ≡ mark_at marks x) ⊎ IsVariableOf (clause_of h) x
        → (mark_at (propagated clause_of (after_clause marks (clause_of h)).marks hs).marks x ≡ mark_at (after_clause marks (clause_of h)).marks x)
        ⊎ IsVariableAlong clause_of hs x
        → (b : Bool) → (mark_at (if b then after_clause marks (clause_of h) else propagated clause_of (after_clause marks (clause_of h)).marks hs).marks x
        ≡ mark_at marks x) ⊎ IsVariableAlong clause_of (h ∷ hs) x
    goes one rest true = ⊎_elim (λ same. inl same) (λ here. inr (inl here)) one
    goes one rest false = ⊎_elim (λ later. ⊎_elim (λ same. inl (later ∙ same)) (λ here. inr (inl here)) one) (λ more. inr (inr more)) rest

-- ---- what is cleared

with-unknown : (marks : List Mark) (y x : ℕ) → mark_at marks x ≡ Unknown → mark_at (with_mark marks y Unknown) x ≡ Unknown
with-unknown marks y x e = ⊎_elim (λ same. same ∙ e) (λ set. set.1) (mark_at-with_mark marks y x Unknown)

unset : (marks : List Mark) (y x : ℕ) → y ≡ x → mark_at (with_mark marks y Unknown) x ≡ Unknown
unset marks y x same = ⊎_elim
    (λ low. subst (λ z. mark_at (with_mark marks y Unknown) z ≡ Unknown) same (get_or-set_same marks y Unknown Unknown low))
    (λ high. let past : length (with_mark marks y Unknown) ≤ x = rw (length-set marks y Unknown) (subst (λ z. length marks ≤ z) same high) in
    get_or_past (with_mark marks y Unknown) x Unknown past)
    (cases_lt y (length marks))

cleared-stays : (marks : List Mark) (clause : List Literal) (x : ℕ) → mark_at marks x ≡ Unknown → mark_at (cleared marks clause) x ≡ Unknown
cleared-stays marks [] x e = e
cleared-stays marks (l ∷ ls) x e = cleared-stays (with_mark marks l.variable Unknown) ls x (with-unknown marks l.variable x e)

cleared-clears : (marks : List Mark) (clause : List Literal) (x : ℕ) → IsVariableIn clause x → mark_at (cleared marks clause) x ≡ Unknown
cleared-clears marks [] x in_clause = absurd in_clause
cleared-clears marks (l ∷ ls) x in_clause = ⊎_elim
    (λ same. cleared-stays (with_mark marks l.variable Unknown) ls x (unset marks l.variable x same))
    (λ later. cleared-clears (with_mark marks l.variable Unknown) ls x later)
    in_clause

cleared_by-stays : (marks : List Mark) (clause : Option (List Literal)) (x : ℕ) → mark_at marks x ≡ Unknown → mark_at (cleared_by marks clause) x ≡ Unknown
cleared_by-stays marks None x e = e
cleared_by-stays marks (Some c) x e = cleared-stays marks c x e

cleared_by-clears : (marks : List Mark) (clause : Option (List Literal)) (x : ℕ) → IsVariableOf clause x → mark_at (cleared_by marks clause) x ≡ Unknown
cleared_by-clears marks None x in_clause = absurd in_clause
cleared_by-clears marks (Some c) x in_clause = cleared-clears marks c x in_clause

cleared_along-stays : (clause_of : Premise → Option (List Literal)) (marks : List Mark) (hints : List Premise) (x : ℕ) → mark_at marks x ≡ Unknown
    → mark_at (cleared_along clause_of marks hints) x ≡ Unknown
cleared_along-stays clause_of marks [] x e = e
cleared_along-stays clause_of marks (h ∷ hs) x e =
    cleared_along-stays clause_of (cleared_by marks (clause_of h)) hs x (cleared_by-stays marks (clause_of h) x e)

cleared_along-clears : (clause_of : Premise → Option (List Literal)) (marks : List Mark) (hints : List Premise) (x : ℕ) → IsVariableAlong clause_of hints x
    → mark_at (cleared_along clause_of marks hints) x ≡ Unknown
cleared_along-clears clause_of marks [] x along = absurd along
cleared_along-clears clause_of marks (h ∷ hs) x along = ⊎_elim
    (λ here. cleared_along-stays clause_of (cleared_by marks (clause_of h)) hs x (cleared_by-clears marks (clause_of h) x here))
    (λ later. cleared_along-clears clause_of (cleared_by marks (clause_of h)) hs x later)
    along

-- ---- all together

length-cleared : (marks : List Mark) (clause : List Literal) → length (cleared marks clause) ≡ length marks
length-cleared marks [] = refl
length-cleared marks (l ∷ ls) = length-cleared (with_mark marks l.variable Unknown) ls ∙ length-set marks l.variable Unknown

length-denied : (marks : List Mark) (clause : List Literal) → length (denied marks clause) ≡ length marks
length-denied marks [] = refl
length-denied marks (l ∷ ls) =
    length-denied (with_mark marks l.variable (truth_mark (not l.positive))) ls ∙ length-set marks l.variable (truth_mark (not l.positive))

length-cleared_along : (clause_of : Premise → Option (List Literal)) (marks : List Mark) (hints : List Premise)
    → length (cleared_along clause_of marks hints) ≡ length marks
length-cleared_along clause_of marks [] = refl
length-cleared_along clause_of marks (h ∷ hs) =
    length-cleared_along clause_of (cleared_by marks (clause_of h)) hs ∙ by (clause_of h)
  where
    by : (c : Option (List Literal)) → length (cleared_by marks c) ≡ length marks
    by None = refl
    by (Some c) = length-cleared marks c

length-after : (marks : List Mark) (clause : Option (List Literal)) → length (after_clause marks clause).marks ≡ length marks
length-after marks None = refl
length-after marks (Some c) = by (clause_state marks c)
  where
    by : (k : ClauseState) → length (after_state marks k).marks ≡ length marks
    by Conflict = refl
    by (Unit l) = length-set marks l.variable (truth_mark l.positive)
    by Open = refl

length-propagated : (clause_of : Premise → Option (List Literal)) (marks : List Mark) (hints : List Premise)
    → length (propagated clause_of marks hints).marks ≡ length marks
length-propagated clause_of marks [] = refl
length-propagated clause_of marks (h ∷ hs) =
    let p = after_clause marks (clause_of h) in
    goes (length-after marks (clause_of h)) (length-propagated clause_of p.marks hs) p.conflict
  where
    goes : length (after_clause marks (clause_of h)).marks ≡ length marks
        → length (propagated clause_of (after_clause marks (clause_of h)).marks hs).marks ≡ length (after_clause marks (clause_of h)).marks
        → (b : Bool) → length (if b then after_clause marks (clause_of h) else propagated clause_of (after_clause marks (clause_of h)).marks hs).marks
        ≡ length marks
    goes one rest true = one
    goes one rest false = rest ∙ one

-- after a propagation and its clearing no mark is set
pub restored : (clause_of : Premise → Option (List Literal)) (marks : List Mark) (clause : List Literal) (hints : List Premise) (n : ℕ)
    → marks ≡ replicate n Unknown
    → cleared_along clause_of (cleared (propagated clause_of (denied marks clause) hints).marks clause) hints ≡ marks
restored clause_of marks clause hints n none =
    let denied_marks = denied marks clause in
    let last = (propagated clause_of denied_marks hints).marks in
    let all = cleared_along clause_of (cleared last clause) hints in
    let unknown = λ (x : ℕ). ⊎_elim
    (λ same. ⊎_elim
    (λ before. cleared_along-stays clause_of (cleared last clause) hints x (cleared-stays last clause x
    (same ∙ before ∙ ap (λ ms. mark_at ms x) none ∙ mark_at-replicate n x)))
    (λ here. cleared_along-stays clause_of (cleared last clause) hints x (cleared-clears last clause x here))
    (denied-changes marks clause x))
    (λ along. cleared_along-clears clause_of (cleared last clause) hints x along)
    (propagated-changes clause_of denied_marks hints x) in
    let len : length all ≡ n = length-cleared_along clause_of (cleared last clause) hints ∙ length-cleared last clause
    ∙ length-propagated clause_of denied_marks hints ∙ length-denied marks clause ∙ ap length none ∙ length-replicate n Unknown in
    none-set all unknown ∙ ap (λ k. replicate k Unknown) len ∙ sym none
