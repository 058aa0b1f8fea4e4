-- Steps of what a `run` leads to.
use Rattle.std.proofs.Common.{◌≡◌, ℕ, ◌<◌, Bool, true, false, not, ◌&&◌, cond, List, ◌∷◌, length, get_or, drop, suc, refl, ap, sym, ◌∙◌, Some, None, Err}
use Rattle.std.proofs.Common.{drop-cons, is_some}
use Rattle.std.specs.Prelude.{if◌then◌else◌, find, position, slice_get, nat_lt}
use Rattle.std.specs.List.{position_or_len}
use Rattle.std.proofs.lemmas.List.Folds.{find_at}
use Rattle.std.proofs.lemmas.List.Quantifiers.{position-Some}
use Rattle.std.proofs.lemmas.Option.{slice_get-get_or, slice_get_past}
use Rattle.std.proofs.lemmas.Bool.{ltb-false}
use Rattle.base_types.specs.Names.{is_same_name}
use Rattle.est_ast.specs.declared.trees.Rename.{Rename}
use Rattle.est_ast.specs.Trees.{Module, SourceProgram}
use Rattle.est_names.specs.Names.{is_among, place_of}
use Rattle.est_names.specs.NameFaults.{module_names}
use Rattle.est_names.proofs.Exports.{position-map}
use Rattle.est_expand.specs.Faults.{BadRename}
use Rattle.est_expand.specs.Scopes.{NameScope, meaning, Formal}
use Rattle.est_expand.specs.Runs.{formal_names, renamed}
use Rattle.est_expand.specs.Tests.{signal_of}
use Rattle.est_expand.specs.Walks.{on_ok}

-- ---- renamings

pub renamed-refused : (formals : List Formal) (scope given : NameScope) (renames : List Rename) (i : ℕ) (rename : Rename)
    → i < length renames
    → rename ≡ get_or renames i rename
    → (is_among rename.formal.text (formal_names formals) && not (is_some (meaning given rename.formal.text))) ≡ false
    → renamed formals scope given (drop i renames) ≡ Err (BadRename rename.formal.span)
renamed-refused formals scope given renames i rename low is refused =
    ap (renamed formals scope given) (drop-cons renames i rename low ∙ ap (λ r. r ∷ drop (suc i) renames) (sym is))
    ∙ ap (λ b. if b then on_ok (signal_of scope rename.actual) (λ actual. renamed formals scope ((rename.formal.text, actual) ∷ given) (drop (suc i) renames))
    else Err (BadRename rename.formal.span)) refused

pub renamed-allowed : (formals : List Formal) (scope given : NameScope) (renames : List Rename) (i : ℕ) (rename : Rename)
    → i < length renames
    → rename ≡ get_or renames i rename
    → (is_among rename.formal.text (formal_names formals) && not (is_some (meaning given rename.formal.text))) ≡ true
    → renamed formals scope given (drop i renames)
    ≡ on_ok (signal_of scope rename.actual) (λ actual. renamed formals scope ((rename.formal.text, actual) ∷ given) (drop (suc i) renames))
renamed-allowed formals scope given renames i rename low is allowed =
    ap (renamed formals scope given) (drop-cons renames i rename low ∙ ap (λ r. r ∷ drop (suc i) renames) (sym is))
    ∙ ap (λ b. if b then on_ok (signal_of scope rename.actual) (λ actual. renamed formals scope ((rename.formal.text, actual) ∷ given) (drop (suc i) renames))
    else Err (BadRename rename.formal.span)) allowed

-- ---- modules by their names

-- what stands at the first place, and that nothing does
position-find : {X : Type 0} (p : X → Bool) (xs : List X) (b : Bool) → nat_lt (position_or_len p xs) (length xs) ≡ b
    → (k : ℕ) → cond b (Some (position_or_len p xs)) None ≡ Some k → find p xs ≡ slice_get xs k
position-find p xs true is k found =
    let at : position_or_len p xs ≡ k = cc in
    find_at p xs ∙ ap (slice_get xs) at
position-find p xs false is k found = absurd (cc)

pub find-Some : {X : Type 0} (p : X → Bool) (xs : List X) (k : ℕ) (d : X) → position p xs ≡ Some k → find p xs ≡ Some (get_or xs k d)
find-Some p xs k d found =
    position-find p xs (nat_lt (position_or_len p xs) (length xs)) refl k found
    ∙ slice_get-get_or xs k d (position-Some p xs k d found).0

position-none : {X : Type 0} (p : X → Bool) (xs : List X) (b : Bool) → nat_lt (position_or_len p xs) (length xs) ≡ b
    → cond b (Some (position_or_len p xs)) None ≡ None → find p xs ≡ None
position-none p xs true is none = absurd (cc)
position-none p xs false is none = find_at p xs ∙ slice_get_past xs (position_or_len p xs) (ltb-false (position_or_len p xs) (length xs) is)

pub find-None : {X : Type 0} (p : X → Bool) (xs : List X) → position p xs ≡ None → find p xs ≡ None
find-None p xs none = position-none p xs (nat_lt (position_or_len p xs) (length xs)) refl none

-- the module of a name, and that there is none
pub module-Some : (modules : SourceProgram) (name : List ℕ) (k : ℕ) (d : Module) → place_of name (module_names modules) ≡ Some k
    → (k < length modules) × (find (λ m. is_same_name name m.name.text) modules ≡ Some (get_or modules k d))
module-Some modules name k d found =
    let at = sym (position-map (is_same_name name) (λ (m : Module). m.name.text) modules) ∙ found in
    ((position-Some (λ m. is_same_name name m.name.text) modules k d at).0, find-Some (λ m. is_same_name name m.name.text) modules k d at)

pub module-None : (modules : SourceProgram) (name : List ℕ) → place_of name (module_names modules) ≡ None
    → find (λ m. is_same_name name m.name.text) modules ≡ None
module-None modules name none =
    find-None (λ m. is_same_name name m.name.text) modules (sym (position-map (is_same_name name) (λ m. m.name.text) modules) ∙ none)
