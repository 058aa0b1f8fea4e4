-- Inner: names that are declared once, kind by kind.
use Rattle.std.proofs.Common.{◌≡◌, ℕ, zero, suc, ◌+◌, ◌≤◌, ◌||◌, ◌&&◌, not, Bool, true, false, cond, List, [], ◌∷◌, ◌++◌, map, refl, ap, sym, ◌∙◌, arith}
use Rattle.std.proofs.Common.{append_assoc}
use Rattle.std.specs.Prelude.{flat_map, if◌then◌else◌}
use Rattle.std.specs.Cmp.Lexicographic.{nat_list_eq_equiv}
use Rattle.std.proofs.lemmas.List.{map-append, append-nil}
use Rattle.std.proofs.lemmas.Slice.Eq.{bytes_eq-Decides}
use Rattle.base_types.specs.Names.{is_same_name}
use Rattle.base_types.specs.Distinct.{all_differ}
use Rattle.est_ast.specs.declared.trees.Name.{Name}
use Rattle.est_ast.specs.Trees.{Decl, Input, InputOutput, Output, Relations}
use Rattle.est_names.specs.declared.refusal.NameFault.TheVariants.{DuplicateSignal}
use Rattle.est_names.specs.Names.{texts, is_among}
use Rattle.est_names.specs.NameFaults.{again, declared_in, related_in, not_given, decl_faults}
use Rattle.est_names.proofs.Exports.{nothing_before}
use Rattle.est_expand.specs.Scopes.{inputs_in, both_in, outputs_in}

-- how often a name stands in a list
abbrev copies : List ℕ → List (List ℕ) → ℕ
copies name [] = 0
copies name (n ∷ names) = (if is_same_name name n then 1 else 0) + copies name names

copies-append : (name : List ℕ) (xs ys : List (List ℕ)) → copies name (xs ++ ys) ≡ copies name xs + copies name ys
copies-append name [] ys = omega arith
copies-append name (x ∷ xs) ys = omega (arith, copies-append name xs ys)

-- a name without copies is not among them, and the other way round
absent : (name : List ℕ) (names : List (List ℕ)) → copies name names ≡ 0 → is_among name names ≡ false
absent name [] none = refl
absent name (n ∷ names) none = by (is_same_name name n) refl none (absent name names)
  where
    by : (b : Bool) → is_same_name name n ≡ b → (if b then 1 else 0) + copies name names ≡ 0 → (copies name names ≡ 0 → is_among name names ≡ false)
        → (is_same_name name n || is_among name names) ≡ false
    by true is none others = absurd (omega (arith, none))
    by false is none others = ap (λ b. b || is_among name names) is ∙ others (omega (arith, none))

no_copies : (name : List ℕ) (names : List (List ℕ)) → is_among name names ≡ false → copies name names ≡ 0
no_copies name [] out = refl
no_copies name (n ∷ names) out = by (is_same_name name n) out (no_copies name names)
  where
    by : (b : Bool) → (b || is_among name names) ≡ false → (is_among name names ≡ false → copies name names ≡ 0) → (if b then 1 else 0) + copies name names ≡ 0
    by true out others = absurd (cc)
    by false out others = omega (arith, others out)

abbrev AtMostOnce : List (List ℕ) → Type 0
AtMostOnce names = (name : List ℕ) → copies name names ≤ 1

-- names that stand once at most all differ
pub all_differ-once : (names : List (List ℕ)) → AtMostOnce names → all_differ is_same_name names ≡ true
all_differ-once [] once = refl
all_differ-once (n ∷ names) once =
    let here = ap (λ b. (if b then 1 else 0) + copies n names) (nat_list_eq_equiv.refl n) in
    let out = absent n names (omega (arith, once n, here)) in
    ap (λ b. not b && all_differ is_same_name names) out ∙ all_differ-once names (λ name. omega (arith, once name))

-- ---- declarations

-- one more name, which is none of those before
once_more : (before : List (List ℕ)) (new : List ℕ) → is_among new before ≡ false → AtMostOnce before → AtMostOnce (before ++ new ∷ [])
once_more before new out once name = by (is_same_name name new) refl
  where
    by : (b : Bool) → is_same_name name new ≡ b → copies name (before ++ new ∷ []) ≤ 1
    by true is =
        let same = (bytes_eq-Decides name new).0 is in
        omega (arith, copies-append name before (new ∷ []), ap (λ b. (if b then 1 else 0) + 0) is, no_copies new before out, ap (λ n. copies n before) same)
    by false is = omega (arith, copies-append name before (new ∷ []), ap (λ b. (if b then 1 else 0) + 0) is, once name)

once_again : (before : List (List ℕ)) (names : List Name) → again DuplicateSignal before names ≡ [] → AtMostOnce before → AtMostOnce (before ++ texts names)
once_again before [] none once = λ name. omega (arith, ap (copies name) (append-nil before), once name)
once_again before (n ∷ names) none once =
    let parts = nothing_before (if is_among n.text before then DuplicateSignal n.span ∷ [] else [])
    (again DuplicateSignal (before ++ n.text ∷ []) names) none in
    let others = once_again (before ++ n.text ∷ []) names parts.1 (once_more before n.text (by (is_among n.text before) parts.0) once) in
    λ name. omega (arith, others name, ap (copies name) (append_assoc before (n.text ∷ []) (texts names)))
  where
    by : (b : Bool) → (if b then DuplicateSignal n.span ∷ [] else []) ≡ [] → b ≡ false
    by true none = absurd (cc)
    by false none = refl

-- the names that declarations declare, in the order of the text
abbrev all_declared : List Decl → List (List ℕ)
all_declared decls = flat_map (λ d. texts (declared_in d)) decls

once_declared : (given before : List (List ℕ)) (decls : List Decl) → decl_faults given before decls ≡ [] → AtMostOnce before →
    AtMostOnce (before ++ all_declared decls)
once_declared given before [] none once = λ name. omega (arith, ap (copies name) (append-nil before), once name)
once_declared given before (d ∷ decls) none once =
    let parts = nothing_before (again DuplicateSignal before (declared_in d))
    (not_given given (related_in d) ++ decl_faults given (before ++ texts (declared_in d)) decls) none in
    let behind = nothing_before (not_given given (related_in d)) (decl_faults given (before ++ texts (declared_in d)) decls) parts.1 in
    let others = once_declared given (before ++ texts (declared_in d)) decls behind.1 (once_again before (declared_in d) parts.0 once) in
    λ name. omega (arith, others name, ap (copies name) (append_assoc before (texts (declared_in d)) (all_declared decls)))

-- kind by kind there are as many copies
copies-kinds : (name : List ℕ) (decls : List Decl)
    → copies name (all_declared decls) ≡ copies name (flat_map inputs_in decls)
    + (copies name (flat_map both_in decls) + copies name (flat_map outputs_in decls))
copies-kinds name [] = refl
copies-kinds name (Input names ∷ decls) =
    omega (arith, copies-append name (texts names) (all_declared decls), copies-append name (texts names) (flat_map inputs_in decls), copies-kinds name decls)
copies-kinds name (InputOutput names ∷ decls) =
    omega (arith, copies-append name (texts names) (all_declared decls), copies-append name (texts names) (flat_map both_in decls), copies-kinds name decls)
copies-kinds name (Output names ∷ decls) =
    omega (arith, copies-append name (texts names) (all_declared decls), copies-append name (texts names) (flat_map outputs_in decls), copies-kinds name decls)
copies-kinds name (Relations relations ∷ decls) = copies-kinds name decls

-- where declarations have no fault, all names of an interface differ
pub interface-differs : (given : List (List ℕ)) (decls : List Decl) → decl_faults given [] decls ≡ []
    → all_differ is_same_name (flat_map inputs_in decls ++ (flat_map both_in decls ++ flat_map outputs_in decls)) ≡ true
interface-differs given decls none =
    all_differ-once (flat_map inputs_in decls ++ (flat_map both_in decls ++ flat_map outputs_in decls)) (λ name. omega (
      arith,
      once_declared given [] decls none (λ n. omega arith) name,
      copies-kinds name decls,
      copies-append name (flat_map inputs_in decls) (flat_map both_in decls ++ flat_map outputs_in decls),
      copies-append name (flat_map both_in decls) (flat_map outputs_in decls),
    ))
