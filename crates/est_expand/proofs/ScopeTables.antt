-- The table of a scope, where a name is bound and where its binder is taken away.
use Rattle.std.proofs.Common.{◌≡◌, ℕ, Bool, true, false, cond, List, [], ◌∷◌, ◌++◌, reverse, refl, ap, sym, ◌∙◌, Option, Some}
use Rattle.std.specs.Prelude.{if◌then◌else◌}
use Rattle.std.specs.Cmp.Lexicographic.{nat_list_eq_equiv}
use Rattle.std.proofs.lemmas.List.{reverse-append}
use Rattle.std.proofs.lemmas.Slice.Eq.{bytes_eq-Decides}
use Rattle.base_types.specs.Names.{is_same_name}
use Rattle.est_expand.specs.declared.scope.Meaning.{Meaning}
use Rattle.est_expand.specs.Scopes.{NameScope, meaning}

pub reverse-push : {A : Type 0} (xs : List A) (x : A) → reverse (xs ++ x ∷ []) ≡ x ∷ reverse xs
reverse-push xs x = reverse-append xs (x ∷ [])

-- a name is bound
pub meaning-bound : (found : List ℕ → Option Meaning) (scope : NameScope) (name : List ℕ) (m : Meaning)
    → ((n : List ℕ) → found n ≡ meaning scope n)
    → (n : List ℕ) → cond (is_same_name name n) (Some m) (found n) ≡ meaning ((name, m) ∷ scope) n
meaning-bound found scope name m kept n =
    ap (λ b. cond b (Some m) (found n)) (nat_list_eq_equiv.symm name n) ∙ ap (cond (is_same_name n name) (Some m)) (kept n)

-- its binder is taken away
pub meaning-unbound : (found : List ℕ → Option Meaning) (scope : NameScope) (name : List ℕ) (m : Meaning) (hidden : Option Meaning)
    → ((n : List ℕ) → found n ≡ meaning ((name, m) ∷ scope) n)
    → hidden ≡ meaning scope name
    → (n : List ℕ) → cond (is_same_name name n) hidden (found n) ≡ meaning scope n
meaning-unbound found scope name m hidden kept hides n = by (is_same_name name n) refl
  where
    by : (b : Bool) → is_same_name name n ≡ b → cond (is_same_name name n) hidden (found n) ≡ meaning scope n
    by true is = ap (λ b. cond b hidden (found n)) is ∙ hides ∙ ap (meaning scope) ((bytes_eq-Decides name n).0 is)
    by false is =
        ap (λ b. cond b hidden (found n)) is ∙ kept n
        ∙ ap (λ b. if b then Some m else meaning scope n) (sym (nat_list_eq_equiv.symm name n) ∙ is)
