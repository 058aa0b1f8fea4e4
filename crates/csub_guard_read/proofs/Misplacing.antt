-- Inner: the loop that looks for misplaced locals.
use Rattle.std.proofs.Common.{◌≡◌, ℕ, ◌+◌, ◌<◌, ◌≤◌, Bool, true, false, List, [], ◌∷◌, ◌++◌, length, map, take, drop, get_or, refl, sym, ◌∙◌, ap}
use Rattle.std.proofs.Common.{Option, Some, None, subst, Result, Ok, Err}
use Rattle.std.specs.Prelude.{IfOk}
use Rattle.std.proofs.lemmas.List.{take_more, map-append, drop_all, get_or_default}
use Rattle.base_facts.proofs.Lists.{drop-at}
use Rattle.csub_guard.specs.Names.{Use, used_name, first_breaking, all_uses, made_uses, is_again, is_unset, assigned_again, unset}
use Rattle.csub_guard.specs.Trees.{Program}
use Rattle.net_expressions.specs.NameTables.{name_told}
use Rattle.net_ir.specs.NameLists.{is_among}
use Rattle.net_expressions.specs.Names.{or_else}
use Rattle.csub_guard_read.specs.Tables.{Puts, again_in, unset_in, noted, again_by, unset_by, first_of}
use Rattle.csub_guard_read.specs.Uses.{use_of}
use Rattle.csub_guard_read.specs.declared.uses.Use.{Use as CodeUse}
use Rattle.csub_guard_read.proofs.PutPlaces.{Knows, knows-none, knows-more, again-is, unset-is}
use Rattle.csub_guard_read.specs.declared.places.Misplaced.{Misplaced}
use Rattle.csub_guard_read.proofs.UseLaws.{again-same, unset-same, turned, turned-more, breaking-here, breaking-later, breaking-next}

-- the uses before a place, the last one first, and those from there on
abbrev before : List CodeUse → ℕ → List Use
before us i = turned (map use_of (take i us)) []

abbrev left : List CodeUse → ℕ → List Use
left us i = map use_of (drop i us)

-- no local was assigned again so far, the table knows where names were assigned, and the first that was read too early is found
pub record SoFar (local : List ℕ → Bool) (puts : List ℕ → Option Puts) (found : Option (List ℕ)) (us : List CodeUse) (i : ℕ) : Type 0 where
  pub again : first_breaking (again_by local) [] (map use_of us) ≡ first_breaking (again_by local) (before us i) (left us i)
  pub unset : first_breaking (unset_by local) [] (map use_of us) ≡ or_else found (first_breaking (unset_by local) (before us i) (left us i))
  pub knows : Knows local puts (before us i)

pub so_far-none : (local : List ℕ → Bool) (puts : List ℕ → Option Puts) (us : List CodeUse) → ((n : List ℕ) → puts n ≡ None)
    → SoFar local puts None us 0
so_far-none local puts us none = record { again = refl; unset = refl; knows = knows-none local puts none }

before-more : (us : List CodeUse) (i : ℕ) (x : CodeUse) → i < length us → x ≡ get_or us i x → before us (i + 1) ≡ use_of x ∷ before us i
before-more us i x low at =
    ap (λ l. turned (map use_of l) []) (take_more us i x low ∙ ap (λ y. take i us ++ y ∷ []) (sym at))
    ∙ ap (λ l. turned l []) (map-append use_of (take i us) (x ∷ [])) ∙ turned-more (map use_of (take i us)) [] (use_of x)

left-now : (us : List CodeUse) (i : ℕ) (x : CodeUse) → i < length us → x ≡ get_or us i x → left us i ≡ use_of x ∷ left us (i + 1)
left-now us i x low at = ap (map use_of) (drop-at us i x low at)

module _ (local : List ℕ → Bool) (old : List ℕ → Option Puts) (found : Option (List ℕ)) (us : List CodeUse) (i : ℕ) (d : CodeUse)
    (low : i < length us) (so : SoFar local old found us i) where
  abbrev x : CodeUse
  x = get_or us i d

  at : x ≡ get_or us i x
  at = get_or_default us i d x low

  pub so_far-again : again_in local old (use_of x) ≡ true → Some (used_name (use_of x)) ≡ first_breaking (again_by local) [] (map use_of us)
  so_far-again is =
      sym (so.again ∙ ap (first_breaking (again_by local) (before us i)) (left-now us i x low at)
      ∙ breaking-here (again_by local) (before us i) (use_of x) (left us (i + 1)) (sym (again-is local old (before us i) so.knows (use_of x)) ∙ is))

  pub so_far-next : (new : List ℕ → Option Puts) (now : Option (List ℕ)) (early : Bool) → again_in local old (use_of x) ≡ false
      → ((n : List ℕ) → new n ≡ noted old (use_of x) n) → early ≡ unset_in local old (use_of x) → now ≡ first_of found early (use_of x)
      → SoFar local new now us (i + 1)
  so_far-next new now early is are reads told =
      let once : again_by local (before us i) (use_of x) ≡ false = sym (again-is local old (before us i) so.knows (use_of x)) ∙ is in
      let more = before-more us i x low at in
      record {
        again = so.again ∙ ap (first_breaking (again_by local) (before us i)) (left-now us i x low at)
            ∙ breaking-later (again_by local) (before us i) (use_of x) (left us (i + 1)) once
            ∙ ap (λ b. first_breaking (again_by local) b (left us (i + 1))) (sym more);
        unset = so.unset ∙ ap (λ l. or_else found (first_breaking (unset_by local) (before us i) l)) (left-now us i x low at)
            ∙ breaking-next (unset_by local) (before us i) (use_of x) (left us (i + 1)) found
            ∙ ap (λ b. or_else (first_of found b (use_of x)) (first_breaking (unset_by local) (use_of x ∷ before us i) (left us (i + 1))))
            (sym (reads ∙ unset-is local old (before us i) so.knows (use_of x)))
            ∙ ap (λ o. or_else o (first_breaking (unset_by local) (use_of x ∷ before us i) (left us (i + 1)))) (sym told)
            ∙ ap (λ b. or_else now (first_breaking (unset_by local) b (left us (i + 1)))) (sym more);
        knows = subst (Knows local new) (sym more) (knows-more local old new (before us i) (use_of x) so.knows once are);
      }

or-last : (found : Option (List ℕ)) → or_else found None ≡ found
or-last None = refl
or-last (Some name) = refl

module _ (local : List ℕ → Bool) (puts : List ℕ → Option Puts) (found : Option (List ℕ)) (us : List CodeUse) (i : ℕ) (high : length us ≤ i)
    (so : SoFar local puts found us i) where
  none-left : left us i ≡ []
  none-left = ap (map use_of) (drop_all i us high)

  pub so_far-once : None ≡ first_breaking (again_by local) [] (map use_of us)
  so_far-once = sym (so.again ∙ ap (first_breaking (again_by local) (before us i)) none-left)

  pub so_far-found : found ≡ first_breaking (unset_by local) [] (map use_of us)
  so_far-found = sym (so.unset ∙ ap (λ l. or_else found (first_breaking (unset_by local) (before us i) l)) none-left ∙ or-last found)

-- ---- the misplaced locals of a program

pub again-told : {E : Type 0} (p : Program) (local : List ℕ → Bool) (us : List Use) (r : Result Misplaced E) → us ≡ all_uses made_uses p
    → ((n : List ℕ) → local n ≡ is_among n p.locals) → IfOk r (λ m. name_told m.again ≡ first_breaking (again_by local) [] us)
    → IfOk r (λ m. name_told m.again ≡ assigned_again p)
again-told p local us (Ok m) are same told = told ∙ again-same p local same us ∙ ap (first_breaking (is_again p) []) are
again-told p local us (Err e) are same told = told

pub unset-told : {E : Type 0} (p : Program) (local : List ℕ → Bool) (us : List Use) (r : Result Misplaced E) → us ≡ all_uses made_uses p
    → ((n : List ℕ) → local n ≡ is_among n p.locals)
    → IfOk r (λ m. m.again ≡ None → name_told m.unset ≡ first_breaking (unset_by local) [] us)
    → IfOk r (λ m. m.again ≡ None → name_told m.unset ≡ unset p)
unset-told p local us (Ok m) are same told = λ once. told once ∙ unset-same p local same us ∙ ap (first_breaking (is_unset p) []) are
unset-told p local us (Err e) are same told = told
