-- Inner: the first use that breaks a rule.
use Rattle.std.proofs.Common.{◌≡◌, ℕ, ◌+◌, ◌<◌, Bool, true, false, not, ◌&&◌, ◌||◌, List, [], ◌∷◌, ◌++◌, length, map, take, get_or, refl, sym, ◌∙◌, ap}
use Rattle.std.proofs.Common.{Option, Some, None, arith}
use Rattle.std.specs.Option.{option_map}
use Rattle.std.specs.Prelude.{find, flat_map, if◌then◌else◌}
use Rattle.std.specs.List.{list_any}
use Rattle.std.proofs.lemmas.List.{append_assoc, length-map, length-take-le, map-append, take_more}
use Rattle.csub_text.specs.Grammar.{begins_input}
use Rattle.csub_text.specs.Trees.{Assign}
use Rattle.csub_guard.specs.Names.{Place, Outside, Half, Use, Put, Taken, Tested, used_name, piece_uses, first_breaking}
use Rattle.csub_guard.specs.Names.{declared, is_undeclared, is_again, is_unset, is_put_elsewhere, is_set}
use Rattle.csub_guard.specs.Trees.{Piece, One, If, Program}
use Rattle.csub_guard.specs.Views.{piece_of}
use Rattle.csub_guard.proofs.Exports.{uses-append}
use Rattle.csub_guard.specs.declared.trees.Piece.{Piece as CodePiece}
use Rattle.net_expressions.specs.Names.{or_else}
use Rattle.net_ir.specs.NameLists.{is_among}
use Rattle.csub_guard_read.specs.Tables.{again_by, unset_by, first_of}
use Rattle.csub_guard_read.specs.Undeclared.{wrong_use}

-- one piece more
pub uses-next : (uses : Place → Assign → List Use) (body : List CodePiece) (k : ℕ) (x : CodePiece) → k < length body → x ≡ get_or body k x
    → piece_uses uses 0 (map piece_of (take k body)) ++ piece_uses uses k (piece_of x ∷ []) ≡ piece_uses uses 0 (map piece_of (take (k + 1) body))
uses-next uses body k x low at =
    let some = map piece_of (take k body) in
    let wide = length-map (take k body) piece_of in
    let short = length-take-le k body (omega (arith, low)) in
    let e : 0 + length some ≡ k = omega (arith, wide, short) in
    sym (ap (λ l. piece_uses uses 0 (map piece_of l)) (take_more body k x low ∙ ap (λ y. take k body ++ y ∷ []) (sym at))
    ∙ ap (piece_uses uses 0) (map-append piece_of (take k body) (x ∷ [])) ∙ uses-append uses 0 some (piece_of x ∷ [])
    ∙ ap (λ n. piece_uses uses 0 some ++ piece_uses uses n (piece_of x ∷ [])) e)

-- ---- names that are not declared

abbrev pub name_found : Option Use → Option (List ℕ)
name_found = option_map used_name

wrong-is : (p : Program) (known local : List ℕ → Bool) → ((n : List ℕ) → known n ≡ is_among n (declared p))
    → ((n : List ℕ) → local n ≡ is_among n p.locals) → (before : List Use) (u : Use) → wrong_use known local u ≡ is_undeclared p before u
wrong-is p known local same own before (Put name Outside) = ap (λ b. begins_input name || not b) (same name)
wrong-is p known local same own before (Put name (Half block test first)) = ap not (own name)
wrong-is p known local same own before (Taken name place) = ap not (same name)
wrong-is p known local same own before (Tested name) = ap not (own name)

pub wrong-found : (p : Program) (known local : List ℕ → Bool) → ((n : List ℕ) → known n ≡ is_among n (declared p))
    → ((n : List ℕ) → local n ≡ is_among n p.locals) → (before us : List Use)
    → name_found (find (wrong_use known local) us) ≡ first_breaking (is_undeclared p) before us
wrong-found p known local same own before [] = refl
wrong-found p known local same own before (u ∷ us) =
    go (wrong_use known local u) (wrong-found p known local same own (u ∷ before) us)
    ∙ ap (λ b. if b then Some (used_name u) else first_breaking (is_undeclared p) (u ∷ before) us) (wrong-is p known local same own before u)
  where
    go : (b : Bool) → name_found (find (wrong_use known local) us) ≡ first_breaking (is_undeclared p) (u ∷ before) us
        → name_found (if b then Some u else find (wrong_use known local) us)
        ≡ (if b then Some (used_name u) else first_breaking (is_undeclared p) (u ∷ before) us)
    go true is = refl
    go false is = is

-- ---- rules that ask for the uses before

breaking-same : (f g : List Use → Use → Bool) → ((before : List Use) (u : Use) → f before u ≡ g before u) → (before us : List Use)
    → first_breaking f before us ≡ first_breaking g before us
breaking-same f g same before [] = refl
breaking-same f g same before (u ∷ us) =
    ap (λ b. if b then Some (used_name u) else first_breaking f (u ∷ before) us) (same before u)
    ∙ ap (λ o. if g before u then Some (used_name u) else o) (breaking-same f g same (u ∷ before) us)

pub again-same : (p : Program) (local : List ℕ → Bool) → ((n : List ℕ) → local n ≡ is_among n p.locals) → (us : List Use)
    → first_breaking (again_by local) [] us ≡ first_breaking (is_again p) [] us
again-same p local same us = breaking-same (again_by local) (is_again p) each [] us
  where
    each : (before : List Use) (u : Use) → again_by local before u ≡ is_again p before u
    each before (Put name place) = ap (λ b. b && list_any (is_put_elsewhere name place) before) (same name)
    each before (Taken name place) = refl
    each before (Tested name) = refl

pub unset-same : (p : Program) (local : List ℕ → Bool) → ((n : List ℕ) → local n ≡ is_among n p.locals) → (us : List Use)
    → first_breaking (unset_by local) [] us ≡ first_breaking (is_unset p) [] us
unset-same p local same us = breaking-same (unset_by local) (is_unset p) each [] us
  where
    each : (before : List Use) (u : Use) → unset_by local before u ≡ is_unset p before u
    each before (Put name place) = refl
    each before (Taken name place) = ap (λ b. b && not (is_set name place before)) (same name)
    each before (Tested name) = refl

-- ---- use by use

-- the uses in the other order
abbrev pub turned : List Use → List Use → List Use
turned [] before = before
turned (u ∷ us) before = turned us (u ∷ before)

pub turned-more : (us before : List Use) (u : Use) → turned (us ++ u ∷ []) before ≡ u ∷ turned us before
turned-more [] before u = refl
turned-more (v ∷ us) before u = turned-more us (v ∷ before) u

-- a use that breaks the rule, and one that does not
pub breaking-here : (f : List Use → Use → Bool) (before : List Use) (u : Use) (us : List Use) → f before u ≡ true
    → first_breaking f before (u ∷ us) ≡ Some (used_name u)
breaking-here f before u us is = ap (λ b. if b then Some (used_name u) else first_breaking f (u ∷ before) us) is

pub breaking-later : (f : List Use → Use → Bool) (before : List Use) (u : Use) (us : List Use) → f before u ≡ false
    → first_breaking f before (u ∷ us) ≡ first_breaking f (u ∷ before) us
breaking-later f before u us is = ap (λ b. if b then Some (used_name u) else first_breaking f (u ∷ before) us) is

-- the first one of those so far, or of the others
pub breaking-next : (f : List Use → Use → Bool) (before : List Use) (u : Use) (us : List Use) (found : Option (List ℕ))
    → or_else found (first_breaking f before (u ∷ us)) ≡ or_else (first_of found (f before u) u) (first_breaking f (u ∷ before) us)
breaking-next f before u us (Some name) = refl
breaking-next f before u us None = go (f before u)
  where
    go : (b : Bool) → (if b then Some (used_name u) else first_breaking f (u ∷ before) us)
        ≡ or_else (if b then Some (used_name u) else None) (first_breaking f (u ∷ before) us)
    go true = refl
    go false = refl
