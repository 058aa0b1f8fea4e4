-- Inner: what the rules on names say of the names that pieces assign and test.
use Rattle.std.proofs.Common.{◌≡◌, ℕ, ◌+◌, ◌<◌, Bool, true, false, not, List, [], ◌∷◌, ◌++◌, length, map, refl, sym, ◌∙◌, ap, Option, Some, None}
use Rattle.std.specs.Prelude.{flat_map, if◌then◌else◌}
use Rattle.std.proofs.lemmas.Bool.{or_parts, not-false}
use Rattle.std.proofs.lemmas.List.{append-nil}
use Rattle.csub_text.specs.Grammar.{begins_input}
use Rattle.csub_text.specs.Names.{names_in}
use Rattle.csub_text.specs.Trees.{Assign}
use Rattle.net_ir.proofs.Exports.{found-low}
use Rattle.csub_run.proofs.Exports.{among-back}
use Rattle.csub_guard.specs.Names.{Outside, Half, Use, Put, Taken, Tested, used_name, written_uses, piece_uses, all_uses, first_breaking}
use Rattle.csub_guard.specs.Names.{declared, is_undeclared, undeclared, assigned_again, unset, NameFault, Twice, Undeclared, Again, Unset, fault_by}
use Rattle.csub_guard.specs.Trees.{Piece, One, If, Program}
use Rattle.net_ir.specs.NameLists.{is_among, first_again}
use Rattle.run_steps.specs.Slots.{slot_in}
use Rattle.csub_guard_run.specs.Plans.{AreLow, AllTargets}
use Rattle.csub_guard_run.specs.Runners.{KeepsNames}

fault-none : (fault : List ℕ → NameFault) (found : Option (List ℕ)) (later : Option NameFault) → fault_by fault found later ≡ None →
    (found ≡ None) × (later ≡ None)
fault-none fault None later is = (refl, is)
fault-none fault (Some name) later is = cc

abbrev behind_twice : Program → Option NameFault
behind_twice p = fault_by Undeclared (undeclared p) (fault_by Again (assigned_again p) (fault_by Unset (unset p) None))

pub names-once : (p : Program) → KeepsNames p → first_again [] (declared p) ≡ None
names-once p fits = (fault-none Twice (first_again [] (declared p)) (behind_twice p) fits).0

none-undeclared : (p : Program) → KeepsNames p → undeclared p ≡ None
none-undeclared p fits =
    (fault-none Undeclared (undeclared p) (fault_by Again (assigned_again p) (fault_by Unset (unset p) None))
    (fault-none Twice (first_again [] (declared p)) (behind_twice p) fits).1).0

-- ---- where no use is wrong, none of the first ones is, and none of those behind them

abbrev Unbroken : Program → List Use → Type 0
Unbroken p us = (before : List Use) → first_breaking (is_undeclared p) before us ≡ None

same-before : (p : Program) (before other : List Use) (us : List Use)
    → first_breaking (is_undeclared p) before us ≡ first_breaking (is_undeclared p) other us
same-before p before other [] = refl
same-before p before other (u ∷ us) =
    ap (λ b. if b then Some (used_name u) else first_breaking (is_undeclared p) (u ∷ before) us) (same-test u)
    ∙ ap (λ o. if is_undeclared p other u then Some (used_name u) else o) (same-before p (u ∷ before) (u ∷ other) us)
  where
    same-test : (u : Use) → is_undeclared p before u ≡ is_undeclared p other u
    same-test (Put name Outside) = refl
    same-test (Put name (Half block test first)) = refl
    same-test (Taken name place) = refl
    same-test (Tested name) = refl

first-fits : (p : Program) (u : Use) (us : List Use) → Unbroken p (u ∷ us) → (is_undeclared p [] u ≡ false) × Unbroken p us
first-fits p u us none = go (is_undeclared p [] u) refl (none [])
  where
    go : (b : Bool) → is_undeclared p [] u ≡ b → (if b then Some (used_name u) else first_breaking (is_undeclared p) (u ∷ []) us) ≡ None
        → (is_undeclared p [] u ≡ false) × Unbroken p us
    go true is found = cc
    go false is found = (is, λ before. same-before p before (u ∷ []) us ∙ found)

parts-fit : (p : Program) (us vs : List Use) → Unbroken p (us ++ vs) → Unbroken p us × Unbroken p vs
parts-fit p [] vs none = (λ before. refl, none)
parts-fit p (u ∷ us) vs none =
    let first = first-fits p u (us ++ vs) none in
    let more = parts-fit p us vs first.1 in
    (λ before. go before (is_undeclared p before u) (same-before p before [] (u ∷ []) ∙ alone first.0) refl (more.0 (u ∷ before)), more.1)
  where
    alone : is_undeclared p [] u ≡ false → first_breaking (is_undeclared p) [] (u ∷ []) ≡ None
    alone is = ap (λ b. if b then Some (used_name u) else None) is

    go : (before : List Use) (b : Bool) → (if is_undeclared p before u then Some (used_name u) else None) ≡ None → is_undeclared p before u ≡ b
        → first_breaking (is_undeclared p) (u ∷ before) us ≡ None
        → first_breaking (is_undeclared p) before (u ∷ us) ≡ None
    go before true found is none =
        let e : Some (used_name u) ≡ None = sym (ap (λ b. if b then Some (used_name u) else None) is) ∙ found in cc
    go before false found is none = ap (λ b. if b then Some (used_name u) else first_breaking (is_undeclared p) (u ∷ before) us) is ∙ none

-- ---- names that are declared have slots

local-low : (p : Program) (name : List ℕ) → is_among name p.locals ≡ true → slot_in (declared p) name < length (declared p)
local-low p name among = found-low name (declared p) (among-back name (map (λ s. s.name) p.states ++ p.globals) p.locals among)

half-low : (p : Program) (block : ℕ) (test : List ℕ) (first : Bool) (assigns : List Assign)
    → Unbroken p (flat_map (written_uses (Half block test first)) assigns) → AreLow (declared p) assigns
half-low p block test first [] none = tt
half-low p block test first (a ∷ assigns) none =
    let parts = parts-fit p (written_uses (Half block test first) a) (flat_map (written_uses (Half block test first)) assigns) none in
    let put = first-fits p (Put a.target (Half block test first)) (map (λ n. Taken n (Half block test first)) (names_in a.value)) parts.0 in
    (local-low p a.target (not-false (is_among a.target p.locals) put.0), half-low p block test first assigns parts.1)

end-none : (p : Program) (before us : List Use) → Unbroken p us → first_breaking (is_undeclared p) before (us ++ []) ≡ None
end-none p before us none = ap (first_breaking (is_undeclared p) before) (append-nil us) ∙ none before

pieces-low : (p : Program) (k : ℕ) (pieces : List Piece) (rest : List Use) → Unbroken p (piece_uses written_uses k pieces ++ rest)
    → AllTargets (declared p) pieces
pieces-low p k [] rest none = tt
pieces-low p k (One a ∷ pieces) rest none =
    let all = parts-fit p (written_uses Outside a ++ piece_uses written_uses (k + 1) pieces) rest none in
    let parts = parts-fit p (written_uses Outside a) (piece_uses written_uses (k + 1) pieces) all.0 in
    let put = first-fits p (Put a.target Outside) (map (λ n. Taken n Outside) (names_in a.value)) parts.0 in
    let known = not-false (is_among a.target (declared p)) (or_parts (begins_input a.target) (not (is_among a.target (declared p))) put.0).1 in
    (found-low a.target (declared p) known, pieces-low p (k + 1) pieces [] (λ before. end-none p before (piece_uses written_uses (k + 1) pieces) parts.1))
pieces-low p k (If test first second ∷ pieces) rest none =
    let f = flat_map (written_uses (Half k test true)) first in
    let s = flat_map (written_uses (Half k test false)) second in
    let more = piece_uses written_uses (k + 1) pieces in
    let all = parts-fit p (((Tested test ∷ f) ++ s) ++ more) rest none in
    let block = parts-fit p ((Tested test ∷ f) ++ s) more all.0 in
    let halves = parts-fit p (Tested test ∷ f) s block.0 in
    let tested = first-fits p (Tested test) f halves.0 in (
      (local-low p test (not-false (is_among test p.locals) tested.0), half-low p k test true first tested.1, half-low p k test false second halves.1),
      pieces-low p (k + 1) pieces [] (λ before. end-none p before more block.1),
    )

pub targets-fit : (p : Program) → KeepsNames p → AllTargets (declared p) p.body
targets-fit p fits =
    pieces-low p 0 p.body (map (λ n. Taken n Outside) (names_in p.answer))
    (λ before. same-before p before [] (all_uses written_uses p) ∙ none-undeclared p fits)
