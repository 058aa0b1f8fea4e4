-- What differences say of two netlists.
use Rattle.std.proofs.Common.{◌≡◌, ℕ, suc, Bool, true, false, ◌||◌, List, [], ◌∷◌, ◌++◌, length, map, refl, sym, ap, ◌∙◌, arith}
use Rattle.std.proofs.lemmas.Bool.{true≢false}
use Rattle.std.proofs.lemmas.List.{length-append, length-map}
use Rattle.std.specs.List.{AllByRecursion}
use Rattle.base_types.specs.Items.{Item, Event, Reset}
use Rattle.net_ir.specs.declared.netlist.NetOut.{NetOut}
use Rattle.net_ir.specs.Gates.{value_in}
use Rattle.net_ir.specs.Netlists.{Netlist}
use Rattle.net_ir.specs.Runs.{Shown, initial_latches, net_run, net_values, next_latches, shown, values_from}
use Rattle.net_pair.specs.Pairs.{any_differ, differences, is_different, is_one}

-- ---- values

any-before : (before : Bool) (xs ys : List Bool) → any_differ before xs ys ≡ false → before ≡ false
any-before before [] ys none = none
any-before before (x ∷ xs) [] none = none
any-before true (x ∷ xs) (y ∷ ys) none = any-before true xs ys none
any-before false (x ∷ xs) (y ∷ ys) none = refl

same-one : (x y : Bool) → is_one x y ≡ false → x ≡ y
same-one true true e = refl
same-one false false e = refl
same-one true false e = e
same-one false true e = sym e

one-same : (before x : Bool) → (before || is_one x x) ≡ before
one-same true x = refl
one-same false true = refl
one-same false false = refl

any-same : (xs ys : List Bool) → length xs ≡ length ys → any_differ false xs ys ≡ false → xs ≡ ys
any-same [] [] e none = refl
any-same [] (y ∷ ys) e none = absurd (omega arith)
any-same (x ∷ xs) [] e none = absurd (omega arith)
any-same (x ∷ xs) (y ∷ ys) e none =
    let apart = any-before (is_one x y) xs ys none in
    let here = same-one x y apart in
    let rest = any-same xs ys (omega arith) (ap (λ b. any_differ b xs ys) (sym apart) ∙ none) in
    λ i. here i ∷ rest i

any-itself : (before : Bool) (xs : List Bool) → any_differ before xs xs ≡ before
any-itself before [] = refl
any-itself before (x ∷ xs) = any-itself (before || is_one x x) xs ∙ one-same before x

-- ---- instants

-- what differs is not the same
pub different-apart : (s t : Shown) → is_different s t ≡ true → s ≡ t → ⊥
different-apart s t is same = true≢false (sym is ∙ ap (λ x. is_different s x) (sym same) ∙ any-itself false (s.outputs ++ s.paused ∷ []))

head-of : (xs ys : List Bool) (x y : Bool) → length xs ≡ length ys → xs ++ x ∷ [] ≡ ys ++ y ∷ [] → (xs ≡ ys) × (x ≡ y)
head-of [] [] x y e same = (refl, cc)
head-of [] (b ∷ ys) x y e same = absurd (omega arith)
head-of (a ∷ xs) [] x y e same = absurd (omega arith)
head-of (a ∷ xs) (b ∷ ys) x y e same =
    let first : a ≡ b = cc in
    let others : xs ++ x ∷ [] ≡ ys ++ y ∷ [] = cc in
    let rest = head-of xs ys x y (omega arith) others in
    (λ i. first i ∷ rest.0 i, rest.1)

shown-same : (s t : Shown) → length s.outputs ≡ length t.outputs → is_different s t ≡ false → s ≡ t
shown-same s t wide none =
    let all = any-same (s.outputs ++ s.paused ∷ []) (t.outputs ++ t.paused ∷ [])
    (omega (arith, length-append s.outputs (s.paused ∷ []), length-append t.outputs (t.paused ∷ []))) none in
    let parts = head-of s.outputs t.outputs s.paused t.paused wide all in
    λ i. record { outputs = parts.0 i; paused = parts.1 i }

-- ---- runs

pub length-runs : (a b : Netlist) (s t : List Bool) (items : List Item) → length (values_from a s items) ≡ length (values_from b t items)
length-runs a b s t [] = refl
length-runs a b s t (Event inputs ∷ items) =
    ap suc (length-runs a b (next_latches a (net_values a s inputs)) (next_latches b (net_values b t inputs)) items)
length-runs a b s t (Reset ∷ items) = length-runs a b (initial_latches a) (initial_latches b) items

each-same : (a b : Netlist) → length a.outputs ≡ length b.outputs → (us vs : List (List Bool)) → length us ≡ length vs
    → AllByRecursion (λ d. d ≡ false) (differences (map (shown a) us) (map (shown b) vs)) → map (shown a) us ≡ map (shown b) vs
each-same a b wide [] [] e none = refl
each-same a b wide [] (v ∷ vs) e none = absurd (omega arith)
each-same a b wide (u ∷ us) [] e none = absurd (omega arith)
each-same a b wide (u ∷ us) (v ∷ vs) e none =
    let lengths : length (shown a u).outputs ≡ length (shown b v).outputs =
    length-map a.outputs (λ (o : NetOut). value_in u o.net.0) ∙ wide ∙ sym (length-map b.outputs (λ (o : NetOut). value_in v o.net.0)) in
    let here = shown-same (shown a u) (shown b v) lengths none.0 in
    let rest = each-same a b wide us vs (omega arith) none.1 in
    λ i. here i ∷ rest i

-- netlists that differ in no instant show the same
pub runs-same : (a b : Netlist) → length a.outputs ≡ length b.outputs → (items : List Item)
    → AllByRecursion (λ d. d ≡ false) (differences (net_run a items) (net_run b items)) → net_run a items ≡ net_run b items
runs-same a b wide items none =
    each-same a b wide (values_from a (initial_latches a) items) (values_from b (initial_latches b) items)
    (length-runs a b (initial_latches a) (initial_latches b) items) none
