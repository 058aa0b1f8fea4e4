-- The values of a pair in an instant, and its runs.
use Rattle.std.proofs.Common.{◌≡◌, ◌<◌, ◌≤◌, ◌+◌, ◌*◌, ◌-◌, ℕ, zero, suc, Bool, false, List, [], ◌∷◌, ◌++◌, length, map, get_or, refl, sym, ap, ◌∙◌, subst}
use Rattle.std.proofs.Common.{arith}
use Rattle.std.proofs.Common.{All, ⊎_elim}
use Rattle.std.proofs.lemmas.Bool.{cases_lt}
use Rattle.std.proofs.lemmas.List.{get_or_append_left, get_or-append_right, length-append, length-map, map-append}
use Rattle.base_types.specs.Items.{Item, Event, Reset, EachEvent}
use Rattle.net_ir.specs.declared.netlist.Gate.{Gate}
use Rattle.net_ir.specs.declared.netlist.Latch.{Latch}
use Rattle.net_ir.specs.declared.netlist.NetOut.{NetOut}
use Rattle.net_ir.specs.declared.netlist.Op.TheVariants.{Const}
use Rattle.net_ir.specs.Gates.{ReadsLower, Solves, gate_values, op_value, value_in}
use Rattle.net_ir.specs.Netlists.{IsNet, Netlist, first_gate, net_count}
use Rattle.net_ir.specs.Runs.{Shown, initial_latches, net_run, net_values, next_latches, shown, values_from}
use Rattle.net_ir.proofs.Exports.{Solves-gate_values, any_gate, length-next, value_in-gate_values}
use Rattle.net_simp.specs.Renaming.{renamed_latch}
use Rattle.net_pair.specs.Pairs.{FitsInputs, any_differ, differences, is_different, shown_difference}
use Rattle.net_pair.specs.Layout.{both_nets, compared_nets, compared_outputs, comparisons, different_net, false_net, left_net, left_shift, moved}
use Rattle.net_pair.specs.Layout.{moved_gate, own_gates, pair_gates, pair_net, right_net, right_shift, silent_gate}
use Rattle.net_pair.specs.declared.comparing.Both.{Both}
use Rattle.net_pair.specs.declared.moving.Shift.{Shift}
use Rattle.net_pair.proofs.MovedGates.{Solves-left, Solves-right, moved-equations, moved-gate, moved-input, moved-latch, moved-values}
use Rattle.net_pair.proofs.Differences.{compared, compared-left, compared-right, length-pairs}

-- ---- nets of latches, and their next values

next-moved : (f : ℕ → ℕ) (v u : List Bool) (end : ℕ) (latches : List Latch) → All (λ l. l.from.0 < end) latches
    → ((n : ℕ) → n < end → value_in v (f n) ≡ value_in u n)
    → map (λ l. value_in v l.from.0) (map (renamed_latch f) latches) ≡ map (λ l. value_in u l.from.0) latches
next-moved f v u end [] low same = refl
next-moved f v u end (l ∷ latches) low same =
    let here = same l.from.0 (low 0 l (omega arith)) in
    let rest = next-moved f v u end latches (λ k d h. low (suc k) d (omega arith)) same in
    λ i. here i ∷ rest i

init-moved : (f : ℕ → ℕ) (latches : List Latch) → map (λ l. l.init) (map (renamed_latch f) latches) ≡ map (λ l. l.init) latches
init-moved f [] = refl
init-moved f (l ∷ latches) = ap (λ x. l.init ∷ x) (init-moved f latches)

-- ---- the inputs and the latches

-- what is given before the gates
given : (inputs s t : List Bool) (gates : List Gate) (n : ℕ) → n < length (inputs ++ (s ++ t))
    → value_in (gate_values (inputs ++ (s ++ t)) gates) n ≡ get_or (inputs ++ (s ++ t)) n false
given inputs s t gates n low = value_in-gate_values (inputs ++ (s ++ t)) gates n low

low-left : (a b : Netlist) (inputs s t : List Bool) (gates : List Gate) → length inputs ≡ length a.inputs → length s ≡ length a.latches
    → (n : ℕ) → n < first_gate a
    → value_in (gate_values (inputs ++ (s ++ t)) gates) (left_net a b n) ≡ value_in (gate_values (inputs ++ s) a.gates) n
low-left a b inputs s t gates wide long n low =
    let own : value_in (gate_values (inputs ++ s) a.gates) n ≡ get_or (inputs ++ s) n false =
    value_in-gate_values (inputs ++ s) a.gates n (omega (arith, length-append inputs s)) in
    ⊎_elim
    (λ input.
    ap (value_in (gate_values (inputs ++ (s ++ t)) gates)) (moved-input (left_shift a b) n input)
    ∙ given inputs s t gates n (omega (arith, length-append inputs (s ++ t)))
    ∙ get_or_append_left inputs (s ++ t) false n (omega arith)
    ∙ sym (get_or_append_left inputs s false n (omega arith)) ∙ sym own)
    (λ latch.
    let to : left_net a b n ≡ n = let m = moved-latch (left_shift a b) n latch low in omega arith in
    ap (value_in (gate_values (inputs ++ (s ++ t)) gates)) to
    ∙ given inputs s t gates n (omega (arith, length-append inputs (s ++ t), length-append s t))
    ∙ get_or-append_right inputs (s ++ t) (length inputs) n false refl (omega arith)
    ∙ get_or_append_left s t false (n - length inputs) (omega arith)
    ∙ sym (get_or-append_right inputs s (length inputs) n false refl (omega arith)) ∙ sym own)
    (cases_lt n (length a.inputs))

low-right : (a b : Netlist) (inputs s t : List Bool) (gates : List Gate) → length inputs ≡ length b.inputs → length s ≡ length a.latches
    → length t ≡ length b.latches → (n : ℕ) → n < first_gate b
    → value_in (gate_values (inputs ++ (s ++ t)) gates) (right_net a b n) ≡ value_in (gate_values (inputs ++ t) b.gates) n
low-right a b inputs s t gates wide long longer n low =
    let own : value_in (gate_values (inputs ++ t) b.gates) n ≡ get_or (inputs ++ t) n false =
    value_in-gate_values (inputs ++ t) b.gates n (omega (arith, length-append inputs t)) in
    ⊎_elim
    (λ input.
    ap (value_in (gate_values (inputs ++ (s ++ t)) gates)) (moved-input (right_shift a b) n input)
    ∙ given inputs s t gates n (omega (arith, length-append inputs (s ++ t)))
    ∙ get_or_append_left inputs (s ++ t) false n (omega arith)
    ∙ sym (get_or_append_left inputs t false n (omega arith)) ∙ sym own)
    (λ latch.
    let m : ℕ = n + length a.latches in
    let at : m - length inputs - length s ≡ n - length inputs = omega arith in
    ap (value_in (gate_values (inputs ++ (s ++ t)) gates)) (moved-latch (right_shift a b) n latch low)
    ∙ given inputs s t gates m (omega (arith, length-append inputs (s ++ t), length-append s t))
    ∙ get_or-append_right inputs (s ++ t) (length inputs) m false refl (omega arith)
    ∙ get_or-append_right s t (length s) (m - length inputs) false refl (omega arith)
    ∙ ap (λ k. get_or t k false) at
    ∙ sym (get_or-append_right inputs t (length inputs) n false refl (omega arith)) ∙ sym own)
    (cases_lt n (length b.inputs))

-- ---- all nets

-- what two netlists share with their pair in an instant
pub record Together (a b : Netlist) (inputs s t : List Bool) : Type 0 where
  pub left : (n : ℕ) → n < net_count a → value_in (net_values (pair_net a b) (s ++ t) inputs) (left_net a b n) ≡ value_in (net_values a s inputs) n
  pub right : (n : ℕ) → n < net_count b → value_in (net_values (pair_net a b) (s ++ t) inputs) (right_net a b n) ≡ value_in (net_values b t inputs) n
  pub shows : shown (pair_net a b) (net_values (pair_net a b) (s ++ t) inputs)
      ≡ shown_difference (is_different (shown a (net_values a s inputs)) (shown b (net_values b t inputs)))

together : (a b : Netlist) (inputs s t : List Bool) → IsNet a → IsNet b → ReadsLower (first_gate (pair_net a b)) (pair_gates a b)
    → length a.inputs ≡ length b.inputs → length a.outputs ≡ length b.outputs
    → length inputs ≡ length a.inputs → length s ≡ length a.latches → length t ≡ length b.latches → Together a b inputs s t
together a b inputs s t is-a is-b reads same-inputs same-outputs wide long longer =
    let P = pair_net a b in
    let v = net_values P (s ++ t) inputs in
    let ua = net_values a s inputs in
    let ub = net_values b t inputs in
    let A = map (moved_gate (left_net a b)) a.gates in
    let B = map (moved_gate (right_net a b)) b.gates in
    let C = silent_gate (Const false) ∷ [] in
    let pairs = compared_nets (left_net a b) (right_net a b) a b in
    let D = comparisons (false_net a b) pairs in
    let first = first_gate P in
    let latches : length P.latches ≡ length a.latches + length b.latches =
    omega (
      arith,
      length-append (map (renamed_latch (left_net a b)) a.latches) (map (renamed_latch (right_net a b)) b.latches),
      length-map a.latches (renamed_latch (left_net a b)),
      length-map b.latches (renamed_latch (right_net a b)),
    ) in
    let len-A = length-map a.gates (moved_gate (left_net a b)) in
    let len-B = length-map b.gates (moved_gate (right_net a b)) in
    let len-AB = length-append A B in
    let len-ABC = length-append (A ++ B) C in
    let solved = Solves-gate_values first (inputs ++ (s ++ t)) (pair_gates a b)
    (omega (arith, length-append inputs (s ++ t), length-append s t)) reads in
    let solved-ABC = Solves-left first ((A ++ B) ++ C) D v solved in
    let solved-AB = Solves-left first (A ++ B) C v solved-ABC in
    let solved-A = Solves-left first A B v solved-AB in
    let to-b : ℕ = first + length A in
    let solved-B = Solves-right first to-b A B v refl solved-AB in
    let solved-C = Solves-right first (false_net a b) (A ++ B) C v (omega arith) solved-ABC in
    let solved-D = Solves-right first (false_net a b + 1) ((A ++ B) ++ C) D v (omega arith) solved in
    let on-left = λ (n : ℕ) (h : n < net_count a). moved-values (left_net a b) ua v (first_gate a) a.gates is-a.reads_lower
    (Solves-gate_values (first_gate a) (inputs ++ s) a.gates (omega (arith, length-append inputs s)) is-a.reads_lower)
    (low-left a b inputs s t (pair_gates a b) wide long)
    (moved-equations (left_net a b) (first_gate a) first a.gates v solved-A
    (λ k h. let m = moved-gate (left_shift a b) (first_gate a + k) (omega arith) (omega arith) in omega arith))
    (suc n) n (omega arith) h in
    let on-right = λ (n : ℕ) (h : n < net_count b). moved-values (right_net a b) ub v (first_gate b) b.gates is-b.reads_lower
    (Solves-gate_values (first_gate b) (inputs ++ t) b.gates (omega (arith, length-append inputs t)) is-b.reads_lower)
    (low-right a b inputs s t (pair_gates a b) (omega arith) long longer)
    (moved-equations (right_net a b) (first_gate b) to-b b.gates v solved-B
    (λ k h. let m = moved-gate (right_shift a b) (first_gate b + k) (omega arith) (omega arith) in omega arith))
    (suc n) n (omega arith) h in
    let os = compared_outputs (left_net a b) (right_net a b) a.outputs b.outputs in
    let last = both_nets (left_net a b a.paused) (right_net a b b.paused) ∷ [] in
    let count = length-pairs (left_net a b) (right_net a b) a b same-outputs in
    let at : different_net a b ≡ false_net a b + 5 * length pairs = omega arith in
    let zero-at : false_net a b ≡ false_net a b + 0 = omega arith in
    let false-here : value_in v (false_net a b) ≡ false = ap (value_in v) zero-at ∙ solved-C 0 any_gate (omega arith) in
    let lefts : map (λ (c : Both). value_in v c.left.0) pairs ≡ map (λ (o : NetOut). value_in ua o.net.0) a.outputs ++ value_in ua a.paused ∷ [] =
    map-append (λ (c : Both). value_in v c.left.0) os last
    ∙ (λ i. compared-left (left_net a b) (right_net a b) v ua (net_count a) a.outputs b.outputs same-outputs is-a.outputs_in_range on-left i
    ++ on-left a.paused is-a.paused_in_range i ∷ []) in
    let rights : map (λ (c : Both). value_in v c.right.0) pairs ≡ map (λ (o : NetOut). value_in ub o.net.0) b.outputs ++ value_in ub b.paused ∷ [] =
    map-append (λ (c : Both). value_in v c.right.0) os last
    ∙ (λ i. compared-right (left_net a b) (right_net a b) v ub (net_count b) a.outputs b.outputs same-outputs is-b.outputs_in_range on-right i
    ++ on-right b.paused is-b.paused_in_range i ∷ []) in
    record {
      left = on-left;
      right = on-right;
      shows = ap shown_difference (ap (value_in v) at ∙ compared v (false_net a b) pairs solved-D
          ∙ (λ i. any_differ (false-here i) (lefts i) (rights i)));
    }

-- ---- over items

pub begun : (a b : Netlist) → initial_latches (pair_net a b) ≡ initial_latches a ++ initial_latches b
begun a b =
    map-append (λ (l : Latch). l.init) (map (renamed_latch (left_net a b)) a.latches) (map (renamed_latch (right_net a b)) b.latches)
    ∙ (λ i. init-moved (left_net a b) a.latches i ++ init-moved (right_net a b) b.latches i)

pub runs-together : (a b : Netlist) → IsNet a → IsNet b → ReadsLower (first_gate (pair_net a b)) (pair_gates a b)
    → length a.inputs ≡ length b.inputs → length a.outputs ≡ length b.outputs
    → (s t : List Bool) → length s ≡ length a.latches → length t ≡ length b.latches → (items : List Item) → EachEvent (FitsInputs a) items
    → map (shown (pair_net a b)) (values_from (pair_net a b) (s ++ t) items)
    ≡ map shown_difference (differences (map (shown a) (values_from a s items)) (map (shown b) (values_from b t items)))
runs-together a b is-a is-b reads same-inputs same-outputs s t long longer [] fits = refl
runs-together a b is-a is-b reads same-inputs same-outputs s t long longer (Event inputs ∷ items) fits =
    let P = pair_net a b in
    let v = net_values P (s ++ t) inputs in
    let ua = net_values a s inputs in
    let ub = net_values b t inputs in
    let now = together a b inputs s t is-a is-b reads same-inputs same-outputs fits.0 long longer in
    let next : next_latches P v ≡ next_latches a ua ++ next_latches b ub =
    map-append (λ (l : Latch). value_in v l.from.0) (map (renamed_latch (left_net a b)) a.latches) (map (renamed_latch (right_net a b)) b.latches)
    ∙ (λ i. next-moved (left_net a b) v ua (net_count a) a.latches is-a.latches_in_range now.left i
    ++ next-moved (right_net a b) v ub (net_count b) b.latches is-b.latches_in_range now.right i) in
    let rest = runs-together a b is-a is-b reads same-inputs same-outputs (next_latches a ua) (next_latches b ub) (length-next a ua) (length-next b ub)
    items fits.1 in
    let others = ap (λ l. map (shown P) (values_from P l items)) next ∙ rest in
    λ i. now.shows i ∷ others i
runs-together a b is-a is-b reads same-inputs same-outputs s t long longer (Reset ∷ items) fits =
    let P = pair_net a b in
    ap (λ l. map (shown P) (values_from P l items)) (begun a b)
    ∙ runs-together a b is-a is-b reads same-inputs same-outputs (initial_latches a) (initial_latches b)
    (length-map a.latches (λ (l : Latch). l.init)) (length-map b.latches (λ (l : Latch). l.init)) items fits
