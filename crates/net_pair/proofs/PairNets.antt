-- The netlist of a pair, and what it keeps.
use Rattle.std.proofs.Common.{◌≡◌, ◌<◌, ◌≤◌, ◌+◌, ◌*◌, ◌^◌, ℕ, zero, suc, Bool, false, true, List, [], ◌∷◌, ◌++◌, length, map, refl, sym, ap, ◌∙◌, subst, arith}
use Rattle.std.proofs.Common.{All, None}
use Rattle.std.proofs.Common.{codes, nat_eq, IsTrue}
use Rattle.std.specs.Option.{option_map}
use Rattle.std.proofs.lemmas.List.{length-append, length-map}
use Rattle.std.proofs.lemmas.List.Elements.{All-append, filter_map-append}
use Rattle.base_types.specs.Distinct.{all_differ}
use Rattle.base_types.specs.Names.{is_name}
use Rattle.base_types.specs.declared.indices.WireId.{WireId}
use Rattle.net_ir.specs.declared.netlist.Gate.{Gate}
use Rattle.net_ir.specs.declared.netlist.Latch.{Latch}
use Rattle.net_ir.specs.declared.netlist.NetOut.{NetOut}
use Rattle.net_ir.specs.declared.netlist.Op.TheVariants.{Const}
use Rattle.net_ir.specs.Gates.{ReadsLower, carried}
use Rattle.net_ir.specs.Netlists.{IsNet, Netlist, first_gate, net_count}
use Rattle.net_ir.specs.Runs.{initial_latches, shown, values_from}
use Rattle.net_simp.specs.Renaming.{renamed_latch}
use Rattle.net_pair.specs.Pairs.{IsPair, pair_count}
use Rattle.net_pair.specs.Layout.{both_nets, compared_nets, compared_outputs, comparisons, different_net, false_net, left_net, left_shift}
use Rattle.net_pair.specs.Layout.{moved_gate, own_gates, pair_gates, pair_net, right_net, right_shift, silent_gate}
use Rattle.net_pair.specs.declared.comparing.Both.{Both}
use Rattle.net_pair.proofs.MovedGates.{ReadsLower-moved, moved-below, reads-both}
use Rattle.net_pair.proofs.Differences.{comparisons-read, length-comparisons, length-pairs}
use Rattle.net_pair.proofs.Instants.{begun, runs-together}

-- ---- no gate carries a wire

moved-silent : (f : ℕ → ℕ) (gates : List Gate) → carried (map (moved_gate f) gates) ≡ []
moved-silent f [] = refl
moved-silent f (g ∷ gates) = moved-silent f gates

comparisons-silent : (last : ℕ) (pairs : List Both) → carried (comparisons last pairs) ≡ []
comparisons-silent last [] = refl
comparisons-silent last (b ∷ pairs) = comparisons-silent (last + 5) pairs

pair-silent : (a b : Netlist) → carried (pair_gates a b) ≡ []
pair-silent a b =
    let A = map (moved_gate (left_net a b)) a.gates in
    let B = map (moved_gate (right_net a b)) b.gates in
    let C = silent_gate (Const false) ∷ [] in
    let pairs = compared_nets (left_net a b) (right_net a b) a b in
    let wire_of = λ (g : Gate). option_map (λ (w : WireId). w.0) g.wire in
    filter_map-append wire_of ((A ++ B) ++ C) (comparisons (false_net a b) pairs)
    ∙ (λ i. filter_map-append wire_of (A ++ B) C i ++ comparisons-silent (false_net a b) pairs i)
    ∙ (λ i. (filter_map-append wire_of A B i ++ []) ++ [])
    ∙ (λ i. ((moved-silent (left_net a b) a.gates i ++ moved-silent (right_net a b) b.gates i) ++ []) ++ [])

-- ---- numbers of nets

-- the numbers of latches and of nets
pub length-latches : (a b : Netlist) → length (pair_net a b).latches ≡ length a.latches + length b.latches
length-latches a b =
    omega (
      arith,
      length-append (map (renamed_latch (left_net a b)) a.latches) (map (renamed_latch (right_net a b)) b.latches),
      length-map a.latches (renamed_latch (left_net a b)),
      length-map b.latches (renamed_latch (right_net a b)),
    )

length-own : (a b : Netlist) → length (own_gates a b) ≡ length a.gates + length b.gates
length-own a b =
    let A = map (moved_gate (left_net a b)) a.gates in
    let B = map (moved_gate (right_net a b)) b.gates in
    omega (arith, length-append A B, length-map a.gates (moved_gate (left_net a b)), length-map b.gates (moved_gate (right_net a b)))

length-gates : (a b : Netlist) → length a.outputs ≡ length b.outputs
    → length (pair_gates a b) ≡ length a.gates + length b.gates + 1 + 5 * (length a.outputs + 1)
length-gates a b same =
    let C = silent_gate (Const false) ∷ [] in
    let pairs = compared_nets (left_net a b) (right_net a b) a b in
    let D = comparisons (false_net a b) pairs in
    let own = length-own a b in
    let with-false = length-append (own_gates a b) C in
    let with-all = length-append (own_gates a b ++ C) D in
    let compares = length-comparisons (false_net a b) pairs in
    let count = length-pairs (left_net a b) (right_net a b) a b same in
    omega arith

pub count-pair : (a b : Netlist) → length a.outputs ≡ length b.outputs → net_count (pair_net a b) ≡ pair_count a b
count-pair a b same =
    let gates = length-gates a b same in
    let latches = length-latches a b in
    omega arith

-- where the nets of the netlists are
left-below : (a b : Netlist) (n : ℕ) → n < net_count a → left_net a b n < false_net a b
left-below a b n low = let m = moved-below (left_shift a b) n (omega arith) in omega arith

right-below : (a b : Netlist) (n : ℕ) → length a.inputs ≡ length b.inputs → n < net_count b → right_net a b n < false_net a b
right-below a b n same low = let m = moved-below (right_shift a b) n (omega arith) in omega arith

-- ---- what the gates read

compared-low : (f g : ℕ → ℕ) (start first second : ℕ) (os ps : List NetOut) → ((n : ℕ) → n < first → f n < start) → ((n : ℕ) → n < second → g n < start)
    → All (λ o. o.net.0 < first) os → All (λ o. o.net.0 < second) ps
    → All (λ (b : Both). b.left.0 < start) (compared_outputs f g os ps) × All (λ (b : Both). b.right.0 < start) (compared_outputs f g os ps)
compared-low f g start first second [] ps to-f to-g low low' = (λ k d h. absurd (omega arith), λ k d h. absurd (omega arith))
compared-low f g start first second (o ∷ os) [] to-f to-g low low' = (λ k d h. absurd (omega arith), λ k d h. absurd (omega arith))
compared-low f g start first second (o ∷ os) (p ∷ ps) to-f to-g low low' =
    let more = compared-low f g start first second os ps to-f to-g (λ k d h. low (suc k) d (omega arith)) (λ k d h. low' (suc k) d (omega arith)) in
    let l = to-f o.net.0 (low 0 o (omega arith)) in
    let r = to-g p.net.0 (low' 0 p (omega arith)) in
    (at-left more.0 l, at-right more.1 r)
  where
    at-left : All (λ (b : Both). b.left.0 < start) (compared_outputs f g os ps) → f o.net.0 < start
        → All (λ (b : Both). b.left.0 < start) (both_nets (f o.net.0) (g p.net.0) ∷ compared_outputs f g os ps)
    at-left more here zero d h = here
    at-left more here (suc k) d h = more k d (omega arith)

    at-right : All (λ (b : Both). b.right.0 < start) (compared_outputs f g os ps) → g p.net.0 < start
        → All (λ (b : Both). b.right.0 < start) (both_nets (f o.net.0) (g p.net.0) ∷ compared_outputs f g os ps)
    at-right more here zero d h = here
    at-right more here (suc k) d h = more k d (omega arith)

one-low : {X : Type 0} (P : X → Type 0) (x : X) → P x → All P (x ∷ [])
one-low P x p zero d h = p
one-low P x p (suc k) d h = absurd (omega arith)

pub pair-reads : (a b : Netlist) → IsNet a → IsNet b → length a.inputs ≡ length b.inputs → ReadsLower (first_gate (pair_net a b)) (pair_gates a b)
pair-reads a b is-a is-b same-inputs =
    let first = first_gate (pair_net a b) in
    let A = map (moved_gate (left_net a b)) a.gates in
    let B = map (moved_gate (right_net a b)) b.gates in
    let C = silent_gate (Const false) ∷ [] in
    let pairs = compared_nets (left_net a b) (right_net a b) a b in
    let D = comparisons (false_net a b) pairs in
    let latches = length-latches a b in
    let own = length-own a b in
    let len-A = length-map a.gates (moved_gate (left_net a b)) in
    let with-false = length-append (A ++ B) C in
    let os = compared_outputs (left_net a b) (right_net a b) a.outputs b.outputs in
    let paused = both_nets (left_net a b a.paused) (right_net a b b.paused) in
    let start = false_net a b + 1 in
    let low-a : (n : ℕ) → n < net_count a → left_net a b n < start = λ n h. let l = left-below a b n h in omega arith in
    let low-b : (n : ℕ) → n < net_count b → right_net a b n < start = λ n h. let r = right-below a b n same-inputs h in omega arith in
    let low = compared-low (left_net a b) (right_net a b) start (net_count a) (net_count b) a.outputs b.outputs low-a low-b
    is-a.outputs_in_range is-b.outputs_in_range in
    let lefts = All-append (λ (c : Both). c.left.0 < start) os (paused ∷ []) low.0
    (one-low (λ (c : Both). c.left.0 < start) paused (low-a a.paused is-a.paused_in_range)) in
    let rights = All-append (λ (c : Both). c.right.0 < start) os (paused ∷ []) low.1
    (one-low (λ (c : Both). c.right.0 < start) paused (low-b b.paused is-b.paused_in_range)) in
    let reads-A = ReadsLower-moved (left_net a b) (first_gate a) first a.gates is-a.reads_lower
    (λ k n h. let m = moved-below (left_shift a b) n (omega arith) in omega arith) in
    let reads-B = ReadsLower-moved (right_net a b) (first_gate b) (first + length A) b.gates is-b.reads_lower
    (λ k n h. let m = moved-below (right_shift a b) n (omega arith) in omega arith) in
    let reads-D = comparisons-read start (false_net a b) pairs refl lefts rights in
    let at : start ≡ first + length ((A ++ B) ++ C) = omega arith in
    let nothing = no-reads (first + length (A ++ B)) in
    reads-both first start ((A ++ B) ++ C) D at
    (reads-both first (first + length (A ++ B)) (A ++ B) C refl (reads-both first (first + length A) A B refl reads-A reads-B) nothing)
    reads-D
  where
    no-reads : (n : ℕ) → ReadsLower n (silent_gate (Const false) ∷ [])
    no-reads n zero d h = omega arith
    no-reads n (suc k) d h = absurd (omega arith)

-- ---- the netlist

moved-latches : (f : ℕ → ℕ) (end to : ℕ) (latches : List Latch) → All (λ l. l.from.0 < end) latches → ((n : ℕ) → n < end → f n < to)
    → All (λ (l : Latch). l.from.0 < to) (map (renamed_latch f) latches)
moved-latches f end to [] low below = λ k d h. absurd (omega arith)
moved-latches f end to (l ∷ latches) low below = at (moved-latches f end to latches (λ k d h. low (suc k) d (omega arith)) below)
  where
    at : All (λ (x : Latch). x.from.0 < to) (map (renamed_latch f) latches) → All (λ (x : Latch). x.from.0 < to) (map (renamed_latch f) (l ∷ latches))
    at more zero d h = below l.from.0 (low 0 l (omega arith))
    at more (suc k) d h = more k d (omega arith)

pub pair-is_net : (a b : Netlist) → IsNet a → IsNet b → length a.inputs ≡ length b.inputs → length a.outputs ≡ length b.outputs
    → pair_count a b ≤ 2 ^ 32 → IsNet (pair_net a b)
pair-is_net a b is-a is-b same-inputs same-outputs few =
    let count = count-pair a b same-outputs in
    let total = net_count (pair_net a b) in
    let different : different_net a b < total = omega arith in record {
      name_fits = is-a.name_fits;
      input_names_fit = is-a.input_names_fit;
      output_names_fit = one-low (λ (o : NetOut). IsTrue (is_name o.name)) (record { name = codes "DIFFERENT"; net = record { 0 = different_net a b } }) refl;
      inputs_differ = is-a.inputs_differ;
      outputs_differ = refl;
      numbered = omega arith;
      outputs_in_range = one-low (λ (o : NetOut). o.net.0 < total) (record { name = codes "DIFFERENT"; net = record { 0 = different_net a b } }) different;
      paused_in_range = different;
      latches_in_range = All-append (λ (l : Latch). l.from.0 < total) (map (renamed_latch (left_net a b)) a.latches)
          (map (renamed_latch (right_net a b)) b.latches)
          (moved-latches (left_net a b) (net_count a) total a.latches is-a.latches_in_range (λ n h. let l = left-below a b n h in omega arith))
          (moved-latches (right_net a b) (net_count b) total b.latches is-b.latches_in_range
          (λ n h. let r = right-below a b n same-inputs h in omega arith));
      reads_lower = pair-reads a b is-a is-b same-inputs;
      carries_once = ap (all_differ nat_eq) (pair-silent a b);
    }

pub pair-is_pair : (a b : Netlist) → IsNet a → IsNet b → length a.inputs ≡ length b.inputs → length a.outputs ≡ length b.outputs → IsPair a b (pair_net a b)
pair-is_pair a b is-a is-b same-inputs same-outputs = record {
  inputs = refl;
  outputs = refl;
  runs = λ items fits.
      let P = pair_net a b in
      ap (λ l. map (shown P) (values_from P l items)) (begun a b)
      ∙ runs-together a b is-a is-b (pair-reads a b is-a is-b same-inputs) same-inputs same-outputs (initial_latches a) (initial_latches b)
      (length-map a.latches (λ (l : Latch). l.init)) (length-map b.latches (λ (l : Latch). l.init)) items fits;
}
