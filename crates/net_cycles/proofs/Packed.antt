-- A netlist around a drawn circuit, and its check, are nets.
use Rattle.std.proofs.Common.{◌≡◌, ℕ, zero, suc, ◌+◌, ◌<◌, ◌≤◌, true, List, [], ◌∷◌, ◌++◌, length, map, take, slice_index_or, refl, sym, ap, ◌∙◌}
use Rattle.std.proofs.Common.{subst}
use Rattle.std.proofs.Common.{arith, IsTrue, All, nat_eq}
use Rattle.std.specs.List.{range_with_len}
use Rattle.std.proofs.lemmas.Bool.{and_parts}
use Rattle.std.proofs.lemmas.List.{get_or-map, length-append, length-map, length-take-le}
use Rattle.std.proofs.lemmas.List.FromFn.{get_or-range_with_len, length-range_with_len}
use Rattle.std.proofs.lemmas.List.Elements.{All-drop, All-take}
use Rattle.base_types.specs.Distinct.{all_differ}
use Rattle.base_types.specs.Names.{is_name, is_same_name}
use Rattle.base_types.specs.declared.indices.NetId.{NetId}
use Rattle.est_kernel.specs.Plain.{given_count, interface_count, outgoing_names, program_of}
use Rattle.est_kernel.specs.WellFormed.{HasNames}
use Rattle.grc_graph.specs.declared.graph.Graph.{Graph}
use Rattle.grc_formulas.specs.declared.table.Source.TheVariants as sources
use Rattle.grc_formulas.specs.declared.table.Words.{Words}
use Rattle.grc_formulas.specs.WordLaws.{AreWordsOf}
use Rattle.net_gen.specs.Assembled.{boot_latch, leaf_latch}
use Rattle.net_gen.proofs.Exports.{differ-drop, differ-take, given-names, names-fit, outgoing-of}
use Rattle.net_ir.specs.declared.netlist.Latch.{Latch}
use Rattle.net_ir.specs.declared.netlist.NetOut.{NetOut}
use Rattle.net_ir.specs.Gates.{ReadsLower, carried}
use Rattle.net_ir.specs.Netlists.{IsNet, Netlist, first_gate, net_count}
use Rattle.grc_ternary_gates.specs.declared.gates.System.{System}
use Rattle.est_kernel.specs.Statuses.{Status}
use Rattle.net_unroll.specs.declared.growing.Growing.{Growing}
use Rattle.net_unroll.specs.Copies.{next_number}
use Rattle.net_unroll.specs.Rails.{IsAlarm}
use Rattle.net_unroll.specs.Schedules.{are_known, is_known}
use Rattle.net_cycles.specs.declared.drawing.Drawn.{Drawn}
use Rattle.net_cycles.specs.Bases.{source_net}
use Rattle.net_cycles.specs.Drawings.{IsDrawn}
use Rattle.net_cycles.specs.Packings.{CanCheck, IsAroundDrawn, IsCheckAround, IsCheckMade, WatchesAll, alarm_outputs}

module _ (g : Graph) (w : Words) (y : System) (schedule : List ℕ) (d : Drawn) (net : Netlist) (drawn : IsDrawn g w y schedule d)
    (few : interface_count (program_of g.program) ≤ length (program_of g.program).signals) (r : IsAroundDrawn g w d net) where
  inputs-many : length net.inputs ≡ given_count (program_of g.program)
  inputs-many = ap length r.inputs ∙ length-take-le (given_count (program_of g.program)) (program_of g.program).signals (omega arith)

  latches-many : length net.latches ≡ 1 + length g.next.items
  latches-many = ap length r.latches ∙ (let n = length-map d.next.items leaf_latch in let m = drawn.many in omega arith)

  pub first-is : first_gate net ≡ d.gates.first
  first-is =
      let i = inputs-many in
      let l = latches-many in
      let f = drawn.base.first in
      omega arith

  pub count-is : net_count net ≡ next_number d.gates
  count-is =
      let i = first-is in
      let e = ap length r.gates in
      omega arith

  latch-low : (k : ℕ) (l : Latch) → k < length (boot_latch d.base.no ∷ map leaf_latch d.next.items)
      → (slice_index_or (boot_latch d.base.no ∷ map leaf_latch d.next.items) k l).from.0 < next_number d.gates
  latch-low zero l low = drawn.base.no.low
  latch-low (suc k) l low =
      let n = length-map d.next.items leaf_latch in
      let at = get_or-map leaf_latch d.next.items k l.from l (omega arith) in
      subst (λ (x : Latch). x.from.0 < next_number d.gates) (sym at) (drawn.low k l.from (omega arith))

  pub latches-low : All (λ (l : Latch). l.from.0 < net_count net) net.latches
  latches-low = subst (λ n. All (λ (l : Latch). l.from.0 < n) net.latches) (sym count-is)
      (subst (All (λ (l : Latch). l.from.0 < next_number d.gates)) (sym r.latches) latch-low)

  out-low : (words : AreWordsOf g w) (k : ℕ) (o : NetOut) → k < length net.outputs → (slice_index_or net.outputs k o).net.0 < next_number d.gates
  out-low words k o low =
      let N = λ (y : NetOut). y.net in
      let S = source_net d.base d.copies.items d.rows.items in
      let x = sources.Const true in
      let many = length-map net.outputs N in
      let from = length-map w.outputs.items S in
      let here : k < length w.outputs.items = omega (arith, ap length r.output_nets) in
      let is : (slice_index_or net.outputs k o).net ≡ S (slice_index_or w.outputs.items k x) =
      sym (get_or-map N net.outputs k o o.net low) ∙ ap (λ xs. slice_index_or xs k o.net) r.output_nets ∙ get_or-map S w.outputs.items k x o.net here in
      subst (λ (n : NetId). n.0 < next_number d.gates) (sym is) (drawn.reads (slice_index_or w.outputs.items k x) (words.fit.outputs k x here))

  pub is-net : HasNames (program_of g.program) → AreWordsOf g w → IsNet net
  is-net names words =
      let p = program_of g.program in
      let all = count-is in
      let F = λ (n : List ℕ). IsTrue (is_name n) in
      let inputs_fit = subst (All F) (given-names p) (All-take F (given_count p) (take (interface_count p) p.signals) names.interface) in
      let outputs_fit = subst (All F) (outgoing-of p) (All-drop F p.inputs (take (interface_count p) p.signals) names.interface) in
      let inputs_differ = subst (λ xs. IsTrue (all_differ is_same_name xs)) (given-names p)
      (differ-take (given_count p) (take (interface_count p) p.signals) names.differ) in
      let outputs_differ = subst (λ xs. IsTrue (all_differ is_same_name xs)) (outgoing-of p)
      (differ-drop p.inputs (take (interface_count p) p.signals) names.differ) in
      record {
        name_fits = subst F (sym r.name) names.name;
        input_names_fit = subst (All F) (sym r.inputs) inputs_fit;
        output_names_fit = names-fit net.outputs (outgoing_names p) r.outputs outputs_fit;
        inputs_differ = subst (λ xs. IsTrue (all_differ is_same_name xs)) (sym r.inputs) inputs_differ;
        outputs_differ = subst (λ xs. IsTrue (all_differ is_same_name xs)) (sym r.outputs) outputs_differ;
        numbered = let many = drawn.base.growing.numbered in omega arith;
        outputs_in_range = λ k o low. let l = out-low words k o low in omega arith;
        paused_in_range = let l = drawn.reads w.paused words.fit.paused in let e = r.paused in omega arith;
        latches_in_range = latches-low;
        reads_lower = subst (λ n. ReadsLower n net.gates) (sym first-is) (subst (ReadsLower d.gates.first) (sym r.gates) drawn.base.growing.reads);
        carries_once = subst (λ ws. IsTrue (all_differ nat_eq ws)) (sym (ap carried r.gates ∙ drawn.base.silent)) refl;
      }

-- ---- the check

pub check-net : (net check : Netlist) (alarm : NetId) → IsNet net → CanCheck net check.gates alarm.0 → IsCheckMade net check check.gates alarm → IsNet check
check-net net check alarm is can made =
    let first : first_gate check ≡ first_gate net = omega (arith, ap length made.inputs, ap length made.latches) in
    let F = λ (n : List ℕ). IsTrue (is_name n) in
    record {
      name_fits = subst F (sym made.name) is.name_fits;
      input_names_fit = subst (All F) (sym made.inputs) is.input_names_fit;
      output_names_fit = subst (All (λ (o : NetOut). IsTrue (is_name o.name))) (sym made.outputs) (λ k o low. one-name alarm k o low);
      inputs_differ = subst (λ xs. IsTrue (all_differ is_same_name xs)) (sym made.inputs) is.inputs_differ;
      outputs_differ = subst (λ (os : List NetOut). IsTrue (all_differ is_same_name (map (λ (o : NetOut). o.name) os))) (sym made.outputs) refl;
      numbered = omega (arith, first, can.many);
      outputs_in_range = subst (All (λ (o : NetOut). o.net.0 < net_count check)) (sym made.outputs) (λ k o low. one-low net check alarm first can k o low);
      paused_in_range = omega (arith, first, made.paused, can.low);
      latches_in_range = subst (All (λ (l : Latch). l.from.0 < net_count check)) (sym made.latches)
          (λ k l low. let n = is.latches_in_range k l low in omega (arith, first, can.more));
      reads_lower = subst (λ n. ReadsLower n check.gates) (sym first) can.reads;
      carries_once = subst (λ ws. IsTrue (all_differ nat_eq ws)) (sym can.silent) refl;
    }
  where
    one-name : (alarm : NetId) (k : ℕ) (o : NetOut) → k < 1 → IsTrue (is_name (slice_index_or (alarm_outputs alarm) k o).name)
    one-name alarm zero o low = refl
    one-name alarm (suc k) o low = absurd (omega arith)

    one-low : (net check : Netlist) (alarm : NetId) → first_gate check ≡ first_gate net → CanCheck net check.gates alarm.0 → (k : ℕ) (o : NetOut) → k < 1
        → (slice_index_or (alarm_outputs alarm) k o).net.0 < net_count check
    one-low net check alarm first can zero o low = omega (arith, first, can.low)
    one-low net check alarm first can (suc k) o low = absurd (omega arith)

-- ---- all nodes are watched

all-known : (V : ℕ → Status) (first count : ℕ) → are_known V (range_with_len first count) ≡ true → (n : ℕ) → n < count → is_known (V (first + n)) ≡ true
all-known V first zero known n low = absurd (omega arith)
all-known V first (suc count) known zero low =
    ap (λ k. is_known (V k)) (let e : first + zero ≡ first = omega arith in e)
    ∙ (and_parts (is_known (V first)) (are_known V (range_with_len (first + 1) count)) known).0
all-known V first (suc count) known (suc n) low =
    ap (λ k. is_known (V k)) (let e : first + suc n ≡ first + 1 + n = omega arith in e)
    ∙ all-known V (first + 1) count (and_parts (is_known (V first)) (are_known V (range_with_len (first + 1) count)) known).1 n (omega arith)

pub watches-all : (nodes : ℕ) → WatchesAll nodes (range_with_len 0 nodes)
watches-all nodes V known n low =
    ap (λ m. is_known (V m)) (let e : n ≡ 0 + n = omega arith in e) ∙ all-known V 0 nodes known n low

pub nodes-all : (nodes : ℕ) → All (λ n. n < nodes) (range_with_len 0 nodes)
nodes-all nodes k d low =
    let few : k < nodes = omega (arith, low, length-range_with_len 0 nodes) in
    let there : 0 + k < nodes = omega (arith, few) in
    subst (λ n. n < nodes) (sym (get_or-range_with_len 0 nodes k d few)) there

range-more : (first n : ℕ) → range_with_len first (suc n) ≡ range_with_len first n ++ (first + n) ∷ []
range-more first zero = ap (λ m. m ∷ []) (let e : first ≡ first + zero = omega arith in e)
range-more first (suc n) =
    ap (λ l. first ∷ l) (range-more (first + 1) n
    ∙ ap (λ m. range_with_len (first + 1) n ++ m ∷ []) (let e : first + 1 + n ≡ first + suc n = omega arith in e))

pub nodes-more : (n m : ℕ) → m ≡ n + 1 → range_with_len 0 m ≡ range_with_len 0 n ++ n ∷ []
nodes-more n m is =
    ap (range_with_len 0) (let e : m ≡ suc n = omega (arith, is) in e) ∙ range-more 0 n
    ∙ ap (λ k. range_with_len 0 n ++ k ∷ []) (let e : 0 + n ≡ n = omega arith in e)

-- ---- the check of a netlist around a drawn circuit

pub can-check : (g : Graph) (w : Words) (y : System) (schedule watched : List ℕ) (d : Drawn) (net : Netlist) (after : Growing) (alarm : ℕ)
    → IsDrawn g w y schedule d → interface_count (program_of g.program) ≤ length (program_of g.program).signals → IsAroundDrawn g w d net
    → IsAlarm d.gates after y.gates.items d.sources.items schedule watched alarm → CanCheck net after.list.items alarm
can-check g w y schedule watched d net after alarm drawn few r a =
    let first : first_gate net ≡ after.first = first-is g w y schedule d net drawn few r ∙ sym a.grows.first in
    let numbered = a.grows.growing.numbered in
    let low = a.low in
    let more = ap length a.grows.more.1 in
    let both = length-append d.gates.list.items a.grows.more.0 in
    let own = ap length r.gates in
    record {
      many = omega arith;
      more = omega arith;
      low = omega arith;
      reads = subst (λ n. ReadsLower n after.list.items) (sym first) a.grows.growing.reads;
      silent = a.grows.silent ∙ drawn.base.silent;
    }

pub is-check : (net check : Netlist) (after : Growing) (alarm : NetId) → IsCheckMade net check after.list.items alarm → IsCheckAround net check after alarm
is-check net check after alarm made = record {
  inputs = made.inputs;
  latches = made.latches;
  gates = made.gates_are;
  alarm_out = ap (map (λ (o : NetOut). o.net)) made.outputs;
}
