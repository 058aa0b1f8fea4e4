-- The netlist of a compiled program whose latches hold the state in a code keeps what the program means.
use Rattle.std.proofs.Common.{◌≡◌, ℕ, ◌+◌, ◌*◌, ◌^◌, ◌<◌, ◌≤◌, true, false, List, [], ◌∷◌, length, map, Option, refl, sym, ap, ◌∙◌, subst, arith}
use Rattle.std.specs.Prelude.{Contains, replicate}
use Rattle.std.proofs.lemmas.List.{length-map, length-replicate, length-take}
use Rattle.base_types.specs.Items.{Item, EachEvent}
use Rattle.est_kernel.specs.Plain.{Program, given_count}
use Rattle.est_kernel.specs.Terms.{Term}
use Rattle.grc_graph.specs.SelectionTrees.{body_leaves, body_tree}
use Rattle.grc_graph.specs.TreeForms.{tree_node}
use Rattle.grc_graph.specs.Walk.{Initial}
use Rattle.grc_solutions_laws.proofs.Exports.{program_kernel}
use Rattle.grc_solutions.proofs.Exports.{graph_runs_exist_lem}
use Rattle.net_state_enc_laws.proofs.Exports.{kept-formed}
use Rattle.net_ir.specs.Gates.{carried}
use Rattle.net_ir.specs.Netlists.{Netlist, output_names}
use Rattle.net_ir.specs.Runs.{netlist_of, initial_latches}
use Rattle.net_ir.proofs.Exports.{length-numbered}
use Rattle.net_simp.specs.SameRuns.{SameParts, SameRuns}
use Rattle.net_simp.specs.SimpleNets.{IsSimple}
use Rattle.net_state_enc.specs.EncodedCounts.{encoded_bits, encoded_count}
use Rattle.net_state_enc.specs.Encodings.{IsTreeOf, SelectsWell, Encodes}
use Rattle.net_state_enc.specs.Meeting.{LatchesMeet}
use Rattle.blif_text.specs.Written.{Means, net_latch}
use Rattle.cec_compile.specs.declared.passes.Compiled.{Compiled}
use Rattle.cec_compile.specs.Compiling.{IsCompiled, StandsForNet}
use Rattle.cec_compile.specs.EncodedTexts.{IsEncoded, StandsForEncoded}
use Rattle.cec_compile.specs.Following.{FollowsGraph}
use Rattle.cec_compile.specs.NetMeaning.{NetKeeps}
use Rattle.cec_compile.specs.WireGroups.{SharesWires, is_shared, wire_groups}
use Rattle.cec_compile.specs.WireNames.{TextNames}
use Rattle.cec_compile.proofs.Joined.{compiled_reads, kernel_of, given-few, wires_carried, inputs_wide}
use Rattle.cec_compile.proofs.Keeping.{widths, text_keeps}
use Rattle.cec_compile.proofs.Simplified.{runs_stay}
use Rattle.cec_compile.proofs.WireWords.{names_wires}

-- ---- what encoding asks for

-- one and the same for each element
all_same : {X Y : Type 0} (xs : List X) (y : Y) → map (λ x. y) xs ≡ replicate (length xs) y
all_same [] y = refl
all_same (x ∷ xs) y = ap (λ l. y ∷ l) (all_same xs y)

pub first_latches : (c : Compiled) (p : Program) → IsCompiled c p → initial_latches (netlist_of c.net) ≡ true ∷ replicate c.graph.tree.leaves false
first_latches c p h =
    h.latches ∙ ap (λ l. true ∷ l) (all_same (body_leaves p.body) false ∙ ap (λ n. replicate n false) (sym h.leaves))

-- the gates of a compiled program are few
pub few_nets : (c : Compiled) (p : Program) → IsCompiled c p → length c.net.inputs.items + length c.net.gates.items ≤ 2 ^ 31
few_nets c p h =
    omega (
      arith,
      h.linear,
      h.compiles.limits.few_wires,
      ap length h.keeps.inputs,
      length-take (given_count p) p.signals,
      h.formed.at_most,
    )

pub own_tree : (c : Compiled) (p : Program) → IsCompiled c p → IsTreeOf c.graph.tree p.body
own_tree c p h = record { nodes = h.tree; leaves = h.leaves }

-- ---- runs

-- in each instant the latches select leaves as the tree wants
latches_formed : (c : Compiled) (p : Program) → IsCompiled c p → FollowsGraph c → (items : List Item) → EachEvent (λ event. length event ≡ given_count p) items
    → LatchesMeet (SelectsWell p.body) (netlist_of c.net) (initial_latches (netlist_of c.net)) items
latches_formed c p h f items wide =
    let kernel = program_kernel p h.formed (kernel_of c.graph p h.program) in
    let one = graph_runs_exist_lem p h.compiles.acyclic.rank kernel h.compiles.acyclic.up Initial items in
    let reads = compiled_reads c p h f in
    kept-formed c.graph p (netlist_of c.net) reads.states f.interface f.instants items (map reads.read one.0.0) wide (reads.runs items one.0.0 wide one.0.1)

same_runs : (c : Compiled) (p : Program) (coded : Netlist) → IsCompiled c p → FollowsGraph c → Encodes (netlist_of c.net) coded p.body →
    SameRuns (netlist_of c.net) coded
same_runs c p coded h f encodes items wide =
    encodes.runs items wide
    (latches_formed c p h f items (subst (λ n. EachEvent (λ event. length event ≡ n) items) (sym (inputs_wide c p h)) wide))

-- a netlist of the names and the runs of one that keeps what a program means
alike_keeps : (net new : Netlist) (p : Program) → given_count p ≡ length net.inputs → new.name ≡ net.name → new.inputs ≡ net.inputs
    → output_names new ≡ output_names net → SameRuns net new → NetKeeps net p → NetKeeps new p
alike_keeps net new p wide name inputs outputs same keeps = record {
  name = name ∙ keeps.name;
  inputs = inputs ∙ keeps.inputs;
  outputs = outputs ∙ keeps.outputs;
  runs = λ items fits.
      let found = keeps.runs items fits in
      (found.0, found.1, (same items (widths p (length net.inputs) wide items fits)).shows ∙ found.2);
}

-- ---- an encoded netlist that is simplified

same_count : (coded new : Netlist) → SameParts coded new → length new.latches ≡ length coded.latches
same_count coded new parts = sym (length-map new.latches (λ l. l.init)) ∙ ap length parts.latches ∙ length-map coded.latches (λ l. l.init)

pub simplified_encodes : (net coded new : Netlist) (body : Term) → SameParts coded new → SameRuns coded new → Encodes net coded body → Encodes net new body
simplified_encodes net coded new body parts same e = record {
  name = parts.name ∙ e.name;
  inputs = parts.inputs ∙ e.inputs;
  outputs = parts.outputs ∙ e.outputs;
  carries = parts.carries ∙ e.carries;
  count = same_count coded new parts ∙ e.count;
  latches = parts.latches ∙ e.latches;
  runs = λ items wide meet.
      let first = e.runs items wide meet in
      let second = same items (subst (λ l. EachEvent (λ event. length event ≡ length l) items) (sym e.inputs) wide) in
      record { shows = second.shows ∙ first.shows; carries = second.carries ∙ first.carries };
}

pub simplified_size : (coded new : Netlist) (gates nodes : ℕ) → SameParts coded new → length coded.gates ≤ gates + 64 * (nodes * length coded.latches)
    → length new.gates ≤ gates + 64 * (nodes * length new.latches)
simplified_size coded new gates nodes parts few =
    subst (λ n. length new.gates ≤ gates + 64 * (nodes * n)) (sym (same_count coded new parts)) (omega (arith, parts.fewer, few))

-- ---- the whole

pub encoded_is : (c : Compiled) (p : Program) (new : Netlist) → IsCompiled c p → FollowsGraph c → Encodes (netlist_of c.net) new p.body
    → length new.gates ≤ length c.net.gates.items + 64 * (length c.graph.tree.nodes.items * length new.latches) → IsSimple new → IsEncoded c p new
encoded_is c p new h f e few simple =
    let same = same_runs c p new h f e in
    let nodes : length c.graph.tree.nodes.items ≡ length (body_tree p.body) = sym (length-map c.graph.tree.nodes.items tree_node) ∙ ap length h.tree in
    record {
      name = e.name;
      inputs = e.inputs;
      outputs = e.outputs;
      carries = e.carries;
      latches = e.latches;
      runs = same;
      keeps = alike_keeps (netlist_of c.net) new p (inputs_wide c p h) e.name e.inputs e.outputs same h.keeps;
      size = subst (λ n. length new.gates ≤ length c.net.gates.items + 64 * (n * length new.latches)) nodes few;
      simple = simple;
    }

encoded_names : (c : Compiled) (p : Program) (net : Netlist) (written : List ℕ) → IsCompiled c p → SharesWires p (is_shared c.graph) → FollowsGraph c
    → IsEncoded c p net → Means written net → TextNames (encoded_count p.body) written p
encoded_names c p net written h shares f e means =
    let kernel = program_kernel p h.formed (kernel_of c.graph p h.program) in
    let few = subst (λ q. given_count q ≤ length q.signals) (sym h.program) (given-few p h.formed) in
    let follows = runs_stay c.graph (netlist_of c.net) net few f.interface e.carries e.runs f.runs in
    let carriers : (n : ℕ) → n < length (wire_groups (is_shared c.graph) p) → Contains (carried net.gates) n
    = λ n l. subst (λ wires. Contains wires n) (sym e.carries) (wires_carried c p h n l) in
    let count : length net.latches ≡ encoded_count p.body
    = omega (arith, length-map net.latches (λ l. l.init), ap length e.latches, length-replicate (encoded_bits p.body) false) in
    record {
      circuit = means.circuit;
      reads = means.reads;
      stored = ap length means.latches ∙ length-numbered (net_latch net) 0 net.latches ∙ count;
      wires = names_wires (is_shared c.graph) c.graph p net (compiled_reads c p h f) carriers kernel h.no_loop h.compiles.acyclic shares follows written
          means e.keeps.inputs (inputs_wide c p h ∙ ap length (sym e.inputs));
    }

-- the text of such a netlist, from these bytes
pub encoded_stands : (bytes : List ℕ) (main : Option (List ℕ)) (c : Compiled) (net : Netlist) (written : List ℕ) → (s : StandsForNet bytes main c)
    → SharesWires s.program (is_shared c.graph) → FollowsGraph c → IsEncoded c s.program net → Means written net → StandsForEncoded bytes main written
encoded_stands bytes main c net written s shares f e means = record {
  program = s.program;
  source = s.source;
  compiles = s.compiled.compiles;
  keeps = text_keeps written net s.program (given-few s.program s.compiled.formed) e.keeps means;
  names = encoded_names c s.program net written s.compiled shares f e means;
}
