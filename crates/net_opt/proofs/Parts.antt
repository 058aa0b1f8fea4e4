-- Netlists of parts.
use Rattle.std.proofs.Common.{◌≡◌, ℕ, ◌+◌, ◌<◌, ◌≤◌, zero, suc, List, [], ◌∷◌, ◌++◌, length, map, take, get_or, slice_index_or}
use Rattle.std.proofs.Common.{refl, sym, ap, ◌∙◌, subst, arith, All, IsTrue, nat_eq, Option, None, Some}
use Rattle.base_types.specs.declared.indices.NetId.{NetId}
use Rattle.base_types.specs.declared.indices.WireId.{WireId}
use Rattle.base_types.specs.Distinct.{all_differ}
use Rattle.base_types.specs.Names.{is_name, is_same_name}
use Rattle.net_ir.specs.declared.netlist.Op.{Op}
use Rattle.net_ir.specs.declared.netlist.Gate.{Gate}
use Rattle.net_ir.specs.declared.netlist.Latch.{Latch}
use Rattle.net_ir.specs.declared.netlist.NetOut.{NetOut}
use Rattle.std.proofs.lemmas.List.{length-map, get_or-map}
use Rattle.std.proofs.lemmas.List.Elements.{All-map}
use Rattle.net_ir.specs.Gates.{carried, operand_end, ReadsLower}
use Rattle.net_ir.specs.Netlists.{Netlist, IsNet, net_count}
use Rattle.net_opt.specs.declared.assembling.Parts.{Parts}
use Rattle.net_opt.specs.Optimized.{SameInterface}
use Rattle.net_opt.specs.declared.assembling.Named.{Named}
use Rattle.net_opt.specs.Assembling.{named_outputs, net_with, HasParts, Matching}
use Rattle.net_opt.specs.Silencing.{silent_gate, silent_net, IsSilent}

named-same : (old : List NetOut) (nets : List NetId) → length nets ≡ length old
    → map (λ (o : NetOut). o.name) (named_outputs old nets) ≡ map (λ (o : NetOut). o.name) old
named-same [] nets same = refl
named-same (o ∷ old) [] same = absurd (omega arith)
named-same (o ∷ old) (n ∷ nets) same = ap (λ l. o.name ∷ l) (named-same old nets (omega arith))

named-fit : (P : List ℕ → Type 0) (old : List NetOut) (nets : List NetId) → length nets ≡ length old → All (λ (o : NetOut). P o.name) old
    → All (λ (o : NetOut). P o.name) (named_outputs old nets)
named-fit P [] nets same fit k d low = absurd (omega arith)
named-fit P (o ∷ old) [] same fit k d low = absurd (omega arith)
named-fit P (o ∷ old) (n ∷ nets) same fit zero d low = fit 0 o (omega arith)
named-fit P (o ∷ old) (n ∷ nets) same fit (suc k) d low =
    named-fit P old nets (omega arith) (λ j e h. fit (suc j) e (omega arith)) k d (omega arith)

named-below : (old : List NetOut) (nets : List NetId) (count : ℕ) → length nets ≡ length old → All (λ (n : NetId). n.0 < count) nets
    → All (λ (o : NetOut). o.net.0 < count) (named_outputs old nets)
named-below [] nets count same below k d low = absurd (omega arith)
named-below (o ∷ old) [] count same below k d low = absurd (omega arith)
named-below (o ∷ old) (n ∷ nets) count same below zero d low = below 0 n (omega arith)
named-below (o ∷ old) (n ∷ nets) count same below (suc k) d low =
    named-below old nets count (omega arith) (λ j e h. below (suc j) e (omega arith)) k d (omega arith)

pub parts-net : (net : Netlist) (parts : Parts) → IsNet net → HasParts net parts → IsNet (net_with net parts)
parts-net net parts n h = record {
  name_fits = n.name_fits;
  input_names_fit = n.input_names_fit;
  output_names_fit = named-fit (λ name. IsTrue (is_name name)) net.outputs parts.outputs.items h.outputs n.output_names_fit;
  inputs_differ = n.inputs_differ;
  outputs_differ = subst (λ names. IsTrue (all_differ is_same_name names)) (sym (named-same net.outputs parts.outputs.items h.outputs)) n.outputs_differ;
  numbered = h.numbered;
  outputs_in_range = named-below net.outputs parts.outputs.items (net_count (net_with net parts)) h.outputs h.outputs_in_range;
  paused_in_range = h.paused_in_range;
  latches_in_range = h.latches_in_range;
  reads_lower = h.reads_lower;
  carries_once = subst (λ wires. IsTrue (all_differ nat_eq wires)) (sym h.silent) refl;
}

pub parts-interface : (net : Netlist) (parts : Parts) → HasParts net parts → SameInterface net (net_with net parts)
parts-interface net parts h = record {
  name = refl;
  inputs = refl;
  outputs = named-same net.outputs parts.outputs.items h.outputs;
  silent = h.silent;
}

-- ---- names and parts

abbrev pub net_of_names : Named → Parts → Netlist
net_of_names named parts = record {
  name = named.name;
  inputs = named.inputs.items;
  outputs = named.outputs.items;
  paused = parts.paused.0;
  latches = parts.latches.items;
  gates = parts.gates.items;
}

pub names-same : (net : Netlist) (named : Named) (parts : Parts) → Matching net parts.outputs.items named → net_of_names named parts ≡ net_with net parts
names-same net named parts m = λ i. record {
  name = m.name i;
  inputs = m.inputs i;
  outputs = m.outputs i;
  paused = parts.paused.0;
  latches = parts.latches.items;
  gates = parts.gates.items;
}

pub names-net : (net : Netlist) (named : Named) (parts : Parts) → IsNet net → Matching net parts.outputs.items named → HasParts net parts
    → IsNet (net_of_names named parts)
names-net net named parts n m h = subst IsNet (sym (names-same net named parts m)) (parts-net net parts n h)

-- ---- the outputs of a list, one after another

named-suc : (old : List NetOut) (nets : List NetId) (k : ℕ) (c : NetOut) (d : NetId) → k < length old → length nets ≡ length old
    → named_outputs (take (suc k) old) (take (suc k) nets)
    ≡ named_outputs (take k old) (take k nets) ++ record { name = (get_or old k c).name; net = get_or nets k d } ∷ []
named-suc [] nets k c d low same = absurd (omega arith)
named-suc (o ∷ old) [] k c d low same = absurd (omega arith)
named-suc (o ∷ old) (n ∷ nets) zero c d low same = refl
named-suc (o ∷ old) (n ∷ nets) (suc k) c d low same =
    ap (λ l. record { name = o.name; net = n } ∷ l) (named-suc old nets k c d (omega arith) (omega arith))

pub named-more : (old : List NetOut) (nets : List NetId) (k : ℕ) (c : NetOut) (d : NetId) → k < length old → length nets ≡ length old
    → named_outputs (take (k + 1) old) (take (k + 1) nets)
    ≡ named_outputs (take k old) (take k nets) ++ record { name = (get_or old k c).name; net = get_or nets k d } ∷ []
named-more old nets k c d low same =
    let on : k + 1 ≡ suc k = omega arith in ap (λ m. named_outputs (take m old) (take m nets)) on ∙ named-suc old nets k c d low same

-- ---- a netlist without wires

named-own : (outs : List NetOut) → named_outputs outs (map (λ (o : NetOut). o.net) outs) ≡ outs
named-own [] = refl
named-own (o ∷ outs) = ap (λ l. o ∷ l) (named-own outs)

pub silent-with : (net : Netlist) (parts : Parts) → IsSilent net parts → net_with net parts ≡ silent_net net
silent-with net parts s = λ i. record {
  name = net.name;
  inputs = net.inputs;
  outputs = (ap (named_outputs net.outputs) s.outputs ∙ named-own net.outputs) i;
  paused = s.paused i;
  latches = s.latches i;
  gates = s.gates i;
}

pub silent-wires : (gates : List Gate) → carried (map silent_gate gates) ≡ []
silent-wires [] = refl
silent-wires (g ∷ gates) = silent-wires gates

silent-lower : (first : ℕ) (gates : List Gate) → ReadsLower first gates → ReadsLower first (map silent_gate gates)
silent-lower first gates reads = λ k d low.
    let h : k < length gates = omega (arith, length-map gates silent_gate) in
    subst (λ (g : Gate). operand_end g.op ≤ first + k) (sym (get_or-map silent_gate gates k d d h)) (reads k d h)

pub silent-has : (net : Netlist) (parts : Parts) → IsNet net → IsSilent net parts → HasParts net parts
silent-has net parts n s =
    let latches : length parts.latches.items ≡ length net.latches = ap length s.latches in
    let gates : length parts.gates.items ≡ length net.gates = ap length s.gates ∙ length-map net.gates silent_gate in
    let count : length net.inputs + length parts.latches.items + length parts.gates.items ≡ net_count net = omega arith in
    record {
      numbered = omega (arith, n.numbered);
      outputs = ap length s.outputs ∙ length-map net.outputs (λ (o : NetOut). o.net);
      outputs_in_range = subst (λ m. All (λ (x : NetId). x.0 < m) parts.outputs.items) (sym count)
          (subst (λ nets. All (λ (x : NetId). x.0 < net_count net) nets) (sym s.outputs)
          (All-map (λ (x : NetId). x.0 < net_count net) (λ (o : NetOut). o.net) net.outputs n.outputs_in_range));
      paused_in_range = let low = n.paused_in_range in omega (arith, s.paused);
      latches_in_range = subst (λ m. All (λ (l : Latch). l.from.0 < m) parts.latches.items) (sym count)
          (subst (λ ls. All (λ (l : Latch). l.from.0 < net_count net) ls) (sym s.latches) n.latches_in_range);
      reads_lower = subst (λ m. ReadsLower (length net.inputs + m) parts.gates.items) (sym latches)
          (subst (λ gs. ReadsLower (length net.inputs + length net.latches) gs) (sym s.gates)
          (silent-lower (length net.inputs + length net.latches) net.gates n.reads_lower));
      silent = ap carried s.gates ∙ silent-wires net.gates;
    }

-- gates of which none carries a wire

silent-cons : (op : Op) (wire : Option WireId) (gates : List Gate) → wire ≡ None → carried (record { op = op; wire = wire } ∷ gates) ≡ carried gates
silent-cons op None gates is = refl
silent-cons op (Some w) gates is = cc

pub none-carried : (gates : List Gate) → ((k : ℕ) (d : Gate) → k < length gates → (slice_index_or gates k d).wire ≡ None) → carried gates ≡ []
none-carried [] none = refl
none-carried (g ∷ gates) none = silent-cons g.op g.wire gates (none 0 g (omega arith)) ∙ none-carried gates (λ k d low. none (suc k) d (omega arith))
