-- A netlist over the new gates: that it is one, and that it has the runs of the old one.
use Rattle.std.proofs.Common.{◌≡◌, ℕ, ◌+◌, ◌<◌, Bool, List, [], ◌∷◌, ◌++◌, length, map, slice_index_or, refl, sym, ap, ◌∙◌, subst, arith, IsTrue}
use Rattle.std.proofs.Common.{All, nat_eq, length-append}
use Rattle.std.proofs.lemmas.List.{length-map}
use Rattle.std.proofs.lemmas.List.Elements.{All-map}
use Rattle.std.proofs.lemmas.Simd.{map-map}
use Rattle.base_facts.proofs.Lists.{map-equal}
use Rattle.base_types.specs.Distinct.{all_differ}
use Rattle.base_types.specs.Items.{Item, Event, Reset, EachEvent}
use Rattle.base_types.specs.Names.{is_name, is_same_name}
use Rattle.net_ir.specs.declared.netlist.Gate.{Gate}
use Rattle.net_ir.specs.declared.netlist.Latch.{Latch}
use Rattle.net_ir.specs.declared.netlist.NetOut.{NetOut}
use Rattle.net_ir.specs.Gates.{ReadsLower, value_in, gate_values}
use Rattle.net_ir.specs.Netlists.{Netlist, IsNet, first_gate, net_count, output_names}
use Rattle.net_ir.specs.Runs.{shown, net_values, initial_latches, next_latches, values_from}
use Rattle.net_simp.specs.Renaming.{renamed_out, renamed_latch, renamed_net}
use Rattle.net_simp.specs.SameRuns.{carried_values, SameParts, SameInstant, SameInstants, SameRuns}
use Rattle.net_simp.specs.Keeping.{KeepsValues}

-- the nets that outputs, `paused` and latches show are asked for
pub record AsksFor (net : Netlist) (Asked : ℕ → Type 0) : Type 0 where
  pub outputs : All (λ o. Asked o.net.0) net.outputs
  pub paused : Asked net.paused
  pub latches : All (λ l. Asked l.from.0) net.latches

pub first-same : (net : Netlist) (f : ℕ → ℕ) (gates : List Gate) → first_gate (renamed_net net f gates) ≡ first_gate net
first-same net f gates = ap (λ k. length net.inputs + k) (length-map net.latches (renamed_latch f))

names-same : (net : Netlist) (f : ℕ → ℕ) (gates : List Gate) → output_names (renamed_net net f gates) ≡ output_names net
names-same net f gates = map-map (λ (o : NetOut). o.name) (renamed_out f) net.outputs

inits-same : (net : Netlist) (f : ℕ → ℕ) (gates : List Gate) → initial_latches (renamed_net net f gates) ≡ initial_latches net
inits-same net f gates = map-map (λ (l : Latch). l.init) (renamed_latch f) net.latches

pub is-net : (net : Netlist) (f : ℕ → ℕ) (Asked : ℕ → Type 0) (gates : List Gate) → IsNet net → KeepsValues (first_gate net) net.gates gates f Asked
    → AsksFor net Asked → IsNet (renamed_net net f gates)
is-net net f Asked gates n k a =
    let e = first-same net f gates in
    let new = renamed_net net f gates in
    record {
      name_fits = n.name_fits;
      input_names_fit = n.input_names_fit;
      output_names_fit = All-map (λ (o : NetOut). IsTrue (is_name o.name)) (renamed_out f) net.outputs n.output_names_fit;
      inputs_differ = n.inputs_differ;
      outputs_differ = subst (λ xs. IsTrue (all_differ is_same_name xs)) (sym (names-same net f gates)) n.outputs_differ;
      numbered = omega (arith, e, k.fewer, n.numbered);
      outputs_in_range = All-map (λ (o : NetOut). o.net.0 < net_count new) (renamed_out f) net.outputs
          (λ j o h. let low = k.low (slice_index_or net.outputs j o).net.0 (n.outputs_in_range j o h) (a.outputs j o h) in omega (arith, e));
      paused_in_range = let low = k.low net.paused n.paused_in_range a.paused in omega (arith, e);
      latches_in_range = All-map (λ (l : Latch). l.from.0 < net_count new) (renamed_latch f) net.latches
          (λ j l h. let low = k.low (slice_index_or net.latches j l).from.0 (n.latches_in_range j l h) (a.latches j l h) in omega (arith, e));
      reads_lower = subst (λ first. ReadsLower first gates) (sym e) k.reads_lower;
      carries_once = subst (λ ws. IsTrue (all_differ nat_eq ws)) (sym k.carries) n.carries_once;
    }

pub same-parts : (net : Netlist) (f : ℕ → ℕ) (Asked : ℕ → Type 0) (gates : List Gate) → KeepsValues (first_gate net) net.gates gates f Asked
    → SameParts net (renamed_net net f gates)
same-parts net f Asked gates k = record {
  name = refl;
  inputs = refl;
  outputs = names-same net f gates;
  latches = inits-same net f gates;
  carries = k.carries;
  fewer = k.fewer;
}

-- in an instant
pub same-instants : (net : Netlist) (f : ℕ → ℕ) (Asked : ℕ → Type 0) (gates : List Gate) → IsNet net → KeepsValues (first_gate net) net.gates gates f Asked
    → AsksFor net Asked → SameInstants net (renamed_net net f gates)
same-instants net f Asked gates n k a = λ latches inputs many given.
    let v = inputs ++ latches in
    let V = gate_values v net.gates in
    let W = gate_values v gates in
    let len : length v ≡ first_gate net = omega (arith, length-append inputs latches) in
    let outs = map-map (λ (o : NetOut). value_in W o.net.0) (renamed_out f) net.outputs
    ∙ map-equal (λ (o : NetOut). value_in W (f o.net.0)) (λ (o : NetOut). value_in V o.net.0) net.outputs
    (λ j o h. k.same v (slice_index_or net.outputs j o).net.0 len (n.outputs_in_range j o h) (a.outputs j o h)) in
    let active = k.same v net.paused len n.paused_in_range a.paused in
    let next = map-map (λ (l : Latch). value_in W l.from.0) (renamed_latch f) net.latches
    ∙ map-equal (λ (l : Latch). value_in W (f l.from.0)) (λ (l : Latch). value_in V l.from.0) net.latches
    (λ j l h. k.same v (slice_index_or net.latches j l).from.0 len (n.latches_in_range j l h) (a.latches j l h)) in
    record {
      shows = λ i. record { outputs = outs i; paused = active i };
      carries = ap (λ first. carried_values first gates W) (first-same net f gates) ∙ k.carrier_values v len;
      next = next;
    }

-- from these latch values on
record AlikeFrom (net new : Netlist) (latches new_latches : List Bool) (items : List Item) : Type 0 where
  shows : map (shown new) (values_from new new_latches items) ≡ map (shown net) (values_from net latches items)
  carries : map (carried_values (first_gate new) new.gates) (values_from new new_latches items)
      ≡ map (carried_values (first_gate net) net.gates) (values_from net latches items)

alike-event : (net new : Netlist) (latches inputs : List Bool) (items : List Item) → SameInstant net new latches inputs
    → AlikeFrom net new (next_latches net (net_values net latches inputs)) (next_latches new (net_values new latches inputs)) items
    → AlikeFrom net new latches latches (Event inputs ∷ items)
alike-event net new latches inputs items s rest = record { shows = λ i. s.shows i ∷ rest.shows i; carries = λ i. s.carries i ∷ rest.carries i }

alike-from : (net new : Netlist) → initial_latches new ≡ initial_latches net → SameInstants net new
    → (items : List Item) (latches : List Bool) → length latches ≡ length net.latches
    → EachEvent (λ event. length event ≡ length net.inputs) items → AlikeFrom net new latches latches items
alike-from net new inits same [] latches many fit = record { shows = refl; carries = refl }
alike-from net new inits same (Event inputs ∷ items) latches many fit =
    let s = same latches inputs many fit.0 in
    let values = net_values net latches inputs in
    let rest = alike-from net new inits same items (next_latches net values) (length-map net.latches (λ (l : Latch). value_in values l.from.0)) fit.1 in
    alike-event net new latches inputs items s
    (subst (λ later. AlikeFrom net new (next_latches net values) later items) (sym s.next) rest)
alike-from net new inits same (Reset ∷ items) latches many fit =
    let rest = alike-from net new inits same items (initial_latches net) (length-map net.latches (λ (l : Latch). l.init)) fit in
    let again = subst (λ later. AlikeFrom net new (initial_latches net) later items) (sym inits) rest in
    record { shows = again.shows; carries = again.carries }

-- what is so of every instant is so along each run
pub same-runs : (net new : Netlist) → initial_latches new ≡ initial_latches net → SameInstants net new → SameRuns net new
same-runs net new inits same = λ items fit.
    let from = alike-from net new inits same items (initial_latches net) (length-map net.latches (λ (l : Latch). l.init)) fit in
    let all = subst (λ later. AlikeFrom net new (initial_latches net) later items) (sym inits) from in
    record { shows = all.shows; carries = all.carries }
