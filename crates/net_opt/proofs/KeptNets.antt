-- A netlist without the nets that are not marked shows the same.
use Rattle.std.proofs.Common.{◌≡◌, ℕ, ◌+◌, ◌<◌, suc, Bool, List, [], ◌∷◌, ◌++◌, length, map}
use Rattle.std.proofs.Common.{slice_index_or, refl, sym, ap, ◌∙◌, subst, arith, IsTrue, All}
use Rattle.std.proofs.lemmas.List.{length-map}
use Rattle.std.proofs.lemmas.List.Elements.{All-map}
use Rattle.std.proofs.lemmas.Simd.{map-map}
use Rattle.base_types.specs.Items.{Item, Event, Reset, EachEvent}
use Rattle.base_types.specs.declared.indices.NetId.{NetId}
use Rattle.net_ir.specs.declared.netlist.Latch.{Latch}
use Rattle.net_ir.specs.declared.netlist.NetOut.{NetOut}
use Rattle.net_ir.specs.Gates.{ReadsLower, value_in, carried}
use Rattle.net_ir.specs.Netlists.{Netlist, IsNet, first_gate, net_count}
use Rattle.net_ir.specs.Runs.{shown, net_values, initial_latches, next_latches, values_from}
use Rattle.net_ir.proofs.Exports.{length-next}
use Rattle.net_follow.specs.Following.{IsWide, IsFollowed}
use Rattle.net_follow.proofs.Exports.{followed-by-runs}
use Rattle.net_simp.specs.Renaming.{renamed_latch}
use Rattle.net_simp.specs.Packing.{rank}
use Rattle.net_opt.specs.declared.assembling.Parts.{Parts}
use Rattle.net_opt.specs.Assembling.{HasParts, named_outputs, net_with}
use Rattle.net_opt.specs.Keeping.{kept, kept_gate, kept_output, IsKept, HasKept}
use Rattle.net_opt.specs.Optimized.{Optimizes}
use Rattle.net_opt.specs.Showing.{marked}
use Rattle.net_opt.proofs.Parts.{parts-interface}
use Rattle.net_opt.proofs.Kept.{Reading, Carries, All-kept, carries-gates, carries-list, kept-count, kept-fewer, kept-lower, kept-silent, kept-values}
use Rattle.net_opt.proofs.Kept.{rank-below, rank-small, rank-whole}

-- the netlist of the marked nets, over other numbers
abbrev pub kept_net : Netlist → List Bool → (ℕ → ℕ) → Netlist
kept_net net marks f = record {
  name = net.name;
  inputs = net.inputs;
  outputs = named_outputs net.outputs (map (kept_output f) net.outputs);
  paused = f net.paused;
  latches = map (renamed_latch f) (kept marks (length net.inputs) net.latches);
  gates = map (kept_gate f) (kept marks (first_gate net) net.gates);
}

-- the new numbers of a netlist's marked nets
pub record Numbers (net : Netlist) (marks : List Bool) (f : ℕ → ℕ) : Type 0 where
  pub is_net : IsNet net
  pub is_kept : IsKept net marks
  pub ranked : (n : ℕ) → n < net_count net → f n ≡ rank marks n

reading : (net : Netlist) (marks : List Bool) (f : ℕ → ℕ) → Numbers net marks f → Reading marks (first_gate net) net.gates
reading net marks f h = record { lower = h.is_net.reads_lower; closed = h.is_kept.closed.gates }

-- ---- an instant

input-number : (net : Netlist) (marks : List Bool) (f : ℕ → ℕ) → Numbers net marks f → (k : ℕ) → k < length net.inputs → f k ≡ k
input-number net marks f h k low = h.ranked k (omega arith) ∙ rank-whole marks k (λ m below. h.is_kept.inputs m (omega arith))

carries-inputs : (net : Netlist) (marks : List Bool) (f : ℕ → ℕ) → Numbers net marks f → (inputs : List Bool) → length inputs ≡ length net.inputs
    → Carries marks f (length net.inputs) inputs inputs
carries-inputs net marks f h inputs wide = record {
  old_count = wide;
  new_count = wide ∙ sym (rank-whole marks (length net.inputs) h.is_kept.inputs);
  low = λ k below on. let e = input-number net marks f h k below in omega arith;
  same = λ k below on. ap (value_in inputs) (input-number net marks f h k below);
}

carries-instant : (net : Netlist) (marks : List Bool) (f : ℕ → ℕ) → Numbers net marks f → (s inputs : List Bool) → length s ≡ length net.latches
    → length inputs ≡ length net.inputs
    → Carries marks f (net_count net) (net_values net s inputs) (net_values (kept_net net marks f) (kept marks (length net.inputs) s) inputs)
carries-instant net marks f h s inputs many wide =
    let n = length net.inputs in
    let e : n + length s ≡ first_gate net = omega arith in
    let before = carries-list marks f n inputs inputs s (λ m low. h.ranked m (omega arith)) (carries-inputs net marks f h inputs wide) in
    carries-gates marks f (first_gate net) (inputs ++ s) (inputs ++ kept marks n s) net.gates h.ranked (reading net marks f h)
    (subst (λ m. Carries marks f m (inputs ++ s) (inputs ++ kept marks n s)) e before)

outputs-same : (f : ℕ → ℕ) (v w : List Bool) (outs : List NetOut)
    → ((k : ℕ) (d : NetOut) → k < length outs → value_in w (f (slice_index_or outs k d).net.0) ≡ value_in v (slice_index_or outs k d).net.0)
    → map (λ (o : NetOut). value_in w o.net.0) (named_outputs outs (map (kept_output f) outs)) ≡ map (λ (o : NetOut). value_in v o.net.0) outs
outputs-same f v w [] same = refl
outputs-same f v w (o ∷ outs) same =
    let here = same 0 o (omega arith) in
    let rest = outputs-same f v w outs (λ k d low. same (suc k) d (omega arith)) in
    λ i. here i ∷ rest i

shown-same : (net : Netlist) (marks : List Bool) (f : ℕ → ℕ) → Numbers net marks f → (v w : List Bool) → Carries marks f (net_count net) v w
    → shown (kept_net net marks f) w ≡ shown net v
shown-same net marks f h v w c =
    let outs = outputs-same f v w net.outputs
    (λ k d low. c.same (slice_index_or net.outputs k d).net.0 (h.is_net.outputs_in_range k d low) (h.is_kept.closed.outputs k d low)) in
    let paused = c.same net.paused h.is_net.paused_in_range h.is_kept.closed.paused in
    λ i. record { outputs = outs i; paused = paused i }

-- ---- the latches

next-same : (net : Netlist) (marks : List Bool) (f : ℕ → ℕ) → Numbers net marks f → (v w : List Bool) → Carries marks f (net_count net) v w
    → next_latches (kept_net net marks f) w ≡ kept marks (length net.inputs) (next_latches net v)
next-same net marks f h v w c =
    map-map (λ (l : Latch). value_in w l.from.0) (renamed_latch f) (kept marks (length net.inputs) net.latches)
    ∙ kept-values (λ (l : Latch). value_in w (f l.from.0)) (λ (l : Latch). value_in v l.from.0) marks (length net.inputs) net.latches
    (λ k d low on. c.same (slice_index_or net.latches k d).from.0 (h.is_net.latches_in_range k d low) (h.is_kept.closed.latches k d low on))

initial-same : (net : Netlist) (marks : List Bool) (f : ℕ → ℕ)
    → initial_latches (kept_net net marks f) ≡ kept marks (length net.inputs) (initial_latches net)
initial-same net marks f =
    map-map (λ (l : Latch). l.init) (renamed_latch f) (kept marks (length net.inputs) net.latches)
    ∙ kept-values (λ (l : Latch). l.init) (λ (l : Latch). l.init) marks (length net.inputs) net.latches (λ k d low on. refl)

-- ---- over items

runs-same : (net : Netlist) (marks : List Bool) (f : ℕ → ℕ) → Numbers net marks f → (s : List Bool) → length s ≡ length net.latches
    → (items : List Item) → EachEvent (IsWide net) items
    → map (shown (kept_net net marks f)) (values_from (kept_net net marks f) (kept marks (length net.inputs) s) items)
    ≡ map (shown net) (values_from net s items)
runs-same net marks f h s many [] fit = refl
runs-same net marks f h s many (Event inputs ∷ items) fit =
    let new = kept_net net marks f in
    let v = net_values net s inputs in
    let w = net_values new (kept marks (length net.inputs) s) inputs in
    let c = carries-instant net marks f h s inputs many fit.0 in
    let here = shown-same net marks f h v w c in
    let rest = ap (λ t. map (shown new) (values_from new t items)) (next-same net marks f h v w c)
    ∙ runs-same net marks f h (next_latches net v) (length-next net v) items fit.1 in
    λ i. here i ∷ rest i
runs-same net marks f h s many (Reset ∷ items) fit =
    let new = kept_net net marks f in
    ap (λ t. map (shown new) (values_from new t items)) (initial-same net marks f)
    ∙ runs-same net marks f h (initial_latches net) (length-map net.latches (λ (l : Latch). l.init)) items fit

kept-followed : (net : Netlist) (marks : List Bool) (f : ℕ → ℕ) → Numbers net marks f → IsFollowed net (kept_net net marks f)
kept-followed net marks f h =
    let new = kept_net net marks f in
    followed-by-runs net new (λ items fit. ap (λ t. map (shown new) (values_from new t items)) (initial-same net marks f)
    ∙ runs-same net marks f h (initial_latches net) (length-map net.latches (λ (l : Latch). l.init)) items fit)

-- ---- the parts of such a netlist

parts-kept : (net : Netlist) (marks : List Bool) (f : ℕ → ℕ) (parts : Parts) → HasKept net marks f parts → net_with net parts ≡ kept_net net marks f
parts-kept net marks f parts h = λ i. record {
  name = net.name;
  inputs = net.inputs;
  outputs = named_outputs net.outputs (h.outputs i);
  paused = h.paused i;
  latches = h.latches i;
  gates = h.gates i;
}

numbers : (net : Netlist) (marks : List Bool) (f : ℕ → ℕ) (parts : Parts) → IsNet net → IsKept net marks → HasKept net marks f parts → Numbers net marks f
numbers net marks f parts n k h = record { is_net = n; is_kept = k; ranked = h.ranked }

-- as many as are marked
pub parts-count : (net : Netlist) (marks : List Bool) (f : ℕ → ℕ) (parts : Parts) → IsKept net marks → HasKept net marks f parts
    → length net.inputs + length parts.latches.items + length parts.gates.items ≡ rank marks (net_count net)
parts-count net marks f parts k h =
    let n = length net.inputs in
    let inputs = rank-whole marks n k.inputs in
    let latches = ap length h.latches ∙ length-map (kept marks n net.latches) (renamed_latch f) in
    let gates = ap length h.gates ∙ length-map (kept marks (first_gate net) net.gates) (kept_gate f) in
    let many = kept-count marks n net.latches in
    let more = kept-count marks (first_gate net) net.gates in
    omega arith

parts-first : (net : Netlist) (marks : List Bool) (f : ℕ → ℕ) (parts : Parts) → IsKept net marks → HasKept net marks f parts
    → rank marks (first_gate net) ≡ length net.inputs + length parts.latches.items
parts-first net marks f parts k h =
    let n = length net.inputs in
    let inputs = rank-whole marks n k.inputs in
    let latches = ap length h.latches ∙ length-map (kept marks n net.latches) (renamed_latch f) in
    let many = kept-count marks n net.latches in
    omega arith

pub kept-has : (net : Netlist) (marks : List Bool) (f : ℕ → ℕ) (parts : Parts) → IsNet net → IsKept net marks → HasKept net marks f parts
    → HasParts net parts
kept-has net marks f parts n k h =
    let count = parts-count net marks f parts k h in
    let total = length net.inputs + length parts.latches.items + length parts.gates.items in
    let small = rank-small marks (net_count net) in
    let below : (m : ℕ) → m < net_count net → IsTrue (marked marks m) → f m < total = λ m low on.
    let e = h.ranked m low in
    let b = rank-below marks m (net_count net) (omega arith) on in
    omega arith in
    let first = parts-first net marks f parts k h in
    record {
      numbered = let fits = n.numbered in omega arith;
      outputs = ap length h.outputs ∙ length-map net.outputs (kept_output f);
      outputs_in_range = subst (λ nets. All (λ (x : NetId). x.0 < total) nets) (sym h.outputs)
          (All-map (λ (x : NetId). x.0 < total) (kept_output f) net.outputs
          (λ j d low. below (slice_index_or net.outputs j d).net.0 (n.outputs_in_range j d low) (k.closed.outputs j d low)));
      paused_in_range = subst (λ m. m < total) (sym h.paused) (below net.paused n.paused_in_range k.closed.paused);
      latches_in_range = subst (λ ls. All (λ (l : Latch). l.from.0 < total) ls) (sym h.latches)
          (All-kept (λ (l : Latch). l.from.0 < total) (renamed_latch f) marks (length net.inputs) net.latches
          (λ j d low on. below (slice_index_or net.latches j d).from.0 (n.latches_in_range j d low) (k.closed.latches j d low on)));
      reads_lower = subst (λ gs. ReadsLower (length net.inputs + length parts.latches.items) gs) (sym h.gates)
          (subst (λ m. ReadsLower m (map (kept_gate f) (kept marks (first_gate net) net.gates))) first
          (kept-lower marks f (first_gate net) net.gates h.ranked (reading net marks f (numbers net marks f parts n k h))));
      silent = ap carried h.gates ∙ kept-silent f (kept marks (first_gate net) net.gates);
    }

pub kept-optimizes : (net : Netlist) (marks : List Bool) (f : ℕ → ℕ) (parts : Parts) → IsNet net → IsKept net marks → HasKept net marks f parts
    → Optimizes net (net_with net parts)
kept-optimizes net marks f parts n k h =
    let latches = ap length h.latches ∙ length-map (kept marks (length net.inputs) net.latches) (renamed_latch f) in
    let gates = ap length h.gates ∙ length-map (kept marks (first_gate net) net.gates) (kept_gate f) in
    let fewer = kept-fewer marks (length net.inputs) net.latches in
    let few = kept-fewer marks (first_gate net) net.gates in
    record {
      replaces = record {
        interface = parts-interface net parts (kept-has net marks f parts n k h);
        followed = subst (λ new. IsFollowed net new) (sym (parts-kept net marks f parts h))
            (kept-followed net marks f (numbers net marks f parts n k h));
      };
      fewer_gates = omega arith;
      fewer_latches = omega arith;
    }
