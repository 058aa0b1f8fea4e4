-- Heads that are told by wires fit, and regions of wires that are at rest are so for the gates that carry them.
use Rattle.std.proofs.Common.{◌≡◌, ℕ, suc, ◌+◌, ◌-◌, ◌<◌, ◌≤◌, Bool, true, false, List, [], ◌∷◌, length, get_or, Option, Some, None}
use Rattle.std.proofs.Common.{refl, sym, ap, ◌∙◌, arith, ⊎_elim}
use Rattle.std.specs.Prelude.{if◌then◌else◌, option_and_then, slice_get, slice_index_or}
use Rattle.std.proofs.lemmas.Bool.{eqb-true, cases_lt}
use Rattle.std.proofs.lemmas.Option.{none-some, same_Some, slice_get-get_or}
use Rattle.std.proofs.lemmas.List.{get_or_past}
use Rattle.base_types.specs.declared.indices.WireId.{WireId}
use Rattle.net_ir.specs.declared.netlist.Gate.{Gate}
use Rattle.net_ir.specs.Gates.{value_in}
use Rattle.net_ir.specs.Netlists.{Netlist, first_gate, wire_at}
use Rattle.net_expressions.proofs.Exports.{any_gate}
use Rattle.csub_guard_blocks.specs.Resting.{AreAtRest}
use Rattle.csub_guard_writer.specs.Regions.{is_wire, carrier, if_head, region_by}
use Rattle.csub_guard_writer.proofs.OwnerFits.{HeadsFit}

-- the first gate that carries a wire is one and carries it
record Carried (k : ℕ) (gates : List Gate) (w j : ℕ) : Type 0 where
  from : k ≤ j
  below : j < k + length gates
  wire : (get_or gates (j - k) any_gate).wire ≡ Some (record { 0 = w })

carried-at : (k : ℕ) (gates : List Gate) (w j : ℕ) → carrier k gates w ≡ Some j → Carried k gates w j
carried-at k [] w j e = absurd (none-some j e)
carried-at k (g ∷ gates) w j e = by (λ q. carried-at (k + 1) gates w j q) (is_wire w g.wire) refl
  where
    by : (carrier (k + 1) gates w ≡ Some j → Carried (k + 1) gates w j) → (b : Bool) → is_wire w g.wire ≡ b → Carried k (g ∷ gates) w j
    by later true t =
        let here : k ≡ j = same_Some k j (sym (ap (λ b. if b then Some k else carrier (k + 1) gates w) t) ∙ e) in
        let z : j - k ≡ 0 = omega (arith, here) in
        record {
          from = omega (arith, here);
          below = omega (arith, here);
          wire = ap (λ i. (get_or (g ∷ gates) i any_gate).wire) z ∙ carries g.wire t;
        }
      where
        carries : (v : Option WireId) → is_wire w v ≡ true → v ≡ Some (record { 0 = w })
        carries None q = cc
        carries (Some v) q = ap (λ n. Some (record { 0 = n })) (eqb-true v.0 w q)
    by later false t =
        let rest = later (sym (ap (λ b. if b then Some k else carrier (k + 1) gates w) t) ∙ e) in
        let s : j - k ≡ suc (j - (k + 1)) = omega (arith, rest.from) in
        record {
          from = omega (arith, rest.from);
          below = omega (arith, rest.below);
          wire = ap (λ i. (get_or (g ∷ gates) i any_gate).wire) s ∙ rest.wire;
        }

-- what is known of the region of a gate
record Told (net : Netlist) (regions : List (Option WireId)) (k j : ℕ) : Type 0 where
  own : WireId
  head : WireId
  carries : wire_at net.gates k ≡ Some own
  region : slice_index_or regions own.0 None ≡ Some head
  free : slice_get regions head.0 ≡ Some None
  below : j < length net.gates
  wire : (get_or net.gates j any_gate).wire ≡ Some head

told-of : (net : Netlist) (regions : List (Option WireId)) (k j : ℕ) → region_by net regions k ≡ Some j → Told net regions k j
told-of net regions k j e = by (wire_at net.gates k) refl
  where
    by : (w : Option WireId) → wire_at net.gates k ≡ w → Told net regions k j
    by None q = absurd (none-some j (sym (ap (option_and_then (λ (v : WireId). option_and_then (λ (h : WireId). if_head (slice_get regions h.0)
        (carrier 0 net.gates h.0)) (slice_index_or regions v.0 None))) q) ∙ e))
    by (Some v) q = by-region (slice_index_or regions v.0 None) refl
        (sym (ap (option_and_then (λ (v : WireId). option_and_then (λ (h : WireId). if_head (slice_get regions h.0) (carrier 0 net.gates h.0))
        (slice_index_or regions v.0 None))) q) ∙ e)
      where
        by-region : (r : Option WireId) → slice_index_or regions v.0 None ≡ r
            → option_and_then (λ (h : WireId). if_head (slice_get regions h.0) (carrier 0 net.gates h.0)) (slice_index_or regions v.0 None) ≡ Some j
            → Told net regions k j
        by-region None t f = absurd (none-some j (sym (ap (option_and_then (λ (h : WireId). if_head (slice_get regions h.0) (carrier 0 net.gates h.0))) t) ∙ f))
        by-region (Some h) t f = last (slice_get regions h.0) refl
            (sym (ap (option_and_then (λ (h : WireId). if_head (slice_get regions h.0) (carrier 0 net.gates h.0))) t) ∙ f)
          where
            last : (o : Option (Option WireId)) → slice_get regions h.0 ≡ o → if_head (slice_get regions h.0) (carrier 0 net.gates h.0) ≡ Some j
                → Told net regions k j
            last None u g = absurd (none-some j (sym (ap (λ o. if_head o (carrier 0 net.gates h.0)) u) ∙ g))
            last (Some (Some x)) u g = absurd (none-some j (sym (ap (λ o. if_head o (carrier 0 net.gates h.0)) u) ∙ g))
            last (Some None) u g =
                let c = carried-at 0 net.gates h.0 j (sym (ap (λ o. if_head o (carrier 0 net.gates h.0)) u) ∙ g) in
                let z : j ≡ j - 0 = omega arith in
                record {
                  own = v;
                  head = h;
                  carries = q;
                  region = t;
                  free = u;
                  below = omega (arith, c.below);
                  wire = ap (λ i. (get_or net.gates i any_gate).wire) z ∙ c.wire;
                }

-- the wire that a gate carries, by the place of the gate
wire-of : (net : Netlist) (k : ℕ) → k < length net.gates → wire_at net.gates k ≡ (get_or net.gates k any_gate).wire
wire-of net k low = ap (option_and_then (λ (g : Gate). g.wire)) (slice_get-get_or net.gates k any_gate low)

get-of : (xs : List (Option WireId)) (i : ℕ) → slice_get xs i ≡ Some None → slice_index_or xs i None ≡ None
get-of xs i e = ⊎_elim (λ low. same_Some (get_or xs i None) None (sym (slice_get-get_or xs i None low) ∙ e)) (λ past. get_or_past xs i None past)
    (cases_lt i (length xs))

pub heads-fit : (net : Netlist) (regions : List (Option WireId)) → HeadsFit net (region_by net regions)
heads-fit net regions = record {
  within = λ k h e. (told-of net regions k h e).below;
  free = λ k h e.
      let t = told-of net regions k h e in
      let own : wire_at net.gates h ≡ Some t.head = wire-of net h t.below ∙ t.wire in
      ap (option_and_then (λ (v : WireId). option_and_then (λ (h : WireId). if_head (slice_get regions h.0) (carrier 0 net.gates h.0))
      (slice_index_or regions v.0 None))) own
      ∙ ap (option_and_then (λ (h : WireId). if_head (slice_get regions h.0) (carrier 0 net.gates h.0))) (get-of regions t.head.0 t.free);
  carries = λ k h e. let t = told-of net regions k h e in (t.head, t.wire);
}

pub quiet-gates : (net : Netlist) (regions : List (Option WireId)) (values : List Bool) → AreAtRest regions net values
    → (k h : ℕ) → k < length net.gates → region_by net regions k ≡ Some h → value_in values (first_gate net + h) ≡ false
    → value_in values (first_gate net + k) ≡ false
quiet-gates net regions values rest k h low e off =
    let t = told-of net regions k h e in
    rest k h any_gate t.own t.head low t.below (sym (wire-of net k low) ∙ t.carries) t.region t.wire off
