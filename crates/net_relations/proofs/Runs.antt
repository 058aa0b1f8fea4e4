-- A netlist whose gates read less does the same over allowed events.
use Rattle.std.proofs.Common.{◌≡◌, ◌<◌, ℕ, Bool, false, not, if◌then◌else◌, List, [], ◌∷◌, ◌++◌, length, map, get_or, refl, sym, ap, ◌∙◌, arith, All}
use Rattle.std.proofs.lemmas.List.{get_or_append_left, length-append, length-map}
use Rattle.base_types.specs.Items.{Item, Event, Reset, EachEvent}
use Rattle.base_types.specs.Relations.{Relation, MeetsAll}
use Rattle.net_ir.specs.declared.netlist.Gate.{Gate}
use Rattle.net_ir.specs.declared.netlist.Latch.{Latch}
use Rattle.net_ir.specs.Gates.{ReadsLower, gate_values}
use Rattle.net_ir.specs.Netlists.{Netlist, first_gate}
use Rattle.net_ir.specs.Runs.{initial_latches, net_run, net_values, next_latches, shown, values_from}
use Rattle.net_ir.proofs.Exports.{length-next, value_in-gate_values}
use Rattle.net_relations.specs.Implications.{AreStripped, Holds, IsKept, IsStrippedNet, signed_value, with_gates}
use Rattle.net_relations.specs.Under.{FollowsUnder, IsAllowed}
use Rattle.net_relations.specs.declared.implications.Implication.{Implication}
use Rattle.net_relations.specs.declared.implications.Signed.{Signed}
use Rattle.net_relations.proofs.SmallerGates.{stripped_values}

-- an input has its value of the event
input-value : (event latches : List Bool) (gates : List Gate) (s : Signed) → s.net.0 < length event
    → signed_value (gate_values (event ++ latches) gates) s ≡ signed_value event s
input-value event latches gates s low =
    ap (λ x. if s.negated then not x else x)
    (value_in-gate_values (event ++ latches) gates s.net.0 (omega (arith, length-append event latches))
    ∙ get_or_append_left event latches false s.net.0 low)

-- what relations say of the event holds of the values of all nets
known-holds : (relations : List Relation) (inputs : ℕ) (known : List Implication) (event latches : List Bool) (gates : List Gate) → length event ≡ inputs
    → MeetsAll relations event → All (IsKept relations inputs) known → All (Holds (gate_values (event ++ latches) gates)) known
known-holds relations inputs known event latches gates wide meets all = λ k d h.
    let is = all k d h in
    let i = get_or known k d in
    λ cause. input-value event latches gates i.effect (omega (arith, is.below.1, wide))
    ∙ is.holds event meets (sym (input-value event latches gates i.cause (omega (arith, is.below.0, wide))) ∙ cause)

values-same : (relations : List Relation) (old : Netlist) (known : List Implication) (gates : List Gate) → ReadsLower (first_gate old) old.gates
    → AreStripped old known gates → All (IsKept relations (length old.inputs)) known → (latches : List Bool) → length latches ≡ length old.latches
    → (items : List Item) → EachEvent (IsAllowed old relations) items
    → values_from (with_gates old gates) latches items ≡ values_from old latches items
values-same relations old known gates reads stripped all latches long [] fits = refl
values-same relations old known gates reads stripped all latches long (Event event ∷ items) fits =
    let v = net_values old latches event in
    let here : net_values (with_gates old gates) latches event ≡ v =
    stripped_values old known gates (event ++ latches) (omega (arith, length-append event latches, fits.0.wide, long)) reads stripped
    (known-holds relations (length old.inputs) known event latches old.gates fits.0.wide fits.0.meets all) in
    let rest = values-same relations old known gates reads stripped all (next_latches old v) (length-next old v) items fits.1 in
    let others = ap (λ w. values_from (with_gates old gates) (next_latches old w) items) here ∙ rest in
    λ i. here i ∷ others i
values-same relations old known gates reads stripped all latches long (Reset ∷ items) fits =
    values-same relations old known gates reads stripped all (initial_latches old) (length-map old.latches (λ (l : Latch). l.init)) items fits

-- it follows the netlist where the inputs meet the relations
pub stripped-follows : (relations : List Relation) (old : Netlist) (known : List Implication) (new : Netlist) → ReadsLower (first_gate old) old.gates
    → IsStrippedNet old known new → All (IsKept relations (length old.inputs)) known → FollowsUnder relations old new
stripped-follows relations old known new reads stripped all = λ items fits.
    ap (λ net. net_run net items) stripped.same
    ∙ ap (map (shown old)) (values-same relations old known new.gates reads stripped.gates all (initial_latches old)
    (length-map old.latches (λ (l : Latch). l.init)) items fits)
