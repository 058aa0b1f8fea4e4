use Rattle.std.proofs.Common.{◌≡◌, ◌<◌, ℕ, List, length, map, get_or, sym, ap, subst, ◌∙◌, arith, rules, Bor}
use Rattle.std.proofs.lemmas.List.{length-map, get_or-map}
use Rattle.blif_text.specs.declared.circuit.BlifLatch.{BlifLatch}
use Rattle.blif_text.specs.Circuits.{CircuitLatch}
use Rattle.blif_text.specs.Plain.{plain_latch}
use Rattle.run_steps.specs.Slots.{slot_in}
use Rattle.blif_net.proofs.assembling.named_latches.Goals as goal

pub bounds-nets-slot_of : goal.bounds-nets-slot_of
bounds-nets-slot_of c =
    let latches : List BlifLatch = c.args.latches.now in
    let i = c.loop-latch.latch-index in
    let x = c.latch-item.result in
    let keys : List (List ℕ) = map (λ (k : Bor (List ℕ)). k.now) c.args.slots.now.keys in
    let low : i < length latches = omega arith in
    let own : get_or (map plain_latch latches) i (plain_latch x) ≡ plain_latch x =
    get_or-map plain_latch latches i x (plain_latch x) low ∙ ap plain_latch (sym c.latch-item.is) in
    let within : slot_in keys (get_or (map plain_latch latches) i (plain_latch x)).source < length c.args.nets.now =
    c.requires i (plain_latch x) (omega (arith, low, length-map latches plain_latch)) in
    subst (λ m. m < length c.args.nets.now) (sym (c.slot_of.ensures ∙ ap (slot_in keys) c.bytes.ensures))
    (subst (λ (l : CircuitLatch). slot_in keys l.source < length c.args.nets.now) own within)

pub offset_bounds-nets-slot_of : goal.offset_bounds-nets-slot_of
offset_bounds-nets-slot_of c = let low : c.slot_of.result < length c.args.nets.now = bounds-nets-slot_of c in search rules
