use Rattle.std.proofs.Common.{◌<◌, ℕ, List, length, map, sym, ap, subst, ◌∙◌, arith, rules, Bor}
use Rattle.run_steps.specs.Slots.{slot_in}
use Rattle.blif_net.specs.Interfaces.{HasName}
use Rattle.blif_net.proofs.assembling.named_outputs.Goals as goal

pub output_name-requires : goal.output_name-requires
output_name-requires c =
    let low : c.loop-word.word-index < length c.args.words.now = omega arith in
    subst (HasName c.args.inputs.now) (sym (c.bytes.ensures ∙ c.word-item.is)) (c.requires.named c.loop-word.word-index c.word-item.result low)

pub bounds-nets-slot_of : goal.bounds-nets-slot_of
bounds-nets-slot_of c =
    let keys : List (List ℕ) = map (λ (k : Bor (List ℕ)). k.now) c.args.slots.now.keys in
    let low : c.loop-word.word-index < length c.args.words.now = omega arith in
    subst (λ m. m < length c.args.nets.now) (sym (c.slot_of.ensures ∙ ap (slot_in keys) (c.bytes-in-loop-word.ensures ∙ c.word-item.is)))
    (c.requires.low c.loop-word.word-index c.word-item.result low)

pub offset_bounds-nets-slot_of : goal.offset_bounds-nets-slot_of
offset_bounds-nets-slot_of c = let low : c.slot_of.result < length c.args.nets.now = bounds-nets-slot_of c in search rules
