use Rattle.std.proofs.Common.{◌≡◌, ◌<◌, ℕ, List, length, map, get_or, ap, ◌∙◌, arith, rules, Bor, slice_index_or}
use Rattle.base_types.specs.declared.indices.NetId.{NetId}
use Rattle.blif_text.specs.OutputNames.{paused_word}
use Rattle.blif_text.specs.Plain.{plain_circuit}
use Rattle.blif_text.specs.Runs.{driven_names}
use Rattle.blif_text.proofs.Exports.{described-sound}
use Rattle.blif_run.specs.CircuitAnswers.{listed_count}
use Rattle.run_steps.specs.Slots.{slot_in}
use Rattle.blif_net.proofs.Netlists.{paused-at, paused-slot, listed-slots, source-slots}
use Rattle.blif_net.proofs.assembling.named_parts.Goals as goal

abbrev none : NetId
none = record { 0 = 0 }

pub bounds-nets-slot_of : goal.bounds-nets-slot_of
bounds-nets-slot_of c =
    let circuit = plain_circuit c.args.blif.now in
    let sound = described-sound c.requires.described.0 circuit c.requires.described.1 in
    let keys : List (List ℕ) = map (λ (k : Bor (List ℕ)). k.now) c.args.slots.now.keys in
    let outputs : List (List ℕ) = c.args.blif.now.outputs.items in
    let count : c.listed_count-count.result ≡ listed_count outputs = c.listed_count-count.ensures.count ∙ ap listed_count c.deref.ensures.value in
    let word : c.bytes.result.now ≡ paused_word =
    c.bytes.ensures ∙ c.index.ensures ∙ ap (λ n. get_or outputs n c.index.result.now) count
    ∙ paused-at outputs c.requires.fits.names.pauses c.index.result.now in
    let slot : c.slot_of.result ≡ slot_in (driven_names circuit) paused_word =
    c.slot_of.ensures ∙ ap (slot_in keys) word ∙ ap (λ ks. slot_in ks paused_word) c.requires.slots in
    let low = paused-slot circuit sound c.requires.fits.names.pauses in
    omega (arith, slot, low, c.requires.each_slot)

pub offset_bounds-nets-slot_of : goal.offset_bounds-nets-slot_of
offset_bounds-nets-slot_of c = let low : c.slot_of.result < length c.args.nets.now = bounds-nets-slot_of c in search rules

pub named_outputs-requires-clause-named : goal.named_outputs-requires-clause-named
named_outputs-requires-clause-named c =
    rw (c.deref-2.ensures.value, c.deref-3.ensures.value, c.listed_count-count.ensures.count, c.deref.ensures.value) c.requires.fits.outputs

pub named_outputs-requires-clause-low : goal.named_outputs-requires-clause-low
named_outputs-requires-clause-low c =
    let circuit = plain_circuit c.args.blif.now in
    let sound = described-sound c.requires.described.0 circuit c.requires.described.1 in
    rw (c.deref-3.ensures.value, c.listed_count-count.ensures.count, c.deref.ensures.value, c.requires.slots, c.requires.each_slot)
    (listed-slots circuit sound c.requires.fits.names.pauses)

pub named_latches-requires : goal.named_latches-requires
named_latches-requires c =
    let circuit = plain_circuit c.args.blif.now in
    let sound = described-sound c.requires.described.0 circuit c.requires.described.1 in
    rw (c.deref-4.ensures.value, c.requires.slots, c.requires.each_slot) (source-slots circuit sound c.requires.fits.names.pauses)

pub returns : goal.returns
returns c =
    let circuit = plain_circuit c.args.blif.now in
    let keys : List (List ℕ) = map (λ (k : Bor (List ℕ)). k.now) c.args.slots.now.keys in
    let outputs : List (List ℕ) = c.args.blif.now.outputs.items in
    let count : c.listed_count-count.result ≡ listed_count outputs = c.listed_count-count.ensures.count ∙ ap listed_count c.deref.ensures.value in
    let word : c.bytes.result.now ≡ paused_word =
    c.bytes.ensures ∙ c.index.ensures ∙ ap (λ n. get_or outputs n c.index.result.now) count
    ∙ paused-at outputs c.requires.fits.names.pauses c.index.result.now in
    let slot : c.slot_of.result ≡ slot_in (driven_names circuit) paused_word =
    c.slot_of.ensures ∙ ap (slot_in keys) word ∙ ap (λ ks. slot_in ks paused_word) c.requires.slots in
    record {
      name = c.in_ok-names.ensures.name;
      inputs = c.in_ok-names.ensures.inputs;
      fit = c.in_ok-outputs.ensures.fit;
      words = rw (c.deref-2.ensures.value, c.deref-3.ensures.value, count) at c.in_ok-outputs.ensures.words;
      nets_are = rw (c.deref-3.ensures.value, count, c.requires.slots) at c.in_ok-outputs.ensures.nets;
      paused = ap (λ s. slice_index_or c.args.nets.now s none) slot;
      latches = rw (c.deref-4.ensures.value, c.requires.slots) at c.in_ok-latches.ensures;
    }
