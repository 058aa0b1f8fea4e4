use Rattle.std.proofs.Common.{◌≡◌, ℕ, ◌<◌, length, map, take, IsTrue, slice_index_or}
use Rattle.base_types.specs.Names.{is_name}
use Rattle.net_ir.specs.declared.netlist.NetOut.{NetOut}
use Rattle.blif_text.specs.OutputNames.{output_word}
use Rattle.blif_net.specs.Tables.{net_named}
use Rattle.blif_net.proofs.assembling.named_outputs.Given as goal

abbrev pub invariant-loop-word : goal.invariant-loop-word
invariant-loop-word l = record {
  fit : (k : ℕ) (d : NetOut) → k < length l.outputs.items → IsTrue (is_name (slice_index_or l.outputs.items k d).name);
  words : map (λ (o : NetOut). output_word l.inputs o.name) l.outputs.items ≡ take l.word-index l.words;
  nets : map (λ (o : NetOut). o.net) l.outputs.items ≡ map (net_named (map (λ k. k.now) l.slots.keys) l.nets) (take l.word-index l.words);
}
