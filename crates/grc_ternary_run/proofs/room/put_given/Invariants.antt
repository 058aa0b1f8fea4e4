use Rattle.std.proofs.Common.{◌≡◌, ◌+◌, ◌∷◌, true, false, length, take}
use Rattle.grc_ternary_run.proofs.room.put_given.Given as goal

abbrev pub invariant-loop-k : goal.invariant-loop-k
invariant-loop-k l = record {
  len : length l.sources.items ≡ length l.fn.sources.items;
  front : take (3 + l.k) l.sources.items ≡ false ∷ (true ∷ (l.start.boot ∷ take l.k l.start.inputs.now));
}
