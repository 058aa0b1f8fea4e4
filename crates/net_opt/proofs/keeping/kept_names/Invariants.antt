use Rattle.std.proofs.Common.{◌≡◌, ℕ, ◌<◌, length}
use Rattle.net_simp.specs.Renaming.{stand_in}
use Rattle.net_simp.specs.Packing.{rank}
use Rattle.net_opt.proofs.keeping.kept_names.Given as goal

abbrev pub invariant-loop-place : goal.invariant-loop-place
invariant-loop-place l = record {
  count : length l.names.items ≡ l.place;
  number : l.number ≡ rank l.marks l.place;
  ranked : (n : ℕ) → n < length l.names.items → stand_in l.names.items n ≡ rank l.marks n;
}
