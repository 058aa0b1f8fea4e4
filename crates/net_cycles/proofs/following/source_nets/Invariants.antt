use Rattle.std.proofs.Common.{◌≡◌, [], ◌∷◌, ◌++◌, map, take}
use Rattle.net_cycles.specs.Bases.{numbered_nets, source_net}
use Rattle.net_cycles.proofs.following.source_nets.Given as goal

abbrev pub invariant-loop-signal : goal.invariant-loop-signal
invariant-loop-signal l = record { made : l.nets.items ≡ l.base.no ∷ (l.base.yes ∷ (record { 0 = l.base.given } ∷ numbered_nets l.signal)) }

abbrev pub invariant-loop-source : goal.invariant-loop-source
invariant-loop-source l = record {
  made : l.nets.items
      ≡ l.base.no ∷
      (l.base.yes ∷
      (record { 0 = l.base.given } ∷ (numbered_nets l.base.given ++ map (source_net l.base [] l.rows) (take l.source-index l.words.selected.items))));
}
