use Rattle.std.proofs.Common.{◌≡◌, ◌+◌, ◌++◌, map, drop}
use Rattle.est_expand.specs.Flattening.{numbers}
use Rattle.est_expand.proofs.binders.signals_from.Given as goal

-- the numbers so far, and those of the names that are left
abbrev pub invariant-loop-name : goal.invariant-loop-name
invariant-loop-name l = record {
  number : l.next ≡ l.first + l._name-index;
  left : map (λ s. s.0) l.found.items ++ numbers l.next (map (λ name. name.now) (drop l._name-index l.names))
      ≡ numbers l.first (map (λ name. name.now) l.names);
}
