use Rattle.std.proofs.Common.{◌≡◌, map, drop}
use Rattle.std.specs.List.{list_any}
use Rattle.base_types.specs.Names.{is_same_name}
use Rattle.est_cover.proofs.names.is_among.Given as goal

-- no signal so far has the name
abbrev pub invariant-loop-signal : goal.invariant-loop-signal
invariant-loop-signal l =
    list_any (is_same_name l.name) (map (λ s. s.name) (drop l.signal-index l.signals)) ≡ list_any (is_same_name l.name) (map (λ s. s.name) l.signals)
