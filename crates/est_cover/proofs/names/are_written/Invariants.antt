use Rattle.std.proofs.Common.{◌≡◌, map, drop}
use Rattle.std.specs.List.{list_all}
use Rattle.base_types.specs.Names.{is_name}
use Rattle.est_cover.proofs.names.are_written.Given as goal

abbrev pub invariant-loop-signal : goal.invariant-loop-signal
invariant-loop-signal l =
    list_all is_name (map (λ s. s.name) (drop l.signal-index l.signals)) ≡ list_all is_name (map (λ s. s.name) l.signals)
