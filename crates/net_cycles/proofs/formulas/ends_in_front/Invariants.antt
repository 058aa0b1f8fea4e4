use Rattle.std.proofs.Common.{◌≡◌, ◌+◌, drop}
use Rattle.std.specs.List.{prefix_len}
use Rattle.grc_formulas.specs.WordLaws.{is_end_upto}
use Rattle.net_cycles.proofs.formulas.ends_in_front.Given as goal

abbrev pub invariant-loop-count : goal.invariant-loop-count
invariant-loop-count l =
    prefix_len (is_end_upto l.instance.0 l.code) l.wires ≡ l.count + prefix_len (is_end_upto l.instance.0 l.code) (drop l.count l.wires)
