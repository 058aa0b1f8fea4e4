use Rattle.std.proofs.Common.{◌≡◌, ◌-◌, ◌++◌}
use Rattle.est_gen.specs.Sources.{names_from}
use Rattle.est_gen.proofs.sources.put_names.Given as goal

-- what is written, and what is still to write, are the whole
abbrev pub invariant-loop-number : goal.invariant-loop-number
invariant-loop-number l =
    l.text.items ++ names_from l.mark l.number (l.count - l.number) ≡ l.fn.text.items ++ names_from l.mark 0 l.count
