use Rattle.std.proofs.Common.{◌≡◌, drop}
use Rattle.sat_kernel.specs.Clauses.{plain_assumed, plain_derived}
use Rattle.sat_kernel.specs.Propagation.{cited, cleared_along}
use Rattle.sat_kernel.proofs.propagation.clear_along.Given as goal

abbrev pub invariant-loop-hint : goal.invariant-loop-hint
invariant-loop-hint l =
    cleared_along (cited (plain_assumed l.assumed) (plain_derived l.derived)) l.marks (drop l.hint-index l.hints)
    ≡ cleared_along (cited (plain_assumed l.assumed) (plain_derived l.derived)) l.initial.marks l.hints
