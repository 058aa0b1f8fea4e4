use Rattle.std.proofs.Common.{◌≡◌, drop}
use Rattle.std.specs.List.{list_any}
use Rattle.sat_kernel.specs.declared.literals.Literal.{Literal}
use Rattle.sat_kernel.specs.Clauses.{opposite}
use Rattle.sat_kernel.specs.Propagation.{is_same}
use Rattle.net_never.proofs.proving.is_tautology.Given as goal

abbrev pub invariant-loop-literal : goal.invariant-loop-literal
invariant-loop-literal l =
    list_any (λ (k : Literal). list_any (is_same (opposite k)) l.clause) (drop l.literal-index l.clause)
    ≡ list_any (λ (k : Literal). list_any (is_same (opposite k)) l.clause) l.clause
