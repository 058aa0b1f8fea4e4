-- Contract: what a decision says.
use Rattle.std.specs.Prelude.{IsTrue, List, ⊤}
use Rattle.net_ir.specs.Netlists.{Netlist}
use Rattle.sat_kernel.specs.declared.literals.Literal.{Literal}
use Rattle.net_never.specs.Never.{IsNever}
use Rattle.net_never.specs.Reached.{events_of, is_reached}
use Rattle.net_search.specs.declared.decisions.Decision.{Decision}
use Rattle.net_search.specs.declared.decisions.Decision.TheVariants.{Never, Reached, Unknown}

-- Never: a literal over the nets is never true in a run whose instants meet the clauses. Reached: these events lead to
-- an instant where it is, the last one. Unknown: nothing.
abbrev pub IsDecision : Netlist → List (List Literal) → Literal → Decision → Type 0
IsDecision net allowed bad Never = IsNever net allowed bad
IsDecision net allowed bad (Reached events) = IsTrue (is_reached net allowed bad (events_of events.items))
IsDecision net allowed bad (Unknown length) = ⊤
