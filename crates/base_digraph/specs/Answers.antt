-- Contract: what the calls answer.
use Rattle.std.specs.Prelude.{ℕ, ◌<◌, Bool, true, false, List, All}
use Rattle.base_digraph.specs.declared.ranking.RanksOrCycle.{RanksOrCycle}
use Rattle.base_digraph.specs.declared.ranking.RanksOrCycle.TheVariants.{Ranks, Cycle}
use Rattle.base_digraph.specs.declared.wide.WideRanksOrCycle.{WideRanksOrCycle}
use Rattle.base_digraph.specs.declared.wide.WideRanksOrCycle.TheVariants as wide
use Rattle.base_digraph.specs.Walks.{AreRanks, IsOrderOf, IsClosedWalk}

-- ranks are ranks along the edges, with the nodes in their order, and a cycle is a closed walk
abbrev pub IsAnswer : ℕ → List (ℕ × ℕ) → RanksOrCycle → Type 0
IsAnswer count edges (Ranks r) = AreRanks count edges r.ranks.items × IsOrderOf r.ranks.items r.order.items
IsAnswer count edges (Cycle walk) = IsClosedWalk edges walk.items

abbrev pub is_cycle : RanksOrCycle → Bool
is_cycle (Ranks r) = false
is_cycle (Cycle walk) = true

-- the same of any number of nodes
abbrev pub IsWideAnswer : ℕ → List (ℕ × ℕ) → WideRanksOrCycle → Type 0
IsWideAnswer count edges (wide.Ranks r) =
    AreRanks count edges r.ranks.items × IsOrderOf r.ranks.items r.order.items
    × All (λ node. node < count) r.order.items
IsWideAnswer count edges (wide.Cycle walk) = IsClosedWalk edges walk.items

abbrev pub is_wide_cycle : WideRanksOrCycle → Bool
is_wide_cycle (wide.Ranks r) = false
is_wide_cycle (wide.Cycle walk) = true
