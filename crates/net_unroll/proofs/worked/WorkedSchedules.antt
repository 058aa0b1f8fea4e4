-- Two nodes that read each other, by hand: a = x and b, b = not x or a, where x is a source.
use Rattle.std.proofs.Common.{◌≡◌, ℕ, true, false, List, [], ◌∷◌, map, refl}
use Rattle.est_kernel.specs.Statuses.{Plus, Minus, Unknown}
use Rattle.grc_ternary_gates.specs.declared.gates.Gate.{Gate}
use Rattle.grc_ternary_gates.specs.declared.gates.Gate.TheVariants as gates
use Rattle.net_unroll.specs.Schedules.{all_false, are_known, nothing_known, statuses_along, truths_along}

-- 0: a, 1: b, 2: x, 3: not x
abbrev both : List Gate
both = gates.And 2 1 ∷ gates.Or 3 0 ∷ gates.Source 0 ∷ gates.Not 2 ∷ []

abbrev nodes : List ℕ
nodes = 0 ∷ 1 ∷ 2 ∷ 3 ∷ []

abbrev schedule : List ℕ
schedule = 2 ∷ 3 ∷ 0 ∷ 1 ∷ []

-- x is false: a is false, and so b is true
where_false : map (statuses_along both (false ∷ []) nothing_known schedule) nodes ≡ Minus ∷ Plus ∷ Minus ∷ Plus ∷ []
where_false = refl

truths_where_false : map (truths_along both (false ∷ []) all_false schedule) nodes ≡ false ∷ true ∷ false ∷ true ∷ []
truths_where_false = refl

-- x is true: a is b and b is a, and nothing is known of either, however often they stand in the schedule
where_true : map (statuses_along both (true ∷ []) nothing_known (2 ∷ 3 ∷ 0 ∷ 1 ∷ 0 ∷ 1 ∷ [])) nodes ≡ Unknown ∷ Unknown ∷ Plus ∷ Minus ∷ []
where_true = refl

they_are_not_known : are_known (statuses_along both (true ∷ []) nothing_known schedule) nodes ≡ false
they_are_not_known = refl

-- b before a: one pass leaves b unknown where x is false too, and a second one finds it
one_pass : map (statuses_along both (false ∷ []) nothing_known (2 ∷ 1 ∷ 3 ∷ 0 ∷ [])) nodes ≡ Minus ∷ Unknown ∷ Minus ∷ Plus ∷ []
one_pass = refl

two_passes : map (statuses_along both (false ∷ []) nothing_known (2 ∷ 1 ∷ 3 ∷ 0 ∷ 1 ∷ [])) nodes ≡ Minus ∷ Plus ∷ Minus ∷ Plus ∷ []
two_passes = refl
