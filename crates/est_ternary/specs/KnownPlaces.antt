-- Inner: when the three-valued walk of a term asks for nothing that is unknown.
use Rattle.std.specs.Prelude.{⊤}
use Rattle.est_kernel.specs.Terms.{Term, Nothing, Pause, Emit, Exit, Present, Suspend, Seq, Loop, Par, Trap, Local}
use Rattle.est_kernel.specs.Terms.{Awake}
use Rattle.est_kernel.specs.Statuses.{Status, Plus, Minus, Unknown, Environment, with_status, value, opposite}
use Rattle.est_kernel.specs.Statuses.{conjunction}
use Rattle.est_ternary.specs.TriWalks.{tri, tri_decided}

-- a status is present or absent
abbrev pub IsKnown : Status → Type 0
IsKnown Plus = ⊤
IsKnown Minus = ⊤
IsKnown Unknown = ⊥

-- In the walk of a term that runs with status g it is known of each place whether it runs, and of each local signal
-- whether it is present.
abbrev pub Known : Term → Status → Environment → Type 0
Known Nothing g E = IsKnown g
Known Pause g E = IsKnown g
Known (Emit s) g E = IsKnown g
Known (Exit c) g E = IsKnown g
Known (Present e p q) g E =
    IsKnown g
    × Known p (conjunction g (value e E)) E
    × Known q (conjunction g (opposite (value e E))) E
Known (Suspend e p) g E = IsKnown g × Known p g E
Known (Seq p q) g E = IsKnown g × Known p g E × Known q ((tri p g E).codes 0) E
Known (Loop at p) g E = IsKnown g × Known p g E
Known (Par p q) g E = IsKnown g × Known p g E × Known q g E
Known (Trap p) g E = IsKnown g × Known p g E
Known (Local s p) g E =
    IsKnown g × IsKnown (tri_decided p g E s) × Known p g (with_status E s (tri_decided p g E s))
Known (Awake e p) g E = IsKnown g × Known p (conjunction g (opposite (value e E))) E
