-- To believe: which live instances of a statement are one shared instance, and which statuses of a Local are one.
--
-- Two starts of one statement that no loop distinguishes never run in one instant: where the outer one starts, nothing
-- below its root is selected, so what would start the inner one does not run. So the started instances of a statement
-- that have the same number of loop bodies above their roots are one shared instance. Each loop adds one. In
-- Potop-Butucaru, Edwards and Berry, "Compiling Esterel", the surface of a statement is drawn once; here it is drawn
-- once for each loop around it, and once in addition.
use Rattle.std.specs.Prelude.{ℕ, Bool, true, false, ◌==◌}
use Rattle.grc_graph.specs.Layers.{Layer, Resumed, Started}
pub use Rattle.grc_graph.specs.LoopKeys.{Sharing, body_sharing, key, loops_above, loops_at}

-- Two instances of a statement are one: both started, under as many loop bodies. What is resumed is one by itself.
abbrev pub one_instance : Sharing → ℕ → Layer → Layer → Bool
one_instance K n Resumed Resumed = true
one_instance K n Resumed (Started r) = false
one_instance K n (Started q) Resumed = false
one_instance K n (Started q) (Started r) = K.root q == K.root r

-- Two instances of a Local have one status: so have those that are one, and what is resumed has that of the start with
-- its key.
abbrev pub one_status : Sharing → ℕ → Layer → Layer → Bool
one_status K n l j = key K n l == key K n j
