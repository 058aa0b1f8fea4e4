-- Inner: what is kept and held of a statement, from what is kept and held of the statement around it.
use Rattle.std.specs.Prelude.{◌≡◌, ℕ, Bool, true, false, ◌&&◌, ◌||◌, Option, Some, None, MatchOption, List}
use Rattle.est_kernel.specs.Terms.{Term, Nothing, Pause, Emit, Exit, Present, Suspend, Seq, Loop, Par, Trap, Local}
use Rattle.est_kernel.specs.Terms.{Awake}
use Rattle.grc_graph.specs.Layers.{Layer, Resumed, layer_above, same_layer}
use Rattle.grc_graph.specs.Readings.{Valuation, seen_values, kept_at, held_at}
use Rattle.grc_graph.specs.Rows.{Row, row_at}
use Rattle.grc_graph.specs.Scopes.{Scope}
pub use Rattle.grc_graph.specs.Statements.{around}
use Rattle.grc_graph.specs.Walk.{Values, truth}
use Rattle.grc_graph.specs.Wires.{Go, End}

-- a parallel at n ends with code 1; of other statements nothing is asked
abbrev pub lasts : Valuation → Term → ℕ → Layer → Bool
lasts V Nothing n l = true
lasts V Pause n l = true
lasts V (Emit s) n l = true
lasts V (Exit k) n l = true
lasts V (Present e p q) n l = true
lasts V (Suspend e p) n l = true
lasts V (Seq p q) n l = true
lasts V (Loop at p) n l = true
lasts V (Par p q) n l = V (End n l 1)
lasts V (Trap p) n l = true
lasts V (Local s p) n l = true
lasts V (Awake e p) n l = true

-- a resumed suspension at n runs with a true test
abbrev pub suspends : Values → Valuation → Scope → Term → ℕ → Layer → Bool
suspends given V B Nothing n l = false
suspends given V B Pause n l = false
suspends given V B (Emit s) n l = false
suspends given V B (Exit k) n l = false
suspends given V B (Present e p q) n l = false
suspends given V B (Suspend e p) n l = same_layer l Resumed
    && (V (Go n Resumed) && truth e (seen_values given V B Resumed))
suspends given V B (Seq p q) n l = false
suspends given V B (Loop at p) n l = false
suspends given V B (Par p q) n l = false
suspends given V B (Trap p) n l = false
suspends given V B (Local s p) n l = false
suspends given V B (Awake e p) n l = false

-- The values of Kept and Held of a body.
pub record Readings : Type 0 where
  pub given : Values
  pub wires : Valuation
  pub scope : Scope
  pub body : Term

abbrev pub kept_of : Readings → ℕ → Layer → Bool
kept_of r m l = kept_at r.wires r.body 0 m l

abbrev pub held_of : Readings → ℕ → Layer → Bool
held_of r m l = held_at r.given r.wires r.scope r.body 0 m l

-- what is kept and held of the statement c, whose list entry is x, if none is around it, or if n is
pub record IsOutermost (r : Readings) (x : Row) (c : ℕ) : Type 0 where
  pub kept : (l : Layer) → kept_of r c l ≡ true
  pub held : (l : Layer) → held_of r c l ≡ suspends r.given r.wires x.scope x.statement c (layer_above c l)

pub record IsWithin (r : Readings) (around x : Row) (n c : ℕ) : Type 0 where
  pub kept : (l : Layer) → kept_of r c l ≡ (kept_of r n (layer_above n l)
      && lasts r.wires around.statement n (layer_above n l))
  pub held : (l : Layer) → held_of r c l
      ≡ (held_of r n (layer_above n l) || (kept_of r c l
      && suspends r.given r.wires x.scope x.statement c (layer_above c l)))

abbrev pub FollowsAround : Readings → List Row → ℕ → Type 0
FollowsAround r W c =
    MatchOption (around (row_at W c).entry) (IsOutermost r (row_at W c) c)
    (λ n. IsWithin r (row_at W n) (row_at W c) n c)
