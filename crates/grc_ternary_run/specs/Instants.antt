-- Inner: an instant of a graph as its system meets it.
use Rattle.std.specs.Prelude.{◌≡◌, ℕ, suc, Bool, false, if◌then◌else◌, List, [], ◌∷◌, length, slice_index_or, All}
use Rattle.std.specs.Prelude.{IsTrue}
use Rattle.est_kernel.specs.Plain.{program_of, given_count}
use Rattle.est_kernel.specs.Reactions.{is_given}
use Rattle.est_kernel.specs.Statuses.{Status, Minus}
use Rattle.grc_graph.specs.declared.graph.Graph.{Graph}
use Rattle.grc_graph.specs.PlainGraphs.{plain_graph}
use Rattle.grc_graph.specs.Readings.{state_holds_at}
use Rattle.grc_graph.specs.Walk.{State, is_initial}
use Rattle.grc_graph.specs.Wires.{Wire, same_wire}
use Rattle.grc_ternary.specs.LeastSolutions.{Statuses}
use Rattle.grc_ternary_gates.specs.Tables.{IsFixed}
use Rattle.grc_ternary_run.specs.declared.numbers.Counts.{Counts}
use Rattle.grc_ternary_run.specs.Numbers.{input_number, selected_number}

-- what an instant begins with. No leaf is selected in the first one.
pub record Instant (g : Graph) : Type 0 where
  pub boot : Bool
  pub bits : List Bool
  pub event : List Bool
  pub one_per_leaf : length bits ≡ length g.next.items
  pub one_per_given : length event ≡ given_count (program_of g.program)
  pub unselected : IsTrue boot → All (λ b. b ≡ false) bits

-- the values of the sources in an instant, in a state
pub record AreSources (g : Graph) (c : Counts) (q : State) (t : Instant g) (S : List Bool) : Type 0 where
  pub fixed : IsFixed S
  pub boot : slice_index_or S 2 false ≡ is_initial q
  pub input : (s : ℕ) → slice_index_or S (input_number c s) false ≡ is_given t.event s
  pub selected : (n : ℕ) → slice_index_or S (selected_number c n) false ≡ state_holds_at q (plain_graph g).body n

-- the statuses that these wires have by number; what is not among them is false
abbrev pub status_named : List Wire → (ℕ → Status) → Statuses
status_named [] V u = Minus
status_named (w ∷ ws) V u = if same_wire u w then V 0 else status_named ws (λ n. V (suc n)) u
