-- Inner: states of two netlists that match by what is claimed of them.
use Rattle.std.specs.Prelude.{◌≡◌, Bool, true, false, List, length, map}
use Rattle.net_ir.specs.Netlists.{Netlist}
use Rattle.net_ir.specs.Runs.{net_values}
use Rattle.net_follow.specs.declared.literals.Equation.{Equation}
use Rattle.net_follow.specs.Literals.{MeetsAll, moved_equation}
use Rattle.net_follow.specs.Frames.{frame, first_equations, step_equations}
use Rattle.net_follow.specs.Proving.{Entails}
use Rattle.net_follow.specs.Following.{IsWide}

-- the facts are shown of the first instant, and of each one where they hold one instant before
pub record AreShown (old new : Netlist) (facts : List Equation) : Type 0 where
  pub at_first : Entails (first_equations old new) (map (moved_equation false) facts)
  pub later : Entails (step_equations old new facts) (map (moved_equation true) facts)

-- the facts hold of the values of two netlists in an instant
abbrev pub HoldIn : List Equation → List Bool → List Bool → Type 0
HoldIn facts v w = MeetsAll (λ late. frame v w) facts

-- latch values of two netlists, from which the facts hold whatever the inputs are
pub record Matches (old new : Netlist) (facts : List Equation) (s t : List Bool) : Type 0 where
  pub old_count : length s ≡ length old.latches
  pub new_count : length t ≡ length new.latches
  pub hold : (inputs : List Bool) → IsWide old inputs → HoldIn facts (net_values old s inputs) (net_values new t inputs)
