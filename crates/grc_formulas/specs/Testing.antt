-- Inner: tests as sources.
use Rattle.std.specs.Prelude.{◌≡◌, ℕ, ◌+◌, ◌≤◌, false, nat_lt, if◌then◌else◌, List, length, map, take, drop, Option}
use Rattle.std.specs.Prelude.{Some, None, IsTrue}
use Rattle.base_types.specs.declared.indices.SigId.{SigId}
use Rattle.base_types.specs.declared.indices.WireId.{WireId}
use Rattle.est_kernel.specs.Reactions.{is_given}
use Rattle.est_kernel.specs.Terms.{Expression}
use Rattle.grc_graph.specs.declared.graph.Graph.{Graph}
use Rattle.grc_graph.specs.declared.statements.Binding as bindings
use Rattle.grc_graph.specs.Layers.{Resumed}
use Rattle.grc_graph.specs.Readings.{seen_value, seen_values}
use Rattle.grc_graph.specs.Scopes.{Scope}
use Rattle.grc_graph.specs.Statements.{signals_in}
use Rattle.grc_graph.specs.StatementViews.{binding_of}
use Rattle.grc_graph.specs.Walk.{truth}
use Rattle.grc_formulas.specs.declared.table.Source.{Source}
use Rattle.grc_formulas.specs.declared.table.Source.TheVariants as sources
use Rattle.grc_formulas.specs.declared.table.Row.{Row}
use Rattle.grc_formulas.specs.declared.tests_of.Tested.{Tested}
use Rattle.grc_formulas.specs.Building.{Says, Extends, rows_below}
use Rattle.grc_formulas.specs.Rows.{source_fits}
use Rattle.grc_graph.specs.RowCosts.{operators}
use Rattle.grc_formulas.specs.WordLaws.{late_bounds}

-- what says that the event gives a signal
abbrev pub given_source : (given : ℕ) → SigId → Source
given_source given s = if nat_lt s.0 given then sources.Input s else sources.Const false

-- a wire, if there is one
abbrev pub wire_source : Option WireId → Source
wire_source None = sources.Const false
wire_source (Some w) = sources.Wire w

-- a source says that a signal with this binding is present, as a resumed place sees it
abbrev pub SignalSaid : (g : Graph) → ℕ → bindings.Binding → Source → Type 0
SignalSaid g s b x = (rows : List Row)
    → Says g (late_bounds g 0) rows x (λ t. seen_value (is_given t.event) t.valuation (binding_of b) s Resumed)

-- A test was made from a place of the list of bindings on. It says that the test is true, whatever scope the bindings
-- of its signals are of.
pub record TestMade (g : Graph) (signals : List bindings.Binding) (e : Expression) (place : ℕ) (old new : List Row)
    (made : Tested) : Type 0 where
  pub extends : Extends (late_bounds g 0) old new
  pub few : length new ≤ length old + operators e
  pub after : made.after ≡ place + length (signals_in e)
  pub fits : IsTrue (source_fits (rows_below (late_bounds g 0) (length new)) made.source)
  pub says : (B : Scope) → map binding_of (take (length (signals_in e)) (drop place signals)) ≡ map B (signals_in e)
      → Says g (late_bounds g 0) new made.source (λ t. truth e (seen_values (is_given t.event) t.valuation B Resumed))
