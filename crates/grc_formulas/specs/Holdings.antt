-- Inner: what is made for the words on parallels and suspensions.
use Rattle.std.specs.Prelude.{◌≡◌, ℕ, ◌+◌, ◌<◌, ◌≤◌, Bool, true, false, Option, Some, None, List, length, map, take}
use Rattle.std.specs.Prelude.{slice_index_or}
use Rattle.std.specs.List.{sum_by}
use Rattle.est_kernel.specs.Plain.{program_of}
use Rattle.est_kernel.specs.Preorder.{statement_count}
use Rattle.est_kernel.specs.Reactions.{is_given}
use Rattle.est_kernel.specs.Terms.{Expression, Term}
use Rattle.grc_graph.specs.declared.graph.Graph.{Graph}
use Rattle.grc_graph.specs.declared.neighbours.Neighbours.{Neighbours}
use Rattle.grc_graph.specs.declared.statements.Statement.{Statement}
use Rattle.grc_graph.specs.Instances.{Instance}
use Rattle.grc_graph.specs.Layers.{Layer, Resumed, Started, layer_above}
use Rattle.grc_graph.specs.Neighbouring.{instances_in, names_in}
use Rattle.grc_graph.specs.PlainGraphs.{instances_of, names_of, instance_at, plain_graph}
use Rattle.grc_graph.specs.Rows as listed_rows
use Rattle.grc_graph.specs.Statements.{Listed, program_listed}
use Rattle.grc_graph.specs.StatementViews.{view_of}
use Rattle.grc_formulas.specs.declared.table.Source.{Source}
use Rattle.grc_formulas.specs.declared.table.Source.TheVariants as sources
use Rattle.grc_formulas.specs.declared.table.Row.{Row}
use Rattle.grc_formulas.specs.Building.{Says, Extends}
use Rattle.grc_formulas.specs.Enclosures.{Readings, around, kept_of, held_of, lasts, suspends}
use Rattle.grc_formulas.specs.Occasions.{Occasion}
use Rattle.grc_formulas.specs.Sizes.{statement_row, instance_rows, lasting_rows}
use Rattle.grc_graph.specs.RowCosts.{test_of, operators}
use Rattle.grc_formulas.specs.WordLaws.{late_bounds}
use Rattle.grc_graph.specs.Scopes.{program_scope}
use Rattle.est_kernel.specs.Plain.{interface_count}

-- the lists are those of the graph and of its program
pub record AreListed (g : Graph) (near : Neighbours) (list : List Statement) : Type 0 where
  pub instances : instances_in near ≡ instances_of g
  pub wires : names_in near ≡ names_of g
  pub statements : map view_of list ≡ program_listed (program_of g.program)

-- how Kept and Held are read on an occasion
abbrev pub readings : (g : Graph) → Occasion g → Readings
readings g t = record {
  given = is_given t.event;
  wires = (plain_graph g).lasting t.valuation;
  scope = program_scope (program_of g.program).inputs (interface_count (program_of g.program));
  body = (program_of g.program).body;
}

pub record StatementRead (g : Graph) (c : ℕ) (s : Listed) : Type 0 where
  pub low : c < statement_count (program_of g.program).body
  pub same : s ≡ listed_rows.listed_row (statement_row g c)

-- the instance with this number
pub record IsLive (g : Graph) (i : ℕ) (x : Instance) : Type 0 where
  pub low : i < length g.instances.list.items
  pub same : instance_at (instances_of g) i ≡ x

-- for each of so many instances the sources say that it is kept, and that it is held
pub record HoldingsMade (g : Graph) (old new : List Row) (kept held : List Source) (count : ℕ) : Type 0 where
  pub extends : Extends (late_bounds g 0) old new
  pub few : length new ≤ length old + sum_by (instance_rows g) (take count (instances_of g))
  pub kept_all : length kept ≡ count
  pub held_all : length held ≡ count
  pub kept_says : (i : ℕ) (d : Source) → i < count → Says g (late_bounds g 0) new (slice_index_or kept i d)
      (λ t. kept_of (readings g t) (instance_at (instances_of g) i).path (instance_at (instances_of g) i).layer)
  pub held_says : (i : ℕ) (d : Source) → i < count → Says g (late_bounds g 0) new (slice_index_or held i d)
      (λ t. held_of (readings g t) (instance_at (instances_of g) i).path (instance_at (instances_of g) i).layer)

-- what is held of the instance around
abbrev pub held_around : Readings → Option ℕ → Layer → Bool
held_around r None l = false
held_around r (Some n) l = held_of r n (layer_above n l)

pub record AboveMade (g : Graph) (x : Instance) (old new : List Row) (kept held : Source) : Type 0 where
  pub extends : Extends (late_bounds g 0) old new
  pub few : length new ≤ length old + 1 + lasting_rows g
  pub kept_says : Says g (late_bounds g 0) new kept (λ t. kept_of (readings g t) x.path x.layer)
  pub held_says : Says g (late_bounds g 0) new held
      (λ t. held_around (readings g t) (around (statement_row g x.path).entry) x.layer)

-- a source says what is seen of a parallel's end with code 1; of other statements nothing is asked
pub record LastsMade (g : Graph) (s : Term) (n : ℕ) (l : Layer) (old new : List Row) (x : Source) : Type 0 where
  pub extends : Extends (late_bounds g 0) old new
  pub few : length new ≤ length old + lasting_rows g
  pub says : Says g (late_bounds g 0) new x (λ t. lasts ((plain_graph g).lasting t.valuation) s n l)

-- rows for a resumed suspension, and none for other instances
abbrev pub OwnFew : Option Expression → Layer → (old new : List Row) → Source → Type 0
OwnFew None l old new own = (length new ≤ length old) × (own ≡ sources.Const false)
OwnFew (Some e) Resumed old new own = length new ≤ length old + operators e + 1
OwnFew (Some e) (Started r) old new own = (length new ≤ length old) × (own ≡ sources.Const false)

pub record OwnMade (g : Graph) (x : Instance) (old new : List Row) (own : Source) : Type 0 where
  pub extends : Extends (late_bounds g 0) old new
  pub few : OwnFew (test_of (statement_row g x.path).statement) x.layer old new own
  pub says : Says g (late_bounds g 0) new own
      (λ t. suspends (is_given t.event) t.valuation (statement_row g x.path).scope
      (statement_row g x.path).statement x.path x.layer)
