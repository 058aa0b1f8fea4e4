use Rattle.std.proofs.Common.{◌≡◌, false, ℕ, List, ◌+◌, ◌-◌, ◌<◌, length, map, slice_index_or, slice_set, refl, sym, ap, ◌∙◌, subst, arith}
use Rattle.est_kernel.specs.Plain.{program_of}
use Rattle.grc_graph.specs.declared.graph.Graph.{Graph}
use Rattle.grc_graph.specs.declared.statements.Statement.{Statement}
use Rattle.grc_graph.specs.Statements.{program_listed}
use Rattle.grc_graph.specs.StatementViews.{view_of}
use Rattle.grc_graph.proofs.Exports.{statement_read, length-statements}
use Rattle.grc_formulas.specs.declared.selected.Parts.{Parts}
use Rattle.grc_formulas.specs.declared.selected.Parts.TheVariants as kinds
use Rattle.std.proofs.Common.{Vec, Global}
use Rattle.grc_formulas.specs.declared.table.Row as tables
use Rattle.grc_formulas.specs.declared.table.Source.TheVariants.{Const}
use Rattle.grc_formulas.specs.Choosing.{SelectedMade}
use Rattle.grc_formulas.specs.PartKinds.{parts_of}
use Rattle.grc_formulas.proofs.PartSteps.{RowRead, selected-begun, select-itself, select-none, select-one, select-two, one-within, two-within}
use Rattle.grc_formulas.proofs.selected.select_parts.Goals as goal
use Rattle.grc_formulas.proofs.selected.select_parts.Goals.{in-Itself, in-None, in-One, in-Two+in_ok-source-in-Two}

read-row : (g : Graph) (list : List Statement) (j : ℕ) (s : Statement) (kind : Parts) → map view_of list ≡ program_listed (program_of g.program)
    → j < length list → s ≡ slice_index_or list j s → kind ≡ parts_of (view_of s) → RowRead g j kind
read-row g list j s kind listed low read e =
    let many = length-statements (program_of g.program) list listed in
    record {
      low = omega arith;
      kind_is = e ∙ ap parts_of (statement_read (program_of g.program) list j s listed (omega arith) read);
    }

pub loop-place-init : goal.loop-place-init
loop-place-init c =
    let g = c.args.graph.now in
    let many = length-statements (program_of g.program) c.args.statements.now c.requires.statements in
    selected-begun g c.args.rows.now.items c.args.sources.now (length c.args.statements.now) (length c.args.statements.now) c.requires.leaves c.requires.begun
    many refl

pub slice_copy_out-source : goal.slice_copy_out-source
slice_copy_out-source c =
    let g = c.args.graph.now in
    let j = c.loop-place.place - 1 in
    let row = read-row g c.args.statements.now j c.index-statements-place.result kinds.One c.requires.statements (omega arith) c.index-statements-place.is
    c.in-One.ensures in
    omega (arith, one-within g j row, c.loop-place.invariant.many)

pub slice_copy_out-first : goal.slice_copy_out-first
slice_copy_out-first c =
    let g = c.args.graph.now in
    let j = c.loop-place.place - 1 in
    let row = read-row g c.args.statements.now j c.index-statements-place.result (kinds.Two c.in-Two.second) c.requires.statements (omega arith)
    c.index-statements-place.is c.in-Two.ensures in
    omega (arith, two-within g j c.in-Two.second row, c.loop-place.invariant.many)

pub slice_copy_out-other : goal.slice_copy_out-other
slice_copy_out-other c =
    let g = c.args.graph.now in
    let j = c.loop-place.place - 1 in
    let row = read-row g c.args.statements.now j c.index-statements-place.result (kinds.Two c.in-Two.second) c.requires.statements (omega arith)
    c.index-statements-place.is c.in-Two.ensures in
    omega (arith, two-within g j c.in-Two.second row, c.loop-place.invariant.many)

pub loop-place-preserved : goal.loop-place-preserved
loop-place-preserved c =
    let g = c.args.graph.now in
    let j = c.loop-place.place - 1 in
    let sources = c.loop-place.sources in
    let rows = c.loop-place.rows.items in
    let m = c.loop-place.invariant in
    let at : c.loop-place.place ≡ j + 1 = omega arith in
    let low : j < length c.args.statements.now = omega arith in
    let row = λ (kind : Parts). read-row g c.args.statements.now j c.index-statements-place.result kind c.requires.statements low c.index-statements-place.is in
    let source = c.match-parts_of.source in
    elim c.match-parts_of.branch [
      | in-Itself w ↦
          subst (λ (v : Vec tables.Row Global). SelectedMade g (slice_set sources j source) v.items j) (sym w.rows-is)
          (select-itself g rows sources c.loop-place.place j source _ m at (row kinds.Itself w.in-Itself.ensures) w.source-is)
      | in-None w ↦
          subst (λ (v : Vec tables.Row Global). SelectedMade g (slice_set sources j source) v.items j) (sym w.rows-is)
          (subst (λ x. SelectedMade g (slice_set sources j x) rows j) (sym w.source-is)
          (select-none g rows sources c.loop-place.place j m at (row kinds.None w.in-None.ensures)))
      | in-One w ↦
          subst (λ (v : Vec tables.Row Global). SelectedMade g (slice_set sources j source) v.items j) (sym w.rows-is)
          (select-one g rows sources c.loop-place.place j source _ m at (row kinds.One w.in-One.ensures) w.source-is)
      | in-Two+in_ok-source-in-Two w ↦
          subst (λ (v : Vec tables.Row Global). SelectedMade g (slice_set sources j source) v.items j) (sym w.rows-is)
          (select-two g rows w.either.new.rows.items sources c.loop-place.place j w.in-Two.second source (slice_index_or sources (j + 1) (Const false))
          (slice_index_or sources w.in-Two.second (Const false)) (Const false) m at (row (kinds.Two w.in-Two.second) w.in-Two.ensures) refl refl
          w.in_ok-source-in-Two.ensures.rows (w.source-is ∙ w.in_ok-source-in-Two.ensures.source))
    ]
