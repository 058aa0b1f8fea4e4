use Rattle.std.proofs.Common.{◌≡◌, ◌<◌, length, slice_index_or, sym, ap, ◌∙◌, subst, IsTrue, nat_lt, All}
use Rattle.std.proofs.lemmas.Bool.{ltb-true}
use Rattle.std.proofs.lemmas.List.Sums.{AllPass-from_list_all}
use Rattle.std.specs.List.{list_any}
use Rattle.base_types.specs.declared.indices.WireId.{WireId}
use Rattle.grc_graph.specs.declared.formulas.Formula.{Formula}
use Rattle.grc_graph.specs.GraphShapes.{formula_fits}
use Rattle.grc_graph.specs.PlainGraphs.{formula_of, instances_of, names_of}
use Rattle.grc_formulas.specs.Rows.{source_value}
use Rattle.grc_evaluate.specs.Evaluations.{formula_under, surroundings_of, value_at, IsKnown}
use Rattle.grc_evaluate.proofs.Meanings.{selected-means, kept-means, held-means, upto-means, any-means}
use Rattle.grc_evaluate.proofs.Stages.{wire-named}
use Rattle.grc_evaluate.proofs.formulas.+evaluate.Goals as goal

pub returns-in-Wire : goal.returns-in-Wire
returns-in-Wire t c =
    let g = c.args.graph.now in
    let s = c.args.start.now in
    let wires = c.args.wires.now in
    let F = λ (x : Formula). formula_under g s wires (formula_of (instances_of g) (names_of g) x) in
    let fits = subst (λ x. IsTrue (formula_fits (length g.instances.list.items) (length g.wires.items) x)) c.in-Wire.is c.requires.fits in
    sym (wire-named g c.args.words.now s wires c.args.rows.now c.in-Wire.wire.0 c.requires.stage (ltb-true c.in-Wire.wire.0 (length g.wires.items) fits))
    ∙ ap F (sym c.in-Wire.is)

pub returns-in-Selected : goal.returns-in-Selected
returns-in-Selected t c =
    let g = c.args.graph.now in
    let s = c.args.start.now in
    let wires = c.args.wires.now in
    let rows = c.args.rows.now in
    let F = λ (x : Formula). formula_under g s wires (formula_of (instances_of g) (names_of g) x) in
    c.source_value.ensures ∙ ap (source_value (surroundings_of s wires) rows) c.selected_source.ensures
    ∙ selected-means g c.args.words.now s wires rows c.in-Selected.path.0 c.requires.stage ∙ ap F (sym c.in-Selected.is)

pub returns-in-Upto : goal.returns-in-Upto
returns-in-Upto t c =
    let g = c.args.graph.now in
    let s = c.args.start.now in
    let wires = c.args.wires.now in
    let F = λ (x : Formula). formula_under g s wires (formula_of (instances_of g) (names_of g) x) in
    let fits = subst (λ x. IsTrue (formula_fits (length g.instances.list.items) (length g.wires.items) x)) c.in-Upto.is c.requires.fits in
    c.ends_by.ensures
    ∙ upto-means g c.args.words.now s wires c.args.rows.now c.in-Upto.instance.0 c.in-Upto.code c.requires.stage
    (ltb-true c.in-Upto.instance.0 (length g.instances.list.items) fits)
    ∙ ap F (sym c.in-Upto.is)

pub returns-in-Kept : goal.returns-in-Kept
returns-in-Kept t c =
    let g = c.args.graph.now in
    let w = c.args.words.now in
    let s = c.args.start.now in
    let wires = c.args.wires.now in
    let rows = c.args.rows.now in
    let F = λ (x : Formula). formula_under g s wires (formula_of (instances_of g) (names_of g) x) in
    let fits = subst (λ x. IsTrue (formula_fits (length g.instances.list.items) (length g.wires.items) x)) c.in-Kept.is c.requires.fits in
    let low = ltb-true c.in-Kept.instance.0 (length g.instances.list.items) fits in
    let all = subst (IsKnown (length rows ≡ length w.rows.items)) c.in-Kept.is c.requires.known in
    c.source_value-in-Kept.ensures ∙ ap (source_value (surroundings_of s wires) rows) c.index.ensures
    ∙ kept-means g w s wires rows c.in-Kept.instance.0 c.index.result.now c.requires.stage all low ∙ ap F (sym c.in-Kept.is)

pub returns-in-Held : goal.returns-in-Held
returns-in-Held t c =
    let g = c.args.graph.now in
    let w = c.args.words.now in
    let s = c.args.start.now in
    let wires = c.args.wires.now in
    let rows = c.args.rows.now in
    let F = λ (x : Formula). formula_under g s wires (formula_of (instances_of g) (names_of g) x) in
    let fits = subst (λ x. IsTrue (formula_fits (length g.instances.list.items) (length g.wires.items) x)) c.in-Held.is c.requires.fits in
    let low = ltb-true c.in-Held.instance.0 (length g.instances.list.items) fits in
    let all = subst (IsKnown (length rows ≡ length w.rows.items)) c.in-Held.is c.requires.known in
    c.source_value-in-Held.ensures ∙ ap (source_value (surroundings_of s wires) rows) c.index-in-Held.ensures
    ∙ held-means g w s wires rows c.in-Held.instance.0 c.index-in-Held.result.now c.requires.stage all low ∙ ap F (sym c.in-Held.is)

pub returns-in-AnyOf : goal.returns-in-AnyOf
returns-in-AnyOf t c =
    let g = c.args.graph.now in
    let s = c.args.start.now in
    let wires = c.args.wires.now in
    let F = λ (x : Formula). formula_under g s wires (formula_of (instances_of g) (names_of g) x) in
    let list = c.in-AnyOf.list.items in
    let fits = subst (λ x. IsTrue (formula_fits (length g.instances.list.items) (length g.wires.items) x)) c.in-AnyOf.is c.requires.fits in
    let low : All (λ (v : WireId). v.0 < length g.wires.items) list = λ k x h. ltb-true (slice_index_or list k x).0 (length g.wires.items)
    (AllPass-from_list_all (λ (u : WireId). nat_lt u.0 (length g.wires.items)) list fits k x h) in
    c.any_of.ensures ∙ ap (list_any (λ (v : WireId). value_at wires v.0)) c.deref-in-AnyOf.ensures.value
    ∙ any-means g c.args.words.now s wires c.args.rows.now list c.requires.stage low ∙ ap F (sym c.in-AnyOf.is)
