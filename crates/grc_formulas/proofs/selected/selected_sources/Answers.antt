use Rattle.std.proofs.Common.{◌≡◌, length, sym, subst, arith}
use Rattle.std.proofs.lemmas.List.{with_items_is}
use Rattle.est_kernel.specs.Plain.{program_of}
use Rattle.grc_graph.proofs.Exports.{length-statements}
use Rattle.grc_formulas.specs.Choosing.{SelectedMade}
use Rattle.grc_formulas.proofs.selected.selected_sources.Goals as goal

pub leaf_sources-requires : goal.leaf_sources-requires
leaf_sources-requires c =
    omega (arith, length-statements (program_of c.args.graph.now.program) c.args.statements.now c.requires.statements)

pub returns : goal.returns
returns c =
    let many : length c.select_parts.new.sources ≡ c.in_ok-sources.sources.len =
    omega (
      arith,
      c.in_ok-select_parts.ensures.many,
      c.in_ok-sources.ensures.many,
      c.in_ok-sources.sources.ok.0,
      length-statements (program_of c.args.graph.now.program) c.args.statements.now c.requires.statements,
    ) in
    subst (λ xs. SelectedMade c.args.graph.now xs c.select_parts.new.rows.items 0)
    (sym (with_items_is c.in_ok-sources.sources c.select_parts.new.sources many)) c.in_ok-select_parts.ensures
