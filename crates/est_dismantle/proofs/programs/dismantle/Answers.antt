use Rattle.std.proofs.Common.{sym, ◌∙◌, ap}
use Rattle.est_ast.specs.FlatViews.{flat_of}
use Rattle.est_kernel.specs.Plain.{program_of}
use Rattle.est_dismantle.specs.Expansions.{Expanded, expansion, kernel_body, program_in}
use Rattle.est_dismantle.proofs.Expanded.{expansion-well_formed}
use Rattle.est_dismantle.proofs.programs.dismantle.Goals as goal

pub returns-in_ok-program-in-None-clause-well_formed : goal.returns-in_ok-program-in-None-clause-well_formed
returns-in_ok-program-in-None-clause-well_formed c h =
    let lent = c.deref.ensures in
    expansion-well_formed (flat_of c.args.flat.value) (program_of c.in_ok-program-in-None.field-0) h
    (ap (λ f. expansion (flat_of f)) (sym lent) ∙ c.in-None.ensures ∙ ap (λ f. Expanded (program_in (flat_of f) (kernel_body (flat_of f)))) lent
    ∙ ap Expanded (sym c.in_ok-program-in-None.ensures))
