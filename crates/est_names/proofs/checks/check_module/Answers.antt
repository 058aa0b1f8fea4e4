use Rattle.std.proofs.Common.{map, sym, ap, ◌∙◌}
use Rattle.std.proofs.lemmas.Result.{err_from_is_err_and}
use Rattle.est_ast.specs.Views.{decl_of, stmt_of}
use Rattle.est_names.specs.NameFaults.{interface_faults, body_faults}
use Rattle.est_names.proofs.FirstFaults.{IsFirst-behind}
use Rattle.est_names.proofs.checks.check_module.Goals as goal

pub returns-in_err-check_body-clause-fault : goal.returns-in_err-check_body-clause-fault
returns-in_err-check_body-clause-fault c =
    let p = err_from_is_err_and c.from_residual-in_err-check_body.result c.from_residual-in_err-check_body.ensures.1 in
    let m = c.args.module.now in
    rw (p.1, p.2) (IsFirst-behind _ (interface_faults (map decl_of m.decls.items)) (body_faults (stmt_of m.body))
    (ap (λ decls. interface_faults (map decl_of decls)) (sym c.deref.ensures.value) ∙ c.in_ok-check_interface.ensures.faultless)
    c.in_err-check_body.ensures.fault)
