use Rattle.std.proofs.Common.{◌∷◌, map, drop, sym, ap, ◌∙◌, subst, arith, suc, drop-cons}
use Rattle.std.specs.Prelude.{flat_map}
use Rattle.std.proofs.lemmas.Result.{err_from_is_err_and}
use Rattle.base_types.specs.Stops.{FaultIs}
use Rattle.est_ast.specs.Views.{module_of}
use Rattle.est_names.specs.NameFaults.{module_faults, IsFirst}
use Rattle.est_names.proofs.FirstFaults.{IsFirst-append}
use Rattle.est_names.proofs.checks.check_all.Goals as goal

pub returns-in_err-check_module-clause-fault : goal.returns-in_err-check_module-clause-fault
returns-in_err-check_module-clause-fault c =
    let p = err_from_is_err_and c.from_residual.result c.from_residual.ensures.1 in
    let modules = c.args.modules.now in
    let i = c.loop-module.module-index in
    let left = c.loop-module.invariant ∙ ap (λ ms. flat_map module_faults (map module_of ms))
    (drop-cons modules i c.module-item.result (omega arith) ∙ ap (λ m. m ∷ drop (suc i) modules) (sym c.module-item.is)) in
    rw (p.1, p.2)
    (subst (λ faults. FaultIs (IsFirst faults) c.in_err-check_module.field-0.0) (sym left) (IsFirst-append _ _ _ c.in_err-check_module.ensures.fault))
