use Rattle.std.proofs.Common.{◌≡◌, [], map, subst}
use Rattle.std.specs.Prelude.{flat_map, OnOk}
use Rattle.base_types.specs.Stops.{IfFault}
use Rattle.est_ast.specs.Views.{decl_of}
use Rattle.est_names.specs.Names.{texts}
use Rattle.est_names.specs.NameFaults.{given_in, IsFirst}
use Rattle.est_names.proofs.GivenNames.{decl_faults-same}
use Rattle.est_names.proofs.checks.check_interface.Goals as goal

pub returns-clause-faultless : goal.returns-clause-faultless
returns-clause-faultless c =
    let decls = map decl_of c.args.decls.now in
    subst (λ faults. OnOk c.check_decls.result (faults ≡ []))
    (decl_faults-same c.in_ok-given.given (texts (flat_map given_in decls)) [] decls c.in_ok-given.ensures) c.check_decls.ensures.faultless

pub returns-clause-fault : goal.returns-clause-fault
returns-clause-fault c =
    let decls = map decl_of c.args.decls.now in
    subst (λ faults. IfFault c.check_decls.result (IsFirst faults))
    (decl_faults-same c.in_ok-given.given (texts (flat_map given_in decls)) [] decls c.in_ok-given.ensures) c.check_decls.ensures.fault
