use Rattle.std.proofs.Common.{◌≡◌, ◌<◌, length, Some, Err, sym, ap, ◌∙◌, arith}
use Rattle.std.proofs.lemmas.List.{get_or-map, length-map}
use Rattle.est_ast.specs.Views.{module_of}
use Rattle.est_names.specs.Names.{place_of}
use Rattle.est_expand.specs.Faults.{UnknownModule}
use Rattle.est_expand.specs.Tests.{found_or}
use Rattle.est_expand.specs.Views.{program_in}
use Rattle.est_expand.proofs.RunSteps.{module-Some, module-None}
use Rattle.est_expand.proofs.runs.module_named.Goals as goal

pub returns-in-Some : goal.returns-in-Some
returns-in-Some c =
    let source = c.args.source.now in
    let modules = source.modules.now in
    let m = c.index-source-place.result in
    let name = c.args.name.now in
    let at = ap (place_of name.text) (sym source.named) ∙ ap (λ n. place_of n source.table.now.names) (sym c.bytes.ensures) ∙ sym c.in-Some.ensures in
    let found = module-Some (program_in source) name.text c.in-Some.place (module_of m) at in
    let low : c.in-Some.place < length modules = omega (arith, found.0, length-map modules module_of) in
    ap (found_or (UnknownModule name.span)) (found.1 ∙ ap Some (get_or-map module_of modules c.in-Some.place m (module_of m) low))

pub returns-in-None : goal.returns-in-None
returns-in-None c = λ fault is.
    let source = c.args.source.now in
    let name = c.args.name.now in
    let at = ap (place_of name.text) (sym source.named) ∙ ap (λ n. place_of n source.table.now.names) (sym c.bytes.ensures) ∙ sym c.in-None.ensures in
    let the : UnknownModule name.span ≡ fault = cc in
    ap (found_or (UnknownModule name.span)) (module-None (program_in source) name.text at) ∙ ap Err the
