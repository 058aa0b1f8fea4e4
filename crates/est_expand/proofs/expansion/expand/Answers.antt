use Rattle.std.proofs.Common.{◌≡◌, ◌<◌, [], map, length, sym, ap, subst, ◌∙◌, Some, arith}
use Rattle.std.specs.Prelude.{slice_get}
use Rattle.std.proofs.lemmas.List.{get_or-map, length-map}
use Rattle.std.proofs.lemmas.Option.{slice_get-get_or}
use Rattle.est_ast.specs.Trees.{Module}
use Rattle.est_ast.specs.Views.{module_of}
use Rattle.est_names.specs.NameFaults.{module_names, interface_faults}
use Rattle.est_names.proofs.Exports.{faultless-interface, main_place-within}
use Rattle.est_expand.specs.NamedModules.{IsNamedModule}
use Rattle.est_expand.proofs.FlatLaws.{answer-fits, answer-named}
use Rattle.est_expand.proofs.expansion.expand.Goals as goal

pub returns-clause-fits : goal.returns-clause-fits
returns-clause-fits c =
    let modules = c.args.program.now.modules.items in
    let program = map module_of modules in
    let m = c.index-main.result.now in
    let k = c.main.result in
    let table = c.requires.1 in
    let within = main_place-within c.requires.0 (module_names program) c.args.table.now.main table.main_place in
    let in_program : k < length program = omega (arith, within, c.main.ensures, length-map program (λ (m : Module). m.name.text)) in
    let low : k < length modules = omega (arith, in_program, length-map modules module_of) in
    let faultless = subst (λ (m : Module). interface_faults m.decls ≡ [])
    (get_or-map module_of modules k m (module_of m) low ∙ ap module_of (sym c.index-main.ensures))
    (faultless-interface c.requires.0 program k (module_of m) table.faultless in_program) in
    answer-fits c.flat_main.result (map module_of c.deref.result.now) (module_of m) faultless c.flat_main.ensures

pub returns-clause-named : goal.returns-clause-named
returns-clause-named c = λ main there written.
    let modules = c.args.program.now.modules.items in
    let program = map module_of modules in
    let m = c.index-main.result.now in
    let k = c.main.result in
    let within = main_place-within c.requires.0 (module_names program) c.args.table.now.main c.requires.1.main_place in
    let in_program : k < length program = omega (arith, within, c.main.ensures, length-map program (λ (m : Module). m.name.text)) in
    let low : k < length modules = omega (arith, in_program, length-map modules module_of) in
    let here = slice_get-get_or program k (module_of m) in_program
    ∙ ap Some (get_or-map module_of modules k m (module_of m) low ∙ ap module_of (sym c.index-main.ensures)) in
    let both : Some main ≡ Some (module_of m) = sym there ∙ ap (slice_get program) (sym c.main.ensures) ∙ here in
    let same : main ≡ module_of m = cc in
    answer-named c.flat_main.result (map module_of c.deref.result.now) (module_of m) (subst IsNamedModule same written) c.flat_main.ensures
