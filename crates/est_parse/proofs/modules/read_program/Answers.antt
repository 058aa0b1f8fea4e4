use Rattle.std.proofs.Common.{◌∷◌, ◌∙◌, map}
use Rattle.std.proofs.lemmas.List.{map-append}
use Rattle.est_ast.specs.declared.tokens.Reserved.TheVariants as words
use Rattle.est_ast.specs.Grammar.{word}
use Rattle.est_ast.specs.Views.{module_of}
use Rattle.base_reader.proofs.Exports.{loop-begun, maybe-some, loop-grown}
use Rattle.est_parse.specs.Reading.{module_rule, module_step}
use Rattle.est_parse.proofs.ModuleLaws.{module-advances}
use Rattle.est_parse.proofs.modules.read_program.Goals as goal

pub modules-init : goal.modules-init
modules-init c =
    rw (c.in_ok-push.ensures.items, c.new-modules.ensures.items)
    (loop-begun (module_rule c.args.room) (module_step c.args.room) (λ value others. value ∷ others) c.args.tokens.now
    (module_of c.in_ok-first.first) c.in_ok-first.rest.now c.in_ok-first.ensures)

pub modules-smaller : goal.modules-smaller
modules-smaller c = module-advances c.args.room c.modules.rest.now (module_of c.in_ok-module.module) c.in_ok-module.behind.now
    (maybe-some (word words.Module) (module_rule c.args.room) c.modules.rest.now tt c.in-Some.field-0.now
    (module_of c.in_ok-module.module) c.in_ok-module.behind.now c.in-Some.ensures c.in_ok-module.ensures)

pub modules-preserved : goal.modules-preserved
modules-preserved c =
    rw (c.in_ok-push-2.ensures.items, map-append)
    (loop-grown (module_step c.args.room) (module-advances c.args.room) (λ all. all) (map module_of c.modules.modules.items) c.modules.rest.now
    (module_of c.in_ok-module.module) c.in_ok-module.behind.now
    (maybe-some (word words.Module) (module_rule c.args.room) c.modules.rest.now tt c.in-Some.field-0.now
    (module_of c.in_ok-module.module) c.in_ok-module.behind.now c.in-Some.ensures c.in_ok-module.ensures)
    ∙ c.modules.invariant)
