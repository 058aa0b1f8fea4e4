use Rattle.std.proofs.Common.{◌∙◌, map}
use Rattle.std.proofs.lemmas.List.{map-append}
use Rattle.est_ast.specs.Views.{decl_of}
use Rattle.base_reader.proofs.Exports.{loop-started, maybe-some, loop-grown}
use Rattle.est_parse.specs.Openings.{declaration}
use Rattle.est_parse.specs.Reading.{decl, decl_step}
use Rattle.est_parse.proofs.ModuleLaws.{decl-advances}
use Rattle.est_parse.proofs.modules.read_decls.Goals as goal

pub declarations-init : goal.declarations-init
declarations-init c = rw c.new-found.ensures.items (loop-started (decl_step c.args.room) c.args.tokens.now)

pub declarations-smaller : goal.declarations-smaller
declarations-smaller c = decl-advances c.args.room c.declarations.rest.now (decl_of c.in_ok-decl.decl) c.in_ok-decl.behind.now
    (maybe-some declaration (decl c.args.room) c.declarations.rest.now c.in-Some.field-0.0 c.in-Some.field-0.1.now
    (decl_of c.in_ok-decl.decl) c.in_ok-decl.behind.now c.in-Some.ensures c.in_ok-decl.ensures)

pub declarations-preserved : goal.declarations-preserved
declarations-preserved c =
    rw (c.in_ok-push.ensures.items, map-append)
    (loop-grown (decl_step c.args.room) (decl-advances c.args.room) (λ all. all) (map decl_of c.declarations.found.items) c.declarations.rest.now
    (decl_of c.in_ok-decl.decl) c.in_ok-decl.behind.now
    (maybe-some declaration (decl c.args.room) c.declarations.rest.now c.in-Some.field-0.0 c.in-Some.field-0.1.now
    (decl_of c.in_ok-decl.decl) c.in_ok-decl.behind.now c.in-Some.ensures c.in_ok-decl.ensures)
    ∙ c.declarations.invariant)
