use Rattle.std.proofs.Common.{◌∙◌, map}
use Rattle.std.proofs.lemmas.List.{map-append}
use Rattle.net_expressions.proofs.Exports.{shorter, maybe-made}
use Rattle.vlog_text.specs.Grammar.{sort}
use Rattle.vlog_read.specs.Lexed.{plain_sort}
use Rattle.vlog_read.specs.Reading.{declaration_behind, declaration_step}
use Rattle.vlog_read.proofs.TextLaws.{declared_as, declaration-advances}
use Rattle.base_reader.proofs.Exports.{loop-started, loop-grown}
use Rattle.vlog_read.specs.Sources.{declaration_of}
use Rattle.vlog_read.specs.Lexed.{kind_in}
use Rattle.vlog_read.proofs.text.read_declarations.Goals as goal

pub declarations-init : goal.declarations-init
declarations-init c = rw (c.nothing_read-declarations.ensures.left, c.nothing_read-declarations.ensures.read)
    (loop-started declaration_step (map kind_in c.args.tokens.now))

pub declarations-smaller : goal.declarations-smaller
declarations-smaller c =
    shorter kind_in c.in_ok-declaration.behind.now c.declarations.rest.now
    (declaration-advances (map kind_in c.declarations.rest.now) (declaration_of c.in_ok-declaration.declaration) (map kind_in c.in_ok-declaration.behind.now)
    (maybe-made sort declared_as declaration_behind (map kind_in c.declarations.rest.now) (plain_sort c.in-Some.sort) (map kind_in c.in-Some.behind.now)
    (declaration_of c.in_ok-declaration.declaration) (map kind_in c.in_ok-declaration.behind.now) c.in-Some.ensures c.in_ok-declaration.ensures))

pub declarations-preserved : goal.declarations-preserved
declarations-preserved c =
    rw (c.in_ok-push.ensures.items, map-append)
    (loop-grown declaration_step declaration-advances (λ all. all) (map declaration_of c.declarations.declarations.items) (map kind_in c.declarations.rest.now)
    (declaration_of c.in_ok-declaration.declaration)
    (map kind_in c.in_ok-declaration.behind.now)
    (maybe-made sort declared_as declaration_behind (map kind_in c.declarations.rest.now) (plain_sort c.in-Some.sort) (map kind_in c.in-Some.behind.now)
    (declaration_of c.in_ok-declaration.declaration) (map kind_in c.in_ok-declaration.behind.now) c.in-Some.ensures c.in_ok-declaration.ensures)
    ∙ c.declarations.invariant)
