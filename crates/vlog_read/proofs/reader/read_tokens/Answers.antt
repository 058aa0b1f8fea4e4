use Rattle.std.proofs.Common.{Err, length, map, subst, arith}
use Rattle.std.proofs.lemmas.List.{length-map}
use Rattle.base_reader.specs.Readings.{whole}
use Rattle.net_expressions.specs.Reading.{GivesKinds, makes_expr}
use Rattle.net_expressions.proofs.Exports.{kinds-are, left-low, fault-place}
use Rattle.vlog_text.specs.Grammar.{IsText}
use Rattle.vlog_text.specs.Texts.{nesting_limit}
use Rattle.vlog_text.specs.Tokens.{tokens}
use Rattle.vlog_read.specs.Lexed.{kind_of, kind_in}
use Rattle.vlog_read.specs.Reading.{text_rule}
use Rattle.vlog_read.specs.Sources.{plain_source}
use Rattle.vlog_read.proofs.ReaderLaws.{spells-by, least-by}
use Rattle.vlog_read.proofs.reader.read_tokens.Goals as goal

pub returns-in-Ok-clause-spells : goal.returns-in-Ok-clause-spells
returns-in-Ok-clause-spells c =
    let all = c.args.all.now in
    spells-by c.args.text.now (map kind_in all) (plain_source c.in-Ok.source) (kinds-are kind_of (tokens c.args.text.now) all c.requires.tokens)
    c.in-Ok.ensures

pub place_at-at-requires-clause-within : goal.place_at-at-requires-clause-within
place_at-at-requires-clause-within c =
    let ks = map kind_in c.args.all.now in
    let read = subst (λ e. GivesKinds plain_source (Err e) (whole (text_rule makes_expr nesting_limit) ks)) c.in-Err-Fault.field-0-is c.in-Err-Fault.ensures in
    let low = left-low IsText nesting_limit ks c.in-Err-Fault.fault (least-by ks c.in-Err-Fault.fault read) in
    let wide = length-map c.args.all.now kind_in in
    omega (arith, low, wide)

pub returns-in-Err-Fault-clause-fault : goal.returns-in-Err-Fault-clause-fault
returns-in-Err-Fault-clause-fault c =
    let fault = c.in-Err-Fault.fault in
    let all = c.args.all.now in
    let ks = map kind_in all in
    let read = subst (λ e. GivesKinds plain_source (Err e) (whole (text_rule makes_expr nesting_limit) ks)) c.in-Err-Fault.field-0-is c.in-Err-Fault.ensures in
    fault-place kind_of IsText nesting_limit (tokens c.args.text.now) (length c.args.text.now) all fault c.place_at-at.result c.requires.tokens
    (least-by ks fault read) c.place_at-at.ensures
