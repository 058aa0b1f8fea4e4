use Rattle.std.proofs.Common.{Err, length, map, subst, arith}
use Rattle.std.proofs.lemmas.List.{length-map}
use Rattle.csub_text.specs.Texts.{nesting_limit}
use Rattle.csub_read.specs.Reading.{GivesKinds}
use Rattle.csub_read.specs.Tokens.{kind_of, kind_in}
use Rattle.csub_guard.specs.Grammar.{IsText}
use Rattle.csub_guard.specs.Tokens.{tokens}
use Rattle.net_expressions.proofs.Exports.{kinds-are, left-low, fault-place}
use Rattle.base_reader.specs.Readings.{whole}
use Rattle.csub_guard_read.specs.Reading.{program_in, program_rule}
use Rattle.csub_guard_read.proofs.ReaderLaws.{spells-program, least-by}
use Rattle.csub_guard_read.proofs.reader.read_all.Goals as goal

pub returns-in-Ok-clause-spells : goal.returns-in-Ok-clause-spells
returns-in-Ok-clause-spells c =
    let all = c.args.all.now in
    spells-program c.args.text.now (map kind_in all) c.in-Ok.program (kinds-are kind_of (tokens c.args.text.now) all c.requires.tokens) c.in-Ok.ensures

pub place_at-at-requires-clause-within : goal.place_at-at-requires-clause-within
place_at-at-requires-clause-within c =
    let ks = map kind_in c.args.all.now in
    let read = subst (λ e. GivesKinds program_in (Err e) (whole (program_rule nesting_limit) ks)) c.in-Err-Fault.field-0-is c.in-Err-Fault.ensures in
    let low = left-low IsText nesting_limit ks c.in-Err-Fault.fault (least-by ks c.in-Err-Fault.fault read) in
    let wide = length-map c.args.all.now kind_in in
    omega (arith, low, wide)

pub returns-in-Err-Fault-clause-fault : goal.returns-in-Err-Fault-clause-fault
returns-in-Err-Fault-clause-fault c =
    let fault = c.in-Err-Fault.fault in
    let all = c.args.all.now in
    let ks = map kind_in all in
    let read = subst (λ e. GivesKinds program_in (Err e) (whole (program_rule nesting_limit) ks)) c.in-Err-Fault.field-0-is c.in-Err-Fault.ensures in
    fault-place kind_of IsText nesting_limit (tokens c.args.text.now) (length c.args.text.now) all fault c.place_at-at.result c.requires.tokens
    (least-by ks fault read) c.place_at-at.ensures
