use Rattle.std.proofs.Common.{Err, length, map, sym, ap, ◌∙◌, subst, arith}
use Rattle.std.proofs.lemmas.List.{length-map}
use Rattle.csub_text.specs.Grammar.{IsText}
use Rattle.csub_text.specs.Texts.{nesting_limit}
use Rattle.base_reader.specs.Exact.{IsLeastPlace}
use Rattle.base_reader.specs.Readings.{whole}
use Rattle.csub_read.specs.Reading.{GivesKinds, parts_in, makes_expr, text_rule}
use Rattle.csub_read.specs.Tokens.{kind_of, kind_in}
use Rattle.csub_text.specs.Tokens.{tokens}
use Rattle.net_expressions.specs.Plain.{token_by}
use Rattle.net_expressions.proofs.Exports.{kinds-are, left-low, fault-place}
use Rattle.csub_read.proofs.ReaderLaws.{spells-by, least-by}
use Rattle.csub_read.proofs.reader.read_tokens.Goals as goal

pub returns-in-Ok-clause-spells : goal.returns-in-Ok-clause-spells
returns-in-Ok-clause-spells c =
    let all = c.as_slice.result.now in
    spells-by c.args.text.now (map kind_in all) c.in-Ok.program
    (kinds-are kind_of (tokens c.args.text.now) all (ap (map (token_by kind_of)) c.as_slice.ensures.value ∙ c.in_ok-tokens.ensures)) c.in-Ok.ensures

pub place_at-at-requires-clause-within : goal.place_at-at-requires-clause-within
place_at-at-requires-clause-within c =
    let ks = map kind_in c.as_slice.result.now in
    let read = subst (λ e. GivesKinds parts_in (Err e) (whole (text_rule makes_expr nesting_limit) ks)) c.in-Err-Fault.field-0-is c.in-Err-Fault.ensures in
    let low = left-low IsText nesting_limit ks c.in-Err-Fault.fault (least-by ks c.in-Err-Fault.fault read) in
    let wide = length-map c.as_slice.result.now kind_in in
    let same = ap length (c.as_slice.ensures.value ∙ sym c.as_slice-in-Err-Fault.ensures.value) in
    omega (arith, low, wide, same)

pub returns-in-Err-Fault-clause-fault : goal.returns-in-Err-Fault-clause-fault
returns-in-Err-Fault-clause-fault c =
    let fault = c.in-Err-Fault.fault in
    let all = c.as_slice-in-Err-Fault.result.now in
    let ks = map kind_in c.as_slice.result.now in
    let read = subst (λ e. GivesKinds parts_in (Err e) (whole (text_rule makes_expr nesting_limit) ks)) c.in-Err-Fault.field-0-is c.in-Err-Fault.ensures in
    let same = c.as_slice.ensures.value ∙ sym c.as_slice-in-Err-Fault.ensures.value in
    fault-place kind_of IsText nesting_limit (tokens c.args.text.now) (length c.args.text.now) all fault c.place_at-at.result
    (ap (map (token_by kind_of)) c.as_slice-in-Err-Fault.ensures.value ∙ c.in_ok-tokens.ensures)
    (subst (λ ts. IsLeastPlace IsText nesting_limit (map kind_in ts) fault) same (least-by ks fault read)) c.place_at-at.ensures
