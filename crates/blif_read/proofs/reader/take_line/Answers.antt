use Rattle.std.proofs.Common.{◌≡◌, ◌≢◌, ℕ, ◌<◌, true, List, [], ◌∷◌, ◌++◌, length, map, sym, ap, ◌∙◌, arith, Bor, vec_len}
use Rattle.std.specs.Option.{option_map}
use Rattle.std.proofs.lemmas.Bool.{eqb-false}
use Rattle.std.proofs.lemmas.List.{length-map}
use Rattle.blif_text.specs.Lines.{is_clean, words}
use Rattle.blif_text.specs.Statements.{statement_of, first_refused}
use Rattle.blif_read.specs.PlainStatements.{plain_statement, last_of}
use Rattle.blif_read.specs.Rests.{plain_line}
use Rattle.blif_read.proofs.TakenLines.{said_in-words, place-put}
use Rattle.blif_read.proofs.reader.take_line.Goals as goal

pub returns-clause-place : goal.returns-clause-place
returns-clause-place c = λ after more.
    let spelled = λ (w : Bor (List ℕ)). w.now in
    let line = plain_line c.args.line.now in
    let old = map plain_statement c.args.statements.now.items in
    let new = map plain_statement c.put.new.statements.items in
    let found : map spelled c.deref.result.now ≡ words line.bytes = ap (map spelled) c.deref.ensures.value ∙ c.in_ok-words.ensures
    ∙ ap words c.as_slice-bytes.ensures in
    let clean : is_clean line.bytes ≡ true = ap is_clean (sym c.as_slice-bytes.ensures) ∙ sym c.if-not-is_clean.ensures in
    let many : vec_len c.in_ok-words.words ≢ 0 = eqb-false (vec_len c.in_ok-words.words) 0 (sym c.if-is_empty.ensures) in
    let some : 0 < length (words line.bytes) = omega (arith, ap length found, length-map c.deref.result.now spelled, c.deref.ensures.len) in
    let says : option_map plain_statement c.in_ok-said.said ≡ statement_of (words line.bytes) = c.in_ok-said.ensures ∙ ap statement_of found in
    ap (λ l. first_refused after (last_of old) (l ++ more))
    (said_in-words line clean some ∙ ap (λ o. record { number = line.number; says = o } ∷ []) (sym says))
    ∙ place-put c.in_ok-put.field-0 old new (option_map plain_statement c.in_ok-said.said) c.in_ok-put.ensures.taken c.in_ok-put.ensures.more line.number
    after more
