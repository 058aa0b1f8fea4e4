use Rattle.std.proofs.Common.{◌≡◌, ◌≢◌, ◌-◌, ◌∷◌, length, take, drop, sym, ap, ◌∙◌, arith}
use Rattle.std.proofs.lemmas.Bool.{eqb-true, eqb-false}
use Rattle.std.proofs.lemmas.List.{take_all, length-take, length-drop}
use Rattle.std.specs.List.{prefix_len}
use Rattle.blif_text.specs.Lines.{is_blank, words}
use Rattle.blif_read.proofs.FirstWords.{first_word-some, first_word-none, position-some}
use Rattle.blif_read.proofs.words.first_word.Goals as goal

pub returns-then-is_empty-clause-words : goal.returns-then-is_empty-clause-words
returns-then-is_empty-clause-words c =
    first_word-none c.args.line.now c.unblanked-text.result.now c.unblanked-text.ensures (eqb-true _ 0 (sym c.if-is_empty.ensures))

pub returns-then-is_empty-clause-shorter : goal.returns-then-is_empty-clause-shorter
returns-then-is_empty-clause-shorter c =
    first_word-none c.args.line.now c.unblanked-text.result.now c.unblanked-text.ensures (eqb-true _ 0 (sym c.if-is_empty.ensures))

pub returns-clause-words : goal.returns-clause-words
returns-clause-words c =
    let text = c.unblanked-text.result.now in
    let end = c.word_len-end.result in
    let some : length text ≢ 0 = eqb-false (length text) 0 (sym c.if-is_empty.ensures) in
    let behind : take (length text - end) (drop end text) ≡ drop end text = take_all (length text - end) (drop end text) (omega (arith, length-drop end text))
    in
    first_word-some c.args.line.now text c.unblanked-text.ensures (omega arith)
    ∙ ap (λ n. take n text ∷ words (drop n text)) (sym c.word_len-end.ensures.len) ∙ ap (λ t. take end text ∷ words t) (sym behind)

pub returns-clause-shorter : goal.returns-clause-shorter
returns-clause-shorter c =
    let text = c.unblanked-text.result.now in
    let end = c.word_len-end.result in
    let some : length text ≢ 0 = eqb-false (length text) 0 (sym c.if-is_empty.ensures) in
    let long = position-some c.args.line.now text c.unblanked-text.ensures (omega arith) in
    let line = length-drop (prefix_len is_blank c.args.line.now) c.args.line.now in
    let whole = ap length c.unblanked-text.ensures in
    omega (arith, long, line, whole, c.word_len-end.ensures.len, length-take (length text - end) (drop end text), length-drop end text)
