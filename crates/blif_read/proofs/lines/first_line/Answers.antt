use Rattle.std.proofs.Common.{◌≡◌, ◌+◌, ◌-◌, ◌<◌, [], ◌∷◌, length, take, drop, not, sym, ap, ◌∙◌, arith}
use Rattle.std.specs.List.{position_or_len}
use Rattle.std.proofs.lemmas.List.{take_all, drop_all, length-drop}
use Rattle.std.proofs.lemmas.List.Sums.{prefix_len-le-length}
use Rattle.blif_text.specs.Lines.{text_lines}
use Rattle.blif_read.proofs.FirstLines.{is_feed, stripped, first_line-feed, first_line-last}
use Rattle.blif_read.proofs.lines.first_line.Goals as goal

pub returns-then-at-text-clause-lines : goal.returns-then-at-text-clause-lines
returns-then-at-text-clause-lines c =
    let text = c.args.text.now in
    let at = c.place_of-at.result in
    let none : drop at text ≡ [] = drop_all at text (omega arith) in
    let behind : take (length text - at) (drop at text) ≡ [] = take_all (length text - at) (drop at text) (omega (arith, length-drop at text)) ∙ none in
    first_line-last text c.requires (sym c.place_of-at.ensures ∙ c.if-at-text.true) ∙ ap (λ t. text ∷ text_lines t) (sym behind)

pub returns-else-at-text-clause-lines : goal.returns-else-at-text-clause-lines
returns-else-at-text-clause-lines c =
    let text = c.args.text.now in
    let at = c.place_of-at.result in
    let is : at ≡ position_or_len is_feed text = c.place_of-at.ensures in
    let low : position_or_len is_feed text < length text = omega (arith, prefix_len-le-length (λ b. not (is_feed b)) text) in
    let behind : take (length text - (at + 1)) (drop (at + 1) text) ≡ drop (at + 1) text = take_all (length text - (at + 1)) (drop (at + 1) text)
    (omega (arith, length-drop (at + 1) text)) in
    first_line-feed text low ∙ ap (λ n. stripped (take n text) ∷ text_lines (drop (n + 1) text)) (sym is)
    ∙ ap (λ l. l ∷ text_lines (drop (at + 1) text)) (sym c.without_return.ensures) ∙ ap (λ t. c.without_return.result.now ∷ text_lines t) (sym behind)
