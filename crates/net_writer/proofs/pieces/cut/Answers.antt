use Rattle.std.proofs.Common.{min, ap, ◌∙◌, take, drop}
use Rattle.std.proofs.lemmas.List.{take_min, drop_min}
use Rattle.net_writer.proofs.pieces.cut.Goals as goal

pub returns-clause-piece : goal.returns-clause-piece
returns-clause-piece c =
    let text = c.args.text.now.items in
    c.in_ok-split_off.ensures.items ∙ ap (λ n. take n text) (c.min-end.ensures ∙ ap (min 65536) (c.len.ensures ∙ c.args.text.now.ok.0)) ∙ take_min 65536 text

pub returns-clause-rest : goal.returns-clause-rest
returns-clause-rest c =
    let text = c.args.text.now.items in
    c.in_ok-split_off.ensures.tail ∙ ap (λ n. drop n text) (c.min-end.ensures ∙ ap (min 65536) (c.len.ensures ∙ c.args.text.now.ok.0)) ∙ drop_min 65536 text
