use Rattle.std.proofs.Common.{◌++◌, ap, ◌∙◌}
use Rattle.std.proofs.lemmas.Result.{on_ok_weaker}
use Rattle.vlog_text.specs.Written.{clock_name}
use Rattle.vlog_reset.specs.Texts.{first_line}
use Rattle.vlog_reset.specs.Written.{comments, module_head, lint_lines}
use Rattle.vlog_reset.proofs.Appends.{front-pieces}
use Rattle.vlog_reset.proofs.ends.put_front.Goals as goal

pub returns : goal.returns
returns c =
    let name = c.name_of-name.result.now in
    let reset = c.args.options.reset.now in
    let manner = c.args.options.manner in
    let text = c.args.text.now.items in
    let head = module_head name clock_name reset in
    on_ok_weaker c.put_head.result
    (λ e. e ∙ ap (λ t. t ++ head) (c.in_ok-put_comments.ensures
    ∙ ap (λ t. t ++ (comments name clock_name reset manner ++ lint_lines)) c.in_ok-put.ensures)
    ∙ front-pieces text first_line (comments name clock_name reset manner) lint_lines head
    ∙ ap (λ n. text ++ (first_line ++ (comments n clock_name reset manner ++ (lint_lines ++ module_head n clock_name reset)))) c.name_of-name.ensures)
    c.put_head.ensures
