use Rattle.std.proofs.Common.{ℕ, List, ◌++◌, ap, ◌∙◌}
use Rattle.std.specs.Prelude.{codes, flat_map}
use Rattle.std.proofs.lemmas.Result.{on_ok_weaker}
use Rattle.net_ir.specs.Runs.{netlist_of}
use Rattle.csub_embed.specs.Written.{body_start, untouched_line, react_head, ignored_line, net_ignored}
use Rattle.csub_embed.proofs.Appends.{react-text-pieces}
use Rattle.csub_embed.proofs.ends.put_react_text.Goals as goal

pub returns : goal.returns
returns c =
    let net = netlist_of c.args.net.now in
    let lines = flat_map ignored_line (net_ignored net) in
    let start : List ℕ → List ℕ = λ name. codes "}\n\n" ++ (react_head c.args.file name ++ body_start) in
    on_ok_weaker c.put_ignored_lines.result
    (λ e. e ∙ ap (λ t. t ++ lines) (c.in_ok-put_react_start.ensures ∙ ap (λ n. c.put_untouched.new.text.items ++ start n) c.bytes.ensures
    ∙ ap (λ t. t ++ start net.name) c.in_ok-put_untouched.ensures)
    ∙ react-text-pieces c.args.text.now.items (untouched_line net.latches) (codes "}\n\n") (react_head c.args.file net.name) body_start lines)
    c.put_ignored_lines.ensures
