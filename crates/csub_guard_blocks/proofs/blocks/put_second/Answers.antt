use Rattle.std.proofs.Common.{◌≡◌, ◌++◌, map, ap, sym, subst, ◌∙◌, append_assoc, OnOk}
use Rattle.std.specs.Prelude.{filter, flat_map}
use Rattle.csub_text.specs.Written.{assign_line}
use Rattle.csub_guard_blocks.specs.Blocks.{members_between, zero_assign, second_text, else_line, end_line}
use Rattle.csub_guard_blocks.specs.Usages.{owner_in}
use Rattle.csub_guard_blocks.proofs.Groups.{second-none, second-some}
use Rattle.csub_guard_blocks.proofs.blocks.put_second.Goals as goal

pub returns-then-not-has_outer : goal.returns-then-not-has_outer
returns-then-not-has_outer c =
    let ms = members_between c.args.net.now.gates.items (map owner_in c.args.owners.now) c.args.begin c.args.end in
    subst (λ t. OnOk c.put.result (c.put.new.text.items ≡ c.args.text.now.items ++ t))
    (sym (second-none ms (sym c.has_outer.ensures ∙ c.if-not-has_outer.true))) c.put.ensures

pub returns : goal.returns
returns c =
    let ms = members_between c.args.net.now.gates.items (map owner_in c.args.owners.now) c.args.begin c.args.end in
    let zeros = flat_map assign_line (map zero_assign (filter (λ m. m.shown) ms)) in
    let so_far = c.in_ok-put_zeros.ensures ∙ ap (λ t. t ++ zeros) c.in_ok-put.ensures in
    let whole : c.put_zeros.new.text.items ++ end_line ≡ c.args.text.now.items ++ second_text (map zero_assign (filter (λ m. m.shown) ms))
    = ap (λ t. t ++ end_line) so_far ∙ append_assoc (c.args.text.now.items ++ else_line) zeros end_line
    ∙ append_assoc c.args.text.now.items else_line (zeros ++ end_line)
    ∙ ap (λ t. c.args.text.now.items ++ t) (sym (second-some ms (sym c.has_outer.ensures ∙ c.if-not-has_outer.false))) in
    subst (λ t. OnOk c.put-3.result (c.put-3.new.text.items ≡ t)) whole c.put-3.ensures
