use Rattle.std.proofs.Common.{◌≡◌, ◌<◌, ◌++◌, [], length, get_or, subst, ap, ◌∙◌}
use Rattle.net_ir.specs.Runs.{netlist_of}
use Rattle.net_writer.proofs.SectionParts.{part-in}
use Rattle.net_writer.proofs.parts.put_part.Goals as goal

pub returns-then-place-count-clause-puts : goal.returns-then-place-count-clause-puts
returns-then-place-count-clause-puts g c =
    let parts = g.T.NetText.parts_in (netlist_of c.args.net.now) in
    let i = c.loop-section.section-index in
    let s = c.section-item.result in
    let place = c.loop-section.place in
    part-in parts g.T.NetText.sections i place c.args.k s c.args.text.now.items c.put_in.new.text.items
    (subst (λ l. i < length l) c.sections-section-items.ensures c.loop-section-test.true)
    (subst (λ l. s ≡ get_or l i s) c.sections-section-items.ensures c.section-item.is)
    c.loop-section.invariant.place (subst (λ n. place < n) c.count-count.ensures c.if-place-count.true)
    (c.in_ok-put_in.ensures ∙ ap (λ t. t ++ get_or (parts s) place []) c.loop-section.invariant.text)
