use Rattle.std.proofs.Common.{◌≡◌, ◌+◌, ◌<◌, ◌++◌, length, map, drop, get_or, ap, sym, arith, ◌∙◌, append_assoc}
use Rattle.std.proofs.lemmas.List.{length-map}
use Rattle.net_ir.specs.Runs.{netlist_of}
use Rattle.csub_guard_blocks.specs.Blocks.{Single, Run, groups, groups_text, group_piece, piece_text, head_of, members_between}
use Rattle.csub_guard_blocks.specs.Pieces.{groups_from}
use Rattle.csub_guard_blocks.specs.Usages.{owner_in}
use Rattle.csub_guard_blocks.proofs.Groups.{group-one, group-run, owner-here, some_gate, gate-here}
use Rattle.csub_guard_blocks.proofs.blocks.put_group.Goals as goal

pub returns-in_ok-put_gate-in-None-clause-text : goal.returns-in_ok-put_gate-in-None-clause-text
returns-in_ok-put_gate-in-None-clause-text c =
    let net = netlist_of c.args.net.now in
    let owners = map owner_in c.args.owners.now in
    let k = c.args.k in
    let old = c.args.text.now.items in
    let g = get_or net.gates k some_gate in
    let same : length owners ≡ length net.gates = length-map c.args.owners.now owner_in ∙ c.requires.count in
    let whole = group-one net.gates owners same k g (omega (arith, c.requires.here, c.requires.count))
    (gate-here net.gates k (omega (arith, c.requires.here, c.requires.count)))
    (ap head_of (owner-here c.args.owners.now k c.requires.here) ∙ sym c.head_of.ensures ∙ c.in-None.is) in
    ap (λ t. t ++ groups_from net owners (k + 1)) (c.in_ok-put_gate-in-None.ensures some_gate)
    ∙ append_assoc old (piece_text (group_piece net (Single k g))) (groups_from net owners (k + 1))
    ∙ ap (λ t. old ++ t) (sym (ap (groups_text net) whole))

pub returns-in_ok-put_block-in-Some-clause-text : goal.returns-in_ok-put_block-in-Some-clause-text
returns-in_ok-put_block-in-Some-clause-text c =
    let net = netlist_of c.args.net.now in
    let owners = map owner_in c.args.owners.now in
    let many = length-map c.args.owners.now owner_in in
    let same : length owners ≡ length net.gates = many ∙ c.requires.count in
    let k = c.args.k in
    let old = c.args.text.now.items in
    let end = c.run_end-end.result in
    let h = c.in-Some.head in
    let here = c.run_end-end.ensures in
    let whole = group-run net.gates owners same k end h here.more (omega (arith, here.within, many))
    (λ i a b. ap head_of (owner-here c.args.owners.now i (omega (arith, b, here.within))) ∙ here.same i a b)
    (λ l e. here.other (omega (arith, l, many)) (sym (ap head_of (owner-here c.args.owners.now end (omega (arith, l, many)))) ∙ e)) in
    ap (λ t. t ++ groups_from net owners end) c.in_ok-put_block-in-Some.ensures
    ∙ append_assoc old (piece_text (group_piece net (Run h (members_between net.gates owners k end)))) (groups_from net owners end)
    ∙ ap (λ t. old ++ t) (sym (ap (groups_text net) whole))
