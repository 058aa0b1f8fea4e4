use Rattle.std.proofs.Common.{◌≡◌, ◌+◌, ◌<◌, length, map, get_or, arith, ◌∙◌}
use Rattle.std.proofs.lemmas.List.{length-map}
use Rattle.net_ir.specs.Runs.{netlist_of}
use Rattle.csub_text.specs.Written.{assign_line}
use Rattle.csub_guard_blocks.specs.Blocks.{member_assign, members_between}
use Rattle.csub_guard_blocks.specs.Usages.{owner_in}
use Rattle.csub_guard_blocks.proofs.Groups.{between-more, lines-more, some_gate, gate-here}
use Rattle.csub_guard_blocks.proofs.blocks.put_computed.Goals as goal

pub loop-k-preserved : goal.loop-k-preserved
loop-k-preserved c =
    let net = netlist_of c.args.net.now in
    let owners = map owner_in c.args.owners.now in
    let many : length owners ≡ length net.gates = length-map c.args.owners.now owner_in ∙ c.requires.count in
    let k = c.loop-k.k in
    let within : k < length net.gates = omega (arith, c.requires.within) in
    lines-more assign_line (member_assign net) c.args.text.now.items (members_between net.gates owners c.args.begin k)
    (members_between net.gates owners c.args.begin (k + 1)) _ c.loop-k.text.items c.put_gate.new.text.items
    (between-more net.gates owners c.args.begin k (get_or net.gates k some_gate) (omega arith) within many (gate-here net.gates k within))
    c.loop-k.invariant (c.in_ok-put_gate.ensures some_gate)
