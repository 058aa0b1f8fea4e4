use Rattle.std.proofs.Common.{◌≡◌, ◌+◌, ◌<◌, length, map, get_or, ap, sym, arith, ◌∙◌}
use Rattle.std.proofs.lemmas.List.{length-map}
use Rattle.net_ir.specs.Runs.{netlist_of}
use Rattle.csub_guard_blocks.specs.Owners.{Free}
use Rattle.csub_guard_blocks.specs.Blocks.{is_outer, members_between}
use Rattle.csub_guard_blocks.specs.Usages.{owner_in}
use Rattle.csub_guard_blocks.proofs.Groups.{member, between-more, between-holds, none-more, some_gate, gate-here, owner-here}
use Rattle.csub_guard_blocks.proofs.blocks.has_outer.Goals as goal

pub returns-then-is_outer : goal.returns-then-is_outer
returns-then-is_outer c =
    let gates = (netlist_of c.args.net.now).gates in
    let owners = map owner_in c.args.owners.now in
    let many : length owners ≡ length gates = length-map c.args.owners.now owner_in ∙ c.requires.count in
    let k = c.loop-k.k in
    sym (between-holds gates owners c.args.begin k c.args.end (omega arith) c.loop-k-test.true c.requires.within many
    (ap is_outer (owner-here c.args.owners.now k (omega (arith, c.requires.within, c.requires.count))) ∙ sym c.is_outer.ensures ∙ c.if-is_outer.true))

pub loop-k-preserved : goal.loop-k-preserved
loop-k-preserved c =
    let gates = (netlist_of c.args.net.now).gates in
    let owners = map owner_in c.args.owners.now in
    let many : length owners ≡ length gates = length-map c.args.owners.now owner_in ∙ c.requires.count in
    let begin = c.args.begin in
    let k = c.loop-k.k in
    let within : k < length gates = omega (arith, c.requires.within) in
    none-more (members_between gates owners begin k) (members_between gates owners begin (k + 1)) (member k (get_or gates k some_gate) (get_or owners k Free))
    (between-more gates owners begin k (get_or gates k some_gate) (omega arith) within many (gate-here gates k within))
    (ap is_outer (owner-here c.args.owners.now k (omega (arith, within, c.requires.count))) ∙ sym c.is_outer.ensures ∙ c.if-is_outer.false)
    c.loop-k.invariant
