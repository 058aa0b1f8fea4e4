use Rattle.std.proofs.Common.{◌≡◌, ◌+◌, ◌<◌, ◌++◌, length, map, get_or, ap, sym, arith, ◌∙◌}
use Rattle.std.specs.Prelude.{filter, flat_map}
use Rattle.std.proofs.lemmas.List.{length-map}
use Rattle.net_ir.specs.Runs.{netlist_of}
use Rattle.csub_text.specs.Written.{assign_line}
use Rattle.csub_guard_blocks.specs.Owners.{Free}
use Rattle.csub_guard_blocks.specs.Blocks.{is_outer, zero_assign, members_between}
use Rattle.csub_guard_blocks.specs.Usages.{owner_in}
use Rattle.csub_guard_blocks.proofs.Groups.{member, between-more, lines-more, shown-more, hidden-more, some_gate, gate-here, owner-here}
use Rattle.csub_guard_blocks.proofs.blocks.put_zeros.Goals as goal
use Rattle.csub_guard_blocks.proofs.blocks.put_zeros.Goals.{then-is_outer+in_ok-put_zero, else-is_outer}

pub loop-k-preserved : goal.loop-k-preserved
loop-k-preserved c =
    let gates = (netlist_of c.args.net.now).gates in
    let owners = map owner_in c.args.owners.now in
    let begin = c.args.begin in
    let k = c.loop-k.k in
    let many : length owners ≡ length gates = length-map c.args.owners.now owner_in ∙ c.requires.count in
    let within : k < length gates = omega (arith, c.requires.within) in
    let whose = ap is_outer (owner-here c.args.owners.now k (omega (arith, within, c.requires.count))) in
    elim c.if-is_outer.branch [
      | then-is_outer+in_ok-put_zero w ↦
          let more = between-more gates owners begin k w.index.result.now (omega arith) within many w.index.ensures in
          ap (λ t. t.items) w.text-is
          ∙ lines-more assign_line zero_assign c.args.text.now.items (filter (λ m. m.shown) (members_between gates owners begin k))
          (filter (λ m. m.shown) (members_between gates owners begin (k + 1))) (member k w.index.result.now (get_or owners k Free)) c.loop-k.text.items
          w.put_zero.new.text.items
          (shown-more (members_between gates owners begin k) (members_between gates owners begin (k + 1))
          (member k w.index.result.now (get_or owners k Free)) more (whose ∙ sym c.is_outer.ensures ∙ w.if-is_outer.true))
          c.loop-k.invariant w.in_ok-put_zero.ensures
      | else-is_outer w ↦
          let more = between-more gates owners begin k (get_or gates k some_gate) (omega arith) within many (gate-here gates k within) in
          ap (λ t. t.items) w.text-is ∙ c.loop-k.invariant
          ∙ ap (λ ms. c.args.text.now.items ++ flat_map assign_line (map zero_assign ms))
          (sym (hidden-more (members_between gates owners begin k) (members_between gates owners begin (k + 1))
          (member k (get_or gates k some_gate) (get_or owners k Free)) more (whose ∙ sym c.is_outer.ensures ∙ w.if-is_outer.false)))
    ]
