use Rattle.std.proofs.Common.{◌+◌, ◌∙◌, List, length, map, drop, subst, ap}
use Rattle.net_ir.specs.declared.netlist.Latch.{Latch}
use Rattle.net_simp.specs.Renaming.{stand_in}
use Rattle.net_state_enc.specs.Drafts.{EachSays, literals_of, values_of, wanted}
use Rattle.net_state_enc.specs.Recodings.{latch_net}
use Rattle.net_state_enc.proofs.Drawing.{next-low, all-behind}
use Rattle.net_state_enc.proofs.netlist.draw_bits.Goals as goal

pub bit_nets-requires-clause-nets : goal.bit_nets-requires-clause-nets
bit_nets-requires-clause-nets c =
    let f = stand_in c.args.names.now in
    let next = c.deref-2.ensures.value ∙ c.in_ok-next.ensures ∙ ap (map (latch_net f)) (all-behind c.deref.result.now)
    ∙ ap (λ (ls : List Latch). map (latch_net f) (drop 1 ls)) c.deref.ensures.value in
    next-low f (c.args.draft.now.first + length c.args.draft.now.gates.items) c.args.net.now.latches.items c.deref-2.result.now c.requires.low next

pub returns-clause-says : goal.returns-clause-says
returns-clause-says c =
    let f = stand_in c.args.names.now in
    let next = c.deref-2.ensures.value ∙ c.in_ok-next.ensures ∙ ap (map (latch_net f)) (all-behind c.deref.result.now)
    ∙ ap (λ (ls : List Latch). map (latch_net f) (drop 1 ls)) c.deref.ensures.value in
    subst (λ ns. EachSays c.args.draft.now.first c.bit_nets.new.draft.gates.items c.in_ok-bits.bits.items
    (λ i v. wanted (literals_of c.args.codes.now) (values_of c.args.draft.now.gates.items ns v) i)) next c.in_ok-bits.ensures.says
