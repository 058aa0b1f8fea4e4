use Rattle.std.proofs.Common.{◌<◌, length, take, slice_index_or, sym, subst, arith}
use Rattle.std.proofs.lemmas.List.{take_more}
use Rattle.base_types.specs.declared.indices.WireId.{WireId}
use Rattle.net_cycles.specs.Bases.{AnySays}
use Rattle.net_cycles.proofs.Lowering.{any-begun, any-more}
use Rattle.net_cycles.proofs.formulas.any_net.Goals as goal

pub loop-wire-init : goal.loop-wire-init
loop-wire-init c = record { made = any-begun c.args.nets.now c.args.gates.now c.requires.whole }

pub loop-wire-preserved : goal.loop-wire-preserved
loop-wire-preserved c =
    let k = c.loop-wire.wire-index in
    let low : k < length c.args.list.now = omega arith in
    let zero_wire : WireId = record { 0 = 0 } in
    let v = slice_index_or c.args.list.now k zero_wire in
    let made = any-more c.args.nets.now c.args.gates.now c.loop-wire.gates c.push.new.self (take k c.args.list.now) v c.loop-wire.net c.in_ok-net.net.0
    c.requires.whole c.loop-wire.invariant.made (c.requires.fits k zero_wire low) c.in_ok-net.ensures.pushed c.in_ok-net.ensures.number
    c.in_ok-net.ensures.room in
    record {
      made = subst (λ done. AnySays c.args.nets.now c.args.gates.now c.push.new.self done c.in_ok-net.net.0) (sym (take_more c.args.list.now k zero_wire low))
          made;
    }
