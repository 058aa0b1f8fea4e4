use Rattle.std.proofs.Common.{[], ◌∷◌, ◌++◌, slice_index_or, sym, ap, ◌∙◌, arith}
use Rattle.base_types.specs.declared.indices.NetId.{NetId}
use Rattle.net_ir.specs.declared.netlist.NetOut.{NetOut}
use Rattle.net_opt.proofs.Parts.{named-more}
use Rattle.net_opt.proofs.assembling.named_outputs.Goals as goal

pub loop-k-preserved : goal.loop-k-preserved
loop-k-preserved c =
    let o = c.index-old-k in
    let none : NetId = record { 0 = 0 } in
    let name = c.in_ok-name.ensures ∙ c.bytes.ensures ∙ ap (λ (x : NetOut). x.name) o.is in
    c.in_ok-push.ensures.items
    ∙ (λ i. c.loop-k.invariant i ++ record { name = name i; net = slice_index_or c.args.nets.now c.loop-k.k none } ∷ [])
    ∙ sym (named-more c.args.old.now c.args.nets.now c.loop-k.k o.result none (omega arith) c.requires)
