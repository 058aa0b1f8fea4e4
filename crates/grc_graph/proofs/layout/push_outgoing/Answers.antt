use Rattle.std.proofs.Common.{◌+◌, ◌++◌, ◌∷◌, [], ap, sym, ◌∙◌, refl, append_assoc}
use Rattle.std.proofs.lemmas.List.FromFn.{map-range_with_len_more}
use Rattle.grc_graph.specs.declared.wires.Wire.TheVariants.{Out}
use Rattle.grc_graph.proofs.layout.push_outgoing.Goals as goal

pub loop-k-preserved : goal.loop-k-preserved
loop-k-preserved c =
    c.in_ok-push.ensures.items
    ∙ ap (λ l. l ++ Out (record { 0 = c.args.from + c.loop-k.k }) ∷ []) c.loop-k.invariant
    ∙ append_assoc c.args.wires.now.items _ _
    ∙ ap (λ l. c.args.wires.now.items ++ l) (sym (map-range_with_len_more (λ s. Out (record { 0 = s })) c.args.from c.loop-k.k (c.args.from + c.loop-k.k) refl))
