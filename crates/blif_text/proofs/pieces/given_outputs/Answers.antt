use Rattle.std.proofs.Common.{◌≡◌, ◌∷◌, ◌++◌, [], map, take, get_or, sym, ap, ◌∙◌, arith}
use Rattle.std.proofs.lemmas.List.{map_more}
use Rattle.net_ir.specs.declared.netlist.NetOut.{NetOut}
use Rattle.net_ir.specs.NameLists.{is_among}
use Rattle.blif_text.proofs.pieces.given_outputs.Goals as goal

-- the answer of the set for the next output
pub loop-output-preserved : goal.loop-output-preserved
loop-output-preserved c =
    let outputs = c.args.net.now.outputs.items in
    let inputs = c.args.net.now.inputs.items in
    let given = λ (o : NetOut). is_among o.name inputs in
    let i = c.loop-output.output-index in
    let output = c.output-item.result in
    let at : output ≡ get_or outputs i output = c.output-item.is ∙ ap (λ l. get_or l i output) c.deref-output-items.ensures.value in
    let here : c.contains.result ≡ given output = c.contains.ensures ∙ c.in_ok-inputs.ensures c.bytes.result.now
    ∙ ap (is_among c.bytes.result.now) c.deref.ensures.value ∙ ap (λ n. is_among n inputs) c.bytes.ensures in
    c.in_ok-push.ensures.items ∙ ap (λ l. l ++ c.contains.result ∷ []) c.loop-output.invariant
    ∙ ap (λ b. map given (take i outputs) ++ b ∷ []) (here ∙ ap given at) ∙ sym (map_more given outputs i output (omega arith))
