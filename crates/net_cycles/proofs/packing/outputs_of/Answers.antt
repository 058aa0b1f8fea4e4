use Rattle.std.proofs.Common.{◌≡◌, ◌+◌, [], ◌∷◌, ◌++◌, map, take, sym, ap, ◌∙◌}
use Rattle.std.proofs.lemmas.List.{map_more}
use Rattle.base_types.specs.declared.indices.NetId.{NetId}
use Rattle.est_kernel.specs.Plain.{program_of}
use Rattle.grc_formulas.specs.declared.table.Source.{Source}
use Rattle.net_ir.specs.declared.netlist.NetOut.{NetOut}
use Rattle.net_gen.proofs.Exports.{map-push, take-found_behind}
use Rattle.net_cycles.specs.Bases.{source_net}
use Rattle.net_cycles.proofs.packing.outputs_of.Goals as goal

pub loop-place-preserved : goal.loop-place-preserved
loop-place-preserved c =
    let names = (program_of c.args.program.now).signals in
    let out : NetOut = record { name = c.in_ok-name.name; net = c.source_net-net.result } in
    let outs = c.loop-place.outs.items in
    let k = c.loop-place.place in
    let d = c.args.drawn.now in
    let N = λ (o : NetOut). o.net in
    let S = source_net d.base d.copies.items d.rows.items in
    let T = source_net d.base c.deref.result.now c.deref-in-loop-place.result.now in
    let same : T ≡ S = ap (λ xs. source_net d.base xs c.deref-in-loop-place.result.now) c.deref.ensures.value
    ∙ ap (source_net d.base d.copies.items) c.deref-in-loop-place.ensures.value in
    let so_far : map N outs ≡ map T (take k c.args.sources.now) =
    c.loop-place.invariant.nets ∙ ap (λ (f : Source → NetId). map f (take k c.args.sources.now)) (sym same) in
    record {
      names = ap (map (λ (o : NetOut). o.name)) c.in_ok-push.ensures.items ∙ map-push (λ (o : NetOut). o.name) outs out
          ∙ ap (λ xs. xs ++ c.in_ok-name.name ∷ []) c.loop-place.invariant.names
          ∙ sym (take-found_behind names c.args.program.now.inputs k c.in_ok-name.name c.in_ok-name.ensures);
      nets = ap (map N) c.in_ok-push.ensures.items ∙ map-push N outs out
          ∙ ap (λ xs. xs ++ c.source_net-net.result ∷ []) so_far
          ∙ ap (λ (n : NetId). map T (take k c.args.sources.now) ++ n ∷ []) c.source_net-net.ensures
          ∙ sym (map_more T c.args.sources.now k _ c.loop-place-test.true)
          ∙ ap (λ (f : Source → NetId). map f (take (k + 1) c.args.sources.now)) same;
    }
