use Rattle.std.proofs.Common.{◌≡◌, ◌+◌, List, [], ◌∷◌, ◌++◌, map, take, drop, slice_index_or, sym, ap, ◌∙◌}
use Rattle.std.proofs.lemmas.List.{map_more}
use Rattle.base_types.specs.declared.indices.NetId.{NetId}
use Rattle.est_kernel.specs.Plain.{program_of}
use Rattle.grc_formulas.specs.declared.table.Source.TheVariants.{Leaf}
use Rattle.net_ir.specs.declared.netlist.NetOut.{NetOut}
use Rattle.net_gen.specs.Drawings.{drawing_of}
use Rattle.net_gen.specs.Readiness.{source_net}
use Rattle.net_gen.proofs.Naming.{take-found_behind, map-push}
use Rattle.net_gen.proofs.names.outputs_of.Goals as goal

pub loop-place-preserved : goal.loop-place-preserved
loop-place-preserved c =
    let names = (program_of c.args.program.now).signals in
    let out : NetOut = record { name = c.in_ok-name.name; net = c.source-net.result } in
    let outs = c.loop-place.outs.items in
    let k = c.loop-place.place in
    let d = drawing_of c.args.circuit.now in
    let item = slice_index_or c.args.sources.now k (Leaf 0) in
    record {
      names = ap (map (λ (o : NetOut). o.name)) c.in_ok-push.ensures.items ∙ map-push (λ (o : NetOut). o.name) outs out
          ∙ ap (λ xs. xs ++ c.in_ok-name.name ∷ []) c.loop-place.invariant.names
          ∙ sym (take-found_behind names c.args.program.now.inputs k c.in_ok-name.name c.in_ok-name.ensures);
      nets = ap (map (λ (o : NetOut). o.net)) c.in_ok-push.ensures.items ∙ map-push (λ (o : NetOut). o.net) outs out
          ∙ ap (λ xs. xs ++ c.source-net.result ∷ []) c.loop-place.invariant.nets
          ∙ ap (λ (n : NetId). map (source_net d) (take k c.args.sources.now) ++ n ∷ []) c.source-net.ensures
          ∙ sym (map_more (source_net d) c.args.sources.now k _ c.loop-place-test.true);
    }
