use Rattle.std.proofs.Common.{◌∷◌, ◌++◌, [], length, map, get_or, sym, ap, ◌∙◌, subst, arith}
use Rattle.std.specs.Prelude.{All, IsTrue}
use Rattle.std.proofs.lemmas.List.{map-append, take_more}
use Rattle.std.proofs.lemmas.List.Elements.{All-append, All-cons, All-nil}
use Rattle.base_types.specs.declared.indices.WireId.{WireId}
use Rattle.est_kernel.specs.Plain.{program_of}
use Rattle.grc_graph.specs.declared.wires.Wire.{Wire}
use Rattle.grc_graph.specs.GraphShapes.{wire_fits}
use Rattle.grc_graph.specs.Layers.{Resumed}
use Rattle.grc_graph.specs.PlainGraphs.{instances_of, names_of, wire_at, wire_of}
use Rattle.grc_graph.specs.Wires.{Go}
use Rattle.grc_share.specs.Renamings.{by_instance}
use Rattle.grc_share.specs.SharedGraphs.{shared_instances}
use Rattle.grc_share.specs.SharedInstances.{body_sharing}
use Rattle.grc_share.specs.SharedWires.{shared_wires}
use Rattle.grc_share.proofs.SharedFormulas.{wire-read}
use Rattle.grc_share.proofs.SharedNaming.{least-at, least-low, least-many, least-own, own-by_instance}
use Rattle.grc_share.proofs.naming.shared_wire_list.Goals as goal

pub loop-w-preserved : goal.loop-w-preserved
loop-w-preserved c =
    let g = c.args.graph.now in
    let p = program_of g.program in
    let K = body_sharing p.body in
    let least = c.args.least.now in
    let are = c.requires.least in
    let numbers = c.requires.numbers.numbers.instance_numbers in
    let i = c.loop-w.w-index in
    let low = c.loop-w-test.true in
    let d : WireId = record { 0 = 0 } in
    let w = (get_or least i d).0 in
    let x = c.index.result.now in
    let named = c.renamed_wire.ensures.named K (instances_of g) (shared_instances p) numbers
    ∙ ap (by_instance K) (sym (wire-read g w x (least-low g c.requires.built least are i d low) c.index.ensures))
    ∙ own-by_instance K (wire_at (names_of g) w) (least-own g c.requires.built least are i d low) ∙ sym (least-at g c.requires.built least are i d low) in
    let more = take_more (shared_wires p) i (Go 0 Resumed) (omega (arith, low, least-many g c.requires.built least are)) in
    let fits = λ (v : Wire). IsTrue (wire_fits (length (shared_instances p)) v) in
    record {
      wires = ap (map (wire_of (shared_instances p))) c.in_ok-push.ensures.items
          ∙ map-append (wire_of (shared_instances p)) c.loop-w.wires.items (c.renamed_wire.result ∷ [])
          ∙ (λ t. c.loop-w.invariant.wires t ++ (named t ∷ [])) ∙ sym more;
      fit = subst (λ l. All fits l) (sym c.in_ok-push.ensures.items)
          (All-append fits c.loop-w.wires.items (c.renamed_wire.result ∷ []) c.loop-w.invariant.fit
          (All-cons fits c.renamed_wire.result [] (c.renamed_wire.ensures.fits K (instances_of g) (shared_instances p) numbers) (All-nil fits)));
    }
