use Rattle.std.proofs.Common.{◌≡◌, ℕ, ◌<◌, ◌++◌, List, [], length, map, get_or, sym, ap, ◌∙◌, subst, arith}
use Rattle.std.specs.Prelude.{All, filter}
use Rattle.std.proofs.lemmas.List.{length-map, take_all}
use Rattle.std.proofs.lemmas.List.Elements.{All-get_or, All-nil}
use Rattle.base_types.specs.declared.indices.WireId.{WireId}
use Rattle.est_kernel.specs.Plain.{program_of}
use Rattle.grc_graph.specs.GraphRuns.{program_spots}
use Rattle.grc_graph.specs.PlainGraphs.{wire_at}
use Rattle.grc_share.specs.Renamings.{emissions_of, values}
use Rattle.grc_share.specs.SharedGraphs.{emits_on, go_value}
use Rattle.grc_share.specs.SharedInstances.{body_sharing}
use Rattle.grc_share.specs.SharedWires.{shared_wires}
use Rattle.grc_share.proofs.EmissionLists.{next-least, spots-many}
use Rattle.grc_share.proofs.emissions.emission_lists.Goals as goal

pub loop-i-init : goal.loop-i-init
loop-i-init c =
    let p = program_of c.args.graph.now.program in
    let lists = map (λ v. v.items) c.in_ok-lists.lists.items in
    let empty : (k : ℕ) → k < c.args.count → get_or lists k [] ≡ [] = λ k l. All-get_or (λ (list : List WireId). list ≡ []) lists k []
    (omega (arith, l, length-map c.in_ok-lists.lists.items (λ v. v.items), c.in_ok-lists.ensures.length)) c.in_ok-lists.ensures.empty in
    record {
      each = c.in_ok-lists.ensures.length;
      within = λ k l. subst (λ (list : List WireId). All (λ w. w.0 < length (shared_wires p)) list) (sym (empty k l))
          (All-nil (λ (w : WireId). w.0 < length (shared_wires p)));
      so_far = λ k l. ap (values (shared_wires p)) (empty k l);
    }

pub loop-i-preserved : goal.loop-i-preserved
loop-i-preserved c =
    let g = c.args.graph.now in
    let p = program_of g.program in
    let i = c.loop-i.i in
    let low : i < length g.instances.list.items = omega (arith, g.indices.nodes_all) in
    record {
      each = c.push_emission.ensures.each ∙ c.loop-i.invariant.each;
      within = λ k l.
          (c.in_ok-push_emission.ensures.lists k (omega (arith, l, c.requires.count))).within (c.loop-i.invariant.within k l);
      so_far = λ k l.
          let u = wire_at (shared_wires p) k in
          (c.in_ok-push_emission.ensures.lists k (omega (arith, l, c.requires.count))).gained
          ∙ ap (λ fs. fs ++ emissions_of p u i) (c.loop-i.invariant.so_far k l)
          ∙ sym (next-least g c.requires.built (emits_on (body_sharing p.body) u) go_value i low);
    }

pub returns-clause-lists : goal.returns-clause-lists
returns-clause-lists c = λ k l.
    let g = c.args.graph.now in
    let p = program_of g.program in
    let many = spots-many g c.requires.built in
    let all = take_all c.loop-i.i (program_spots p) (omega (arith, many, g.indices.nodes_all)) in
    record {
      named = c.loop-i.invariant.so_far k l
          ∙ ap (λ xs. map go_value (filter (emits_on (body_sharing p.body) (wire_at (shared_wires p) k)) xs)) all;
      within = c.loop-i.invariant.within k l;
    }
