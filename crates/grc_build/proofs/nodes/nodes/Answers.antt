use Rattle.grc_build.proofs.Words.{◌<◌, [], ◌∷◌, ◌++◌, length, map, sym, ap, ◌∙◌, subst, arith, All, IsTrue, map-append, All-push, node_fits, instances_in}
use Rattle.grc_build.proofs.Words.{names_in, spot_node, node_form, spot_in}
use Rattle.grc_build.proofs.TableSpots.{spots_in, one_more, all_spots}
use Rattle.grc_build.proofs.nodes.nodes.Goals as goal

pub loop-number-init : goal.loop-number-init
loop-number-init c =
    let insts = instances_in c.args.tables.now.wires in
    let names = names_in c.args.tables.now.wires in (
      ap (map (node_form insts names)) c.in_ok-list.ensures.items,
      subst (λ l. All (λ x. IsTrue (node_fits (length insts) (length names) x)) l) (sym c.in_ok-list.ensures.items) (λ k d h. absurd (omega arith)),
    )

pub node-requires-clause-within : goal.node-requires-clause-within
node-requires-clause-within c = omega (arith, c.count-number-end.ensures)

pub loop-number-preserved : goal.loop-number-preserved
loop-number-preserved c =
    let t = c.args.tables.now in
    let i = c.loop-number.number in
    let insts = instances_in t.wires in
    let names = names_in t.wires in
    let inside : i < length insts = omega (arith, c.count-number-end.ensures) in
    let x = c.node.result in
    let items = c.in_ok-push.ensures.items in (
      ap (map (node_form insts names)) items ∙ map-append (node_form insts names) c.loop-number.list.items (x ∷ [])
          ∙ (λ j. c.loop-number.invariant.0 j ++ c.node.ensures.same j ∷ []) ∙ sym (map-append spot_node (spots_in t i) (spot_in t i ∷ []))
          ∙ ap (map spot_node) (sym (one_more t i inside)),
      subst (λ l. All (λ v. IsTrue (node_fits (length insts) (length names) v)) l) (sym items)
          (All-push (λ v. IsTrue (node_fits (length insts) (length names) v)) c.loop-number.list.items x c.loop-number.invariant.1 c.node.ensures.fits),
    )

pub returns-clause-same : goal.returns-clause-same
returns-clause-same c =
    c.loop-number.invariant.0 ∙ ap (map spot_node) (all_spots c.args.tables.now c.loop-number.number c.requires (omega (arith, c.count-number-end.ensures)))
