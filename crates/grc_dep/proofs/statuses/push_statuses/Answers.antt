use Rattle.std.proofs.Common.{◌≡◌, ℕ, ◌+◌, ◌++◌, ◌<◌, List, [], map, take, length, get_or, ap, sym, ◌∙◌, arith}
use Rattle.std.specs.Prelude.{flat_map}
use Rattle.std.proofs.lemmas.List.{append-nil, map_more, flat_map_more, get_or-map, length-map}
use Rattle.base_types.specs.declared.indices.SigId.{SigId}
use Rattle.grc_graph.specs.declared.statements.Binding.TheVariants as kinds
use Rattle.grc_graph.specs.PlainInstances.{layer_of}
use Rattle.grc_graph.specs.StatementViews.{binding_of}
use Rattle.grc_graph.specs.Wires.{status_wire}
use Rattle.grc_graph.specs.Edges.{Edge, status_to}
use Rattle.grc_dep.specs.Names.{wire_named}
use Rattle.grc_dep.specs.Found.{found_by}
use Rattle.grc_dep.proofs.Founds.{found_none, pushed_2}
use Rattle.grc_dep.proofs.statuses.push_statuses.Goals as goal

pub loop-k-init : goal.loop-k-init
loop-k-init c = λ B e. sym (ap (λ l. c.args.pairs.now.items ++ l) (found_none _) ∙ append-nil c.args.pairs.now.items)

pub loop-k-preserved : goal.loop-k-preserved
loop-k-preserved c = λ B e.
    let k = c.loop-k.k in
    let signals = c.args.signals.now in
    let bindings = c.args.bindings.now in
    let none : SigId = record { 0 = 0 } in
    let number : SigId → ℕ = λ s. s.0 in
    let s = (get_or signals k none).0 in
    let l = layer_of c.args.layer in
    let f : ℕ → List Edge = λ s. status_to (status_wire (B s) s l) (wire_named c.args.to) in
    let low : k < length signals = omega arith in
    let bound : binding_of (get_or bindings k kinds.Entering) ≡ B s =
    sym (get_or-map binding_of bindings k kinds.Entering (B 0) (omega (arith, c.requires))) ∙ ap (λ l. get_or l k (B 0)) e
    ∙ get_or-map B (map number signals) k 0 (B 0) (omega (arith, length-map signals number)) ∙ ap B (get_or-map number signals k none 0 low) in
    let here = c.in_ok-push_status.ensures ∙ ap (λ o. c.loop-k.pairs.items ++ found_by c.args.lookups.now (status_to o (wire_named c.args.to)))
    (c.status_name-from.ensures ∙ ap (λ b. status_wire b s l) bound) in
    let more : flat_map f (map number (take k signals)) ++ f s ≡ flat_map f (map number (take (k + 1) signals)) =
    flat_map_more f [] (map number (take k signals)) s ∙ ap (flat_map f) (sym (map_more number signals k none low)) in
    pushed_2 _ _ _ _ (flat_map f (map number (take k signals))) (f s) (c.loop-k.invariant B e) here
    ∙ ap (λ es. c.args.pairs.now.items ++ found_by c.args.lookups.now es) more
