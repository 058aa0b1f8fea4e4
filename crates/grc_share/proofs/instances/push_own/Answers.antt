use Rattle.std.proofs.Common.{◌++◌, [], ◌∷◌, map, sym, ap, ◌∙◌}
use Rattle.std.proofs.lemmas.Bool.{eq-eqb, ne_eqb}
use Rattle.std.proofs.lemmas.List.{append-nil, map-append}
use Rattle.grc_graph.specs.PlainInstances.{instance_of}
use Rattle.grc_graph.proofs.Exports.{name_at}
use Rattle.grc_share.proofs.InstanceNumbers.{if-other, if-own, tells}
use Rattle.grc_share.proofs.instances.push_own.Goals as goal

pub returns-in_ok-push : goal.returns-in_ok-push
returns-in_ok-push c =
    let g = c.args.graph.now in
    let i = c.args.i in
    let old = map instance_of c.args.list.now.items in
    let named = sym (tells g i c.args.least c.requires.within c.requires.least) ∙ eq-eqb c.args.least.0 i c.if-least-i.true in
    let here = ap instance_of c.index.ensures ∙ sym (name_at g.instances.list.items i _ _ c.requires.within) in
    ap (map instance_of) c.in_ok-push.ensures.items ∙ map-append instance_of c.args.list.now.items (_ ∷ [])
    ∙ (λ t. old ++ (here t ∷ [])) ∙ ap (λ xs. old ++ xs) (sym (if-own g i named))

pub returns-else-least-i : goal.returns-else-least-i
returns-else-least-i c =
    let g = c.args.graph.now in
    let i = c.args.i in
    let old = map instance_of c.args.list.now.items in
    let other = sym (tells g i c.args.least c.requires.within c.requires.least) ∙ ne_eqb c.args.least.0 i c.if-least-i.false in
    sym (ap (λ xs. old ++ xs) (if-other g i other) ∙ append-nil old)
