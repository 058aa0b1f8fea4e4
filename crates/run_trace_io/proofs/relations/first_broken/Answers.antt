use Rattle.std.proofs.Common.{◌≡◌, map, get_or, ap, sym, ◌∙◌, subst, arith, ⊎_elim}
use Rattle.std.proofs.lemmas.Bool.{cases_eq}
use Rattle.std.proofs.lemmas.List.{get_or-map}
use Rattle.base_types.specs.Relations.{relation_of, Meets}
use Rattle.run_trace_io.proofs.relations.first_broken.Goals as goal

pub loop-k-preserved : goal.loop-k-preserved
loop-k-preserved c = λ j d h.
    let relations = c.args.relations.now in
    let k = c.loop-k.k in
    let relation = c.index-relations-k.result in
    let at : get_or (map relation_of relations) k d ≡ relation_of relation = get_or-map relation_of relations k relation d (omega arith)
    ∙ ap relation_of (sym c.index-relations-k.is) in
    ⊎_elim
    (λ (same : j ≡ k). subst (Meets c.args.event.now) (sym (ap (λ i. get_or (map relation_of relations) i d) same ∙ at))
    (c.meets.ensures.0 c.if-not-meets.false))
    (λ (apart : j ≡ k → ⊥). c.loop-k.invariant j d (omega arith))
    (cases_eq j k)
