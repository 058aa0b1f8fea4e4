use Rattle.std.proofs.Common.{◌≡◌, List, map, subst, sym, ◌∙◌}
use Rattle.std.proofs.lemmas.Result.{on_ok_weaker}
use Rattle.base_types.specs.Relations.{Excludes, Implies, relation_of}
use Rattle.base_types.specs.declared.indices.SigId.{SigId}
use Rattle.net_relations.specs.declared.implications.Implication.{Implication}
use Rattle.net_relations.specs.Implications.{AddsOnly, IsBelow, IsSaid}
use Rattle.net_relations.proofs.Said.{adds-nothing, adds-more, said-implies}
use Rattle.net_relations.proofs.implications.push_relation.Goals as goal

pub returns-in-Implies : goal.returns-in-Implies
returns-in-Implies c =
    let old = c.args.list.now.items in
    let new = c.push_implication.new.list.items in
    let P = IsSaid c.args.inputs (Implies c.in-Implies.a.0 c.in-Implies.b.0) in
    let Q : Implication → Type 0 = λ i. (i ≡ c.said.result) × IsBelow c.args.inputs i in
    on_ok_weaker c.push_implication.result
    (λ (adds : AddsOnly Q old new). subst (λ r. AddsOnly (IsSaid c.args.inputs (relation_of r)) old new) (sym c.in-Implies.is)
    (adds-more P Q old old new (adds-nothing P old) adds
    (λ i q. said-implies c.args.inputs c.in-Implies.a c.in-Implies.b i (q.0 ∙ c.said.ensures) q.1)))
    c.push_implication.ensures

pub returns-in-Excludes : goal.returns-in-Excludes
returns-in-Excludes c =
    let old = c.args.list.now.items in
    let new = c.push_exclusion.new.list.items in
    let E : List SigId → Implication → Type 0 = λ ids. IsSaid c.args.inputs (Excludes (map (λ s. s.0) ids)) in
    on_ok_weaker c.push_exclusion.result
    (λ (adds : AddsOnly (E c.deref.result.now) old new). subst (λ r. AddsOnly (IsSaid c.args.inputs (relation_of r)) old new) (sym c.in-Excludes.is)
    (subst (λ ids. AddsOnly (E ids) old new) c.deref.ensures.value adds))
    c.push_exclusion.ensures
