use Rattle.std.proofs.Common.{◌≡◌, map, ◌∙◌}
use Rattle.std.proofs.lemmas.Result.{on_ok_weaker}
use Rattle.base_types.specs.Relations.{Excludes}
use Rattle.net_relations.specs.Implications.{AddsOnly, IsBelow, IsSaid}
use Rattle.net_relations.specs.declared.implications.Implication.{Implication}
use Rattle.net_relations.proofs.Said.{adds-nothing, adds-more, said-apart}
use Rattle.net_relations.proofs.implications.push_pair.Goals as goal

pub returns : goal.returns
returns c =
    let old = c.args.list.now.items in
    let new = c.push_implication.new.list.items in
    let P = IsSaid c.args.inputs (Excludes (map (λ s. s.0) c.args.signals.now)) in
    let Q : Implication → Type 0 = λ i. (i ≡ c.said-apart.result) × IsBelow c.args.inputs i in
    on_ok_weaker c.push_implication.result
    (λ (adds : AddsOnly Q old new). adds-more P Q old old new (adds-nothing P old) adds
    (λ i q. said-apart c.args.inputs c.args.signals.now c.args.left c.args.right (record { 0 = 0 }) i c.requires.left c.requires.right
    c.if-signals-left.false (q.0 ∙ c.said-apart.ensures) q.1))
    c.push_implication.ensures
