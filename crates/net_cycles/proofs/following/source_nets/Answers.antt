use Rattle.std.proofs.Common.{◌≡◌, ◌+◌, ◌≤◌, List, [], ◌∷◌, ◌++◌, length, map, take, sym, ap, ◌∙◌, arith, append_assoc}
use Rattle.std.proofs.lemmas.List.{append-nil, map_more, take_all}
use Rattle.base_types.specs.declared.indices.NetId.{NetId}
use Rattle.grc_formulas.specs.declared.table.Source.{Source}
use Rattle.net_cycles.specs.declared.base.Base.{Base}
use Rattle.net_cycles.specs.Bases.{numbered_nets, source_net}
use Rattle.net_cycles.proofs.Sourcing.{numbered-more}
use Rattle.net_cycles.proofs.following.source_nets.Goals as goal

abbrev from_boot : Base → List NetId → List NetId
from_boot b l = b.no ∷ (b.yes ∷ (record { 0 = b.given } ∷ l))

pub loop-signal-preserved : goal.loop-signal-preserved
loop-signal-preserved c =
    let x : NetId = record { 0 = c.loop-signal.signal } in
    record {
      made = c.in_ok-push.ensures.items ∙ ap (λ l. l ++ x ∷ []) c.loop-signal.invariant.made
          ∙ ap (from_boot c.args.base) (sym (numbered-more c.loop-signal.signal));
    }

pub loop-source-init : goal.loop-source-init
loop-source-init c =
    let last : c.loop-signal.signal ≡ c.args.base.given = omega arith in
    record {
      made = c.loop-signal.invariant.made ∙ ap (λ k. from_boot c.args.base (numbered_nets k)) last
          ∙ ap (from_boot c.args.base) (sym (append-nil (numbered_nets c.args.base.given)));
    }

pub loop-source-preserved : goal.loop-source-preserved
loop-source-preserved c =
    let b = c.args.base in
    let k = c.loop-source.source-index in
    let xs = c.as_slice-source-items.result.now in
    let e = c.as_slice-source-items.ensures.value in
    let F = λ (s : Source). source_net b [] c.args.rows.now s in
    let N = numbered_nets b.given in
    record {
      made = c.in_ok-push-2.ensures.items
          ∙ ap (λ l. l ++ c.source_net-net.result ∷ []) (c.loop-source.invariant.made ∙ ap (λ l. from_boot b (N ++ map F (take k l))) (sym e))
          ∙ ap (from_boot b) (append_assoc N (map F (take k xs)) (c.source_net-net.result ∷ [])
          ∙ ap (λ l. N ++ l) (ap (λ x. map F (take k xs) ++ x ∷ []) c.source_net-net.ensures ∙ sym (map_more F xs k _ c.loop-source-test.true)))
          ∙ ap (λ l. from_boot b (N ++ map F (take (k + 1) l))) e;
    }

pub returns : goal.returns
returns c =
    let b = c.args.base in
    let F = λ (s : Source). source_net b [] c.args.rows.now s in
    let e = c.as_slice-source-items.ensures.value in
    let many = ap length e in
    let whole : length c.args.words.now.selected.items ≤ c.loop-source.source-index = omega arith in
    c.loop-source.invariant.made
    ∙ ap (λ l. from_boot b (numbered_nets b.given ++ map F l)) (take_all c.loop-source.source-index c.args.words.now.selected.items whole)
