use Rattle.std.proofs.Common.{◌≡◌, ◌+◌, length, subst, sym, ap, ◌∙◌, arith}
use Rattle.std.proofs.lemmas.List.{with_items_is}
use Rattle.net_ir.specs.Netlists.{IsNet, first_gate}
use Rattle.net_ir.specs.Runs.{netlist_of}
use Rattle.net_simp.specs.Renaming.{through, renamed_net}
use Rattle.net_simp.specs.Simplified.{Simplified}
use Rattle.net_simp.proofs.Simple.{closed-of, passes-of, simplified-is-net, simplified}
use Rattle.net_simp.proofs.netlist.simplified_net.Goals as goal

pub packed_gates-requires-clause-closed : goal.packed_gates-requires-clause-closed
packed_gates-requires-clause-closed c =
    let old = c.args.net in
    let net = netlist_of old in
    let first : c.len.result + c.len-2.result ≡ first_gate net = omega (arith, old.inputs.ok.0, old.latches.ok.0, c.len.ensures, c.len-2.ensures) in
    let draft = c.in_ok-draft.draft.names.items in
    let mid = c.in_ok-draft.draft.gates.items in
    let begun = c.deref_mut.ensures.value ∙ c.in_ok-marks.ensures in
    let marks = c.mark_needed.new.marks in
    let marked_again = c.deref-3.ensures.value ∙ with_items_is c.in_ok-marks.marks marks (c.mark_needed.auto.marks ∙ c.deref_mut.ensures.len) in
    closed-of net (c.len.result + c.len-2.result) draft mid c.deref-2.result.now c.deref-4.result.now c.deref_mut.result.now marks c.deref-3.result.now
    first begun c.deref-2.ensures.value c.mark_needed.ensures c.deref-4.ensures.value marked_again

pub renamed_net-requires-clause-is_net : goal.renamed_net-requires-clause-is_net
renamed_net-requires-clause-is_net c =
    let old = c.args.net in
    let net = netlist_of old in
    let first : c.len.result + c.len-2.result ≡ first_gate net = omega (arith, old.inputs.ok.0, old.latches.ok.0, c.len.ensures, c.len-2.ensures) in
    let draft = c.in_ok-draft.draft.names.items in
    let mid = c.in_ok-draft.draft.gates.items in
    let begun = c.deref_mut.ensures.value ∙ c.in_ok-marks.ensures in
    let marks = c.mark_needed.new.marks in
    let marked_again = c.deref-3.ensures.value ∙ with_items_is c.in_ok-marks.marks marks (c.mark_needed.auto.marks ∙ c.deref_mut.ensures.len) in
    let kept = c.in_ok-kept.kept.names.items in
    let new = c.in_ok-kept.kept.gates.items in
    let passes = passes-of net (c.len.result + c.len-2.result) c.deref.result.now mid c.deref-2.result.now c.deref-4.result.now new draft kept
    c.deref_mut.result.now marks c.deref-3.result.now old.is_net first c.deref.ensures.value c.in_ok-draft.ensures begun c.deref-2.ensures.value
    c.mark_needed.ensures c.deref-4.ensures.value marked_again c.in_ok-kept.ensures in
    let names : through c.deref-5.result.now c.deref-6.result.now ≡ through draft kept =
    λ i. through (c.deref-5.ensures.value i) (c.deref-6.ensures.value i) in
    subst (λ f. IsNet (renamed_net net f new)) (sym names) (simplified-is-net net draft kept mid new c.mark_needed.ensures.before marks passes)

pub returns : goal.returns
returns c =
    let old = c.args.net in
    let net = netlist_of old in
    let first : c.len.result + c.len-2.result ≡ first_gate net = omega (arith, old.inputs.ok.0, old.latches.ok.0, c.len.ensures, c.len-2.ensures) in
    let draft = c.in_ok-draft.draft.names.items in
    let mid = c.in_ok-draft.draft.gates.items in
    let begun = c.deref_mut.ensures.value ∙ c.in_ok-marks.ensures in
    let marks = c.mark_needed.new.marks in
    let marked_again = c.deref-3.ensures.value ∙ with_items_is c.in_ok-marks.marks marks (c.mark_needed.auto.marks ∙ c.deref_mut.ensures.len) in
    let kept = c.in_ok-kept.kept.names.items in
    let new = c.in_ok-kept.kept.gates.items in
    let passes = passes-of net (c.len.result + c.len-2.result) c.deref.result.now mid c.deref-2.result.now c.deref-4.result.now new draft kept
    c.deref_mut.result.now marks c.deref-3.result.now old.is_net first c.deref.ensures.value c.in_ok-draft.ensures begun c.deref-2.ensures.value
    c.mark_needed.ensures c.deref-4.ensures.value marked_again c.in_ok-kept.ensures in
    let names : through c.deref-5.result.now c.deref-6.result.now ≡ through draft kept =
    λ i. through (c.deref-5.ensures.value i) (c.deref-6.ensures.value i) in
    subst (Simplified net) (sym (c.in_ok-made.ensures ∙ ap (λ f. renamed_net net f new) names))
    (simplified net draft kept mid new c.mark_needed.ensures.before marks passes)
