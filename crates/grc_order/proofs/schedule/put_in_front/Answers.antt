use Rattle.std.proofs.Common.{◌≡◌, ◌+◌, List, length, ap, subst, arith}
use Rattle.std.specs.List.Sorted.{IsPermutation}
use Rattle.std.proofs.lemmas.List.{length_push}
use Rattle.std.proofs.lemmas.List.Sorted.{IsPermutation-swap}
use Rattle.base_types.specs.declared.indices.WireId.{WireId}
use Rattle.grc_order.proofs.schedule.put_in_front.Goals as goal

pub returns : goal.returns
returns c =
    let ready = c.args.ready.now.items in
    let pushed = c.push.new.self.items in
    let end = c.len-end.result in
    let more : length pushed ≡ length ready + 1 = omega (arith, ap length c.in_ok-push.ensures.items, length_push ready c.args.wire) in
    let last : end ≡ length ready = omega (arith, c.len-end.ensures, c.args.ready.now.ok.0) in
    subst (λ (l : List WireId). IsPermutation l c.swap.new.self.items) c.in_ok-push.ensures.items
    (IsPermutation-swap pushed c.swap.new.self.items 0 end (omega (arith, more)) (omega (arith, more, last)) c.swap.ensures.items)
