use Rattle.std.proofs.Common.{◌≡◌, ◌+◌, ◌*◌, ◌^◌, ◌<◌, suc, false, length, refl, get_or, sym, ap, ◌∙◌, arith}
use Rattle.std.proofs.Math.Nat.{pow-suc}
use Rattle.run_steps.proofs.TermValues.{number-more}
use Rattle.run_steps.proofs.lookup.lookup_value.Goals.{then-values-slot, else-values-slot}
use Rattle.run_steps.proofs.lookup.lookup_value.Goals as goal

pub loop-slot-preserved : goal.loop-slot-preserved
loop-slot-preserved c =
    let inv = c.loop-slot.invariant in
    let i = c.loop-slot.slot-index in
    let w = c.loop-slot.weight in
    let reads = c.args.lookup.now.reads.items in
    let values = c.args.values.now in
    let same = c.deref-slot-items.ensures.value in
    let low : i < length reads = omega (arith, ap length same) in
    let at : get_or c.deref-slot-items.result.now i 0 ≡ get_or reads i 0 = ap (λ l. get_or l i 0) same in
    let s : i + 1 ≡ suc i = omega arith in
    let more = number-more values reads i w c.loop-slot.place low in
    let heavy : w * 2 ≡ 2 ^ (i + 1) = ap (λ x. x * 2) inv.weighs ∙ sym (pow-suc 2 i) ∙ ap (λ n. 2 ^ n) (sym s) in
    elim c.if-values-slot.branch [
      | then-values-slot t ↦
          let here = sym (ap (λ k. get_or values k false) at) ∙ t.if-values-slot.true in
          record {
            weighs = heavy;
            below = omega (arith, t.place-is, inv.below);
            number = rw (t.place-is) (sym (more ∙ rw here refl) ∙ inv.number);
          }
      | else-values-slot t ↦
          let here = sym (ap (λ k. get_or values k false) at) ∙ t.if-values-slot.false in
          let p : c.loop-slot.place + 0 ≡ c.loop-slot.place = omega arith in
          record {
            weighs = heavy;
            below = omega (arith, t.place-is, inv.below);
            number = rw (t.place-is) (sym (more ∙ rw (here, p) refl) ∙ inv.number);
          }
    ]
