use Rattle.std.proofs.Common.{◌+◌, ◌-◌, length, get_or, sym, ◌∙◌, ap, arith}
use Rattle.est_dismantle.specs.Boxes.{boxed_term}
use Rattle.est_kernel.specs.Terms.{Local}
use Rattle.est_dismantle.proofs.Lists.{locals-at, get_or-same}
use Rattle.est_dismantle.proofs.derived.locals.Goals as goal

pub loop-behind-preserved : goal.loop-behind-preserved
loop-behind-preserved c =
    let l = c.args.signals.now in let n = length l in let behind = c.loop-behind.behind in let i = n - 1 - behind in
    c.in_ok-whole.ensures ∙ ap (Local (get_or l i (record { 0 = 0 })).0) c.loop-behind.invariant
    ∙ sym (locals-at (λ s. s.0) l i (n - (behind + 1)) (n - behind) (get_or l i (record { 0 = 0 })) (boxed_term c.args.body) (omega arith) (omega arith)
    (omega arith) (get_or-same l i (record { 0 = 0 }) (omega arith)))
