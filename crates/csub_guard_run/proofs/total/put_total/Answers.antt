use Rattle.std.proofs.Common.{rules, arith, ◌≤◌, length, subst, sym, ◌∙◌}
use Rattle.csub_guard_run.proofs.Totals.{some-digits, parts-written}
use Rattle.csub_guard_run.proofs.total.put_total.Goals as goal

pub slice_bounds-put-count : goal.slice_bounds-put-count
slice_bounds-put-count c =
    subst (λ l. 1 ≤ length l) (sym (c.as_bytes-3.ensures.value ∙ c.format-3.ensures.text)) (some-digits c.args.total.low c.requires.room)

pub slice_bounds-put-start : goal.slice_bounds-put-start
slice_bounds-put-start c =
    let some = subst (λ l. 1 ≤ length l) (sym (c.as_bytes-3.ensures.value ∙ c.format-3.ensures.text)) (some-digits c.args.total.low c.requires.room) in
    search (rules, some)

pub returns : goal.returns
returns c =
    parts-written c.put-3.result c.args.text.now.items c.put-2.new.text.items c.put-3.new.text.items _ _ c.args.total.high c.args.total.low
    (omega (arith, c.if-total-eq0.false)) (omega arith) c.requires.room c.in_ok-put.ensures
    (c.as_bytes-2.ensures.value ∙ c.format-2.ensures.text) (c.as_bytes-3.ensures.value ∙ c.format-3.ensures.text) c.put-3.ensures
