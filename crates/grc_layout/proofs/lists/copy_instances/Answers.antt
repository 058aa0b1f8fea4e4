use Rattle.std.proofs.Common.{◌∙◌, ap, drop, subst}
use Rattle.std.proofs.lemmas.Result.{err_from_is_err_and}
use Rattle.grc_layout.specs.Copying.{starts, resumed_instances, liveness_of, Gains, IsTooMany}
use Rattle.grc_layout.proofs.Counts.{Gains-append, IsTooMany-append, IsTooMany-after}
use Rattle.grc_layout.proofs.Positions.{instances_in_order}
use Rattle.grc_layout.proofs.lists.copy_instances.Goals as goal

pub returns-in_err-push_resumed-clause-many : goal.returns-in_err-push_resumed-clause-many
returns-in_err-push_resumed-clause-many c =
    let e = err_from_is_err_and c.from_residual.result c.from_residual.ensures.1 in
    let order = instances_in_order (liveness_of c.args.at c.args.lists.now.roots.items) c.args.at.path in
    rw (e.1, e.2) (subst (λ l. IsTooMany c.args.lists.now.live.items l c.in_err-push_resumed.field-0.0) order
    (IsTooMany-append c.args.lists.now.live.items (resumed_instances c.args.at.path c.args.at.resumed) _ c.in_err-push_resumed.field-0.0
    c.in_err-push_resumed.ensures.many))

pub returns-in_err-push_starts-clause-many : goal.returns-in_err-push_starts-clause-many
returns-in_err-push_starts-clause-many c =
    let e = err_from_is_err_and c.from_residual-in_err-push_starts.result c.from_residual-in_err-push_starts.ensures.1 in
    let order = instances_in_order (liveness_of c.args.at c.args.lists.now.roots.items) c.args.at.path in
    let roots = ap (λ l. starts c.args.at.path l) (c.roots_from.ensures ∙ ap (λ l. drop c.args.at.base l) c.deref.ensures) in
    rw (e.1, e.2) (subst (λ l. IsTooMany c.args.lists.now.live.items l c.in_err-push_starts.field-0.0) order
    (IsTooMany-after c.args.lists.now.live.items c.push_resumed.new.live.items
    (resumed_instances c.args.at.path c.args.at.resumed) _ c.in_err-push_starts.field-0.0 c.in_ok-push_resumed.ensures.live
    (subst (λ l. IsTooMany c.push_resumed.new.live.items l c.in_err-push_starts.field-0.0) roots c.in_err-push_starts.ensures.many)))

pub returns-clause-live : goal.returns-clause-live
returns-clause-live c =
    let order = instances_in_order (liveness_of c.args.at c.args.lists.now.roots.items) c.args.at.path in
    let roots = ap (λ l. starts c.args.at.path l) (c.roots_from.ensures ∙ ap (λ l. drop c.args.at.base l) c.deref.ensures) in
    subst (λ l. Gains c.args.lists.now.live.items c.push_starts.new.live.items l) order
    (Gains-append c.args.lists.now.live.items c.push_resumed.new.live.items c.push_starts.new.live.items _ _ c.in_ok-push_resumed.ensures.live
    (subst (λ l. Gains c.push_resumed.new.live.items c.push_starts.new.live.items l) roots c.in_ok-push_starts.ensures.live))
