use Rattle.std.proofs.Common.{◌≡◌, ◌+◌, ◌<◌, [], ◌∷◌, ◌++◌, length, get_or, map, drop, ap, refl, sym, ◌∙◌, subst, add-one, drop-cons}
use Rattle.std.proofs.Math.ListN.{drop_of_length-le}
use Rattle.std.proofs.lemmas.List.{append-nil}
use Rattle.std.proofs.lemmas.Result.{err_from_is_err_and}
use Rattle.grc_graph.specs.PlainInstances.{instance_of}
use Rattle.grc_layout.specs.Copying.{starts, Reaches}
use Rattle.grc_layout.proofs.Counts.{Reaches-more, IsTooMany-reached}
use Rattle.grc_layout.proofs.lists.push_starts.Goals as goal

pub loop-root-init : goal.loop-root-init
loop-root-init c = record { list = refl; few = λ h. h }

pub returns-in_err-push_instance-clause-many : goal.returns-in_err-push_instance-clause-many
returns-in_err-push_instance-clause-many c =
    let e = err_from_is_err_and c.from_residual.result c.from_residual.ensures.1 in
    let i = c.loop-root.root-index in
    let roots = c.args.roots.now in
    let here : i < length roots = c.loop-root-test.true in
    let seam : drop i roots ≡ get_or roots i 0 ∷ drop (i + 1) roots = rw (add-one, drop-cons roots i 0) in
    rw (e.1, e.2) (IsTooMany-reached c.args.live.now.items c.loop-root.live.items _ _ _ _
    (subst (λ l. Reaches c.args.live.now.items c.loop-root.live.items (starts c.args.path roots) (starts c.args.path l)) seam c.loop-root.invariant)
    c.in_err-push_instance.ensures.many)

pub loop-root-preserved : goal.loop-root-preserved
loop-root-preserved c =
    let i = c.loop-root.root-index in
    let roots = c.args.roots.now in
    let here : i < length roots = c.loop-root-test.true in
    let seam : drop i roots ≡ get_or roots i 0 ∷ drop (i + 1) roots = rw (add-one, drop-cons roots i 0) in
    Reaches-more c.args.live.now.items c.loop-root.live.items c.push_instance.new.live.items (starts c.args.path roots) _
    (starts c.args.path (drop (i + 1) roots))
    (subst (λ l. Reaches c.args.live.now.items c.loop-root.live.items (starts c.args.path roots) (starts c.args.path l)) seam c.loop-root.invariant)
    c.in_ok-push_instance.ensures.live

pub returns : goal.returns
returns c =
    let none : drop c.loop-root.root-index c.args.roots.now ≡ [] = drop_of_length-le c.args.roots.now c.loop-root-test.false in
    record {
      live = record {
        list = sym (append-nil _) ∙ ap (λ l. map instance_of c.loop-root.live.items ++ starts c.args.path l) (sym none) ∙ c.loop-root.invariant.list;
        few = c.loop-root.invariant.few;
      };
      many = tt;
    }
