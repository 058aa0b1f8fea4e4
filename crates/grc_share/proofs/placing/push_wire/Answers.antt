use Rattle.std.proofs.Common.{◌∷◌, [], ◌++◌, map, set, sym, ap, ◌∙◌}
use Rattle.std.proofs.lemmas.List.{map-set, get_or-map}
use Rattle.grc_share.proofs.placing.push_wire.Goals as goal

pub returns-clause-lists : goal.returns-clause-lists
returns-clause-lists c =
    let items = c.args.lists.now.items in
    map-set (λ v. v.items) items c.args.place c.push.new.self
    ∙ ap (λ l. set (map (λ v. v.items) items) c.args.place l)
    (c.in_ok-push.ensures.ok ∙ ap (λ l. l ++ c.args.wire ∷ []) (ap (λ v. v.items) c.index_mut-list.ensures.value
    ∙ sym (get_or-map (λ v. v.items) items c.args.place c.index_mut-list.result.now [] c.requires)))
