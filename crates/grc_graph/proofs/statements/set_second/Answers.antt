use Rattle.std.proofs.Common.{◌≡◌, map, get_or, set, sym, ap, ◌∙◌}
use Rattle.std.proofs.lemmas.List.{map-set, get_or-map}
use Rattle.grc_graph.specs.StatementViews.{view_of}
use Rattle.grc_graph.proofs.statements.set_second.Goals as goal

pub returns : goal.returns
returns c l =
    let items = c.args.list.now.items in
    let place = c.args.place in
    let s = c.index_mut-statement.result.now in
    let e : view_of s ≡ get_or (map view_of items) place l
    = ap view_of c.index_mut-statement.ensures.value ∙ sym (get_or-map view_of items place s l c.requires) in
    map-set view_of items place _ ∙ λ i. set (map view_of items) place (record (e i) { second = c.args.second })
