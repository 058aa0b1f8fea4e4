use Rattle.std.proofs.Common.{ap, ◌∙◌, rules}
use Rattle.grc_order.specs.Schedules.{edges_from}
use Rattle.grc_order.proofs.RunLaws.{edges_from-run, run-ordered, beginnings_rise}
use Rattle.grc_order.proofs.edge_runs.edges_from.Goals as goal

pub begin_of-begin-requires : goal.begin_of-begin-requires
begin_of-begin-requires c = rw c.as_slice-pairs.ensures.value (beginnings_rise _ _ c.args.edges.now.are_edges)

pub end_of-end-requires : goal.end_of-end-requires
end_of-end-requires c = rw c.as_slice-pairs.ensures.value (beginnings_rise _ _ c.args.edges.now.are_edges)

pub slice_bounds-result-count : goal.slice_bounds-result-count
slice_bounds-result-count c = run-ordered _ _ _ _ c.begin_of-begin.ensures.bound c.end_of-end.ensures.bound c.begin_of-begin.ensures.point
    c.end_of-end.ensures.point

pub returns : goal.returns
returns c =
    edges_from-run _ _ _ _ c.begin_of-begin.ensures.bound c.end_of-end.ensures.bound c.begin_of-begin.ensures.point c.end_of-end.ensures.point
    ∙ ap (edges_from c.args.wire.0) c.as_slice-pairs.ensures.value

pub slice_bounds-result-start : goal.slice_bounds-result-start
slice_bounds-result-start c =
    let ordered = run-ordered _ _ _ _ c.begin_of-begin.ensures.bound c.end_of-end.ensures.bound c.begin_of-begin.ensures.point c.end_of-end.ensures.point in
    search (rules, ordered)
