use Rattle.std.proofs.Common.{ap, subst}
use Rattle.est_kernel.specs.Plain.{term_of}
use Rattle.grc_graph.specs.Neighbouring.{names_in}
use Rattle.grc_graph.specs.PlainInstances.{instance_of}
use Rattle.grc_graph.specs.WireTables.{owner}
use Rattle.grc_share.specs.LeastMembers.{HasResumedStatus}
use Rattle.grc_share.specs.SharedInstances.{body_sharing}
use Rattle.grc_share.proofs.WireLeast.{end-least, end-some, go-least, in-range, least-at, path-low, root-low, status-resumed-least, status-some}
use Rattle.grc_share.proofs.WireLeast.{status-started-least}
use Rattle.grc_share.proofs.least_members.least_wire.Goals as goal

pub go-requires : goal.go-requires
go-requires c =
    let g = c.args.graph.now in
    let t = c.neighbours-tables in
    let low = in-range g c.requires.built c.args.least.now t.result t.ensures.instances t.ensures.wires c.args.w.0 c.index.result.now c.requires.within
    c.index.ensures c.in-Go.i.0 (ap owner c.in-Go.is) in
    (least-at g c.requires.built c.args.least.now t.result t.ensures.instances t.ensures.wires c.requires.instances c.requires.least c.in-Go.i.0 low).low

pub returns-in-Go : goal.returns-in-Go
returns-in-Go c =
    let g = c.args.graph.now in
    let t = c.neighbours-tables in
    let low = in-range g c.requires.built c.args.least.now t.result t.ensures.instances t.ensures.wires c.args.w.0 c.index.result.now c.requires.within
    c.index.ensures c.in-Go.i.0 (ap owner c.in-Go.is) in
    go-least g c.requires.built c.args.least.now t.result t.ensures.instances t.ensures.wires c.args.w.0 c.index.result.now c.requires.within
    c.index.ensures c.in-Go.i.0 _ c.in-Go.is
    (least-at g c.requires.built c.args.least.now t.result t.ensures.instances t.ensures.wires c.requires.instances c.requires.least c.in-Go.i.0 low)
    c.go.ensures

pub end-requires : goal.end-requires
end-requires c =
    let g = c.args.graph.now in
    let t = c.neighbours-tables in
    let low = in-range g c.requires.built c.args.least.now t.result t.ensures.instances t.ensures.wires c.args.w.0 c.index.result.now c.requires.within
    c.index.ensures c.in-End.i.0 (ap owner c.in-End.is) in
    (least-at g c.requires.built c.args.least.now t.result t.ensures.instances t.ensures.wires c.requires.instances c.requires.least c.in-End.i.0 low).low

pub unreachable-requires : goal.unreachable-requires
unreachable-requires c =
    let g = c.args.graph.now in
    let t = c.neighbours-tables in
    let low = in-range g c.requires.built c.args.least.now t.result t.ensures.instances t.ensures.wires c.args.w.0 c.index.result.now c.requires.within
    c.index.ensures c.in-End.i.0 (ap owner c.in-End.is) in
    end-some g c.requires.built c.args.least.now t.result t.ensures.instances t.ensures.wires c.args.w.0 c.index.result.now c.requires.within
    c.index.ensures c.in-End.i.0 c.in-End.code c.in-End.is
    (least-at g c.requires.built c.args.least.now t.result t.ensures.instances t.ensures.wires c.requires.instances c.requires.least c.in-End.i.0 low)
    c.in-None.ensures

pub returns-in-Some : goal.returns-in-Some
returns-in-Some c =
    let g = c.args.graph.now in
    let t = c.neighbours-tables in
    let low = in-range g c.requires.built c.args.least.now t.result t.ensures.instances t.ensures.wires c.args.w.0 c.index.result.now c.requires.within
    c.index.ensures c.in-End.i.0 (ap owner c.in-End.is) in
    end-least g c.requires.built c.args.least.now t.result t.ensures.instances t.ensures.wires c.args.w.0 c.index.result.now c.requires.within
    c.index.ensures c.in-End.i.0 _ c.in-End.code c.in-End.is
    (least-at g c.requires.built c.args.least.now t.result t.ensures.instances t.ensures.wires c.requires.instances c.requires.least c.in-End.i.0 low)
    c.in-Some.ensures

pub resumed_status-requires-clause-path : goal.resumed_status-requires-clause-path
resumed_status-requires-clause-path c =
    let g = c.args.graph.now in
    let t = c.neighbours-tables in
    path-low g c.requires.built c.args.least.now t.result t.ensures.instances t.ensures.wires c.args.w.0 c.index.result.now c.requires.within
    c.index.ensures c.in-Local.i.0 c.index-instance.result.now c.in-Local.is c.index-instance.ensures _ c.requires.each

pub resumed_status-requires-clause-root : goal.resumed_status-requires-clause-root
resumed_status-requires-clause-root c =
    let g = c.args.graph.now in
    let t = c.neighbours-tables in
    root-low g c.requires.built c.args.least.now t.result t.ensures.instances t.ensures.wires c.args.w.0 c.index.result.now c.requires.within
    c.index.ensures c.in-Local.i.0 c.index-instance.result.now c.in-Local.is c.index-instance.ensures _ c.requires.each

pub returns-in-Some-resumed_status : goal.returns-in-Some-resumed_status
returns-in-Some-resumed_status c =
    let g = c.args.graph.now in
    let t = c.neighbours-tables in
    status-resumed-least g c.requires.built c.args.least.now t.result t.ensures.instances t.ensures.wires c.args.w.0 c.index.result.now c.requires.within
    c.index.ensures c.in-Local.i.0 c.index-instance.result.now c.in-Local.is c.index-instance.ensures _
    (subst (HasResumedStatus (body_sharing (term_of g.program.body)) (names_in t.result) (instance_of c.index-instance.result.now))
    c.in-Some-resumed_status.is (c.resumed_status.ensures (term_of g.program.body) c.requires.counts))

pub status-requires : goal.status-requires
status-requires c =
    let g = c.args.graph.now in
    let t = c.neighbours-tables in
    let low = in-range g c.requires.built c.args.least.now t.result t.ensures.instances t.ensures.wires c.args.w.0 c.index.result.now c.requires.within
    c.index.ensures c.in-Local.i.0 (ap owner c.in-Local.is) in
    (least-at g c.requires.built c.args.least.now t.result t.ensures.instances t.ensures.wires c.requires.instances c.requires.least c.in-Local.i.0 low).low

pub unreachable-requires-in-None-status : goal.unreachable-requires-in-None-status
unreachable-requires-in-None-status c =
    let g = c.args.graph.now in
    let t = c.neighbours-tables in
    let low = in-range g c.requires.built c.args.least.now t.result t.ensures.instances t.ensures.wires c.args.w.0 c.index.result.now c.requires.within
    c.index.ensures c.in-Local.i.0 (ap owner c.in-Local.is) in
    status-some g c.requires.built c.args.least.now t.result t.ensures.instances t.ensures.wires c.args.w.0 c.index.result.now c.requires.within
    c.index.ensures c.in-Local.i.0 c.index-instance.result.now c.in-Local.is c.index-instance.ensures
    (least-at g c.requires.built c.args.least.now t.result t.ensures.instances t.ensures.wires c.requires.instances c.requires.least c.in-Local.i.0 low)
    c.in-None-status.ensures

pub returns-in-Some-status : goal.returns-in-Some-status
returns-in-Some-status c =
    let g = c.args.graph.now in
    let t = c.neighbours-tables in
    let low = in-range g c.requires.built c.args.least.now t.result t.ensures.instances t.ensures.wires c.args.w.0 c.index.result.now c.requires.within
    c.index.ensures c.in-Local.i.0 (ap owner c.in-Local.is) in
    status-started-least g c.requires.built c.args.least.now t.result t.ensures.instances t.ensures.wires c.args.w.0 c.index.result.now c.requires.within
    c.index.ensures c.in-Local.i.0 c.index-instance.result.now c.in-Local.is c.index-instance.ensures _
    (least-at g c.requires.built c.args.least.now t.result t.ensures.instances t.ensures.wires c.requires.instances c.requires.least c.in-Local.i.0 low)
    (subst (HasResumedStatus (body_sharing (term_of g.program.body)) (names_in t.result) (instance_of c.index-instance.result.now))
    c.in-None-resumed_status.is (c.resumed_status.ensures (term_of g.program.body) c.requires.counts)) c.in-Some-status.ensures
