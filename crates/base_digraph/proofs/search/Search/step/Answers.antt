use Rattle.std.proofs.Common.{◌-◌, ◌<◌, length, refl, ap, arith, rules}
use Rattle.base_digraph.specs.declared.search.State.TheVariants.{New, OnPath, Ranked}
use Rattle.base_digraph.specs.Searches.{edge_at, is_ranked}
use Rattle.base_digraph.proofs.Steps.{IsRestOf-read, state_of-read, HasEdge-rest, StepsOn-enter, StepsOn-leave, StepsOn-skip, place_within, IsClosedWalk-at}
use Rattle.base_digraph.proofs.search.Search.step.Goals as goal

pub returns-then-rest-eq0 : goal.returns-then-rest-eq0
returns-then-rest-eq0 c =
    let r = c.requires in
    let at = IsRestOf-read c.args.edges.now c.args.self.now c.args.node c.index-rest.result.now r.search r.on_path r.last c.index-rest.ensures in
    StepsOn-leave c.args.edges.now c.args.self.now c.leave.new.self r.search c.args.node r.on_path r.last (omega (arith, at.read)) r.nodes c.in_ok-leave.ensures

pub offset_bounds-edges-rest : goal.offset_bounds-edges-rest
offset_bounds-edges-rest c =
    let r = c.requires in
    let at = IsRestOf-read c.args.edges.now c.args.self.now c.args.node c.index-rest.result.now r.search r.on_path r.last c.index-rest.ensures in
    let low : c.index-rest.result.now - 1 < length c.args.edges.now = omega (arith, at.within) in
    search rules

pub offset_bounds-earlier-rest : goal.offset_bounds-earlier-rest
offset_bounds-earlier-rest c =
    let r = c.requires in
    let at = IsRestOf-read c.args.edges.now c.args.self.now c.args.node c.index-rest.result.now r.search r.on_path r.last c.index-rest.ensures in
    let low : c.index-rest.result.now - 1 < length c.args.edges.now = omega (arith, at.within) in
    search rules

pub closed_walk-requires : goal.closed_walk-requires
closed_walk-requires c =
    let r = c.requires in
    let edges = c.args.edges.now in
    let old = c.args.self.now in
    let rest = c.index-rest.result.now in
    let at = IsRestOf-read edges old c.args.node rest r.search r.on_path r.last c.index-rest.ensures in
    let low : rest - 1 < length edges = omega (arith, at.within) in
    let on_path = state_of-read edges old.states.items (rest - 1) _ (OnPath c.in-OnPath.place) r.nodes low c.index.ensures c.in-OnPath.is in
    omega (arith, c.deref.ensures.len, place_within edges old r.search c.args.node rest c.in-OnPath.place at (omega arith) r.nodes on_path)

pub returns-in_ok-enter-in-New : goal.returns-in_ok-enter-in-New
returns-in_ok-enter-in-New c =
    let r = c.requires in
    let edges = c.args.edges.now in
    let old = c.args.self.now in
    let rest = c.index-rest.result.now in
    let at = IsRestOf-read edges old c.args.node rest r.search r.on_path r.last c.index-rest.ensures in
    let low : rest - 1 < length edges = omega (arith, at.within) in
    let new = state_of-read edges old.states.items (rest - 1) _ New r.nodes low c.index.ensures c.in-New.is in
    let joined = HasEdge-rest edges old c.args.node rest r.search at (omega arith) in
    StepsOn-enter edges old c.enter.new.self r.search (edge_at edges (rest - 1)).0 (r.nodes (rest - 1) (0, 0) low).0 new
    (λ some. rw r.last joined) c.in_ok-enter-in-New.ensures

pub returns-in_ok-walk-in-OnPath : goal.returns-in_ok-walk-in-OnPath
returns-in_ok-walk-in-OnPath c =
    let r = c.requires in
    let edges = c.args.edges.now in
    let old = c.args.self.now in
    let rest = c.index-rest.result.now in
    let at = IsRestOf-read edges old c.args.node rest r.search r.on_path r.last c.index-rest.ensures in
    let low : rest - 1 < length edges = omega (arith, at.within) in
    let on_path = state_of-read edges old.states.items (rest - 1) _ (OnPath c.in-OnPath.place) r.nodes low c.index.ensures c.in-OnPath.is in
    rw (c.in_ok-walk-in-OnPath.ensures, c.deref.ensures.value) (IsClosedWalk-at edges old r.search c.args.node rest c.in-OnPath.place at
    (omega arith) r.nodes on_path r.on_path r.last)

pub returns-in-Ranked : goal.returns-in-Ranked
returns-in-Ranked c =
    let r = c.requires in
    let edges = c.args.edges.now in
    let old = c.args.self.now in
    let rest = c.index-rest.result.now in
    let at = IsRestOf-read edges old c.args.node rest r.search r.on_path r.last c.index-rest.ensures in
    let low : rest - 1 < length edges = omega (arith, at.within) in
    let ranked = ap is_ranked (state_of-read edges old.states.items (rest - 1) _ (Ranked c.in-Ranked.field-0) r.nodes low c.index.ensures c.in-Ranked.is) in
    StepsOn-skip edges old _ r.search c.args.node rest _ r.on_path r.last at.read (omega arith) ranked (r.links (rest - 1) low) refl refl refl refl
