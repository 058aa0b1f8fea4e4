use Rattle.std.proofs.Common.{◌≡◌, ◌<◌, arith, length, slice_index, sym, subst}
use Rattle.std.proofs.lemmas.Grind.{common_steps}
use Rattle.std.proofs.lemmas.List.{get_or_read}
use Rattle.base_digraph.specs.Searches.{edge_at, IsLastInto}
use Rattle.base_digraph.proofs.Linking.{IsLastInto-none, IsLastInto-more, AreEarlier-more}
use Rattle.base_digraph.proofs.links.edge_links.Goals as goal

pub loop-k-init : goal.loop-k-init
loop-k-init c = record {
  nodes = grind (arith, common_steps);
  places = grind (arith, common_steps);
  into = λ node low.
      let none : slice_index c.in_ok-last.last.items node ≡ 0 = grind (arith, common_steps) in
      subst (IsLastInto c.args.edges.now node 0) (sym none) (IsLastInto-none c.args.edges.now node);
  before = λ j low. absurd (omega arith);
}

pub loop-k-preserved : goal.loop-k-preserved
loop-k-preserved c =
    let inv = c.loop-k.invariant in
    let edges = c.args.edges.now in
    let k = c.loop-k.k in
    let within = c.requires k (0, 0) (omega arith) in
    let here : (edge_at edges k).1 < length c.loop-k.last.items = omega (arith, within.1) in
    let read : c.index.result.now ≡ slice_index c.loop-k.last.items (edge_at edges k).1 = get_or_read c.loop-k.last.items _ _ here c.index.ensures 0 in
    record {
      nodes = grind (arith, common_steps);
      places = grind (arith, common_steps);
      into = λ node low. IsLastInto-more edges c.loop-k.last.items k here (λ n h. inv.into n (omega arith)) node (omega arith);
      before = rw c.in_ok-push.ensures.items (AreEarlier-more edges c.loop-k.earlier.items k _ inv.places (rw read (inv.into _ (omega arith))) inv.before);
    }

pub returns : goal.returns
returns c =
    let inv = c.loop-k.invariant in
    let edges = c.args.edges.now in
    let all : c.loop-k.k ≡ length edges = omega arith in
    record {
      nodes = inv.nodes;
      places = omega arith;
      into = rw (all) at inv.into;
      before = rw (all) at inv.before;
    }
