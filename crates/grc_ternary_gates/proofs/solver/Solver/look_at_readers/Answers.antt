use Rattle.std.proofs.Common.{◌≡◌, ◌-◌, ◌<◌, length, slice_index, arith, refl, sym, ◌∙◌, subst, ℕ}
use Rattle.std.proofs.lemmas.List.{get_or_read}
use Rattle.grc_ternary_gates.specs.Linking.{IsEarlier, IsLastReader}
use Rattle.grc_ternary_gates.specs.Systems.{statuses_of}
use Rattle.grc_ternary_gates.proofs.Linking.{first-readers, next-readers, no-readers}
use Rattle.grc_ternary_gates.proofs.solver.Solver.look_at_readers.Goals as goal

pub loop-rest-init : goal.loop-rest-init
loop-rest-init c =
    let all = c.args.system.now.gates.items in
    let links = c.links-links.ensures in
    let low : c.args.node < length c.links-links.result.now.last.items = let n = c.requires.node in let m = links.nodes in omega arith in
    let read : c.index-rest.result.now ≡ slice_index c.links-links.result.now.last.items c.args.node = get_or_read _ _ _ low c.index-rest.ensures 0 in
    let L : ℕ → Type 0 = λ x. IsLastReader c.args.side all c.args.node (length all) x in
    let reader = subst L (sym read) (links.into c.args.node c.requires.node) in
    record {
      fits = c.requires.fits;
      same = refl;
      within = reader.within;
      reader = reader.reads;
      goes_on = λ todo u. first-readers all c.args.sources.now (statuses_of c.args.self.now.values.items) c.args.self.now.stack.items c.args.self.now.height
          c.args.side c.args.node c.index-rest.result.now todo reader u;
    }

pub loop-rest-preserved : goal.loop-rest-preserved
loop-rest-preserved c =
    let inv = c.loop-rest.invariant in
    let all = c.args.system.now.gates.items in
    let rest = c.loop-rest.rest in
    let links = c.links-links.ensures in
    let some : 0 < rest = c.loop-rest-test.true in
    let within = inv.within in
    let under : rest - 1 < length all = omega arith in
    let low : rest - 1 < length c.links-links.result.now.earlier.items = let m = links.places in omega arith in
    let read : c.index-rest-in-loop-rest.result.now ≡ slice_index c.links-links.result.now.earlier.items (rest - 1) =
    get_or_read _ _ _ low c.index-rest-in-loop-rest.ensures 0 in
    let E : ℕ → Type 0 = λ x. IsEarlier c.args.side all (rest - 1) x in
    let earlier = subst E (sym read) (links.before (rest - 1) under) in
    let reader = earlier.same c.args.node (inv.reader some) in
    let below = earlier.within in
    record {
      fits = c.look_at.ensures.fits;
      same = c.look_at.ensures.same ∙ inv.same;
      within = omega arith;
      reader = reader.reads;
      goes_on = λ todo u. next-readers all c.args.sources.now (statuses_of c.look_at.new.self.values.items) c.look_at.new.self.stack.items
          c.look_at.new.self.height c.args.side c.args.node rest c.index-rest-in-loop-rest.result.now todo reader some
          (c.look_at.ensures.goes_on _ (inv.goes_on todo u));
    }

pub returns-clause-goes_on : goal.returns-clause-goes_on
returns-clause-goes_on c = λ todo u.
    let none : c.loop-rest.rest ≡ 0 = omega arith in
    no-readers c.args.system.now.gates.items c.args.sources.now (statuses_of c.loop-rest.self.values.items) c.loop-rest.self.stack.items
    c.loop-rest.self.height c.args.side c.args.node c.loop-rest.rest todo none (c.loop-rest.invariant.goes_on todo u)
