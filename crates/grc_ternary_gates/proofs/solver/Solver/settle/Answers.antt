use Rattle.std.proofs.Common.{◌≤◌, length, arith}
use Rattle.grc_ternary_gates.specs.Systems.{statuses_of}
use Rattle.grc_ternary_gates.proofs.Stepping.{begins, one-more, none-due, all-due}
use Rattle.grc_ternary_gates.proofs.solver.Solver.settle.Goals as goal

pub loop-node-init : goal.loop-node-init
loop-node-init c = record {
  fits = let f = c.clear.ensures.fits in let e = c.requires.fits.values in rw e at f;
  empty = c.clear.ensures.height;
  goes_on = begins c.args.system.now.gates.items c.args.sources.now (statuses_of c.clear.new.self.values.items) c.clear.new.self.stack.items
      c.clear.new.self.height _ c.clear.ensures.unknown all-due;
}

pub loop-node-preserved : goal.loop-node-preserved
loop-node-preserved c = record {
  fits = c.empty_stack.ensures.fits;
  empty = c.empty_stack.ensures.empty;
  goes_on = c.empty_stack.ensures.goes_on _ (one-more c.args.system.now.gates.items c.args.sources.now (statuses_of c.look_at.new.self.values.items)
      c.look_at.new.self.stack.items c.look_at.new.self.height c.loop-node.node (c.look_at.ensures.goes_on _ c.loop-node.invariant.goes_on));
}

pub returns-clause-solved : goal.returns-clause-solved
returns-clause-solved c =
    let inv = c.loop-node.invariant in
    let all : length c.args.system.now.gates.items ≤ c.loop-node.node = omega arith in
    none-due c.args.system.now.gates.items c.args.sources.now (statuses_of c.loop-node.self.values.items) c.loop-node.self.stack.items
    c.loop-node.self.height c.loop-node.node inv.empty all inv.goes_on
