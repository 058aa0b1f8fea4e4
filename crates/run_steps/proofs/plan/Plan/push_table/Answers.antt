use Rattle.std.proofs.Common.{arith}
use Rattle.run_steps.specs.Plans.{Adds, AddsTerm, table_step}
use Rattle.run_steps.proofs.Pushes.{table-adds, on-ok}
use Rattle.run_steps.proofs.plan.Plan.push_table.Goals as goal

pub push_term-requires-clause-fits : goal.push_term-requires-clause-fits
push_term-requires-clause-fits c =
    c.in-Some.ensures.fits c.args.self.now.free (omega (arith, c.requires.output, c.slots.ensures.names))
    (λ k d h. let low = c.requires.reads k d h in omega (arith, c.slots.ensures.names))

pub returns-in-Some : goal.returns-in-Some
returns-in-Some c =
    on-ok c.push_term.result (AddsTerm c.args.output c.in-Some.term c.args.self.now c.push_term.new.self)
    (Adds (table_step c.args.output c.args.reads.now c.args.truth.now) c.args.self.now c.push_term.new.self)
    (table-adds c.args.self.now c.push_term.new.self c.args.output c.args.reads.now c.args.truth.now c.in-Some.term c.slots.ensures.names
    c.requires.output c.requires.reads c.in-Some.ensures) c.push_term.ensures
