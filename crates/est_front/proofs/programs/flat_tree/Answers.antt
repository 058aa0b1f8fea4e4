use Rattle.est_ast.specs.Views.{program_of}
use Rattle.est_front.proofs.MainModules.{main_there}
use Rattle.est_front.proofs.programs.flat_tree.Goals as goal

pub returns-in-Err-clause-refusal : goal.returns-in-Err-clause-refusal
returns-in-Err-clause-refusal c = λ text reads. c.name_refusal.ensures.refusal text _ (program_of c.args.tree.now) reads c.in-Err.ensures.fault

pub returns-in-Ok-flat_form-clause-flat : goal.returns-in-Ok-flat_form-clause-flat
returns-in-Ok-flat_form-clause-flat c = λ text reads.
    let table = c.in-Ok.ensures.table in
    let there = main_there _ (program_of c.args.tree.now) c.in-Ok.table.main table.main_place in
    record {
      tree = program_of c.args.tree.now;
      declares = record { reads = reads; names = table.faultless };
      main_one = there.0;
      is_main = there.2;
      flat_form = c.in-Ok-flat_form.ensures there.0 there.1;
    }

pub returns-clause-refusal : goal.returns-clause-refusal
returns-clause-refusal c = λ text reads.
    let table = c.in-Ok.ensures.table in
    let there = main_there _ (program_of c.args.tree.now) c.in-Ok.table.main table.main_place in
    c.flattening_refusal.ensures.refusal text _ (λ plain is. record {
      tree = program_of c.args.tree.now;
      declares = record { reads = reads; names = table.faultless };
      main_one = there.0;
      is_main = there.2;
      ends = c.in-Err-flat_form.ensures there.0 there.1 plain is;
    })

pub returns-in-Err-clause-lacks : goal.returns-in-Err-clause-lacks
returns-in-Err-clause-lacks c = λ text reads. c.name_refusal.ensures.lacks text _ (program_of c.args.tree.now) reads c.in-Err.ensures.fault

pub returns-clause-lacks : goal.returns-clause-lacks
returns-clause-lacks c = λ text reads.
    let table = c.in-Ok.ensures.table in
    let there = main_there _ (program_of c.args.tree.now) c.in-Ok.table.main table.main_place in
    c.flattening_refusal.ensures.lacks text _ (λ plain is. record {
      tree = program_of c.args.tree.now;
      declares = record { reads = reads; names = table.faultless };
      main_one = there.0;
      is_main = there.2;
      ends = c.in-Err-flat_form.ensures there.0 there.1 plain is;
    })
