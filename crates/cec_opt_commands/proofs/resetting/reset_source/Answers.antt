use Rattle.std.proofs.Common.{◌≡◌, ◌∙◌, refl, sym, subst}
use Rattle.std.specs.Prelude.{option_map}
use Rattle.base_types.specs.SinkChanges.{change}
use Rattle.vlog_reset.specs.Views.{options_of}
use Rattle.cec_opt_reset.specs.Faults.{IsProgramModuleFault}
use Rattle.cec_opt_reset.specs.Sources.{StandsForReset}
use Rattle.cec_opt_commands.specs.Words.{Reset}
use Rattle.cec_opt_commands.specs.declared.outcome.OptOutcome.TheVariants.{BadModule}
use Rattle.cec_opt_commands.proofs.Answers.{constructible}
use Rattle.cec_opt_commands.proofs.Outcomes.{source_whole, source_written, unmade_source_leaves, unmade_source_says}
use Rattle.cec_opt_commands.proofs.resetting.reset_source.Goals as goal

pub returns-in-Ok-clause-says : goal.returns-in-Ok-clause-says
returns-in-Ok-clause-says g c =
    let source = c.args.source.now in
    let main = option_map (λ m. m.now) c.args.main in
    let is = c.in-Ok.ensures.compiles in
    rw c.from.ensures
    (source_written (Reset (options_of c.args.options) c.args.coding) c.write_whole.result main source (constructible source main is.net is.stands))

pub returns-in-Ok-clause-out : goal.returns-in-Ok-clause-out
returns-in-Ok-clause-out g c =
    let options = options_of c.args.options in
    let source = c.args.source.now in
    let main = option_map (λ m. m.now) c.args.main in
    rw c.from.ensures
    (source_whole (λ written. written ≡ c.deref.result.now) (Reset options c.args.coding) source main
    (change g.O.Sink.told g.O.Sink.faults c.args.out.now c.write_whole.new.out) c.write_whole.result
    (λ written is. subst (StandsForReset source main c.args.coding options) (sym (is ∙ c.deref.ensures.value)) c.in-Ok.ensures.compiles) c.write_whole.ensures)

pub returns-in-Err-clause-says : goal.returns-in-Err-clause-says
returns-in-Err-clause-says g c =
    let options = options_of c.args.options in
    let source = c.args.source.now in
    let main = option_map (λ m. m.now) c.args.main in
    unmade_source_says (Reset options c.args.coding) BadModule (IsProgramModuleFault source main c.args.coding options) c.in-Err.stop main source
    (change g.O.Sink.told g.O.Sink.faults c.args.out.now c.unreset.new.out) c.unreset.result (λ fault is. is) c.in-Err.ensures.fault c.unreset.ensures

pub returns-in-Err-clause-out : goal.returns-in-Err-clause-out
returns-in-Err-clause-out g c =
    let options = options_of c.args.options in
    let source = c.args.source.now in
    let main = option_map (λ m. m.now) c.args.main in
    unmade_source_leaves (Reset options c.args.coding) BadModule (IsProgramModuleFault source main c.args.coding options) c.in-Err.stop main source
    (change g.O.Sink.told g.O.Sink.faults c.args.out.now c.unreset.new.out) c.unreset.result (λ fault. refl) c.in-Err.ensures.fault c.unreset.ensures
