use Rattle.std.proofs.Common.{◌≡◌, ◌∙◌, refl, sym, subst}
use Rattle.std.specs.Prelude.{option_map}
use Rattle.base_types.specs.SinkChanges.{change}
use Rattle.cec_opt_embed.specs.Faults.{IsProgramNameFault}
use Rattle.cec_opt_embed.specs.Sources.{StandsForEmbedded}
use Rattle.cec_opt_commands.specs.Words.{Embed}
use Rattle.cec_opt_commands.specs.declared.outcome.OptOutcome.TheVariants.{BadComponent}
use Rattle.cec_opt_commands.proofs.Answers.{constructible}
use Rattle.cec_opt_commands.proofs.Outcomes.{source_whole, source_written, unmade_source_leaves, unmade_source_says}
use Rattle.cec_opt_commands.proofs.embedded.embed_source.Goals as goal

pub returns-in-Ok-clause-says : goal.returns-in-Ok-clause-says
returns-in-Ok-clause-says g c =
    let source = c.args.source.now in
    let main = option_map (λ m. m.now) c.args.main in
    let is = c.in-Ok.ensures.compiles.made.is in
    rw c.from.ensures
    (source_written (Embed c.args.component.now c.args.layout) c.write_whole.result main source (constructible source main is.given is.stands))

pub returns-in-Ok-clause-out : goal.returns-in-Ok-clause-out
returns-in-Ok-clause-out g c =
    let component = c.args.component.now in
    let source = c.args.source.now in
    let main = option_map (λ m. m.now) c.args.main in
    rw c.from.ensures
    (source_whole (λ written. written ≡ c.deref.result.now) (Embed component c.args.layout) source main
    (change g.O.Sink.told g.O.Sink.faults c.args.out.now c.write_whole.new.out) c.write_whole.result
    (λ written is. subst (StandsForEmbedded source main component c.args.layout) (sym (is ∙ c.deref.ensures.value)) c.in-Ok.ensures.compiles)
    c.write_whole.ensures)

pub returns-in-Err-clause-says : goal.returns-in-Err-clause-says
returns-in-Err-clause-says g c =
    let source = c.args.source.now in
    let main = option_map (λ m. m.now) c.args.main in
    unmade_source_says (Embed c.args.component.now c.args.layout) BadComponent (IsProgramNameFault source main c.args.component.now) c.in-Err.stop main source
    (change g.O.Sink.told g.O.Sink.faults c.args.out.now c.unembedded.new.out) c.unembedded.result (λ fault is. is) c.in-Err.ensures.fault c.unembedded.ensures

pub returns-in-Err-clause-out : goal.returns-in-Err-clause-out
returns-in-Err-clause-out g c =
    let source = c.args.source.now in
    let main = option_map (λ m. m.now) c.args.main in
    unmade_source_leaves (Embed c.args.component.now c.args.layout) BadComponent (IsProgramNameFault source main c.args.component.now) c.in-Err.stop main source
    (change g.O.Sink.told g.O.Sink.faults c.args.out.now c.unembedded.new.out) c.unembedded.result (λ fault. refl) c.in-Err.ensures.fault c.unembedded.ensures
