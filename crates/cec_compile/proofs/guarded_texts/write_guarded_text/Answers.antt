use Rattle.std.specs.Prelude.{option_map, Some}
use Rattle.base_types.specs.SinkChanges.{change}
use Rattle.base_types.proofs.Exports.{appends-nothing}
use Rattle.est_kernel.specs.Plain.{Program}
use Rattle.cec_text_io.proofs.Exports.{pieces_as}
use Rattle.cec_compile.specs.Compiling.{IsCompiled}
use Rattle.cec_compile.specs.MadeGuarded.{IsGuardedBy}
use Rattle.cec_compile.specs.SourceTexts.{IsSourceText}
use Rattle.cec_compile.specs.declared.forms.TextForm.TheVariants.{Guarded}
use Rattle.cec_compile.proofs.GuardedTexts.{guarded_is, own_made}
use Rattle.cec_compile.proofs.guarded_texts.write_guarded_text.Goals as goal

pub write_compiled-requires-clause-built : goal.write_compiled-requires-clause-built
write_compiled-requires-clause-built g c = own_made c.in-Ok.compiled c.in-Ok.ensures.compiles c.in-Ok.ensures.own

pub returns-in-Ok-clause-compiles : goal.returns-in-Ok-clause-compiles
returns-in-Ok-clause-compiles g c =
    let s = c.in-Ok.ensures.compiles in
    record { program = s.program; short = c.requires; source = s.source; compiles = s.compiled.compiles }

pub returns-in-Ok-clause-out : goal.returns-in-Ok-clause-out
returns-in-Ok-clause-out g c =
    let main = option_map (λ m. m.now) c.args.main in
    let source = c.args.source.now in
    let made = c.in-Ok.compiled in
    let s = c.in-Ok.ensures.compiles in
    pieces_as (λ text. (p : Program) → IsCompiled made p → IsGuardedBy made text) (IsSourceText Guarded main source)
    (change g.O.Sink.told g.O.Sink.faults c.args.out.now c.write_compiled.new.out) (Some c.write_compiled.result)
    (λ text by. guarded_is source main made text s c.in-Ok.ensures.own (by s.program s.compiled)) c.write_compiled.ensures

pub returns-in-Err-clause-out : goal.returns-in-Err-clause-out
returns-in-Err-clause-out g c = appends-nothing (g.O.Sink.told c.args.out.now) (g.O.Sink.faults c.args.out.now)
