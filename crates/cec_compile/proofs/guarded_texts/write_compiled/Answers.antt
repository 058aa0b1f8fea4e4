use Rattle.std.proofs.Common.{◌≡◌, sym, subst}
use Rattle.std.specs.Prelude.{Some}
use Rattle.base_types.specs.SinkChanges.{change}
use Rattle.est_kernel.specs.Plain.{Program}
use Rattle.grc_regions.specs.Regions.{AreRegions, HeadsAreFree}
use Rattle.cec_text_io.proofs.Exports.{pieces_as}
use Rattle.cec_compile.specs.Compiling.{IsCompiled}
use Rattle.cec_compile.specs.MadeGuarded.{IsGuardedBy}
use Rattle.cec_compile.proofs.GuardedTexts.{guarded_by}
use Rattle.cec_compile.proofs.guarded_texts.write_compiled.Goals as goal

pub regions-requires : goal.regions-requires
regions-requires g c = c.requires.built

pub returns : goal.returns
returns g c =
    let made = c.args.compiled.now in
    let e = c.in-Ok-guarded_pieces.ensures in
    pieces_as (λ text. text ≡ c.in-Ok-guarded_pieces.pieces) (λ text. (p : Program) → IsCompiled made p → IsGuardedBy made text)
    (change g.O.Sink.told g.O.Sink.faults c.args.out.now c.write_in_pieces.new.out) (Some c.write_in_pieces.result)
    (λ text is p h. subst (IsGuardedBy made) (sym is) (guarded_by made p c.deref.result.now c.in-Ok-guarded_pieces.pieces h c.requires.built
    c.requires.follows
    (subst (AreRegions made.graph) (sym c.deref.ensures.value) c.in-Ok.ensures.are)
    (subst HeadsAreFree (sym c.deref.ensures.value) c.in-Ok.ensures.free) e.text e.means))
    c.write_in_pieces.ensures
