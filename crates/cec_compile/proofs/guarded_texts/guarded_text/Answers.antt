use Rattle.std.proofs.Common.{sym, subst}
use Rattle.grc_regions.specs.Regions.{AreRegions, HeadsAreFree}
use Rattle.cec_compile.proofs.GuardedTexts.{guarded_by}
use Rattle.cec_compile.proofs.guarded_texts.guarded_text.Goals as goal

pub regions-requires : goal.regions-requires
regions-requires c = c.requires.built

pub returns : goal.returns
returns c p h =
    let e = c.in_ok-text.ensures in
    guarded_by c.args.compiled.now p c.deref.result.now c.in_ok-text.text.items h c.requires.built c.requires.follows
    (subst (AreRegions c.args.compiled.now.graph) (sym c.deref.ensures.value) c.in_ok-regions.ensures.are)
    (subst HeadsAreFree (sym c.deref.ensures.value) c.in_ok-regions.ensures.free) e.text e.means
