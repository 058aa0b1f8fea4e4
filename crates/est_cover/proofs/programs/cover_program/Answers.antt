use Rattle.std.proofs.Common.{◌∙◌, map, sym, refl, length, subst}
use Rattle.std.proofs.lemmas.List.{length-map}
use Rattle.base_types.specs.declared.interface.SignalInfo.{SignalInfo}
use Rattle.est_ast.specs.FlatViews.{flat_of}
use Rattle.est_cover.specs.Heads.{IsHeadOf}
use Rattle.est_cover.proofs.Rows.{covered-of}
use Rattle.est_cover.proofs.programs.cover_program.Goals as goal

pub returns : goal.returns
returns c =
    let names = map (λ (s : SignalInfo). s.name) c.args.names.now in
    c.whole.ensures (flat_of c.args.flat.now) c.args.first names
    (subst (IsHeadOf (flat_of c.args.flat.now) names) (sym (c.into_inner.ensures ∙ c.in_ok-head.ensures.ok)) c.in_ok-head_of.ensures)
    (c.in_ok-body.ensures.covers
    ∙ covered-of _ _ _ _ c.args.first (length names) refl refl (sym (length-map c.args.names.now (λ (s : SignalInfo). s.name))) c.new-points.ensures.items)
