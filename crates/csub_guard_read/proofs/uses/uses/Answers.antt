use Rattle.std.proofs.Common.{◌≡◌, ◌++◌, ◌∷◌, [], get_or, length, ap, ◌∙◌, subst, arith}
use Rattle.csub_guard.specs.Names.{piece_uses}
use Rattle.csub_guard.specs.Views.{piece_of}
use Rattle.csub_guard_read.specs.Uses.{uses_by}
use Rattle.csub_guard_read.proofs.UseLaws.{uses-next}
use Rattle.csub_guard_read.proofs.uses.uses.Goals as goal

pub pieces-preserved : goal.pieces-preserved
pieces-preserved c =
    let body = c.args.program.now.body.items in
    let x = c.piece-item.result in
    let at = subst (λ l. x ≡ get_or l c.pieces.k x) c.deref-piece-items.ensures.value c.piece-item.is in
    let wide = ap length c.deref-piece-items.ensures.value in
    c.in_ok-push_piece.ensures ∙ ap (λ l. l ++ piece_uses (uses_by c.args.order) c.pieces.k (piece_of x ∷ [])) c.pieces.invariant
    ∙ uses-next (uses_by c.args.order) body c.pieces.k x (omega (arith, wide)) at
