use Rattle.std.proofs.Common.{arith}
use Rattle.est_lex.proofs.Cuts.{piece_fits, cut_blank, cut_token}
use Rattle.est_lex.proofs.lexer.lex.Goals as goal

pub overflow_add-at : goal.overflow_add-at
overflow_add-at c =
    let fits = piece_fits _ _ _ _ c.loop-at.invariant.within (c.in_ok-width.ensures).ok in
    omega (arith, c.requires)

pub overflow_cast-at : goal.overflow_cast-at
overflow_cast-at c =
    let fits = piece_fits _ _ _ _ c.loop-at.invariant.within (c.in_ok-width.ensures).ok in
    omega (arith, c.requires)

pub loop-at-smaller-in-Continue-branch-2 : goal.loop-at-smaller-in-Continue-branch-2
loop-at-smaller-in-Continue-branch-2 c =
    let fits = piece_fits _ _ _ _ c.loop-at.invariant.within (c.in_ok-width.ensures).ok in
    omega arith

pub loop-at-preserved-in-Continue-branch-2 : goal.loop-at-preserved-in-Continue-branch-2
loop-at-preserved-in-Continue-branch-2 c =
    let fits = piece_fits _ _ _ _ c.loop-at.invariant.within (c.in_ok-width.ensures).ok in
    record {
      within = fits.1;
      cut = rw c.in_ok-push.ensures.items (cut_token _ _ _ _ _ c.in-Some.kind c.in-Some.is c.loop-at.invariant.cut
          c.in_ok-width.ensures.ok);
    }

pub loop-at-smaller : goal.loop-at-smaller
loop-at-smaller c =
    let fits = piece_fits _ _ _ _ c.loop-at.invariant.within (c.in_ok-width.ensures).ok in
    omega arith

pub loop-at-preserved : goal.loop-at-preserved
loop-at-preserved c =
    let fits = piece_fits _ _ _ _ c.loop-at.invariant.within (c.in_ok-width.ensures).ok in
    record { within = fits.1; cut = cut_blank _ _ _ _ _ c.in_default.is c.loop-at.invariant.cut c.in_ok-width.ensures.ok }
