use Rattle.std.proofs.Common.{◌≡◌, ◌+◌, ◌-◌, ◌*◌, ◌++◌, ◌∙◌, ap, sym, arith}
use Rattle.std.proofs.lemmas.List.{append-nil}
use Rattle.base_types.specs.Draws.{state_after}
use Rattle.est_gen.specs.Sources.{branches_text}
use Rattle.est_gen.proofs.Written.{written-3, branches_text-more, state_after-branch}
use Rattle.est_gen.proofs.sources.put_branches.Goals as goal

pub loop-number-preserved : goal.loop-number-preserved
loop-number-preserved c =
    let n = c.loop-number.number in
    let x = c.loop-number.draw in
    let count = c.args.branches in
    let inv = c.loop-number.invariant in
    let state = c.in_ok-put_branch.ensures.state in
    record {
      text = ap (λ y. c.put_branch.new.text.items ++ branches_text (n + 1) (count - (n + 1)) y) state
          ∙ written-3 _ _ _ (branches_text (n + 1) (count - (n + 1)) (state_after 3 x)) _ _ c.in_ok-put_between.ensures c.in_ok-put_branch.ensures.text
          ∙ ap (λ y. c.loop-number.text.items ++ y) (sym (branches_text-more n count x (omega arith))) ∙ inv.text;
      state = ap (state_after (3 * (count - (n + 1)))) state ∙ sym (state_after-branch n count x (omega arith)) ∙ inv.state;
    }

pub returns-clause-text : goal.returns-clause-text
returns-clause-text c =
    let e : c.args.branches - c.loop-number.number ≡ 0 = omega arith in
    sym (append-nil c.loop-number.text.items) ∙ ap (λ n. c.loop-number.text.items ++ branches_text c.loop-number.number n c.loop-number.draw) (sym e)
    ∙ c.loop-number.invariant.text

pub returns-clause-state : goal.returns-clause-state
returns-clause-state c =
    let e : 3 * (c.args.branches - c.loop-number.number) ≡ 0 = omega arith in
    ap (λ n. state_after n c.loop-number.draw) (sym e) ∙ c.loop-number.invariant.state
