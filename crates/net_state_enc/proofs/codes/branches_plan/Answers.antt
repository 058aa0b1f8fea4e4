use Rattle.std.proofs.Common.{◌+◌, ◌<◌, ◌^◌, ◌++◌, ◌∙◌, sym, ap, subst}
use Rattle.net_state_enc.specs.CodeTrees.{widths_in}
use Rattle.net_state_enc.specs.Codes.{front_code, front_width, width_by}
use Rattle.net_state_enc.specs.Shapes.{widths_of}
use Rattle.net_state_enc.specs.Widths.{all_marked, branch_width, parallel_widths}
use Rattle.net_state_enc.proofs.PlanLaws.{branches-planned}
use Rattle.net_state_enc.proofs.codes.branches_plan.Goals as goal

pub returns : goal.returns
returns c p q ep eq =
    let way = c.args.way in
    let bit = c.args.bit in
    let x = c.args.marks.0 in
    let y = c.args.marks.1 in
    let said = c.all_marked-said.ensures ∙ (λ i. all_marked x y (sym ep i) (sym eq i)) in
    let width = c.front_width.ensures ∙ ap (front_width way) said in
    let base = ap (λ n. bit + n) width in
    let first = c.branch_width.ensures ∙ ap (branch_width x) (sym ep) in
    branches-planned (record {
      front = c.in_ok-front.front;
      first = c.branch_way.result;
      first_bit = bit + c.front_width.result;
      second =
          c.branch_way-2.result;
      second_bit = bit + c.front_width.result + c.branch_width.result;
    })
    c.args.known.now x y p q way bit
    (c.in_ok-front.ensures ∙ ap (λ b. c.args.known.now ++ front_code way b bit) said)
    c.branch_way.ensures base c.branch_way-2.ensures (λ i. base i + first i)
    (subst (λ a. bit + width_by way (parallel_widths x y a (widths_of q)) < 2 ^ 32) (sym ep)
    (subst (λ b. bit + width_by way (parallel_widths x y (widths_in c.args.a) b) < 2 ^ 32) (sym eq) c.requires.fits))
