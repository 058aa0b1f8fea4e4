use Rattle.std.proofs.Common.{◌+◌, ◌<◌, ◌^◌, ◌∙◌, sym, ap, subst, arith}
use Rattle.net_state_enc.specs.declared.trees.CodeTree.{CodeTree}
use Rattle.net_state_enc.specs.CodeTrees.{shape_in, IsSized}
use Rattle.net_state_enc.specs.Codes.{width_by}
use Rattle.net_state_enc.specs.Plans.{IsShort}
use Rattle.net_state_enc.specs.Shapes.{widths_of}
use Rattle.net_state_enc.proofs.TreeWeights.{weight}
use Rattle.net_state_enc.proofs.codes.+subtree_codes.Goals as goal

pub add_codes-add_both-requires : goal.add_codes-add_both-requires
add_codes-add_both-requires t c =
    let sized = subst IsSized c.in-OneOf.is c.requires.sized in
    let A = c.in-OneOf.a.value in
    let B = c.in-OneOf.b.value in
    let pa = sym (c.sizes_of.ensures.sizes ∙ ap (λ (x : CodeTree). widths_of (shape_in x)) c.deref.ensures) in
    let pb = sym (c.sizes_of-in-OneOf.ensures.sizes ∙ ap (λ (x : CodeTree). widths_of (shape_in x)) c.deref-in-OneOf.ensures) in
    let plan = c.in_ok-plan-in-OneOf.ensures (shape_in A) (shape_in B) pa pb in
    let whole = ap weight c.in-OneOf.is in
    let first = ap weight c.deref-in-OneOf-2.ensures in
    let second = ap weight c.deref-in-OneOf-3.ensures in
    let made = c.in_ok-plan-in-OneOf.plan in
    let a = sym c.deref-in-OneOf-2.ensures in
    let b = sym c.deref-in-OneOf-3.ensures in (
      omega arith,
      (
        subst IsSized a sized.2,
        (
          subst IsSized b sized.3,
          (
            subst (λ (x : CodeTree). IsShort made.first (widths_of (shape_in x)).parts) a plan.first_short,
            (
              subst (λ (x : CodeTree). made.first_bit + width_by made.first (widths_of (shape_in x)) < 2 ^ 32) a plan.first_fits,
              (
                subst (λ (x : CodeTree). IsShort made.second (widths_of (shape_in x)).parts) b plan.second_short,
                subst (λ (x : CodeTree). made.second_bit + width_by made.second (widths_of (shape_in x)) < 2 ^ 32) b plan.second_fits,
              ),
            ),
          ),
        ),
      ),
    )
