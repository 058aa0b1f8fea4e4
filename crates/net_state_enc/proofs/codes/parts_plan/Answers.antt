use Rattle.std.proofs.Common.{◌+◌, ◌<◌, ◌^◌, ◌∙◌, refl, sym, subst}
use Rattle.net_state_enc.specs.CodeTrees.{widths_in}
use Rattle.net_state_enc.specs.Codes.{width_by}
use Rattle.net_state_enc.specs.Plans.{first_way, second_way, IsShort}
use Rattle.net_state_enc.specs.Shapes.{widths_of}
use Rattle.net_state_enc.specs.Widths.{Widths, exclusive_widths}
use Rattle.net_state_enc.proofs.PlanLaws.{parts-planned}
use Rattle.net_state_enc.proofs.codes.parts_plan.Goals as goal

pub returns : goal.returns
returns c p q ep eq =
    let way = c.args.way in
    let few = (λ (a b : Widths). a.parts + b.parts + 1 < 2 ^ 32) in
    parts-planned (record {
      front = c.in_ok-front.front;
      first = c.first_way.result;
      first_bit = c.args.bit;
      second = c.second_way.result;
      second_bit =
          c.args.bit;
    })
    c.args.known.now p q way c.args.bit c.in_ok-front.ensures.items
    (c.first_way.ensures ∙ (λ i. first_way way (sym ep i) (sym eq i))) refl
    (c.second_way.ensures ∙ (λ i. second_way way (sym ep i) (sym eq i))) refl
    (subst (λ a. few a (widths_of q)) (sym ep) (subst (λ b. few (widths_in c.args.a) b) (sym eq) c.requires.parts))
    (subst (λ a. IsShort way (a.parts + (widths_of q).parts)) (sym ep) (subst (λ b. IsShort way (c.args.a.parts + b.parts)) (sym eq) c.requires.short))
    (subst (λ a. c.args.bit + width_by way (exclusive_widths a (widths_of q)) < 2 ^ 32) (sym ep)
    (subst (λ b. c.args.bit + width_by way (exclusive_widths (widths_in c.args.a) b) < 2 ^ 32) (sym eq) c.requires.fits))
