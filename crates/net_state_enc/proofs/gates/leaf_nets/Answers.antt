use Rattle.std.proofs.Common.{◌+◌, ◌*◌, ◌<◌, ◌≤◌, ◌∙◌, true, ap, length, List, All, sym, subst, arith}
use Rattle.std.proofs.lemmas.List.Elements.{All-weaker}
use Rattle.net_state_enc.specs.declared.codes.Literal.{Literal}
use Rattle.net_state_enc.specs.Drafts.{Says}
use Rattle.net_state_enc.proofs.GateLaws.{all-here, grew-length, times-within, says-later, leaves-step}
use Rattle.net_state_enc.proofs.gates.leaf_nets.Goals as goal

pub product-requires-clause-within : goal.product-requires-clause-within
product-requires-clause-within c =
    let inside = all-here (All (λ (l : Literal). l.bit < c.args.width)) c.args.codes.now c.loop-code.code-index c.code-item.result c.loop-code-test.true
    c.code-item.is c.requires.within in
    let first = c.loop-code.invariant.first in
    let bits : c.args.base + c.args.width ≤ c.args.draft.now.first = c.requires.bits in
    subst (All (λ (l : Literal). c.args.base + l.bit < c.loop-code.draft.first)) (sym c.deref.ensures.value)
    (All-weaker (λ (l : Literal). l.bit < c.args.width) (λ (l : Literal). c.args.base + l.bit < c.loop-code.draft.first) (λ l h. omega arith)
    c.code-item.result.items inside)

pub product-requires-clause-yes : goal.product-requires-clause-yes
product-requires-clause-yes c =
    subst (λ f. Says f c.loop-code.draft.gates.items c.args.yes.0 (λ v. true)) (sym c.loop-code.invariant.first)
    (says-later c.args.draft.now.first c.args.draft.now.gates.items c.loop-code.draft.gates.items _ c.args.yes.0 (λ v. true)
    c.loop-code.invariant.made.grew c.requires.yes)

pub loop-code-preserved : goal.loop-code-preserved
loop-code-preserved c =
    let k = c.loop-code.code-index in
    record {
      first = c.in_ok-product.ensures.first ∙ c.loop-code.invariant.first;
      made = leaves-step c.args.draft.now.first c.loop-code.draft.first c.args.base c.args.width k c.args.draft.now.gates.items c.loop-code.draft.gates.items
          c.product.new.draft.gates.items c.loop-code.nets.items c.push.new.self.items c.in_ok-product.field-0 c.args.codes.now c.code-item.result
          c.deref.result.now c.loop-code.invariant.first c.loop-code.invariant.made c.loop-code-test.true c.code-item.is c.deref.ensures.value
          (all-here (λ (ls : List Literal). length ls ≤ c.args.width) c.args.codes.now k c.code-item.result c.loop-code-test.true c.code-item.is
          c.requires.short)
          c.in_ok-product.ensures.grew c.in_ok-product.ensures.says c.in_ok-push.ensures.items;
    }

pub product-requires-clause-room : goal.product-requires-clause-room
product-requires-clause-room c =
    let k = c.loop-code.code-index in
    let short = all-here (λ (ls : List Literal). length ls ≤ c.args.width) c.args.codes.now k c.code-item.result c.loop-code-test.true c.code-item.is
    c.requires.short in
    omega (
      arith,
      c.requires.room,
      c.loop-code.invariant.first,
      ap length c.deref.ensures.value,
      short,
      times-within k (length c.args.codes.now) c.args.width c.loop-code-test.true,
      grew-length c.args.draft.now.first c.args.draft.now.gates.items c.loop-code.draft.gates.items (2 * (k * c.args.width))
          c.loop-code.invariant.made.grew,
    )
