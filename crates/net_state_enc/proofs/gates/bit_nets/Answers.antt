use Rattle.std.proofs.Common.{◌≡◌, ◌+◌, ◌*◌, ◌<◌, ◌≤◌, ◌∙◌, length, List, All, refl, ap, sym, subst, arith}
use Rattle.std.proofs.lemmas.List.{with_items_is}
use Rattle.std.proofs.lemmas.List.Elements.{All-weaker}
use Rattle.base_types.specs.declared.indices.NetId.{NetId}
use Rattle.net_state_enc.specs.declared.codes.Literal.{Literal}
use Rattle.net_state_enc.specs.Drafts.{EachSays}
use Rattle.net_state_enc.proofs.GateLaws.{Bits, all-here, grew-length, times-within, bits-step, bits-all}
use Rattle.net_state_enc.proofs.gates.bit_nets.Goals as goal

pub add_leaf-requires-clause-within : goal.add_leaf-requires-clause-within
add_leaf-requires-clause-within c =
    let inside = all-here (All (λ (l : Literal). l.bit < c.args.width)) c.args.codes.now c.loop-k.k c.index-codes-k.result c.loop-k-test.true
    c.index-codes-k.is c.requires.within in
    let wide : length c.deref_mut.result.now ≡ c.args.width = ap length c.deref_mut.ensures.value ∙ c.loop-k.invariant.made.count in
    subst (All (λ (l : Literal). l.bit < length c.deref_mut.result.now)) (sym c.deref.ensures.value)
    (All-weaker (λ (l : Literal). l.bit < c.args.width) (λ (l : Literal). l.bit < length c.deref_mut.result.now) (λ l h. omega (arith, wide, h))
    c.index-codes-k.result.items inside)

pub loop-k-preserved : goal.loop-k-preserved
loop-k-preserved c =
    let k = c.loop-k.k in
    let d : NetId = record { 0 = 0 } in
    let first = c.args.draft.now.first in
    let old = c.args.draft.now.gates.items in
    let now = c.loop-k.draft.gates.items in
    let new = c.add_leaf.new.draft.gates.items in
    let sums = c.loop-k.sums.items in
    let again = with_items_is c.loop-k.sums c.add_leaf.new.sums (c.add_leaf.auto.sums ∙ c.deref_mut.ensures.len) in
    let inside : k < length c.args.codes.now = c.loop-k-test.true in
    let even : length c.args.nets.now ≡ length c.args.codes.now = c.requires.count in
    record {
      first = c.in_ok-add_leaf.ensures.first ∙ c.loop-k.invariant.first;
      made = subst (λ ss. Bits first c.args.width old new ss c.args.codes.now c.args.nets.now (k + 1)) (sym again)
          (bits-step first c.loop-k.draft.first c.args.width k _ old now new sums c.add_leaf.new.sums c.args.codes.now c.args.nets.now c.index-codes-k.result
          c.deref.result.now d c.loop-k.invariant.first c.loop-k.invariant.made inside even c.index-codes-k.is c.deref.ensures.value
          (all-here (λ (ls : List Literal). length ls ≤ c.args.width) c.args.codes.now k c.index-codes-k.result inside c.index-codes-k.is c.requires.short)
          (c.requires.nets k d (omega arith))
          c.in_ok-add_leaf.ensures.grew refl
          (λ ms s. c.in_ok-add_leaf.ensures.says ms
          (subst (λ ss. EachSays c.loop-k.draft.first now ss ms) (sym c.deref_mut.ensures.value) s))
          (c.in_ok-add_leaf.ensures.count ∙ ap length c.deref_mut.ensures.value));
    }

pub returns-clause-says : goal.returns-clause-says
returns-clause-says c =
    bits-all c.args.draft.now.first c.args.width c.args.draft.now.gates.items c.loop-k.draft.gates.items c.loop-k.sums.items c.args.codes.now c.args.nets.now
    c.loop-k.k c.loop-k-test.false c.requires.count c.loop-k.invariant.made

pub add_leaf-requires-clause-room : goal.add_leaf-requires-clause-room
add_leaf-requires-clause-room c =
    let k = c.loop-k.k in
    let short = all-here (λ (ls : List Literal). length ls ≤ c.args.width) c.args.codes.now k c.index-codes-k.result c.loop-k-test.true c.index-codes-k.is
    c.requires.short in
    omega (
      arith,
      c.requires.room,
      c.loop-k.invariant.first,
      ap length c.deref.ensures.value,
      short,
      times-within k (length c.args.codes.now) c.args.width c.loop-k-test.true,
      grew-length c.args.draft.now.first c.args.draft.now.gates.items c.loop-k.draft.gates.items (k * c.args.width) c.loop-k.invariant.made.grew,
    )
