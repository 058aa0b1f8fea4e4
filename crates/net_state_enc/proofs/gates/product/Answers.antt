use Rattle.std.proofs.Common.{◌∙◌, ◌*◌, false, arith}
use Rattle.net_state_enc.specs.declared.codes.Literal.{Literal}
use Rattle.net_state_enc.proofs.GateLaws.{grew-length, product-step}
use Rattle.net_state_enc.proofs.gates.product.Goals as goal

pub loop-literal-preserved : goal.loop-literal-preserved
loop-literal-preserved c =
    let d : Literal = record { bit = 0; value = false } in
    let k = c.loop-literal.literal-index in
    record {
      first = c.in_ok-net.ensures.first ∙ c.in_ok-own.ensures.first ∙ c.loop-literal.invariant.first;
      made = product-step c.args.draft.now.first c.loop-literal.draft.first c.args.base k c.args.draft.now.gates.items c.loop-literal.draft.gates.items
          c.literal_net.new.draft.gates.items c.push.new.self.gates.items c.loop-literal.net c.in_ok-own.own c.in_ok-net.net c.args.literals.now d
          c.loop-literal.invariant.first c.loop-literal.invariant.made c.in_ok-own.ensures.grew c.in_ok-own.ensures.says c.in_ok-net.ensures.gates
          (c.in_ok-net.ensures.number ∙ (let e = c.in_ok-own.ensures.first in omega (arith, e))) c.loop-literal-test.true;
    }

pub literal_net-requires-clause-room : goal.literal_net-requires-clause-room
literal_net-requires-clause-room c =
    let made = c.loop-literal.invariant.made in
    omega (
      arith,
      c.requires.room,
      c.loop-literal.invariant.first,
      c.loop-literal-test.true,
      grew-length c.args.draft.now.first c.args.draft.now.gates.items c.loop-literal.draft.gates.items (2 * c.loop-literal.literal-index) made.grew,
    )

pub push-requires : goal.push-requires
push-requires c =
    let made = c.loop-literal.invariant.made in
    let own = c.in_ok-own.ensures in
    omega (
      arith,
      c.requires.room,
      c.loop-literal.invariant.first,
      own.first,
      c.loop-literal-test.true,
      grew-length c.args.draft.now.first c.args.draft.now.gates.items c.loop-literal.draft.gates.items (2 * c.loop-literal.literal-index) made.grew,
      grew-length c.loop-literal.draft.first c.loop-literal.draft.gates.items c.literal_net.new.draft.gates.items 1 own.grew,
    )
