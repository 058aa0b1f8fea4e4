use Rattle.std.proofs.Common.{◌+◌, ◌∙◌, false, take, slice_index_or, refl, subst, sym, ap, arith, List}
use Rattle.std.proofs.lemmas.List.{take_all}
use Rattle.base_types.specs.declared.indices.NetId.{NetId}
use Rattle.net_ir.specs.declared.netlist.Gate.{Gate}
use Rattle.net_state_enc.specs.declared.codes.Literal.{Literal}
use Rattle.net_state_enc.specs.declared.gates.Draft.{Draft}
use Rattle.net_state_enc.proofs.GateLaws.{Added, added-skip, added-step, grew-length}
use Rattle.net_state_enc.proofs.gates.add_leaf.Goals as goal
use Rattle.net_state_enc.proofs.gates.add_leaf.Goals.{then-literal+in_ok-sum, else-literal}

pub loop-literal-preserved : goal.loop-literal-preserved
loop-literal-preserved c =
    let d : Literal = record { bit = 0; value = false } in
    let e : NetId = record { 0 = 0 } in
    let first = c.args.draft.now.first in
    let old = c.args.draft.now.gates.items in
    let sums = c.loop-literal.sums in
    let code = c.args.code.now in
    let k = c.loop-literal.literal-index in
    let inv = c.loop-literal.invariant in
    let many = c.loop-literal.auto.sums in
    let goes = λ (gs : List Gate) (ss : List NetId). Added first old gs c.args.sums.now ss c.args.net (take (k + 1) code) (k + 1) in
    elim c.if-literal.branch [
      | then-literal+in_ok-sum w ↦
          let inside = c.requires.within k d c.loop-literal-test.true in
          let step = added-step first c.loop-literal.draft.first k (slice_index_or code k d).bit old c.loop-literal.draft.gates.items
          w.push.new.self.gates.items
          c.args.sums.now sums c.args.net w.in_ok-sum.sum code d e inv.first c.loop-literal-test.true w.if-literal.true refl (omega arith) c.requires.net
          inv.made w.in_ok-sum.ensures.gates w.in_ok-sum.ensures.number in
          record {
            first = ap (λ (x : Draft). x.first) w.draft-is ∙ w.in_ok-sum.ensures.first ∙ inv.first;
            made = subst (λ gs. goes gs c.if-literal.sums) (ap (λ (x : Draft). x.gates.items) (sym w.draft-is))
                (subst (λ ss. goes w.push.new.self.gates.items ss) (sym w.sums-is) step);
          }
      | else-literal w ↦
          let step = added-skip first k old c.loop-literal.draft.gates.items c.args.sums.now sums c.args.net code d c.loop-literal-test.true w.if-literal.false
          inv.made in
          record {
            first = ap (λ (x : Draft). x.first) w.draft-is ∙ inv.first;
            made = subst (λ gs. goes gs c.if-literal.sums) (ap (λ (x : Draft). x.gates.items) (sym w.draft-is))
                (subst (λ ss. goes c.loop-literal.draft.gates.items ss) (sym w.sums-is) step);
          }
    ]

pub returns-clause-says : goal.returns-clause-says
returns-clause-says c =
    let all = take_all c.loop-literal.literal-index c.args.code.now (omega arith) in
    let whole = subst (λ ls. Added c.args.draft.now.first c.args.draft.now.gates.items c.loop-literal.draft.gates.items c.args.sums.now c.loop-literal.sums
    c.args.net ls c.loop-literal.literal-index) all c.loop-literal.invariant.made in
    whole.says

pub push-requires : goal.push-requires
push-requires c =
    omega (
      arith,
      c.requires.room,
      c.loop-literal.invariant.first,
      c.loop-literal-test.true,
      grew-length c.args.draft.now.first c.args.draft.now.gates.items c.loop-literal.draft.gates.items c.loop-literal.literal-index
          c.loop-literal.invariant.made.grew,
    )
