use Rattle.std.proofs.Common.{sym, subst, ◌∙◌, arith}
use Rattle.blif_net.specs.Interfaces.{HasName}
use Rattle.blif_net.proofs.Faults.{first-copied, more-at}
use Rattle.blif_net.proofs.interface.check_outputs.Goals as goal

pub returns-then-not-has_name-clause-fault : goal.returns-then-not-has_name-clause-fault
returns-then-not-has_name-clause-fault c =
    let x = c.word-item.result in
    let inputs = c.args.inputs.now in
    first-copied (HasName inputs) c.args.words.now c.loop-word.word-index x c.in_ok-copy.copy (omega arith) c.word-item.is
    (c.in_ok-copy.ensures ∙ c.bytes-then-not-has_name.ensures) c.loop-word.invariant
    (λ has. c.has_name.ensures.nameless c.if-not-has_name.true (subst (HasName inputs) (sym c.bytes.ensures) has))

pub loop-word-preserved : goal.loop-word-preserved
loop-word-preserved c =
    let inputs = c.args.inputs.now in
    more-at (HasName inputs) c.args.words.now c.loop-word.word-index c.word-item.result (omega arith) c.word-item.is
    (subst (HasName inputs) c.bytes.ensures (c.has_name.ensures.named c.if-not-has_name.false)) c.loop-word.invariant
