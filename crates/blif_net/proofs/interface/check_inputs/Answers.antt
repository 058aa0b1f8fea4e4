use Rattle.std.proofs.Common.{ℕ, List, IsTrue, sym, ap, ◌∙◌, arith}
use Rattle.std.proofs.lemmas.Bool.{false≢true}
use Rattle.base_types.specs.Names.{is_name}
use Rattle.blif_net.proofs.Faults.{first-copied}
use Rattle.blif_net.proofs.interface.check_inputs.Goals as goal

pub returns-then-not-is_name-clause-fault : goal.returns-then-not-is_name-clause-fault
returns-then-not-is_name-clause-fault c =
    let x = c.input-item.result in
    first-copied (λ (input : List ℕ). IsTrue (is_name input)) c.args.inputs.now c.loop-input.input-index x c.in_ok-copy.copy (omega arith) c.input-item.is
    (c.in_ok-copy.ensures ∙ c.bytes-then-not-is_name.ensures) c.loop-input.invariant
    (λ fits. false≢true (sym c.if-not-is_name.true ∙ c.is_name.ensures ∙ ap is_name c.bytes.ensures ∙ fits))
