use Rattle.std.proofs.Common.{◌≡◌, ℕ, true, List, [], None, All, IsTrue, sym, ap, ◌∙◌, subst}
use Rattle.std.specs.Result.{OnOk}
use Rattle.base_types.specs.Names.{is_name}
use Rattle.base_types.specs.Stops.{IfFault}
use Rattle.net_ir.specs.NameLists.{first_again}
use Rattle.blif_text.specs.Plain.{plain_circuit}
use Rattle.blif_run.specs.CircuitAnswers.{tells_pause, listed_names}
use Rattle.blif_net.specs.Checking.{IsAgain}
use Rattle.blif_net.specs.Interfaces.{NamesFit, HasName}
use Rattle.blif_net.proofs.Faults.{once-fits, once-fault}
use Rattle.blif_net.proofs.interface.check_interface.Goals as goal

pub returns-clause-fits : goal.returns-clause-fits
returns-clause-fits c =
    let circuit = plain_circuit c.args.blif.now in
    let pauses : tells_pause circuit.outputs ≡ true =
    ap tells_pause (sym c.deref.ensures.value) ∙ sym c.tells_pause.ensures ∙ c.if-not-tells_pause.false in
    let inputs : All (λ name. IsTrue (is_name name)) circuit.inputs =
    subst (λ (l : List (List ℕ)). All (λ name. IsTrue (is_name name)) l) c.deref-2.ensures.value c.in_ok-check_inputs.ensures.fit in
    let names : NamesFit circuit = record { pauses = pauses; model = c.in_ok-check_model.ensures.fits; inputs = inputs } in
    let outputs : All (HasName circuit.inputs) (listed_names circuit.outputs) =
    rw (c.listed_count.ensures.count, c.deref-3.ensures.value, c.deref-4.ensures.value, c.deref-5.ensures.value) at c.in_ok-check_outputs.ensures.named in
    let once : OnOk c.check_once.result (first_again [] (listed_names circuit.outputs) ≡ None) =
    rw (c.listed_count.ensures.count, c.deref-3.ensures.value, c.deref-4.ensures.value) at c.check_once.ensures.once in
    once-fits circuit c.check_once.result names outputs once

pub returns-clause-fault : goal.returns-clause-fault
returns-clause-fault c =
    let circuit = plain_circuit c.args.blif.now in
    let pauses : tells_pause circuit.outputs ≡ true =
    ap tells_pause (sym c.deref.ensures.value) ∙ sym c.tells_pause.ensures ∙ c.if-not-tells_pause.false in
    let inputs : All (λ name. IsTrue (is_name name)) circuit.inputs =
    subst (λ (l : List (List ℕ)). All (λ name. IsTrue (is_name name)) l) c.deref-2.ensures.value c.in_ok-check_inputs.ensures.fit in
    let names : NamesFit circuit = record { pauses = pauses; model = c.in_ok-check_model.ensures.fits; inputs = inputs } in
    let outputs : All (HasName circuit.inputs) (listed_names circuit.outputs) =
    rw (c.listed_count.ensures.count, c.deref-3.ensures.value, c.deref-4.ensures.value, c.deref-5.ensures.value) at c.in_ok-check_outputs.ensures.named in
    let again : IfFault c.check_once.result (IsAgain (listed_names circuit.outputs)) =
    rw (c.listed_count.ensures.count, c.deref-3.ensures.value, c.deref-4.ensures.value) at c.check_once.ensures.fault in
    once-fault circuit c.check_once.result names outputs again
