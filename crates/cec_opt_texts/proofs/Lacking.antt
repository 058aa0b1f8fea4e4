-- The faults of a text, where relations of its inputs are given.
use Rattle.std.proofs.Common.{◌≡◌, ℕ, ◌≤◌, List, length, Result, Ok, Err, subst, arith}
use Rattle.std.proofs.lemmas.Result.{IfOk-weaker}
use Rattle.std.specs.Prelude.{IfOk}
use Rattle.base_types.specs.Stops.{FaultIs, IfFault}
use Rattle.base_types.specs.declared.stop.Stop.{Stop}
use Rattle.base_types.specs.declared.stop.Stop.TheVariants.{Fault, NoMemory}
use Rattle.base_types.specs.declared.bounds.TheConstants.Limits.{TEXT_BYTES}
use Rattle.net_ir.specs.Netlists.{Netlist}
use Rattle.net_ir.specs.Runs.{netlist_of}
use Rattle.net_ir.specs.declared.netlist.Net.{Net}
use Rattle.blif_text.specs.Circuits.{Circuit, reading}
use Rattle.blif_read.specs.Reads.{ReadsFault}
use Rattle.blif_read.specs.declared.fault.BlifFault.{BlifFault}
use Rattle.blif_read.specs.declared.fault.BlifFault.TheVariants.{TooLong, Line, TwoDrivers, NoDriver, NoInput}
use Rattle.blif_net.specs.Conversions.{IsNetOf}
use Rattle.blif_net.specs.Interfaces.{IsCircuitFault}
use Rattle.cec_opt_texts.specs.Faults.{IsGivenFault, IsNoInput, IsOptFault}
use Rattle.cec_opt_texts.specs.Optimized.{IsSmallFor, IsSmallNetOf, IsTextNet}
use Rattle.cec_opt_texts.specs.Related.{GivenRelation, numbered_relations}

-- a fault of the text alone
given-fault : (text : List ℕ) (given : List GivenRelation) (fault : BlifFault) → IsOptFault text fault → IsGivenFault text given fault
given-fault text given (NoInput name) is = absurd is
given-fault text given _ is = is

pub given-stop : (text : List ℕ) (given : List GivenRelation) (stop : Stop BlifFault) → FaultIs (IsOptFault text) stop
    → FaultIs (IsGivenFault text given) stop
given-stop text given (Fault fault) is = given-fault text given fault is
given-stop text given NoMemory is = tt

-- a name that is no input of the text's netlist
lacking-fault : (text : List ℕ) (given : List GivenRelation) (net : Netlist) (fault : BlifFault) → IsTextNet text net
    → IsNoInput (numbered_relations net.inputs given) fault → IsGivenFault text given fault
lacking-fault text given net (NoInput name) of_text is = record {
  circuit = of_text.circuit;
  reads = of_text.reads;
  net = net;
  is = of_text.is;
  lacks = subst (λ inputs. numbered_relations inputs given ≡ Err name) of_text.is.inputs is;
}
lacking-fault text given net _ of_text is = absurd is

-- why a text is not read, and why its circuit has no netlist
pub refused-fault : (text : List ℕ) (stop : Stop BlifFault) → length text ≤ TEXT_BYTES → FaultIs (ReadsFault text) stop → FaultIs (IsOptFault text) stop
refused-fault text (Fault TooLong) short is = absurd (omega (arith, short, is))
refused-fault text (Fault (Line number)) short is = is.1
refused-fault text (Fault (TwoDrivers name)) short is = is.1
refused-fault text (Fault (NoDriver name)) short is = is.1
refused-fault text (Fault _) short is = absurd is
refused-fault text NoMemory short is = tt

pub circuit-fault : {T : Type 0} (text : List ℕ) (circuit : Circuit) → reading text ≡ Ok circuit → (r : Result T (Stop BlifFault))
    → IfFault r (IsCircuitFault circuit) → IfFault r (IsOptFault text)
circuit-fault text circuit reads (Ok net) is = tt
circuit-fault text circuit reads (Err (Fault TooLong)) is = is
circuit-fault text circuit reads (Err (Fault (Line number))) is = absurd is
circuit-fault text circuit reads (Err (Fault (TwoDrivers name))) is = absurd is
circuit-fault text circuit reads (Err (Fault (NoDriver name))) is = absurd is
circuit-fault text circuit reads (Err (Fault (NoInput name))) is = is
circuit-fault text circuit reads (Err (Fault _)) is = (circuit, reads, is)
circuit-fault text circuit reads (Err NoMemory) is = tt

pub net-of-text : (text : List ℕ) (circuit : Circuit) → reading text ≡ Ok circuit → (r : Result Net (Stop BlifFault))
    → IfOk r (λ net. IsNetOf circuit (netlist_of net)) → IfOk r (λ net. IsTextNet text (netlist_of net))
net-of-text text circuit reads r = IfOk-weaker r _ _ (λ net is. record { circuit = circuit; reads = reads; is = is })

pub lacking-input : {Z : Type 0} (text : List ℕ) (given : List GivenRelation) (net : Netlist) (result : Result Z (Stop BlifFault)) → IsTextNet text net
    → IfFault result (IsNoInput (numbered_relations net.inputs given)) → IfFault result (IsGivenFault text given)
lacking-input text given net (Ok z) of_text is = tt
lacking-input text given net (Err (Fault fault)) of_text is = lacking-fault text given net fault of_text is
lacking-input text given net (Err NoMemory) of_text is = tt

-- the netlist of a text, optimized
pub small-text-net : (text : List ℕ) (given : List GivenRelation) (made : Netlist) (result : Result Net (Stop BlifFault)) → IsTextNet text made
    → IfOk result (λ net. IsSmallFor given made (netlist_of net)) → IfOk result (λ net. IsSmallNetOf text given (netlist_of net))
small-text-net text given made (Ok net) of_text small =
    record { circuit = of_text.circuit; reads = of_text.reads; small = record { made = made; is = of_text.is; small = small } }
small-text-net text given made (Err stop) of_text small = tt
