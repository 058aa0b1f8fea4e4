-- A written text that is read gives the circuit that the text was written for.
use Rattle.std.proofs.Common.{◌≡◌, ℕ, List, sym, ◌∙◌}
use Rattle.net_ir.specs.Netlists.{Netlist}
use Rattle.blif_text.specs.declared.circuit.Blif.{Blif}
use Rattle.blif_text.specs.Plain.{plain_circuit}
use Rattle.blif_read.specs.Reads.{ReadsAs}
use Rattle.blif_text.specs.Written.{Means}

pub circuit-read_back : (text : List ℕ) (net : Netlist) (blif : Blif) (means : Means text net) → ReadsAs text blif → plain_circuit blif ≡ means.circuit
circuit-read_back text net blif means reads =
    let both = sym reads.1 ∙ means.reads in cc both
