-- To believe: names that texts give to a net's parts: latch J is `sJ`, and gate K is `wN` where it carries wire N, else
-- `gK`. The names of inputs are given.
use Rattle.std.specs.Prelude.{ℕ, ◌-◌, if◌then◌else◌, nat_lt, List, ◌++◌, length, codes, decimal, Option, Some, None}
use Rattle.base_types.specs.declared.indices.WireId.{WireId}
use Rattle.net_ir.specs.Netlists.{Netlist, first_gate, wire_at}
use Rattle.net_ir.specs.Numbered.{numbered}

abbrev pub state_name : ℕ → List ℕ
state_name j = codes "s" ++ decimal j

abbrev pub gate_name : ℕ → Option WireId → List ℕ
gate_name k None = codes "g" ++ decimal k
gate_name k (Some wire) = codes "w" ++ decimal wire.0

-- the names of the gates
abbrev pub gate_names : Netlist → List (List ℕ)
gate_names net = numbered (λ k gate. gate_name k gate.wire) 0 net.gates

-- the name of a net, by its number, where each input has a name
abbrev pub name_of_net : (ℕ → List ℕ) → Netlist → ℕ → List ℕ
name_of_net input net n =
    if nat_lt n (length net.inputs) then input n
    else (if nat_lt n (first_gate net) then state_name (n - length net.inputs)
    else gate_name (n - first_gate net) (wire_at net.gates (n - first_gate net)))
