-- Inner: what drives a net.
use Rattle.std.specs.Prelude.{◌≡◌, ℕ, ◌-◌, ◌<◌, ◌≤◌, length}
use Rattle.net_ir.specs.Netlists.{Netlist, first_gate}
use Rattle.net_writer.specs.declared.drivers.Driver.{Driver}
use Rattle.net_writer.specs.declared.drivers.Driver.TheVariants.{Input, Latch, Gate}

-- the net with this number is driven by an input, a latch or a gate with that number among those
abbrev pub Drives : Netlist → ℕ → Driver → Type 0
Drives net n (Input k) = (n < length net.inputs) × (k ≡ n)
Drives net n (Latch k) = (length net.inputs ≤ n) × (n < first_gate net) × (k ≡ n - length net.inputs)
Drives net n (Gate k) = (first_gate net ≤ n) × (k < length net.gates) × (k ≡ n - first_gate net)
