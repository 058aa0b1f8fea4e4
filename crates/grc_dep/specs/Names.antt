-- Inner: wires by name as the program writes them, and the numbers of named wires.
use Rattle.std.specs.Prelude.{◌≡◌, ℕ, suc, ◌<◌, if◌then◌else◌, List, [], ◌∷◌, length, slice_index_or}
use Rattle.std.specs.Prelude.{Option, Some, None, option_map}
use Rattle.grc_dep.specs.declared.names.NamedWire.{NamedWire}
use Rattle.grc_dep.specs.declared.names.NamedWire.TheVariants as names
use Rattle.grc_graph.specs.Wires.{Wire, Out, Go, StatusOf, End, same_wire}
use Rattle.grc_graph.specs.PlainInstances.{instance_of}

-- a wire by its name
abbrev pub wire_named : NamedWire → Wire
wire_named (names.Out s) = Out s.0
wire_named (names.Go x) = Go (instance_of x).path (instance_of x).layer
wire_named (names.Status x) = StatusOf (instance_of x).path (instance_of x).layer
wire_named (names.End x k) = End (instance_of x).path (instance_of x).layer k

-- the number of the first wire with this name
abbrev pub number_of : List Wire → Wire → Option ℕ
number_of [] u = None
number_of (w ∷ ws) u = if same_wire u w then Some 0 else option_map (λ i. suc i) (number_of ws u)

-- no two places have one wire
abbrev pub Apart : List Wire → Type 0
Apart wires = (i j : ℕ) (d : Wire) → i < length wires → j < length wires
    → slice_index_or wires i d ≡ slice_index_or wires j d → i ≡ j
