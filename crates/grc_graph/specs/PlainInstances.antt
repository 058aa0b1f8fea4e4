-- To believe: the plain forms of instances and wires: a wire goes by its name. A number of an instance is read through
-- the list of instances; a number that is out of range, which no graph has, is read as the body's resumed instance.
use Rattle.std.specs.Prelude.{ℕ, List, slice_index_or}
use Rattle.grc_graph.specs.declared.instances.Layer.{Layer}
use Rattle.grc_graph.specs.declared.instances.Layer.TheVariants as layers
use Rattle.grc_graph.specs.declared.instances.Instance.{Instance}
use Rattle.grc_graph.specs.declared.wires.Wire.{Wire}
use Rattle.grc_graph.specs.declared.wires.Wire.TheVariants as wires
use Rattle.grc_graph.specs.Layers as plain_layers
use Rattle.grc_graph.specs.Instances as plain
use Rattle.grc_graph.specs.Wires as plain_wires

abbrev pub layer_of : Layer → plain_layers.Layer
layer_of layers.Resumed = plain_layers.Resumed
layer_of (layers.Started r) = plain_layers.Started r.0

abbrev pub instance_of : Instance → plain.Instance
instance_of i = record { path = i.path.0; layer = layer_of i.layer }

-- the instance with a number
abbrev pub instance_at : List plain.Instance → ℕ → plain.Instance
instance_at insts i = slice_index_or insts i (record { path = 0; layer = plain_layers.Resumed })

-- a wire by name
abbrev pub wire_of : List plain.Instance → Wire → plain_wires.Wire
wire_of insts (wires.Go i) = plain_wires.Go (instance_at insts i.0).path (instance_at insts i.0).layer
wire_of insts (wires.End i k) = plain_wires.End (instance_at insts i.0).path (instance_at insts i.0).layer k
wire_of insts (wires.Local i) = plain_wires.StatusOf (instance_at insts i.0).path (instance_at insts i.0).layer
wire_of insts (wires.Out s) = plain_wires.Out s.0
