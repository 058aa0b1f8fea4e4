-- To believe: the plain forms of the names of wires.
use Rattle.grc_graph.specs.declared.wire_names.LayerName.{LayerName}
use Rattle.grc_graph.specs.declared.wire_names.LayerName.TheVariants as layers
use Rattle.grc_graph.specs.declared.wire_names.WireName.{WireName}
use Rattle.grc_graph.specs.declared.wire_names.WireName.TheVariants as names
use Rattle.grc_graph.specs.WireNames as plain

abbrev pub layer_name_of : LayerName → plain.LayerName
layer_name_of layers.Resumed = plain.Resumed
layer_name_of (layers.Started root) = plain.Started root.steps.items

abbrev pub wire_name_of : WireName → plain.WireName
wire_name_of (names.Go path l) = plain.Go path.steps.items (layer_name_of l)
wire_name_of (names.End path l k) = plain.End path.steps.items (layer_name_of l) k
wire_name_of (names.Local path l signal) = plain.StatusOf path.steps.items (layer_name_of l) signal
wire_name_of (names.Out signal) = plain.Out signal
