-- To believe: what an optimized netlist keeps of the given one.
use Rattle.std.specs.Prelude.{◌≡◌, ◌≤◌, [], length}
use Rattle.net_ir.specs.Gates.{carried}
use Rattle.net_ir.specs.Netlists.{Netlist, output_names}
use Rattle.net_follow.specs.Following.{IsFollowed}

-- the name, the inputs and the names of the outputs are the same, in their order, and no gate carries a wire
pub record SameInterface (old new : Netlist) : Type 0 where
  pub name : new.name ≡ old.name
  pub inputs : new.inputs ≡ old.inputs
  pub outputs : output_names new ≡ output_names old
  pub silent : carried new.gates ≡ []

-- the new netlist has the interface of the given one, and follows it
pub record Replaces (old new : Netlist) : Type 0 where
  pub interface : SameInterface old new
  pub followed : IsFollowed old new

-- and it is not larger
pub record Optimizes (old new : Netlist) : Type 0 where
  pub replaces : Replaces old new
  pub fewer_gates : length new.gates ≤ length old.gates
  pub fewer_latches : length new.latches ≤ length old.latches
