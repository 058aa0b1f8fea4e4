-- To believe: what an optimized netlist keeps of the given one where the inputs meet relations.
use Rattle.std.specs.Prelude.{◌≡◌, ◌≤◌, Bool, List, length}
use Rattle.base_types.specs.Items.{Item, EachEvent}
use Rattle.base_types.specs.Relations.{Relation, MeetsAll}
use Rattle.net_ir.specs.Netlists.{Netlist}
use Rattle.net_ir.specs.Runs.{net_run}
use Rattle.net_opt.specs.Optimized.{SameInterface}

-- An event has one value for each input, and meets the relations. A signal of a relation is the input of that number.
pub record IsAllowed (net : Netlist) (relations : List Relation) (event : List Bool) : Type 0 where
  pub wide : length event ≡ length net.inputs
  pub meets : MeetsAll relations event

-- over all items, resets included, whose events are allowed, both show the same
abbrev pub FollowsUnder : List Relation → Netlist → Netlist → Type 0
FollowsUnder relations old new =
    (items : List Item) → EachEvent (IsAllowed old relations) items → net_run new items ≡ net_run old items

-- the new netlist has the interface of the given one, follows it where the inputs meet the relations, and is not larger
pub record OptimizesUnder (relations : List Relation) (old new : Netlist) : Type 0 where
  pub interface : SameInterface old new
  pub follows : FollowsUnder relations old new
  pub fewer_gates : length new.gates ≤ length old.gates
  pub fewer_latches : length new.latches ≤ length old.latches
