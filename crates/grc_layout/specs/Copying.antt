-- Inner: what the walk over a body appends, and when it stops.
use Rattle.std.specs.Prelude.{◌≡◌, ℕ, ◌+◌, ◌<◌, ◌≤◌, Bool, if◌then◌else◌, List, [], ◌∷◌, ◌++◌, length, map, drop, ⊤}
use Rattle.base_types.specs.declared.bounds.TheConstants.Limits.{INSTANCES}
use Rattle.est_kernel.specs.Terms.{Term}
use Rattle.grc_graph.specs.Layers.{Resumed, Started, Liveness, part_liveness}
use Rattle.grc_graph.specs.Instances as plain
use Rattle.grc_graph.specs.PlainInstances.{instance_of}
use Rattle.grc_graph.specs.declared.instances.Instance.{Instance}
use Rattle.grc_layout.specs.declared.lists.Position.{Position}
use Rattle.grc_layout.specs.declared.refusal.CopyFault.{CopyFault}
use Rattle.grc_layout.specs.declared.refusal.CopyFault.TheVariants.{TooManyInstances, NoMemory}

-- in which layers the statement at a position is live, with these roots
abbrev pub liveness_of : Position → List ℕ → Liveness
liveness_of at roots = record { resumed = at.resumed; roots = drop at.base roots }

-- the instances of a part with this number, and of all in it, where it is live as its whole is
abbrev pub part_instances : Liveness → Term → ℕ → List plain.Instance
part_instances a p n = plain.instances (part_liveness a p) p n

-- the started instances of a statement
abbrev pub starts : ℕ → List ℕ → List plain.Instance
starts path roots = map (λ r. record { path = path; layer = Started r }) roots

-- the resumed instance of a statement, where there is one
abbrev pub resumed_instances : ℕ → Bool → List plain.Instance
resumed_instances path b = map (λ l. record { path = path; layer = l }) (if b then Resumed ∷ [] else [])

-- these instances were appended, and there are not too many
pub record Gains (old new : List Instance) (more : List plain.Instance) : Type 0 where
  pub list : map instance_of new ≡ map instance_of old ++ more
  pub few : length old ≤ INSTANCES → length new ≤ INSTANCES

-- it stops for too many where these would be too many
abbrev pub IsTooMany : List Instance → List plain.Instance → CopyFault → Type 0
IsTooMany old more TooManyInstances = INSTANCES < length old + length more
IsTooMany old more NoMemory = ⊤

-- all except the last of these were appended, and there are not too many
pub record Reaches (old new : List Instance) (all rest : List plain.Instance) : Type 0 where
  pub list : map instance_of new ++ rest ≡ map instance_of old ++ all
  pub few : length old ≤ INSTANCES → length new ≤ INSTANCES
