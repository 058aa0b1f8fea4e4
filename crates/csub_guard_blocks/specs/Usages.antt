-- Inner: what the code has of usages, owners and regions.
use Rattle.std.specs.Prelude.{◌≡◌, ℕ, ◌<◌, List, length, map, drop, Option, None, slice_index_or}
use Rattle.net_ir.specs.Netlists.{Netlist, net_count}
use Rattle.csub_guard_blocks.specs.declared.owning.Owner.{Owner as OwnerCode}
use Rattle.csub_guard_blocks.specs.declared.owning.Owner.TheVariants as codes
use Rattle.csub_guard_blocks.specs.declared.owning.Usage.{Usage as UsageCode}
use Rattle.csub_guard_blocks.specs.declared.owning.Usage.TheVariants as uses
use Rattle.csub_guard_blocks.specs.Owners.{Owner, Free, Inner, Outer, Usage, Unused, Within, Mixed, owners_from, usage}

abbrev pub owner_in : OwnerCode → Owner
owner_in codes.Free = Free
owner_in (codes.Inner h) = Inner h
owner_in (codes.Outer h) = Outer h

abbrev pub usage_in : UsageCode → Usage
usage_in uses.Unused = Unused
usage_in (uses.Within h) = Within h
usage_in uses.Mixed = Mixed

-- the region of a gate by a list of one entry for each gate
abbrev pub region_in : List (Option ℕ) → ℕ → Option ℕ
region_in regions k = slice_index_or regions k None

-- how net n is used, by a list of one entry for each net
abbrev pub used : List UsageCode → ℕ → Usage
used usages n = usage_in (slice_index_or usages n uses.Mixed)

-- the owners and usages so far, where the gates from place k on have been looked at
pub record OwnedFrom (net : Netlist) (region : ℕ → Option ℕ) (k : ℕ) (owners : List OwnerCode)
    (usages : List UsageCode) : Type 0 where
  pub count : length owners ≡ length net.gates
  pub nets : length usages ≡ net_count net
  pub owned : map owner_in (drop k owners) ≡ owners_from net region k (drop k net.gates)
  pub says : (n : ℕ) → n < net_count net
      → used usages n ≡ usage net (drop k net.gates) (owners_from net region k (drop k net.gates)) n
