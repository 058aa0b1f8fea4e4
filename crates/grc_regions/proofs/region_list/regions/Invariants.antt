use Rattle.grc_regions.specs.Regions.{AreRegionsBefore}
use Rattle.grc_regions.proofs.region_list.regions.Given as goal

abbrev pub invariant-loop-w : goal.invariant-loop-w
invariant-loop-w l = AreRegionsBefore l.graph l.w l.regions.items
