use Rattle.net_opt.proofs.plans.Plan.+edge_between.Given as goal

abbrev pub decreases-edge_between : goal.decreases-edge_between
decreases-edge_between l = l.depth
