use Rattle.net_opt.proofs.diagrams.Diagram.+both.Given as goal

abbrev pub decreases-both : goal.decreases-both
decreases-both l = l.depth
