use Rattle.std.proofs.Common.{◌+◌, ◌*◌}
use Rattle.net_relations.proofs.implying.+following.Given as goal

abbrev pub decreases-follows : goal.decreases-follows
decreases-follows l = 2 * l.depth

abbrev pub decreases-follows_from_cause : goal.decreases-follows_from_cause
decreases-follows_from_cause l = 2 * l.depth + 1

abbrev pub decreases-follows_to_effect : goal.decreases-follows_to_effect
decreases-follows_to_effect l = 2 * l.depth + 1
