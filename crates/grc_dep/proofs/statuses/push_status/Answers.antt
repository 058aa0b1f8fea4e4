use Rattle.std.proofs.Common.{◌++◌, ap, sym, ◌∙◌}
use Rattle.std.proofs.lemmas.List.{append-nil}
use Rattle.grc_dep.proofs.Founds.{found_none}
use Rattle.grc_dep.proofs.statuses.push_status.Goals as goal

pub returns-in-None : goal.returns-in-None
returns-in-None c = rw c.in-None.is (sym (ap (λ l. c.args.pairs.now.items ++ l) (found_none _) ∙ append-nil c.args.pairs.now.items))
