use Rattle.grc_dep.proofs.WireNumbers.{number_found}
use Rattle.grc_dep.proofs.lookups.Lookups.find.Goals as goal

pub returns-in-Out : goal.returns-in-Out
returns-in-Out c = rw c.in-Out.is (number_found _ c.out.result _ c.args.self.now.apart c.out.ensures)

pub returns-in-Go : goal.returns-in-Go
returns-in-Go c = rw c.in-Go.is (number_found _ c.find_go.result _ c.args.self.now.apart c.find_go.ensures)

pub returns-in-Status : goal.returns-in-Status
returns-in-Status c = rw c.in-Status.is (number_found _ c.find_status.result _ c.args.self.now.apart c.find_status.ensures)

pub returns-in-End : goal.returns-in-End
returns-in-End c = rw c.in-End.is (number_found _ c.find_end.result _ c.args.self.now.apart c.find_end.ensures)
