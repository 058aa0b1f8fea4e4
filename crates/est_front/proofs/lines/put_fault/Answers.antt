use Rattle.est_front.proofs.lines.put_fault.Goals as goal

pub returns-in-BigNumber : goal.returns-in-BigNumber
returns-in-BigNumber g c = rw c.in-BigNumber.is c.put_placed-in-BigNumber.ensures

pub returns-in-BadCount : goal.returns-in-BadCount
returns-in-BadCount g c = rw c.in-BadCount.is c.put_placed-in-BadCount.ensures

pub returns-in-InstantLoop : goal.returns-in-InstantLoop
returns-in-InstantLoop g c = rw c.in-InstantLoop.is c.put_placed-in-InstantLoop.ensures
