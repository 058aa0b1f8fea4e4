use Rattle.est_front.proofs.lines.put_scope_fault.Goals as goal

pub returns-in-UnknownModule : goal.returns-in-UnknownModule
returns-in-UnknownModule g c = rw c.in-UnknownModule.is c.put_placed.ensures

pub returns-in-BadRename : goal.returns-in-BadRename
returns-in-BadRename g c = rw c.in-BadRename.is c.put_placed-in-BadRename.ensures

pub returns-in-UnknownSignal : goal.returns-in-UnknownSignal
returns-in-UnknownSignal g c = rw c.in-UnknownSignal.is c.put_placed-in-UnknownSignal.ensures

pub returns-in-UnknownTrap : goal.returns-in-UnknownTrap
returns-in-UnknownTrap g c = rw c.in-UnknownTrap.is c.put_placed-in-UnknownTrap.ensures
