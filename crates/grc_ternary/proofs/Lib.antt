-- The lemmas, in the order in which docs/proofs.md tells them.

-- the least solution is reached from nothing known, stage by stage
mod Stages
-- the three-valued walk of what a selection leaves, part by part
mod ResumedWalks
-- the wires of a started statement, and the walk: each side below the other
mod StartedPlaces
-- those of a resumed statement
mod ResumedPlaces
-- where nothing is unknown, in the walk and on the wires
mod ResumedKnown
-- signals of a program are in scope
mod Scoped
-- what formulas mean by Kleene's tables
mod Formulas
-- the emissions on a status wire
mod Emitted
-- the equations of ends
mod Ends
-- layers in which a statement is not live
mod Quiet
-- what has no equation is false, and is walked with a go that is false
mod QuietEquations
-- from the equations of a started statement to what its wires follow
mod StartedEquations
-- the equations of a resumed parallel
mod Parallels
-- from those of a resumed statement to what its wires follow
mod ResumedEquations
-- from the list of a program's equations to those of each instance
mod Rows
-- the wires of a whole body, and its outgoing signals
mod Bodies
-- the first stage knows no more than the walk
mod Firsts
-- what an event gives and leaves open
mod Outgoing
-- the outgoing signals that are settled one within another are those of the solution
mod Joint
-- the step does what the walk does, where nothing is unknown
mod StepsLeft
-- solutions without unknown wires, and that those of equations that read up have none
mod KnownWires
-- a program reacts just where nothing of the least solution is unknown
mod Reactions
-- so it is from instant to instant
mod Runs
-- where edges go up in a rank, each solution is the least one
mod Acyclic
-- what each premise of the laws is for
mod WithoutPremises
-- worked programs
mod Examples
-- generated programs, against another implementation
mod worked
pub mod Exports
