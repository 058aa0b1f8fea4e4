-- The lemmas, in the order in which docs/proofs.md tells them.

-- what the laws ask of a body, from what is asked of a program
mod Premises
-- what a selection leaves of a statement, and its codes
mod Residues
-- the code of a walk is a static code of its statement
mod WalkCodes
-- what some live instance of a statement passes, by layers
mod Bridge
-- where the emissions on a status wire stand
mod Emissions
-- they are those of the walk of the body that sees the wire
mod WalkEmits
-- what the formulas of ends mean, form by form
mod EndForms
-- what the wires of an instance meet, and what its place sees and finds
mod Meets
-- where a statement stands in the list of live instances, and its parts
mod Standing
-- the status wire of a Local is what its body emits
mod OwnStatus
-- the ends of an instance, where its parts are those of the walk
mod WalkEnds
-- where each instance meets its equations, its wires are those of the walk
mod Told
-- from the list of a graph's equations to what each instance meets
mod Joint
-- what a whole body sees, selects and emits
mod Tops
-- so a solution is a walk
mod Solutions
-- wires that are those of the walk meet the equations
mod WalksMeet
-- so the solutions are just the walks
mod WalkSolves
-- what a walk keeps, and that what is held depends on nothing else
mod Kept
-- the way down to a pause
mod Ways
-- the next formula of a pause says whether the walk keeps it
mod NextKept
-- what a walk keeps is a state
mod NextStates
-- so the next state of a body is what its walk keeps
mod NextTop
-- the first code of a set
mod FirstCodes
-- what a solution shows: the next state, the code, and whether the program pauses
mod Instants
-- the laws on solutions and walks
mod GraphLaws
-- a region whose head does not run is at rest
mod Regions
-- a step that does what the walk does, form by form
mod StepWalks
mod worked
pub mod Exports
