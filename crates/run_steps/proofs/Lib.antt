mod Makings
mod TermValues
mod RecordLists
mod GateParts
mod Pushes
mod Places
mod Settling
mod EquationEdges
mod Solving
mod NoLoops
mod OnceNames
mod ExprValues
mod Compiling
mod Resolving
mod Reacting
mod Instants
mod worked
pub mod Exports
