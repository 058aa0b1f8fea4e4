-- Worked examples of the definitions: values by hand, or by an independent implementation. No law depends on them.
mod Examples
mod InstanceExamples
mod WorkedReadings
mod WorkedNames
mod WorkedGraphs
mod WorkedLoops
mod WorkedNumbers
mod WorkedEdges
mod WorkedTrees
mod WorkedCoherence
mod WorkedSizes
mod WorkedOrders
