mod Numbers
pub mod WireNumbers
pub mod Founds
mod SortedEdges
mod PartReads
mod WiresApart
mod FoundPairs
