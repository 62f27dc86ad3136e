pub mod Nests
mod MadePoints
mod NodeBoxes
mod NodeRanges
mod NodeSets
mod Reductions
mod SameIndices
