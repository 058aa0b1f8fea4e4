mod CoveringLines
mod Joint
mod NewSignals
