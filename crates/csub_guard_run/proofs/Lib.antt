mod Fits
mod Bodies
mod Stretches
mod Counting
mod Tracks
mod Runs
mod Keeping
mod Showing
mod Totals
mod NetTexts
mod TextFaults
mod CountedRuns
mod worked
pub mod Exports
