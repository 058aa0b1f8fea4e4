mod Implied
mod Runs
mod Said
mod SmallerGates
mod Widening
mod worked
