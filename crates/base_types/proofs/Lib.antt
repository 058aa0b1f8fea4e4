mod Bits
mod Gains
mod Room
mod Contents
mod NoCodes
mod SameNames
mod Items
mod worked
pub mod Exports
