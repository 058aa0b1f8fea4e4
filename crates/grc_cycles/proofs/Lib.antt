mod Counted
mod worked
