mod Shown
mod Finding
mod Scanning
mod Positions
mod Refusing
mod worked
