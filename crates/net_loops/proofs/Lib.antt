mod Whole
mod Quiet
