mod Written
mod worked
