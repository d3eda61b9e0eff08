mod Accepted
mod Empty
mod Written
