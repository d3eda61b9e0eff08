mod ReadBack
mod OtherPut
mod Order
mod Parsing
mod Reading
mod Raised
