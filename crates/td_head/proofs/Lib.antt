mod Same
mod ReadBack
mod First
mod Zeros
mod Ascii
mod Canonical
mod Told
mod Raised
