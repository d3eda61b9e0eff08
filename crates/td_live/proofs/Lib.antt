mod Pieces
mod Counted
