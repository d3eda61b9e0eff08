mod Blocks
mod Left
mod OneCallMore
