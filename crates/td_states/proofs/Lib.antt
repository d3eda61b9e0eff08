mod Order
mod Wording
mod Spelling
mod ReadOn
mod Once
mod OneAnswer
mod Pairs
mod Refused
