mod CrashSafety
mod Frame
mod Images
mod Steps
mod OnlyReads
