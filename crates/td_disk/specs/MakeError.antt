use Rattle.std.specs.Prelude.{ℕ}
use Rattle.std.specs.declared.io.ErrorKind.{ErrorKind}
use Rattle.std.specs.declared.io.ErrorKind.TheVariants.{OutOfMemory}
use Rattle.td_disk.specs.declared.error.MakeError.{MakeError}
use Rattle.td_disk.specs.declared.error.MakeError.TheVariants.{File, Memory}

-- the number of a refusal
abbrev pub number_of : MakeError → ℕ
number_of File = 1
number_of Memory = 2

-- what an error of the operating system is here: want of memory, or else of the file
abbrev pub refusal_of : ErrorKind → MakeError
refusal_of OutOfMemory = Memory
refusal_of _ = File
