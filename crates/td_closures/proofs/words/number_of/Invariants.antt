use Rattle.std.proofs.Common.{◌≡◌, ◌+◌, ◌≤◌, length, map}
use Rattle.std.specs.String.{string_bytes}
use Rattle.td_closures.specs.Words.{register_from}
use Rattle.td_closures.proofs.words.number_of.Given as goal

abbrev pub invariant-loop-rest : goal.invariant-loop-rest
invariant-loop-rest l = (register_from 0 (map string_bytes l.fn.registers) l.fn.word ≡ register_from l.i (map string_bytes l.rest) l.fn.word) × (l.i + length l.rest ≤ 8)

abbrev pub decreases-loop-rest : goal.decreases-loop-rest
decreases-loop-rest l = length l.rest
