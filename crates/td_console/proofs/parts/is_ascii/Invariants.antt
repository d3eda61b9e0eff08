use Rattle.std.proofs.Common.{◌≡◌, nat_lt, take}
use Rattle.std.specs.List.{list_all}
use Rattle.std.specs.Char.{is_ascii}
use Rattle.td_console.proofs.parts.is_ascii.Given as goal

-- a byte above 127 leaves its highest bit
abbrev pub invariant-loop-byte : goal.invariant-loop-byte
invariant-loop-byte l = nat_lt l.bits 128 ≡ list_all is_ascii (take l.byte-index l.bytes)
