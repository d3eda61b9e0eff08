use Rattle.std.proofs.Common.{◌≡◌, ◌≤◌, ◌-◌, true, take}
use Rattle.std.specs.List.{list_all}
use Rattle.std.specs.Char.{is_ascii_digit}
use Rattle.std.specs.Str.Parse.{digits_value}
use Rattle.td_console.proofs.data_line.digits.Given as goal

-- the digits so far, and what they write
abbrev pub invariant-loop-count : goal.invariant-loop-count
invariant-loop-count l = record {
  bound : l.count ≤ l.end;
  digits : list_all is_ascii_digit (take l.count l.bytes) ≡ true;
  value : l.number ≡ digits_value 10 (take l.count l.bytes);
}

abbrev pub decreases-loop-count : goal.decreases-loop-count
decreases-loop-count l = l.end - l.count
