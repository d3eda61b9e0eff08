-- The texts of refusals.
use Rattle.std.specs.Prelude.{ℕ, List, ◌++◌, codes}
use Rattle.std.specs.Fmt.{decimal}
use Rattle.td_closures.specs.declared.fault.Wrong.{Wrong}
use Rattle.td_closures.specs.declared.fault.Wrong.TheVariants as wrongs
use Rattle.td_closures.specs.declared.fault.Fault.{Fault}

-- a line, and what is wrong with it
abbrev pub at_closures_line : ℕ → List ℕ → List ℕ
at_closures_line line what = codes "closures line " ++ (decimal line ++ (codes ": " ++ what))

abbrev pub wrong_text : ℕ → Wrong → List ℕ
wrong_text line wrongs.Syntax = at_closures_line line (codes "syntax")
wrong_text line wrongs.Name = at_closures_line line (codes "name")
wrong_text line wrongs.Code = at_closures_line line (codes "code")
wrong_text line wrongs.TooMany = at_closures_line line (codes "too many")
wrong_text line wrongs.Deep = at_closures_line line (codes "deep")
wrong_text line wrongs.Memory = codes "memory"

-- the text of a refusal
abbrev pub fault_text : Fault → List ℕ
fault_text fault = wrong_text fault.line fault.wrong
