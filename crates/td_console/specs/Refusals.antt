-- The numbers and the texts of the faults.
use Rattle.std.specs.Prelude.{ℕ, List, ◌++◌, codes}
use Rattle.std.specs.Fmt.{decimal}
use Rattle.td_disk.specs.declared.error.MakeError.{MakeError}
use Rattle.td_disk.specs.declared.error.MakeError.TheVariants as make
use Rattle.td_plan.specs.Refusals.{refusal_text}
use Rattle.td_store.specs.declared.standing.error.KeeperError.{KeeperError}
use Rattle.td_store.specs.declared.standing.error.KeeperError.TheVariants as keeper
use Rattle.td_store.specs.standing.Refusals.{refusal_text as keeper_text}
use Rattle.td_console.specs.declared.faults.LineFault.{LineFault}
use Rattle.td_console.specs.declared.faults.LineFault.TheVariants.{Syntax, NoSuchInput, NotClosed, NotOut, SeenBefore, Gap, NoSuchFold}
use Rattle.td_console.specs.declared.faults.Fault.{Fault}
use Rattle.td_console.specs.declared.faults.Fault.TheVariants.{Plan, NoCall, Line, Input, Output, Memory, Picks, File, Shape, Keeper, Spent}

-- the number of a fault
abbrev pub number_of : Fault → ℕ
number_of (Plan e) = 1
number_of (NoCall vertex code) = 2
number_of (Line line fault) = 3
number_of Input = 4
number_of Output = 5
number_of Memory = 6
number_of Picks = 8
number_of File = 9
number_of Shape = 10
number_of (Keeper e) = 11
number_of Spent = 12

-- what is wrong with a data line
abbrev pub line_fault_text : LineFault → List ℕ
line_fault_text Syntax = codes "syntax"
line_fault_text NoSuchInput = codes "no such input"
line_fault_text NotClosed = codes "epoch not closed"
line_fault_text NotOut = codes "outputs not written yet"
line_fault_text SeenBefore = codes "a later epoch was seen"
line_fault_text Gap = codes "gap"
line_fault_text NoSuchFold = codes "no such fold"

-- the text of a fault
abbrev pub fault_text : Fault → List ℕ
fault_text (Plan e) = refusal_text e
fault_text (NoCall vertex code) = codes "vertex " ++ (decimal vertex ++ (codes ": no closure " ++ decimal code))
fault_text (Line line fault) = codes "line " ++ (decimal line ++ (codes ": " ++ line_fault_text fault))
fault_text Input = codes "input"
fault_text Output = codes "output"
fault_text Memory = codes "memory"
fault_text Picks = codes "picks"
fault_text File = codes "file"
fault_text Shape = codes "shape"
fault_text (Keeper e) = keeper_text e
fault_text Spent = codes "spent"

-- the fault for a keeper's refusal
abbrev pub keeper_fault : KeeperError → Fault
keeper_fault keeper.Memory = Memory
keeper_fault e = Keeper e

-- the fault for a file that was not made or opened
abbrev pub make_fault : MakeError → Fault
make_fault make.File = File
make_fault make.Memory = Memory
