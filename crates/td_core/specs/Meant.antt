-- What came out is the batch meaning's.
use Rattle.std.specs.Prelude.{◌≡◌, ◌-◌, ◌<◌, List, [], get_or}
use Rattle.std.specs.List.{AllByRecursion}
use Rattle.td_stamp.specs.declared.epoch_out.EpochOut.{EpochOut}
use Rattle.td_calls.specs.Answers.{Answers}
use Rattle.td_machine.specs.State.{HallState}
use Rattle.td_machine.specs.Sound.{run_of}

-- the outputs of an epoch after the base are those that the batch meaning of what was released since has there
abbrev pub IsMeantAt : Answers → HallState → EpochOut → Type 0
IsMeantAt answers S out = S.base < out.epoch → out.recs ≡ get_or (run_of answers S).outs (out.epoch - S.base - 1) []

-- of each of some epochs
abbrev pub IsMeant : Answers → HallState → List EpochOut → Type 0
IsMeant answers S outs = AllByRecursion (IsMeantAt answers S) outs
