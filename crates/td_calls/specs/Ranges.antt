-- The values that a program can hold: in a clause a number has no bound.
use Rattle.std.specs.Prelude.{◌<◌, ◌^◌, FitsSigned}
use Rattle.std.specs.Int.{w64}
use Rattle.std.specs.Prelude.{Option, Some, None}
use Rattle.td_stamp.specs.declared.values.Rec.{Rec}
use Rattle.td_stamp.specs.declared.values.State.{State}

pub record IsRec (rec : Rec) : Type 0 where
  pub key : rec.key < 2 ^ 64
  pub val : FitsSigned w64 rec.val

pub record IsState (state : State) : Type 0 where
  pub a : FitsSigned w64 state.a
  pub b : FitsSigned w64 state.b

-- a state, if there is one
abbrev pub IsOptionalState : Option State → Type 0
IsOptionalState None = Unit {0}
IsOptionalState (Some state) = IsState state
