-- What the reader of heads answers.
use Rattle.std.specs.Prelude.{◌≡◌, ℕ, Bool, List, Option, Some, None, Vec, Result, Ok, Err, Decides}
use Rattle.std.specs.declared.alloc.Global.{Global}
use Rattle.td_plan.specs.Lines.{Line}
use Rattle.td_disk.specs.Disk.{DiskView}
use Rattle.td_head.specs.declared.head.Head.{Head}
use Rattle.td_head.specs.declared.error.HeadError.{HeadError}
use Rattle.td_head.specs.Head.{Fields, fields_in, head_in, IsCanonical, IsHeaded}
use Rattle.td_head.specs.HeadError.{IsFailureOr}

-- the two answers
abbrev pub Headed : Head → Result Head HeadError
Headed h = Ok h

abbrev pub Refused : HeadError → Result Head HeadError
Refused e = Err e

module _ {D : Type 0} (view : D → DiskView) where
  -- THE HEADS OF A LAWFUL DISK TELL THIS for a plan
  abbrev pub HeadsTell : List Line → Result Head HeadError → D → Type 0
  HeadsTell plan answer d = (view d).lawful → IsHeaded plan (view d).state.bytes answer

  -- the device failed, memory ran out, or the heads of a lawful disk tell this refusal
  abbrev pub HeadsRefuse : List Line → HeadError → D → Type 0
  HeadsRefuse plan e d = IsFailureOr ((view d).lawful → IsHeaded plan (view d).state.bytes (Refused e)) e

-- The head with these fields tells this, on a disk of this size.
pub record IsFieldsTold (plan : List Line) (size : ℕ) (f : Fields) (answer : Result Head HeadError) : Type 0 where
  pub canonical : Bool
  pub text : Decides canonical (IsCanonical f.text)
  pub head : head_in canonical plan size (Some f) ≡ answer

-- the fields of a payload that counts
abbrev pub fields_of : ℕ → Option (Vec ℕ Global) → Option Fields
fields_of side None = None
fields_of side (Some v) = Some (fields_in side v.items)

-- the fields of a payload that was chosen, with its side
abbrev pub chosen_of : Option (ℕ × Vec ℕ Global) → Option Fields
chosen_of None = None
chosen_of (Some c) = Some (fields_in c.0 c.1.items)
