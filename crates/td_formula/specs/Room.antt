-- Records that go out as far as there is room.
use Rattle.std.specs.Prelude.{ℕ, ◌-◌, ℤ, pos, ◌+ℤ◌, nat_lt, if◌then◌else◌, List, [], ◌∷◌, ◌++◌, length, take}
use Rattle.td_stamp.specs.declared.values.Rec.{Rec}
use Rattle.td_formula.specs.Meaning.{step}

-- one record more: it goes out where there is room, and else it is lost
abbrev pub with_record : ℕ → List Rec × ℤ → Rec → List Rec × ℤ
with_record room sent r =
    if nat_lt (length sent.0) room then (sent.0 ++ r ∷ [], sent.1) else (sent.0, step (sent.1 +ℤ pos 1))

-- of all these records: those that go out, and how many are lost
abbrev pub settled : ℕ → List Rec → List Rec × ℤ
settled room all = (take room all, step (pos (length all - room)))
