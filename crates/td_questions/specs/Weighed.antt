-- Entries as they are ranked, and back.
use Rattle.std.specs.Prelude.{ℕ, ℤ, ◌≤◌, pos, neg_ℤ, ◌-ℤ◌, List, length, Option, Some, None}
use Rattle.td_questions.specs.declared.ranks.Ranked.{Ranked}
use Rattle.td_questions.specs.declared.ranks.Order.{Order}
use Rattle.td_questions.specs.declared.ranks.Order.TheVariants.{FromLeast, FromGreatest}
use Rattle.td_questions.specs.Asked.{Entry}

-- what is less for an entry that stands before
abbrev pub weight_of : Order → ℤ → ℤ
weight_of FromLeast a = a
weight_of FromGreatest a = neg_ℤ (pos 1) -ℤ a

abbrev pub ranked : Order → Entry → Ranked
ranked order e = record { weight = weight_of order e.1.a; place = e.0; b = e.1.b }

abbrev pub entry_of : Order → Ranked → Entry
entry_of order r = (r.place, record { a = weight_of order r.weight; b = r.b })

-- there are no more than are wanted
abbrev pub IsFew : {X : Type 0} → Option ℕ → List X → Type 0
IsFew None xs = Unit {0}
IsFew (Some count) xs = length xs ≤ count
