-- What the closure of this program answers: its law.
use Rattle.std.specs.Prelude.{ℤ, pos, List, [], ◌∷◌, length, Option, Some, unwrap_or}
use Rattle.std.proofs.Common.{arith}
use Rattle.td_stamp.specs.declared.values.Item.{Item}
use Rattle.td_stamp.specs.declared.values.State.{State}
use Rattle.td_calls.specs.Answers.{Answers, AnswerFew}
use Rattle.td_calls.specs.Stock.{saturating_add}

-- how many visits a page has had: those before, and one for each item
abbrev pub visits_after : Option State → List Item → ℤ
visits_after state items = saturating_add (unwrap_or state (record { a = pos 0; b = pos 0 })).a (pos (length items))

-- a fold keeps the visits of a page and sends them, whatever its code; there are no maps and no groups
abbrev pub visits : Answers
visits = record {
  emit = λ code port r. [];
  group = λ code key items. [];
  fold = λ code page state items.
      (Some (record { a = visits_after state items; b = pos 0 }), record { key = page; val = visits_after state items } ∷ []);
}

-- no closure sends more than eight records
pub visits_few : AnswerFew visits
visits_few = record {
  emit = λ code port r. omega arith;
  group = λ code key items. omega arith;
  fold = λ code page state items. omega arith;
}
