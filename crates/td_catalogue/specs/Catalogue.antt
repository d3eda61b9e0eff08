-- The catalogue of closures that the program has: the first shelf, `stock`, and the second beside it.
use Rattle.std.specs.Prelude.{ℕ, List, Option, Some, None}
use Rattle.td_stamp.specs.declared.values.Rec.{Rec}
use Rattle.td_stamp.specs.declared.values.Item.{Item}
use Rattle.td_stamp.specs.declared.values.State.{State}
use Rattle.td_calls.specs.Answers.{Answers}
use Rattle.td_calls.specs.Stock.{stock}
use Rattle.td_catalogue.specs.declared.map_step.MapStep.{MapStep}
use Rattle.td_catalogue.specs.declared.group_step.GroupStep.{GroupStep}
use Rattle.td_catalogue.specs.declared.fold_step.FoldStep.{FoldStep}
use Rattle.td_catalogue.specs.Maps.{map_of, map_sent}
use Rattle.td_catalogue.specs.Groups.{group_of, group_sent}
use Rattle.td_catalogue.specs.Folds.{fold_of, fold_sent}

-- what a map answers: a code that the second shelf does not have is one of the first
abbrev pub map_answer : Option MapStep → ℕ → ℕ → Rec → List Rec
map_answer None code port r = stock.emit code port r
map_answer (Some step) code port r = map_sent step r

-- what a group answers
abbrev pub group_answer : Option GroupStep → ℕ → ℕ → List Item → List Rec
group_answer None code key items = stock.group code key items
group_answer (Some step) code key items = group_sent step key items

-- what a fold answers
abbrev pub fold_answer : Option FoldStep → ℕ → ℕ → Option State → List Item → Option State × List Rec
fold_answer None code key state items = stock.fold code key state items
fold_answer (Some step) code key state items = fold_sent step key state items

abbrev pub catalogue : Answers
catalogue = record {
  emit = λ code. map_answer (map_of code) code;
  group = λ code. group_answer (group_of code) code;
  fold = λ code. fold_answer (fold_of code) code;
}
