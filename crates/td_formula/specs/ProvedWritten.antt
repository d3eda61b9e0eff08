-- A proof, and nothing that a reader must believe: no closure that is written as formulas sends more than eight records. It stands
-- here since the law of these closures has it as a field.
use Rattle.std.specs.Prelude.{ℕ, ◌≤◌, ℤ, List, [], ◌∷◌, length, take, Option, Some, None, option_to_list}
use Rattle.std.proofs.Common.{lit≤, arith, length-append, length-take}
use Rattle.td_stamp.specs.declared.values.Rec.{Rec}
use Rattle.td_stamp.specs.declared.values.Item.{Item}
use Rattle.td_stamp.specs.declared.values.State.{State}
use Rattle.td_calls.specs.Answers.{AnswerFew}
use Rattle.td_formula.specs.declared.expression.Name.{Name}
use Rattle.td_formula.specs.declared.closure.Pair.{Pair}
use Rattle.td_formula.specs.declared.closure.Closure.{Closure}
use Rattle.td_formula.specs.declared.closure.ClosureKind.TheVariants.{Map, Group, Fold}
use Rattle.td_formula.specs.Closures.{record_of, records_of, after_items, sends, room, at_end, answer, with_item, at_first}
use Rattle.td_formula.specs.Written.{closure_at, map_answer, group_answer, fold_answer, answers_of}

at_most_one : (x : Option Rec) → length (option_to_list x) ≤ 1
at_most_one None = lit≤ tt
at_most_one (Some x) = lit≤ tt

pub records_few : (lines : List Pair) (at : Name → ℤ) → length (records_of lines at) ≤ length lines
records_few [] at = lit≤ tt
records_few (line ∷ lines) at =
    let long = length-append (option_to_list (record_of at line)) (records_of lines at) in
    rw long (omega (arith, at_most_one (record_of at line), records_few lines at))

pub answer_few : (closure : Closure) (start : Name → ℤ) (items : List Item) → length (answer closure start items).1 ≤ 8
answer_few closure start items =
    let done : (Name → ℤ) × List Rec = after_items closure start items in
    let end : Name → ℤ = at_end closure done in
    let few = records_few (sends closure) end in
    let eight = length-take 8 closure.sends.items in
    let out = length-take (room closure) done.1 in
    let long = length-append (take (room closure) done.1) (records_of (sends closure) end) in
    rw long (omega (arith, few, eight, out))

map_few : (closure : Option Closure) (port : ℕ) (rec : Rec) → length (map_answer closure port rec) ≤ 8
map_few None port rec = lit≤ tt
map_few (Some closure) port rec = answer_few closure (with_item port rec.val (at_first rec.key None 0)) []

group_few : (closure : Option Closure) (key : ℕ) (items : List Item) → length (group_answer closure key items) ≤ 8
group_few None key items = lit≤ tt
group_few (Some closure) key items = answer_few closure (at_first key None (length items)) items

fold_few : (closure : Option Closure) (key : ℕ) (state : Option State) (items : List Item) → length (fold_answer closure key state items).1 ≤ 8
fold_few None key state items = lit≤ tt
fold_few (Some closure) key state items = answer_few closure (at_first key state (length items)) items

pub few_of : (closures : List Closure) → AnswerFew (answers_of closures)
few_of closures = record {
  emit = λ code. map_few (closure_at Map closures code);
  group = λ code. group_few (closure_at Group closures code);
  fold = λ code. fold_few (closure_at Fold closures code);
}
