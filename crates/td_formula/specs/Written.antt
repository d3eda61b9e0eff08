-- THE LAW OF CLOSURES THAT ARE WRITTEN AS FORMULAS, which have the codes from 10,000 on.
use Rattle.std.specs.Prelude.{ℕ, Bool, true, false, ◌==◌, ◌&&◌, nat_lt, if◌then◌else◌, List, [], find, Option, Some, None}
use Rattle.td_stamp.specs.declared.values.Rec.{Rec}
use Rattle.td_stamp.specs.declared.values.Item.{Item}
use Rattle.td_stamp.specs.declared.values.State.{State}
use Rattle.td_calls.specs.Answers.{Answers}
use Rattle.td_formula.specs.declared.closure.Closure.{Closure}
use Rattle.td_formula.specs.declared.closure.ClosureKind.{ClosureKind}
use Rattle.td_formula.specs.declared.closure.ClosureKind.TheVariants.{Map, Group, Fold}
use Rattle.td_formula.specs.Closures.{map_sent, group_sent, fold_sent}

abbrev pub is_kind : ClosureKind → ClosureKind → Bool
is_kind Map Map = true
is_kind Group Group = true
is_kind Fold Fold = true
is_kind wanted kind = false

abbrev pub is_at : ClosureKind → ℕ → Closure → Bool
is_at kind code closure = is_kind kind closure.kind && (closure.code == code)

-- the closure of a kind and a code: the first of them, and none of a code below 10,000
abbrev pub closure_at : ClosureKind → List Closure → ℕ → Option Closure
closure_at kind closures code = if nat_lt code 10000 then None else find (is_at kind code) closures

-- without a closure nothing is sent, and a state stays as it is
abbrev pub map_answer : Option Closure → ℕ → Rec → List Rec
map_answer None port rec = []
map_answer (Some closure) port rec = map_sent closure port rec

abbrev pub group_answer : Option Closure → ℕ → List Item → List Rec
group_answer None key items = []
group_answer (Some closure) key items = group_sent closure key items

abbrev pub fold_answer : Option Closure → ℕ → Option State → List Item → Option State × List Rec
fold_answer None key state items = (state, [])
fold_answer (Some closure) key state items = fold_sent closure key state items

abbrev pub answers_of : List Closure → Answers
answers_of closures = record {
  emit = λ code. map_answer (closure_at Map closures code);
  group = λ code. group_answer (closure_at Group closures code);
  fold = λ code. fold_answer (closure_at Fold closures code);
}
