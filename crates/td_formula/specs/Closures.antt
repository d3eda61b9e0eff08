-- WHAT CLOSURES MEAN.
use Rattle.std.specs.Prelude.{ℕ, ◌-◌, if◌then◌else◌, ℤ, pos, List, [], ◌++◌, fold, flat_map, length, take, Option, Some, None, option_to_list}
use Rattle.std.specs.Int.{saturate_signed, saturate_unsigned, w64}
use Rattle.td_stamp.specs.declared.values.Rec.{Rec}
use Rattle.td_stamp.specs.declared.values.Item.{Item}
use Rattle.td_stamp.specs.declared.values.State.{State}
use Rattle.td_formula.specs.declared.expression.Name.{Name}
use Rattle.td_formula.specs.declared.expression.Name.TheVariants.{Key, Val, Port, A, B, BeforeA, BeforeB, Known, Items, Lost}
use Rattle.td_formula.specs.declared.closure.Assignment.{Assignment}
use Rattle.td_formula.specs.declared.closure.Pair.{Pair}
use Rattle.td_formula.specs.declared.closure.Closure.{Closure}
use Rattle.td_formula.specs.Names.{with_name, no_names}
use Rattle.td_formula.specs.Meaning.{step, holds, value}

-- a line gives its name another value, where its condition holds; both are computed where the names stand for what is `before`
abbrev pub assigned : (Name → ℤ) → (Name → ℤ) → Assignment → Name → ℤ
assigned before after line = if holds (value line.when before) then with_name after line.name (value line.value before) else after

-- the registers at the start: each line sees those before it
abbrev pub with_lets : List Assignment → (Name → ℤ) → Name → ℤ
with_lets lines start = fold (λ at line. assigned at at line) start lines

-- the changes at an item: each line sees what was before the item
abbrev pub with_changes : List Assignment → (Name → ℤ) → Name → ℤ
with_changes lines before = fold (λ after line. assigned before after line) before lines

-- at a port and a value
abbrev pub with_item : ℕ → ℤ → (Name → ℤ) → Name → ℤ
with_item port val at = with_name (with_name at Val val) Port (pos port)

-- the record of a line, where its condition holds; what does not fit a field is brought to the field's end
abbrev pub record_of : (Name → ℤ) → Pair → Option Rec
record_of at line =
    if holds (value line.when at)
    then Some (record { key = saturate_unsigned w64 (value line.first at); val = saturate_signed w64 (value line.second at) })
    else None

abbrev pub records_of : List Pair → (Name → ℤ) → List Rec
records_of lines at = flat_map (λ line. option_to_list (record_of at line)) lines

-- the state of a line, where its condition holds
abbrev pub state_of : Pair → (Name → ℤ) → Option State
state_of line at =
    if holds (value line.when at)
    then Some (record { a = saturate_signed w64 (value line.first at); b = saturate_signed w64 (value line.second at) })
    else None

-- what the names stand for after an item, and what `each` has sent by then
abbrev pub after_item : Closure → (Name → ℤ) × List Rec → Item → (Name → ℤ) × List Rec
after_item closure done item =
    let at = with_changes closure.changes.items (with_item item.port item.val done.0) in
    (at, done.1 ++ records_of closure.each.items at)

abbrev pub after_items : Closure → (Name → ℤ) → List Item → (Name → ℤ) × List Rec
after_items closure start items = fold (after_item closure) (with_lets closure.lets.items start, []) items

-- the lines `send`, and how many records of `each` go out beside theirs: eight in all
abbrev pub sends : Closure → List Pair
sends closure = take 8 closure.sends.items

abbrev pub room : Closure → ℕ
room closure = 8 - length (sends closure)

-- at the end: `lost` says how many records of `each` do not go out
abbrev pub at_end : Closure → (Name → ℤ) × List Rec → Name → ℤ
at_end closure done = with_name done.0 Lost (step (pos (length done.1 - room closure)))

-- WHAT A CLOSURE KEEPS AND SENDS, where the names stand for this at first
abbrev pub answer : Closure → (Name → ℤ) → List Item → Option State × List Rec
answer closure start items =
    let done = after_items closure start items in
    let end = at_end closure done in
    (state_of closure.keep end, take (room closure) done.1 ++ records_of (sends closure) end)

-- what the names stand for at first: of a key without a state, `a`, `b` and what they were before are 0
abbrev pub with_state : Option State → (Name → ℤ) → Name → ℤ
with_state None at = at
with_state (Some s) at = with_name (with_name (with_name (with_name (with_name at A s.a) B s.b) BeforeA s.a) BeforeB s.b) Known (pos 1)

abbrev pub at_first : ℕ → Option State → ℕ → Name → ℤ
at_first key state items = with_state state (with_name (with_name no_names Key (pos key)) Items (pos items))

-- what a map sends of a record that arrives at a port, and what a group and a fold do with a key and its sorted items
abbrev pub map_sent : Closure → ℕ → Rec → List Rec
map_sent closure port rec = (answer closure (with_item port rec.val (at_first rec.key None 0)) []).1

abbrev pub group_sent : Closure → ℕ → List Item → List Rec
group_sent closure key items = (answer closure (at_first key None (length items)) items).1

abbrev pub fold_sent : Closure → ℕ → Option State → List Item → Option State × List Rec
fold_sent closure key state items = answer closure (at_first key state (length items)) items
