-- What answers a question: entries of the states.
use Rattle.std.specs.Prelude.{ℕ, ◌+◌, ◌-◌, ◌*◌, ◌/◌, ◌==◌, ◌&&◌, min, nat_le, List, length, filter, take, drop, Option, Some, None, option_map}
use Rattle.std.specs.Option.{option_to_list}
use Rattle.std.specs.declared.cmp.Ordering.{Ordering}
use Rattle.std.specs.Ordering.{ordering_then, int_cmp}
use Rattle.td_stamp.specs.declared.values.State.{State}
use Rattle.td_stamp.specs.Bag.{set_of}
use Rattle.td_stamp.specs.Orders.{state_key_cmp}
use Rattle.td_stamp.specs.States.{StateList, state_of}
use Rattle.td_questions.specs.declared.question.Wanted.{Wanted}
use Rattle.td_questions.specs.declared.question.Wanted.TheVariants.{Get, Range, Top, Least, Rank}

-- a state at its vertex and key
abbrev pub Entry : Type 0
Entry = (ℕ × ℕ) × State

-- the states of one vertex, in the order of keys
abbrev pub kept_by : ℕ → StateList → StateList
kept_by vertex states = filter (λ e. e.0.0 == vertex) states

-- those from a key on
abbrev pub kept_from : ℕ → ℕ → StateList → StateList
kept_from vertex from states = filter (λ e. e.0.0 == vertex && nat_le from e.0.1) states

-- from the least a on, and of one a from the least key on. A key stands once, so b decides nothing
abbrev pub least_cmp : Entry → Entry → Ordering
least_cmp x y = ordering_then (int_cmp x.1.a y.1.a) (ordering_then (state_key_cmp x.0 y.0) (int_cmp x.1.b y.1.b))

-- from the greatest a on, and of one a from the least key on
abbrev pub greatest_cmp : Entry → Entry → Ordering
greatest_cmp x y = ordering_then (int_cmp y.1.a x.1.a) (ordering_then (state_key_cmp x.0 y.0) (int_cmp x.1.b y.1.b))

-- the first so many, or all
abbrev pub at_most : {X : Type 0} → Option ℕ → List X → List X
at_most None xs = xs
at_most (Some count) xs = take count xs

-- the place of a percentile among so many, from 0 on: the least up to which so many of 100 stand (the nearest rank)
abbrev pub place_of : ℕ → ℕ → ℕ
place_of percent count = (min percent 100 * count + 99) / 100 - 1

-- the one at a place, alone
abbrev pub alone_at : {X : Type 0} → ℕ → List X → List X
alone_at place xs = take 1 (drop place xs)

-- the one at a percentile
abbrev pub at_percentile : {X : Type 0} → ℕ → List X → List X
at_percentile percent xs = alone_at (place_of percent (length xs)) xs

-- WHAT ANSWERS: the state of a key; the states from a key on; those with the greatest and the least a; and the one at a percentile
abbrev pub answer_to : ℕ → Wanted → StateList → StateList
answer_to vertex (Get key) states = option_to_list (option_map (λ s. ((vertex, key), s)) (state_of states vertex key))
answer_to vertex (Range from count) states = at_most count (kept_from vertex from states)
answer_to vertex (Top count) states = take count (set_of greatest_cmp (kept_by vertex states))
answer_to vertex (Least count) states = take count (set_of least_cmp (kept_by vertex states))
answer_to vertex (Rank percent) states = at_percentile percent (set_of least_cmp (kept_by vertex states))
