-- Worked examples of the definitions, by computation.
use Rattle.std.specs.Prelude.{◌≡◌, ℕ, true, false, List, [], ◌∷◌, Some, ℤ, pos, negsuc}
use Rattle.std.proofs.Common.{refl}
use Rattle.td_stamp.specs.declared.values.Rec.{Rec}
use Rattle.td_stamp.specs.declared.values.Item.{Item}
use Rattle.td_stamp.specs.declared.values.State.{State}
use Rattle.td_stamp.specs.Orders.{rec_cmp}
use Rattle.td_stamp.specs.Bag.{bag_of, join, set_of}
use Rattle.td_stamp.specs.Groups.{arrival_of, groups}
use Rattle.td_stamp.specs.Time.{Timestamp, time_le, enter, leave, again}
use Rattle.td_stamp.specs.States.{StateList, state_of, with_state, without_state}

abbrev rec : ℕ → ℤ → Rec
rec key val = record { key = key; val = val }

-- a bag is sorted by key and then val, and repeats count
sorted : bag_of rec_cmp (rec 9 (pos 0) ∷ rec 7 (pos 1) ∷ rec 7 (negsuc 1) ∷ rec 7 (pos 1) ∷ []) ≡ rec 7 (negsuc 1) ∷ rec 7 (pos 1) ∷ rec 7 (pos 1) ∷ rec 9 (pos 0) ∷ []
sorted = refl

joined : join rec_cmp (rec 7 (pos 1) ∷ rec 9 (pos 0) ∷ []) (rec 7 (pos 1) ∷ rec 8 (pos 2) ∷ []) ≡ rec 7 (pos 1) ∷ rec 7 (pos 1) ∷ rec 8 (pos 2) ∷ rec 9 (pos 0) ∷ []
joined = refl

-- a set has each once
once : set_of rec_cmp (rec 7 (pos 1) ∷ rec 7 (pos 1) ∷ rec 6 (pos 3) ∷ []) ≡ rec 6 (pos 3) ∷ rec 7 (pos 1) ∷ []
once = refl

-- groups: the keys in order, each with its items by port and then val, however they arrived
item : ℕ → ℤ → Item
item port val = record { port = port; val = val }

grouped : groups (arrival_of 1 (rec 7 (pos 5)) ∷ arrival_of 0 (rec 8 (pos 1)) ∷ arrival_of 0 (rec 7 (pos 9)) ∷ arrival_of 1 (rec 7 (pos 4)) ∷ [])
    ≡ (7, item 0 (pos 9) ∷ item 1 (pos 4) ∷ item 1 (pos 5) ∷ []) ∷ (8, item 0 (pos 1) ∷ []) ∷ []
unfolding item
grouped = refl

-- times: the counters stand here with the innermost first, and are printed with the outermost first
abbrev at : ℕ → List ℕ → Timestamp
at epoch turns = record { epoch = epoch; turns = turns }

-- 1<5> and 2<3> are not ordered either way
not_before : time_le (at 1 (5 ∷ [])) (at 2 (3 ∷ [])) ≡ false
not_before = refl

not_after : time_le (at 2 (3 ∷ [])) (at 1 (5 ∷ [])) ≡ false
not_after = refl

-- 1<0,1> is at most 1<1,0>, and not the other way round
outermost_first : time_le (at 1 (1 ∷ 0 ∷ [])) (at 1 (0 ∷ 1 ∷ [])) ≡ true
outermost_first = refl

outermost_last : time_le (at 1 (0 ∷ 1 ∷ [])) (at 1 (1 ∷ 0 ∷ [])) ≡ false
outermost_last = refl

-- into a loop, twice round, into an inner one, and out of both
round_trip : leave (leave (enter (again (again (enter (at 4 [])))))) ≡ at 4 []
round_trip = refl

twice_round : enter (again (again (enter (at 4 [])))) ≡ at 4 (0 ∷ 2 ∷ [])
twice_round = refl

-- states by (vertex, key)
abbrev state : ℤ → State
state a = record { a = a; b = pos 0 }

abbrev kept : StateList
kept = with_state (with_state (with_state [] 4 7 (state (pos 1))) 2 9 (state (pos 2))) 4 7 (state (pos 3))

listed : kept ≡ ((2, 9), state (pos 2)) ∷ ((4, 7), state (pos 3)) ∷ []
listed = refl

found : state_of kept 4 7 ≡ Some (state (pos 3))
found = refl

gone : without_state kept 4 7 ≡ ((2, 9), state (pos 2)) ∷ []
gone = refl
