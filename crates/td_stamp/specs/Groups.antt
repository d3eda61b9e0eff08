-- What a vertex that groups by key is given of the records that arrive at it.
use Rattle.std.specs.Prelude.{ℕ, List, [], ◌∷◌, map, filter, ◌==◌, cond}
use Rattle.std.specs.Ordering.{nat_cmp}
use Rattle.td_stamp.specs.declared.values.Item.{Item}
use Rattle.td_stamp.specs.declared.values.Rec.{Rec}
use Rattle.td_stamp.specs.declared.values.Arrival.{Arrival}
use Rattle.td_stamp.specs.Orders.{item_cmp}
use Rattle.td_stamp.specs.Bag.{bag_of, set_of}

-- a record that arrives at a port
abbrev pub arrival_of : ℕ → Rec → Arrival
arrival_of port r = record { key = r.key; item = record { port = port; val = r.val } }

-- the record that arrived
abbrev pub rec_of : Arrival → Rec
rec_of a = record { key = a.key; val = a.item.val }

-- the items of a key, sorted
abbrev pub items_of : ℕ → List Arrival → List Item
items_of key arrivals = bag_of item_cmp (map (λ a. a.item) (filter (λ a. a.key == key) arrivals))

-- each key that arrived, in order, with its sorted items
abbrev pub groups : List Arrival → List (ℕ × List Item)
groups arrivals = map (λ key. (key, items_of key arrivals)) (set_of nat_cmp (map (λ a. a.key) arrivals))

-- groups with an arrival that comes before all others: it goes into the first, where this has its key
abbrev pub with_first : Arrival → List (ℕ × List Item) → List (ℕ × List Item)
with_first a [] = (a.key, a.item ∷ []) ∷ []
with_first a (g ∷ gs) = cond (a.key == g.0) ((g.0, a.item ∷ g.1) ∷ gs) ((a.key, a.item ∷ []) ∷ g ∷ gs)

-- the runs of one key
abbrev pub runs : List Arrival → List (ℕ × List Item)
runs [] = []
runs (a ∷ rest) = with_first a (runs rest)
