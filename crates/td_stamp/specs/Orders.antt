-- The orders of the plain values: field by field, the first field first.
use Rattle.std.specs.Prelude.{ℕ}
use Rattle.std.specs.declared.cmp.Ordering.{Ordering}
use Rattle.std.specs.Ordering.{ordering_then, nat_cmp, int_cmp}
use Rattle.td_stamp.specs.declared.values.Rec.{Rec}
use Rattle.td_stamp.specs.declared.values.Item.{Item}
use Rattle.td_stamp.specs.declared.values.Arrival.{Arrival}
use Rattle.td_stamp.specs.declared.values.Entry.{Entry}
use Rattle.td_stamp.specs.declared.values.Output.{Output}

-- records: by key, then val
abbrev pub rec_cmp : Rec → Rec → Ordering
rec_cmp x y = ordering_then (nat_cmp x.key y.key) (int_cmp x.val y.val)

-- items: by port, then val
abbrev pub item_cmp : Item → Item → Ordering
item_cmp x y = ordering_then (nat_cmp x.port y.port) (int_cmp x.val y.val)

-- arrivals: by key, then port, then val
abbrev pub arrival_cmp : Arrival → Arrival → Ordering
arrival_cmp x y = ordering_then (nat_cmp x.key y.key) (item_cmp x.item y.item)

-- entries of a batch: by input, then key, then val
abbrev pub entry_cmp : Entry → Entry → Ordering
entry_cmp x y = ordering_then (nat_cmp x.input y.input) (rec_cmp x.rec y.rec)

-- outputs of an epoch: by vertex, then key, then val
abbrev pub output_cmp : Output → Output → Ordering
output_cmp x y = ordering_then (nat_cmp x.vertex y.vertex) (rec_cmp x.rec y.rec)

-- where a state is kept: by vertex, then key
abbrev pub state_key_cmp : ℕ × ℕ → ℕ × ℕ → Ordering
state_key_cmp x y = ordering_then (nat_cmp x.0 y.0) (nat_cmp x.1 y.1)
