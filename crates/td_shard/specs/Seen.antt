-- The records that distincts have seen: a sorted list, each of them once.
use Rattle.std.specs.Prelude.{ℕ, cond, List, [], ◌∷◌, flat_map}
use Rattle.std.specs.declared.cmp.Ordering.{Ordering}
use Rattle.std.specs.Ordering.{ordering_then, nat_cmp}
use Rattle.std.specs.BTreeSet.{BTreeSet}
use Rattle.td_stamp.specs.declared.values.Rec.{Rec}
use Rattle.td_stamp.specs.Orders.{rec_cmp}
use Rattle.td_stamp.specs.Time.{Timestamp, time_cmp}
use Rattle.td_stamp.specs.Bag.{bag_insert, has, join}
use Rattle.td_machine.specs.declared.records.Stamped.{Stamped}
use Rattle.td_machine.specs.State.{stamped_cmp}
use Rattle.td_machine.specs.Steps.{stamped}
use Rattle.td_machine.specs.AtOnce.{fresh}
use Rattle.td_shard.specs.declared.place.Place.{Place}

-- what is seen when these records came as well
abbrev pub with_fresh : List Stamped → ℕ → Timestamp → List Rec → List Stamped
with_fresh seen v t recs = join stamped_cmp (stamped v t (fresh seen v t recs)) seen

-- what is new within one set, in the order of records
abbrev pub fresh_recs : List Rec → List Rec → List Rec
fresh_recs seen [] = []
fresh_recs seen (r ∷ rs) = cond (has rec_cmp r seen) (fresh_recs seen rs) (r ∷ fresh_recs (bag_insert rec_cmp r seen) rs)

-- places stand by vertex, then by time
abbrev pub place_cmp : Place → Place → Ordering
place_cmp p q = ordering_then (nat_cmp p.vertex q.vertex) (time_cmp p.time q.time)

-- the records of one set, and of all
abbrev pub seen_at : Place × BTreeSet Rec → List Stamped
seen_at e = stamped e.0.vertex e.0.time e.1.keys

abbrev pub seen_of : List (Place × BTreeSet Rec) → List Stamped
seen_of sets = flat_map seen_at sets
