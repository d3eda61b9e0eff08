-- Bags of pointstamps: lists in which each stands as often as it occurs, and whose order has no meaning. A sorted list would need
-- an order of pointstamps and its laws. A finite map would hide the list on which frontier and passed are defined. `AreAlike` of
-- td_machine says the same of two lists, for any test.
use Rattle.std.specs.Prelude.{◌≡◌, ◌==◌, ◌&&◌, nat_eq, ℕ, Bool, false, List, [], count_by}
use Rattle.std.specs.Cmp.Lexicographic.{pointwise}
use Rattle.td_stamp.specs.Time.{Timestamp}
use Rattle.td_plan.specs.Lines.{Line}
use Rattle.td_reach.specs.declared.stamp.Place.{Place}
use Rattle.td_reach.specs.declared.stamp.Place.TheVariants as places
use Rattle.td_reach.specs.declared.stamp.Stamp.{Stamp}

-- whether two places are the same
abbrev pub is_place : Place → Place → Bool
is_place (places.Vertex v) (places.Vertex w) = v == w
is_place (places.Vertex v) (places.Edge f) = false
is_place (places.Edge e) (places.Vertex w) = false
is_place (places.Edge e) (places.Edge f) = e == f

-- whether two times are the same
abbrev pub is_time : Timestamp → Timestamp → Bool
is_time t u = t.epoch == u.epoch && pointwise nat_eq t.turns u.turns

-- whether two pointstamps are the same
abbrev pub is_stamp : Stamp → Stamp → Bool
is_stamp p q = is_time p.time q.time && is_place p.place q.place

-- OCCURRENCES: how often a pointstamp stands in a list (Naiad, section 2.3: its occurrence count)
abbrev pub occurrences : Stamp → List Stamp → ℕ
occurrences p active = count_by (is_stamp p) active

-- two lists are the same bag: each pointstamp occurs as often in the one as in the other
abbrev pub IsSameBag : List Stamp → List Stamp → Type 0
IsSameBag xs ys = (p : Stamp) → occurrences p xs ≡ occurrences p ys

-- the pointstamp of an input that may still be given records of this epoch (Naiad, section 2.3)
abbrev pub input_stamp : ℕ → ℕ → Stamp
input_stamp epoch vertex = record { time = record { epoch = epoch; turns = [] }; place = places.Vertex vertex }

-- What a table holds: a plan, and the bag of its active pointstamps
pub record Active : Type 0 where
  pub plan : List Line
  pub stamps : List Stamp
