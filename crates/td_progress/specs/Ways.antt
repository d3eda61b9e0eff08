-- The places of a plan by number, and of each of them those that lead to it, and those to which it leads.
use Rattle.std.specs.Prelude.{◌≡◌, ℕ, ◌+◌, ◌-◌, nat_lt, min, Bool, cond, List, [], length, map, filter}
use Rattle.std.specs.List.{range_with_len}
use Rattle.td_plan.specs.Lines.{Line}
use Rattle.td_plan.specs.Blocks.{vertices, edges}
use Rattle.td_reach.specs.declared.stamp.Place.{Place}
use Rattle.td_reach.specs.declared.stamp.Place.TheVariants as places
use Rattle.td_reach.specs.declared.stamp.Stamp.{Stamp}
use Rattle.td_reach.specs.Tables.{leads_test}
use Rattle.td_progress.specs.declared.ways.Side.{Side}
use Rattle.td_progress.specs.declared.ways.Side.TheVariants as sides

-- how many places have a number: the vertices, and the edges that a place can name
abbrev pub places_of : List Line → ℕ
places_of plan = length (vertices plan) + min (length (edges plan)) 256

-- the place of a number: the vertices come first, and then the edges
abbrev pub place_at : List Line → ℕ → Place
place_at plan i = cond (nat_lt i (length (vertices plan))) (places.Vertex i) (places.Edge (i - length (vertices plan)))

-- the number of a place
abbrev pub number_of : List Line → Place → ℕ
number_of plan (places.Vertex v) = v
number_of plan (places.Edge e) = length (vertices plan) + e

-- the pointstamp of epoch 0, in no loop, at the place of a number
abbrev pub outside : List Line → ℕ → Stamp
outside plan i = record { time = record { epoch = 0; turns = [] }; place = place_at plan i }

-- whether a path leads from the place of one number to that of another
abbrev pub is_way : List Line → ℕ → ℕ → Bool
is_way plan i j = leads_test plan (place_at plan i) (place_at plan j)

-- whether another place lies on this side of one: it leads there, or can be reached from there
abbrev pub is_on : List Line → Side → ℕ → ℕ → Bool
is_on plan sides.Before at other = is_way plan other at
is_on plan sides.After at other = is_way plan at other

-- THE PLACES on one side of a place, by number
abbrev pub row : List Line → Side → ℕ → List ℕ
row plan side at = filter (is_on plan side at) (range_with_len 0 (places_of plan))

-- those of all places
abbrev pub rows : List Line → Side → List (List ℕ)
rows plan side = map (row plan side) (range_with_len 0 (places_of plan))

-- what is kept of a plan
pub record AreWays (plan : List Line) (leading led : List (List ℕ)) : Type 0 where
  pub before : leading ≡ rows plan sides.Before
  pub after : led ≡ rows plan sides.After
