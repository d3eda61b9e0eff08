-- How a mailbox keeps its messages: in runs, in the order posted. A run is what was posted together on one lane (an edge and a time): its
-- records that wait, in the order posted, and how far ahead the next run of its lane stands. A run whose records were taken ahead of
-- others stays, with none, until it is the first. Records are numbered in the order posted, and a record that is posted to several edges
-- at once has one number in the runs of all.
use Rattle.std.specs.Prelude.{◌≡◌, ℕ, zero, suc, ◌+◌, ◌-◌, ◌<◌, ◌≤◌, ◌==◌, ◌⊎◌, Bool, ◌&&◌, cond, List, [], ◌∷◌, ◌++◌, map, flat_map, filter, length, take, drop, Option, Some, None}
use Rattle.std.specs.Option.{option_map}
use Rattle.std.specs.List.{AllByRecursion, remove}
use Rattle.td_stamp.specs.declared.values.Rec.{Rec}
use Rattle.td_stamp.specs.Time.{Timestamp}
use Rattle.td_shard.specs.declared.runs.Lane.{Lane}
use Rattle.td_shard.specs.declared.outlet.Outlet.{Outlet}
use Rattle.td_shard.specs.declared.runs.Numbered.{Numbered}
use Rattle.td_shard.specs.declared.runs.Run.{Run}
use Rattle.td_machine.specs.declared.records.Message.{Message}
use Rattle.td_shard.specs.Messages.{equal_times, same_edge}
use Rattle.td_shard.specs.Order.{at_number, few, in_order, AreAscending}

-- a run: its lane, the number of the first record posted with it, how far ahead the next of its lane stands, 0 where there is none, and its
-- records that wait
pub record Part : Type 0 where
  pub lane : Lane
  pub base : ℕ
  pub ahead : ℕ
  pub recs : List Numbered

-- the runs of a mailbox, with the number of the first, and how many more runs and records may be posted without memory
pub record Parts : Type 0 where
  pub first : ℕ
  pub parts : List Part
  pub runs : ℕ
  pub room : ℕ

-- KEPT IN ONE LIST OF RECORDS
-- the places of records in the list are numbered, and the first that is kept has the number start
abbrev pub part : ℕ → List Numbered → Run → Part
part start recs r = record { lane = r.lane; base = r.base; ahead = r.ahead; recs = take (r.end - r.at) (drop (r.at - start) recs) }

-- the records of the runs lie one run's behind the other's, from a number on and up to another
abbrev pub InOrder : ℕ → List Run → ℕ → Type 0
InOrder from [] to = from ≤ to
InOrder from (r ∷ rs) to = (from ≤ r.at) × (r.at ≤ r.end) × InOrder r.end rs to

-- how many records, of so many that are kept from a number on, stand before the first that waits in the first run: all, where there is no run
abbrev pub taken_of : ℕ → ℕ → List Run → ℕ
taken_of start len [] = len
taken_of start len (r ∷ rs) = r.at - start

-- the number of the first that waits in the first run: 0, where there is no run
abbrev pub begin_of : List Run → ℕ
begin_of [] = 0
begin_of (r ∷ rs) = r.at

-- NONE IS KEPT THAT WAS TAKEN before it: the first record that is kept waits in the first run. Where there is no run, none is kept, and
-- the numbers begin anew
abbrev pub BeginsAt : ℕ → ℕ → List Run → Type 0
BeginsAt start len [] = (start ≡ 0) × (len ≡ 0)
BeginsAt start len (r ∷ rs) = start ≡ r.at

-- NUMBERS
-- the record alone
abbrev pub rec_of : Numbered → Rec
rec_of r = r.rec

-- records that are numbered from a number on
abbrev pub numbered : ℕ → List Rec → List Numbered
numbered n [] = []
numbered n (r ∷ rs) = record { number = n; rec = r } ∷ numbered (n + 1) rs

-- WHAT WAITS
abbrev pub message : Lane → Rec → Message
message k r = record { vertex = k.vertex; port = k.port; time = k.time; rec = r }

-- a message with the number of its record
abbrev pub on_lane : Lane → Numbered → ℕ × Message
on_lane k r = (r.number, message k r.rec)

-- the messages of a run, and of all, run by run
abbrev pub its : Part → List (ℕ × Message)
its p = map (on_lane p.lane) p.recs

abbrev pub all_of : List Part → List (ℕ × Message)
all_of [] = []
all_of (p ∷ ps) = its p ++ all_of ps

-- THE MESSAGES that wait: by the numbers of their records, and those of one record run by run
abbrev pub messages_of : List Part → List Message
messages_of ps = in_order (all_of ps)

-- a run is of lower numbers than one: its base, and what waits in it
abbrev pub IsOlder : ℕ → Part → Type 0
IsOlder n p = (p.base < n) × AllByRecursion (λ r. r.number < n) p.recs

abbrev pub AreOlder : ℕ → List Part → Type 0
AreOlder n ps = AllByRecursion (IsOlder n) ps

-- or it was posted together with the record of that number
abbrev pub IsUpTo : ℕ → Part → Type 0
IsUpTo n p = (p.base ≡ n) ⊎ IsOlder n p

abbrev pub AreUpTo : ℕ → List Part → Type 0
AreUpTo n ps = AllByRecursion (IsUpTo n) ps

-- RUNS THAT WERE POSTED TOGETHER have one base, and stand next to each other: a run has no number below its base, and those before it have
-- lower ones, or its base
abbrev pub AreGrouped : List Part → Type 0
AreGrouped [] = Unit {0}
AreGrouped (p ∷ ps) = AllByRecursion (λ r. p.base ≤ r.number) p.recs × AllByRecursion (λ q. IsUpTo q.base p) ps × AreGrouped ps

-- what is true of the numbers of records, where the next has this one: on one lane they ascend from run to run
pub record AreNumbered (next : ℕ) (ps : List Part) : Type 0 where
  pub older : AreOlder next ps
  pub ascending : (c : Message) → AreAscending (filter (λ x. same_edge c x.1) (all_of ps))
  pub grouped : AreGrouped ps

-- on a run they ascend
abbrev pub AscendIn : Part → Type 0
AscendIn p = AreAscending (its p)

-- how many messages stand before that of a number in the run at a place
abbrev pub rank : List Part → ℕ → ℕ → ℕ
rank ps place n = few n (all_of ps) + length (at_number n (all_of (take place ps)))

-- the lane to an outlet
abbrev pub lane_to : Timestamp → Outlet → Lane
lane_to t o = record { vertex = o.reader; port = o.port; time = t }

-- what is posted to some outlets at once, outlet by outlet
abbrev pub to_each : Timestamp → ℕ → List Rec → List Outlet → List (ℕ × Message)
to_each t n recs outlets = flat_map (λ o. map (on_lane (lane_to t o)) (numbered n recs)) outlets

-- the first run waits
abbrev pub FrontWaits : List Part → Type 0
FrontWaits [] = Unit {0}
FrontWaits (p ∷ ps) = 0 < length p.recs

-- CHANGES OF A RUN
-- the runs with that at a place changed
abbrev pub changed_at : (Part → Part) → ℕ → List Part → List Part
changed_at f i [] = []
changed_at f zero (p ∷ ps) = f p ∷ ps
changed_at f (suc i) (p ∷ ps) = p ∷ changed_at f i ps

-- a run with another next one of its lane
abbrev pub linked_to : ℕ → Part → Part
linked_to n p = record p { ahead = n }

-- a run whose first n records are taken
abbrev pub without_front : ℕ → Part → Part
without_front n p = record p { recs = drop n p.recs }

-- a run without one of its records
abbrev pub without_at : ℕ → Part → Part
without_at i p = record p { recs = remove p.recs i }

-- a run with one of its records before the others
abbrev pub with_first : ℕ → Part → Part
with_first i p = record p { recs = take 1 (drop i p.recs) ++ remove p.recs i }

-- a run with more records behind its others
abbrev pub with_more : List Numbered → Part → Part
with_more more p = record p { recs = p.recs ++ more }

-- with one more at the end, and with more records behind those of the last
abbrev pub pushed : Lane → ℕ → List Rec → Parts → Parts
pushed k n new ps = record { first = ps.first; parts = ps.parts ++ record { lane = k; base = n; ahead = 0; recs = numbered n new } ∷ []; runs = ps.runs - 1; room = ps.room - length new }

abbrev pub extended : ℕ → List Rec → Parts → Parts
extended n new ps = record { first = ps.first; parts = changed_at (with_more (numbered n new)) (length ps.parts - 1) ps.parts; runs = ps.runs - 1; room = ps.room - length new }

-- RUNS WERE PUT AT THE END with so many records, numbered from a number on: their messages come after the others
pub record AreAppended (n many : ℕ) (more : List (ℕ × Message)) (old new : Parts) : Type 0 where
  pub all : all_of new.parts ≡ all_of old.parts ++ more
  pub first : new.first ≡ old.first
  pub front : FrontWaits old.parts → FrontWaits new.parts
  pub grouped : AreUpTo n old.parts → AreGrouped old.parts → AreGrouped new.parts
  pub older : AreOlder (n + many) old.parts → AreOlder (n + many) new.parts

-- LANES
-- whether two lanes are the same
abbrev pub lane_eq : Lane → Lane → Bool
lane_eq j k = (j.vertex == k.vertex) && ((j.port == k.port) && equal_times j.time k.time)

-- how far ahead a place in what follows is: 0 where there is none
abbrev pub ahead_of : Option ℕ → ℕ
ahead_of None = 0
ahead_of (Some i) = suc i

abbrev pub last_by : Bool → Option ℕ → Option ℕ
last_by here (Some i) = Some (suc i)
last_by here None = cond here (Some 0) None

module _ (same : Lane → Lane → Bool) where
  -- the place of the first run of a lane, and of the last
  abbrev pub first_on : Lane → List Part → Option ℕ
  first_on k [] = None
  first_on k (p ∷ ps) = cond (same k p.lane) (Some 0) (option_map suc (first_on k ps))

  abbrev pub last_on : Lane → List Part → Option ℕ
  last_on k [] = None
  last_on k (p ∷ ps) = last_by (same k p.lane) (last_on k ps)

  -- each run knows how far ahead the next of its lane is
  abbrev pub AreLinked : List Part → Type 0
  AreLinked [] = Unit {0}
  AreLinked (p ∷ ps) = (p.ahead ≡ ahead_of (first_on p.lane ps)) × AreLinked ps

  -- the runs with the first n records of a lane taken
  abbrev pub taken_on : Lane → ℕ → List Part → List Part
  taken_on k n [] = []
  taken_on k n (p ∷ ps) = cond (same k p.lane) (without_front n p ∷ taken_on k (n - length p.recs) ps) (p ∷ taken_on k n ps)

  -- the records of a lane
  abbrev pub lane_recs : Lane → List Part → List Numbered
  lane_recs k [] = []
  lane_recs k (p ∷ ps) = cond (same k p.lane) (p.recs ++ lane_recs k ps) (lane_recs k ps)
