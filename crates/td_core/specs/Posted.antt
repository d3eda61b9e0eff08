-- What is posted to the mailboxes of a hall's shards, and room for it.
use Rattle.std.specs.Prelude.{◌≡◌, ℕ, ◌==◌, ◌*◌, ◌≤◌, cond, List, [], ◌∷◌, ◌++◌, map, filter, flat_map, replicate, length}
use Rattle.std.specs.List.{AllByRecursion, enumerate_from}
use Rattle.td_stamp.specs.declared.values.Rec.{Rec}
use Rattle.td_stamp.specs.Time.{Timestamp}
use Rattle.td_reach.specs.declared.stamp.Place.TheVariants as places
use Rattle.td_reach.specs.declared.stamp.Stamp.{Stamp}
use Rattle.td_machine.specs.declared.records.Message.{Message}
use Rattle.td_machine.specs.State.{shard_of_key}
use Rattle.td_shard.specs.Asked.{AskedList}
use Rattle.td_shard.specs.declared.shard.Shard.{Shard}
use Rattle.td_shard.specs.declared.outlet.Outlet.{Outlet}
use Rattle.td_core.specs.declared.post.Change.{Change}

-- the messages of a shard
abbrev pub of_shard : ℕ → ℕ → List Message → List Message
of_shard workers s cs = filter (λ c. shard_of_key workers c.rec.key == s) cs

-- the mailboxes of the shards, and what waits in them
abbrev pub mails : List Shard → List (List Message)
mails shards = map (λ s. s.mailbox.messages) shards

abbrev pub waits : List Shard → List AskedList
waits shards = map (λ s. s.waiting) shards

-- the mailboxes when messages were posted: each has those of its shard after those that it had, in the order posted
abbrev pub mails_with : List Message → List Shard → List (List Message)
mails_with cs shards = map (λ p. p.1.mailbox.messages ++ of_shard (length shards) p.0 cs) (enumerate_from 0 shards)

-- MESSAGES WERE POSTED, and nothing else was changed but for room
pub record IsPosted (cs : List Message) (old new : List Shard) : Type 0 where
  pub mails : mails new ≡ mails_with cs old
  pub waiting : waits new ≡ waits old

-- each mailbox has as much room as it had
abbrev pub HasNoLess : List Shard → List Shard → Type 0
HasNoLess [] [] = Unit {0}
HasNoLess [] (t ∷ ts) = ⊥
HasNoLess (s ∷ ss) [] = ⊥
HasNoLess (s ∷ ss) (t ∷ ts) = (s.mailbox.room ≤ t.mailbox.room) × (s.mailbox.runs ≤ t.mailbox.runs) × HasNoLess ss ts

-- NOTHING BUT MORE ROOM
pub record IsRoomier (old new : List Shard) : Type 0 where
  pub mails : mails new ≡ mails old
  pub waiting : waits new ≡ waits old
  pub room : HasNoLess old new

-- how many of some records are of a shard
abbrev pub count_of : ℕ → List Rec → ℕ → ℕ
count_of workers recs s = length (filter (λ r. shard_of_key workers r.key == s) recs)

-- how many runs records on each of so many edges make in a shard at most: one on each edge where there is one shard, else one for each
-- message
abbrev pub runs_of : ℕ → List Rec → ℕ → ℕ → ℕ
runs_of workers recs edges s = cond (workers == 1) edges (count_of workers recs s * edges)

-- a mailbox has room for so many messages, in so many runs
abbrev pub HasRoom : ℕ → ℕ → Shard → Type 0
HasRoom runs many s = (many ≤ s.mailbox.room) × (runs ≤ s.mailbox.runs)

-- in each shard for so many
abbrev pub HaveRoomFor : (ℕ → ℕ) → (ℕ → ℕ) → List Shard → Type 0
HaveRoomFor runs many shards = AllByRecursion (λ p. HasRoom (runs p.0) (many p.0) p.1) (enumerate_from 0 shards)

-- ROOM FOR RECORDS on each of so many edges, in the shards to which they belong
abbrev pub HaveRoom : List Rec → ℕ → List Shard → Type 0
HaveRoom recs edges shards = HaveRoomFor (runs_of (length shards) recs edges) (λ s. count_of (length shards) recs s * edges) shards

-- the same, with a run for each message
abbrev pub HaveRoomApart : List Rec → ℕ → List Shard → Type 0
HaveRoomApart recs edges shards = HaveRoomFor (λ s. count_of (length shards) recs s * edges) (λ s. count_of (length shards) recs s * edges) shards

-- so many in one shard alone
abbrev pub only_in : ℕ → ℕ → ℕ → ℕ
only_in shard many s = cond (s == shard) many 0

-- the pointstamp of messages that go out
abbrev pub stamp_on_outlet : Timestamp → Outlet → Stamp
stamp_on_outlet t o = record { time = t; place = places.Edge o.number }

-- so many for each of some outlets
abbrev pub stamps_on : List Outlet → Timestamp → ℕ → List Stamp
stamps_on outlets t many = flat_map (λ o. replicate many (stamp_on_outlet t o)) outlets

-- the pointstamps of changes, each as often as it changes
abbrev pub occurring : List Change → List Stamp
occurring changes = flat_map (λ r. replicate r.times r.stamp) changes
