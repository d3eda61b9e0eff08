-- What a mailbox keeps true of what it holds.
use Rattle.std.specs.Prelude.{◌≡◌, ◌+◌, ◌^◌, ◌<◌, ◌≤◌, length}
use Rattle.std.specs.Option.{option_map}
use Rattle.std.specs.HashMap.{get, spare}
use Rattle.td_shard.specs.declared.runs.Lane.{Lane}
use Rattle.td_shard.specs.declared.mailbox.Mailbox.TheInside.{Inside}
use Rattle.td_shard.specs.Runs.{messages_of, FrontWaits, AreNumbered, AreLinked, last_on, lane_eq}

pub record IsMailbox (m : Inside) : Type 0 where
  pub linked : AreLinked lane_eq m.runs.parts
  -- the number of the last run of a lane: runs are numbered in the order posted
  pub lasts : (k : Lane) → get lane_eq m.lasts k ≡ option_map (λ i. m.runs.first + i) (last_on lane_eq k m.runs.parts)
  pub front : FrontWaits m.runs.parts
  pub len : m.len ≡ length (messages_of m.runs.parts)
  pub lasts_room : m.runs.runs ≤ spare m.lasts
  pub counted : length (messages_of m.runs.parts) + m.runs.room < 2 ^ 64
  pub numbers : AreNumbered m.next m.runs.parts
  pub next : m.next + m.runs.room < 2 ^ 64
