-- What comes of what is asked for, by a keeper, a writer and a host.
use Rattle.std.specs.Prelude.{◌≡◌, ℕ, Bool, true, List, Option, None, IfSome, Result, OnOk, IfErr}
use Rattle.td_calls.specs.Answers.{Answers}
use Rattle.td_disk.specs.Disk.{DiskView}
use Rattle.td_store.specs.standing.Standing.{last_epoch, last_request}
use Rattle.td_keeper.specs.Keeping.{Keeping}
use Rattle.td_console.specs.declared.faults.Fault.{Fault}
use Rattle.td_orders.specs.Scripts.{Script}
use Rattle.td_feed.specs.declared.under_way.Pace.{Pace}
use Rattle.td_feed.specs.Caused.{IsOfStream}
use Rattle.td_feed.specs.Copied.{Copied}
use Rattle.td_feed.specs.Held.{KeepsTo, TellsSeen, seen_at, then_seen}
use Rattle.td_feed.specs.Said.{IsAllOut}
use Rattle.td_feed.specs.Session.{KeepsDisk, FeedsScript}
use Rattle.td_feed.specs.Stepping.{KeepsPace}

-- a script at the disk of a keeper
abbrev pub script_at : {D S : Type 0} → (ℕ → ℕ → S → Option Script) → Keeping D → S → Option Script
script_at script k orders = script (last_epoch k.standing) (last_request k.standing) orders

module _ {D W H E : Type 0} (view : D → DiskView) (answers : Answers) (marks : Bool) (contents : W → Option (List ℕ)) (has : W → ℕ → Type 0)
    (new_view : E → DiskView) (copies : H → Option (List (Copied E))) (seen_by : H → Option ℕ) where
  -- WHAT A SCRIPT ASKS FOR IS DONE at a pace, where it is known: by a keeper, alone or beside workers, a writer and a host, before and after
  pub record Serves (alone : Bool) (pace : Pace) (overlong : Bool) (script : Option Script) (result : Result (Unit {0}) Fault) (old new : Keeping D) (writer written : W) (host told : H) : Type 0 where
    pub disk : KeepsDisk view result old.device new.device
    pub fed : IfSome script (λ s. FeedsScript view answers marks new_view result (contents writer) (contents written) (copies host) (copies told) old new s)
    -- where outputs are held, nothing is kept beyond what the script says was seen, and the host is told of that
    pub held : IfSome script (λ s. KeepsTo (then_seen (seen_at pace old.standing.epoch) s.orders) old new)
    pub seen : IfSome script (λ s. TellsSeen result (seen_at pace old.standing.epoch) s.orders (seen_by host) (seen_by told))
    -- a line's fault is the script's, and a writer with room does not fail
    pub fault : IfSome script (λ s. IfErr result (IsOfStream overlong s has))
    -- by a keeper alone until all outputs went out, and, where none are held, no cut is due
    pub all_out : alone ≡ true → OnOk result (IsAllOut new)
    pub in_time : alone ≡ true → seen_at pace old.standing.epoch ≡ None → OnOk result (KeepsPace pace None new)
