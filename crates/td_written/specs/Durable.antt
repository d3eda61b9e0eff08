-- What a feed and a stream of a disk promise, by closures of a store.
use Rattle.std.specs.Prelude.{◌≡◌, ℕ, Bool, false, List, Option, None, IfSome, OnOk, Result, Err}
use Rattle.td_plan.specs.Lines.{Line as PlanLine}
use Rattle.td_plan.specs.Blocks.{vertices}
use Rattle.td_calls.specs.declared.error.CallsError.{CallsError}
use Rattle.td_calls.specs.Fits.{first_lack}
use Rattle.td_watch.specs.View.{View}
use Rattle.td_disk.specs.Disk.{DiskView, DiskState}
use Rattle.td_console.specs.declared.faults.Fault.{Fault}
use Rattle.td_calls.specs.Stored.{Stored}
use Rattle.td_console.specs.Answer.{lack_fault}
use Rattle.td_orders.specs.Orders.{orders_of, submitted_by}
use Rattle.td_feed.specs.Said.{epochs_alone}
use Rattle.td_feed.specs.declared.session.StreamOptions.{StreamOptions}
use Rattle.td_feed.specs.Copied.{Copied}
use Rattle.td_feed.specs.Caused.{RefusesFor, IsRefusedFor}
use Rattle.td_feed.specs.Session.{KeepsDisk, FeedsDisk, StreamsCopying, TellsAround}

-- the first vertex of a plan whose closure a store lacks
abbrev pub lack_in : Stored → List PlanLine → Option CallsError
lack_in stored plan = first_lack stored.codes (vertices plan)

module _ (stored : Stored) {D S T : Type 0} (view : D → DiskView)
    (remaining : S → Option (List ℕ)) (contents : T → Option (List ℕ)) (has : T → ℕ → Type 0) (marks : Bool) (plan : List PlanLine) where
  -- A FEED, of a disk before and after, of a reader and a writer before and after, and of its answer
  pub record FeedsBy (disk left : D) (reader read : S) (writer written : T) (result : Result (Unit {0}) Fault) : Type 0 where
    pub disk_is_kept : KeepsDisk view result disk left
    -- a closure that the store lacks comes first: nothing is read or written
    pub lack : IfSome (lack_in stored plan) (λ lack. (result ≡ Err (lack_fault lack)) × (left ≡ disk) × (read ≡ reader) × (written ≡ writer))
    pub fits : OnOk result (lack_in stored plan ≡ None)
    -- a fault is the input's first, with nothing written to the writer; a writer with room does not fail; and what the input asks for is fed
    pub fault : IfSome (remaining reader) (λ input. RefusesFor has plan input result writer written)
    pub fed : lack_in stored plan ≡ None
        → IfSome (remaining reader) (λ input. FeedsDisk view stored.answers marks result plan false disk left
        (contents writer) (contents written) (epochs_alone (submitted_by (orders_of plan input))))

module _ (stored : Stored) {D S T E H : Type 0} (view : D → DiskView)
    (remaining : S → Option (List ℕ)) (contents : T → Option (List ℕ)) (has : T → ℕ → Type 0) (marks : Bool)
    (new_view : E → DiskView) (copies_of : H → Option (List (Copied E))) (seen_of : H → Option ℕ) (plan : List PlanLine) where
  -- A STREAM, by its options and by one worker or several, of a disk before and after, of its reader, of a writer, a host and a watch before and after, and of
  -- its answer
  pub record StreamsBy (how : StreamOptions) (alone : Bool) (disk left : D) (reader : S) (writer written : T) (host told : H) (given back : Option View) (result : Result (Unit {0}) Fault) : Type 0 where
    pub disk_is_kept : KeepsDisk view result disk left
    -- a closure that the store lacks comes first: nothing is written
    pub lack : IfSome (lack_in stored plan) (λ lack. (result ≡ Err (lack_fault lack)) × (left ≡ disk) × (written ≡ writer) × (told ≡ host) × (back ≡ given))
    pub fits : OnOk result (lack_in stored plan ≡ None)
    -- a line's fault is the input's, and a writer with room does not fail
    pub fault : IfSome (remaining reader) (λ input. IsRefusedFor view stored.answers has how result plan disk input)
    -- what the input asks for is fed, by one worker until all outputs went out
    pub fed : lack_in stored plan ≡ None
        → IfSome (remaining reader) (λ input. StreamsCopying view stored.answers marks new_view how result plan alone disk left
        (contents writer) (contents written) (copies_of host) (copies_of told) input)
    -- and the host is told what was seen, and a watch that is given how far the disk has come
    pub told_around : lack_in stored plan ≡ None
        → IfSome (remaining reader) (λ input. TellsAround view how result plan disk left (seen_of host) (seen_of told) given back input)
