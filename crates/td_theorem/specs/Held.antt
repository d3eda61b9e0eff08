-- Streams that hold their outputs, one after another on one disk, each stopped somehow; and what the next one writes.
use Rattle.std.specs.Prelude.{◌≡◌, ℕ, ◌<◌, ◌≤◌, Bool, true, List, [], ◌∷◌, ◌++◌, All, Option, Result}
use Rattle.std.specs.Io.KnownBytes.{Appends}
use Rattle.td_plan.specs.Lines.{Line}
use Rattle.td_calls.specs.Answers.{Answers}
use Rattle.td_disk.specs.Disk.{DiskView, DiskState}
use Rattle.td_journal.specs.declared.payload.Submitted.{Submitted}
use Rattle.td_keeper.specs.Acknowledged.{outs_of}
use Rattle.td_console.specs.declared.faults.Fault.{Fault}
use Rattle.td_feed.specs.declared.session.StreamOptions.{StreamOptions}
use Rattle.td_feed.specs.Fed.{TellsHistory}
use Rattle.td_feed.specs.Held.{seen_after}
use Rattle.td_feed.specs.Said.{out_lines}
use Rattle.td_feed.specs.Session.{script_by, StreamsDisk}
use Rattle.td_theorem.specs.Life.{TellsAs}

-- A DELIVERY: a stream with marks that holds its outputs, by its options and how many records an epoch may have; it may work alone. It has the disk that it was given, and the one that
-- it left; what its writer held before and after; its input and its answer; and what a crash left of its disk at some moment
pub record Delivery (D : Type 0) : Type 0 where
  pub options : StreamOptions
  pub records : ℕ
  pub alone : Bool
  pub disk : D
  pub left : D
  pub before : Option (List ℕ)
  pub after : Option (List ℕ)
  pub input : List ℕ
  pub result : Result (Unit {0}) Fault
  pub image : List ℕ

-- the last epoch that was seen, by its input, and by those of several, one after another
abbrev pub seen_by : {D : Type 0} → List Line → ℕ → Delivery D → ℕ
seen_by plan last d = seen_after last (script_by d.options d.records plan d.input).orders

abbrev pub seen_in_all : {D : Type 0} → List Line → ℕ → List (Delivery D) → ℕ
seen_in_all plan last [] = last
seen_in_all plan last (d ∷ more) = seen_in_all plan (seen_by plan last d) more

-- AN IMAGE HOLDS BACK what comes after an epoch: it tells a history, and its checkpoint is of no later epoch
pub record HoldsBack (answers : Answers) (plan : List Line) (last : ℕ) (image : List ℕ) : Type 0 where
  pub history : List Submitted
  pub tells : TellsHistory answers plan history image
  pub low : tells.standing.epoch ≤ last

-- a part of a text
abbrev pub IsPart : List ℕ → List ℕ → Type 0
IsPart part text = (front : List ℕ) × (rest : List ℕ) × (text ≡ front ++ (part ++ rest))

-- WHAT COMES AFTER AN EPOCH IS WRITTEN AGAIN: of what the disk told when a stream began, the output lines of each later epoch, with its mark
pub record WritesAgain {D : Type 0} (answers : Answers) (plan : List Line) (last : ℕ) (image : List ℕ) (d : Delivery D) : Type 0 where
  pub history : List Submitted
  pub tells : TellsHistory answers plan history image
  pub text : List ℕ
  pub said : Appends d.before d.after text
  pub each : All (λ out. last < out.epoch → IsPart (out_lines true out) text) (outs_of answers plan history)

module _ {D : Type 0} (view : D → DiskView) (answers : Answers) (plan : List Line) where
  -- WHAT MAKES A DELIVERY: `stream` answers so on a lawful disk, and a crash leaves this image at any moment of it, in the middle of a write
  -- too, or after it
  pub record IsDelivery (d : Delivery D) : Type 0 where
    pub lawful : (view d.disk).lawful
    pub holds : d.options.hold ≡ true
    pub streams : StreamsDisk view answers true d.options d.result plan d.alone d.disk d.left d.before d.after d.input
    pub records : streams.records ≡ d.records
    pub crashed : (view d.left).state.since (view d.disk).state.moment d.image

  -- DELIVERIES from one image to another: each on a disk that tells what the last one left
  abbrev pub Deliveries : List ℕ → List (Delivery D) → List ℕ → Type 0
  Deliveries from [] to = to ≡ from
  Deliveries from (d ∷ more) to = TellsAs plan from (view d.disk).state × IsDelivery d × Deliveries d.image more to
