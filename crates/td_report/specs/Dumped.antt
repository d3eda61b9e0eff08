-- What `dump` writes: the epochs after a checkpoint, in lines that a feed takes.
use Rattle.std.specs.Prelude.{◌≡◌, ℕ, zero, suc, ◌<◌, ◌≤◌, ◌^◌, Bool, true, false, FitsSigned, List, [], ◌∷◌, ◌++◌, codes, flat_map, length, take, Option, None, Ok}
use Rattle.std.specs.Io.KnownBytes.{Appends}
use Rattle.std.specs.Fmt.{decimal, signed_decimal}
use Rattle.std.specs.Int.{w64}
use Rattle.td_stamp.specs.declared.values.Entry.{Entry}
use Rattle.td_plan.specs.Lines.{Line as PlanLine}
use Rattle.td_disk.specs.Disk.{DiskView, DiskState}
use Rattle.td_gate.specs.Reading.{Each}
use Rattle.td_journal.specs.declared.payload.Submitted.{Submitted}
use Rattle.td_head.specs.declared.head.Head.{Head}
use Rattle.td_head.specs.Layout.{Sizes}
use Rattle.td_store.specs.standing.Standing.{Standing, last_epoch, last_request}
use Rattle.td_store.specs.standing.Tells.{Keeps}
use Rattle.td_orders.specs.declared.order.Order.{Order}
use Rattle.td_stamp.specs.States.{StateList}
use Rattle.td_journal.specs.Numbers.{greatest}
use Rattle.td_store.specs.standing.Stops.{Stands}
use Rattle.td_orders.specs.Orders.{orders_of, submissions, new_after}
use Rattle.td_orders.specs.Scripts.{script_of}
use Rattle.td_orders.specs.Placed.{placed}

-- `# kept C told T last Q`, and `, epochs U of N, states S of K`
abbrev pub standing_words : Standing → List ℕ
standing_words s = codes "# kept " ++ decimal s.epoch ++ codes " told " ++ decimal (last_epoch s) ++ codes " last " ++ decimal (last_request s)

abbrev pub room_words : Sizes → Standing → List ℕ
room_words sizes s =
    codes ", epochs " ++ decimal (length s.submitted) ++ codes " of " ++ decimal sizes.n ++ codes ", states " ++ decimal (length s.states) ++ codes " of " ++ decimal sizes.k

-- the first line, which a feed passes over
abbrev pub summary_line : Sizes → Standing → List ℕ
summary_line sizes s = standing_words s ++ room_words sizes s ++ 10 ∷ []

-- `req Q`, where there is a request number
abbrev pub request_line : ℕ → List ℕ
request_line zero = []
request_line (suc q) = codes "req " ++ decimal (suc q) ++ 10 ∷ []

-- `INPUT KEY VAL`
abbrev pub record_line : Entry → List ℕ
record_line e = decimal e.input ++ 32 ∷ decimal e.rec.key ++ 32 ∷ signed_decimal e.rec.val ++ 10 ∷ []

-- of an epoch, up to its `.`
abbrev pub epoch_text : Submitted → List ℕ
epoch_text s = request_line s.request ++ flat_map record_line s.batch ++ codes ".\n"

-- THE TEXT OF A STANDING on a disk of these sizes
abbrev pub dump_text : Sizes → Standing → List ℕ
dump_text sizes s = summary_line sizes s ++ flat_map epoch_text s.submitted

-- `at E`, the place of an epoch
abbrev pub place_line : ℕ → List ℕ
place_line epoch = codes "at " ++ decimal epoch ++ 10 ∷ []

-- epochs with their places, the first of which is the epoch after this one
abbrev pub placed_text : ℕ → List Submitted → List ℕ
placed_text epoch [] = []
placed_text epoch (s ∷ x) = place_line (suc epoch) ++ epoch_text s ++ placed_text (suc epoch) x

-- THE TEXT OF A STANDING in which each epoch has its place
abbrev pub placed_dump : Sizes → Standing → List ℕ
placed_dump sizes s = summary_line sizes s ++ placed_text s.epoch s.submitted

-- AN INPUT ASKS FOR THESE EPOCHS: it has no fault, and they are what its orders submit, each under its request number
abbrev pub AsksFor : List PlanLine → List ℕ → List Submitted → Type 0
AsksFor plan input x = (orders : List Order) × (orders_of plan input ≡ Ok orders) × (submissions orders ≡ x)

-- A DISK WAS DUMPED: the text of a standing was appended to what a writer holds, and as an input it asks for the epochs of that
-- standing. A lawful disk tells that standing, whatever a crash leaves of it, and each of its epochs is new after its checkpoint
pub record Dumps (plan : List PlanLine) (before after : Option (List ℕ)) (is_lawful : Type 0) (state : DiskState) : Type 0 where
  pub head : Head
  pub side : ℕ
  pub standing : Standing
  pub said : Appends before after (dump_text head.shape standing)
  pub asks : AsksFor plan (dump_text head.shape standing) standing.submitted
  pub keeps : is_lawful → Keeps plan head side standing state
  pub new : is_lawful → new_after standing.last standing.submitted ≡ standing.submitted

-- the same, of a disk before a call and after it
abbrev pub DumpsDisk : {D : Type 0} → (D → DiskView) → List PlanLine → D → D → Option (List ℕ) → Option (List ℕ) → Type 0
DumpsDisk view plan old new before after = Dumps plan before after (view old).lawful (view new).state

-- AN INPUT BRINGS A DISK ON to a history, of which it stands for the first so many
abbrev pub BringsOn : List PlanLine → List ℕ → List Submitted → ℕ → Type 0
BringsOn plan input history n = (refuse : Bool) → take n history
    ++ new_after (greatest 0 (take n history)) (submissions (placed refuse (length (take n history)) (greatest 0 (take n history)) (script_of true false false false None plan input)).orders) ≡ history

-- A DISK WAS DUMPED WITH PLACES: the text of a standing was appended to what a writer holds. A lawful disk tells that standing, whatever a
-- crash leaves of it. As an input the text brings any disk on that stands for a beginning of the same history, which has the checkpoint's
-- epoch; and to one that is behind that it submits nothing
pub record DumpsPlaced (plan : List PlanLine) (before after : Option (List ℕ)) (is_lawful : Type 0) (state : DiskState) : Type 0 where
  pub head : Head
  pub side : ℕ
  pub standing : Standing
  pub said : Appends before after (placed_dump head.shape standing)
  pub keeps : is_lawful → Keeps plan head side standing state
  pub brings : is_lawful → (run : StateList → List (List Entry) → StateList) (history : List Submitted) → Stands run standing history
      → (n : ℕ) → standing.epoch ≤ n → n ≤ length history → BringsOn plan (placed_dump head.shape standing) history n
  pub behind : (told last : ℕ) → told < standing.epoch → (placed false told last (script_of true false false false None plan (placed_dump head.shape standing))).orders ≡ []

-- the same, of a disk before a call and after it
abbrev pub DumpsDiskPlaced : {D : Type 0} → (D → DiskView) → List PlanLine → D → D → Option (List ℕ) → Option (List ℕ) → Type 0
DumpsDiskPlaced view plan old new before after = DumpsPlaced plan before after (view old).lawful (view new).state

-- of a text that was to be written some was, and this is left
pub record WritesFront (before after : Option (List ℕ)) (text left : List ℕ) : Type 0 where
  pub written : List ℕ
  pub said : Appends before after written
  pub whole : text ≡ written ++ left

-- the numbers of a record, and of an epoch, that fit their types
pub record FitsLine (e : Entry) : Type 0 where
  pub input : e.input < 2 ^ 8
  pub key : e.rec.key < 2 ^ 64
  pub val : FitsSigned w64 e.rec.val

pub record FitsLines (s : Submitted) : Type 0 where
  pub request : s.request < 2 ^ 64
  pub records : Each FitsLine s.batch
