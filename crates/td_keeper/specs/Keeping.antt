-- What contracts see of a keeper, and what each keeper keeps right.
use Rattle.std.specs.Prelude.{◌≡◌, ◌⊎◌, ℕ, ◌+◌, ◌-◌, min, ◌^◌, ◌<◌, ◌≤◌, Bool, true, false, List, [], ◌∷◌, length, drop, All, Option, Some, None, option_map, Ok}
use Rattle.td_stamp.specs.declared.values.Entry.{Entry}
use Rattle.td_stamp.specs.declared.epoch_out.EpochOut.{EpochOut}
use Rattle.td_stamp.specs.States.{StateList}
use Rattle.td_plan.specs.Lines.{Line}
use Rattle.td_plan.specs.Tree.{tree_of}
use Rattle.td_calls.specs.Answers.{Answers}
use Rattle.td_batch.specs.Meaning.{states_after}
use Rattle.td_disk.specs.Disk.{DiskState}
use Rattle.td_head.specs.declared.head.Head.{Head}
use Rattle.td_slots.specs.Slot.{are_states}
use Rattle.td_slots.specs.declared.slots.Checkpoint.{Checkpoint}
use Rattle.td_journal.specs.Cell.{is_batch}
use Rattle.td_journal.specs.declared.payload.Submitted.{Submitted}
use Rattle.td_store.specs.group.Groups.{AreShut}
use Rattle.td_watch.specs.View.{View, view_of}
use Rattle.td_watch.specs.Words.{IsAtMost}
use Rattle.td_store.specs.standing.Standing.{Standing, standing_from, last_epoch, batches_of, submission, with_more, cut_at}
use Rattle.td_store.specs.standing.Told.{Told, inputs_of, folds_of, ring_of}
use Rattle.td_store.specs.standing.Tells.{side_after}
use Rattle.td_keeper.specs.declared.keeper.Taken.{Taken}

-- A KEEPER: its disk, the plan, the disk's head, the slot in which its checkpoint stands, and what it stands for; whether the
-- device failed in an earlier call that writes; its base, which is the last cut that it took, or the checkpoint, and whether
-- that cut waits to be written; the last epoch that it collected, and the outputs that were collected and not yet handed out;
-- and the writer of a watch, where one is attached
pub record Keeping (D : Type 0) : Type 0 where
  pub device : D
  pub plan : List Line
  pub head : Head
  pub side : ℕ
  pub standing : Standing
  pub broken : Bool
  pub base : ℕ
  pub base_states : StateList
  pub waiting : Bool
  pub collected : ℕ
  pub queue : List EpochOut
  pub watch : Option View

-- the words of a watch: the last epoch that is acknowledged, the last that was collected, and the last that is kept
abbrev pub words_at : Standing → ℕ → List ℕ
words_at s collected = last_epoch s ∷ collected ∷ s.epoch ∷ []

-- a writer after it published words, where one is attached
abbrev pub published : Option View → List ℕ → Option View
published None words = None
published (Some v) words = Some (view_of v.watch words)

-- and these are what it published last
abbrev pub HasPublished : Option View → List ℕ → Type 0
HasPublished None words = Unit {0}
HasPublished (Some v) words = v.words ≡ words

-- a writer that was attached still is, of the same watch
abbrev pub IsSameWatch : Option View → Option View → Type 0
IsSameWatch old new = option_map (λ v. v.watch) new ≡ option_map (λ v. v.watch) old

-- no word of a writer is above these, where one is attached
abbrev pub IsBelow : Option View → List ℕ → Type 0
IsBelow None words = Unit {0}
IsBelow (Some v) words = IsAtMost v.words words

-- the base, where a cut was taken since the checkpoint, and where none was
abbrev pub base_of : Checkpoint → Option Taken → ℕ
base_of c None = c.epoch
base_of c (Some t) = t.epoch

abbrev pub base_states_of : Checkpoint → Option Taken → StateList
base_states_of c None = c.states
base_states_of c (Some t) = t.states

abbrev pub is_waiting : Option Taken → Bool
is_waiting None = false
is_waiting (Some t) = t.waits

-- AN IMAGE KEEPS NOTHING BEYOND AN EPOCH: the checkpoint that it tells is of no later one
abbrev pub ImageKeepsTo : List Line → ℕ → List ℕ → Type 0
ImageKeepsTo plan last c = (s : Standing) → Told plan c (Ok s) → s.epoch ≤ last

-- NOTHING IS KEPT BEYOND AN EPOCH, whatever a crash leaves of a disk
abbrev pub EachKeepsTo : List Line → ℕ → DiskState → Type 0
EachKeepsTo plan last state = (c : List ℕ) → state.images c → ImageKeepsTo plan last c

-- NOR AT A MOMENT since one, in the middle of a write too
abbrev pub EverKeepsTo : List Line → ℕ → ℕ → DiskState → Type 0
EverKeepsTo plan last moment state = (c : List ℕ) → state.since moment c → ImageKeepsTo plan last c

-- Each image since a moment up to old was one by then, or it keeps nothing beyond an epoch.
abbrev pub KeepsSince : List Line → ℕ → DiskState → DiskState → Type 0
KeepsSince plan last old new = (t : ℕ) (c : List ℕ) → t ≤ old.moment → new.since t c → old.since t c ⊎ ImageKeepsTo plan last c

-- after a fault of the device in a call that writes
abbrev pub KeepsToWhere : Bool → List Line → ℕ → DiskState → Type 0
KeepsToWhere false plan last state = Unit {0}
KeepsToWhere true plan last state = EachKeepsTo plan last state

-- of what it keeps in memory
abbrev pub keeping_of : {D : Type 0} → D → List Line → Head → Checkpoint → List Submitted → Bool → Option Taken → ℕ → List EpochOut → Option View → Keeping D
keeping_of device plan head c w broken t collected queue watch = record {
  device = device;
  plan = plan;
  head = head;
  side = c.slot;
  standing = standing_from c w;
  broken = broken;
  base = base_of c t;
  base_states = base_states_of c t;
  waiting = is_waiting t;
  collected = collected;
  queue = queue;
  watch = watch;
}

module _ {D : Type 0} (k : Keeping D) where
  -- the epoch of the checkpoint is the base, nothing is broken or waits, and nothing was collected since
  pub record IsFreshlyOpened : Type 0 where
    pub whole : k.broken ≡ false
    pub base : k.base ≡ k.standing.epoch
    pub base_states : k.base_states ≡ k.standing.states
    pub none_waits : k.waiting ≡ false
    pub collected : k.collected ≡ k.standing.epoch
    pub queue : k.queue ≡ []
    pub unwatched : k.watch ≡ None

  -- the batches of the epochs after the base
  abbrev pub since_base : List (List Entry)
  since_base = drop (k.base - k.standing.epoch) (batches_of k.standing.submitted)

  -- In an image the cells of the journal that no epoch of the standing uses are closed, so many of those that come next.
  abbrev pub FreeAreShut : ℕ → List ℕ → Type 0
  FreeAreShut most image = AreShut (ring_of k.head.shape k.standing.epoch) image (last_epoch k.standing + 1) (min most (k.head.shape.n - length k.standing.submitted))

  -- its words
  abbrev pub words_of : List ℕ
  words_of = words_at k.standing k.collected

  -- with some epochs more
  abbrev pub with_epochs : D → List Submitted → Keeping D
  with_epochs device x = record k {
    device = device;
    standing = with_more k.standing x;
    watch = published k.watch (words_at (with_more k.standing x) k.collected);
  }

  -- with one epoch more
  abbrev pub with_batch : D → ℕ → List Entry → Keeping D
  with_batch device request batch = with_epochs device (submission request batch ∷ [])

  -- with a group of epochs more; nothing is published where there is none
  abbrev pub with_group : D → List Submitted → Keeping D
  with_group device [] = k
  with_group device (x ∷ xs) = with_epochs device (x ∷ xs)

  -- with the cut that waited as its checkpoint
  abbrev pub with_checkpoint : D → Keeping D
  with_checkpoint device = record k {
    device = device;
    side = side_after k.side (k.base - k.standing.epoch);
    standing = cut_at k.standing (k.base - k.standing.epoch) k.base_states;
    waiting = false;
    watch = published k.watch (words_at (cut_at k.standing (k.base - k.standing.epoch) k.base_states) k.collected);
  }

  -- WHAT EACH KEEPER KEEPS RIGHT in its memory: what it stands for may stand on its disk, and its base is one of its epochs, with
  -- the batch meaning's states
  pub record IsKeeping (answers : Answers) : Type 0 where
    pub which : k.side ≤ 1
    pub batches : All (λ s. is_batch (inputs_of k.plan) s.batch ≡ true) k.standing.submitted
    pub few : length k.standing.submitted ≤ k.head.shape.n
    pub small : last_epoch k.standing < 2 ^ 63
    pub states : are_states (folds_of k.plan) k.standing.states ≡ true
    pub from_checkpoint : k.standing.epoch ≤ k.base
    pub released : k.base ≤ last_epoch k.standing
    pub base_states : k.base_states ≡ states_after answers (tree_of k.plan) k.standing.states (batches_of k.standing.submitted) (k.base - k.standing.epoch)
    pub collected : k.base ≤ k.collected
    pub done : k.collected ≤ last_epoch k.standing
    pub watched : IsBelow k.watch words_of
