-- What a disk holds at a moment, what a crash may leave of it, and what a call does to that.
use Rattle.std.specs.Prelude.{◌≡◌, ◌⊎◌, ℕ, ◌+◌, ◌-◌, ◌^◌, ◌<◌, ◌≤◌, min, List, length, take, drop, slice_index, Result, OnOk, OnErr, IsErrOf}

-- a disk at one moment
pub record DiskState : Type 1 where
  -- the bytes as read
  pub bytes : List ℕ
  -- what a crash at this moment may leave
  pub images : List ℕ → Type 0
  -- what a crash at some moment from that one on might have left
  pub since : ℕ → List ℕ → Type 0
  -- this moment, a number that never falls
  pub moment : ℕ

-- WHAT CONTRACTS SEE OF A DISK: how many bytes it has, how many of its calls have failed, whether it is claimed to keep the laws of a disk, and
-- its state
pub record DiskView : Type 1 where
  pub capacity : ℕ
  pub failures : ℕ
  pub lawful : Type 0
  pub state : DiskState

-- n bytes at an offset
abbrev pub bytes_at : ℕ → ℕ → List ℕ → List ℕ
bytes_at at n image = take n (drop at image)

-- any bytes in the range of n bytes at that offset, and the same bytes elsewhere
pub record SameOutside (at n : ℕ) (old new : List ℕ) : Type 0 where
  pub size : length new ≡ length old
  pub before : (i : ℕ) → i < at → slice_index new i ≡ slice_index old i
  pub after : (i : ℕ) → at + n ≤ i → slice_index new i ≡ slice_index old i

-- Each image now is an image of before, after a step.
abbrev pub ImagesFollow : (List ℕ → List ℕ → Type 0) → DiskState → DiskState → Type 0
ImagesFollow step old new = (c : List ℕ) → new.images c → (d : List ℕ) × old.images d × step d c

-- Each image now is an image of before.
abbrev pub NoNewImages : DiskState → DiskState → Type 0
NoNewImages old new = (c : List ℕ) → new.images c → old.images c

-- The bytes as read are the one image.
abbrev pub IsDurable : DiskState → Type 0
IsDurable state = (c : List ℕ) → state.images c → c ≡ state.bytes

-- Time goes on: a crash since t might have left what it might have left before, or what it may leave now, and nothing else.
pub record TimePasses (old new : DiskState) : Type 0 where
  pub later : old.moment ≤ new.moment
  pub nothing_else : (t : ℕ) (c : List ℕ) → t ≤ old.moment → new.since t c → old.since t c ⊎ new.images c
  pub keeps : (t : ℕ) (c : List ℕ) → t ≤ old.moment → old.since t c → new.since t c

-- The count rose, or it stands at the top of a u64.
abbrev pub Rises : ℕ → ℕ → Type 0
Rises old new = min (old + 1) (2 ^ 64 - 1) ≤ new

-- The count of failures never falls: it rose where a failure is answered, and stays as it was where none is.
pub record CountsFailures {T E : Type 0} (result : Result T E) (old new : ℕ) : Type 0 where
  pub later : old ≤ new
  pub rises : OnErr result (Rises old new)
  pub stays : OnOk result (new ≡ old)

-- The same of a call that has other refusals too: the count rose where this one is answered, and stays as it was with any other answer.
pub record CountsDevice {T E : Type 0} (result : Result T E) (device : E) (old new : ℕ) : Type 0 where
  pub later : old ≤ new
  pub rises : IsErrOf result device → Rises old new
  pub stays : IsErrOf result device ⊎ (new ≡ old)
