-- What a disk tells at each moment of a call.
use Rattle.std.proofs.Common.{◌⊎◌, inl, inr, ⊎_elim, ℕ, suc, ◌≤◌, List, [], ◌∷◌, arith}
use Rattle.td_plan.specs.Lines.{Line}
use Rattle.td_disk.specs.Disk.{DiskState}
use Rattle.td_gate.specs.CrashSafe.{CrashSafe}
use Rattle.td_gate.specs.Region.{Puts, IsOpen}
use Rattle.td_gate.specs.Regions.{Replaces}
use Rattle.td_head.specs.declared.head.Head.{Head}
use Rattle.td_journal.specs.declared.payload.Submitted.{Submitted}
use Rattle.td_journal.specs.Cell.{cell_of, cell_bytes, IsCellBatch}
use Rattle.td_journal.specs.Images.{NothingFollows, Clears, IsGone}
use Rattle.td_store.specs.standing.Standing.{Standing, with_more}
use Rattle.td_store.specs.standing.Told.{inputs_of, ring_of}
use Rattle.td_store.specs.standing.Tells.{Tells, EachTells, TellsSince, HasRoom, IsFresh}

-- the laws on images, as they are handed in
abbrev pub Cleared : Type 0
Cleared = (plan : List Line) (head : Head) (side : ℕ) (s : Standing) (old new : List ℕ) (e : ℕ)
    → Tells plan head side s old → HasRoom head.shape s e
    → Clears (ring_of head.shape s.epoch) (suc e) old new → Tells plan head side s new

abbrev pub Begun : Type 0
Begun = (plan : List Line) (head : Head) (side : ℕ) (s : Standing) (old new : List ℕ) (e : ℕ) (x : Submitted)
    → Tells plan head side s old → HasRoom head.shape s e → IsFresh head.version s x.request → IsCellBatch (inputs_of plan) head.shape.m x
    → NothingFollows (ring_of head.shape s.epoch) old e
    → Puts (cell_of (ring_of head.shape s.epoch) e) (cell_bytes head.shape.m e x.request x.batch) old new
    → Tells plan head side s new ⊎ Tells plan head side (with_more s (x ∷ [])) new

abbrev pub Replaced : Type 0
Replaced = (plan : List Line) (head : Head) (side : ℕ) (s : Standing) (old new : List ℕ) (e : ℕ) (x : Submitted)
    → Tells plan head side s old → HasRoom head.shape s e → IsFresh head.version s x.request → IsCellBatch (inputs_of plan) head.shape.m x
    → NothingFollows (ring_of head.shape s.epoch) old e
    → Replaces (cell_of (ring_of head.shape s.epoch) e) (cell_bytes head.shape.m e x.request x.batch) old new
    → Tells plan head side (with_more s (x ∷ [])) new

-- what a crash may leave now is what one may leave since before
abbrev pub CountsNow : DiskState → Type 0
CountsNow state = (t : ℕ) (c : List ℕ) → t ≤ state.moment → state.images c → state.since t c

module _ (plan : List Line) (head : Head) (side : ℕ) (s : Standing) (e : ℕ) (room : HasRoom head.shape s e) where
  tells_cleared : Cleared → (old mid : DiskState) → EachTells plan head side s old → CrashSafe (Clears (ring_of head.shape s.epoch) (suc e)) old mid
      → (c : List ℕ) → mid.since old.moment c → Tells plan head side s c
  tells_cleared cleared old mid each safe c left =
      let from = safe.each c left in
      cleared plan head side s from.0 c e (each from.0 from.1) room from.2

  -- and since an earlier moment
  pub cleared_since : Cleared → (old mid : DiskState) → EachTells plan head side s old → CrashSafe (Clears (ring_of head.shape s.epoch) (suc e)) old mid
      → (t : ℕ) (c : List ℕ) → t ≤ old.moment → mid.since t c → old.since t c ⊎ Tells plan head side s c
  cleared_since cleared old mid each safe t c le left =
      ⊎_elim (λ was. inl was) (λ from. inr (cleared plan head side s from.0 c e (each from.0 from.1) room from.2)) (safe.before t c le left)

  module _ (x : Submitted) (fresh : IsFresh head.version s x.request) (ok : IsCellBatch (inputs_of plan) head.shape.m x) where
    -- cleared, and then the batch is put
    pub tells_submitted : Cleared → Begun → (old mid new : DiskState) → CountsNow mid → EachTells plan head side s old
        → CrashSafe (Clears (ring_of head.shape s.epoch) (suc e)) old mid → IsGone (ring_of head.shape s.epoch) (suc e) mid
        → CrashSafe (Puts (cell_of (ring_of head.shape s.epoch) e) (cell_bytes head.shape.m e x.request x.batch)) mid new
        → TellsSince (Tells plan head side s) (Tells plan head side (with_more s (x ∷ []))) old new
    tells_submitted cleared begun old mid new counts each clears gone puts t c le left = ⊎_elim
        (λ was. ⊎_elim (λ before. inl before) (λ told. inr (inl told)) (cleared_since cleared old mid each clears t c le was))
        (λ now. inr (begun plan head side s now.0 c e x (tells_cleared cleared old mid each clears now.0 (counts old.moment now.0 clears.later now.1)) room fresh ok (gone now.0 now.1) now.2))
        (puts.before t c (omega (arith, le, clears.later)) left)

    pub tells_replaced : Cleared → Replaced → (old mid new : DiskState) → CountsNow mid → CountsNow new → EachTells plan head side s old
        → CrashSafe (Clears (ring_of head.shape s.epoch) (suc e)) old mid → IsGone (ring_of head.shape s.epoch) (suc e) mid
        → CrashSafe (Puts (cell_of (ring_of head.shape s.epoch) e) (cell_bytes head.shape.m e x.request x.batch)) mid new
        → IsOpen (cell_of (ring_of head.shape s.epoch) e) (cell_bytes head.shape.m e x.request x.batch) new
        → EachTells plan head side (with_more s (x ∷ [])) new
    tells_replaced cleared replaced old mid new counts counts_new each clears gone puts is_open c image =
        let from = puts.each c (counts_new mid.moment c puts.later image) in
        replaced plan head side s from.0 c e x (tells_cleared cleared old mid each clears from.0 (counts old.moment from.0 clears.later from.1)) room fresh ok (gone from.0 from.1)
        (record { others = from.2.others; region = is_open.each c image })
