-- Steps of a disk behind heads that are closed.
use Rattle.std.proofs.Common.{◌≡◌, ◌≢◌, inl, inr, ⊎_elim, if◌then◌else◌, ℕ, Bool, List, [], length, Some, None, sym, ap, ◌∙◌, subst, arith}
use Rattle.std.specs.Prelude.{slice_index}
use Rattle.std.proofs.lemmas.Bool.Decides.{eqb_tells}
use Rattle.td_disk.specs.Disk.{DiskState, IsDurable, bytes_at}
use Rattle.td_gate.specs.CrashSafe.{CrashSafe}
use Rattle.td_gate.specs.declared.region.Region.{Region}
use Rattle.td_gate.specs.Region.{gate_of, opened, IsClosed, Closes, Puts}
use Rattle.td_gate.specs.Regions.{Apart}
use Rattle.td_head.specs.Layout.{head_a, head_b}
use Rattle.td_journal.specs.declared.journal.Journal.{Journal}
use Rattle.td_journal.specs.Cell.{cell_of}
use Rattle.td_journal.specs.Images.{Clears}
use Rattle.td_store.specs.copy.Copied.{HasNoHead, OpensNoHead}

-- a put leaves what is held elsewhere
abbrev pub LeavesOthers : Type 0
LeavesOthers = (r s : Region) (payload old new : List ℕ) → Apart r s → Puts r payload old new → opened s new ≡ opened s old

pub turned : (r s : Region) → Apart r s → Apart s r
turned r s apart = ⊎_elim (λ low. inr low) (λ high. inl high) apart

-- both heads are apart from a region
abbrev pub Behind : Region → Type 0
Behind r = Apart head_a r × Apart head_b r

module _ (others : LeavesOthers) (r : Region) (p : List ℕ) (behind : Behind r) where
  pub no_head_after : (old new : List ℕ) → Puts r p old new → HasNoHead old → HasNoHead new
  no_head_after old new put none = record {
    first = others r head_a p old new (turned head_a r behind.0) put ∙ none.first;
    second = others r head_b p old new (turned head_b r behind.1) put ∙ none.second;
  }

  pub opens_none : (old new : DiskState) → IsDurable old → HasNoHead old.bytes → CrashSafe (Puts r p) old new → OpensNoHead old new
  opens_none old new durable none safe = record {
    later = safe.later;
    each = λ t c le left. ⊎_elim (λ was. inl was)
        (λ from. inr (no_head_after from.0 c from.2 (subst HasNoHead (sym (durable from.0 from.1)) none)))
        (safe.before t c le left);
  }

-- nothing was done, or one thing after another
pub opens_nothing : (state : DiskState) → OpensNoHead state state
opens_nothing state = record { later = omega arith; each = λ t c le left. inl left }

pub opens_in_turn : (old mid new : DiskState) → OpensNoHead old mid → OpensNoHead mid new → OpensNoHead old new
opens_in_turn old mid new first second = record {
  later = omega (arith, first.later, second.later);
  each = λ t c le left. ⊎_elim (λ was. first.each t c le was) (λ none. inr none) (second.each t c (omega (arith, le, first.later)) left);
}

-- a closing is a put that was cut off
pub closes_put : (r : Region) (old new : List ℕ) → Closes r old new → Puts r [] old new
closes_put r old new closes = record { others = closes.others; region = ⊎_elim (λ same. inl same) (λ none. inr (inl none)) closes.region }

unchanged_put : (r : Region) (old new : List ℕ) → new ≡ old → Puts r [] old new
unchanged_put r old new same = record {
  others = record { size = ap length same; before = λ i lt. ap (λ (l : List ℕ). slice_index l i) same; after = λ i le. ap (λ (l : List ℕ). slice_index l i) same };
  region = inl (ap (opened r) same);
}

pub clears_put : (j : Journal) (e : ℕ) (old new : List ℕ) → Clears j e old new → Puts (cell_of j e) [] old new
clears_put j e old new clears = ⊎_elim (λ same. unchanged_put (cell_of j e) old new same) (λ closed. closes_put (cell_of j e) old new closed.1) clears

-- the same of what a crash leaves
pub safe_as : (P Q : List ℕ → List ℕ → Type 0) → ((d c : List ℕ) → P d c → Q d c) → (old new : DiskState) → CrashSafe P old new → CrashSafe Q old new
safe_as P Q step old new safe = record {
  later = safe.later;
  each = λ c left. let from = safe.each c left in (from.0, from.1, step from.0 c from.2);
  before = λ t c le left. ⊎_elim (λ was. inl was) (λ from. inr (from.0, from.1, step from.0 c from.2)) (safe.before t c le left);
}

-- on a durable disk what is read takes the step
pub read_step : (P : List ℕ → List ℕ → Type 0) (old new : DiskState) → IsDurable old → CrashSafe P old new → new.since old.moment new.bytes → P old.bytes new.bytes
read_step P old new durable safe now =
    let from = safe.each new.bytes now in
    subst (λ (d : List ℕ). P d new.bytes) (durable from.0 from.1) from.2

-- a gate that is not 0xA5 is closed
closed_none : (r : Region) (image : List ℕ) → gate_of r image ≢ 0xA5 → opened r image ≡ None
closed_none r image not = ⊎_elim (λ is. absurd (not is.1)) (λ is. ap (λ (b : Bool). if b then Some (bytes_at r.at r.len image) else None) is.0) (eqb_tells (gate_of r image) 0xA5)

-- A REGION BEHIND THE HEADS IS SHUT.
module _ (others : LeavesOthers) (r : Region) (behind : Behind r) (old new : DiskState) (durable : IsDurable old) (safe : CrashSafe (Closes r) old new) where
  as_put : CrashSafe (Puts r []) old new
  as_put = safe_as (Closes r) (Puts r []) (closes_put r) old new safe

  pub shut_opens_none : HasNoHead old.bytes → OpensNoHead old new
  shut_opens_none none = opens_none others r [] behind old new durable none as_put

  module _ (now : new.since old.moment new.bytes) where
    pub shut_reads : Puts r [] old.bytes new.bytes
    shut_reads = read_step (Puts r []) old new durable as_put now

    pub shut_no_head : HasNoHead old.bytes → HasNoHead new.bytes
    shut_no_head none = no_head_after others r [] behind old.bytes new.bytes shut_reads none

pub shut_is_closed : (r : Region) (state : DiskState) → IsClosed r state → state.images state.bytes → opened r state.bytes ≡ None
shut_is_closed r state closed image = closed_none r state.bytes (closed state.bytes image)
