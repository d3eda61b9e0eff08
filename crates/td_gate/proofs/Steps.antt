-- The three steps of a put, as runs.
use Rattle.std.proofs.Common.{◌≡◌, ℕ, ◌+◌, List, [], ◌∷◌, length, arith, refl, sym, subst, ◌∙◌, ap, inl, inr, ⊎_elim, Some, Result, Ok, Err}
use Rattle.std.specs.Prelude.{OnOk}
use Rattle.td_disk.specs.Disk.{DiskState, bytes_at, ImagesFollow, IsDurable, TimePasses, SameOutside}
use Rattle.td_gate.specs.CrashSafe.{CrashSafe, Unchanged}
use Rattle.td_gate.specs.Region.{SameWithin}
use Rattle.td_gate.proofs.CrashSafety.{HasClock, at_the_end, one_call, in_turn, weaker_step}
use Rattle.td_gate.specs.declared.region.Region.{Region}
use Rattle.td_gate.specs.Region.{gate_of, opened, IsSettled, IsClosed, IsFilled, IsOpen, Closes, Fills, Opens, Puts}
use Rattle.td_gate.proofs.Images.{closes, opens, same_outside_refl, same_outside_trans, opened_open, payload_same, bytes_one}

-- the gate was read and then written
pub close_safe : (r : Region) (old mid new : DiskState) → HasClock mid → IsSettled r old → gate_of r old.bytes ≡ 165
    → CrashSafe Unchanged old mid → ImagesFollow (SameOutside (r.at + r.len) 1) mid new → TimePasses mid new → CrashSafe (Closes r) old new
close_safe r old mid new at_mid settled is_open same follows time =
    let step = SameOutside (r.at + r.len) 1 in
    let wrote = one_call step mid new at_mid (same_outside_refl (r.at + r.len) 1) time follows in
    let both = in_turn Unchanged step step old mid new at_mid same wrote
    (λ d c is. subst (λ (l : List ℕ). step d l) (sym is) (same_outside_refl (r.at + r.len) 1 d)) (λ d e c is f. subst (λ (l : List ℕ). step l c) is f) in
    weaker_step step (Closes r) old new both (λ d c image f. closes r old d c settled image is_open f)

-- Only the last write's bytes are left, and it wrote the payload.
pub fill_done : (r : Region) (payload : List ℕ) (old new : DiskState) → HasClock new → length payload ≡ r.len → IsClosed r old
    → CrashSafe (SameOutside r.at (length payload)) old new → IsDurable new → bytes_at r.at (length payload) new.bytes ≡ payload → IsFilled r payload new
fill_done r payload old new clock len closed wrote durable written image now =
    let from = at_the_end (SameOutside r.at (length payload)) old new clock wrote image now in (
      (λ is. closed from.0 from.1 (sym (from.2.after (r.at + r.len) (omega arith)) ∙ is)),
      ap (λ (n : ℕ). bytes_at r.at n image) (sym len) ∙ (ap (λ (l : List ℕ). bytes_at r.at (length payload) l) (durable image now) ∙ written),
    )

pub open_safe : (r : Region) (payload : List ℕ) (old new : DiskState) → IsFilled r payload old → CrashSafe (SameOutside (r.at + r.len) 1) old new → CrashSafe (Opens r payload) old new
open_safe r payload old new filled wrote = weaker_step (SameOutside (r.at + r.len) 1) (Opens r payload) old new wrote (λ d c image f. opens r payload d c (filled d image).1 f)

-- Only the last write's bytes are left, and it wrote the gate.
pub open_done : (r : Region) (payload : List ℕ) (old new : DiskState) → HasClock new → new.images new.bytes → IsFilled r payload old → CrashSafe (SameOutside (r.at + r.len) 1) old new → IsDurable new → bytes_at (r.at + r.len) 1 new.bytes ≡ 165 ∷ [] → IsOpen r payload new
open_done r payload old new clock image filled wrote durable written =
    let from = wrote.each new.bytes (clock.counts_now old.moment new.bytes wrote.later image) in
    let is : opened r new.bytes ≡ Some payload = opened_open r new.bytes (bytes_one (r.at + r.len) new.bytes 165 written) ∙ ap (λ (l : List ℕ). Some l) (payload_same r from.0 new.bytes from.2 ∙ (filled from.0 from.1).1) in
    record {
      settled = λ c now. subst (λ (l : List ℕ). SameWithin r.at (r.len + 1) new.bytes l) (sym (durable c now)) (record { each = λ i low high. refl });
      read = is;
      each = λ c now. ap (opened r) (durable c now) ∙ is;
    }

pub on_ok_both : {T E P Q R : Type 0} (r : Result T E) → OnOk r P → OnOk r Q → (P → Q → R) → OnOk r R
on_ok_both (Ok x) p q f = f p q
on_ok_both (Err e) p q f = tt

pub closes_puts : (r : Region) (payload d c : List ℕ) → Closes r d c → Puts r payload d c
closes_puts r payload d c s = record { others = s.others; region = ⊎_elim (λ same. inl same) (λ none. inr (inl none)) s.region }

-- closed, and then filled
pub close_fill_safe : (r : Region) (payload : List ℕ) (old mid new : DiskState) → HasClock mid → CrashSafe (Closes r) old mid → CrashSafe (Fills r) mid new → CrashSafe (Puts r payload) old new
close_fill_safe r payload old mid new clock one two = in_turn (Closes r) (Fills r) (Puts r payload) old mid new clock one two (closes_puts r payload)
    (λ d e c first second. record { others = same_outside_trans r.at (r.len + 1) d e c first.others second.others; region = inr (inl second.region) })

-- and then opened
pub put_safe : (r : Region) (payload : List ℕ) (old mid new : DiskState) → HasClock mid → CrashSafe (Puts r payload) old mid → CrashSafe (Opens r payload) mid new → CrashSafe (Puts r payload) old new
put_safe r payload old mid new clock one two = in_turn (Puts r payload) (Opens r payload) (Puts r payload) old mid new clock one two (λ d c step. step)
    (λ d e c first second. record { others = same_outside_trans r.at (r.len + 1) d e c first.others second.others; region = inr second.region })

-- a refused close
pub refused_close_safe : (r : Region) (payload : List ℕ) (old new : DiskState) → CrashSafe (Closes r) old new → CrashSafe (Puts r payload) old new
refused_close_safe r payload old new one = weaker_step (Closes r) (Puts r payload) old new one (λ d c image step. closes_puts r payload d c step)

-- a refused fill, or one that was done: s is the region as the state keeps it
pub filled_safe : (r s : Region) (payload : List ℕ) (old mid new : DiskState) → s ≡ r → HasClock mid → CrashSafe (Closes r) old mid → IsClosed r mid → (IsClosed s mid → CrashSafe (Fills s) mid new) → CrashSafe (Puts r payload) old new
filled_safe r s payload old mid new same clock one closed two =
    let P : Region → Type 0 = λ q. IsClosed q mid → CrashSafe (Fills q) mid new in
    close_fill_safe r payload old mid new clock one (subst P same two closed)

-- a refused open, or one that was done
pub opened_safe : (r s : Region) (payload : List ℕ) (old mid new : DiskState) → s ≡ r → HasClock mid → CrashSafe (Puts r payload) old mid → IsFilled r payload mid → ((p : List ℕ) → IsFilled s p mid → CrashSafe (Opens s p) mid new) → CrashSafe (Puts r payload) old new
opened_safe r s payload old mid new same clock one filled two =
    let P : Region → Type 0 = λ q. IsFilled q payload mid → CrashSafe (Opens q payload) mid new in
    put_safe r payload old mid new clock one (subst P same (two payload) filled)

pub filled_same : (r s : Region) (payload : List ℕ) (mid new : DiskState) → s ≡ r → IsClosed r mid → (IsClosed s mid → IsFilled s payload new) → IsFilled r payload new
filled_same r s payload mid new same closed two =
    let P : Region → Type 0 = λ q. IsClosed q mid → IsFilled q payload new in subst P same two closed
