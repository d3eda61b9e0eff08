-- How two slots are read.
use Rattle.std.proofs.Common.{◌≡◌, ℕ, Bool, true, false, nat_lt, List, Option, Some, None, refl, sym, ap, ◌∙◌, Result, Ok, Err}
use Rattle.td_gate.specs.Fields.{front_in}
use Rattle.td_slots.specs.declared.error.SlotsError.{SlotsError}
use Rattle.td_slots.specs.declared.error.SlotsError.TheVariants.{NoSlot, Damaged}
use Rattle.td_slots.specs.declared.slots.Checkpoint.{Checkpoint}
use Rattle.td_slots.specs.Slot.{is_slot}
use Rattle.td_slots.specs.Newest.{where_valid, spelled, checkpoint_in, second_if, newest_of, newest_in}
use Rattle.td_slots.specs.Parsed.{second_payload_if, newer_of, IsDamaged}

-- the checkpoint of the payload that was chosen
abbrev pub picked : Option (ℕ × List ℕ) → Result Checkpoint SlotsError
picked None = Err NoSlot
picked (Some c) = Ok (spelled c.0 c.1)

-- a payload that is there is such
abbrev pub Has : (List ℕ → Type 0) → Option (List ℕ) → Type 0
Has P None = Unit {0}
Has P (Some bytes) = P bytes

abbrev pub HasPick : (List ℕ → Type 0) → Option (ℕ × List ℕ) → Type 0
HasPick P None = Unit {0}
HasPick P (Some c) = P c.1

pub has_newer : (P : List ℕ → Type 0) (a b : Option (List ℕ)) → Has P a → Has P b → HasPick P (newer_of a b)
has_newer P None None x y = tt
has_newer P (Some p) None x y = x
has_newer P None (Some q) x y = y
has_newer P (Some p) (Some q) x y = one (nat_lt (front_in p).epoch (front_in q).epoch)
  where
    one : (t : Bool) → HasPick P (Some (second_payload_if t p q))
    one true = y
    one false = x

module _ (version : ℕ) (folds : List ℕ) (k : ℕ) where
  abbrev pub Valid : Option (List ℕ) → Type 0
  Valid o = Has (λ bytes. is_slot version folds k bytes ≡ true) o

  found : (side : ℕ) (bytes : List ℕ) → is_slot version folds k bytes ≡ true → checkpoint_in version folds k side bytes ≡ Ok (spelled side bytes)
  found side bytes valid = ap (λ (t : Bool). where_valid t (spelled side bytes)) valid

  damaged : (side : ℕ) (bytes : List ℕ) (e : SlotsError) → is_slot version folds k bytes ≡ false → e ≡ Damaged side → checkpoint_in version folds k side bytes ≡ Err e
  damaged side bytes e bad is = ap (λ (t : Bool). where_valid t (spelled side bytes)) bad ∙ sym (ap (λ (f : SlotsError). Err f) is)

  pub both_read : (a b : Option (List ℕ)) → Valid a → Valid b → newest_in version folds k a b ≡ picked (newer_of a b)
  both_read None None x y = refl
  both_read (Some p) None x y = found 0 p x
  both_read None (Some q) x y = found 1 q y
  both_read (Some p) (Some q) x y =
      ap (λ (r : Result Checkpoint SlotsError). newest_of r (checkpoint_in version folds k 1 q)) (found 0 p x) ∙ ap (newest_of (Ok (spelled 0 p))) (found 1 q y)
      ∙ one (nat_lt (front_in p).epoch (front_in q).epoch)
    where
      one : (t : Bool) → Ok (second_if t (spelled 0 p) (spelled 1 q)) ≡ picked (Some (second_payload_if t p q))
      one true = refl
      one false = refl

  pub first_bad : (a b : Option (List ℕ)) (e : SlotsError) → IsDamaged version folds k 0 a e → newest_in version folds k a b ≡ Err e
  first_bad None b e bad = absurd bad
  first_bad (Some p) None e bad = damaged 0 p e bad.0 bad.1
  first_bad (Some p) (Some q) e bad = ap (λ (r : Result Checkpoint SlotsError). newest_of r (checkpoint_in version folds k 1 q)) (damaged 0 p e bad.0 bad.1)

  pub second_bad : (a b : Option (List ℕ)) (e : SlotsError) → Valid a → IsDamaged version folds k 1 b e → newest_in version folds k a b ≡ Err e
  second_bad a None e x bad = absurd bad
  second_bad None (Some q) e x bad = damaged 1 q e bad.0 bad.1
  second_bad (Some p) (Some q) e x bad =
      ap (λ (r : Result Checkpoint SlotsError). newest_of r (checkpoint_in version folds k 1 q)) (found 0 p x) ∙ ap (newest_of (Ok (spelled 0 p))) (damaged 1 q e bad.0 bad.1)
