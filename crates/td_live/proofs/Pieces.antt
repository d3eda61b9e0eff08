-- A reading, piece by piece.
use Rattle.std.proofs.Common.{◌≡◌, ◌⊎◌, inl, inr, ℕ, suc, ◌+◌, ◌≤◌, Bool, true, false, List, ◌++◌, length, take, drop, sym, ◌∙◌, ap, ap₂, subst, arith, Ok, Result}
use Rattle.std.specs.Prelude.{⊤}
use Rattle.std.proofs.lemmas.List.{take-append-drop, take-take, drop-take, drop-drop, drop_at, length-take-le}
use borrow.Rule.Slice.PartMut.{put_mid}
use Rattle.std.proofs.lemmas.Slice.{take-put_mid, take-put_mid_below, drop-put_mid}
use Rattle.td_disk.specs.declared.error.Fault.{Fault}
use Rattle.td_disk.specs.Disk.{bytes_at}
use Rattle.td_live.specs.Readings.{IsReading}

-- what stands up to the end of a piece: what stands before it, and the piece
pub with_piece : (at n : ℕ) (xs : List ℕ) → take (at + n) xs ≡ take at xs ++ bytes_at at n xs
with_piece at n xs =
    sym (take-append-drop at (take (at + n) xs))
    ∙ ap₂ (λ (a b : List ℕ). a ++ b) (take-take at (at + n) xs (omega arith)) (drop-take at n xs)

module _ {D : Type 0} (gives : D → ℕ → List ℕ → Result ⊤ Fault → D → Type 0) where
  pub more_read : (front last bytes : List ℕ) (at : ℕ) (old mid new : D) → length front ≡ at → bytes ≡ front ++ last
      → IsReading gives front old mid → gives mid at last (Ok tt) new → IsReading gives bytes old new
  more_read front last bytes at old mid new size is reading gave =
      (suc reading.0, (front, last, mid, is, reading.1, subst (λ (n : ℕ). gives mid n last (Ok tt) new) (sym size) gave))

-- a piece ys is written over the k bytes from a place on; first is what all began with
module _ (at n k : ℕ) (old ys first : List ℕ) (fits : at ≤ length old) (long : length ys ≡ n) (is : k ≡ n) where
  abbrev over : List ℕ
  over = put_mid at k old ys

  pub front : take (at + n) over ≡ take at old ++ ys
  front = take-put_mid at k old ys (at + n) (ap (λ (m : ℕ). at + m) (sym long)) fits

  pub rest : drop at old ≡ drop at first → drop (at + n) over ≡ drop (at + n) first
  rest e = drop-put_mid at k old ys (at + n) (omega (arith, is)) fits (long ∙ sym is)
      ∙ (sym (drop-drop n at old) ∙ (ap (drop n) e ∙ drop-drop n at first))

  pub lawful : (state : List ℕ) (m : ℕ) → m ≡ n → take at old ≡ take at state → ys ≡ bytes_at at m state → take (at + n) over ≡ take (at + n) state
  lawful state m size e p = front ∙ (ap₂ (λ (a b : List ℕ). a ++ b) e (p ∙ ap (λ (j : ℕ). bytes_at at j state) size) ∙ sym (with_piece at n state))

  -- the piece as it stood before
  piece_before : drop at old ≡ drop at first → bytes_at at k old ≡ bytes_at at n first
  piece_before e = ap (λ (j : ℕ). take j (drop at old)) is ∙ ap (take n) e

  pub same : take at old ≡ take at first → drop at old ≡ drop at first → ys ≡ bytes_at at k old → take (at + n) over ≡ take (at + n) first
  same e d p = front ∙ (ap₂ (λ (a b : List ℕ). a ++ b) e (p ∙ piece_before d) ∙ sym (with_piece at n first))

  pub other_piece : drop at old ≡ drop at first → (ys ≡ bytes_at at k old → ⊥) → take (at + n) over ≡ take (at + n) first → ⊥
  other_piece d differs e = differs (
      sym (drop_at (take at old) ys at (length-take-le at old fits)) ∙ (ap (drop at) (sym front) ∙ (ap (drop at) e ∙ (drop-take at n first ∙ sym (piece_before d))))
      )

  pub other_front : (take at old ≡ take at first → ⊥) → take (at + n) over ≡ take (at + n) first → ⊥
  other_front differs e = differs (
      sym (take-put_mid_below at k old ys at (omega arith) fits)
      ∙ (sym (take-take at (at + n) over (omega arith)) ∙ (ap (take at) e ∙ take-take at (at + n) first (omega arith)))
      )

-- whether all pieces were the same, after one more
abbrev pub OneMore : Bool → Bool → Bool → Type 0
OneMore old piece new = ((piece ≡ false) × (new ≡ false)) ⊎ ((piece ≡ true) × (new ≡ old))

pub same_more : {A P B : Type 0} (old piece new : Bool) → OneMore old piece new → (old ≡ true → A) → (piece ≡ true → P) → (A → P → B) → new ≡ true → B
same_more old piece new (inl h) a p b e = let no : false ≡ true = sym h.1 ∙ e in cc
same_more old piece new (inr h) a p b e = b (a (sym h.1 ∙ e)) (p h.0)

pub other_more : {B : Type 0} (old piece new : Bool) → OneMore old piece new → (old ≡ false → B → ⊥) → (piece ≡ false → B → ⊥) → new ≡ false → B → ⊥
other_more old piece new (inl h) a p e b = p h.0 b
other_more old piece new (inr h) a p e b = a (sym h.1 ∙ e) b
