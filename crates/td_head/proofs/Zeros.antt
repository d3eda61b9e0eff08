-- Zeros over a range.
use Rattle.std.proofs.Common.{◌≡◌, ⊎_elim, ℕ, zero, suc, ◌+◌, ◌-◌, ◌<◌, ◌≤◌, List, length, take, drop, replicate, refl, sym, ap, ◌∙◌, arith}
use Rattle.std.specs.Prelude.{slice_index}
use Rattle.std.proofs.lemmas.Bool.{cases_lt}
use Rattle.std.proofs.lemmas.List.{get_or-take, get_or-drop, length-take-le, length-replicate}
use Rattle.td_disk.specs.Disk.{bytes_at, SameOutside}
use Rattle.td_head.specs.Images.{IsZero}

abbrev pub zeros : ℕ → List ℕ
zeros n = replicate n 0

zero_of : (n i : ℕ) → slice_index (zeros n) i ≡ 0
zero_of zero i = refl
zero_of (suc n) zero = refl
zero_of (suc n) (suc i) = zero_of n i

pub all_zero : (n : ℕ) → IsZero n (zeros n)
all_zero n = record { each = λ i lt. zero_of n i }

pub part_zero : (n k : ℕ) → k ≤ n → IsZero k (take k (zeros n))
part_zero n k le = record { each = λ i lt. get_or-take k (zeros n) i 0 lt ∙ zero_of n i }

pub part_size : (n k : ℕ) → k ≤ n → length (take k (zeros n)) ≡ k
part_size n k le = let size : length (zeros n) ≡ n = length-replicate n 0 in length-take-le k (zeros n) (omega (arith, size, le))

within : (at n i : ℕ) (image bytes : List ℕ) → bytes_at at n image ≡ bytes → IsZero n bytes → at ≤ i → i < at + n → slice_index image i ≡ 0
within at n i image bytes read zero_bytes le lt =
    let place : i ≡ at + (i - at) = omega (arith, le) in
    let few : i - at < n = omega (arith, le, lt) in
    ap (λ (j : ℕ). slice_index image j) place ∙ sym (get_or-drop at image (i - at) 0) ∙ sym (get_or-take n (drop at image) (i - at) 0 few)
    ∙ ap (λ (l : List ℕ). slice_index l (i - at)) read ∙ zero_bytes.each (i - at) few

-- zeros written after zeros
pub zeros_more : (at m k : ℕ) (old new bytes : List ℕ) → IsZero at old → SameOutside at (length bytes) old new → bytes_at at (length bytes) new ≡ bytes → length bytes ≡ k → IsZero k bytes → m ≤ at + k → IsZero m new
zeros_more at m k old new bytes was same read size zero_bytes le = record {
  each = λ i lt. ⊎_elim (λ before. same.before i before ∙ was.each i before)
      (λ from. within at k i new bytes (ap (λ (n : ℕ). bytes_at at n new) (sym size) ∙ read) zero_bytes from (omega (arith, lt, le))) (cases_lt i at);
}

-- a change of a range that lies within another one
pub wider : (at n m : ℕ) (old new : List ℕ) → at + n ≤ m → SameOutside at n old new → SameOutside 0 m old new
wider at n m old new le same = record { size = same.size; before = λ i lt. absurd (omega (arith, lt)); after = λ i from. same.after i (omega (arith, from, le)) }

-- two changes of one range
pub in_turn : (m : ℕ) (old mid new : List ℕ) → SameOutside 0 m old mid → SameOutside 0 m mid new → SameOutside 0 m old new
in_turn m old mid new one two = record { size = two.size ∙ one.size; before = λ i lt. absurd (omega (arith, lt)); after = λ i from. two.after i from ∙ one.after i from }

pub no_change : (m : ℕ) (old : List ℕ) → SameOutside 0 m old old
no_change m old = record { size = refl; before = λ i lt. refl; after = λ i from. refl }
