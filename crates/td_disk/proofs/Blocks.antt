-- A block of a disk's bytes, and two calls of a disk in turn.
use Rattle.std.proofs.Common.{◌≡◌, inl, inr, ⊎_elim, ℕ, ◌+◌, ◌-◌, ◌≤◌, List, length, take, drop, ◌∙◌, ap, arith, take-take}
use Rattle.std.proofs.lemmas.List.{drop-take, drop-drop}
use Rattle.td_disk.specs.Disk.{DiskState, bytes_at, NoNewImages, TimePasses}

-- What stands in a block is what stands on the disk.
pub in_block : (bs block : List ℕ) (start first at n : ℕ) → block ≡ bytes_at start (length block) bs → start + first ≡ at → first + n ≤ length block
    → take n (drop first block) ≡ bytes_at at n bs
in_block bs block start first at n is place within =
    let m = length block - first in
    ap (λ (l : List ℕ). take n (drop first l)) (is ∙ ap (λ (k : ℕ). take k (drop start bs)) (omega (arith, within)))
    ∙ (ap (take n) (drop-take first m (drop start bs)) ∙ (take-take n m (drop first (drop start bs)) (omega (arith, within))
    ∙ ap (take n) (drop-drop first start bs ∙ ap (λ (k : ℕ). drop k bs) place)))

-- Two calls, the first of which makes no image possible.
pub in_turn : (a b c : DiskState) → ((t : ℕ) (x : List ℕ) → t ≤ a.moment → a.images x → a.since t x) → NoNewImages a b → TimePasses a b → TimePasses b c → TimePasses a c
in_turn a b c counts none one two = record {
  later = omega (arith, one.later, two.later);
  nothing_else = λ t x le left. ⊎_elim
      (λ was. ⊎_elim (λ earlier. inl earlier) (λ now. inl (counts t x le (none x now))) (one.nothing_else t x le was))
      (λ now. inr now) (two.nothing_else t x (omega (arith, le, one.later)) left);
  keeps = λ t x le left. two.keeps t x (omega (arith, le, one.later)) (one.keeps t x le left);
}
