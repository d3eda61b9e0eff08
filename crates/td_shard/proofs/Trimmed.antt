-- Records that are let go, and where those that are kept begin.
use Rattle.std.proofs.Common.{◌≡◌, ℕ, zero, suc, ◌+◌, ◌-◌, ◌<◌, ◌≤◌, List, [], ◌∷◌, ◌++◌, map, length, get_or, set, drop, refl, sym, ap, ◌∙◌, subst, arith, length-drop}
use Rattle.td_shard.specs.declared.runs.Numbered.{Numbered}
use Rattle.td_shard.specs.declared.runs.Run.{Run}
use Rattle.td_shard.specs.Runs.{part, InOrder, BeginsAt, begin_of, taken_of}
use Rattle.td_shard.proofs.Ordered.{in_order-le, trimmed}

-- records of runs, and those that are kept of them from a number on
pub record Trimmed (s n t k : ℕ) (rs : List Run) (xs ys : List Numbered) : Type 0 where
  pub begins : BeginsAt t k rs
  pub ordered : InOrder t rs (t + k)
  pub parts : map (part t ys) rs ≡ map (part s xs) rs
  pub fewer : k ≤ n
  pub numbers : t + k ≤ s + n

is_trimmed : (s : ℕ) (rs : List Run) (xs : List Numbered) → InOrder s rs (s + length xs)
    → let ys = drop (taken_of s (length xs) rs) xs in Trimmed s (length xs) (begin_of rs) (length ys) rs xs ys
is_trimmed s [] xs l =
    let none = length-drop (length xs) xs in
    record {
      begins = (refl, omega (arith, none));
      ordered = omega arith;
      parts = refl;
      fewer = omega (arith, none);
      numbers = omega (arith, none);
    }
is_trimmed s (r ∷ rs) xs l =
    let n = r.at - s in
    let high = in_order-le r.end (s + length xs) rs l.2 in
    let at : r.at ≡ s + n = omega (arith, l.0) in
    let many = length-drop n xs in
    let end : s + length xs ≡ r.at + length (drop n xs) = omega (arith, l.0, l.1, high, many) in
    record {
      begins = refl;
      ordered = (omega arith, l.1, subst (InOrder r.end rs) end l.2);
      parts = ap (λ t. map (part t (drop n xs)) (r ∷ rs)) at ∙ trimmed s n (r ∷ rs) xs (s + length xs) (omega (arith, at), l.1, l.2);
      fewer = omega (arith, many);
      numbers = omega (arith, end);
    }

pub trimmed_so : (s n t k count : ℕ) (rs : List Run) (xs ys : List Numbered) → n ≡ length xs → k ≡ length ys → InOrder s rs (s + n) → count ≡ taken_of s n rs → t ≡ begin_of rs → ys ≡ drop count xs → Trimmed s n t k rs xs ys
trimmed_so s n t k count rs xs ys long many l taken first its =
    let whole = subst (λ i. InOrder s rs (s + i)) long l in
    let all : ys ≡ drop (taken_of s (length xs) rs) xs = its ∙ ap (λ i. drop i xs) (taken ∙ ap (λ i. taken_of s i rs) long) in
    subst (λ (i : ℕ × ℕ). Trimmed s i.0 t i.1 rs xs ys) (λ i. (sym long i, sym many i))
    (subst (λ u. Trimmed s (length xs) u (length ys) rs xs ys) (sym first)
    (subst (λ zs. Trimmed s (length xs) (begin_of rs) (length zs) rs xs zs) (sym all) (is_trimmed s rs xs whole)))

-- the first run
pub taken-front : (s n : ℕ) (rs : List Run) (r d : Run) → 0 < length rs → r ≡ get_or rs 0 d → r.at - s ≡ taken_of s n rs
taken-front s n [] r d h at = absurd (omega (arith, h))
taken-front s n (t ∷ rs) r d h at = ap (λ (x : Run). x.at - s) at

-- WHERE THEY BEGIN when one more run comes, and when one is changed that begins where it did
pub begins-push : (s n k : ℕ) (rs : List Run) (r : Run) → r.at ≡ s + n → BeginsAt s n rs → BeginsAt s k (rs ++ r ∷ [])
begins-push s n k [] r at b = let none = b.1 in omega (arith, at, none)
begins-push s n k (t ∷ rs) r at b = b

pub begins-set : (s n k : ℕ) (rs : List Run) (i : ℕ) (r x d : Run) → i < length rs → r ≡ get_or rs i d → x.at ≡ r.at → BeginsAt s n rs → BeginsAt s k (set rs i x)
begins-set s n k [] i r x d h at same b = absurd (omega (arith, h))
begins-set s n k (t ∷ rs) zero r x d h at same b = b ∙ sym (same ∙ ap (λ (y : Run). y.at) at)
begins-set s n k (t ∷ rs) (suc i) r x d h at same b = b
