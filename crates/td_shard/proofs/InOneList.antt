-- Records that are read, let go and moved in one list.
use Rattle.std.proofs.Common.{◌≡◌, ℕ, zero, suc, ◌+◌, ◌-◌, ◌<◌, ◌≤◌, List, [], ◌∷◌, ◌++◌, length, get_or, take, drop, refl, sym, ap, ◌∙◌, arith, length-drop}
use Rattle.std.proofs.lemmas.List.{take_more, drop_more, get_or-drop, drop-drop}
use Rattle.std.specs.List.{remove}
use Rattle.td_stamp.specs.declared.values.Rec.{Rec}
use Rattle.td_shard.specs.Runs.{numbered}

module _ {X : Type 0} where
  -- one more is read
  pub read_more : (xs : List X) (from place : ℕ) (x : X) → from ≤ place → place < length xs → x ≡ get_or xs place x
      → take (place + 1 - from) (drop from xs) ≡ take (place - from) (drop from xs) ++ x ∷ []
  read_more xs from place x low h e =
      let more : place + 1 - from ≡ place - from + 1 = omega (arith, low) in
      let at : from + (place - from) ≡ place = omega (arith, low) in
      let within : place - from < length (drop from xs) = omega (arith, h, low, length-drop from xs) in
      ap (λ n. take n (drop from xs)) more
      ∙ (take_more (drop from xs) (place - from) x within
      ∙ ap (λ y. take (place - from) (drop from xs) ++ y ∷ []) (get_or-drop from xs (place - from) x ∙ (ap (λ n. get_or xs n x) at ∙ sym e)))

  -- one more is let go
  pub drop_one : (old xs : List X) (n : ℕ) → xs ≡ drop n old → drop 1 xs ≡ drop (n + 1) old
  drop_one old xs n e = ap (drop 1) e ∙ drop-drop 1 n old

  -- the one at a place, as a list
  pub one_at : (xs : List X) (i : ℕ) (x : X) → i < length xs → x ≡ get_or xs i x → take 1 (drop i xs) ≡ x ∷ []
  one_at xs i x h e = ap (take 1) (drop_more xs i x h) ∙ ap (λ y. y ∷ []) (sym e)

  -- one is taken out and put back before others
  pub moved : (to count i : ℕ) (xs : List X) (x : X) → i ≡ to + count → i < length xs → x ≡ get_or xs i x
      → take to (remove xs i) ++ x ∷ drop to (remove xs i) ≡ take to xs ++ (take 1 (drop count (drop to xs)) ++ remove (drop to xs) count)
  moved zero count i xs x e h f =
      let same : i ≡ count = omega (arith, e) in
      ap (λ l. l ++ remove xs i) (sym (one_at xs i x h f)) ∙ ap (λ n. take 1 (drop n xs) ++ remove xs n) same
  moved (suc to) count i [] x e h f = absurd (omega (arith, h))
  moved (suc to) count zero (y ∷ ys) x e h f = absurd (omega (arith, e))
  moved (suc to) count (suc i) (y ∷ ys) x e h f = ap (λ l. y ∷ l) (moved to count i ys x (omega (arith, e)) (omega (arith, h)) f)

pub length-numbered : (n : ℕ) (rs : List Rec) → length (numbered n rs) ≡ length rs
length-numbered n [] = refl
length-numbered n (r ∷ rs) = ap suc (length-numbered (n + 1) rs)

-- a numbered record more
pub number_more : (n i : ℕ) (rs : List Rec) (d : Rec) → i < length rs → take (i + 1) (numbered n rs) ≡ take i (numbered n rs) ++ record { number = n + i; rec = get_or rs i d } ∷ []
number_more n i [] d h = absurd (omega (arith, h))
number_more n zero (r ∷ rs) d h = let here : n ≡ n + 0 = omega arith in ap (λ m. record { number = m; rec = r } ∷ []) here
number_more n (suc i) (r ∷ rs) d h =
    let next : suc i + 1 ≡ suc (i + 1) = omega arith in
    let at : n + 1 + i ≡ n + suc i = omega arith in
    ap (λ m. take m (numbered n (r ∷ rs))) next
    ∙ ap (λ l. record { number = n; rec = r } ∷ l) (number_more (n + 1) i rs d (omega (arith, h)) ∙ ap (λ m. take i (numbered (n + 1) rs) ++ record { number = m; rec = get_or rs i d } ∷ []) at)
