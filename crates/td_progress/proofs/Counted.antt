-- How often a pointstamp occurs.
use Rattle.std.proofs.Common.{◌≡◌, ℕ, zero, suc, ◌+◌, ◌*◌, ◌<◌, ◌≤◌, Bool, true, false, cond, List, [], ◌∷◌, ◌++◌, replicate, length, None, Some, is_some, Contains, refl, sym, ap, ◌∙◌, true≢false, arith}
use Rattle.std.proofs.lemmas.List.Sums.{sum_by-cons, sum_by-append, count_by-le-length}
use Rattle.std.proofs.lemmas.List.Folds.{sum_by-replicate}
use Rattle.td_reach.specs.declared.stamp.Stamp.{Stamp}
use Rattle.td_progress.specs.Bag.{is_stamp, occurrences}
use Rattle.td_progress.proofs.Same.{Decides-is_stamp}

abbrev pub one : Bool → ℕ
one b = cond b 1 0

-- b times n
abbrev pub if_so : Bool → ℕ → ℕ
if_so b n = cond b n 0

times-one : (b : Bool) (n : ℕ) → n * one b ≡ if_so b n
times-one true n = omega arith
times-one false n = omega arith

module _ (p : Stamp) where
  pub occurrences-cons : (x : Stamp) (xs : List Stamp) → occurrences p (x ∷ xs) ≡ one (is_stamp p x) + occurrences p xs
  occurrences-cons x xs = sum_by-cons (λ y. one (is_stamp p y)) x xs

  pub occurrences-append : (xs ys : List Stamp) → occurrences p (xs ++ ys) ≡ occurrences p xs + occurrences p ys
  occurrences-append xs ys = sum_by-append (λ y. one (is_stamp p y)) xs ys

  pub occurrences-more : (n : ℕ) (x : Stamp) (ys : List Stamp) → occurrences p (replicate n x ++ ys) ≡ if_so (is_stamp p x) n + occurrences p ys
  occurrences-more n x ys =
      occurrences-append (replicate n x) ys
      ∙ ap (λ m. m + occurrences p ys) (sum_by-replicate (λ y. one (is_stamp p y)) n x ∙ times-one (is_stamp p x) n)

  -- what stands in a list occurs in it
  pub occurs : (xs : List Stamp) → Contains xs p → 0 < occurrences p xs
  occurs [] h = omega (arith, h.1)
  occurs (x ∷ xs) (zero, within, h) =
      let here : is_stamp p x ≡ true = (Decides-is_stamp p x).1 (sym h) in
      let all = occurrences-cons x xs ∙ ap (λ b. one b + occurrences p xs) here in
      omega (arith, all)
  occurs (x ∷ xs) (suc k, within, h) =
      let later = occurs xs (k, omega (arith, within), h) in
      let all = occurrences-cons x xs in
      omega (arith, all, later)

  pub stands : (xs : List Stamp) → 0 < occurrences p xs → Contains xs p
  stands [] h = absurd (omega (arith, h))
  stands (x ∷ xs) h = by (is_stamp p x) refl (stands xs)
    where
      by : (b : Bool) → is_stamp p x ≡ b → (0 < occurrences p xs → Contains xs p) → Contains (x ∷ xs) p
      by true same further = (0, omega arith, sym ((Decides-is_stamp p x).0 same))
      by false other further =
          let all = occurrences-cons x xs ∙ ap (λ b. one b + occurrences p xs) other in
          let later = further (omega (arith, h, all)) in
          (suc later.0, omega (arith, later.1), later.2)

-- no option is both
pub none_is_some : {X : Type 0} {x : X} → None ≡ Some x → ⊥
none_is_some e = true≢false (sym (ap is_some e))

pub occurrences-le : (p : Stamp) (xs : List Stamp) → occurrences p xs ≤ length xs
occurrences-le p xs = count_by-le-length (is_stamp p) xs
