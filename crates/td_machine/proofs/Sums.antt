-- Sums over lists, and counting a list by keys, each element under one key.
use Rattle.std.proofs.Common.{◌≡◌, ℕ, zero, suc, ◌+◌, ◌<◌, ◌≤◌, Bool, true, false, ◌⊎◌, inl, inr, List, [], ◌∷◌, ◌++◌, map, flat_map, filter, length, refl, ap, sym, ◌∙◌, arith, length-append, sum_by}
use Rattle.std.specs.Prelude.{nat_lt, if◌then◌else◌}
use Rattle.std.specs.List.{AllByRecursion}
use Rattle.std.proofs.lemmas.Bool.{ltb-true, ltb-false}
use Rattle.std.proofs.lemmas.List.{length-map}
use Rattle.std.proofs.lemmas.List.Sums.{sum_by-cons, sum_by-append}
use Rattle.td_batch.specs.Flow.{numbers_from}
use Rattle.td_machine.proofs.Lists.{filter_yes, filter_no, filter_app, filter_map, filter_none, all_everywhere, all_weaken}

-- SUMS
sum_step : {X Y : Type 0} (f : X → ℕ) (g : Y → ℕ) (x : X) (y : Y) (xs : List X) (ys : List Y) → f x ≡ g y → sum_by f xs ≡ sum_by g ys → sum_by f (x ∷ xs) ≡ sum_by g (y ∷ ys)
sum_step f g x y xs ys here rest = sum_by-cons f x xs ∙ (λ i. here i + rest i) ∙ sym (sum_by-cons g y ys)

pub sum_zero : {X : Type 0} (xs : List X) → sum_by (λ (x : X). 0) xs ≡ 0
sum_zero [] = refl
sum_zero {X = X} (x ∷ xs) = omega (arith, sum_by-cons (λ (y : X). 0) x xs, sum_zero xs)

pub sum_map : {X Y : Type 0} (f : Y → ℕ) (g : X → Y) (xs : List X) → sum_by f (map g xs) ≡ sum_by (λ x. f (g x)) xs
sum_map f g [] = refl
sum_map f g (x ∷ xs) = sum_step f (λ x. f (g x)) (g x) x (map g xs) xs refl (sum_map f g xs)

pub sum_flat : {X Y : Type 0} (f : Y → ℕ) (g : X → List Y) (xs : List X) → sum_by f (flat_map g xs) ≡ sum_by (λ x. sum_by f (g x)) xs
sum_flat f g [] = refl
sum_flat f g (x ∷ xs) = sum_by-append f (g x) (flat_map g xs) ∙ ap (λ n. sum_by f (g x) + n) (sum_flat f g xs) ∙ sym (sum_by-cons (λ x. sum_by f (g x)) x xs)

pub sum_alike : {X : Type 0} (f g : X → ℕ) (xs : List X) → AllByRecursion (λ x. f x ≡ g x) xs → sum_by f xs ≡ sum_by g xs
sum_alike f g [] h = refl
sum_alike f g (x ∷ xs) h = sum_step f g x x xs xs h.0 (sum_alike f g xs h.1)

pub sum_everywhere : {X : Type 0} (f g : X → ℕ) (xs : List X) → ((x : X) → f x ≡ g x) → sum_by f xs ≡ sum_by g xs
sum_everywhere f g xs h = sum_alike f g xs (all_everywhere (λ x. f x ≡ g x) h xs)

sum_add : {X : Type 0} (f g : X → ℕ) (xs : List X) → sum_by (λ x. f x + g x) xs ≡ sum_by f xs + sum_by g xs
sum_add f g [] = refl
sum_add f g (x ∷ xs) = omega (arith, sum_add f g xs, sum_by-cons (λ x. f x + g x) x xs, sum_by-cons f x xs, sum_by-cons g x xs)

-- the sum over pairs, in either order
pub sum_swap : {X Y : Type 0} (f : X → Y → ℕ) (xs : List X) (ys : List Y) → sum_by (λ x. sum_by (f x) ys) xs ≡ sum_by (λ y. sum_by (λ x. f x y) xs) ys
sum_swap f [] ys = sym (sum_zero ys)
sum_swap f (x ∷ xs) ys =
    sum_by-cons (λ x. sum_by (f x) ys) x xs ∙ ap (λ n. sum_by (f x) ys + n) (sum_swap f xs ys) ∙ sym (sum_add (f x) (λ y. sum_by (λ x. f x y) xs) ys)
    ∙ sum_everywhere (λ y. f x y + sum_by (λ x. f x y) xs) (λ y. sum_by (λ x. f x y) (x ∷ xs)) ys (λ y. sym (sum_by-cons (λ x. f x y) x xs))

-- over those that pass a test
pub sum_filter : {X : Type 0} (p : X → Bool) (f : X → ℕ) (xs : List X) → sum_by f (filter p xs) ≡ sum_by (λ x. if p x then f x else 0) xs
sum_filter p f [] = refl
sum_filter p f (x ∷ xs) = by (p x) refl (sum_filter p f xs)
  where
    by : (b : Bool) → p x ≡ b → sum_by f (filter p xs) ≡ sum_by (λ x. if p x then f x else 0) xs → sum_by f (filter p (x ∷ xs)) ≡ sum_by (λ x. if p x then f x else 0) (x ∷ xs)
    by true e rest = ap (sum_by f) (filter_yes p x xs e) ∙ sum_step f (λ x. if p x then f x else 0) x x (filter p xs) xs (ap (λ (b : Bool). if b then f x else 0) (sym e)) rest
    by false e rest =
        let none : (if p x then f x else 0) ≡ 0 = ap (λ (b : Bool). if b then f x else 0) e in
        ap (sum_by f) (filter_no p x xs e) ∙ rest ∙ omega (arith, none, sum_by-cons (λ x. if p x then f x else 0) x xs)

pub sum_if : {X : Type 0} (b : Bool) (f : X → ℕ) (xs : List X) → (if b then sum_by f xs else 0) ≡ sum_by (λ x. if b then f x else 0) xs
sum_if true f xs = refl
sum_if false f xs = sym (sum_zero xs)

-- over numbers from a later one on
pub sum_shift : (f : ℕ → ℕ) (d k n : ℕ) → sum_by f (numbers_from (d + k) n) ≡ sum_by (λ m. f (d + m)) (numbers_from k n)
sum_shift f d k zero = refl
sum_shift f d k (suc n) =
    let next : suc (d + k) ≡ d + suc k = omega arith in
    sum_step f (λ m. f (d + m)) (d + k) k (numbers_from (suc (d + k)) n) (numbers_from (suc k) n) refl ((λ i. sum_by f (numbers_from (next i) n)) ∙ sum_shift f d (suc k) n)

pub all_numbers : (k n : ℕ) → AllByRecursion (λ m. (k ≤ m) × (m < k + n)) (numbers_from k n)
all_numbers k zero = tt
all_numbers k (suc n) = ((omega arith, omega arith), all_weaken (λ m. (suc k ≤ m) × (m < suc k + n)) (λ m. (k ≤ m) × (m < k + suc n)) (λ m h. (let a = h.0 in omega (arith, a), let b = h.1 in omega (arith, b))) (numbers_from (suc k) n) (all_numbers (suc k) n))

-- COUNTS: how many pass a test
abbrev pub count : {X : Type 0} → (X → Bool) → List X → ℕ
count p xs = length (filter p xs)

pub count_app : {X : Type 0} (p : X → Bool) (xs ys : List X) → count p (xs ++ ys) ≡ count p xs + count p ys
count_app p xs ys = ap length (filter_app p xs ys) ∙ length-append (filter p xs) (filter p ys)

pub count_map : {X Y : Type 0} (p : Y → Bool) (f : X → Y) (xs : List X) → count p (map f xs) ≡ count (λ x. p (f x)) xs
count_map p f xs = ap length (filter_map p f xs) ∙ length-map (filter (λ x. p (f x)) xs) f

pub count_none : {X : Type 0} (p : X → Bool) (xs : List X) → ((x : X) → p x ≡ false) → count p xs ≡ 0
count_none p xs h = ap length (filter_none p xs (all_everywhere (λ x. p x ≡ false) h xs))

pub not_true : (b : Bool) → (b ≡ true → ⊥) → b ≡ false
not_true true h = absurd (h refl)
not_true false h = refl

-- as a sum
abbrev pub one_if : Bool → ℕ
one_if true = 1
one_if false = 0

pub count_sum : {X : Type 0} (p : X → Bool) (xs : List X) → count p xs ≡ sum_by (λ x. one_if (p x)) xs
count_sum p [] = refl
count_sum p (x ∷ xs) = by (p x) refl (count_sum p xs)
  where
    by : (b : Bool) → p x ≡ b → count p xs ≡ sum_by (λ x. one_if (p x)) xs → count p (x ∷ xs) ≡ sum_by (λ x. one_if (p x)) (x ∷ xs)
    by true e rest =
        let here : count p (x ∷ xs) ≡ suc (count p xs) = ap length (filter_yes p x xs e) in
        let one : one_if (p x) ≡ 1 = ap one_if e in
        omega (arith, here, rest, one, sum_by-cons (λ x. one_if (p x)) x xs)
    by false e rest =
        let here : count p (x ∷ xs) ≡ count p xs = ap length (filter_no p x xs e) in
        let none : one_if (p x) ≡ 0 = ap one_if e in
        omega (arith, here, rest, none, sum_by-cons (λ x. one_if (p x)) x xs)

-- A LIST BY KEYS: where each element has one key, the numbers of elements by key add up
module _ {K X : Type 0} (m : K → X → Bool) where
  one_more : (x : X) (xs : List X) (ks : List K) → sum_by (λ k. count (m k) (x ∷ xs)) ks ≡ count (λ k. m k x) ks + sum_by (λ k. count (m k) xs) ks
  one_more x xs [] = refl
  one_more x xs (k ∷ ks) = by (m k x) refl (one_more x xs ks)
    where
      by : (b : Bool) → m k x ≡ b → sum_by (λ k. count (m k) (x ∷ xs)) ks ≡ count (λ k. m k x) ks + sum_by (λ k. count (m k) xs) ks
          → sum_by (λ k. count (m k) (x ∷ xs)) (k ∷ ks) ≡ count (λ k. m k x) (k ∷ ks) + sum_by (λ k. count (m k) xs) (k ∷ ks)
      by true e rest =
          let here : count (m k) (x ∷ xs) ≡ suc (count (m k) xs) = ap length (filter_yes (m k) x xs e) in
          let there : count (λ k. m k x) (k ∷ ks) ≡ suc (count (λ k. m k x) ks) = ap length (filter_yes (λ k. m k x) k ks e) in
          omega (arith, rest, here, there, sum_by-cons (λ k. count (m k) (x ∷ xs)) k ks, sum_by-cons (λ k. count (m k) xs) k ks)
      by false e rest =
          let here : count (m k) (x ∷ xs) ≡ count (m k) xs = ap length (filter_no (m k) x xs e) in
          let there : count (λ k. m k x) (k ∷ ks) ≡ count (λ k. m k x) ks = ap length (filter_no (λ k. m k x) k ks e) in
          omega (arith, rest, here, there, sum_by-cons (λ k. count (m k) (x ∷ xs)) k ks, sum_by-cons (λ k. count (m k) xs) k ks)

  pub by_keys : (ks : List K) (xs : List X) → AllByRecursion (λ x. count (λ k. m k x) ks ≡ 1) xs → length xs ≡ sum_by (λ k. count (m k) xs) ks
  by_keys ks [] h = sym (sum_zero ks)
  by_keys ks (x ∷ xs) h = let r = by_keys ks xs h.1 in let s = one_more x xs ks in let o = h.0 in omega (arith, r, s, o)

-- one number of many has one that passes, and the others none
module _ {K : Type 0} (f : ℕ → List K) (p : K → Bool) (at : ℕ) (others : (j : ℕ) → (j ≡ at → ⊥) → count p (f j) ≡ 0) where
  pub none_of : (k n : ℕ) → (at < k) ⊎ (k + n ≤ at) → count p (flat_map f (numbers_from k n)) ≡ 0
  none_of k zero h = refl
  none_of k (suc n) h =
      let here = others k (λ e. by h e) in
      let rest = none_of (suc k) n (next h) in
      count_app p (f k) (flat_map f (numbers_from (suc k) n)) ∙ omega (arith, here, rest)
    where
      by : (at < k) ⊎ (k + suc n ≤ at) → k ≡ at → ⊥
      by (inl l) e = absurd (omega (arith, l, e))
      by (inr l) e = absurd (omega (arith, l, e))

      next : (at < k) ⊎ (k + suc n ≤ at) → (at < suc k) ⊎ (suc k + n ≤ at)
      next (inl l) = inl (omega (arith, l))
      next (inr l) = inr (omega (arith, l))

  pub one_of : (k n : ℕ) → count p (f at) ≡ 1 → k ≤ at → at < k + n → count p (flat_map f (numbers_from k n)) ≡ 1
  one_of k zero one l m = absurd (omega (arith, l, m))
  one_of k (suc n) one l m = count_app p (f k) (flat_map f (numbers_from (suc k) n)) ∙ by (nat_lt k at) refl (one_of (suc k) n one)
    where
      by : (b : Bool) → nat_lt k at ≡ b → (suc k ≤ at → at < suc k + n → count p (flat_map f (numbers_from (suc k) n)) ≡ 1) → count p (f k) + count p (flat_map f (numbers_from (suc k) n)) ≡ 1
      by true e rest =
          let lt = ltb-true k at e in
          let here = others k (λ s. absurd (omega (arith, lt, s))) in
          let later = rest (omega (arith, lt)) (omega (arith, m)) in
          omega (arith, here, later)
      by false e rest =
          let same : k ≡ at = omega (arith, l, ltb-false k at e) in
          let here : count p (f k) ≡ 1 = ap (λ j. count p (f j)) same ∙ one in
          let later = none_of (suc k) n (inl (omega (arith, same))) in
          omega (arith, here, later)
