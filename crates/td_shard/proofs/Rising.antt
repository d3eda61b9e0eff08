-- Lists that rise: where their elements stand, and what a change of them keeps.
use Rattle.std.proofs.Common.{◌≡◌, ℕ, zero, suc, ◌<◌, ◌≤◌, Bool, true, false, cond, List, [], ◌∷◌, ◌++◌, length, get_or, take, drop, filter, nat_lt, append-nil, arith, refl, ap, sym, ◌∙◌}
use Rattle.std.specs.List.{AllByRecursion, AllWithin, insert, position_or_len}
use Rattle.std.specs.List.Sorted.{IsPartitionedBy, IsPartitionPoint}
use Rattle.std.specs.declared.cmp.Ordering.{Ordering}
use Rattle.std.specs.declared.cmp.Ordering.TheVariants.{Less, Equal, Greater}
use Rattle.std.specs.Ordering.{is_eq, is_gt, ordering_reverse}
use Rattle.std.specs.Cmp.{IsTotalOrder}
use Rattle.std.specs.FinMap.{IsAntisymmetric}
use Rattle.std.proofs.Math.ListN.{take-append-drop}
use Rattle.std.proofs.lemmas.Bool.{ltb-true, ltb-false}
use Rattle.std.proofs.lemmas.Cmp.{upto, tied_itself}
use Rattle.std.proofs.lemmas.List.Elements.{All-from_recursion, filter-append}
use Rattle.std.proofs.lemmas.List.Sums.{position_or_len_is}
use Rattle.td_stamp.specs.Bag.{bag_insert, bag_remove}
use Rattle.td_stamp.specs.Rises.{IsBelowAll, Rises}
use Rattle.td_shard.proofs.Between.{insert-lower}

-- WHAT HOLDS of each element before a place, or behind it
before : {X : Type 0} (P : X → Type 0) (xs : List X) (n : ℕ) → n ≤ length xs → AllWithin P xs 0 n → AllByRecursion P (take n xs)
before P xs zero l w = tt
before P [] (suc n) l w = tt
before P (x ∷ xs) (suc n) l w = (w zero x (omega arith) (omega arith), before P xs n (omega (arith, l)) (λ k d a b. w (suc k) d (omega arith) (omega (arith, b))))

behind : {X : Type 0} (P : X → Type 0) (xs : List X) (n : ℕ) → AllWithin P xs n (length xs) → AllByRecursion P (drop n xs)
behind P [] zero w = tt
behind P [] (suc n) w = tt
behind P (x ∷ xs) zero w = (w zero x (omega arith) (omega arith), behind P xs zero (λ k d a b. w (suc k) d (omega arith) (omega (arith, b))))
behind P (x ∷ xs) (suc n) w = behind P xs n (λ k d a b. w (suc k) d (omega (arith, a)) (omega (arith, b)))

all-pass : {X : Type 0} (p : X → Bool) (xs : List X) → AllByRecursion (λ x. p x ≡ true) xs → filter p xs ≡ xs
all-pass p [] h = refl
all-pass p (x ∷ xs) h = λ i. cond (h.0 i) (x ∷ all-pass p xs h.1 i) (all-pass p xs h.1 i)

none-pass : {X : Type 0} (p : X → Bool) (xs : List X) → AllByRecursion (λ x. p x ≡ false) xs → filter p xs ≡ []
none-pass p [] h = refl
none-pass p (x ∷ xs) h = λ i. cond (h.0 i) (x ∷ none-pass p xs h.1 i) (none-pass p xs h.1 i)

-- those that pass a test are the first, or the last
pub first-pass : {X : Type 0} (p : X → Bool) (xs : List X) (n : ℕ) → n ≤ length xs → IsPartitionPoint (λ x. p x ≡ true) (λ x. p x ≡ false) xs n → take n xs ≡ filter p xs
first-pass p xs n l w =
    let first = all-pass p (take n xs) (before (λ x. p x ≡ true) xs n l w.0) in
    let others = none-pass p (drop n xs) (behind (λ x. p x ≡ false) xs n w.1) in
    sym (ap (filter p) (sym (take-append-drop n xs)) ∙ (filter-append p (take n xs) (drop n xs) ∙ ((λ i. first i ++ others i) ∙ append-nil (take n xs))))

pub last-pass : {X : Type 0} (p : X → Bool) (xs : List X) (n : ℕ) → n ≤ length xs → IsPartitionPoint (λ x. p x ≡ false) (λ x. p x ≡ true) xs n → drop n xs ≡ filter p xs
last-pass p xs n l w =
    let first = none-pass p (take n xs) (before (λ x. p x ≡ false) xs n l w.0) in
    let others = all-pass p (drop n xs) (behind (λ x. p x ≡ true) xs n w.1) in
    sym (ap (filter p) (sym (take-append-drop n xs)) ∙ (filter-append p (take n xs) (drop n xs) ∙ (λ i. first i ++ others i)))

-- WHAT KEEPS THE ORDER: a removal, and a test
module _ {X : Type 0} (cmp : X → X → Ordering) where
  each-removed : (P : X → Type 0) (x : X) (ys : List X) → AllByRecursion P ys → AllByRecursion P (bag_remove cmp x ys)
  each-removed P x [] h = tt
  each-removed P x (y ∷ ys) h = by (cmp x y) (each-removed P x ys h.1)
    where
      by : (o : Ordering) → AllByRecursion P (bag_remove cmp x ys) → AllByRecursion P (elim o [ Equal ↦ ys | _ ↦ y ∷ bag_remove cmp x ys ])
      by Less rest = (h.0, rest)
      by Equal rest = h.1
      by Greater rest = (h.0, rest)

  pub rises-removed : (x : X) (ys : List X) → Rises cmp ys → Rises cmp (bag_remove cmp x ys)
  rises-removed x [] r = tt
  rises-removed x (y ∷ ys) r = by (cmp x y) (each-removed (λ z. is_gt (cmp y z) ≡ false) x ys r.0) (rises-removed x ys r.1)
    where
      by : (o : Ordering) → IsBelowAll cmp y (bag_remove cmp x ys) → Rises cmp (bag_remove cmp x ys) → Rises cmp (elim o [ Equal ↦ ys | _ ↦ y ∷ bag_remove cmp x ys ])
      by Less below rest = (below, rest)
      by Equal below rest = r.1
      by Greater below rest = (below, rest)

  each-filter : (P : X → Type 0) (p : X → Bool) (ys : List X) → AllByRecursion P ys → AllByRecursion P (filter p ys)
  each-filter P p [] h = tt
  each-filter P p (y ∷ ys) h = by (p y) (each-filter P p ys h.1)
    where
      by : (b : Bool) → AllByRecursion P (filter p ys) → AllByRecursion P (cond b (y ∷ filter p ys) (filter p ys))
      by true rest = (h.0, rest)
      by false rest = rest

  pub rises-filter : (p : X → Bool) (ys : List X) → Rises cmp ys → Rises cmp (filter p ys)
  rises-filter p [] r = tt
  rises-filter p (y ∷ ys) r = by (p y) (each-filter (λ z. is_gt (cmp y z) ≡ false) p ys r.0) (rises-filter p ys r.1)
    where
      by : (b : Bool) → IsBelowAll cmp y (filter p ys) → Rises cmp (filter p ys) → Rises cmp (cond b (y ∷ filter p ys) (filter p ys))
      by true below rest = (below, rest)
      by false below rest = rest

module _ {X : Type 0} (cmp : X → X → Ordering) (total : IsTotalOrder cmp) where
  above : (o : Ordering) → is_gt o ≡ true → o ≡ Greater
  above Less e = cc
  above Equal e = cc
  above Greater e = refl

  back : (x y : X) → cmp x y ≡ Greater → is_gt (cmp y x) ≡ false
  back x y e = ap is_gt (total.antisymm y x ∙ ap ordering_reverse e)

  further : (x y : X) (zs : List X) → is_gt (cmp x y) ≡ false → IsBelowAll cmp y zs → IsBelowAll cmp x zs
  further x y [] e h = tt
  further x y (z ∷ zs) e h = (upto total x y z e h.0, further x y zs e h.1)

  -- AN INSERTION keeps the order
  below-inserted : (x y : X) (zs : List X) → is_gt (cmp x y) ≡ false → IsBelowAll cmp x zs → IsBelowAll cmp x (bag_insert cmp y zs)
  below-inserted x y [] e h = (e, tt)
  below-inserted x y (z ∷ zs) e h = by (cmp y z) (below-inserted x y zs e h.1)
    where
      by : (o : Ordering) → IsBelowAll cmp x (bag_insert cmp y zs) → IsBelowAll cmp x (elim o [ Greater ↦ z ∷ bag_insert cmp y zs | _ ↦ y ∷ z ∷ zs ])
      by Less rest = (e, h)
      by Equal rest = (e, h)
      by Greater rest = (h.0, rest)

  pub rises-inserted : (x : X) (ys : List X) → Rises cmp ys → Rises cmp (bag_insert cmp x ys)
  rises-inserted x [] r = (tt, tt)
  rises-inserted x (y ∷ ys) r = by (cmp x y) refl (rises-inserted x ys r.1)
    where
      first : is_gt (cmp x y) ≡ false → Rises cmp (x ∷ y ∷ ys)
      first e = ((e, further x y ys e r.0), r)

      by : (o : Ordering) → cmp x y ≡ o → Rises cmp (bag_insert cmp x ys) → Rises cmp (elim o [ Greater ↦ y ∷ bag_insert cmp x ys | _ ↦ x ∷ y ∷ ys ])
      by Less e rest = first (ap is_gt e)
      by Equal e rest = first (ap is_gt e)
      by Greater e rest = (below-inserted y x ys (back x y e) r.0, rest)

  -- A PLACE: all that are below x stand before it
  abbrev pub IsPlace : X → List X → ℕ → Type 0
  IsPlace x xs n = IsPartitionPoint (λ y. cmp x y ≡ Greater) (λ y. is_gt (cmp x y) ≡ false) xs n

  pub rises-at : (xs : List X) → Rises cmp xs → (i j : ℕ) (d : X) → i ≤ j → j < length xs → is_gt (cmp (get_or xs i d) (get_or xs j d)) ≡ false
  rises-at [] r i j d le h = absurd (omega (arith, h))
  rises-at (x ∷ xs) r zero zero d le h = ap is_gt (tied_itself total x)
  rises-at (x ∷ xs) r zero (suc j) d le h = All-from_recursion (λ y. is_gt (cmp x y) ≡ false) xs r.0 j d (omega (arith, h))
  rises-at (x ∷ xs) r (suc i) zero d le h = absurd (omega (arith, le))
  rises-at (x ∷ xs) r (suc i) (suc j) d le h = rises-at xs r.1 i j d (omega (arith, le)) (omega (arith, h))

  pub parted : (x : X) (xs : List X) → Rises cmp xs → IsPartitionedBy (λ y. is_gt (cmp x y)) xs
  parted x xs r i j d le h e = by (is_gt (cmp x (get_or xs i d))) refl
    where
      by : (b : Bool) → is_gt (cmp x (get_or xs i d)) ≡ b → is_gt (cmp x (get_or xs i d)) ≡ true
      by true f = f
      by false f = let no : true ≡ false = sym e ∙ upto total x (get_or xs i d) (get_or xs j d) f (rises-at xs r i j d le h) in cc

  pub is-place : (x : X) (xs : List X) (n : ℕ) → IsPartitionPoint (λ y. is_gt (cmp x y) ≡ true) (λ y. is_gt (cmp x y) ≡ false) xs n → IsPlace x xs n
  is-place x xs n w = (λ k d a b. above (cmp x (get_or xs k d)) (w.0 k d a b), w.1)

  -- one that is put in at its place
  pub put-at : (x : X) (xs : List X) (n : ℕ) → n ≤ length xs → IsPlace x xs n → insert xs n x ≡ bag_insert cmp x xs
  put-at x xs n l w =
      sym (ap (bag_insert cmp x) (sym (take-append-drop n xs))
      ∙ (insert-lower cmp x (take n xs) (drop n xs) (before (λ y. cmp x y ≡ Greater) xs n l w.0) ∙ ap (λ ys. take n xs ++ ys) (first (drop n xs) (behind (λ y. is_gt (cmp x y) ≡ false) xs n w.1))))
    where
      first : (ys : List X) → IsBelowAll cmp x ys → bag_insert cmp x ys ≡ x ∷ ys
      first [] h = refl
      first (y ∷ ys) h = by (cmp x y) h.0
        where
          by : (o : Ordering) → is_gt o ≡ false → elim o [ Greater ↦ y ∷ bag_insert cmp x ys | _ ↦ x ∷ y ∷ ys ] ≡ x ∷ y ∷ ys
          by Less e = refl
          by Equal e = refl
          by Greater e = cc

  -- where x stands, if it does
  pub found-at : (x : X) (xs : List X) (n : ℕ) (d : X) → n < length xs → IsPlace x xs n → cmp x (get_or xs n d) ≡ Equal → position_or_len (λ y. is_eq (cmp x y)) xs ≡ n
  found-at x xs n d h w e = position_or_len_is (λ y. is_eq (cmp x y)) xs n d (omega (arith, h)) (λ k b. ap is_eq (w.0 k d (omega arith) b)) (λ b. ap is_eq e)

  module _ (same : IsAntisymmetric cmp) where
    pub found-nowhere : (x : X) (xs : List X) (n : ℕ) (d : X) → Rises cmp xs → IsPlace x xs n → (n < length xs → is_eq (cmp x (get_or xs n d)) ≡ false)
        → position_or_len (λ y. is_eq (cmp x y)) xs ≡ length xs
    found-nowhere x xs n d r w other = position_or_len_is (λ y. is_eq (cmp x y)) xs (length xs) d (omega arith) (λ k b. at k b (nat_lt k n) refl) (λ b. absurd (omega (arith, b)))
      where
        later : (k : ℕ) → n ≤ k → k < length xs → (o p : Ordering) → cmp x (get_or xs k d) ≡ o → cmp x (get_or xs n d) ≡ p → is_eq (cmp x (get_or xs k d)) ≡ false
        later k le b Less p e f = ap is_eq e
        later k le b Greater p e f = ap is_eq e
        later k le b Equal Equal e f = absurd (let h : true ≡ false = sym (ap is_eq f) ∙ other (omega (arith, le, b)) in cc)
        later k le b Equal Greater e f = absurd (let h : true ≡ false = sym (ap is_gt f) ∙ w.1 n d (omega arith) (omega (arith, le, b)) in cc)
        later k le b Equal Less e f =
            let here : x ≡ get_or xs k d = same x (get_or xs k d) e in
            let over : cmp (get_or xs n d) x ≡ Greater = total.antisymm (get_or xs n d) x ∙ ap ordering_reverse f in
            absurd (let h : true ≡ false = sym (ap is_gt over) ∙ (ap (λ y. is_gt (cmp (get_or xs n d) y)) here ∙ rises-at xs r n k d le b) in cc)

        at : (k : ℕ) → k < length xs → (b : Bool) → nat_lt k n ≡ b → is_eq (cmp x (get_or xs k d)) ≡ false
        at k b true e = ap is_eq (w.0 k d (omega arith) (ltb-true k n e))
        at k b false e = later k (ltb-false k n e) b (cmp x (get_or xs k d)) (cmp x (get_or xs n d)) refl refl
