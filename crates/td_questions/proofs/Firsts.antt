-- The first of a set into which others are put one by one: of what is left out, none comes back.
use Rattle.std.proofs.Common.{true, false, ◌≡◌, ℕ, zero, suc, ◌+◌, ◌≤◌, ◌<◌, List, [], ◌∷◌, ◌++◌, map, take, length, Option, Some, None, refl, ap, sym, ◌∙◌, arith}
use Rattle.std.specs.Prelude.{IfSome, IsSome, ◌↔◌}
use Rattle.std.specs.BTreeSet.{insert_key}
use Rattle.std.specs.List.{AllByRecursion}
use Rattle.std.specs.Ordering.{is_lt, is_le}
use Rattle.std.specs.Cmp.{IsTotalOrder}
use Rattle.std.specs.FinMap.{IsAntisymmetric}
use Rattle.std.specs.declared.cmp.Ordering.{Ordering}
use Rattle.std.specs.declared.cmp.Ordering.TheVariants.{Less, Equal, Greater}
use Rattle.td_stamp.specs.Bag.{set_insert, set_of}
use Rattle.td_stamp.specs.BagLaws.{SetLaws}
use Rattle.td_questions.specs.Asked.{at_most}
use Rattle.td_questions.specs.Weighed.{IsFew}

module _ {X : Type 0} where
  take_less : (n : ℕ) (xs : List X) → take n (take (suc n) xs) ≡ take n xs
  take_less zero xs = refl
  take_less (suc n) [] = refl
  take_less (suc n) (x ∷ xs) = ap (λ l. x ∷ l) (take_less n xs)

  take_more : (n : ℕ) (x : X) (xs : List X) → take n (x ∷ take n xs) ≡ take n (x ∷ xs)
  take_more zero x xs = refl
  take_more (suc n) x xs = ap (λ l. x ∷ l) (take_less n xs)

  take_twice : (n : ℕ) (xs : List X) → take n (take n xs) ≡ take n xs
  take_twice zero xs = refl
  take_twice (suc n) [] = refl
  take_twice (suc n) (x ∷ xs) = ap (λ l. x ∷ l) (take_twice n xs)

  take_few : (n : ℕ) (xs : List X) → length xs ≤ n → take n xs ≡ xs
  take_few zero [] h = refl
  take_few zero (x ∷ xs) h = absurd (omega (arith, h))
  take_few (suc n) [] h = refl
  take_few (suc n) (x ∷ xs) h = ap (λ l. x ∷ l) (take_few n xs (omega (arith, h)))

  take_all : (xs : List X) → take (length xs) xs ≡ xs
  take_all [] = refl
  take_all (x ∷ xs) = ap (λ l. x ∷ l) (take_all xs)

  take_before : (xs ys : List X) → take (length xs) (xs ++ ys) ≡ xs
  take_before [] ys = refl
  take_before (x ∷ xs) ys = ap (λ l. x ∷ l) (take_before xs ys)

  -- so many are all, where there are no more
  pub few_are_all : (count : Option ℕ) (xs : List X) → IsFew count xs → at_most count xs ≡ xs
  few_are_all None xs h = refl
  few_are_all (Some n) xs h = take_few n xs h

  at_most_twice : (count : Option ℕ) (xs : List X) → at_most count (at_most count xs) ≡ at_most count xs
  at_most_twice None xs = refl
  at_most_twice (Some n) xs = take_twice n xs

  -- and where there are so many, what comes after them is left out
  pub full : (count : Option ℕ) (xs ys : List X) → IsFew count xs → IfSome count (λ n. n ≤ length xs) → IsSome count → at_most count (xs ++ ys) ≡ xs
  full None xs ys h j k = absurd (cc)
  full (Some n) xs ys h j k = let e : n ≡ length xs = omega (arith, h, j) in ap (λ m. take m (xs ++ ys)) e ∙ take_before xs ys

  -- what is taken off at the back
  pub popped : (r : Option X) (old new : List X) → IfSome r (λ k. old ≡ new ++ k ∷ []) → (IsSome r ↔ (0 < length old)) → 0 < length old → (k : X) × (old ≡ new ++ k ∷ [])
  popped None old new h v l = let no : IsSome {T = X} None = v.1 l in absurd (cc)
  popped (Some k) old new h v l = (k, h)

  length_end : (xs : List X) (x : X) → length (xs ++ x ∷ []) ≡ length xs + 1
  length_end [] x = refl
  length_end (y ∷ ys) x = let rest = length_end ys x in omega (arith, rest)

  pub without_last : (n : ℕ) (old new : List X) (x : X) → old ≡ new ++ x ∷ [] → length old ≡ n + 1 → new ≡ take n old
  without_last n old new x is len =
      let l : length (new ++ x ∷ []) ≡ n + 1 = sym (ap length is) ∙ len in
      let m : n ≡ length new = let e = length_end new x in omega (arith, e, l) in
      sym (ap (take n) is ∙ (ap (λ k. take k (new ++ x ∷ [])) m ∙ take_before new (x ∷ [])))

  pub few_taken : (n : ℕ) (xs : List X) → length (take n xs) ≤ n
  few_taken zero xs = omega arith
  few_taken (suc n) [] = omega arith
  few_taken (suc n) (x ∷ xs) = let rest = few_taken n xs in omega (arith, rest)

module _ {X : Type 0} (cmp : X → X → Ordering) where
  -- what std puts into a set
  pub key_put : (x : X) (ys : List X) → insert_key cmp ys x ≡ set_insert cmp x ys
  key_put x [] = refl
  key_put x (y ∷ ys) = by (cmp x y) refl (key_put x ys)
    where
      by : (r : Ordering) → cmp x y ≡ r → insert_key cmp ys x ≡ set_insert cmp x ys → insert_key cmp (y ∷ ys) x ≡ set_insert cmp x (y ∷ ys)
      by Less e rest = rw (e, set_insert) refl
      by Equal e rest = rw (e, set_insert) refl
      by Greater e rest = rw (e, set_insert) (ap (λ l. y ∷ l) rest)

  pub one_more : (x : X) (ys : List X) → length (set_insert cmp x ys) ≤ length ys + 1
  one_more x [] = omega arith
  one_more x (y ∷ ys) = by (cmp x y) refl (one_more x ys)
    where
      by : (r : Ordering) → cmp x y ≡ r → length (set_insert cmp x ys) ≤ length ys + 1 → length (set_insert cmp x (y ∷ ys)) ≤ length (y ∷ ys) + 1
      by Less e rest = rw (e, set_insert) (omega arith)
      by Equal e rest = rw (e, set_insert) (omega arith)
      by Greater e rest = rw (e, set_insert) (omega (arith, rest))

  -- one that stands before none of so many is left out
  pub put_behind : (x : X) (ys : List X) → AllByRecursion (λ y. is_lt (cmp x y) ≡ false) ys → take (length ys) (set_insert cmp x ys) ≡ ys
  put_behind x [] h = refl
  put_behind x (y ∷ ys) h = by (cmp x y) refl h.0 (put_behind x ys h.1)
    where
      by : (r : Ordering) → cmp x y ≡ r → is_lt (cmp x y) ≡ false → take (length ys) (set_insert cmp x ys) ≡ ys → take (suc (length ys)) (set_insert cmp x (y ∷ ys)) ≡ y ∷ ys
      by Less e n rest = let no : true ≡ false = sym (ap is_lt e) ∙ n in cc
      by Equal e n rest = rw (e, set_insert) (ap (λ l. y ∷ l) (take_all ys))
      by Greater e n rest = rw (e, set_insert) (ap (λ l. y ∷ l) rest)

  put_take : (n : ℕ) (x : X) (ys : List X) → take n (set_insert cmp x (take n ys)) ≡ take n (set_insert cmp x ys)
  put_take zero x ys = refl
  put_take (suc n) x [] = refl
  put_take (suc n) x (y ∷ ys) = by (cmp x y) refl (put_take n x ys)
    where
      by : (r : Ordering) → cmp x y ≡ r → take n (set_insert cmp x (take n ys)) ≡ take n (set_insert cmp x ys)
          → take (suc n) (set_insert cmp x (y ∷ take n ys)) ≡ take (suc n) (set_insert cmp x (y ∷ ys))
      by Less e rest = rw (e, set_insert) (ap (λ l. x ∷ l) (take_more n y ys))
      by Equal e rest = rw (e, set_insert) (ap (λ l. y ∷ l) (take_twice n ys))
      by Greater e rest = rw (e, set_insert) (ap (λ l. y ∷ l) rest)

  put_at_most : (count : Option ℕ) (x : X) (ys : List X) → at_most count (set_insert cmp x (at_most count ys)) ≡ at_most count (set_insert cmp x ys)
  put_at_most None x ys = refl
  put_at_most (Some n) x ys = put_take n x ys

  -- a set with others put in, one after another
  abbrev pub put_all : List X → List X → List X
  put_all [] set = set
  put_all (x ∷ xs) set = put_all xs (set_insert cmp x set)

  pub all_at_most : (count : Option ℕ) (xs ys : List X) → at_most count (put_all xs (at_most count ys)) ≡ at_most count (put_all xs ys)
  all_at_most count [] ys = at_most_twice count ys
  all_at_most count (x ∷ xs) ys =
      sym (all_at_most count xs (set_insert cmp x (at_most count ys)))
      ∙ (ap (λ l. at_most count (put_all xs l)) (put_at_most count x ys) ∙ all_at_most count xs (set_insert cmp x ys))

  module _ (laws : SetLaws cmp) where
    put_out : (x : X) (xs ys : List X) → put_all xs (set_insert cmp x ys) ≡ set_insert cmp x (put_all xs ys)
    put_out x [] ys = refl
    put_out x (z ∷ xs) ys = ap (put_all xs) (laws.swaps z x ys) ∙ put_out x xs (set_insert cmp z ys)

    -- all that are put in are the set of them
    pub all_put : (xs : List X) → put_all xs [] ≡ set_of cmp xs
    all_put [] = refl
    all_put (x ∷ xs) = put_out x xs [] ∙ ap (set_insert cmp x) (all_put xs)

-- sets of which one is told by the other
module _ {X Y : Type 0} (cmp : X → X → Ordering) (other : Y → Y → Ordering) (f : X → Y) (alike : (x y : X) → other (f x) (f y) ≡ cmp x y) where
  put_map : (x : X) (ys : List X) → set_insert other (f x) (map f ys) ≡ map f (set_insert cmp x ys)
  put_map x [] = refl
  put_map x (y ∷ ys) = by (cmp x y) refl (put_map x ys)
    where
      by : (r : Ordering) → cmp x y ≡ r → set_insert other (f x) (map f ys) ≡ map f (set_insert cmp x ys) → set_insert other (f x) (map f (y ∷ ys)) ≡ map f (set_insert cmp x (y ∷ ys))
      by Less e rest = let d : other (f x) (f y) ≡ Less = alike x y ∙ e in rw (d, e, set_insert) refl
      by Equal e rest = let d : other (f x) (f y) ≡ Equal = alike x y ∙ e in rw (d, e, set_insert) refl
      by Greater e rest = let d : other (f x) (f y) ≡ Greater = alike x y ∙ e in rw (d, e, set_insert) (ap (λ l. f y ∷ l) rest)

  pub set_map : (xs : List X) → set_of other (map f xs) ≡ map f (set_of cmp xs)
  set_map [] = refl
  set_map (x ∷ xs) = ap (set_insert other (f x)) (set_map xs) ∙ put_map x (set_of cmp xs)

module _ {X Y : Type 0} (f : X → Y) where
  take_map : (n : ℕ) (xs : List X) → take n (map f xs) ≡ map f (take n xs)
  take_map zero xs = refl
  take_map (suc n) [] = refl
  take_map (suc n) (x ∷ xs) = ap (λ l. f x ∷ l) (take_map n xs)

  pub at_most_map : (count : Option ℕ) (xs : List X) → at_most count (map f xs) ≡ map f (at_most count xs)
  at_most_map None xs = refl
  at_most_map (Some n) xs = take_map n xs

  pub map_back : (g : Y → X) → ((x : X) → g (f x) ≡ x) → (xs : List X) → map g (map f xs) ≡ xs
  map_back g back [] = refl
  map_back g back (x ∷ xs) = λ i. back x i ∷ map_back g back xs i

-- of three in a total order
module _ {X : Type 0} (cmp : X → X → Ordering) (total : IsTotalOrder cmp) (apart : IsAntisymmetric cmp) where
  pub not_before : (x y z : X) → is_le (cmp x y) ≡ true → is_lt (cmp x z) ≡ false → is_lt (cmp y z) ≡ false
  not_before x y z le n = by (cmp y z) refl
    where
      by : (r : Ordering) → cmp y z ≡ r → is_lt (cmp y z) ≡ false
      by Equal e = ap is_lt e
      by Greater e = ap is_lt e
      by Less e = at (cmp x y) refl
        where
          at : (r : Ordering) → cmp x y ≡ r → is_lt (cmp y z) ≡ false
          at Less f = let no : true ≡ false = sym (ap is_lt (total.trans x y z f e)) ∙ n in cc
          at Equal f = let no : true ≡ false = sym (ap is_lt e) ∙ (ap (λ w. is_lt (cmp w z)) (sym (apart x y f)) ∙ n) in cc
          at Greater f = let no : false ≡ true = sym (ap is_le f) ∙ le in cc

all_weaker : {X : Type 0} (P Q : X → Type 0) → ((x : X) → P x → Q x) → (xs : List X) → AllByRecursion P xs → AllByRecursion Q xs
all_weaker P Q f [] h = tt
all_weaker P Q f (x ∷ xs) h = (f x h.0, all_weaker P Q f xs h.1)

-- of a set that has so many, of which the last stands no later than x, x is left out
pub behind : {X : Type 0} (cmp : X → X → Ordering) → IsTotalOrder cmp → IsAntisymmetric cmp → (most : ℕ) (x last : X) (set : List X) → most ≡ length set
    → is_le (cmp last x) ≡ true → AllByRecursion (λ y. is_lt (cmp last y) ≡ false) set → take most (set_insert cmp x set) ≡ set
behind cmp total apart most x last set many le h =
    ap (λ n. take n (set_insert cmp x set)) many
    ∙ put_behind cmp x set (all_weaker (λ y. is_lt (cmp last y) ≡ false) (λ y. is_lt (cmp x y) ≡ false) (λ y n. not_before cmp total apart last x y le n) set h)
