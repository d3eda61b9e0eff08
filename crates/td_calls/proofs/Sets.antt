-- Sets: what stands in them, and what of them passes a test.
use Rattle.std.proofs.Common.{◌≡◌, List, [], ◌∷◌, filter, not, refl, ap, sym, ◌∙◌, subst, Bool, true, false, ◌||◌}
use Rattle.std.specs.List.{AllByRecursion}
use Rattle.std.specs.declared.cmp.Ordering.{Ordering}
use Rattle.std.specs.declared.cmp.Ordering.TheVariants.{Less, Equal, Greater}
use Rattle.std.specs.Ordering.{is_eq, ordering_reverse}
use Rattle.std.specs.Cmp.{IsTotalOrder}
use Rattle.std.specs.FinMap.{IsAntisymmetric}
use Rattle.std.proofs.lemmas.Cmp.{tied_itself}
use Rattle.td_stamp.specs.Bag.{bag_insert, set_insert, set_of, has}
use Rattle.td_calls.proofs.Filters.{filter_yes, filter_no, filter_all, all_filter}

module _ {X : Type 0} (cmp : X → X → Ordering) where
  -- x is below each of these
  abbrev pub IsBelow : X → List X → Type 0
  IsBelow x ys = AllByRecursion (λ y. cmp x y ≡ Less) ys

  -- each is below all that come after it
  abbrev pub Rises : List X → Type 0
  Rises [] = Unit {0}
  Rises (x ∷ xs) = IsBelow x xs × Rises xs

module _ {X : Type 0} (cmp : X → X → Ordering) (total : IsTotalOrder cmp) (same : IsAntisymmetric cmp) where
  turned : (x y : X) → cmp x y ≡ Greater → cmp y x ≡ Less
  turned x y e = total.antisymm y x ∙ ap ordering_reverse e

  set_less : (x y : X) (ys : List X) → cmp x y ≡ Less → set_insert cmp x (y ∷ ys) ≡ x ∷ y ∷ ys
  set_less x y ys e = rw (e, set_insert) refl

  set_equal : (x y : X) (ys : List X) → cmp x y ≡ Equal → set_insert cmp x (y ∷ ys) ≡ y ∷ ys
  set_equal x y ys e = rw (e, set_insert) refl

  set_past : (x y : X) (ys : List X) → cmp x y ≡ Greater → set_insert cmp x (y ∷ ys) ≡ y ∷ set_insert cmp x ys
  set_past x y ys e = rw (e, set_insert) refl

  bag_less : (x y : X) (ys : List X) → cmp x y ≡ Less → bag_insert cmp x (y ∷ ys) ≡ x ∷ y ∷ ys
  bag_less x y ys e = rw (e, bag_insert) refl

  bag_past : (x y : X) (ys : List X) → cmp x y ≡ Greater → bag_insert cmp x (y ∷ ys) ≡ y ∷ bag_insert cmp x ys
  bag_past x y ys e = rw (e, bag_insert) refl

  -- x goes to the front of what it is below
  set_front : (x : X) (ys : List X) → IsBelow cmp x ys → set_insert cmp x ys ≡ x ∷ ys
  set_front x [] h = refl
  set_front x (y ∷ ys) h = set_less x y ys h.0

  bag_front : (x : X) (ys : List X) → IsBelow cmp x ys → bag_insert cmp x ys ≡ x ∷ ys
  bag_front x [] h = refl
  bag_front x (y ∷ ys) h = bag_less x y ys h.0

  below_through : (x y : X) (zs : List X) → cmp x y ≡ Less → IsBelow cmp y zs → IsBelow cmp x zs
  below_through x y [] e h = tt
  below_through x y (z ∷ zs) e h = (total.trans x y z e h.0, below_through x y zs e h.1)

  below_insert : (w x : X) (ys : List X) → cmp w x ≡ Less → IsBelow cmp w ys → IsBelow cmp w (set_insert cmp x ys)
  below_insert w x [] e h = (e, tt)
  below_insert w x (y ∷ ys) e h = by (cmp x y) refl (below_insert w x ys e h.1)
    where
      by : (r : Ordering) → cmp x y ≡ r → IsBelow cmp w (set_insert cmp x ys) → IsBelow cmp w (set_insert cmp x (y ∷ ys))
      by Less f rest = rw (set_less x y ys f) (e, h)
      by Equal f rest = rw (set_equal x y ys f) h
      by Greater f rest = rw (set_past x y ys f) (h.0, rest)

  Rises-set_insert : (x : X) (ys : List X) → Rises cmp ys → Rises cmp (set_insert cmp x ys)
  Rises-set_insert x [] h = (tt, tt)
  Rises-set_insert x (y ∷ ys) h = by (cmp x y) refl (Rises-set_insert x ys h.1)
    where
      by : (r : Ordering) → cmp x y ≡ r → Rises cmp (set_insert cmp x ys) → Rises cmp (set_insert cmp x (y ∷ ys))
      by Less e rest = rw (set_less x y ys e) ((e, below_through x y ys e h.0), h)
      by Equal e rest = rw (set_equal x y ys e) h
      by Greater e rest = rw (set_past x y ys e) (below_insert y x ys (turned x y e) h.0, rest)

  pub Rises-set_of : (xs : List X) → Rises cmp (set_of cmp xs)
  Rises-set_of [] = tt
  Rises-set_of (x ∷ xs) = Rises-set_insert x (set_of cmp xs) (Rises-set_of xs)

  -- WHAT STANDS IN A SET
  has_no : (x y : X) (ys : List X) → is_eq (cmp x y) ≡ false → has cmp x (y ∷ ys) ≡ has cmp x ys
  has_no x y ys e = ap (λ b. b || has cmp x ys) e

  has-set_insert : (x y : X) (zs : List X) → has cmp x (set_insert cmp y zs) ≡ has cmp x (y ∷ zs)
  has-set_insert x y [] = refl
  has-set_insert x y (z ∷ zs) = by (cmp y z) refl (has-set_insert x y zs)
    where
      twice : (b c : Bool) → (b || c) ≡ (b || (b || c))
      twice true c = refl
      twice false c = refl

      swap : (a b c : Bool) → (a || (b || c)) ≡ (b || (a || c))
      swap true true c = refl
      swap true false c = refl
      swap false b c = refl

      by : (r : Ordering) → cmp y z ≡ r → has cmp x (set_insert cmp y zs) ≡ has cmp x (y ∷ zs) → has cmp x (set_insert cmp y (z ∷ zs)) ≡ has cmp x (y ∷ z ∷ zs)
      by Less e rest = ap (has cmp x) (set_less y z zs e)
      by Equal e rest = ap (has cmp x) (set_equal y z zs e) ∙ twice (is_eq (cmp x z)) (has cmp x zs) ∙ ap (λ w. is_eq (cmp x w) || (is_eq (cmp x z) || has cmp x zs)) (sym (same y z e))
      by Greater e rest = ap (has cmp x) (set_past y z zs e) ∙ ap (λ b. is_eq (cmp x z) || b) rest ∙ swap (is_eq (cmp x z)) (is_eq (cmp x y)) (has cmp x zs)

  pub has-set_of : (x : X) (xs : List X) → has cmp x (set_of cmp xs) ≡ has cmp x xs
  has-set_of x [] = refl
  has-set_of x (y ∷ xs) = has-set_insert x y (set_of cmp xs) ∙ ap (λ b. is_eq (cmp x y) || b) (has-set_of x xs)

  not_below : (x : X) (ys : List X) → IsBelow cmp x ys → has cmp x ys ≡ false
  not_below x [] h = refl
  not_below x (y ∷ ys) h = has_no x y ys (ap is_eq h.0) ∙ not_below x ys h.1

  -- what does not stand in a list does not stand in what of it passes a test
  pub has_none : (p : X → Bool) (x : X) (ys : List X) → has cmp x ys ≡ false → has cmp x (filter p ys) ≡ false
  has_none p x [] e = refl
  has_none p x (y ∷ ys) e = by (is_eq (cmp x y)) refl (p y) refl (has_none p x ys)
    where
      by : (b : Bool) → is_eq (cmp x y) ≡ b → (c : Bool) → p y ≡ c → (has cmp x ys ≡ false → has cmp x (filter p ys) ≡ false) → has cmp x (filter p (y ∷ ys)) ≡ false
      by true f c g rest = let no : true ≡ false = sym (ap (λ b. b || has cmp x ys) f) ∙ e in cc
      by false f true g rest = ap (has cmp x) (filter_yes p y ys g) ∙ has_no x y (filter p ys) f ∙ rest (sym (has_no x y ys f) ∙ e)
      by false f false g rest = ap (has cmp x) (filter_no p y ys g) ∙ rest (sym (has_no x y ys f) ∙ e)

  -- INSERTING INTO A SET what stands in it already, and what does not
  pub set_insert-there : (x : X) (ys : List X) → Rises cmp ys → has cmp x ys ≡ true → set_insert cmp x ys ≡ ys
  set_insert-there x [] h e = cc
  set_insert-there x (y ∷ ys) h e = by (cmp x y) refl (set_insert-there x ys h.1)
    where
      by : (r : Ordering) → cmp x y ≡ r → (has cmp x ys ≡ true → set_insert cmp x ys ≡ ys) → set_insert cmp x (y ∷ ys) ≡ y ∷ ys
      by Less f rest = let no : true ≡ false = sym e ∙ not_below x (y ∷ ys) (f, below_through x y ys f h.0) in cc
      by Equal f rest = set_equal x y ys f
      by Greater f rest = set_past x y ys f ∙ ap (λ l. y ∷ l) (rest (sym (has_no x y ys (ap is_eq f)) ∙ e))

  pub set_insert-new : (x : X) (ys : List X) → has cmp x ys ≡ false → set_insert cmp x ys ≡ bag_insert cmp x ys
  set_insert-new x [] e = refl
  set_insert-new x (y ∷ ys) e = by (cmp x y) refl (set_insert-new x ys)
    where
      by : (r : Ordering) → cmp x y ≡ r → (has cmp x ys ≡ false → set_insert cmp x ys ≡ bag_insert cmp x ys) → set_insert cmp x (y ∷ ys) ≡ bag_insert cmp x (y ∷ ys)
      by Less f rest = set_less x y ys f ∙ sym (bag_less x y ys f)
      by Equal f rest = let no : true ≡ false = sym (ap (λ r. is_eq r || has cmp x ys) f) ∙ e in cc
      by Greater f rest = set_past x y ys f ∙ ap (λ l. y ∷ l) (rest (sym (has_no x y ys (ap is_eq f)) ∙ e)) ∙ sym (bag_past x y ys f)

  -- a set with x in it is x and the others
  abbrev differs : X → X → Bool
  differs x y = not (is_eq (cmp y x))

  others_above : (x : X) (ys : List X) → IsBelow cmp x ys → filter (differs x) ys ≡ ys
  others_above x ys h = filter_all (differs x) ys (each ys h)
    where
      each : (ys : List X) → IsBelow cmp x ys → AllByRecursion (λ y. differs x y ≡ true) ys
      each [] h = tt
      each (y ∷ ys) h = (ap (λ r. not (is_eq r)) (total.antisymm y x ∙ ap ordering_reverse h.0), each ys h.1)

  pub set_insert-others : (x : X) (ys : List X) → Rises cmp ys → set_insert cmp x ys ≡ bag_insert cmp x (filter (differs x) ys)
  set_insert-others x [] h = refl
  set_insert-others x (y ∷ ys) h = by (cmp x y) refl (set_insert-others x ys h.1)
    where
      by : (r : Ordering) → cmp x y ≡ r → set_insert cmp x ys ≡ bag_insert cmp x (filter (differs x) ys) → set_insert cmp x (y ∷ ys) ≡ bag_insert cmp x (filter (differs x) (y ∷ ys))
      by Less e rest = set_less x y ys e ∙ sym (bag_less x y ys e) ∙ ap (bag_insert cmp x) (sym (others_above x (y ∷ ys) (e, below_through x y ys e h.0)))
      by Equal e rest =
          let below : IsBelow cmp x ys = subst (λ w. IsBelow cmp w ys) (sym (same x y e)) h.0 in
          let tied : differs x y ≡ false = ap (λ w. not (is_eq (cmp w x))) (sym (same x y e)) ∙ ap (λ r. not (is_eq r)) (tied_itself total x) in
          set_equal x y ys e ∙ ap (λ w. w ∷ ys) (sym (same x y e)) ∙ sym (bag_front x ys below) ∙ ap (bag_insert cmp x) (sym (filter_no (differs x) y ys tied ∙ others_above x ys below))
      by Greater e rest =
          set_past x y ys e ∙ ap (λ l. y ∷ l) rest ∙ sym (bag_past x y (filter (differs x) ys) e)
          ∙ ap (bag_insert cmp x) (sym (filter_yes (differs x) y ys (ap (λ r. not (is_eq r)) (turned x y e))))

  -- WHAT OF A SET PASSES A TEST, where x does not pass it, and where it does
  pub filter-set_insert_out : (p : X → Bool) (x : X) (ys : List X) → p x ≡ false → filter p (set_insert cmp x ys) ≡ filter p ys
  filter-set_insert_out p x [] n = filter_no p x [] n
  filter-set_insert_out p x (y ∷ ys) n = by (cmp x y) refl (p y) refl (filter-set_insert_out p x ys n)
    where
      by : (r : Ordering) → cmp x y ≡ r → (b : Bool) → p y ≡ b → filter p (set_insert cmp x ys) ≡ filter p ys → filter p (set_insert cmp x (y ∷ ys)) ≡ filter p (y ∷ ys)
      by Less e b f rest = ap (filter p) (set_less x y ys e) ∙ filter_no p x (y ∷ ys) n
      by Equal e b f rest = ap (filter p) (set_equal x y ys e)
      by Greater e true f rest = ap (filter p) (set_past x y ys e) ∙ filter_yes p y (set_insert cmp x ys) f ∙ ap (λ l. y ∷ l) rest ∙ sym (filter_yes p y ys f)
      by Greater e false f rest = ap (filter p) (set_past x y ys e) ∙ filter_no p y (set_insert cmp x ys) f ∙ rest ∙ sym (filter_no p y ys f)

  pub filter-set_insert_in : (p : X → Bool) (x : X) (ys : List X) → p x ≡ true → Rises cmp ys → filter p (set_insert cmp x ys) ≡ set_insert cmp x (filter p ys)
  filter-set_insert_in p x [] t h = filter_yes p x [] t
  filter-set_insert_in p x (y ∷ ys) t h = by (cmp x y) refl (p y) refl (filter-set_insert_in p x ys t h.1)
    where
      by : (r : Ordering) → cmp x y ≡ r → (b : Bool) → p y ≡ b → filter p (set_insert cmp x ys) ≡ set_insert cmp x (filter p ys) → filter p (set_insert cmp x (y ∷ ys)) ≡ set_insert cmp x (filter p (y ∷ ys))
      by Less e b f rest =
          ap (filter p) (set_less x y ys e) ∙ filter_yes p x (y ∷ ys) t
          ∙ sym (set_front x (filter p (y ∷ ys)) (all_filter (λ z. cmp x z ≡ Less) p (y ∷ ys) (e, below_through x y ys e h.0)))
      by Equal e b f rest =
          let passes : p y ≡ true = ap p (sym (same x y e)) ∙ t in
          ap (filter p) (set_equal x y ys e) ∙ filter_yes p y ys passes ∙ sym (set_equal x y (filter p ys) e) ∙ ap (set_insert cmp x) (sym (filter_yes p y ys passes))
      by Greater e true f rest =
          ap (filter p) (set_past x y ys e) ∙ filter_yes p y (set_insert cmp x ys) f ∙ ap (λ l. y ∷ l) rest ∙ sym (set_past x y (filter p ys) e) ∙ ap (set_insert cmp x) (sym (filter_yes p y ys f))
      by Greater e false f rest = ap (filter p) (set_past x y ys e) ∙ filter_no p y (set_insert cmp x ys) f ∙ rest ∙ ap (set_insert cmp x) (sym (filter_no p y ys f))

  pub filter-set_of : (p : X → Bool) (xs : List X) → filter p (set_of cmp xs) ≡ set_of cmp (filter p xs)
  filter-set_of p [] = refl
  filter-set_of p (x ∷ xs) = by (p x) refl (filter-set_of p xs)
    where
      by : (b : Bool) → p x ≡ b → filter p (set_of cmp xs) ≡ set_of cmp (filter p xs) → filter p (set_of cmp (x ∷ xs)) ≡ set_of cmp (filter p (x ∷ xs))
      by true e rest = filter-set_insert_in p x (set_of cmp xs) e (Rises-set_of xs) ∙ ap (set_insert cmp x) rest ∙ ap (set_of cmp) (sym (filter_yes p x xs e))
      by false e rest = filter-set_insert_out p x (set_of cmp xs) e ∙ rest ∙ ap (set_of cmp) (sym (filter_no p x xs e))
