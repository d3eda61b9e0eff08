-- The algebra of bags, for a total order in which only equal elements tie.
use Rattle.std.proofs.Common.{◌≡◌, ◌+◌, suc, List, [], ◌∷◌, ◌++◌, length, refl, ap, sym, ◌∙◌, subst, Bool, true, false, ◌||◌, arith, append-nil}
use Rattle.std.specs.declared.cmp.Ordering.{Ordering}
use Rattle.std.specs.declared.cmp.Ordering.TheVariants.{Less, Equal, Greater}
use Rattle.std.specs.Ordering.{is_eq, ordering_reverse}
use Rattle.std.specs.Cmp.{IsTotalOrder}
use Rattle.std.proofs.lemmas.Cmp.{tied_itself}
use Rattle.std.specs.FinMap.{IsAntisymmetric}
use Rattle.td_stamp.specs.Bag.{bag_insert, bag_remove, set_insert, set_has, join, bag_of, set_of, has, IsBag}

module _ {X : Type 0} (cmp : X → X → Ordering) where
  pub length-bag_insert : (x : X) (ys : List X) → length (bag_insert cmp x ys) ≡ suc (length ys)
  length-bag_insert x [] = refl
  length-bag_insert x (y ∷ ys) = by (cmp x y) refl (length-bag_insert x ys)
    where
      by : (r : Ordering) → cmp x y ≡ r → length (bag_insert cmp x ys) ≡ suc (length ys) → length (bag_insert cmp x (y ∷ ys)) ≡ suc (suc (length ys))
      by Less e rest = rw (e, bag_insert) refl
      by Equal e rest = rw (e, bag_insert) refl
      by Greater e rest = rw (e, bag_insert) (ap suc rest)

  pub length-join : (xs ys : List X) → length (join cmp xs ys) ≡ length xs + length ys
  length-join [] ys = omega arith
  length-join (x ∷ xs) ys = let l = length-join xs ys in length-bag_insert x (join cmp xs ys) ∙ ap suc l ∙ omega arith

module _ {X : Type 0} (cmp : X → X → Ordering) (total : IsTotalOrder cmp) (same : IsAntisymmetric cmp) where
  -- one step of an insertion into a bag, and into a set
  pub insert_past : (x y : X) (ys : List X) → cmp x y ≡ Greater → bag_insert cmp x (y ∷ ys) ≡ y ∷ bag_insert cmp x ys
  insert_past x y ys e = rw (e, bag_insert) refl

  pub insert_before_less : (x y : X) (ys : List X) → cmp x y ≡ Less → bag_insert cmp x (y ∷ ys) ≡ x ∷ y ∷ ys
  insert_before_less x y ys e = rw (e, bag_insert) refl

  pub insert_before_equal : (x y : X) (ys : List X) → cmp x y ≡ Equal → bag_insert cmp x (y ∷ ys) ≡ x ∷ y ∷ ys
  insert_before_equal x y ys e = rw (e, bag_insert) refl

  pub set_insert_past : (x y : X) (ys : List X) → cmp x y ≡ Greater → set_insert cmp x (y ∷ ys) ≡ y ∷ set_insert cmp x ys
  set_insert_past x y ys e = rw (e, set_insert) refl

  pub set_insert_less : (x y : X) (ys : List X) → cmp x y ≡ Less → set_insert cmp x (y ∷ ys) ≡ x ∷ y ∷ ys
  set_insert_less x y ys e = rw (e, set_insert) refl

  pub set_insert_equal : (x y : X) (ys : List X) → cmp x y ≡ Equal → set_insert cmp x (y ∷ ys) ≡ y ∷ ys
  set_insert_equal x y ys e = rw (e, set_insert) refl

  pub turned : (x y : X) → cmp x y ≡ Less → cmp y x ≡ Greater
  turned x y e = total.antisymm y x ∙ ap ordering_reverse e

  pub turned_back : (x y : X) → cmp x y ≡ Greater → cmp y x ≡ Less
  turned_back x y e = total.antisymm y x ∙ ap ordering_reverse e

  -- y is above x, and x is above z, so y is above z
  pub above : (x y z : X) → cmp x y ≡ Less → cmp x z ≡ Greater → cmp y z ≡ Greater
  above x y z e f = turned z y (total.trans z x y (turned_back x z f) e)

  pub above_tied : (x y z : X) → cmp x y ≡ Less → cmp x z ≡ Equal → cmp y z ≡ Greater
  above_tied x y z e f = turned z y (sym (total.congr x z y f) ∙ e)

  -- two elements may be inserted in either order
  pub lower_first : (x y : X) → cmp x y ≡ Less → (zs : List X) → bag_insert cmp x (bag_insert cmp y zs) ≡ bag_insert cmp y (bag_insert cmp x zs)
  lower_first x y e [] = insert_before_less x y [] e ∙ sym (insert_past y x [] (turned x y e))
  lower_first x y e (z ∷ zs) = by (cmp x z) refl (cmp y z) refl (lower_first x y e zs)
    where
      by : (s : Ordering) → cmp x z ≡ s → (t : Ordering) → cmp y z ≡ t → bag_insert cmp x (bag_insert cmp y zs) ≡ bag_insert cmp y (bag_insert cmp x zs) → bag_insert cmp x (bag_insert cmp y (z ∷ zs)) ≡ bag_insert cmp y (bag_insert cmp x (z ∷ zs))
      by Greater f t h rest =
          let g : cmp y z ≡ Greater = above x y z e f in
          rw (insert_past y z zs g, insert_past x z zs f, insert_past x z (bag_insert cmp y zs) f, insert_past y z (bag_insert cmp x zs) g) (ap (λ l. z ∷ l) rest)
      by Equal f t h rest =
          let g : cmp y z ≡ Greater = above_tied x y z e f in
          rw (insert_past y z zs g, insert_before_equal x z (bag_insert cmp y zs) f, insert_before_equal x z zs f, insert_past y x (z ∷ zs) (turned x y e), insert_past y z zs g) refl
      by Less f Greater h rest = rw (insert_past y z zs h, insert_before_less x z (bag_insert cmp y zs) f, insert_before_less x z zs f, insert_past y x (z ∷ zs) (turned x y e), insert_past y z zs h) refl
      by Less f Less h rest = rw (insert_before_less y z zs h, insert_before_less x y (z ∷ zs) e, insert_before_less x z zs f, insert_past y x (z ∷ zs) (turned x y e), insert_before_less y z zs h) refl
      by Less f Equal h rest = rw (insert_before_equal y z zs h, insert_before_less x y (z ∷ zs) e, insert_before_less x z zs f, insert_past y x (z ∷ zs) (turned x y e), insert_before_equal y z zs h) refl

  pub bag_insert-bag_insert : (x y : X) (zs : List X) → bag_insert cmp x (bag_insert cmp y zs) ≡ bag_insert cmp y (bag_insert cmp x zs)
  bag_insert-bag_insert x y zs = by (cmp x y) refl
    where
      by : (r : Ordering) → cmp x y ≡ r → bag_insert cmp x (bag_insert cmp y zs) ≡ bag_insert cmp y (bag_insert cmp x zs)
      by Less e = lower_first x y e zs
      by Equal e = let P : X → Type 0 = λ w. bag_insert cmp x (bag_insert cmp w zs) ≡ bag_insert cmp w (bag_insert cmp x zs) in subst P (same x y e) refl
      by Greater e = sym (lower_first y x (turned_back x y e) zs)

  pub set_insert_lower_first : (x y : X) → cmp x y ≡ Less → (zs : List X) → set_insert cmp x (set_insert cmp y zs) ≡ set_insert cmp y (set_insert cmp x zs)
  set_insert_lower_first x y e [] = set_insert_less x y [] e ∙ sym (set_insert_past y x [] (turned x y e))
  set_insert_lower_first x y e (z ∷ zs) = by (cmp x z) refl (cmp y z) refl (set_insert_lower_first x y e zs)
    where
      by : (s : Ordering) → cmp x z ≡ s → (t : Ordering) → cmp y z ≡ t → set_insert cmp x (set_insert cmp y zs) ≡ set_insert cmp y (set_insert cmp x zs) → set_insert cmp x (set_insert cmp y (z ∷ zs)) ≡ set_insert cmp y (set_insert cmp x (z ∷ zs))
      by Greater f t h rest =
          let g : cmp y z ≡ Greater = above x y z e f in
          rw (set_insert_past y z zs g, set_insert_past x z zs f, set_insert_past x z (set_insert cmp y zs) f, set_insert_past y z (set_insert cmp x zs) g) (ap (λ l. z ∷ l) rest)
      by Equal f t h rest =
          let g : cmp y z ≡ Greater = above_tied x y z e f in
          rw (set_insert_past y z zs g, set_insert_equal x z (set_insert cmp y zs) f, set_insert_equal x z zs f, set_insert_past y z zs g) refl
      by Less f Greater h rest = rw (set_insert_past y z zs h, set_insert_less x z (set_insert cmp y zs) f, set_insert_less x z zs f, set_insert_past y x (z ∷ zs) (turned x y e), set_insert_past y z zs h) refl
      by Less f Less h rest = rw (set_insert_less y z zs h, set_insert_less x y (z ∷ zs) e, set_insert_less x z zs f, set_insert_past y x (z ∷ zs) (turned x y e), set_insert_less y z zs h) refl
      by Less f Equal h rest = rw (set_insert_equal y z zs h, set_insert_less x z zs f, set_insert_past y x (z ∷ zs) (turned x y e), set_insert_equal y z zs h) refl

  pub set_insert-set_insert : (x y : X) (zs : List X) → set_insert cmp x (set_insert cmp y zs) ≡ set_insert cmp y (set_insert cmp x zs)
  set_insert-set_insert x y zs = by (cmp x y) refl
    where
      by : (r : Ordering) → cmp x y ≡ r → set_insert cmp x (set_insert cmp y zs) ≡ set_insert cmp y (set_insert cmp x zs)
      by Less e = set_insert_lower_first x y e zs
      by Equal e = let P : X → Type 0 = λ w. set_insert cmp x (set_insert cmp w zs) ≡ set_insert cmp w (set_insert cmp x zs) in subst P (same x y e) refl
      by Greater e = sym (set_insert_lower_first y x (turned_back x y e) zs)

  -- inserting into a set what its bag has, and into one a bag is made of
  pub set_insert-bag_insert : (x : X) (ys : List X) → set_insert cmp x (bag_insert cmp x ys) ≡ bag_insert cmp x ys
  set_insert-bag_insert x [] = set_insert_equal x x [] (tied_itself total x)
  set_insert-bag_insert x (y ∷ ys) = by (cmp x y) refl (set_insert-bag_insert x ys)
    where
      by : (s : Ordering) → cmp x y ≡ s → set_insert cmp x (bag_insert cmp x ys) ≡ bag_insert cmp x ys → set_insert cmp x (bag_insert cmp x (y ∷ ys)) ≡ bag_insert cmp x (y ∷ ys)
      by Greater e rest = rw (insert_past x y ys e, set_insert_past x y (bag_insert cmp x ys) e) (ap (λ l. y ∷ l) rest)
      by Less e rest = rw (insert_before_less x y ys e) (set_insert_equal x x (y ∷ ys) (tied_itself total x))
      by Equal e rest = rw (insert_before_equal x y ys e) (set_insert_equal x x (y ∷ ys) (tied_itself total x))

  pub set_insert_below : (x y : X) → cmp x y ≡ Less → (zs : List X) → set_insert cmp x (bag_insert cmp y zs) ≡ bag_insert cmp y (set_insert cmp x zs)
  set_insert_below x y e [] = set_insert_less x y [] e ∙ sym (insert_past y x [] (turned x y e))
  set_insert_below x y e (z ∷ zs) = by (cmp x z) refl (cmp y z) refl (set_insert_below x y e zs)
    where
      by : (s : Ordering) → cmp x z ≡ s → (t : Ordering) → cmp y z ≡ t → set_insert cmp x (bag_insert cmp y zs) ≡ bag_insert cmp y (set_insert cmp x zs) → set_insert cmp x (bag_insert cmp y (z ∷ zs)) ≡ bag_insert cmp y (set_insert cmp x (z ∷ zs))
      by Greater f t h rest =
          let g : cmp y z ≡ Greater = above x y z e f in
          rw (insert_past y z zs g, set_insert_past x z zs f, set_insert_past x z (bag_insert cmp y zs) f, insert_past y z (set_insert cmp x zs) g) (ap (λ l. z ∷ l) rest)
      by Equal f t h rest =
          let g : cmp y z ≡ Greater = above_tied x y z e f in
          rw (insert_past y z zs g, set_insert_equal x z (bag_insert cmp y zs) f, set_insert_equal x z zs f, insert_past y z zs g) refl
      by Less f Greater h rest = rw (insert_past y z zs h, set_insert_less x z (bag_insert cmp y zs) f, set_insert_less x z zs f, insert_past y x (z ∷ zs) (turned x y e), insert_past y z zs h) refl
      by Less f Less h rest = rw (insert_before_less y z zs h, set_insert_less x y (z ∷ zs) e, set_insert_less x z zs f, insert_past y x (z ∷ zs) (turned x y e), insert_before_less y z zs h) refl
      by Less f Equal h rest = rw (insert_before_equal y z zs h, set_insert_less x y (z ∷ zs) e, set_insert_less x z zs f, insert_past y x (z ∷ zs) (turned x y e), insert_before_equal y z zs h) refl

  pub set_insert_above : (x y : X) → cmp x y ≡ Greater → (zs : List X) → set_insert cmp x (bag_insert cmp y zs) ≡ bag_insert cmp y (set_insert cmp x zs)
  set_insert_above x y e [] = set_insert_past x y [] e ∙ sym (insert_before_less y x [] (turned_back x y e))
  set_insert_above x y e (z ∷ zs) = by (cmp y z) refl (cmp x z) refl (set_insert_above x y e zs)
    where
      by : (s : Ordering) → cmp y z ≡ s → (t : Ordering) → cmp x z ≡ t → set_insert cmp x (bag_insert cmp y zs) ≡ bag_insert cmp y (set_insert cmp x zs) → set_insert cmp x (bag_insert cmp y (z ∷ zs)) ≡ bag_insert cmp y (set_insert cmp x (z ∷ zs))
      by Greater f t h rest =
          let g : cmp x z ≡ Greater = above y x z (turned_back x y e) f in
          rw (insert_past y z zs f, set_insert_past x z (bag_insert cmp y zs) g, set_insert_past x z zs g, insert_past y z (set_insert cmp x zs) f) (ap (λ l. z ∷ l) rest)
      by Equal f t h rest =
          let g : cmp x z ≡ Greater = above_tied y x z (turned_back x y e) f in
          rw (insert_before_equal y z zs f, set_insert_past x y (z ∷ zs) e, set_insert_past x z zs g, insert_before_equal y z (set_insert cmp x zs) f) refl
      by Less f Greater h rest = rw (insert_before_less y z zs f, set_insert_past x y (z ∷ zs) e, set_insert_past x z zs h, insert_before_less y z (set_insert cmp x zs) f) refl
      by Less f Less h rest = rw (insert_before_less y z zs f, set_insert_past x y (z ∷ zs) e, set_insert_less x z zs h, insert_before_less y x (z ∷ zs) (turned_back x y e)) refl
      by Less f Equal h rest = rw (insert_before_less y z zs f, set_insert_past x y (z ∷ zs) e, set_insert_equal x z zs h, insert_before_less y z zs f) refl

  -- an element of a list may be inserted last
  pub join-middle : (xs : List X) (x : X) (ys zs : List X) → join cmp (xs ++ x ∷ ys) zs ≡ bag_insert cmp x (join cmp (xs ++ ys) zs)
  join-middle [] x ys zs = refl
  join-middle (w ∷ xs) x ys zs = ap (bag_insert cmp w) (join-middle xs x ys zs) ∙ bag_insert-bag_insert w x (join cmp (xs ++ ys) zs)

  pub set-middle : (xs : List X) (x : X) (ys : List X) → set_of cmp (xs ++ x ∷ ys) ≡ set_insert cmp x (set_of cmp (xs ++ ys))
  set-middle [] x ys = refl
  set-middle (w ∷ xs) x ys = ap (set_insert cmp w) (set-middle xs x ys) ∙ set_insert-set_insert w x (set_of cmp (xs ++ ys))

  pub join-append : (xs ys zs : List X) → join cmp (xs ++ ys) zs ≡ join cmp xs (join cmp ys zs)
  join-append [] ys zs = refl
  join-append (x ∷ xs) ys zs = ap (bag_insert cmp x) (join-append xs ys zs)

  pub join-bag_insert : (xs : List X) (x : X) (zs : List X) → join cmp xs (bag_insert cmp x zs) ≡ bag_insert cmp x (join cmp xs zs)
  join-bag_insert [] x zs = refl
  join-bag_insert (w ∷ xs) x zs = ap (bag_insert cmp w) (join-bag_insert xs x zs) ∙ bag_insert-bag_insert w x (join cmp xs zs)

  -- what is inserted first is joined first
  pub bag_insert-join : (x : X) (xs zs : List X) → join cmp (bag_insert cmp x xs) zs ≡ bag_insert cmp x (join cmp xs zs)
  bag_insert-join x [] zs = refl
  bag_insert-join x (y ∷ xs) zs = by (cmp x y) refl (bag_insert-join x xs zs)
    where
      by : (s : Ordering) → cmp x y ≡ s → join cmp (bag_insert cmp x xs) zs ≡ bag_insert cmp x (join cmp xs zs) → join cmp (bag_insert cmp x (y ∷ xs)) zs ≡ bag_insert cmp x (join cmp (y ∷ xs) zs)
      by Greater e rest = rw (insert_past x y xs e) (ap (bag_insert cmp y) rest ∙ bag_insert-bag_insert y x (join cmp xs zs))
      by Less e rest = rw (insert_before_less x y xs e) refl
      by Equal e rest = rw (insert_before_equal x y xs e) refl

  -- three laws that hold of all lists
  pub join-swap : (xs ys zs : List X) → join cmp xs (join cmp ys zs) ≡ join cmp ys (join cmp xs zs)
  join-swap [] ys zs = refl
  join-swap (x ∷ xs) ys zs = ap (bag_insert cmp x) (join-swap xs ys zs) ∙ sym (join-bag_insert ys x (join cmp xs zs))

  pub join-assoc : (xs ys zs : List X) → join cmp (join cmp xs ys) zs ≡ join cmp xs (join cmp ys zs)
  join-assoc [] ys zs = refl
  join-assoc (x ∷ xs) ys zs = bag_insert-join x (join cmp xs ys) zs ∙ ap (bag_insert cmp x) (join-assoc xs ys zs)

  pub bag_remove-bag_insert : (x : X) (ys : List X) → bag_remove cmp x (bag_insert cmp x ys) ≡ ys
  bag_remove-bag_insert x [] = rw (tied_itself total x, bag_remove) refl
  bag_remove-bag_insert x (y ∷ ys) = by (cmp x y) refl (bag_remove-bag_insert x ys)
    where
      by : (s : Ordering) → cmp x y ≡ s → bag_remove cmp x (bag_insert cmp x ys) ≡ ys → bag_remove cmp x (bag_insert cmp x (y ∷ ys)) ≡ y ∷ ys
      by Greater e rest = rw (insert_past x y ys e, e, bag_remove) (ap (λ l. y ∷ l) rest)
      by Less e rest = rw (insert_before_less x y ys e, tied_itself total x, bag_remove) refl
      by Equal e rest = rw (insert_before_equal x y ys e, tied_itself total x, bag_remove) refl

  pub bag_insert_cancel : (x : X) (ys zs : List X) → bag_insert cmp x ys ≡ bag_insert cmp x zs → ys ≡ zs
  bag_insert_cancel x ys zs e = sym (bag_remove-bag_insert x ys) ∙ ap (bag_remove cmp x) e ∙ bag_remove-bag_insert x zs

  pub join_cancel : (xs ys zs : List X) → join cmp xs ys ≡ join cmp xs zs → ys ≡ zs
  join_cancel [] ys zs e = e
  join_cancel (x ∷ xs) ys zs e = join_cancel xs ys zs (bag_insert_cancel x (join cmp xs ys) (join cmp xs zs) e)

  -- bags
  pub join-bag_of : (xs zs : List X) → join cmp (bag_of cmp xs) zs ≡ join cmp xs zs
  join-bag_of xs zs = join-assoc xs [] zs

  pub bag_of-IsBag : (xs : List X) → IsBag cmp (bag_of cmp xs)
  bag_of-IsBag xs = join-assoc xs [] []

  pub join-IsBag : (xs ys : List X) → IsBag cmp ys → IsBag cmp (join cmp xs ys)
  join-IsBag xs ys b = join-assoc xs ys [] ∙ ap (join cmp xs) b

  pub join_comm : (xs ys : List X) → IsBag cmp xs → IsBag cmp ys → join cmp xs ys ≡ join cmp ys xs
  join_comm xs ys a b = ap (join cmp xs) (sym b) ∙ join-swap xs ys [] ∙ ap (join cmp ys) a

  pub bag_of-append : (xs ys : List X) → bag_of cmp (xs ++ ys) ≡ join cmp xs (bag_of cmp ys)
  bag_of-append xs ys = join-append xs ys []

  -- one more at the end of a list
  pub bag_of-push : (xs : List X) (x : X) → bag_of cmp (xs ++ x ∷ []) ≡ bag_insert cmp x (bag_of cmp xs)
  bag_of-push xs x = join-middle xs x [] [] ∙ ap (λ l. bag_insert cmp x (bag_of cmp l)) (append-nil xs)

  pub bag_of-swap : (xs ys zs : List X) → bag_of cmp (xs ++ (ys ++ zs)) ≡ bag_of cmp (ys ++ (xs ++ zs))
  bag_of-swap xs ys zs =
      bag_of-append xs (ys ++ zs) ∙ ap (join cmp xs) (bag_of-append ys zs) ∙ join-swap xs ys (bag_of cmp zs) ∙ ap (join cmp ys) (sym (bag_of-append xs zs)) ∙ sym (bag_of-append ys (xs ++ zs))

  -- membership
  pub has-bag_insert : (z x : X) (ys : List X) → has cmp z (bag_insert cmp x ys) ≡ (is_eq (cmp z x) || has cmp z ys)
  has-bag_insert z x [] = refl
  has-bag_insert z x (y ∷ ys) = by (cmp x y) refl (has-bag_insert z x ys)
    where
      turn : (a b c : Bool) → (a || (b || c)) ≡ (b || (a || c))
      turn true true c = refl
      turn true false c = refl
      turn false b c = refl

      by : (s : Ordering) → cmp x y ≡ s → has cmp z (bag_insert cmp x ys) ≡ (is_eq (cmp z x) || has cmp z ys) → has cmp z (bag_insert cmp x (y ∷ ys)) ≡ (is_eq (cmp z x) || has cmp z (y ∷ ys))
      by Greater e rest = rw (insert_past x y ys e) (ap (λ b. is_eq (cmp z y) || b) rest ∙ turn (is_eq (cmp z y)) (is_eq (cmp z x)) (has cmp z ys))
      by Less e rest = rw (insert_before_less x y ys e) refl
      by Equal e rest = rw (insert_before_equal x y ys e) refl

  -- what a set has is in the list that it is of
  pub set_has_less : (x y : X) (ys : List X) → cmp x y ≡ Less → set_has cmp x (y ∷ ys) ≡ false
  set_has_less x y ys e = rw (e, set_has) refl

  pub set_has_equal : (x y : X) (ys : List X) → cmp x y ≡ Equal → set_has cmp x (y ∷ ys) ≡ true
  set_has_equal x y ys e = rw (e, set_has) refl

  pub set_has_past : (x y : X) (ys : List X) → cmp x y ≡ Greater → set_has cmp x (y ∷ ys) ≡ set_has cmp x ys
  set_has_past x y ys e = rw (e, set_has) refl

  pub or_true : (a b : Bool) → b ≡ true → (a || b) ≡ true
  or_true true b e = refl
  or_true false b e = e

  pub set_has-set_insert : (x y : X) (zs : List X) → set_has cmp x (set_insert cmp y zs) ≡ (is_eq (cmp x y) || set_has cmp x zs)
  set_has-set_insert x y [] = by (cmp x y) refl
    where
      by : (s : Ordering) → cmp x y ≡ s → set_has cmp x (y ∷ []) ≡ (is_eq (cmp x y) || false)
      by Less e = rw (e, set_has) refl
      by Equal e = rw (e, set_has) refl
      by Greater e = rw (e, set_has) refl
  set_has-set_insert x y (z ∷ zs) = by (cmp y z) refl (cmp x y) refl (cmp x z) refl (set_has-set_insert x y zs)
    where
      by : (s : Ordering) → cmp y z ≡ s → (t : Ordering) → cmp x y ≡ t → (u : Ordering) → cmp x z ≡ u → set_has cmp x (set_insert cmp y zs) ≡ (is_eq (cmp x y) || set_has cmp x zs)
          → set_has cmp x (set_insert cmp y (z ∷ zs)) ≡ (is_eq (cmp x y) || set_has cmp x (z ∷ zs))
      by Less e Less f u g rest = ap (set_has cmp x) (set_insert_less y z zs e) ∙ set_has_less x y (z ∷ zs) f ∙ sym (ap (λ o. is_eq o || set_has cmp x (z ∷ zs)) f ∙ set_has_less x z zs (total.trans x y z f e))
      by Less e Equal f u g rest = ap (set_has cmp x) (set_insert_less y z zs e) ∙ set_has_equal x y (z ∷ zs) f ∙ sym (ap (λ o. is_eq o || set_has cmp x (z ∷ zs)) f)
      by Less e Greater f u g rest = ap (set_has cmp x) (set_insert_less y z zs e) ∙ set_has_past x y (z ∷ zs) f ∙ sym (ap (λ o. is_eq o || set_has cmp x (z ∷ zs)) f)
      by Equal e Less f u g rest = ap (set_has cmp x) (set_insert_equal y z zs e) ∙ sym (ap (λ o. is_eq o || set_has cmp x (z ∷ zs)) f)
      by Equal e Greater f u g rest = ap (set_has cmp x) (set_insert_equal y z zs e) ∙ sym (ap (λ o. is_eq o || set_has cmp x (z ∷ zs)) f)
      by Equal e Equal f u g rest = ap (set_has cmp x) (set_insert_equal y z zs e) ∙ set_has_equal x z zs (total.congr x y z f ∙ e) ∙ sym (ap (λ o. is_eq o || set_has cmp x (z ∷ zs)) f)
      by Greater e t f Less g rest =
          ap (set_has cmp x) (set_insert_past y z zs e) ∙ set_has_less x z (set_insert cmp y zs) g
          ∙ sym (ap (λ o. is_eq o || set_has cmp x (z ∷ zs)) (total.trans x z y g (turned_back y z e)) ∙ set_has_less x z zs g)
      by Greater e t f Equal g rest = ap (set_has cmp x) (set_insert_past y z zs e) ∙ set_has_equal x z (set_insert cmp y zs) g ∙ sym (or_true (is_eq (cmp x y)) (set_has cmp x (z ∷ zs)) (set_has_equal x z zs g))
      by Greater e t f Greater g rest = ap (set_has cmp x) (set_insert_past y z zs e) ∙ set_has_past x z (set_insert cmp y zs) g ∙ rest ∙ ap (λ b. is_eq (cmp x y) || b) (sym (set_has_past x z zs g))

  pub set_has-set_of : (x : X) (xs : List X) → set_has cmp x (set_of cmp xs) ≡ has cmp x xs
  set_has-set_of x [] = refl
  set_has-set_of x (y ∷ xs) = set_has-set_insert x y (set_of cmp xs) ∙ ap (λ b. is_eq (cmp x y) || b) (set_has-set_of x xs)
