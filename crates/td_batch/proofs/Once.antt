-- The members of a bag, each once, are the set of its members, in order.
use Rattle.std.proofs.Common.{◌≡◌, Bool, true, false, cond, List, [], ◌∷◌, Some, None, refl, ap, sym, ◌∙◌, filter, not}
use Rattle.std.specs.declared.cmp.Ordering.{Ordering}
use Rattle.std.specs.declared.cmp.Ordering.TheVariants.{Less, Equal, Greater}
use Rattle.std.specs.Ordering.{is_eq, ordering_reverse}
use Rattle.td_stamp.specs.declared.values.Rec.{Rec}
use Rattle.td_stamp.specs.Orders.{rec_cmp}
use Rattle.td_stamp.specs.Bag.{bag_insert, bag_of, bag_remove, set_insert, set_of, has, IsBag}
use Rattle.td_batch.specs.Steps.Sent.{once_after}

-- what was seen before nothing
pub all_pass : (xs : List Rec) → filter (λ r. not (has rec_cmp r [])) xs ≡ xs
all_pass [] = refl
all_pass (x ∷ xs) = ap (λ l. x ∷ l) (all_pass xs)

module _ (apart : (x y : Rec) → rec_cmp x y ≡ Equal → x ≡ y) (flips : (x y : Rec) → rec_cmp x y ≡ ordering_reverse (rec_cmp y x))
    (removes : (x : Rec) (ys : List Rec) → bag_remove rec_cmp x (bag_insert rec_cmp x ys) ≡ ys) where
  same : (x : Rec) → rec_cmp x x ≡ Equal
  same x = by (rec_cmp x x) (flips x x)
    where
      by : (o : Ordering) → o ≡ ordering_reverse o → o ≡ Equal
      by Less e = absurd (cc)
      by Equal e = refl
      by Greater e = absurd (cc)

  -- the test, by the order
  tests : (x y : Rec) (o : Ordering) → rec_cmp x y ≡ o → is_eq (rec_cmp y x) ≡ is_eq o
  tests x y o e = ap is_eq (flips y x ∙ ap ordering_reverse e) ∙ by o
    where
      by : (o : Ordering) → is_eq (ordering_reverse o) ≡ is_eq o
      by Less = refl
      by Equal = refl
      by Greater = refl

  repeat_is : (last x : Rec) (xs : List Rec) (o : Ordering) → rec_cmp x last ≡ o → once_after (Some last) (x ∷ xs) ≡ cond (is_eq o) (once_after (Some x) xs) (x ∷ once_after (Some x) xs)
  repeat_is last x xs o e = ap (λ b. cond (is_eq b) (once_after (Some x) xs) (x ∷ once_after (Some x) xs)) e

  insert_is : (x y : Rec) (ys : List Rec) (o : Ordering) → rec_cmp x y ≡ o → bag_insert rec_cmp x (y ∷ ys) ≡ elim o [ Greater ↦ y ∷ bag_insert rec_cmp x ys | _ ↦ x ∷ y ∷ ys ]
  insert_is x y ys o e = ap (λ b. elim b [ Greater ↦ y ∷ bag_insert rec_cmp x ys | _ ↦ x ∷ y ∷ ys ]) e

  set_is : (x y : Rec) (ys : List Rec) (o : Ordering) → rec_cmp x y ≡ o → set_insert rec_cmp x (y ∷ ys) ≡ elim o [ Less ↦ x ∷ y ∷ ys | Equal ↦ y ∷ ys | Greater ↦ y ∷ set_insert rec_cmp x ys ]
  set_is x y ys o e = ap (λ b. elim b [ Less ↦ x ∷ y ∷ ys | Equal ↦ y ∷ ys | Greater ↦ y ∷ set_insert rec_cmp x ys ]) e

  -- one more record, after a lower one
  later : (x y : Rec) (ys : List Rec) → rec_cmp x y ≡ Greater → once_after (Some y) (bag_insert rec_cmp x ys) ≡ set_insert rec_cmp x (once_after (Some y) ys)
  later x y [] above = repeat_is y x [] Greater above
  later x y (z ∷ zs) above = by (rec_cmp x z) refl (later x z zs)
    where
      rest : List Rec
      rest = once_after (Some z) zs

      by : (o : Ordering) → rec_cmp x z ≡ o → (rec_cmp x z ≡ Greater → once_after (Some z) (bag_insert rec_cmp x zs) ≡ set_insert rec_cmp x rest)
          → once_after (Some y) (bag_insert rec_cmp x (z ∷ zs)) ≡ set_insert rec_cmp x (once_after (Some y) (z ∷ zs))
      by Less e step =
          ap (once_after (Some y)) (insert_is x z zs Less e) ∙ repeat_is y x (z ∷ zs) Greater above
          ∙ ap (λ l. x ∷ l) (ap (λ b. cond b rest (z ∷ rest)) (tests x z Less e))
          ∙ sym (ap (set_insert rec_cmp x) (ap (λ b. cond b rest (z ∷ rest)) (unlike (rec_cmp z y) refl)) ∙ set_is x z rest Less e)
        where
          unlike : (o : Ordering) → rec_cmp z y ≡ o → is_eq (rec_cmp z y) ≡ false
          unlike Less f = ap is_eq f
          unlike Greater f = ap is_eq f
          unlike Equal f = absurd (let g : Less ≡ Greater = sym e ∙ ap (rec_cmp x) (apart z y f) ∙ above in cc)
      by Equal e step =
          let is : x ≡ z = apart x z e in
          ap (once_after (Some y)) (insert_is x z zs Equal e) ∙ repeat_is y x (z ∷ zs) Greater above
          ∙ ap (λ l. x ∷ l) (ap (λ b. cond b rest (z ∷ rest)) (tests x z Equal e)) ∙ ap (λ r. r ∷ rest) is
          ∙ sym (ap (set_insert rec_cmp x) (repeat_is y z zs Greater (ap (λ r. rec_cmp r y) (sym is) ∙ above)) ∙ set_is x z rest Equal e)
      by Greater e step = ap (once_after (Some y)) (insert_is x z zs Greater e) ∙ also (is_eq (rec_cmp z y))
        where
          also : (b : Bool) → cond b (once_after (Some z) (bag_insert rec_cmp x zs)) (z ∷ once_after (Some z) (bag_insert rec_cmp x zs)) ≡ set_insert rec_cmp x (cond b rest (z ∷ rest))
          also true = step e
          also false = ap (λ l. z ∷ l) (step e) ∙ sym (set_is x z rest Greater e)

  once_insert : (x : Rec) (ys : List Rec) → once_after None (bag_insert rec_cmp x ys) ≡ set_insert rec_cmp x (once_after None ys)
  once_insert x [] = refl
  once_insert x (y ∷ ys) = by (rec_cmp x y) refl
    where
      rest : List Rec
      rest = once_after (Some y) ys

      by : (o : Ordering) → rec_cmp x y ≡ o → once_after None (bag_insert rec_cmp x (y ∷ ys)) ≡ set_insert rec_cmp x (y ∷ rest)
      by Less e = ap (once_after None) (insert_is x y ys Less e) ∙ ap (λ l. x ∷ l) (ap (λ b. cond b rest (y ∷ rest)) (tests x y Less e)) ∙ sym (set_is x y rest Less e)
      by Equal e =
          ap (once_after None) (insert_is x y ys Equal e) ∙ ap (λ l. x ∷ l) (ap (λ b. cond b rest (y ∷ rest)) (tests x y Equal e)) ∙ ap (λ r. r ∷ rest) (apart x y e) ∙ sym (set_is x y rest Equal e)
      by Greater e = ap (once_after None) (insert_is x y ys Greater e) ∙ ap (λ l. y ∷ l) (later x y ys e) ∙ sym (set_is x y rest Greater e)

  pub once_of_bag : (xs : List Rec) → once_after None (bag_of rec_cmp xs) ≡ set_of rec_cmp xs
  once_of_bag [] = refl
  once_of_bag (x ∷ xs) = once_insert x (bag_of rec_cmp xs) ∙ ap (set_insert rec_cmp x) (once_of_bag xs)

  -- the members of a bag after the first are a bag, which the first does not come after
  tail_bag : (x : Rec) (xs : List Rec) → IsBag rec_cmp (x ∷ xs) → IsBag rec_cmp xs
  tail_bag x xs h = sym (removes x (bag_of rec_cmp xs)) ∙ ap (bag_remove rec_cmp x) h ∙ ap (λ o. elim o [ Equal ↦ xs | _ ↦ x ∷ bag_remove rec_cmp x xs ]) (same x)

  first_stays : (x z : Rec) (zs more : List Rec) → IsBag rec_cmp (x ∷ z ∷ zs) → bag_insert rec_cmp x (z ∷ more) ≡ x ∷ z ∷ more
  first_stays x z zs more h = by (rec_cmp x z) refl
    where
      whole : bag_insert rec_cmp x (z ∷ zs) ≡ x ∷ z ∷ zs
      whole = ap (bag_insert rec_cmp x) (sym (tail_bag x (z ∷ zs) h)) ∙ h

      head : Rec → List Rec → Rec
      head d [] = d
      head d (r ∷ rs) = r

      by : (o : Ordering) → rec_cmp x z ≡ o → bag_insert rec_cmp x (z ∷ more) ≡ x ∷ z ∷ more
      by Less e = insert_is x z more Less e
      by Equal e = insert_is x z more Equal e
      by Greater e =
          let first : z ≡ x = ap (head x) (sym (insert_is x z zs Greater e) ∙ whole) in
          absurd (let f : Greater ≡ Equal = sym e ∙ ap (rec_cmp x) first ∙ same x in cc)

  later_bag : (y : Rec) (ys : List Rec) → IsBag rec_cmp (y ∷ ys) → IsBag rec_cmp (y ∷ once_after (Some y) ys)
  later_bag y [] h = refl
  later_bag y (z ∷ zs) h = by (rec_cmp z y) refl (later_bag z zs (tail_bag y (z ∷ zs) h))
    where
      rest : List Rec
      rest = once_after (Some z) zs

      by : (o : Ordering) → rec_cmp z y ≡ o → IsBag rec_cmp (z ∷ rest) → IsBag rec_cmp (y ∷ once_after (Some y) (z ∷ zs))
      by Less e bag = ap (λ l. bag_of rec_cmp (y ∷ l)) (repeat_is y z zs Less e) ∙ ap (bag_insert rec_cmp y) bag ∙ first_stays y z zs rest h ∙ sym (ap (λ l. y ∷ l) (repeat_is y z zs Less e))
      by Greater e bag = ap (λ l. bag_of rec_cmp (y ∷ l)) (repeat_is y z zs Greater e) ∙ ap (bag_insert rec_cmp y) bag ∙ first_stays y z zs rest h ∙ sym (ap (λ l. y ∷ l) (repeat_is y z zs Greater e))
      by Equal e bag =
          ap (λ l. bag_of rec_cmp (y ∷ l)) (repeat_is y z zs Equal e) ∙ ap (λ r. bag_of rec_cmp (r ∷ rest)) (sym (apart z y e)) ∙ bag ∙ ap (λ r. r ∷ rest) (apart z y e)
          ∙ sym (ap (λ l. y ∷ l) (repeat_is y z zs Equal e))

  pub once_bag : (xs : List Rec) → IsBag rec_cmp xs → IsBag rec_cmp (once_after None xs)
  once_bag [] h = refl
  once_bag (x ∷ xs) h = later_bag x xs h
