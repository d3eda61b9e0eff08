-- A bag whose members stand between some that are lower and some that are higher.
use Rattle.std.proofs.Common.{◌≡◌, List, [], ◌∷◌, ◌++◌, false, ◌||◌, refl, ap, sym, ◌∙◌}
use Rattle.std.specs.declared.cmp.Ordering.{Ordering}
use Rattle.std.specs.declared.cmp.Ordering.TheVariants.{Less, Equal, Greater}
use Rattle.std.specs.Ordering.{is_eq}
use Rattle.std.specs.List.{AllByRecursion, list_any}
use Rattle.std.specs.BTreeMap.{is_at}
use Rattle.std.specs.BTreeSet.{insert_key}
use Rattle.std.specs.Set.{remove_key}
use Rattle.td_stamp.specs.Bag.{bag_insert, bag_remove, has}

module _ {X : Type 0} (cmp : X → X → Ordering) where
  -- all of these are lower than x, or higher
  abbrev pub Lower : X → List X → Type 0
  Lower x ys = AllByRecursion (λ y. cmp x y ≡ Greater) ys

  abbrev pub Higher : X → List X → Type 0
  Higher x ys = AllByRecursion (λ y. cmp x y ≡ Less) ys

  pub has-lower : (x : X) (front ys : List X) → Lower x front → has cmp x (front ++ ys) ≡ has cmp x ys
  has-lower x [] ys l = refl
  has-lower x (y ∷ front) ys l = rw (l.0) (has-lower x front ys l.1)

  has-none : (x : X) (back : List X) → Higher x back → has cmp x back ≡ false
  has-none x [] h = refl
  has-none x (y ∷ back) h = rw (h.0) (has-none x back h.1)

  pub has-higher : (x : X) (ys back : List X) → Higher x back → has cmp x (ys ++ back) ≡ has cmp x ys
  has-higher x [] back h = has-none x back h
  has-higher x (y ∷ ys) back h = ap (λ b. is_eq (cmp x y) || b) (has-higher x ys back h)

  pub insert-lower : (x : X) (front ys : List X) → Lower x front → bag_insert cmp x (front ++ ys) ≡ front ++ bag_insert cmp x ys
  insert-lower x [] ys l = refl
  insert-lower x (y ∷ front) ys l = rw (l.0, bag_insert) (ap (λ zs. y ∷ zs) (insert-lower x front ys l.1))

  pub insert-higher : (x : X) (ys back : List X) → Higher x back → bag_insert cmp x (ys ++ back) ≡ bag_insert cmp x ys ++ back
  insert-higher x [] [] h = refl
  insert-higher x [] (y ∷ back) h = rw (h.0, bag_insert) refl
  insert-higher x (y ∷ ys) back h = by (cmp x y) refl (insert-higher x ys back h)
    where
      by : (r : Ordering) → cmp x y ≡ r → bag_insert cmp x (ys ++ back) ≡ bag_insert cmp x ys ++ back → bag_insert cmp x (y ∷ ys ++ back) ≡ bag_insert cmp x (y ∷ ys) ++ back
      by Less e rest = rw (e, bag_insert) refl
      by Equal e rest = rw (e, bag_insert) refl
      by Greater e rest = rw (e, bag_insert) (ap (λ zs. y ∷ zs) rest)

  -- a key that is put into a set where it is not, and taken out
  pub key-is-has : (x : X) (ys : List X) → list_any (is_at (cmp x)) ys ≡ has cmp x ys
  key-is-has x [] = refl
  key-is-has x (y ∷ ys) = ap (λ b. is_eq (cmp x y) || b) (key-is-has x ys)

  pub key-inserted : (x : X) (ys : List X) → has cmp x ys ≡ false → insert_key cmp ys x ≡ bag_insert cmp x ys
  key-inserted x [] e = refl
  key-inserted x (y ∷ ys) e = by (cmp x y) refl (λ f. key-inserted x ys f)
    where
      by : (r : Ordering) → cmp x y ≡ r → (has cmp x ys ≡ false → insert_key cmp ys x ≡ bag_insert cmp x ys) → insert_key cmp (y ∷ ys) x ≡ bag_insert cmp x (y ∷ ys)
      by Less f rest = rw (f, bag_insert) refl
      by Equal f rest = absurd (cc)
      by Greater f rest = rw (f, bag_insert) (ap (λ zs. y ∷ zs) (rest (sym (ap (λ r. is_eq r || has cmp x ys) f) ∙ e)))

  pub key-removed : (x : X) (ys : List X) → remove_key (is_at (cmp x)) ys ≡ bag_remove cmp x ys
  key-removed x [] = refl
  key-removed x (y ∷ ys) = by (cmp x y) refl (key-removed x ys)
    where
      by : (r : Ordering) → cmp x y ≡ r → remove_key (is_at (cmp x)) ys ≡ bag_remove cmp x ys → remove_key (is_at (cmp x)) (y ∷ ys) ≡ bag_remove cmp x (y ∷ ys)
      by Less f rest = rw (f, bag_remove) (ap (λ zs. y ∷ zs) rest)
      by Equal f rest = rw (f, bag_remove) refl
      by Greater f rest = rw (f, bag_remove) (ap (λ zs. y ∷ zs) rest)
