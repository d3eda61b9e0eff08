-- The places of two lists that stand in order: the first of them, and what is left.
use Rattle.std.proofs.Common.{◌≡◌, List, [], ◌∷◌, ◌++◌, Option, Some, None, refl, ap, sym, ◌∙◌, subst}
use Rattle.std.specs.Prelude.{MatchOption}
use Rattle.std.specs.List.{AllByRecursion}
use Rattle.std.specs.List.Sorted.{IsStrictlySortedBy}
use Rattle.std.specs.declared.cmp.Ordering.{Ordering}
use Rattle.std.specs.declared.cmp.Ordering.TheVariants.{Less, Equal, Greater}
use Rattle.std.specs.Ordering.{ordering_reverse}
use Rattle.std.specs.Cmp.{IsTotalOrder}
use Rattle.std.specs.FinMap.{IsAntisymmetric}
use Rattle.std.proofs.lemmas.Cmp.{tied_itself}
use Rattle.td_stamp.specs.Bag.{set_insert, set_of}
use Rattle.td_stamp.specs.BagLaws.{SetLaws}

module _ {K : Type 0} (cmp : K → K → Ordering) (total : IsTotalOrder cmp) (same : IsAntisymmetric cmp) (laws : SetLaws cmp) where
  -- all of a list are above one
  abbrev AreAbove : K → List K → Type 0
  AreAbove x ys = AllByRecursion (λ y. cmp x y ≡ Less) ys

  put_first : (x : K) (ys : List K) → AreAbove x ys → set_insert cmp x ys ≡ x ∷ ys
  put_first x [] h = refl
  put_first x (y ∷ ys) h = rw (h.0, set_insert) refl

  above_put : (x y : K) (ys : List K) → cmp x y ≡ Less → AreAbove x ys → AreAbove x (set_insert cmp y ys)
  above_put x y [] l h = (l, tt)
  above_put x y (z ∷ ys) l h = by (cmp y z) refl (above_put x y ys l h.1)
    where
      by : (o : Ordering) → cmp y z ≡ o → AreAbove x (set_insert cmp y ys) → AreAbove x (set_insert cmp y (z ∷ ys))
      by Less e rest = rw (e, set_insert) (l, h)
      by Equal e rest = rw (e, set_insert) h
      by Greater e rest = rw (e, set_insert) (h.0, rest)

  above_set : (x : K) (ys : List K) → AreAbove x ys → AreAbove x (set_of cmp ys)
  above_set x [] h = tt
  above_set x (y ∷ ys) h = above_put x y (set_of cmp ys) h.0 (above_set x ys h.1)

  above_both : (x : K) (ys zs : List K) → AreAbove x ys → AreAbove x zs → AreAbove x (ys ++ zs)
  above_both x [] zs h j = j
  above_both x (y ∷ ys) zs h j = (h.0, above_both x ys zs h.1 j)

  above_all : (x y : K) (zs : List K) → cmp x y ≡ Less → AreAbove y zs → AreAbove x zs
  above_all x y [] l h = tt
  above_all x y (z ∷ zs) l h = (total.trans x y z l h.0, above_all x y zs l h.1)

  turned : (x y : K) → cmp x y ≡ Greater → cmp y x ≡ Less
  turned x y e = total.antisymm y x ∙ ap ordering_reverse e

  -- the first is that of the one list, with no other
  pub first_alone : (x : K) (xs : List K) → IsStrictlySortedBy cmp (x ∷ xs) → set_of cmp ((x ∷ xs) ++ []) ≡ x ∷ set_of cmp (xs ++ [])
  unfolding IsStrictlySortedBy
  first_alone x xs h = put_first x (set_of cmp (xs ++ [])) (above_set x (xs ++ []) (above_both x xs [] h.0 tt))

  pub other_alone : (y : K) (ys : List K) → IsStrictlySortedBy cmp (y ∷ ys) → set_of cmp ([] ++ y ∷ ys) ≡ y ∷ set_of cmp ([] ++ ys)
  unfolding IsStrictlySortedBy
  other_alone y ys h = put_first y (set_of cmp ys) (above_set y ys h.0)

  -- it is the less of two
  pub first_less : (x : K) (xs : List K) (y : K) (ys : List K) → IsStrictlySortedBy cmp (x ∷ xs) → IsStrictlySortedBy cmp (y ∷ ys) → cmp x y ≡ Less
      → set_of cmp ((x ∷ xs) ++ y ∷ ys) ≡ x ∷ set_of cmp (xs ++ y ∷ ys)
  unfolding IsStrictlySortedBy
  first_less x xs y ys h j l = put_first x (set_of cmp (xs ++ y ∷ ys)) (above_set x (xs ++ y ∷ ys) (above_both x xs (y ∷ ys) h.0 (l, above_all x y ys l j.0)))

  pub other_less : (x : K) (xs : List K) (y : K) (ys : List K) → IsStrictlySortedBy cmp (x ∷ xs) → IsStrictlySortedBy cmp (y ∷ ys) → cmp x y ≡ Greater
      → set_of cmp ((x ∷ xs) ++ y ∷ ys) ≡ y ∷ set_of cmp ((x ∷ xs) ++ ys)
  unfolding IsStrictlySortedBy
  other_less x xs y ys h j g =
      let l = turned x y g in
      laws.middle (x ∷ xs) y ys
      ∙ put_first y (set_of cmp ((x ∷ xs) ++ ys)) (above_set y ((x ∷ xs) ++ ys) (above_both y (x ∷ xs) ys (l, above_all y x xs l h.0) j.0))

  -- or that of both
  put_twice : (x : K) (ys : List K) → set_insert cmp x (x ∷ ys) ≡ x ∷ ys
  put_twice x ys = rw (tied_itself total x, set_insert) refl

  pub first_of_both : (x : K) (xs : List K) (y : K) (ys : List K) → IsStrictlySortedBy cmp (x ∷ xs) → IsStrictlySortedBy cmp (y ∷ ys) → cmp x y ≡ Equal
      → set_of cmp ((x ∷ xs) ++ y ∷ ys) ≡ x ∷ set_of cmp (xs ++ ys)
  unfolding IsStrictlySortedBy
  first_of_both x xs y ys h j e =
      let k : y ≡ x = sym (same x y e) in
      let first = put_first x (set_of cmp (xs ++ ys)) (above_set x (xs ++ ys) (above_both x xs ys h.0 (subst (λ z. AreAbove z ys) k j.0))) in
      ap (set_insert cmp x) (laws.middle xs y ys ∙ ap (λ z. set_insert cmp z (set_of cmp (xs ++ ys))) k ∙ first) ∙ put_twice x (set_of cmp (xs ++ ys))

  -- ---- what is taken of one of them, and so of both
  abbrev pub Takes : List K → Option K → List K → Type 0
  Takes old r new = MatchOption r ((old ≡ []) × (new ≡ [])) (λ x. old ≡ x ∷ new)

  taken : (old : List K) (x : K) (rest : List K) → old ≡ x ∷ rest → (r : Option K) (new : List K) → Takes old r new → (r ≡ Some x) × (new ≡ rest)
  taken old x rest is None new h = let no : [] ≡ x ∷ rest = sym h.0 ∙ is in absurd (cc)
  taken old x rest is (Some y) new h = let both : x ∷ rest ≡ y ∷ new = sym is ∙ h in (cc, cc)

  pub sorted_rest : (old : List K) (r : Option K) (new : List K) → IsStrictlySortedBy cmp old → Takes old r new → IsStrictlySortedBy cmp new
  unfolding IsStrictlySortedBy
  sorted_rest old None new s h = subst (IsStrictlySortedBy cmp) (sym h.1) tt
  sorted_rest old (Some x) new s h = (subst (IsStrictlySortedBy cmp) h s).1

  module _ (base left : List K) (s : IsStrictlySortedBy cmp base) (t : IsStrictlySortedBy cmp left) where
    module _ (x : K) (xs : List K) (b : base ≡ x ∷ xs) (r : Option K) (new : List K) (h : Takes base r new) where
      by_base : (others : List K) → set_of cmp (base ++ left) ≡ x ∷ set_of cmp (xs ++ others) → Takes (set_of cmp (base ++ left)) r (set_of cmp (new ++ others))
      by_base others e =
          let is = taken base x xs b r new h in
          subst (λ q. Takes (set_of cmp (base ++ left)) q (set_of cmp (new ++ others))) (sym is.0) (e ∙ (λ i. x ∷ set_of cmp (sym is.1 i ++ others)))

      pub base_alone : left ≡ [] → Takes (set_of cmp (base ++ left)) r (set_of cmp (new ++ left))
      base_alone l =
          by_base left ((λ i. set_of cmp (b i ++ l i)) ∙ (first_alone x xs (subst (IsStrictlySortedBy cmp) b s) ∙ (λ i. x ∷ set_of cmp (xs ++ sym l i))))

      module _ (y : K) (ys : List K) (l : left ≡ y ∷ ys) where
        both : set_of cmp (base ++ left) ≡ set_of cmp ((x ∷ xs) ++ y ∷ ys)
        both = λ i. set_of cmp (b i ++ l i)

        pub base_less : cmp x y ≡ Less → Takes (set_of cmp (base ++ left)) r (set_of cmp (new ++ left))
        base_less o =
            by_base left (both ∙ (first_less x xs y ys (subst (IsStrictlySortedBy cmp) b s) (subst (IsStrictlySortedBy cmp) l t) o ∙ (λ i. x ∷ set_of cmp (xs ++ sym l i))))

        pub base_same : cmp x y ≡ Equal → (q : Option K) (rest : List K) → Takes left q rest → Takes (set_of cmp (base ++ left)) r (set_of cmp (new ++ rest))
        base_same o q rest j =
            let is = taken left y ys l q rest j in
            by_base rest (both ∙ (first_of_both x xs y ys (subst (IsStrictlySortedBy cmp) b s) (subst (IsStrictlySortedBy cmp) l t) o ∙ (λ i. x ∷ set_of cmp (xs ++ sym is.1 i))))

    -- or of the other
    pub left_less : (x : K) (xs : List K) → base ≡ x ∷ xs → (y : K) (ys : List K) → left ≡ y ∷ ys → cmp x y ≡ Greater
        → (r : Option K) (new : List K) → Takes left r new → Takes (set_of cmp (base ++ left)) r (set_of cmp (base ++ new))
    left_less x xs b y ys l o r new h =
        let is = taken left y ys l r new h in
        subst (λ q. Takes (set_of cmp (base ++ left)) q (set_of cmp (base ++ new))) (sym is.0)
        ((λ i. set_of cmp (b i ++ l i)) ∙ (other_less x xs y ys (subst (IsStrictlySortedBy cmp) b s) (subst (IsStrictlySortedBy cmp) l t) o ∙ (λ i. y ∷ set_of cmp (sym b i ++ sym is.1 i))))

    pub left_alone : base ≡ [] → (r : Option K) (new : List K) → Takes left r new → Takes (set_of cmp (base ++ left)) r (set_of cmp (base ++ new))
    left_alone b None new h = ((λ i. set_of cmp (b i ++ h.0 i)), (λ i. set_of cmp (b i ++ h.1 i)))
    left_alone b (Some y) new h =
        (λ i. set_of cmp (b i ++ h i)) ∙ (other_alone y new (subst (IsStrictlySortedBy cmp) h t) ∙ (λ i. y ∷ set_of cmp (sym b i ++ new)))
