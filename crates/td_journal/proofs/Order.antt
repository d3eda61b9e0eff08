-- A batch's records are in order: they are a bag.
use Rattle.std.proofs.Common.{◌≡◌, true, List, [], ◌∷◌, refl, sym, ap, ◌∙◌, subst}
use Rattle.std.proofs.lemmas.Bool.{and_parts, and_from}
use Rattle.std.specs.declared.cmp.Ordering.{Ordering}
use Rattle.std.specs.declared.cmp.Ordering.TheVariants.{Less, Equal, Greater}
use Rattle.std.specs.Ordering.{is_le, ordering_reverse}
use Rattle.std.specs.Cmp.{IsTotalOrder}
use Rattle.td_stamp.specs.Bag.{bag_insert, bag_of, IsBag}
use Rattle.td_gate.specs.Fields.{is_chain}

reverse_apart : Greater ≡ Less → ⊥
reverse_apart e = cc

never_above : (o : Ordering) → o ≡ ordering_reverse o → o ≡ Greater → ⊥
never_above Less e is = cc
never_above Equal e is = cc
never_above Greater e is = cc

module _ {X : Type 0} (cmp : X → X → Ordering) (total : IsTotalOrder cmp) where
  -- an element goes before a list: it is not above the first of it
  abbrev IsBelow : X → List X → Type 0
  IsBelow x [] = Unit {0}
  IsBelow x (z ∷ zs) = is_le (cmp x z) ≡ true

  by_order : (o : Ordering) (x z : X) (zs r : List X) → cmp x z ≡ o → elim o [ Greater ↦ z ∷ bag_insert cmp x zs | _ ↦ x ∷ z ∷ zs ] ≡ x ∷ r → (z ∷ zs ≡ r) × (is_le (cmp x z) ≡ true)
  by_order Less x z zs r o e = (cc, ap is_le o)
  by_order Equal x z zs r o e = (cc, ap is_le o)
  by_order Greater x z zs r o e =
      let same : z ≡ x = cc in
      let itself : cmp x x ≡ Greater = ap (cmp x) (sym same) ∙ o in
      absurd (never_above (cmp x x) (total.antisymm x x) itself)

  put_first : (x : X) (s r : List X) → bag_insert cmp x s ≡ x ∷ r → (s ≡ r) × IsBelow x s
  put_first x [] r e = (cc, tt)
  put_first x (z ∷ zs) r e = by_order (cmp x z) x z zs r refl e

  pub chain_from_bag : (xs : List X) → IsBag cmp xs → is_chain (λ x y. is_le (cmp x y)) xs ≡ true
  chain_from_bag [] bag = refl
  chain_from_bag (x ∷ []) bag = refl
  chain_from_bag (x ∷ y ∷ ys) bag =
      let first = put_first x (bag_of cmp (y ∷ ys)) (y ∷ ys) bag in
      and_from (is_le (cmp x y)) (is_chain (λ x y. is_le (cmp x y)) (y ∷ ys)) (subst (IsBelow x) first.0 first.1) (chain_from_bag (y ∷ ys) first.0)

  stays_first : (o : Ordering) (x z : X) (zs : List X) → cmp x z ≡ o → is_le o ≡ true → bag_insert cmp x (z ∷ zs) ≡ x ∷ z ∷ zs
  stays_first Less x z zs o le = rw (o, bag_insert)
  stays_first Equal x z zs o le = rw (o, bag_insert)
  stays_first Greater x z zs o le = absurd cc

  pub bag_from_chain : (xs : List X) → is_chain (λ x y. is_le (cmp x y)) xs ≡ true → IsBag cmp xs
  bag_from_chain [] chain = refl
  bag_from_chain (x ∷ []) chain = refl
  bag_from_chain (x ∷ y ∷ ys) chain =
      let parts = and_parts (is_le (cmp x y)) (is_chain (λ x y. is_le (cmp x y)) (y ∷ ys)) chain in
      ap (bag_insert cmp x) (bag_from_chain (y ∷ ys) parts.1) ∙ stays_first (cmp x y) x y ys refl parts.0
