-- A bag that is kept as pairs of a member and how often it stands in it, in the members' order.
use Rattle.std.proofs.Common.{◌≡◌, ℕ, ◌+◌, ◌≤◌, suc, zero, List, [], ◌∷◌, ◌++◌, length, replicate, refl, ap, sym, ◌∙◌, subst, Bool, true, false, cond, arith, length-append, zero-add, append_assoc, rules}
use Rattle.std.specs.Prelude.{unwrap_or, Option, Some, None, is_some, IsSome}
use Rattle.std.specs.declared.cmp.Ordering.{Ordering}
use Rattle.std.specs.declared.cmp.Ordering.TheVariants.{Less, Equal, Greater}
use Rattle.std.specs.Cmp.{IsTotalOrder}
use Rattle.std.proofs.lemmas.Cmp.{tied_itself}
use Rattle.std.proofs.lemmas.List.{length-replicate, replicate-append-replicate}
use Rattle.std.specs.FinMap.{IsAntisymmetric}
use Rattle.std.specs.List.{AllByRecursion, AllZip}
use Rattle.std.proofs.lemmas.Map.Entries.{entries_from_clone}
use Rattle.std.specs.List.Sorted.{IsStrictlySortedBy}
use Rattle.std.specs.Map.{keys_of, lookup}
use Rattle.std.specs.BTreeMap.{insert_entry, is_at}
use Rattle.td_stamp.specs.Bag.{bag_insert, join, members}
use Rattle.td_stamp.proofs.Bags.{insert_past, insert_before_less, insert_before_equal}

-- how often a member stands in the bag is no more than there are members
pub lookup-members : {K : Type 0} (test : K → Bool) (es : List (K × ℕ)) → unwrap_or (lookup test es) 0 ≤ length (members es)
lookup-members test [] = omega arith
lookup-members {K} test (e ∷ es) = by (test e.0) (lookup-members test es)
  where
    by : (b : Bool) → unwrap_or (lookup test es) 0 ≤ length (members es) → unwrap_or (cond b (Some e.1) (lookup test es)) 0 ≤ length (replicate e.1 e.0 ++ members es)
    by true rest = omega (arith, length-append (replicate e.1 e.0) (members es), length-replicate e.1 e.0)
    by false rest = omega (arith, length-append (replicate e.1 e.0) (members es), rest)

module _ {K : Type 0} (cmp : K → K → Ordering) (total : IsTotalOrder cmp) (same : IsAntisymmetric cmp) where
  -- n copies of k, where one of them goes to the front
  join-replicate_front : (n : ℕ) (k : K) (xs : List K) → bag_insert cmp k xs ≡ k ∷ xs → join cmp (replicate n k) xs ≡ replicate n k ++ xs
  join-replicate_front zero k xs e = refl
  join-replicate_front (suc n) k xs e = ap (bag_insert cmp k) (join-replicate_front n k xs e) ∙ front n
    where
      front : (m : ℕ) → bag_insert cmp k (replicate m k ++ xs) ≡ k ∷ (replicate m k ++ xs)
      front zero = e
      front (suc m) = insert_before_equal cmp total same k k (replicate m k ++ xs) (tied_itself total k)

  -- they go past m copies of a lower member
  insert-replicate_past : (m : ℕ) (k y : K) (xs : List K) → cmp k y ≡ Greater → bag_insert cmp k (replicate m y ++ xs) ≡ replicate m y ++ bag_insert cmp k xs
  insert-replicate_past zero k y xs e = refl
  insert-replicate_past (suc m) k y xs e = insert_past cmp total same k y (replicate m y ++ xs) e ∙ ap (λ l. y ∷ l) (insert-replicate_past m k y xs e)

  join-replicate_past : (n m : ℕ) (k y : K) (xs : List K) → cmp k y ≡ Greater → join cmp (replicate n k) (replicate m y ++ xs) ≡ replicate m y ++ join cmp (replicate n k) xs
  join-replicate_past zero m k y xs e = refl
  join-replicate_past (suc n) m k y xs e = ap (bag_insert cmp k) (join-replicate_past n m k y xs e) ∙ insert-replicate_past m k y (join cmp (replicate n k) xs) e

  -- k goes to the front of members that are above it
  front_of_members : (k : K) (es : List (K × ℕ)) → AllByRecursion (λ y. cmp k y ≡ Less) (keys_of es) → bag_insert cmp k (members es) ≡ k ∷ members es
  front_of_members k [] above = refl
  front_of_members k (e ∷ es) above = by e.1 (front_of_members k es above.1)
    where
      by : (n : ℕ) → bag_insert cmp k (members es) ≡ k ∷ members es → bag_insert cmp k (replicate n e.0 ++ members es) ≡ k ∷ (replicate n e.0 ++ members es)
      by zero rest = rest
      by (suc n) rest = insert_before_less cmp total same k e.0 (replicate n e.0 ++ members es) above.0

  -- what is above a member is above each lower one
  above_lower : (k y : K) (xs : List K) → cmp k y ≡ Less → AllByRecursion (λ x. cmp y x ≡ Less) xs → AllByRecursion (λ x. cmp k x ≡ Less) xs
  above_lower k y [] e above = tt
  above_lower k y (x ∷ xs) e above = (total.trans k y x e above.0, above_lower k y xs e above.1)

  lookup_above : (k : K) (es : List (K × ℕ)) → AllByRecursion (λ y. cmp k y ≡ Less) (keys_of es) → lookup (is_at (cmp k)) es ≡ None
  lookup_above k [] above = refl
  lookup_above k (e ∷ es) above = rw above.0 (lookup_above k es above.1)

  -- the steps of a look-up and of an insertion
  lookup_here : (k : K) (e : K × ℕ) (es : List (K × ℕ)) → cmp k e.0 ≡ Equal → lookup (is_at (cmp k)) (e ∷ es) ≡ Some e.1
  lookup_here k e es h = rw h refl

  lookup_past : (k : K) (e : K × ℕ) (es : List (K × ℕ)) → cmp k e.0 ≡ Greater → lookup (is_at (cmp k)) (e ∷ es) ≡ lookup (is_at (cmp k)) es
  lookup_past k e es h = rw h refl

  entry_before : (k : K) (v : ℕ) (e : K × ℕ) (es : List (K × ℕ)) → cmp k e.0 ≡ Less → insert_entry cmp (e ∷ es) k v ≡ (k, v) ∷ e ∷ es
  entry_before k v e es h = rw h refl

  entry_here : (k : K) (v : ℕ) (e : K × ℕ) (es : List (K × ℕ)) → cmp k e.0 ≡ Equal → insert_entry cmp (e ∷ es) k v ≡ (e.0, v) ∷ es
  entry_here k v e es h = rw h refl

  entry_past : (k : K) (v : ℕ) (e : K × ℕ) (es : List (K × ℕ)) → cmp k e.0 ≡ Greater → insert_entry cmp (e ∷ es) k v ≡ e ∷ insert_entry cmp es k v
  entry_past k v e es h = rw h refl

  more_of_first : (n m : ℕ) (k : K) (es : List (K × ℕ)) → AllByRecursion (λ y. cmp k y ≡ Less) (keys_of es) → replicate (m + n) k ++ members es ≡ join cmp (replicate n k) (replicate m k ++ members es)
  more_of_first n m k es above =
      (λ i. arranged i ++ members es) ∙ append_assoc (replicate n k) (replicate m k) (members es) ∙ sym (join-replicate_front n k (replicate m k ++ members es) (front m))
    where
      arranged : replicate (m + n) k ≡ replicate n k ++ replicate m k
      arranged = let e : m + n ≡ n + m = omega arith in ap (λ x. replicate x k) e ∙ sym (replicate-append-replicate n m k)

      front : (m : ℕ) → bag_insert cmp k (replicate m k ++ members es) ≡ k ∷ (replicate m k ++ members es)
      front zero = front_of_members k es above
      front (suc m) = insert_before_equal cmp total same k k (replicate m k ++ members es) (tied_itself total k)

  more_here : (n : ℕ) (k : K) (e : K × ℕ) (es : List (K × ℕ)) → k ≡ e.0 → AllByRecursion (λ y. cmp e.0 y ≡ Less) (keys_of es) → replicate (e.1 + n) e.0 ++ members es ≡ join cmp (replicate n k) (replicate e.1 e.0 ++ members es)
  more_here n k e es q above =
      let P : K → Type 0 = λ x. replicate (e.1 + n) e.0 ++ members es ≡ join cmp (replicate n x) (replicate e.1 e.0 ++ members es) in
      subst P (sym q) (more_of_first n e.1 e.0 es above)

  -- n more of k
  pub members-insert_entry : (n : ℕ) (k : K) (es : List (K × ℕ)) → IsStrictlySortedBy cmp (keys_of es) → members (insert_entry cmp es k (unwrap_or (lookup (is_at (cmp k)) es) 0 + n)) ≡ join cmp (replicate n k) (members es)
  unfolding IsStrictlySortedBy
  members-insert_entry n k [] sorted = ap (λ m. replicate m k ++ []) (zero-add n) ∙ sym (join-replicate_front n k [] refl)
  members-insert_entry n k (e ∷ es) sorted = by (cmp k e.0) refl (members-insert_entry n k es sorted.1)
    where
      was : ℕ
      was = unwrap_or (lookup (is_at (cmp k)) (e ∷ es)) 0

      by : (r : Ordering) → cmp k e.0 ≡ r → members (insert_entry cmp es k (unwrap_or (lookup (is_at (cmp k)) es) 0 + n)) ≡ join cmp (replicate n k) (members es)
          → members (insert_entry cmp (e ∷ es) k (unwrap_or (lookup (is_at (cmp k)) (e ∷ es)) 0 + n)) ≡ join cmp (replicate n k) (replicate e.1 e.0 ++ members es)
      by Less h rest =
          let above : AllByRecursion (λ y. cmp k y ≡ Less) (keys_of (e ∷ es)) = (h, above_lower k e.0 (keys_of es) h sorted.0) in
          ap (λ o. members (insert_entry cmp (e ∷ es) k (unwrap_or o 0 + n))) (lookup_above k (e ∷ es) above)
          ∙ ap members (entry_before k (0 + n) e es h) ∙ ap (λ m. replicate m k ++ members (e ∷ es)) (zero-add n)
          ∙ sym (join-replicate_front n k (members (e ∷ es)) (front_of_members k (e ∷ es) above))
      by Equal h rest =
          ap (λ o. members (insert_entry cmp (e ∷ es) k (unwrap_or o 0 + n))) (lookup_here k e es h)
          ∙ ap members (entry_here k (e.1 + n) e es h) ∙ more_here n k e es (same k e.0 h) sorted.0
      by Greater h rest =
          ap (λ o. members (insert_entry cmp (e ∷ es) k (unwrap_or o 0 + n))) (lookup_past k e es h)
          ∙ ap members (entry_past k (unwrap_or (lookup (is_at (cmp k)) es) 0 + n) e es h)
          ∙ ap (λ l. replicate e.1 e.0 ++ l) rest ∙ sym (join-replicate_past n e.1 k e.0 (members es) h)

  -- the bag after `insert` put n more of k into the map, where `get` told how many of k there were
  pub more_counted : (n was : ℕ) (k : K) (es new : List (K × ℕ)) → IsStrictlySortedBy cmp (keys_of es) → was ≡ unwrap_or (lookup (is_at (cmp k)) es) 0 → new ≡ insert_entry cmp es k (was + n) → members new ≡ join cmp (replicate n k) (members es)
  more_counted n was k es new sorted told put = ap members put ∙ ap (λ w. members (insert_entry cmp es k (w + n))) told ∙ members-insert_entry n k es sorted

-- a look-up that finds nothing
pub absent_is_0 : (o : Option ℕ) → is_some o ≡ false → 0 ≡ unwrap_or o 0
absent_is_0 None e = refl
absent_is_0 (Some n) e = cc

-- what is there stays there
pub some_either : {X : Type 0} (b : Bool) (w : X) (o : Option X) → IsSome o → IsSome (cond b (Some w) o)
some_either true w o h = search rules
some_either false w o h = h

-- a clone of the map holds the same bag, where a key's clone is the key
pub members-clone : {K : Type 0} (C : K → K → Type 0) → ((x y : K) → C x y → y ≡ x) → (es fs : List (K × ℕ)) → AllZip (λ p q. C p.0 q.0 × (q.1 ≡ p.1)) es fs → members fs ≡ members es
members-clone C same es fs zip = ap members (entries_from_clone C (λ v w. w ≡ v) same (λ v w e. e) es fs zip)
