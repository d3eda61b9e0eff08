-- What waits in a shard, with more items: its notifications stand in order still, and its items are of the shard.
use Rattle.std.proofs.Common.{◌≡◌, Bool, true, false, cond, List, [], ◌∷◌, ◌++◌, Option, Some, None, refl, ap, sym, ◌∙◌, subst}
use Rattle.std.specs.List.{AllByRecursion}
use Rattle.std.specs.List.Sorted.{IsStrictlySortedBy}
use Rattle.std.specs.declared.cmp.Ordering.{Ordering}
use Rattle.std.specs.declared.cmp.Ordering.TheVariants.{Less, Equal, Greater}
use Rattle.std.specs.Map.{lookup, set_value, keys_of}
use Rattle.std.specs.BTreeMap.{is_at, insert_entry}
use Rattle.std.specs.Ordering.{match_ordering, ordering_reverse}
use Rattle.std.proofs.lemmas.Map.{keys-set_value}
use Rattle.td_stamp.specs.declared.values.Arrival.{Arrival}
use Rattle.td_stamp.specs.Bag.{bag_insert, bag_of}
use Rattle.td_stamp.specs.Orders.{arrival_cmp}
use Rattle.td_shard.specs.declared.waiting.Noted.{Noted}
use Rattle.td_shard.specs.Asked.{AskedList, noted_cmp, with_items, with_items_by}
use Rattle.td_shard.specs.ProvedOrders.{noted_total}

all_append : {X : Type 0} (P : X → Type 0) (xs ys : List X) → AllByRecursion P xs → AllByRecursion P ys → AllByRecursion P (xs ++ ys)
all_append P [] ys h k = k
all_append P (x ∷ xs) ys h k = (h.0, all_append P xs ys h.1 k)

-- what holds of all holds in their bag
all_insert : (P : Arrival → Type 0) (a : Arrival) (xs : List Arrival) → P a → AllByRecursion P xs → AllByRecursion P (bag_insert arrival_cmp a xs)
all_insert P a [] one h = (one, tt)
all_insert P a (x ∷ xs) one h = by (arrival_cmp a x) (all_insert P a xs one h.1)
  where
    by : (o : Ordering) → AllByRecursion P (bag_insert arrival_cmp a xs) → AllByRecursion P (elim o [ Greater ↦ x ∷ bag_insert arrival_cmp a xs | _ ↦ a ∷ x ∷ xs ])
    by Less later = (one, h)
    by Equal later = (one, h)
    by Greater later = (h.0, later)

all_in_bag : (P : Arrival → Type 0) (xs : List Arrival) → AllByRecursion P xs → AllByRecursion P (bag_of arrival_cmp xs)
all_in_bag P [] h = tt
all_in_bag P (x ∷ xs) h = all_insert P x (bag_of arrival_cmp xs) h.0 (all_in_bag P xs h.1)

pub weaker : {X : Type 0} (P Q : X → Type 0) → ((x : X) → P x → Q x) → (xs : List X) → AllByRecursion P xs → AllByRecursion Q xs
weaker P Q f [] h = tt
weaker P Q f (x ∷ xs) h = (f x h.0, weaker P Q f xs h.1)

module _ (n : Noted) (more : List Arrival) where
  abbrev sorted_more : List Arrival
  sorted_more = bag_of arrival_cmp more

  -- a key that is put in
  below_then : (k : Noted) (es : AskedList) → noted_cmp k n ≡ Less → AllByRecursion (λ y. noted_cmp k y ≡ Less) (keys_of es)
      → AllByRecursion (λ y. noted_cmp k y ≡ Less) (keys_of (insert_entry noted_cmp es n sorted_more))
  below_then k [] l h = (l, tt)
  below_then k (e ∷ es) l h = by (noted_cmp n e.0) (below_then k es l h.1)
    where
      by : (o : Ordering) → AllByRecursion (λ y. noted_cmp k y ≡ Less) (keys_of (insert_entry noted_cmp es n sorted_more))
          → AllByRecursion (λ y. noted_cmp k y ≡ Less) (keys_of (match_ordering o ((n, sorted_more) ∷ e ∷ es) ((e.0, sorted_more) ∷ es) (e ∷ insert_entry noted_cmp es n sorted_more)))
      by Less rest = (l, h)
      by Equal rest = h
      by Greater rest = (h.0, rest)

  sorted_then : (es : AskedList) → IsStrictlySortedBy noted_cmp (keys_of es) → IsStrictlySortedBy noted_cmp (keys_of (insert_entry noted_cmp es n sorted_more))
  unfolding IsStrictlySortedBy
  sorted_then [] h = (tt, tt)
  sorted_then (e ∷ es) h = by (noted_cmp n e.0) refl (sorted_then es h.1)
    where
      by : (o : Ordering) → noted_cmp n e.0 ≡ o → IsStrictlySortedBy noted_cmp (keys_of (insert_entry noted_cmp es n sorted_more))
          → IsStrictlySortedBy noted_cmp (keys_of (match_ordering o ((n, sorted_more) ∷ e ∷ es) ((e.0, sorted_more) ∷ es) (e ∷ insert_entry noted_cmp es n sorted_more)))
      by Less is rest = ((is, weaker (λ y. noted_cmp e.0 y ≡ Less) (λ y. noted_cmp n y ≡ Less) (λ y l. noted_total.trans n e.0 y is l) (keys_of es) h.0), h)
      by Equal is rest = h
      by Greater is rest = (below_then e.0 es (noted_total.antisymm e.0 n ∙ ap ordering_reverse is) h.0, rest)

  pub sorted_with : (es : AskedList) → IsStrictlySortedBy noted_cmp (keys_of es) → IsStrictlySortedBy noted_cmp (keys_of (with_items es n.vertex n.time more))
  sorted_with es h = by (lookup (is_at (noted_cmp n)) es)
    where
      by : (o : Option (List Arrival)) → IsStrictlySortedBy noted_cmp (keys_of (with_items_by o es n more))
      by (Some items) = subst (IsStrictlySortedBy noted_cmp) (sym (keys-set_value (is_at (noted_cmp n)) es (bag_of arrival_cmp (items ++ more)))) h
      by None = sorted_then es h

  module _ (P : Arrival → Type 0) (new : AllByRecursion P more) where
    grown : (es : AskedList) (items : List Arrival) → lookup (is_at (noted_cmp n)) es ≡ Some items → AllByRecursion (λ w. AllByRecursion P w.1) es
        → AllByRecursion (λ w. AllByRecursion P w.1) (set_value (is_at (noted_cmp n)) es (bag_of arrival_cmp (items ++ more)))
    grown [] items found h = tt
    grown (e ∷ es) items found h = by (is_at (noted_cmp n) e.0) found (λ later. grown es items later h.1)
      where
        by : (b : Bool) → cond b (Some e.1) (lookup (is_at (noted_cmp n)) es) ≡ Some items
            → (lookup (is_at (noted_cmp n)) es ≡ Some items → AllByRecursion (λ w. AllByRecursion P w.1) (set_value (is_at (noted_cmp n)) es (bag_of arrival_cmp (items ++ more))))
            → AllByRecursion (λ w. AllByRecursion P w.1) (cond b ((e.0, bag_of arrival_cmp (items ++ more)) ∷ es) (e ∷ set_value (is_at (noted_cmp n)) es (bag_of arrival_cmp (items ++ more))))
        by true found later = (all_in_bag P (items ++ more) (all_append P items more (subst (AllByRecursion P) (ap (or items) found) h.0) new), h.1)
          where
            or : List Arrival → Option (List Arrival) → List Arrival
            or z None = z
            or z (Some v) = v
        by false found later = (h.0, later found)

    put_in : (es : AskedList) → AllByRecursion (λ w. AllByRecursion P w.1) es → AllByRecursion (λ w. AllByRecursion P w.1) (insert_entry noted_cmp es n sorted_more)
    put_in [] h = (all_in_bag P more new, tt)
    put_in (e ∷ es) h = by (noted_cmp n e.0) (put_in es h.1)
      where
        by : (o : Ordering) → AllByRecursion (λ w. AllByRecursion P w.1) (insert_entry noted_cmp es n sorted_more)
            → AllByRecursion (λ w. AllByRecursion P w.1) (match_ordering o ((n, sorted_more) ∷ e ∷ es) ((e.0, sorted_more) ∷ es) (e ∷ insert_entry noted_cmp es n sorted_more))
        by Less rest = (all_in_bag P more new, h)
        by Equal rest = (all_in_bag P more new, h.1)
        by Greater rest = (h.0, rest)

    pub all_with : (es : AskedList) → AllByRecursion (λ w. AllByRecursion P w.1) es → AllByRecursion (λ w. AllByRecursion P w.1) (with_items es n.vertex n.time more)
    all_with es h = by (lookup (is_at (noted_cmp n)) es) refl
      where
        by : (o : Option (List Arrival)) → lookup (is_at (noted_cmp n)) es ≡ o → AllByRecursion (λ w. AllByRecursion P w.1) (with_items_by o es n more)
        by (Some items) found = grown es items found h
        by None none = put_in es h
