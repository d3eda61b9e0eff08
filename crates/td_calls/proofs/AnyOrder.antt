-- What a vertex sends depends on what it has seen, and on the bags of what it keeps and of what arrives. The laws of bags,
-- sets and groups are taken as arguments, as td_stamp states them.
use Rattle.std.proofs.Common.{◌≡◌, ℕ, List, [], ◌∷◌, ◌++◌, map, filter, flat_map, not, refl, ap, sym, ◌∙◌, Option}
use Rattle.std.proofs.lemmas.List.Concat.{flat_map_single}
use Rattle.std.specs.declared.cmp.Ordering.{Ordering}
use Rattle.std.specs.declared.cmp.Ordering.TheVariants.{Less, Equal, Greater}
use Rattle.td_stamp.specs.declared.values.Rec.{Rec}
use Rattle.td_stamp.specs.declared.values.State.{State}
use Rattle.td_stamp.specs.declared.values.Arrival.{Arrival}
use Rattle.td_stamp.specs.Orders.{rec_cmp, arrival_cmp}
use Rattle.td_stamp.specs.Bag.{bag_insert, bag_of, join, set_insert, set_of}
use Rattle.td_stamp.specs.Groups.{rec_of, groups}
use Rattle.td_plan.specs.declared.vertex.Kind.{Kind}
use Rattle.td_plan.specs.declared.vertex.Kind.TheVariants.{Input, Map, Distinct, Group, Fold}
use Rattle.td_calls.specs.Answers.{Answers}
use Rattle.td_calls.specs.Callbacks.{on_notification}
use Rattle.td_calls.specs.Laws.{SendsInAnyOrder}

module _
    (append : (xs ys : List Rec) → bag_of rec_cmp (xs ++ ys) ≡ join rec_cmp xs (bag_of rec_cmp ys))
    (arrivals_append : (xs ys : List Arrival) → bag_of arrival_cmp (xs ++ ys) ≡ join arrival_cmp xs (bag_of arrival_cmp ys))
    (arrivals_twice : (xs : List Arrival) → bag_of arrival_cmp (bag_of arrival_cmp xs) ≡ bag_of arrival_cmp xs)
    (arrivals_assoc : (x y z : List Arrival) → join arrival_cmp (join arrival_cmp x y) z ≡ join arrival_cmp x (join arrival_cmp y z))
    (parts : (parts : Arrival → List Rec) (x : Arrival) (ys : List Arrival) → bag_of rec_cmp (flat_map parts (bag_insert arrival_cmp x ys)) ≡ join rec_cmp (parts x) (bag_of rec_cmp (flat_map parts ys)))
    (set_swaps : (x y : Rec) (zs : List Rec) → set_insert rec_cmp x (set_insert rec_cmp y zs) ≡ set_insert rec_cmp y (set_insert rec_cmp x zs))
    (groups_of_a_bag : (xs : List Arrival) → groups (bag_of arrival_cmp xs) ≡ groups xs) where
  -- what is made of each arrival
  parts_of_a_bag : (f : Arrival → List Rec) (xs : List Arrival) → bag_of rec_cmp (flat_map f (bag_of arrival_cmp xs)) ≡ bag_of rec_cmp (flat_map f xs)
  parts_of_a_bag f [] = refl
  parts_of_a_bag f (x ∷ xs) = parts f x (bag_of arrival_cmp xs) ∙ ap (join rec_cmp (f x)) (parts_of_a_bag f xs) ∙ sym (append (f x) (flat_map f xs))

  recs_of_a_bag : (xs : List Arrival) → bag_of rec_cmp (map rec_of (bag_of arrival_cmp xs)) ≡ bag_of rec_cmp (map rec_of xs)
  recs_of_a_bag xs =
      ap (bag_of rec_cmp) (sym (flat_map_single rec_of (bag_of arrival_cmp xs))) ∙ parts_of_a_bag (λ a. rec_of a ∷ []) xs ∙ ap (bag_of rec_cmp) (flat_map_single rec_of xs)

  -- the set of the records
  set_with : (a : Arrival) (ys : List Arrival) → set_of rec_cmp (map rec_of (bag_insert arrival_cmp a ys)) ≡ set_insert rec_cmp (rec_of a) (set_of rec_cmp (map rec_of ys))
  set_with a [] = refl
  set_with a (y ∷ ys) = by (arrival_cmp a y) refl (set_with a ys)
    where
      by : (s : Ordering) → arrival_cmp a y ≡ s → set_of rec_cmp (map rec_of (bag_insert arrival_cmp a ys)) ≡ set_insert rec_cmp (rec_of a) (set_of rec_cmp (map rec_of ys))
          → set_of rec_cmp (map rec_of (bag_insert arrival_cmp a (y ∷ ys))) ≡ set_insert rec_cmp (rec_of a) (set_of rec_cmp (map rec_of (y ∷ ys)))
      by Less e rest = rw (e, bag_insert) refl
      by Equal e rest = rw (e, bag_insert) refl
      by Greater e rest = rw (e, bag_insert) (ap (set_insert rec_cmp (rec_of y)) rest ∙ set_swaps (rec_of y) (rec_of a) (set_of rec_cmp (map rec_of ys)))

  set_of_a_bag : (xs : List Arrival) → set_of rec_cmp (map rec_of (bag_of arrival_cmp xs)) ≡ set_of rec_cmp (map rec_of xs)
  set_of_a_bag [] = refl
  set_of_a_bag (x ∷ xs) = set_with x (bag_of arrival_cmp xs) ∙ ap (set_insert rec_cmp (rec_of x)) (set_of_a_bag xs)

  -- the groups of what is kept and of what arrives
  same_groups : (ks ls xs ys : List Arrival) → bag_of arrival_cmp ks ≡ bag_of arrival_cmp ls → bag_of arrival_cmp xs ≡ bag_of arrival_cmp ys → groups (ks ++ xs) ≡ groups (ls ++ ys)
  same_groups ks ls xs ys k x =
      sym (groups_of_a_bag (ks ++ xs)) ∙ ap groups (arrivals_append ks xs ∙ sym (arrivals_assoc ks [] (bag_of arrival_cmp xs)) ∙ (λ i. join arrival_cmp (k i) (x i)) ∙ arrivals_assoc ls [] (bag_of arrival_cmp ys) ∙ sym (arrivals_append ls ys))
      ∙ groups_of_a_bag (ls ++ ys)

  pub same_sends : (answers : Answers) (state : ℕ → Option State) (kind : Kind) → SendsInAnyOrder answers state kind
  same_sends answers state Input k l xs ys seen kept came = refl
  same_sends answers state (Map code) k l xs ys seen kept came =
      let emit : Arrival → List Rec = λ a. answers.emit code a.item.port (rec_of a) in
      sym (parts_of_a_bag emit xs) ∙ ap (λ zs. bag_of rec_cmp (flat_map emit zs)) came ∙ parts_of_a_bag emit ys
  same_sends answers state Distinct k l xs ys seen kept came =
      (λ i. filter (λ r. not (seen refl r i)) ((sym (set_of_a_bag xs) ∙ ap (λ zs. set_of rec_cmp (map rec_of zs)) came ∙ set_of_a_bag ys) i))
  same_sends answers state (Group code) k l xs ys seen kept came =
      ap (λ gs. bag_of rec_cmp (flat_map (λ g. (on_notification answers (Group code) g.0 (state g.0) g.1).1) gs)) (same_groups k.buffered l.buffered xs ys (kept refl) came)
  same_sends answers state (Fold code) k l xs ys seen kept came =
      ap (λ gs. bag_of rec_cmp (flat_map (λ g. (on_notification answers (Fold code) g.0 (state g.0) g.1).1) gs)) (same_groups k.buffered l.buffered xs ys (kept refl) came)
  same_sends answers state _ k l xs ys seen kept came =
      sym (recs_of_a_bag xs) ∙ ap (λ zs. bag_of rec_cmp (map rec_of zs)) came ∙ recs_of_a_bag ys
