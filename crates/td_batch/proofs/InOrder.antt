-- What arrives in order: the records of one bag, and the bag of what arrives from several.
use Rattle.std.proofs.Common.{◌≡◌, ℕ, List, [], ◌∷◌, map, refl, ap, sym, ◌∙◌}
use Rattle.std.specs.Prelude.{Option}
use Rattle.std.specs.declared.cmp.Ordering.{Ordering}
use Rattle.std.specs.declared.cmp.Ordering.TheVariants.{Less, Equal, Greater}
use Rattle.td_stamp.specs.declared.values.Rec.{Rec}
use Rattle.td_stamp.specs.declared.values.State.{State}
use Rattle.td_stamp.specs.declared.values.Arrival.{Arrival}
use Rattle.td_stamp.specs.Orders.{rec_cmp, arrival_cmp}
use Rattle.td_stamp.specs.Bag.{bag_insert, bag_of, IsBag}
use Rattle.td_stamp.specs.Groups.{arrival_of, groups}
use Rattle.td_plan.specs.declared.vertex.Kind.{Kind}
use Rattle.td_plan.specs.declared.vertex.Kind.TheVariants.{Fold}
use Rattle.td_calls.specs.Answers.{Answers}
use Rattle.td_batch.specs.Changes.{changes_by}

-- records that arrive at one port are ordered as they are
map-bag_insert : (x : Rec) (ys : List Rec) → map (arrival_of 0) (bag_insert rec_cmp x ys) ≡ bag_insert arrival_cmp (arrival_of 0 x) (map (arrival_of 0) ys)
map-bag_insert x [] = refl
map-bag_insert x (y ∷ ys) = by (rec_cmp x y) (map-bag_insert x ys)
  where
    by : (o : Ordering) → map (arrival_of 0) (bag_insert rec_cmp x ys) ≡ bag_insert arrival_cmp (arrival_of 0 x) (map (arrival_of 0) ys)
        → map (arrival_of 0) (elim o [ Greater ↦ y ∷ bag_insert rec_cmp x ys | _ ↦ x ∷ y ∷ ys ])
        ≡ elim o [ Greater ↦ arrival_of 0 y ∷ bag_insert arrival_cmp (arrival_of 0 x) (map (arrival_of 0) ys) | _ ↦ arrival_of 0 x ∷ arrival_of 0 y ∷ map (arrival_of 0) ys ]
    by Less rest = refl
    by Equal rest = refl
    by Greater rest = ap (λ more. arrival_of 0 y ∷ more) rest

map-bag_of : (xs : List Rec) → map (arrival_of 0) (bag_of rec_cmp xs) ≡ bag_of arrival_cmp (map (arrival_of 0) xs)
map-bag_of [] = refl
map-bag_of (x ∷ xs) = map-bag_insert x (bag_of rec_cmp xs) ∙ ap (bag_insert arrival_cmp (arrival_of 0 x)) (map-bag_of xs)

pub one_in_order : (bag : List Rec) → IsBag rec_cmp bag → IsBag arrival_cmp (map (arrival_of 0) bag)
one_in_order bag is = sym (map-bag_of bag) ∙ ap (map (arrival_of 0)) is

-- what a fold is to keep does not depend on the order
pub changes_in_order : ((xs : List Arrival) → groups (bag_of arrival_cmp xs) ≡ groups xs) → (answers : Answers) (state : ℕ → Option State) (v : ℕ) (kind : Kind) (xs : List Arrival)
    → changes_by answers state v kind (bag_of arrival_cmp xs) ≡ changes_by answers state v kind xs
changes_in_order of_bag answers state v (Fold code) xs = ap (map (λ g. record { vertex = v; key = g.0; state = (answers.fold code g.0 (state g.0) g.1).0 })) (of_bag xs)
changes_in_order of_bag answers state v _ xs = refl
