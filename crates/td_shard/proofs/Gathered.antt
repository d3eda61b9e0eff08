-- Items that wait, as contracts see them: a bag for each notification.
use Rattle.std.proofs.Common.{◌≡◌, ◌∙◌, ◌++◌, [], List, map, Option, Some, None, sym, ap}
use Rattle.std.specs.Option.{option_map}
use Rattle.std.specs.Map.{lookup, set_value}
use Rattle.std.specs.BTreeMap.{is_at, insert_entry}
use Rattle.std.proofs.lemmas.Map.Steps.{set_value_same}
use Rattle.td_stamp.specs.declared.values.Arrival.{Arrival}
use Rattle.td_stamp.specs.Bag.{bag_of, join}
use Rattle.td_stamp.specs.Orders.{arrival_cmp}
use Rattle.td_shard.specs.declared.waiting.Noted.{Noted}
use Rattle.td_shard.specs.Asked.{noted_cmp, with_items_by}
use Rattle.td_shard.proofs.Viewed.{seen, lookup-seen, set-seen, insert-seen}

-- a bag with more items is the bag of all
pub more_in_bag : ((xs ys : List Arrival) → bag_of arrival_cmp (xs ++ ys) ≡ join arrival_cmp xs (bag_of arrival_cmp ys))
    → ((x y z : List Arrival) → join arrival_cmp (join arrival_cmp x y) z ≡ join arrival_cmp x (join arrival_cmp y z))
    → (xs ys : List Arrival) → bag_of arrival_cmp (xs ++ ys) ≡ bag_of arrival_cmp (bag_of arrival_cmp xs ++ ys)
more_in_bag append associative xs ys =
    append xs ys ∙ (sym (associative xs [] (bag_of arrival_cmp ys)) ∙ sym (append (bag_of arrival_cmp xs) ys))

module _ {V : Type 0} (f : V → List Arrival) (es es2 : List (Noted × V)) (n : Noted) (more : List Arrival) where
  -- items that are there grow
  pub grown : (x y : V) → Some x ≡ lookup (is_at (noted_cmp n)) es → es2 ≡ set_value (is_at (noted_cmp n)) es y → f y ≡ bag_of arrival_cmp (f x ++ more)
      → map (seen f) es2 ≡ with_items_by (lookup (is_at (noted_cmp n)) (map (seen f) es)) (map (seen f) es) n more
  grown x y e g h =
      ap (map (seen f)) g ∙ (sym (set-seen f (is_at (noted_cmp n)) es y) ∙ (ap (set_value (is_at (noted_cmp n)) (map (seen f) es)) h
      ∙ sym (ap (λ o. with_items_by o (map (seen f) es) n more) (lookup-seen f (is_at (noted_cmp n)) es ∙ ap (option_map f) (sym e)))))

  -- others are put in
  pub put_in : (y : V) → None ≡ lookup (is_at (noted_cmp n)) es → es2 ≡ insert_entry noted_cmp es n y → f y ≡ bag_of arrival_cmp more
      → map (seen f) es2 ≡ with_items_by (lookup (is_at (noted_cmp n)) (map (seen f) es)) (map (seen f) es) n more
  put_in y e g h =
      ap (map (seen f)) g ∙ (sym (insert-seen f noted_cmp es n y) ∙ (ap (insert_entry noted_cmp (map (seen f) es) n) h
      ∙ sym (ap (λ o. with_items_by o (map (seen f) es) n more) (lookup-seen f (is_at (noted_cmp n)) es ∙ ap (option_map f) (sym e)))))

  -- the same bag is written back
  pub as_before : (x y : V) → Some x ≡ lookup (is_at (noted_cmp n)) es → es2 ≡ set_value (is_at (noted_cmp n)) es y → f y ≡ f x → map (seen f) es2 ≡ map (seen f) es
  as_before x y e g h =
      ap (map (seen f)) g ∙ (sym (set-seen f (is_at (noted_cmp n)) es y) ∙ (ap (set_value (is_at (noted_cmp n)) (map (seen f) es)) h
      ∙ set_value_same (is_at (noted_cmp n)) (map (seen f) es) (f x) (lookup-seen f (is_at (noted_cmp n)) es ∙ ap (option_map f) (sym e))))
