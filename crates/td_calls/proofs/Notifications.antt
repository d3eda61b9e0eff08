-- What a vertex sends where nothing more arrives is what its notifications send, in whatever parts the keys are notified.
use Rattle.std.proofs.Common.{◌≡◌, ℕ, ◌==◌, List, [], ◌∷◌, ◌++◌, map, filter, flat_map, not, refl, ap, sym, ◌∙◌, append-nil, Bool, true, false, ◌&&◌, Option}
use Rattle.std.specs.Ordering.{nat_cmp}
use Rattle.std.specs.Cmp.{nat_cmp_total}
use Rattle.std.specs.FinMap.{nat_cmp-IsAntisymmetric}
use Rattle.std.proofs.lemmas.Bool.{eqb-true}
use Rattle.td_stamp.specs.declared.values.Rec.{Rec}
use Rattle.td_stamp.specs.declared.values.Item.{Item}
use Rattle.td_stamp.specs.declared.values.State.{State}
use Rattle.td_stamp.specs.declared.values.Arrival.{Arrival}
use Rattle.td_stamp.specs.Orders.{rec_cmp, item_cmp}
use Rattle.td_stamp.specs.Bag.{bag_of, join, set_of}
use Rattle.td_stamp.specs.Groups.{groups, items_of}
use Rattle.td_plan.specs.declared.vertex.Kind.{Kind}
use Rattle.td_plan.specs.declared.vertex.Kind.TheVariants.{Group, Fold}
use Rattle.td_calls.specs.Answers.{Answers}
use Rattle.td_calls.specs.Callbacks.{on_notification, sent_when_notified, of_keys, without_keys}
use Rattle.td_calls.specs.Laws.{SendsWhenNotified, SendsByKeys}
use Rattle.td_calls.proofs.Filters.{filter_yes, filter_no, filter-filter, filter-map, map_passed}
use Rattle.td_calls.proofs.Joins.{join-append}
use Rattle.td_calls.proofs.Sets.{filter-set_of}

-- the items of a key that passes
items_of_keys : (p : ℕ → Bool) (arrived : List Arrival) (key : ℕ) → p key ≡ true → items_of key (of_keys p arrived) ≡ items_of key arrived
items_of_keys p arrived key e =
    ap (λ l. bag_of item_cmp (map (λ (a : Arrival). a.item) l))
    (filter-filter (λ (a : Arrival). a.key == key) (λ a. p a.key) arrived ∙ (λ i. filter (λ (a : Arrival). at_key a.key (a.key == key) refl i) arrived))
  where
    no : (b : Bool) → (b && false) ≡ false
    no true = refl
    no false = refl

    at_key : (k : ℕ) (b : Bool) → (k == key) ≡ b → (p k && (k == key)) ≡ (k == key)
    at_key k true f = ap (λ b. b && (k == key)) (ap p (eqb-true k key f) ∙ e)
    at_key k false f = ap (λ b. p k && b) f ∙ no (p k) ∙ sym f

-- the groups of the keys that pass
pub groups_of_keys : (p : ℕ → Bool) (arrived : List Arrival) → groups (of_keys p arrived) ≡ filter (λ g. p g.0) (groups arrived)
groups_of_keys p arrived =
    ap (map (λ key. (key, items_of key (of_keys p arrived)))) (ap (set_of nat_cmp) (sym (filter-map p (λ (a : Arrival). a.key) arrived)) ∙ sym (filter-set_of nat_cmp nat_cmp_total nat_cmp-IsAntisymmetric p (map (λ a. a.key) arrived)))
    ∙ map_passed p (λ key. (key, items_of key (of_keys p arrived))) (λ key. (key, items_of key arrived)) (λ key e i. (key, items_of_keys p arrived key e i)) (set_of nat_cmp (map (λ a. a.key) arrived))
    ∙ sym (filter-map (λ g. p g.0) (λ key. (key, items_of key arrived)) (set_of nat_cmp (map (λ a. a.key) arrived)))

sends_nothing : {X : Type 0} (xs : List X) → flat_map {A = Rec} (λ x. []) xs ≡ []
sends_nothing [] = refl
sends_nothing (x ∷ xs) = sends_nothing xs

pub all_notified : (answers : Answers) (state : ℕ → Option State) (kind : Kind) → SendsWhenNotified answers state kind
all_notified answers state (Group code) kept = ap (λ l. bag_of rec_cmp (sent_when_notified answers state (Group code) l)) (append-nil kept.buffered)
all_notified answers state (Fold code) kept = ap (λ l. bag_of rec_cmp (sent_when_notified answers state (Fold code) l)) (append-nil kept.buffered)
all_notified answers state _ kept = ap (bag_of rec_cmp) (sym (sends_nothing (groups kept.buffered)))

module _
    (append : (xs ys : List Rec) → bag_of rec_cmp (xs ++ ys) ≡ join rec_cmp xs (bag_of rec_cmp ys))
    (swaps : (x y z : List Rec) → join rec_cmp x (join rec_cmp y z) ≡ join rec_cmp y (join rec_cmp x z)) where
  -- what some elements give, and what the others give
  abbrev given : {X : Type 0} → (X → List Rec) → (X → Bool) → List X → List Rec
  given f p xs = flat_map f (filter p xs)

  in_two : {X : Type 0} (f : X → List Rec) (p : X → Bool) (xs : List X) → bag_of rec_cmp (flat_map f xs) ≡ join rec_cmp (given f p xs) (bag_of rec_cmp (given f (λ x. not (p x)) xs))
  in_two f p [] = refl
  in_two {X} f p (x ∷ xs) = append (f x) (flat_map f xs) ∙ ap (join rec_cmp (f x)) (in_two f p xs) ∙ by (p x) refl
    where
      by : (b : Bool) → p x ≡ b → join rec_cmp (f x) (join rec_cmp (given f p xs) (bag_of rec_cmp (given f (λ x. not (p x)) xs))) ≡ join rec_cmp (given f p (x ∷ xs)) (bag_of rec_cmp (given f (λ x. not (p x)) (x ∷ xs)))
      by true e =
          sym (join-append rec_cmp (f x) (given f p xs) (bag_of rec_cmp (given f (λ x. not (p x)) xs)))
          ∙ (λ i. join rec_cmp (flat_map f (sym (filter_yes p x xs e) i)) (bag_of rec_cmp (flat_map f (sym (filter_no (λ x. not (p x)) x xs (ap not e)) i))))
      by false e =
          swaps (f x) (given f p xs) (bag_of rec_cmp (given f (λ x. not (p x)) xs)) ∙ ap (join rec_cmp (given f p xs)) (sym (append (f x) (given f (λ x. not (p x)) xs)))
          ∙ (λ i. join rec_cmp (flat_map f (sym (filter_no p x xs e) i)) (bag_of rec_cmp (flat_map f (sym (filter_yes (λ x. not (p x)) x xs (ap not e)) i))))

  by_keys : (f : ℕ × List Item → List Rec) (p : ℕ → Bool) (arrived : List Arrival)
      → bag_of rec_cmp (flat_map f (groups arrived)) ≡ join rec_cmp (flat_map f (groups (of_keys p arrived))) (bag_of rec_cmp (flat_map f (groups (of_keys (λ key. not (p key)) arrived))))
  by_keys f p arrived =
      in_two f (λ g. p g.0) (groups arrived)
      ∙ (λ i. join rec_cmp (flat_map f (sym (groups_of_keys p arrived) i)) (bag_of rec_cmp (flat_map f (sym (groups_of_keys (λ key. not (p key)) arrived) i))))

  pub keys_notified : (answers : Answers) (state : ℕ → Option State) (kind : Kind) → SendsByKeys answers state kind
  keys_notified answers state kind kept p =
      all_notified answers state kind kept ∙ by_keys (λ g. (on_notification answers kind g.0 (state g.0) g.1).1) p kept.buffered
      ∙ ap (join rec_cmp (sent_when_notified answers state kind (of_keys p kept.buffered))) (sym (all_notified answers state kind (without_keys p kept)))
