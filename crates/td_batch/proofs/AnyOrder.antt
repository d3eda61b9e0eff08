-- What a vertex emits does not depend on the order in which records arrive. The laws of bags, sets and groups are taken
-- as arguments, as td_stamp states them.
use Rattle.std.proofs.Common.{◌≡◌, ℕ, List, [], ◌∷◌, ◌++◌, map, flat_map, filter, not, refl, ap, sym, ◌∙◌}
use Rattle.std.proofs.lemmas.List.{map-append}
use Rattle.td_stamp.specs.declared.values.Rec.{Rec}
use Rattle.td_stamp.specs.declared.values.Arrival.{Arrival}
use Rattle.td_stamp.specs.declared.values.State.{State}
use Rattle.td_stamp.specs.Orders.{rec_cmp, arrival_cmp}
use Rattle.td_stamp.specs.Bag.{bag_insert, bag_of, join, set_insert, set_of, has}
use Rattle.td_stamp.specs.Groups.{rec_of, groups}
use Rattle.std.specs.Prelude.{fold, Option}
use Rattle.td_stamp.specs.States.{StateList, state_of}
use Rattle.td_plan.specs.declared.vertex.Kind.{Kind}
use Rattle.td_plan.specs.declared.vertex.Kind.TheVariants.{Input, Map, Distinct, Group, Fold}
use Rattle.td_calls.specs.Answers.{Answers}
use Rattle.td_calls.specs.Callbacks.{nothing_kept, on_notification}
use Rattle.td_calls.specs.Laws.{SendsInAnyOrder}
use Rattle.td_plan.specs.Lines.{Vertex}
use Rattle.td_batch.specs.Meaning.{EpochInput, answer, with_kept, states_by}

module _
    (append : (xs ys : List Rec) → bag_of rec_cmp (xs ++ ys) ≡ join rec_cmp xs (bag_of rec_cmp ys))
    (swaps : (x y z : List Rec) → join rec_cmp x (join rec_cmp y z) ≡ join rec_cmp y (join rec_cmp x z))
    (bag_any_place : (xs ys : List Rec) (x : Rec) → bag_of rec_cmp (xs ++ x ∷ ys) ≡ bag_insert rec_cmp x (bag_of rec_cmp (xs ++ ys)))
    (set_any_place : (xs ys : List Rec) (x : Rec) → set_of rec_cmp (xs ++ x ∷ ys) ≡ set_insert rec_cmp x (set_of rec_cmp (xs ++ ys)))
    (groups_any_place : (xs ys : List Arrival) (a : Arrival) → groups (xs ++ a ∷ ys) ≡ groups (a ∷ xs ++ ys)) where
  -- what each arrival has sent, in one bag
  sent-middle : (f : Arrival → List Rec) (xs : List Arrival) (a : Arrival) (ys : List Arrival) → bag_of rec_cmp (flat_map f (xs ++ a ∷ ys)) ≡ bag_of rec_cmp (flat_map f (a ∷ xs ++ ys))
  sent-middle f [] a ys = refl
  sent-middle f (w ∷ xs) a ys =
      append (f w) (flat_map f (xs ++ a ∷ ys)) ∙ ap (join rec_cmp (f w)) (sent-middle f xs a ys ∙ append (f a) (flat_map f (xs ++ ys)))
      ∙ swaps (f w) (f a) (bag_of rec_cmp (flat_map f (xs ++ ys)))
      ∙ sym (append (f a) (f w ++ flat_map f (xs ++ ys)) ∙ ap (join rec_cmp (f a)) (append (f w) (flat_map f (xs ++ ys))))

  -- the records that arrived, as a bag and as a set
  recs-middle : (xs : List Arrival) (a : Arrival) (ys : List Arrival) → bag_of rec_cmp (map rec_of (xs ++ a ∷ ys)) ≡ bag_of rec_cmp (map rec_of (a ∷ xs ++ ys))
  recs-middle xs a ys =
      ap (bag_of rec_cmp) (map-append rec_of xs (a ∷ ys)) ∙ bag_any_place (map rec_of xs) (map rec_of ys) (rec_of a)
      ∙ ap (λ rs. bag_insert rec_cmp (rec_of a) (bag_of rec_cmp rs)) (sym (map-append rec_of xs ys))

  set-middle : (xs : List Arrival) (a : Arrival) (ys : List Arrival) → set_of rec_cmp (map rec_of (xs ++ a ∷ ys)) ≡ set_of rec_cmp (map rec_of (a ∷ xs ++ ys))
  set-middle xs a ys =
      ap (set_of rec_cmp) (map-append rec_of xs (a ∷ ys)) ∙ set_any_place (map rec_of xs) (map rec_of ys) (rec_of a)
      ∙ ap (λ rs. set_insert rec_cmp (rec_of a) (set_of rec_cmp rs)) (sym (map-append rec_of xs ys))

  -- a record that arrives among others may as well arrive first
  pub answer-middle : (epoch : EpochInput) (v : ℕ) (kind : Kind) (xs : List Arrival) (a : Arrival) (ys : List Arrival) → answer epoch v kind (xs ++ a ∷ ys) ≡ answer epoch v kind (a ∷ xs ++ ys)
  answer-middle epoch v Input xs a ys = refl
  answer-middle epoch v (Map code) xs a ys = sent-middle (λ b. epoch.answers.emit code b.item.port (rec_of b)) xs a ys
  answer-middle epoch v Distinct xs a ys = ap (filter (λ r. not (has rec_cmp r []))) (set-middle xs a ys)
  answer-middle epoch v (Group code) xs a ys =
      ap (λ gs. bag_of rec_cmp (flat_map (λ g. (on_notification epoch.answers (Group code) g.0 (state_of epoch.states v g.0) g.1).1) gs)) (groups_any_place xs ys a)
  answer-middle epoch v (Fold code) xs a ys =
      ap (λ gs. bag_of rec_cmp (flat_map (λ g. (on_notification epoch.answers (Fold code) g.0 (state_of epoch.states v g.0) g.1).1) gs)) (groups_any_place xs ys a)
  answer-middle epoch v _ xs a ys = recs-middle xs a ys

  -- so do those of a fold: it is asked for each group once
  pub states-middle : (epoch : EpochInput) (v : Vertex) (kind : Kind) (xs : List Arrival) (a : Arrival) (ys : List Arrival) (states : StateList) → states_by epoch v kind (xs ++ a ∷ ys) states ≡ states_by epoch v kind (a ∷ xs ++ ys) states
  states-middle epoch v (Fold code) xs a ys states =
      ap (λ gs. fold (λ kept g. with_kept kept v.number g.0 (on_notification epoch.answers (Fold code) g.0 (state_of epoch.states v.number g.0) g.1).0) states gs) (groups_any_place xs ys a)
  states-middle epoch v _ xs a ys states = refl

-- ONE BAG: what is answered of the arrivals of one bag
module _
    (any_order : (answers : Answers) (state : ℕ → Option State) (kind : Kind) → SendsInAnyOrder answers state kind)
    (groups_of_bag : (xs : List Arrival) → groups (bag_of arrival_cmp xs) ≡ groups xs) where
  pub answer_alike : (epoch : EpochInput) (v : ℕ) (kind : Kind) (xs ys : List Arrival) → bag_of arrival_cmp xs ≡ bag_of arrival_cmp ys → answer epoch v kind xs ≡ answer epoch v kind ys
  answer_alike epoch v Input xs ys h = refl
  answer_alike epoch v kind xs ys h = any_order epoch.answers (state_of epoch.states v) kind nothing_kept nothing_kept xs ys (λ e r. refl) (λ e. refl) h

  pub states_alike : (epoch : EpochInput) (v : Vertex) (kind : Kind) (xs ys : List Arrival) (states : StateList) → bag_of arrival_cmp xs ≡ bag_of arrival_cmp ys
      → states_by epoch v kind xs states ≡ states_by epoch v kind ys states
  states_alike epoch v (Fold code) xs ys states h =
      ap (λ gs. fold (λ kept g. with_kept kept v.number g.0 (on_notification epoch.answers (Fold code) g.0 (state_of epoch.states v.number g.0) g.1).0) states gs)
      (sym (groups_of_bag xs) ∙ ap groups h ∙ groups_of_bag ys)
  states_alike epoch v _ xs ys states h = refl
