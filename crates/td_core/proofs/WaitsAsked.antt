-- The notifications for which a shard asks, with more items.
use Rattle.std.proofs.Common.{◌≡◌, ℕ, Bool, true, false, ◌||◌, ◌⊎◌, inl, inr, cond, List, [], ◌∷◌, ◌++◌, map, Option, Some, None, is_some, refl, ap, sym, ◌∙◌, append_assoc}
use Rattle.std.specs.declared.cmp.Ordering.{Ordering}
use Rattle.std.specs.declared.cmp.Ordering.TheVariants.{Less, Equal, Greater}
use Rattle.std.specs.Map.{set_value}
use Rattle.std.specs.BTreeMap.{is_at, insert_entry}
use Rattle.std.specs.Ordering.{nat_cmp, ordering_then, is_eq, match_ordering}
use Rattle.std.specs.Cmp.{nat_cmp_total}
use Rattle.std.specs.FinMap.{nat_cmp-IsAntisymmetric}
use Rattle.std.proofs.lemmas.Cmp.{tied_itself}
use Rattle.td_stamp.specs.declared.values.Arrival.{Arrival}
use Rattle.td_stamp.specs.Bag.{bag_of, set_insert, set_of, has}
use Rattle.td_stamp.specs.Orders.{arrival_cmp}
use Rattle.td_stamp.specs.BagLaws.{SetLaws}
use Rattle.td_stamp.specs.Time.{Timestamp, time_cmp}
use Rattle.td_machine.specs.declared.records.Notification.{Notification}
use Rattle.td_machine.specs.State.{notification_cmp}
use Rattle.td_shard.specs.declared.waiting.Noted.{Noted}
use Rattle.td_shard.specs.Asked.{AskedList, noted_cmp, noted_at, items_at, with_items, with_items_by}
use Rattle.td_core.specs.Parts.{asked_of_shard}
use Rattle.td_core.proofs.Waits.{none_is_some}

-- the notification of a shard, a vertex and a time
abbrev pub asks : ℕ → ℕ → Timestamp → Notification
asks s v t = record { shard = s; vertex = v; time = t }

abbrev pub is_in : Notification → List Notification → Bool
is_in x xs = has notification_cmp x xs

pub in_two : (x : Notification) (xs ys : List Notification) → is_in x (xs ++ ys) ≡ (is_in x xs || is_in x ys)
in_two x [] ys = refl
in_two x (y ∷ xs) ys = ap (λ b. is_eq (notification_cmp x y) || b) (in_two x xs ys) ∙ assoc (is_eq (notification_cmp x y)) (is_in x xs) (is_in x ys)
  where
    assoc : (a b c : Bool) → (a || (b || c)) ≡ ((a || b) || c)
    assoc true b c = refl
    assoc false b c = refl

-- NOTIFICATIONS with one more in their midst, or with one that was there
pub record IsPutIn (x : Notification) (old new : List Notification) : Type 0 where
  pub before : List Notification
  pub after : List Notification
  pub was : old ≡ before ++ after
  pub is : new ≡ before ++ x ∷ after

abbrev pub IsAskedFor : Notification → List Notification → List Notification → Type 0
IsAskedFor x old new = ((new ≡ old) × (is_in x old ≡ true)) ⊎ IsPutIn x old new

or_true : (b : Bool) → (b || true) ≡ true
or_true true = refl
or_true false = refl

pub after_others : (x : Notification) (others old new : List Notification) → IsAskedFor x old new → IsAskedFor x (others ++ old) (others ++ new)
after_others x others old new (inl h) = inl (ap (λ l. others ++ l) h.0, in_two x others old ∙ (ap (λ b. is_in x others || b) h.1 ∙ or_true (is_in x others)))
after_others x others old new (inr h) = inr (record {
  before = others ++ h.before;
  after = h.after;
  was = ap (λ l. others ++ l) h.was ∙ sym (append_assoc others h.before h.after);
  is = ap (λ l. others ++ l) h.is ∙ sym (append_assoc others h.before (x ∷ h.after));
})

pub before_others : (x : Notification) (others old new : List Notification) → IsAskedFor x old new → IsAskedFor x (old ++ others) (new ++ others)
before_others x others old new (inl h) = inl (ap (λ l. l ++ others) h.0, in_two x old others ∙ ap (λ b. b || is_in x others) h.1)
before_others x others old new (inr h) = inr (record {
  before = h.before;
  after = h.after ++ others;
  was = ap (λ l. l ++ others) h.was ∙ append_assoc h.before h.after others;
  is = ap (λ l. l ++ others) h.is ∙ append_assoc h.before (x ∷ h.after) others;
})

-- as a set they have it then
pub asked_set : SetLaws notification_cmp → (x : Notification) (old new : List Notification) → IsAskedFor x old new → set_of notification_cmp new ≡ set_insert notification_cmp x (set_of notification_cmp old)
asked_set laws x old new (inl h) = ap (set_of notification_cmp) h.0 ∙ sym (laws.there x (set_of notification_cmp old) (laws.found x old ∙ h.1))
asked_set laws x old new (inr h) =
    ap (set_of notification_cmp) h.is ∙ (laws.middle h.before x h.after ∙ ap (λ l. set_insert notification_cmp x (set_of notification_cmp l)) (sym h.was))

-- whether one is in a set
pub in_set : SetLaws notification_cmp → (x : Notification) (xs : List Notification) → is_in x (set_of notification_cmp xs) ≡ is_in x xs
in_set laws x [] = refl
in_set laws x (y ∷ ys) = laws.found_inserted x y (set_of notification_cmp ys) ∙ ap (λ b. is_eq (notification_cmp x y) || b) (in_set laws x ys)

-- IN ONE SHARD
module _ (s v : ℕ) (t : Timestamp) where
  turned : (a b : Ordering) → is_eq (ordering_then a (ordering_then b Equal)) ≡ is_eq (ordering_then b a)
  turned Less Less = refl
  turned Less Equal = refl
  turned Less Greater = refl
  turned Equal Less = refl
  turned Equal Equal = refl
  turned Equal Greater = refl
  turned Greater Less = refl
  turned Greater Equal = refl
  turned Greater Greater = refl

  apart : (a b c : Ordering) → is_eq c ≡ false → is_eq (ordering_then a (ordering_then b c)) ≡ false
  apart Less b c e = refl
  apart Greater b c e = refl
  apart Equal Less c e = refl
  apart Equal Greater c e = refl
  apart Equal Equal c e = e

  same_test : (w : Noted × List Arrival) → is_eq (notification_cmp (asks s v t) (asked_of_shard s w)) ≡ is_at (noted_cmp (noted_at v t)) w.0
  same_test w =
      ap (λ o. is_eq (ordering_then (nat_cmp v w.0.vertex) (ordering_then (time_cmp t w.0.time) o))) (tied_itself nat_cmp_total s)
      ∙ turned (nat_cmp v w.0.vertex) (time_cmp t w.0.time)

  -- whether it is asked for there
  pub asked_here : (es : AskedList) → is_in (asks s v t) (map (asked_of_shard s) es) ≡ is_some (items_at es v t)
  asked_here [] = refl
  asked_here (e ∷ es) = ap (λ b. b || is_in (asks s v t) (map (asked_of_shard s) es)) (same_test e) ∙ by (is_at (noted_cmp (noted_at v t)) e.0) (asked_here es)
    where
      by : (b : Bool) → is_in (asks s v t) (map (asked_of_shard s) es) ≡ is_some (items_at es v t)
          → (b || is_in (asks s v t) (map (asked_of_shard s) es)) ≡ is_some (cond b (Some e.1) (items_at es v t))
      by true rest = refl
      by false rest = rest

  -- no other shard asks for it
  pub not_elsewhere : (k : ℕ) → (s ≡ k → ⊥) → (es : AskedList) → is_in (asks s v t) (map (asked_of_shard k) es) ≡ false
  not_elsewhere k other [] = refl
  not_elsewhere k other (e ∷ es) =
      ap (λ b. b || is_in (asks s v t) (map (asked_of_shard k) es)) (apart (nat_cmp v e.0.vertex) (time_cmp t e.0.time) (nat_cmp s k) (by (nat_cmp s k) refl))
      ∙ not_elsewhere k other es
    where
      by : (o : Ordering) → nat_cmp s k ≡ o → is_eq o ≡ false
      by Less e = refl
      by Greater e = refl
      by Equal e = absurd (other (nat_cmp-IsAntisymmetric s k e))

  module _ (more : List Arrival) where
    same_asked : (p : Noted → Bool) (es : AskedList) (y : List Arrival) → map (asked_of_shard s) (set_value p es y) ≡ map (asked_of_shard s) es
    same_asked p [] y = refl
    same_asked p (e ∷ es) y = by (p e.0) (same_asked p es y)
      where
        by : (b : Bool) → map (asked_of_shard s) (set_value p es y) ≡ map (asked_of_shard s) es
            → map (asked_of_shard s) (cond b ((e.0, y) ∷ es) (e ∷ set_value p es y)) ≡ map (asked_of_shard s) (e ∷ es)
        by true rest = refl
        by false rest = ap (λ l. asked_of_shard s e ∷ l) rest

    put_in : (es : AskedList) → items_at es v t ≡ None
        → IsPutIn (asks s v t) (map (asked_of_shard s) es) (map (asked_of_shard s) (insert_entry noted_cmp es (noted_at v t) (bag_of arrival_cmp more)))
    put_in [] none = record { before = []; after = []; was = refl; is = refl }
    put_in (e ∷ es) none = by (noted_cmp (noted_at v t) e.0) none (λ later. put_in es later)
      where
        by : (o : Ordering) → cond (is_eq o) (Some e.1) (items_at es v t) ≡ None
            → (items_at es v t ≡ None → IsPutIn (asks s v t) (map (asked_of_shard s) es) (map (asked_of_shard s) (insert_entry noted_cmp es (noted_at v t) (bag_of arrival_cmp more))))
            → IsPutIn (asks s v t) (map (asked_of_shard s) (e ∷ es))
            (map (asked_of_shard s) (match_ordering o ((noted_at v t, bag_of arrival_cmp more) ∷ e ∷ es) ((e.0, bag_of arrival_cmp more) ∷ es) (e ∷ insert_entry noted_cmp es (noted_at v t) (bag_of arrival_cmp more))))
        by Less none later = record { before = []; after = map (asked_of_shard s) (e ∷ es); was = refl; is = refl }
        by Equal none later = absurd (none_is_some (sym none))
        by Greater none later =
            let rest = later none in record {
              before = asked_of_shard s e ∷ rest.before;
              after = rest.after;
              was = ap (λ l. asked_of_shard s e ∷ l) rest.was;
              is = ap (λ l. asked_of_shard s e ∷ l) rest.is;
            }

    pub asked_for : (es : AskedList) → IsAskedFor (asks s v t) (map (asked_of_shard s) es) (map (asked_of_shard s) (with_items es v t more))
    asked_for es = by (items_at es v t) refl
      where
        by : (o : Option (List Arrival)) → items_at es v t ≡ o
            → IsAskedFor (asks s v t) (map (asked_of_shard s) es) (map (asked_of_shard s) (with_items_by o es (noted_at v t) more))
        by (Some items) found = inl (same_asked (is_at (noted_cmp (noted_at v t))) es (bag_of arrival_cmp (items ++ more)), asked_here es ∙ ap is_some found)
        by None none = inr (put_in es none)
