-- What waits in shards without one notification: of the items and of what is asked for, all but those of that notification.
use Rattle.std.proofs.Common.{◌≡◌, ℕ, ◌==◌, Bool, true, false, not, ◌&&◌, cond, List, [], ◌∷◌, ◌++◌, map, filter, flat_map, refl, sym, ap, ◌∙◌, arith}
use Rattle.std.specs.declared.cmp.Ordering.{Ordering}
use Rattle.std.specs.declared.cmp.Ordering.TheVariants.{Less, Equal, Greater}
use Rattle.std.specs.List.{AllByRecursion, IsDistinct}
use Rattle.std.specs.List.Sorted.{IsStrictlySortedBy}
use Rattle.std.specs.Map.{keys_of, remove_entry}
use Rattle.std.specs.BTreeMap.{is_at}
use Rattle.std.specs.Ordering.{nat_cmp, eq_by_cmp, ordering_then, is_eq}
use Rattle.std.specs.Cmp.{eq_by_cmp_equiv}
use Rattle.std.proofs.lemmas.Map.{NonePasses}
use Rattle.std.proofs.lemmas.Map.Entries.{none_past_head}
use Rattle.std.proofs.lemmas.Map.Keys.{IsDistinct-from_sorted}
use Rattle.std.proofs.lemmas.Bool.Decides.{nat_tests}
use Rattle.std.proofs.lemmas.List.Elements.{filter-append}
use Rattle.td_stamp.specs.declared.values.Arrival.{Arrival}
use Rattle.td_stamp.specs.Time.{Timestamp, time_cmp}
use Rattle.td_machine.specs.State.{HallState, notification_cmp, is_there}
use Rattle.td_machine.specs.Steps.{asked_at}
use Rattle.td_shard.specs.declared.waiting.Noted.{Noted}
use Rattle.td_shard.specs.Asked.{AskedList, noted_cmp, noted_at}
use Rattle.td_shard.specs.ProvedOrders.{time_total, noted_equiv}
use Rattle.td_core.specs.Parts.{asked_of_shard}

abbrev pub Waits : Type 0
Waits = Noted × List Arrival

pub weaker : {X : Type 0} {P Q : X → Type 0} → ((x : X) → P x → Q x) → (xs : List X) → AllByRecursion P xs → AllByRecursion Q xs
weaker f [] h = tt
weaker f (x ∷ xs) h = (f x h.0, weaker f xs h.1)

-- THE TESTS of places
eq_then : (a b : Ordering) → is_eq (ordering_then a b) ≡ (is_eq a && is_eq b)
eq_then Less b = refl
eq_then Equal b = refl
eq_then Greater b = refl

same_number : (k n : ℕ) → is_eq (nat_cmp k n) ≡ (n == k)
same_number k n = grind (arith, nat_tests)

turned : (t u : Timestamp) → is_eq (time_cmp t u) ≡ is_eq (time_cmp u t)
turned t u = (eq_by_cmp_equiv time_total).symm t u

both_ways : (x y : Bool) → (x && y) ≡ (y && x)
both_ways true true = refl
both_ways true false = refl
both_ways false true = refl
both_ways false false = refl

regrouped : (x y z : Bool) → (x && (y && z)) ≡ (z && (y && x))
regrouped true true true = refl
regrouped true true false = refl
regrouped true false true = refl
regrouped true false false = refl
regrouped false true true = refl
regrouped false true false = refl
regrouped false false true = refl
regrouped false false false = refl

module _ (v : ℕ) (t : Timestamp) where
  -- whether a notification is of the vertex and time
  abbrev pub here : Noted → Bool
  here n = is_at (noted_cmp (noted_at v t)) n

  pub there_is : (n : Noted) → is_there v t n.vertex n.time ≡ here n
  there_is n =
      both_ways (n.vertex == v) (is_eq (time_cmp n.time t))
      ∙ ((λ i. turned n.time t i && sym (same_number v n.vertex) i) ∙ sym (eq_then (time_cmp t n.time) (nat_cmp v n.vertex)))

  pub asked_is : (S : HallState) (s k : ℕ) (w : Waits) → is_eq (notification_cmp (asked_at S s v t) (asked_of_shard k w)) ≡ ((k == s) && here w.0)
  asked_is S s k w =
      eq_then (nat_cmp v w.0.vertex) (ordering_then (time_cmp t w.0.time) (nat_cmp s k))
      ∙ (ap (λ b. is_eq (nat_cmp v w.0.vertex) && b) (eq_then (time_cmp t w.0.time) (nat_cmp s k))
      ∙ (regrouped (is_eq (nat_cmp v w.0.vertex)) (is_eq (time_cmp t w.0.time)) (is_eq (nat_cmp s k))
      ∙ (λ i. same_number s k i && sym (eq_then (time_cmp t w.0.time) (nat_cmp v w.0.vertex)) i)))

-- A NOTIFICATION THAT IS TAKEN OUT: all others are left
distinct_tail : (e : Waits) (es : AskedList) → IsDistinct (eq_by_cmp noted_cmp) (keys_of (e ∷ es)) → IsDistinct (eq_by_cmp noted_cmp) (keys_of es)
unfolding IsDistinct
distinct_tail e es h = h.1

module _ (k : Noted) where
  abbrev pub is_other : Waits → Bool
  is_other w = not (is_at (noted_cmp k) w.0)

  kept_all : (es : AskedList) → NonePasses (is_at (noted_cmp k)) es → filter is_other es ≡ es
  kept_all [] none = refl
  kept_all (e ∷ es) none = ap (λ b. cond (not b) (e ∷ filter is_other es) (filter is_other es)) none.0 ∙ ap (λ l. e ∷ l) (kept_all es none.1)

  taken_out : (es : AskedList) → IsDistinct (eq_by_cmp noted_cmp) (keys_of es) → remove_entry (is_at (noted_cmp k)) es ≡ filter is_other es
  taken_out [] once = refl
  taken_out (e ∷ es) once = by (is_at (noted_cmp k) e.0) refl (taken_out es (distinct_tail e es once))
    where
      by : (b : Bool) → is_at (noted_cmp k) e.0 ≡ b → remove_entry (is_at (noted_cmp k)) es ≡ filter is_other es
          → cond b es (e ∷ remove_entry (is_at (noted_cmp k)) es) ≡ cond (not b) (e ∷ filter is_other es) (filter is_other es)
      by true same later = sym (kept_all es (none_past_head noted_equiv k e es once same))
      by false other later = ap (λ l. e ∷ l) later

  pub removed : (es : AskedList) → IsStrictlySortedBy noted_cmp (keys_of es) → remove_entry (is_at (noted_cmp k)) es ≡ filter is_other es
  removed es h = taken_out es (IsDistinct-from_sorted noted_cmp (keys_of es) h)

-- what is true of all is true of those that pass
pub still_all : {X : Type 0} (P : X → Type 0) (p : X → Bool) (xs : List X) → AllByRecursion P xs → AllByRecursion P (filter p xs)
still_all P p [] h = tt
still_all P p (x ∷ xs) h = by (p x) (still_all P p xs h.1)
  where
    by : (b : Bool) → AllByRecursion P (filter p xs) → AllByRecursion P (cond b (x ∷ filter p xs) (filter p xs))
    by true later = (h.0, later)
    by false later = later

pub keys_filtered : (p : Noted → Bool) (es : AskedList) → keys_of (filter (λ w. p w.0) es) ≡ filter p (keys_of es)
keys_filtered p [] = refl
keys_filtered p (e ∷ es) = by (p e.0) (keys_filtered p es)
  where
    by : (b : Bool) → keys_of (filter (λ w. p w.0) es) ≡ filter p (keys_of es)
        → keys_of (cond b (e ∷ filter (λ w. p w.0) es) (filter (λ w. p w.0) es)) ≡ cond b (e.0 ∷ filter p (keys_of es)) (filter p (keys_of es))
    by true later = ap (λ l. e.0 ∷ l) later
    by false later = later

-- LISTS OF WHAT STANDS WITH EACH NOTIFICATION, of which a test lets all or nothing pass
module _ {Y : Type 0} (q : Y → Bool) (f : Waits → List Y) (gone : Noted → Bool) where
  all_pass : (es : AskedList) → AllByRecursion (λ w. filter q (f w) ≡ f w) es → filter q (flat_map f es) ≡ flat_map f es
  all_pass [] h = refl
  all_pass (e ∷ es) h = filter-append q (f e) (flat_map f es) ∙ (λ i. h.0 i ++ all_pass es h.1 i)

  others_pass : (es : AskedList) → AllByRecursion (λ w. filter q (f w) ≡ cond (not (gone w.0)) (f w) []) es
      → filter q (flat_map f es) ≡ flat_map f (filter (λ w. not (gone w.0)) es)
  others_pass [] h = refl
  others_pass (e ∷ es) h = filter-append q (f e) (flat_map f es) ∙ ((λ i. h.0 i ++ others_pass es h.1 i) ∙ by (not (gone e.0)))
    where
      by : (b : Bool) → cond b (f e) [] ++ flat_map f (filter (λ w. not (gone w.0)) es) ≡ flat_map f (cond b (e ∷ filter (λ w. not (gone w.0)) es) (filter (λ w. not (gone w.0)) es))
      by true = refl
      by false = refl

  -- in the shard of which it is, and in another
  pub passes : (b : Bool) (es : AskedList) → AllByRecursion (λ w. filter q (f w) ≡ cond (not (b && gone w.0)) (f w) []) es
      → filter q (flat_map f es) ≡ flat_map f (cond b (filter (λ w. not (gone w.0)) es) es)
  passes true es h = others_pass es h
  passes false es h = all_pass es h

-- a test that lets all of some items pass, or none
pub alike : {X Y : Type 0} (q : Y → Bool) (f : X → Y) (b : Bool) (xs : List X) → AllByRecursion (λ x. q (f x) ≡ b) xs → filter q (map f xs) ≡ cond b (map f xs) []
alike q f true [] h = refl
alike q f false [] h = refl
alike q f true (x ∷ xs) h = ap (λ b. cond b (f x ∷ filter q (map f xs)) (filter q (map f xs))) h.0 ∙ ap (λ l. f x ∷ l) (alike q f true xs h.1)
alike q f false (x ∷ xs) h = ap (λ b. cond b (f x ∷ filter q (map f xs)) (filter q (map f xs))) h.0 ∙ alike q f false xs h.1
