-- Kept states, and their look-ups after a change.
use Rattle.std.proofs.Common.{◌≡◌, ℕ, List, [], ◌∷◌, map, refl, ap, sym, ◌∙◌, subst, Bool, true, false, cond, Option, Some, None}
use Rattle.std.specs.List.{AllByRecursion}
use Rattle.std.specs.List.Sorted.{IsStrictlySortedBy}
use Rattle.std.specs.Map.{lookup, remove_entry}
use Rattle.std.specs.BTreeMap.{insert_entry, is_at}
use Rattle.std.specs.declared.cmp.Ordering.{Ordering}
use Rattle.std.specs.declared.cmp.Ordering.TheVariants.{Less, Equal, Greater}
use Rattle.std.specs.Ordering.{is_eq, ordering_reverse}
use Rattle.std.specs.Cmp.{IsTotalOrder}
use Rattle.std.proofs.lemmas.Cmp.{tied_itself}
use Rattle.std.specs.FinMap.{IsAntisymmetric}
use Rattle.td_stamp.specs.declared.values.State.{State}
use Rattle.td_stamp.specs.Orders.{state_key_cmp}
use Rattle.td_stamp.specs.States.{StateList, state_of, AreStates}
use Rattle.td_batch.specs.Meaning.{with_kept}
use Rattle.td_machine.specs.declared.records.StateLeft.{StateLeft}
use Rattle.td_machine.specs.State.{with_left}
use Rattle.td_stamp.specs.ProvedOrders.{state_key_total, state_key_apart}

turned_back : {X : Type 0} (cmp : X → X → Ordering) → IsTotalOrder cmp → (x y : X) → cmp x y ≡ Greater → cmp y x ≡ Less
turned_back cmp total x y e = total.antisymm y x ∙ ap ordering_reverse e

all_weaken : {X : Type 0} (P Q : X → Type 0) → ((x : X) → P x → Q x) → (xs : List X) → AllByRecursion P xs → AllByRecursion Q xs
all_weaken P Q f [] h = tt
all_weaken P Q f (x ∷ xs) h = (f x h.0, all_weaken P Q f xs h.1)

from_map : {X Y : Type 0} (P : Y → Type 0) (f : X → Y) (xs : List X) → AllByRecursion P (map f xs) → AllByRecursion (λ x. P (f x)) xs
from_map P f [] h = tt
from_map P f (x ∷ xs) h = (h.0, from_map P f xs h.1)

module _ {K X : Type 0} (cmp : K → K → Ordering) (total : IsTotalOrder cmp) (same : IsAntisymmetric cmp) where
  -- entries in the order of their keys, each key once
  abbrev pub AreInOrder : List (K × X) → Type 0
  AreInOrder [] = Unit {0}
  AreInOrder (e ∷ es) = AllByRecursion (λ (d : K × X). cmp e.0 d.0 ≡ Less) es × AreInOrder es

  look_yes : (q : K) (e : K × X) (es : List (K × X)) → cmp q e.0 ≡ Equal → lookup (is_at (cmp q)) (e ∷ es) ≡ Some e.1
  look_yes q e es h = rw (h, lookup) refl

  look_less : (q : K) (e : K × X) (es : List (K × X)) → cmp q e.0 ≡ Less → lookup (is_at (cmp q)) (e ∷ es) ≡ lookup (is_at (cmp q)) es
  look_less q e es h = rw (h, lookup) refl

  look_more : (q : K) (e : K × X) (es : List (K × X)) → cmp q e.0 ≡ Greater → lookup (is_at (cmp q)) (e ∷ es) ≡ lookup (is_at (cmp q)) es
  look_more q e es h = rw (h, lookup) refl

  put_less : (k : K) (v : X) (e : K × X) (es : List (K × X)) → cmp k e.0 ≡ Less → insert_entry cmp (e ∷ es) k v ≡ (k, v) ∷ e ∷ es
  put_less k v e es h = rw (h, insert_entry) refl

  put_same : (k : K) (v : X) (e : K × X) (es : List (K × X)) → cmp k e.0 ≡ Equal → insert_entry cmp (e ∷ es) k v ≡ (e.0, v) ∷ es
  put_same k v e es h = rw (h, insert_entry) refl

  put_more : (k : K) (v : X) (e : K × X) (es : List (K × X)) → cmp k e.0 ≡ Greater → insert_entry cmp (e ∷ es) k v ≡ e ∷ insert_entry cmp es k v
  put_more k v e es h = rw (h, insert_entry) refl

  above_put : (x k : K) (v : X) (es : List (K × X)) → cmp x k ≡ Less → AllByRecursion (λ (d : K × X). cmp x d.0 ≡ Less) es → AllByRecursion (λ (d : K × X). cmp x d.0 ≡ Less) (insert_entry cmp es k v)
  above_put x k v [] l h = (l, tt)
  above_put x k v (e ∷ es) l h = by (cmp k e.0) refl (above_put x k v es l h.1)
    where
      by : (o : Ordering) → cmp k e.0 ≡ o → AllByRecursion (λ (d : K × X). cmp x d.0 ≡ Less) (insert_entry cmp es k v) → AllByRecursion (λ (d : K × X). cmp x d.0 ≡ Less) (insert_entry cmp (e ∷ es) k v)
      by Less f rest = subst (AllByRecursion (λ (d : K × X). cmp x d.0 ≡ Less)) (sym (put_less k v e es f)) (l, h)
      by Equal f rest = subst (AllByRecursion (λ (d : K × X). cmp x d.0 ≡ Less)) (sym (put_same k v e es f)) h
      by Greater f rest = subst (AllByRecursion (λ (d : K × X). cmp x d.0 ≡ Less)) (sym (put_more k v e es f)) (h.0, rest)

  pub put_keeps : (k : K) (v : X) (es : List (K × X)) → AreInOrder es → AreInOrder (insert_entry cmp es k v)
  put_keeps k v [] h = (tt, tt)
  put_keeps k v (e ∷ es) h = by (cmp k e.0) refl (put_keeps k v es h.1)
    where
      by : (o : Ordering) → cmp k e.0 ≡ o → AreInOrder (insert_entry cmp es k v) → AreInOrder (insert_entry cmp (e ∷ es) k v)
      by Less f rest = subst AreInOrder (sym (put_less k v e es f)) ((f, all_weaken (λ (d : K × X). cmp e.0 d.0 ≡ Less) (λ (d : K × X). cmp k d.0 ≡ Less) (λ d g. total.trans k e.0 d.0 f g) es h.0), h)
      by Equal f rest = subst AreInOrder (sym (put_same k v e es f)) h
      by Greater f rest = subst AreInOrder (sym (put_more k v e es f)) (above_put e.0 k v es (turned_back cmp total k e.0 f) h.0, rest)

  all_removed : (P : K × X → Type 0) (test : K → Bool) (es : List (K × X)) → AllByRecursion P es → AllByRecursion P (remove_entry test es)
  all_removed P test [] h = tt
  all_removed P test (e ∷ es) h = by (test e.0) (all_removed P test es h.1)
    where
      by : (b : Bool) → AllByRecursion P (remove_entry test es) → AllByRecursion P (cond b es (e ∷ remove_entry test es))
      by true rest = h.1
      by false rest = (h.0, rest)

  pub remove_keeps : (test : K → Bool) (es : List (K × X)) → AreInOrder es → AreInOrder (remove_entry test es)
  remove_keeps test [] h = tt
  remove_keeps test (e ∷ es) h = by (test e.0) (remove_keeps test es h.1)
    where
      by : (b : Bool) → AreInOrder (remove_entry test es) → AreInOrder (cond b es (e ∷ remove_entry test es))
      by true rest = h.1
      by false rest = (all_removed (λ (d : K × X). cmp e.0 d.0 ≡ Less) test es h.0, rest)

  -- a look-up after a put
  pub look_put_same : (k : K) (v : X) (es : List (K × X)) → lookup (is_at (cmp k)) (insert_entry cmp es k v) ≡ Some v
  look_put_same k v [] = look_yes k (k, v) [] (tied_itself total k)
  look_put_same k v (e ∷ es) = by (cmp k e.0) refl (look_put_same k v es)
    where
      by : (o : Ordering) → cmp k e.0 ≡ o → lookup (is_at (cmp k)) (insert_entry cmp es k v) ≡ Some v → lookup (is_at (cmp k)) (insert_entry cmp (e ∷ es) k v) ≡ Some v
      by Less f rest = ap (lookup (is_at (cmp k))) (put_less k v e es f) ∙ look_yes k (k, v) (e ∷ es) (tied_itself total k)
      by Equal f rest = ap (lookup (is_at (cmp k))) (put_same k v e es f) ∙ look_yes k (e.0, v) es f
      by Greater f rest = ap (lookup (is_at (cmp k))) (put_more k v e es f) ∙ look_more k e (insert_entry cmp es k v) f ∙ rest

  look_no : (q : K) (e : K × X) (es : List (K × X)) → is_eq (cmp q e.0) ≡ false → lookup (is_at (cmp q)) (e ∷ es) ≡ lookup (is_at (cmp q)) es
  look_no q e es h = rw (h, lookup) refl

  look_alike : (q : K) (e : K × X) (es fs : List (K × X)) → lookup (is_at (cmp q)) es ≡ lookup (is_at (cmp q)) fs → lookup (is_at (cmp q)) (e ∷ es) ≡ lookup (is_at (cmp q)) (e ∷ fs)
  look_alike q e es fs h = ap (λ l. cond (is_eq (cmp q e.0)) (Some e.1) l) h

  pub look_put_other : (q k : K) (v : X) → is_eq (cmp q k) ≡ false → (es : List (K × X)) → lookup (is_at (cmp q)) (insert_entry cmp es k v) ≡ lookup (is_at (cmp q)) es
  look_put_other q k v n [] = look_no q (k, v) [] n
  look_put_other q k v n (e ∷ es) = by (cmp k e.0) refl (look_put_other q k v n es)
    where
      by : (o : Ordering) → cmp k e.0 ≡ o → lookup (is_at (cmp q)) (insert_entry cmp es k v) ≡ lookup (is_at (cmp q)) es → lookup (is_at (cmp q)) (insert_entry cmp (e ∷ es) k v) ≡ lookup (is_at (cmp q)) (e ∷ es)
      by Less f rest = ap (lookup (is_at (cmp q))) (put_less k v e es f) ∙ look_no q (k, v) (e ∷ es) n
      by Equal f rest =
          let m : is_eq (cmp q e.0) ≡ false = ap (λ x. is_eq (cmp q x)) (sym (same k e.0 f)) ∙ n in
          ap (lookup (is_at (cmp q))) (put_same k v e es f) ∙ look_no q (e.0, v) es m ∙ sym (look_no q e es m)
      by Greater f rest = ap (lookup (is_at (cmp q))) (put_more k v e es f) ∙ look_alike q e (insert_entry cmp es k v) es rest

  -- a look-up after a removal
  look_above : (q : K) (es : List (K × X)) → AllByRecursion (λ (d : K × X). cmp q d.0 ≡ Less) es → lookup (is_at (cmp q)) es ≡ None
  look_above q [] h = refl
  look_above q (e ∷ es) h = look_less q e es h.0 ∙ look_above q es h.1

  remove_yes : (k : K) (e : K × X) (es : List (K × X)) → is_eq (cmp k e.0) ≡ true → remove_entry (is_at (cmp k)) (e ∷ es) ≡ es
  remove_yes k e es h = rw (h, remove_entry) refl

  remove_no : (k : K) (e : K × X) (es : List (K × X)) → is_eq (cmp k e.0) ≡ false → remove_entry (is_at (cmp k)) (e ∷ es) ≡ e ∷ remove_entry (is_at (cmp k)) es
  remove_no k e es h = rw (h, remove_entry) refl

  pub look_removed : (k : K) (es : List (K × X)) → AreInOrder es → lookup (is_at (cmp k)) (remove_entry (is_at (cmp k)) es) ≡ None
  look_removed k [] h = refl
  look_removed k (e ∷ es) h = by (cmp k e.0) refl (look_removed k es h.1)
    where
      by : (o : Ordering) → cmp k e.0 ≡ o → lookup (is_at (cmp k)) (remove_entry (is_at (cmp k)) es) ≡ None → lookup (is_at (cmp k)) (remove_entry (is_at (cmp k)) (e ∷ es)) ≡ None
      by Equal f rest = ap (lookup (is_at (cmp k))) (remove_yes k e es (ap is_eq f)) ∙ look_above k es (subst (λ x. AllByRecursion (λ (d : K × X). cmp x d.0 ≡ Less) es) (sym (same k e.0 f)) h.0)
      by Less f rest = ap (lookup (is_at (cmp k))) (remove_no k e es (ap is_eq f)) ∙ look_no k e (remove_entry (is_at (cmp k)) es) (ap is_eq f) ∙ rest
      by Greater f rest = ap (lookup (is_at (cmp k))) (remove_no k e es (ap is_eq f)) ∙ look_no k e (remove_entry (is_at (cmp k)) es) (ap is_eq f) ∙ rest

  pub look_removed_other : (q k : K) → is_eq (cmp q k) ≡ false → (es : List (K × X)) → lookup (is_at (cmp q)) (remove_entry (is_at (cmp k)) es) ≡ lookup (is_at (cmp q)) es
  look_removed_other q k n [] = refl
  look_removed_other q k n (e ∷ es) = by (cmp k e.0) refl (look_removed_other q k n es)
    where
      by : (o : Ordering) → cmp k e.0 ≡ o → lookup (is_at (cmp q)) (remove_entry (is_at (cmp k)) es) ≡ lookup (is_at (cmp q)) es → lookup (is_at (cmp q)) (remove_entry (is_at (cmp k)) (e ∷ es)) ≡ lookup (is_at (cmp q)) (e ∷ es)
      by Equal f rest =
          let m : is_eq (cmp q e.0) ≡ false = ap (λ x. is_eq (cmp q x)) (sym (same k e.0 f)) ∙ n in
          ap (lookup (is_at (cmp q))) (remove_yes k e es (ap is_eq f)) ∙ sym (look_no q e es m)
      by Less f rest = ap (lookup (is_at (cmp q))) (remove_no k e es (ap is_eq f)) ∙ look_alike q e (remove_entry (is_at (cmp k)) es) es rest
      by Greater f rest = ap (lookup (is_at (cmp q))) (remove_no k e es (ap is_eq f)) ∙ look_alike q e (remove_entry (is_at (cmp k)) es) es rest

  -- ENTRIES WITH THE SAME LOOK-UPS are the same
  pub same_entries : (es fs : List (K × X)) → AreInOrder es → AreInOrder fs → ((q : K) → lookup (is_at (cmp q)) es ≡ lookup (is_at (cmp q)) fs) → es ≡ fs
  same_entries [] [] h j a = refl
  same_entries [] (f ∷ fs) h j a = let n : None ≡ Some f.1 = a f.0 ∙ look_yes f.0 f fs (tied_itself total f.0) in cc
  same_entries (e ∷ es) [] h j a = let n : Some e.1 ≡ None = sym (look_yes e.0 e es (tied_itself total e.0)) ∙ a e.0 in cc
  same_entries (e ∷ es) (f ∷ fs) h j a = by (cmp e.0 f.0) refl (same_entries es fs h.1 j.1)
    where
      below : (x y : K) (ds : List (K × X)) → cmp x y ≡ Less → AllByRecursion (λ (d : K × X). cmp y d.0 ≡ Less) ds → AllByRecursion (λ (d : K × X). cmp x d.0 ≡ Less) ds
      below x y ds g k = all_weaken (λ (d : K × X). cmp y d.0 ≡ Less) (λ (d : K × X). cmp x d.0 ≡ Less) (λ d l. total.trans x y d.0 g l) ds k

      others : e.0 ≡ f.0 → (q : K) (o : Ordering) → cmp q e.0 ≡ o → lookup (is_at (cmp q)) es ≡ lookup (is_at (cmp q)) fs
      others k q Less g = sym (look_less q e es g) ∙ a q ∙ look_less q f fs (ap (cmp q) (sym k) ∙ g)
      others k q Greater g = sym (look_more q e es g) ∙ a q ∙ look_more q f fs (ap (cmp q) (sym k) ∙ g)
      others k q Equal g =
          let p : q ≡ e.0 = same q e.0 g in
          look_above q es (subst (λ x. AllByRecursion (λ (d : K × X). cmp x d.0 ≡ Less) es) (sym p) h.0)
          ∙ sym (look_above q fs (subst (λ x. AllByRecursion (λ (d : K × X). cmp x d.0 ≡ Less) fs) (sym (p ∙ k)) j.0))

      by : (o : Ordering) → cmp e.0 f.0 ≡ o → (((q : K) → lookup (is_at (cmp q)) es ≡ lookup (is_at (cmp q)) fs) → es ≡ fs) → e ∷ es ≡ f ∷ fs
      by Less g r =
          let n : Some e.1 ≡ None = sym (look_yes e.0 e es (tied_itself total e.0)) ∙ a e.0 ∙ look_above e.0 (f ∷ fs) (g, below e.0 f.0 fs g j.0) in cc
      by Greater g r =
          let b = turned_back cmp total e.0 f.0 g in
          let n : None ≡ Some f.1 = sym (look_above f.0 (e ∷ es) (b, below f.0 e.0 es b h.0)) ∙ a f.0 ∙ look_yes f.0 f fs (tied_itself total f.0) in cc
      by Equal g r =
          let k : e.0 ≡ f.0 = same e.0 f.0 g in
          let v : Some e.1 ≡ Some f.1 = sym (look_yes e.0 e es (tied_itself total e.0)) ∙ a e.0 ∙ look_yes e.0 f fs g in
          let w : e.1 ≡ f.1 = cc in
          λ i. (k i, w i) ∷ r (λ q. others k q (cmp q e.0) refl) i

-- STATES
abbrev pub InOrder : StateList → Type 0
InOrder states = AreInOrder state_key_cmp state_key_total state_key_apart states

pub kept_keeps : (states : StateList) (v key : ℕ) (s : Option State) → InOrder states → InOrder (with_kept states v key s)
kept_keeps states v key None h = remove_keeps state_key_cmp state_key_total state_key_apart (is_at (state_key_cmp (v, key))) states h
kept_keeps states v key (Some s) h = put_keeps state_key_cmp state_key_total state_key_apart (v, key) s states h

pub left_keeps : (ls : List StateLeft) (states : StateList) → InOrder states → InOrder (with_left states ls)
left_keeps [] states h = h
left_keeps (x ∷ ls) states h = left_keeps ls (with_kept states x.vertex x.key x.state) (kept_keeps states x.vertex x.key x.state h)

pub look_kept_same : (states : StateList) (v key : ℕ) (s : Option State) → InOrder states → state_of (with_kept states v key s) v key ≡ s
look_kept_same states v key None h = look_removed state_key_cmp state_key_total state_key_apart (v, key) states h
look_kept_same states v key (Some s) h = look_put_same state_key_cmp state_key_total state_key_apart (v, key) s states

pub look_kept_other : (states : StateList) (v key w k : ℕ) (s : Option State) → is_eq (state_key_cmp (v, key) (w, k)) ≡ false → state_of (with_kept states w k s) v key ≡ state_of states v key
look_kept_other states v key w k None n = look_removed_other state_key_cmp state_key_total state_key_apart (v, key) (w, k) n states
look_kept_other states v key w k (Some s) n = look_put_other state_key_cmp state_key_total state_key_apart (v, key) (w, k) s n states

pub states_in_order : (states : StateList) → AreStates states → InOrder states
unfolding IsStrictlySortedBy
states_in_order [] h = tt
states_in_order (e ∷ es) h = (from_map (λ k. state_key_cmp e.0 k ≡ Less) (λ (d : (ℕ × ℕ) × State). d.0) es h.0, states_in_order es h.1)

-- STATES WITH THE SAME LOOK-UPS are the same
pub same_states : (some others : StateList) → InOrder some → InOrder others → ((place : ℕ × ℕ) → state_of some place.0 place.1 ≡ state_of others place.0 place.1) → some ≡ others
same_states some others h j alike = same_entries state_key_cmp state_key_total state_key_apart some others h j alike
