-- The state of a key after what folds left: what is left at other vertices does not matter.
use Rattle.std.proofs.Common.{◌≡◌, ℕ, List, [], ◌∷◌, refl, ap, sym, ◌∙◌, subst, Bool, true, false, cond}
use Rattle.std.specs.Prelude.{Option, Some, None}
use Rattle.std.specs.List.{AllByRecursion}
use Rattle.std.specs.Map.{lookup, remove_entry}
use Rattle.std.specs.BTreeMap.{insert_entry, is_at}
use Rattle.std.specs.declared.cmp.Ordering.{Ordering}
use Rattle.std.specs.declared.cmp.Ordering.TheVariants.{Less, Equal, Greater}
use Rattle.std.specs.Ordering.{is_eq}
use Rattle.std.specs.Cmp.{IsTotalOrder}
use Rattle.std.proofs.lemmas.Cmp.{tied_itself}
use Rattle.std.specs.FinMap.{IsAntisymmetric}
use Rattle.td_stamp.specs.declared.values.State.{State}
use Rattle.td_stamp.specs.Orders.{state_key_cmp}
use Rattle.td_stamp.specs.ProvedOrders.{state_key_total, both_tie}
use Rattle.td_stamp.specs.Bag.{bag_insert, join}
use Rattle.std.specs.List.Sorted.{IsStrictlySortedBy}
use Rattle.td_stamp.specs.States.{StateList, state_of, AreStates}
use Rattle.td_batch.specs.Meaning.{with_kept}
use Rattle.std.specs.Ordering.{nat_cmp}
use Rattle.std.specs.FinMap.{nat_cmp-IsAntisymmetric}
use Rattle.td_machine.specs.declared.records.StateLeft.{StateLeft}
use Rattle.td_machine.specs.State.{left_cmp, with_left}
use Rattle.td_machine.proofs.Lists.{all_weaken, from_map}
use Rattle.td_machine.proofs.Bags.{turned_back}

module _ {K X : Type 0} (cmp : K → K → Ordering) (total : IsTotalOrder cmp) (same : IsAntisymmetric cmp) where
  -- entries in the order of their keys, each key once
  abbrev pub AreInOrder : List (K × X) → Type 0
  AreInOrder [] = Unit {0}
  AreInOrder (e ∷ es) = AllByRecursion (λ (d : K × X). cmp e.0 d.0 ≡ Less) es × AreInOrder es

  look_yes : (q : K) (e : K × X) (es : List (K × X)) → cmp q e.0 ≡ Equal → lookup (is_at (cmp q)) (e ∷ es) ≡ Some e.1
  look_yes q e es h = rw (h, lookup) refl

  look_less : (q : K) (e : K × X) (es : List (K × X)) → cmp q e.0 ≡ Less → lookup (is_at (cmp q)) (e ∷ es) ≡ lookup (is_at (cmp q)) es
  look_less q e es h = rw (h, lookup) refl

  look_more : (q : K) (e : K × X) (es : List (K × X)) → cmp q e.0 ≡ Greater → lookup (is_at (cmp q)) (e ∷ es) ≡ lookup (is_at (cmp q)) es
  look_more q e es h = rw (h, lookup) refl

  put_less : (k : K) (v : X) (e : K × X) (es : List (K × X)) → cmp k e.0 ≡ Less → insert_entry cmp (e ∷ es) k v ≡ (k, v) ∷ e ∷ es
  put_less k v e es h = rw (h, insert_entry) refl

  put_same : (k : K) (v : X) (e : K × X) (es : List (K × X)) → cmp k e.0 ≡ Equal → insert_entry cmp (e ∷ es) k v ≡ (e.0, v) ∷ es
  put_same k v e es h = rw (h, insert_entry) refl

  put_more : (k : K) (v : X) (e : K × X) (es : List (K × X)) → cmp k e.0 ≡ Greater → insert_entry cmp (e ∷ es) k v ≡ e ∷ insert_entry cmp es k v
  put_more k v e es h = rw (h, insert_entry) refl

  above_put : (x k : K) (v : X) (es : List (K × X)) → cmp x k ≡ Less → AllByRecursion (λ (d : K × X). cmp x d.0 ≡ Less) es → AllByRecursion (λ (d : K × X). cmp x d.0 ≡ Less) (insert_entry cmp es k v)
  above_put x k v [] l h = (l, tt)
  above_put x k v (e ∷ es) l h = by (cmp k e.0) refl (above_put x k v es l h.1)
    where
      by : (o : Ordering) → cmp k e.0 ≡ o → AllByRecursion (λ (d : K × X). cmp x d.0 ≡ Less) (insert_entry cmp es k v) → AllByRecursion (λ (d : K × X). cmp x d.0 ≡ Less) (insert_entry cmp (e ∷ es) k v)
      by Less f rest = subst (AllByRecursion (λ (d : K × X). cmp x d.0 ≡ Less)) (sym (put_less k v e es f)) (l, h)
      by Equal f rest = subst (AllByRecursion (λ (d : K × X). cmp x d.0 ≡ Less)) (sym (put_same k v e es f)) h
      by Greater f rest = subst (AllByRecursion (λ (d : K × X). cmp x d.0 ≡ Less)) (sym (put_more k v e es f)) (h.0, rest)

  pub put_keeps : (k : K) (v : X) (es : List (K × X)) → AreInOrder es → AreInOrder (insert_entry cmp es k v)
  put_keeps k v [] h = (tt, tt)
  put_keeps k v (e ∷ es) h = by (cmp k e.0) refl (put_keeps k v es h.1)
    where
      by : (o : Ordering) → cmp k e.0 ≡ o → AreInOrder (insert_entry cmp es k v) → AreInOrder (insert_entry cmp (e ∷ es) k v)
      by Less f rest = subst AreInOrder (sym (put_less k v e es f)) ((f, all_weaken (λ (d : K × X). cmp e.0 d.0 ≡ Less) (λ (d : K × X). cmp k d.0 ≡ Less) (λ d g. total.trans k e.0 d.0 f g) es h.0), h)
      by Equal f rest = subst AreInOrder (sym (put_same k v e es f)) h
      by Greater f rest = subst AreInOrder (sym (put_more k v e es f)) (above_put e.0 k v es (turned_back cmp total k e.0 f) h.0, rest)

  all_removed : (P : K × X → Type 0) (test : K → Bool) (es : List (K × X)) → AllByRecursion P es → AllByRecursion P (remove_entry test es)
  all_removed P test [] h = tt
  all_removed P test (e ∷ es) h = by (test e.0) (all_removed P test es h.1)
    where
      by : (b : Bool) → AllByRecursion P (remove_entry test es) → AllByRecursion P (cond b es (e ∷ remove_entry test es))
      by true rest = h.1
      by false rest = (h.0, rest)

  pub remove_keeps : (test : K → Bool) (es : List (K × X)) → AreInOrder es → AreInOrder (remove_entry test es)
  remove_keeps test [] h = tt
  remove_keeps test (e ∷ es) h = by (test e.0) (remove_keeps test es h.1)
    where
      by : (b : Bool) → AreInOrder (remove_entry test es) → AreInOrder (cond b es (e ∷ remove_entry test es))
      by true rest = h.1
      by false rest = (all_removed (λ (d : K × X). cmp e.0 d.0 ≡ Less) test es h.0, rest)

  -- a look-up after a put
  pub look_put_same : (k : K) (v : X) (es : List (K × X)) → lookup (is_at (cmp k)) (insert_entry cmp es k v) ≡ Some v
  look_put_same k v [] = look_yes k (k, v) [] (tied_itself total k)
  look_put_same k v (e ∷ es) = by (cmp k e.0) refl (look_put_same k v es)
    where
      by : (o : Ordering) → cmp k e.0 ≡ o → lookup (is_at (cmp k)) (insert_entry cmp es k v) ≡ Some v → lookup (is_at (cmp k)) (insert_entry cmp (e ∷ es) k v) ≡ Some v
      by Less f rest = ap (lookup (is_at (cmp k))) (put_less k v e es f) ∙ look_yes k (k, v) (e ∷ es) (tied_itself total k)
      by Equal f rest = ap (lookup (is_at (cmp k))) (put_same k v e es f) ∙ look_yes k (e.0, v) es f
      by Greater f rest = ap (lookup (is_at (cmp k))) (put_more k v e es f) ∙ look_more k e (insert_entry cmp es k v) f ∙ rest

  look_no : (q : K) (e : K × X) (es : List (K × X)) → is_eq (cmp q e.0) ≡ false → lookup (is_at (cmp q)) (e ∷ es) ≡ lookup (is_at (cmp q)) es
  look_no q e es h = rw (h, lookup) refl

  look_alike : (q : K) (e : K × X) (es fs : List (K × X)) → lookup (is_at (cmp q)) es ≡ lookup (is_at (cmp q)) fs → lookup (is_at (cmp q)) (e ∷ es) ≡ lookup (is_at (cmp q)) (e ∷ fs)
  look_alike q e es fs h = ap (λ l. cond (is_eq (cmp q e.0)) (Some e.1) l) h

  pub look_put_other : (q k : K) (v : X) → is_eq (cmp q k) ≡ false → (es : List (K × X)) → lookup (is_at (cmp q)) (insert_entry cmp es k v) ≡ lookup (is_at (cmp q)) es
  look_put_other q k v n [] = look_no q (k, v) [] n
  look_put_other q k v n (e ∷ es) = by (cmp k e.0) refl (look_put_other q k v n es)
    where
      by : (o : Ordering) → cmp k e.0 ≡ o → lookup (is_at (cmp q)) (insert_entry cmp es k v) ≡ lookup (is_at (cmp q)) es → lookup (is_at (cmp q)) (insert_entry cmp (e ∷ es) k v) ≡ lookup (is_at (cmp q)) (e ∷ es)
      by Less f rest = ap (lookup (is_at (cmp q))) (put_less k v e es f) ∙ look_no q (k, v) (e ∷ es) n
      by Equal f rest =
          let m : is_eq (cmp q e.0) ≡ false = ap (λ x. is_eq (cmp q x)) (sym (same k e.0 f)) ∙ n in
          ap (lookup (is_at (cmp q))) (put_same k v e es f) ∙ look_no q (e.0, v) es m ∙ sym (look_no q e es m)
      by Greater f rest = ap (lookup (is_at (cmp q))) (put_more k v e es f) ∙ look_alike q e (insert_entry cmp es k v) es rest

  -- a look-up after a removal
  look_above : (q : K) (es : List (K × X)) → AllByRecursion (λ (d : K × X). cmp q d.0 ≡ Less) es → lookup (is_at (cmp q)) es ≡ None
  look_above q [] h = refl
  look_above q (e ∷ es) h = look_less q e es h.0 ∙ look_above q es h.1

  remove_yes : (k : K) (e : K × X) (es : List (K × X)) → is_eq (cmp k e.0) ≡ true → remove_entry (is_at (cmp k)) (e ∷ es) ≡ es
  remove_yes k e es h = rw (h, remove_entry) refl

  remove_no : (k : K) (e : K × X) (es : List (K × X)) → is_eq (cmp k e.0) ≡ false → remove_entry (is_at (cmp k)) (e ∷ es) ≡ e ∷ remove_entry (is_at (cmp k)) es
  remove_no k e es h = rw (h, remove_entry) refl

  pub look_removed : (k : K) (es : List (K × X)) → AreInOrder es → lookup (is_at (cmp k)) (remove_entry (is_at (cmp k)) es) ≡ None
  look_removed k [] h = refl
  look_removed k (e ∷ es) h = by (cmp k e.0) refl (look_removed k es h.1)
    where
      by : (o : Ordering) → cmp k e.0 ≡ o → lookup (is_at (cmp k)) (remove_entry (is_at (cmp k)) es) ≡ None → lookup (is_at (cmp k)) (remove_entry (is_at (cmp k)) (e ∷ es)) ≡ None
      by Equal f rest = ap (lookup (is_at (cmp k))) (remove_yes k e es (ap is_eq f)) ∙ look_above k es (subst (λ x. AllByRecursion (λ (d : K × X). cmp x d.0 ≡ Less) es) (sym (same k e.0 f)) h.0)
      by Less f rest = ap (lookup (is_at (cmp k))) (remove_no k e es (ap is_eq f)) ∙ look_no k e (remove_entry (is_at (cmp k)) es) (ap is_eq f) ∙ rest
      by Greater f rest = ap (lookup (is_at (cmp k))) (remove_no k e es (ap is_eq f)) ∙ look_no k e (remove_entry (is_at (cmp k)) es) (ap is_eq f) ∙ rest

  pub look_removed_other : (q k : K) → is_eq (cmp q k) ≡ false → (es : List (K × X)) → lookup (is_at (cmp q)) (remove_entry (is_at (cmp k)) es) ≡ lookup (is_at (cmp q)) es
  look_removed_other q k n [] = refl
  look_removed_other q k n (e ∷ es) = by (cmp k e.0) refl (look_removed_other q k n es)
    where
      by : (o : Ordering) → cmp k e.0 ≡ o → lookup (is_at (cmp q)) (remove_entry (is_at (cmp k)) es) ≡ lookup (is_at (cmp q)) es → lookup (is_at (cmp q)) (remove_entry (is_at (cmp k)) (e ∷ es)) ≡ lookup (is_at (cmp q)) (e ∷ es)
      by Equal f rest =
          let m : is_eq (cmp q e.0) ≡ false = ap (λ x. is_eq (cmp q x)) (sym (same k e.0 f)) ∙ n in
          ap (lookup (is_at (cmp q))) (remove_yes k e es (ap is_eq f)) ∙ sym (look_no q e es m)
      by Less f rest = ap (lookup (is_at (cmp q))) (remove_no k e es (ap is_eq f)) ∙ look_alike q e (remove_entry (is_at (cmp k)) es) es rest
      by Greater f rest = ap (lookup (is_at (cmp q))) (remove_no k e es (ap is_eq f)) ∙ look_alike q e (remove_entry (is_at (cmp k)) es) es rest

-- STATES
pub state_key_apart : IsAntisymmetric state_key_cmp
state_key_apart x y e = let t = both_tie (nat_cmp x.0 y.0) (nat_cmp x.1 y.1) e in λ i. (nat_cmp-IsAntisymmetric x.0 y.0 t.0 i, nat_cmp-IsAntisymmetric x.1 y.1 t.1 i)

abbrev pub InOrder : StateList → Type 0
InOrder states = AreInOrder state_key_cmp state_key_total state_key_apart states

pub kept_keeps : (states : StateList) (v key : ℕ) (s : Option State) → InOrder states → InOrder (with_kept states v key s)
kept_keeps states v key None h = remove_keeps state_key_cmp state_key_total state_key_apart (is_at (state_key_cmp (v, key))) states h
kept_keeps states v key (Some s) h = put_keeps state_key_cmp state_key_total state_key_apart (v, key) s states h

pub left_keeps : (ls : List StateLeft) (states : StateList) → InOrder states → InOrder (with_left states ls)
left_keeps [] states h = h
left_keeps (x ∷ ls) states h = left_keeps ls (with_kept states x.vertex x.key x.state) (kept_keeps states x.vertex x.key x.state h)

look_kept_same : (states : StateList) (v key : ℕ) (s : Option State) → InOrder states → state_of (with_kept states v key s) v key ≡ s
look_kept_same states v key None h = look_removed state_key_cmp state_key_total state_key_apart (v, key) states h
look_kept_same states v key (Some s) h = look_put_same state_key_cmp state_key_total state_key_apart (v, key) s states

look_kept_other : (states : StateList) (v key w k : ℕ) (s : Option State) → is_eq (state_key_cmp (v, key) (w, k)) ≡ false → state_of (with_kept states w k s) v key ≡ state_of states v key
look_kept_other states v key w k None n = look_removed_other state_key_cmp state_key_total state_key_apart (v, key) (w, k) n states
look_kept_other states v key w k (Some s) n = look_put_other state_key_cmp state_key_total state_key_apart (v, key) (w, k) s n states

abbrev Alike : ℕ → StateList → StateList → Type 0
Alike v states others = (key : ℕ) → state_of states v key ≡ state_of others v key

kept_alike : (v : ℕ) (states others : StateList) → InOrder states → InOrder others → Alike v states others → (w k : ℕ) (s : Option State) → Alike v (with_kept states w k s) (with_kept others w k s)
kept_alike v states others h j a w k s key = by (state_key_cmp (v, key) (w, k)) refl
  where
    apart : is_eq (state_key_cmp (v, key) (w, k)) ≡ false → state_of (with_kept states w k s) v key ≡ state_of (with_kept others w k s) v key
    apart n = look_kept_other states v key w k s n ∙ a key ∙ sym (look_kept_other others v key w k s n)

    by : (o : Ordering) → state_key_cmp (v, key) (w, k) ≡ o → state_of (with_kept states w k s) v key ≡ state_of (with_kept others w k s) v key
    by Less e = apart (ap is_eq e)
    by Greater e = apart (ap is_eq e)
    by Equal e =
        let p = state_key_apart (v, key) (w, k) e in
        let found : (l : StateList) → InOrder l → state_of (with_kept l w k s) v key ≡ s = λ l i. (λ j. state_of (with_kept l w k s) (p j).0 (p j).1) ∙ look_kept_same l w k s i in
        found states h ∙ sym (found others j)

pub left_alike : (v : ℕ) (ls : List StateLeft) (states others : StateList) → InOrder states → InOrder others → ((key : ℕ) → state_of states v key ≡ state_of others v key) → (key : ℕ) → state_of (with_left states ls) v key ≡ state_of (with_left others ls) v key
left_alike v [] states others h j a key = a key
left_alike v (x ∷ ls) states others h j a key =
    left_alike v ls (with_kept states x.vertex x.key x.state) (with_kept others x.vertex x.key x.state) (kept_keeps states x.vertex x.key x.state h) (kept_keeps others x.vertex x.key x.state j) (kept_alike v states others h j a x.vertex x.key x.state) key

other_vertex : (v key w k : ℕ) → ((w ≡ v) → ⊥) → is_eq (state_key_cmp (v, key) (w, k)) ≡ false
other_vertex v key w k n = by (state_key_cmp (v, key) (w, k)) refl
  where
    by : (o : Ordering) → state_key_cmp (v, key) (w, k) ≡ o → is_eq (state_key_cmp (v, key) (w, k)) ≡ false
    by Less e = ap is_eq e
    by Greater e = ap is_eq e
    by Equal e = absurd (n (sym (ap (λ (p : ℕ × ℕ). p.0) (state_key_apart (v, key) (w, k) e))))

insert_alike : (v : ℕ) (x : StateLeft) → ((x.vertex ≡ v) → ⊥) → (ls : List StateLeft) (states : StateList) → InOrder states → (key : ℕ) → state_of (with_left states (bag_insert left_cmp x ls)) v key ≡ state_of (with_left states ls) v key
insert_alike v x n [] states h key = look_kept_other states v key x.vertex x.key x.state (other_vertex v key x.vertex x.key n)
insert_alike v x n (y ∷ ls) states h key = by (left_cmp x y) (insert_alike v x n ls (with_kept states y.vertex y.key y.state) (kept_keeps states y.vertex y.key y.state h) key)
  where
    first : state_of (with_left states (x ∷ y ∷ ls)) v key ≡ state_of (with_left states (y ∷ ls)) v key
    first = left_alike v (y ∷ ls) (with_kept states x.vertex x.key x.state) states (kept_keeps states x.vertex x.key x.state h) h (λ k. look_kept_other states v k x.vertex x.key x.state (other_vertex v k x.vertex x.key n)) key

    by : (o : Ordering) → state_of (with_left (with_kept states y.vertex y.key y.state) (bag_insert left_cmp x ls)) v key ≡ state_of (with_left (with_kept states y.vertex y.key y.state) ls) v key
        → state_of (with_left states (elim o [ Greater ↦ y ∷ bag_insert left_cmp x ls | _ ↦ x ∷ y ∷ ls ])) v key ≡ state_of (with_left states (y ∷ ls)) v key
    by Less rest = first
    by Equal rest = first
    by Greater rest = rest

-- WHAT IS LEFT AT OTHER VERTICES does not matter
pub others_left : (v : ℕ) (new ls : List StateLeft) → AllByRecursion (λ (x : StateLeft). (x.vertex ≡ v) → ⊥) new → (states : StateList) → InOrder states → (key : ℕ) → state_of (with_left states (join left_cmp new ls)) v key ≡ state_of (with_left states ls) v key
others_left v [] ls n states h key = refl
others_left v (x ∷ new) ls n states h key = insert_alike v x n.0 (join left_cmp new ls) states h key ∙ others_left v new ls n.1 states h key

pub states_in_order : (states : StateList) → AreStates states → InOrder states
unfolding IsStrictlySortedBy
states_in_order [] h = tt
states_in_order (e ∷ es) h = (from_map (λ k. state_key_cmp e.0 k ≡ Less) (λ (d : (ℕ × ℕ) × State). d.0) es h.0, states_in_order es h.1)
