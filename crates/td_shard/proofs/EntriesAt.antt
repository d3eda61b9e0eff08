-- The states that are found at the places of two lists are those of which a look-up tells, where each of these has its place in one of them.
use Rattle.std.proofs.Common.{◌≡◌, ℕ, ◌||◌, List, [], ◌∷◌, ◌++◌, refl, ap, sym, ◌∙◌, Bool, true, false, cond, Option, Some, None, filter}
use Rattle.std.specs.Prelude.{is_some}
use Rattle.std.specs.Option.{option_map}
use Rattle.std.specs.List.{AllByRecursion, cons_option}
use Rattle.std.specs.List.Sorted.{IsStrictlySortedBy}
use Rattle.std.specs.Map.{keys_of}
use Rattle.std.specs.declared.cmp.Ordering.{Ordering}
use Rattle.std.specs.declared.cmp.Ordering.TheVariants.{Less, Equal, Greater}
use Rattle.std.specs.Ordering.{is_eq}
use Rattle.td_stamp.specs.declared.values.State.{State}
use Rattle.td_stamp.specs.Bag.{set_of, has}
use Rattle.td_stamp.specs.BagLaws.{SetLaws}
use Rattle.td_stamp.specs.Orders.{state_key_cmp}
use Rattle.td_stamp.specs.ProvedOrders.{state_key_apart}
use Rattle.td_stamp.specs.States.{StateList, state_of, AreStates}
use Rattle.td_machine.specs.declared.records.StateLeft.{StateLeft}
use Rattle.td_machine.specs.State.{with_left}
use Rattle.td_shard.specs.declared.versions.Version.{Version}
use Rattle.td_shard.specs.After.{states_after, entries_at, places_of, AreFound}
use Rattle.td_shard.specs.Versions.{IsLatestAt}
use Rattle.td_shard.proofs.KeptStates.{InOrder, left_keeps, states_in_order, same_states}
use Rattle.td_shard.proofs.LeftStates.{ended, is_here, look_left}

abbrev Place : Type 0
Place = ℕ × ℕ

abbrev AreAbove : Place → List Place → Type 0
AreAbove p places = AllByRecursion (λ q. state_key_cmp p q ≡ Less) places

module _ (states : StateList) where
  -- the first of them, where there is one at the first place
  pub first_found : (p : Place) (places : List Place) (s : State) → state_of states p.0 p.1 ≡ Some s → entries_at states (p ∷ places) ≡ (p, s) ∷ entries_at states places
  first_found p places s e = ap (λ o. cons_option (option_map (λ t. (p, t)) o) (entries_at states places)) e

  pub none_found : (p : Place) (places : List Place) → state_of states p.0 p.1 ≡ None → entries_at states (p ∷ places) ≡ entries_at states places
  none_found p places e = ap (λ o. cons_option (option_map (λ t. (p, t)) o) (entries_at states places)) e

  above_found : (p : Place) (places : List Place) → AreAbove p places → AllByRecursion (λ (d : Place × State). state_key_cmp p d.0 ≡ Less) (entries_at states places)
  above_found p [] h = tt
  above_found p (q ∷ places) h = by (state_of states q.0 q.1) (above_found p places h.1)
    where
      by : (s : Option State) → AllByRecursion (λ (d : Place × State). state_key_cmp p d.0 ≡ Less) (entries_at states places)
          → AllByRecursion (λ (d : Place × State). state_key_cmp p d.0 ≡ Less) (cons_option (option_map (λ t. (q, t)) s) (entries_at states places))
      by None rest = rest
      by (Some s) rest = (h.0, rest)

  found_in_order : (places : List Place) → IsStrictlySortedBy state_key_cmp places → InOrder (entries_at states places)
  unfolding IsStrictlySortedBy
  found_in_order [] h = tt
  found_in_order (p ∷ places) h = by (state_of states p.0 p.1) (found_in_order places h.1)
    where
      by : (s : Option State) → InOrder (entries_at states places) → InOrder (cons_option (option_map (λ t. (p, t)) s) (entries_at states places))
      by None rest = rest
      by (Some s) rest = (above_found p places h.0, rest)

  none : (b : Bool) (o : Option State) → o ≡ None → cond b o None ≡ None
  none true o h = h
  none false o h = refl

  -- a look-up among them
  look_found : (q : Place) (places : List Place) → state_of (entries_at states places) q.0 q.1 ≡ cond (has state_key_cmp q places) (state_of states q.0 q.1) None
  look_found q [] = refl
  look_found q (p ∷ places) = by (state_key_cmp q p) refl (look_found q places)
    where
      other : (o : Ordering) → is_eq o ≡ false → state_key_cmp q p ≡ o → (s : Option State)
          → state_of (cons_option (option_map (λ t. (p, t)) s) (entries_at states places)) q.0 q.1 ≡ state_of (entries_at states places) q.0 q.1
      other o n e None = refl
      other o n e (Some s) = ap (λ b. cond b (Some s) (state_of (entries_at states places) q.0 q.1)) (ap is_eq e ∙ n)

      here : (s : Option State) → state_key_cmp q p ≡ Equal → state_of states q.0 q.1 ≡ s
          → state_of (entries_at states places) q.0 q.1 ≡ cond (has state_key_cmp q places) (state_of states q.0 q.1) None
          → state_of (cons_option (option_map (λ t. (p, t)) s) (entries_at states places)) q.0 q.1 ≡ s
      here None e k rest = rest ∙ none (has state_key_cmp q places) (state_of states q.0 q.1) k
      here (Some s) e k rest = ap (λ b. cond b (Some s) (state_of (entries_at states places) q.0 q.1)) (ap is_eq e)

      by : (o : Ordering) → state_key_cmp q p ≡ o
          → state_of (entries_at states places) q.0 q.1 ≡ cond (has state_key_cmp q places) (state_of states q.0 q.1) None
          → state_of (entries_at states (p ∷ places)) q.0 q.1 ≡ cond (is_eq (state_key_cmp q p) || has state_key_cmp q places) (state_of states q.0 q.1) None
      by Less e rest = other Less refl e (state_of states p.0 p.1) ∙ rest ∙ ap (λ b. cond (b || has state_key_cmp q places) (state_of states q.0 q.1) None) (sym (ap is_eq e))
      by Greater e rest = other Greater refl e (state_of states p.0 p.1) ∙ rest ∙ ap (λ b. cond (b || has state_key_cmp q places) (state_of states q.0 q.1) None) (sym (ap is_eq e))
      by Equal e rest =
          let k : q ≡ p = state_key_apart q p e in
          here (state_of states p.0 p.1) e (λ i. state_of states (k i).0 (k i).1) rest
          ∙ ((λ i. state_of states (sym k i).0 (sym k i).1) ∙ ap (λ b. cond (b || has state_key_cmp q places) (state_of states q.0 q.1) None) (sym (ap is_eq e)))

-- a list that is in order by its entries is by its keys
to_keys : (P : ℕ × ℕ → Type 0) (es : StateList) → AllByRecursion (λ (d : (ℕ × ℕ) × State). P d.0) es → AllByRecursion P (keys_of es)
to_keys P [] h = tt
to_keys P (e ∷ es) h = (h.0, to_keys P es h.1)

pub in_order_states : (states : StateList) → InOrder states → AreStates states
unfolding IsStrictlySortedBy
in_order_states [] h = tt
in_order_states (e ∷ es) h = (to_keys (λ k. state_key_cmp e.0 k ≡ Less) es h.0, in_order_states es h.1)

-- where a list has no such place, it has no state there
no_state : (q : Place) (states : StateList) → has state_key_cmp q (keys_of states) ≡ false → state_of states q.0 q.1 ≡ None
no_state q [] h = refl
no_state q (e ∷ es) h = by (is_eq (state_key_cmp q e.0)) h (no_state q es)
  where
    by : (b : Bool) → (b || has state_key_cmp q (keys_of es)) ≡ false → (has state_key_cmp q (keys_of es) ≡ false → state_of es q.0 q.1 ≡ None)
        → cond b (Some e.1) (state_of es q.0 q.1) ≡ None
    by true n rest = cc
    by false n rest = rest n

has_either : (q : Place) (xs ys : List Place) → has state_key_cmp q (xs ++ ys) ≡ (has state_key_cmp q xs || has state_key_cmp q ys)
has_either q [] ys = refl
has_either q (x ∷ xs) ys = by (is_eq (state_key_cmp q x)) (has_either q xs ys)
  where
    by : (b : Bool) → has state_key_cmp q (xs ++ ys) ≡ (has state_key_cmp q xs || has state_key_cmp q ys) → (b || has state_key_cmp q (xs ++ ys)) ≡ ((b || has state_key_cmp q xs) || has state_key_cmp q ys)
    by true rest = refl
    by false rest = rest

neither : (b d : Bool) → (b || d) ≡ false → (b ≡ false) × (d ≡ false)
neither true d h = cc
neither false d h = (refl, h)

set_has_them : SetLaws state_key_cmp → (q : Place) (xs : List Place) → has state_key_cmp q (set_of state_key_cmp xs) ≡ has state_key_cmp q xs
set_has_them laws q [] = refl
set_has_them laws q (x ∷ xs) = laws.found_inserted q x (set_of state_key_cmp xs) ∙ ap (λ b. is_eq (state_key_cmp q x) || b) (set_has_them laws q xs)

module _ (laws : SetLaws state_key_cmp) (base : StateList) (left : List StateLeft) (ordered : AreStates base) where
  abbrev after : StateList
  after = with_left base left

  abbrev lone : StateList
  lone = with_left [] left

  -- a place in neither has no state after what was left
  nowhere : (q : Place) → has state_key_cmp q (keys_of base ++ keys_of lone) ≡ false → state_of after q.0 q.1 ≡ None
  nowhere q h =
      let n = neither (has state_key_cmp q (keys_of base)) (has state_key_cmp q (keys_of lone)) (sym (has_either q (keys_of base) (keys_of lone)) ∙ h) in
      look_left q left base (states_in_order base ordered)
      ∙ ap (ended (filter (is_here q) left)) (no_state q base n.0)
      ∙ (sym (look_left q left [] tt) ∙ no_state q lone n.1)

  found : (q : Place) (b : Bool) → has state_key_cmp q (keys_of base ++ keys_of lone) ≡ b → cond b (state_of after q.0 q.1) None ≡ state_of after q.0 q.1
  found q true e = refl
  found q false e = sym (nowhere q e)

  -- ALL STATES after what was left: those that are found at the places of the base and of what was left alone
  pub all_found : entries_at after (places_of base lone) ≡ after
  all_found =
      same_states (entries_at after (places_of base lone)) after
      (found_in_order after (places_of base lone) (laws.sorted (keys_of base ++ keys_of lone)))
      (left_keeps left base (states_in_order base ordered))
      (λ q. look_found after q (places_of base lone)
      ∙ (ap (λ b. cond b (state_of after q.0 q.1) None) (set_has_them laws q (keys_of base ++ keys_of lone))
      ∙ found q (has state_key_cmp q (keys_of base ++ keys_of lone)) refl))

-- a look-up tells whether there is a state at a place
told : (q : Place) (states : StateList) → has state_key_cmp q (keys_of states) ≡ is_some (state_of states q.0 q.1)
told q [] = refl
told q (e ∷ states) = by (is_eq (state_key_cmp q e.0)) (told q states)
  where
    by : (b : Bool) → has state_key_cmp q (keys_of states) ≡ is_some (state_of states q.0 q.1)
        → (b || has state_key_cmp q (keys_of states)) ≡ is_some (cond b (Some e.1) (state_of states q.0 q.1))
    by true rest = refl
    by false rest = rest

abbrev pub Found : StateList → Place × State → Type 0
Found states e = state_of states e.0.0 e.0.1 ≡ Some e.1

-- each is found where it says
pub each_found : (states : StateList) (places : List Place) → AreFound states (entries_at states places)
each_found states [] = tt
each_found states (p ∷ places) = by (state_of states p.0 p.1) refl (each_found states places)
  where
    by : (s : Option State) → state_of states p.0 p.1 ≡ s → AreFound states (entries_at states places)
        → AreFound states (cons_option (option_map (λ t. (p, t)) s) (entries_at states places))
    by None e rest = rest
    by (Some s) e rest = (e, rest)

module _ (laws : SetLaws state_key_cmp) where
  module _ (states : StateList) (ordered : AreStates states) (places : List Place) (others : (q : Place) → has state_key_cmp q places ≡ false → state_of states q.0 q.1 ≡ None) where
    there : (q : Place) (b : Bool) → has state_key_cmp q places ≡ b → cond b (state_of states q.0 q.1) None ≡ state_of states q.0 q.1
    there q true e = refl
    there q false e = sym (others q e)

    -- THE PLACES of what is found at some that leave none out
    pub places_found : set_of state_key_cmp (keys_of (entries_at states places)) ≡ keys_of states
    places_found =
        laws.alike (set_of state_key_cmp (keys_of (entries_at states places))) (keys_of states) (laws.sorted (keys_of (entries_at states places))) ordered
        (λ q.
        set_has_them laws q (keys_of (entries_at states places))
        ∙ (told q (entries_at states places)
        ∙ (ap is_some (look_found states q places ∙ there q (has state_key_cmp q places) refl)
        ∙ sym (told q states))))

  -- places of a base in no order, and those of last versions, leave none out
  module _ (epoch : ℕ) (base : StateList) (left : List StateLeft) (ordered : AreStates base) (kept : StateList) (latest : List ((ℕ × ℕ) × Option Version))
      (all : set_of state_key_cmp (keys_of kept) ≡ keys_of base)
      (others : (q : Place) → has state_key_cmp q (keys_of latest) ≡ false → IsLatestAt epoch left q None) where
    pub none_elsewhere : (q : Place) → has state_key_cmp q (keys_of kept ++ keys_of latest) ≡ false → state_of (states_after epoch base left) q.0 q.1 ≡ None
    none_elsewhere q h =
        let n = neither (has state_key_cmp q (keys_of kept)) (has state_key_cmp q (keys_of latest)) (sym (has_either q (keys_of kept) (keys_of latest)) ∙ h) in
        others q n.1 base ordered
        ∙ no_state q base (sym (sym (set_has_them laws q (keys_of kept)) ∙ ap (has state_key_cmp q) all) ∙ n.0)
