-- The state of a key after what was left: that of the last version up to the epoch.
use Rattle.std.proofs.Common.{◌≡◌, ℕ, ◌+◌, ◌≤◌, Bool, true, false, cond, List, [], ◌∷◌, map, filter, fold, length, nat_le, Option, Some, None, refl, ap, sym, ◌∙◌, arith}
use Rattle.std.specs.Prelude.{is_some}
use Rattle.std.specs.Option.{option_map}
use Rattle.std.specs.List.{IsDistinct}
use Rattle.std.specs.Map.{lookup, remove_entry}
use Rattle.std.specs.BTreeMap.{is_at, insert_entry}
use Rattle.std.specs.declared.cmp.Ordering.{Ordering}
use Rattle.std.specs.declared.cmp.Ordering.TheVariants.{Less, Equal, Greater}
use Rattle.std.specs.Ordering.{is_eq, is_gt, match_ordering}
use Rattle.std.proofs.lemmas.Cmp.{upto}
use Rattle.td_stamp.specs.declared.values.State.{State}
use Rattle.td_stamp.specs.Orders.{state_key_cmp}
use Rattle.td_stamp.specs.Bag.{bag_insert, bag_of, join, IsBag}
use Rattle.td_stamp.specs.BagLaws.{BagLaws}
use Rattle.td_stamp.specs.Rises.{Rises}
use Rattle.td_stamp.specs.States.{StateList, state_of, AreStates}
use Rattle.td_batch.specs.Meaning.{with_kept}
use Rattle.td_machine.specs.declared.records.StateLeft.{StateLeft}
use Rattle.td_machine.specs.State.{left_cmp, with_left}
use Rattle.td_shard.specs.declared.versions.Version.{Version}
use Rattle.td_shard.specs.Versions.{VersionList, left_of, left_in, version_cmp, later, latest, up_to, version_or, with_version, with_latest, with_some, set_there, removed_there}
use Rattle.td_stamp.specs.ProvedOrders.{state_key_apart}
use Rattle.td_shard.proofs.LeftOrders.{left_total, left_of-cmp}
use Rattle.td_shard.proofs.LeftBags.{AreApart, left_in-bag, left_in-filter, join-bag, none_again}
use Rattle.td_shard.proofs.KeptStates.{InOrder, kept_keeps, left_keeps, look_kept_same, look_kept_other, states_in_order, same_states}

-- whether something was left at a place
abbrev pub is_here : ℕ × ℕ → StateLeft → Bool
is_here place x = is_eq (state_key_cmp place (x.vertex, x.key))

-- a state, and then those that are left one after another
abbrev pub ended : List StateLeft → Option State → Option State
ended [] s = s
ended (x ∷ xs) s = ended xs x.state

look_kept : (place : ℕ × ℕ) (x : StateLeft) (states : StateList) → InOrder states
    → state_of (with_kept states x.vertex x.key x.state) place.0 place.1 ≡ cond (is_here place x) x.state (state_of states place.0 place.1)
look_kept place x states h = by (state_key_cmp place (x.vertex, x.key)) refl
  where
    by : (o : Ordering) → state_key_cmp place (x.vertex, x.key) ≡ o → state_of (with_kept states x.vertex x.key x.state) place.0 place.1 ≡ cond (is_eq o) x.state (state_of states place.0 place.1)
    by Less e = look_kept_other states place.0 place.1 x.vertex x.key x.state (ap is_eq e)
    by Greater e = look_kept_other states place.0 place.1 x.vertex x.key x.state (ap is_eq e)
    by Equal e =
        let p : place ≡ (x.vertex, x.key) = state_key_apart place (x.vertex, x.key) e in
        (λ i. state_of (with_kept states x.vertex x.key x.state) (p i).0 (p i).1) ∙ look_kept_same states x.vertex x.key x.state h

-- A LOOK-UP after what was left is told by what was left there
pub look_left : (place : ℕ × ℕ) (ls : List StateLeft) (states : StateList) → InOrder states
    → state_of (with_left states ls) place.0 place.1 ≡ ended (filter (is_here place) ls) (state_of states place.0 place.1)
look_left place [] states h = refl
look_left place (x ∷ ls) states h =
    look_left place ls (with_kept states x.vertex x.key x.state) (kept_keeps states x.vertex x.key x.state h)
    ∙ (ap (ended (filter (is_here place) ls)) (look_kept place x states h) ∙ by (is_here place x))
  where
    by : (b : Bool) → ended (filter (is_here place) ls) (cond b x.state (state_of states place.0 place.1)) ≡ ended (cond b (x ∷ filter (is_here place) ls) (filter (is_here place) ls)) (state_of states place.0 place.1)
    by true = refl
    by false = refl

-- THE LAST of a list
abbrev last_from : StateLeft → List StateLeft → StateLeft
last_from x [] = x
last_from x (y ∷ ys) = last_from y ys

abbrev last_of : List StateLeft → Option StateLeft
last_of [] = None
last_of (x ∷ xs) = Some (last_from x xs)

abbrev stays : Option StateLeft → Option State → Option State
stays None s = s
stays (Some x) s = x.state

ended-last : (ls : List StateLeft) (s : Option State) → ended ls s ≡ stays (last_of ls) s
ended-last [] s = refl
ended-last (x ∷ []) s = refl
ended-last (x ∷ y ∷ ls) s = ended-last (y ∷ ls) x.state

-- the later of two that were left
abbrev above : StateLeft → StateLeft → StateLeft
above x y = cond (is_gt (left_cmp y x)) y x

abbrev above_of : Option StateLeft → StateLeft → Option StateLeft
above_of None y = Some y
above_of (Some x) y = Some (above x y)

not_above : (x y : StateLeft) → is_gt (left_cmp y x) ≡ false → above x y ≡ x
not_above x y e = ap (λ b. cond b y x) e

low : (x y : StateLeft) (ys : List StateLeft) → is_gt (left_cmp x y) ≡ false → Rises left_cmp (y ∷ ys) → is_gt (left_cmp x (last_from y ys)) ≡ false
low x y [] e r = e
low x y (z ∷ ys) e r = low x z ys (upto left_total x y z e r.0.0) r.1

-- the last of a bag with one more
last_insert : (x y : StateLeft) (ys : List StateLeft) → left_cmp x y ≡ Greater → Rises left_cmp (y ∷ ys) → last_from y (bag_insert left_cmp x ys) ≡ above (last_from y ys) x
last_insert x y [] e r = sym (ap (λ o. cond (is_gt o) x y) e)
last_insert x y (z ∷ ys) e r = by (left_cmp x z) refl (λ f. last_insert x z ys f r.1)
  where
    before : is_gt (left_cmp x z) ≡ false → last_from z ys ≡ above (last_from z ys) x
    before f = sym (not_above (last_from z ys) x (low x z ys f r.1))

    by : (o : Ordering) → left_cmp x z ≡ o → (left_cmp x z ≡ Greater → last_from z (bag_insert left_cmp x ys) ≡ above (last_from z ys) x)
        → last_from y (elim o [ Greater ↦ z ∷ bag_insert left_cmp x ys | _ ↦ x ∷ z ∷ ys ]) ≡ above (last_from z ys) x
    by Less f k = before (ap is_gt f)
    by Equal f k = before (ap is_gt f)
    by Greater f k = k f

last_more : (x : StateLeft) (ls : List StateLeft) → Rises left_cmp ls → last_of (bag_insert left_cmp x ls) ≡ above_of (last_of ls) x
last_more x [] r = refl
last_more x (y ∷ ys) r = by (left_cmp x y) refl
  where
    before : is_gt (left_cmp x y) ≡ false → last_from y ys ≡ above (last_from y ys) x
    before f = sym (not_above (last_from y ys) x (low x y ys f r))

    by : (o : Ordering) → left_cmp x y ≡ o → last_of (elim o [ Greater ↦ y ∷ bag_insert left_cmp x ys | _ ↦ x ∷ y ∷ ys ]) ≡ Some (above (last_from y ys) x)
    by Less f = ap Some (before (ap is_gt f))
    by Equal f = ap Some (before (ap is_gt f))
    by Greater f = ap Some (last_insert x y ys f r)

-- the last of the versions of a place
later-left : (place : ℕ × ℕ) (o : Option Version) (v : Version) → above_of (option_map (left_of place) o) (left_of place v) ≡ option_map (left_of place) (later o v)
later-left place None v = refl
later-left place (Some x) v = ap (λ o. Some (cond (is_gt o) (left_of place v) (left_of place x))) (left_of-cmp place v x) ∙ by (is_gt (version_cmp v x))
  where
    by : (b : Bool) → Some (cond b (left_of place v) (left_of place x)) ≡ Some (left_of place (cond b v x))
    by true = refl
    by false = refl

fold-left : (place : ℕ × ℕ) (vs : List Version) (o : Option Version) → fold above_of (option_map (left_of place) o) (map (left_of place) vs) ≡ option_map (left_of place) (fold later o vs)
fold-left place [] o = refl
fold-left place (v ∷ vs) o = ap (λ l. fold above_of l (map (left_of place) vs)) (later-left place o v) ∙ fold-left place vs (later o v)

-- a place's last version up to an epoch
abbrev pub latest_at : ℕ → Option (List Version) → Option Version
latest_at epoch None = None
latest_at epoch (Some vs) = latest (up_to epoch vs)

module _ (laws : BagLaws left_cmp) where
  last_joined : (xs ls : List StateLeft) → IsBag left_cmp ls → last_of (join left_cmp xs ls) ≡ fold above_of (last_of ls) xs
  last_joined [] ls h = refl
  last_joined (x ∷ xs) ls h =
      ap last_of (laws.swaps (x ∷ []) xs ls)
      ∙ (last_joined xs (bag_insert left_cmp x ls) (join-bag laws (x ∷ []) ls h) ∙ ap (λ o. fold above_of o xs) (last_more x ls ((laws.rises ls).0 h)))

  -- what was left at a place, up to an epoch
  abbrev placed : ℕ → ℕ × ℕ → Option (List Version) → List StateLeft
  placed epoch place None = []
  placed epoch place (Some vs) = map (left_of place) (up_to epoch vs)

  here-yes : (place other : ℕ × ℕ) (vs : List Version) → is_eq (state_key_cmp place other) ≡ true → filter (is_here place) (map (left_of other) vs) ≡ map (left_of other) vs
  here-yes place other [] h = refl
  here-yes place other (v ∷ vs) h = λ i. cond (h i) (left_of other v ∷ here-yes place other vs h i) (here-yes place other vs h i)

  here-no : (place other : ℕ × ℕ) (vs : List Version) → is_eq (state_key_cmp place other) ≡ false → filter (is_here place) (map (left_of other) vs) ≡ []
  here-no place other [] h = refl
  here-no place other (v ∷ vs) h = λ i. cond (h i) (left_of other v ∷ here-no place other vs h i) (here-no place other vs h i)

  left_there : (epoch : ℕ) (place : ℕ × ℕ) (es : VersionList) → AreApart es
      → filter (is_here place) (filter (λ k. nat_le k.epoch epoch) (left_in es)) ≡ bag_of left_cmp (placed epoch place (lookup (is_at (state_key_cmp place)) es))
  unfolding IsDistinct
  left_there epoch place [] s = refl
  left_there epoch place (e ∷ es) s =
      let own = map (left_of e.0) (up_to epoch e.1) in
      let rest = filter (λ k. nat_le k.epoch epoch) (left_in es) in
      ap (filter (is_here place)) (left_in-filter laws (λ k. nat_le k.epoch epoch) e es)
      ∙ (laws.filtered_join (is_here place) own rest (laws.filtered (λ k. nat_le k.epoch epoch) (left_in es) (left_in-bag laws es)) ∙ by (state_key_cmp place e.0) refl (left_there epoch place es s.1))
    where
      by : (o : Ordering) → state_key_cmp place e.0 ≡ o
          → filter (is_here place) (filter (λ k. nat_le k.epoch epoch) (left_in es)) ≡ bag_of left_cmp (placed epoch place (lookup (is_at (state_key_cmp place)) es))
          → join left_cmp (filter (is_here place) (map (left_of e.0) (up_to epoch e.1))) (filter (is_here place) (filter (λ k. nat_le k.epoch epoch) (left_in es)))
          ≡ bag_of left_cmp (placed epoch place (cond (is_eq o) (Some e.1) (lookup (is_at (state_key_cmp place)) es)))
      by Less f r = λ i. join left_cmp (here-no place e.0 (up_to epoch e.1) (ap is_eq f) i) (r i)
      by Greater f r = λ i. join left_cmp (here-no place e.0 (up_to epoch e.1) (ap is_eq f) i) (r i)
      by Equal f r =
          let here : place ≡ e.0 = state_key_apart place e.0 f in
          (λ i. join left_cmp (here-yes place e.0 (up_to epoch e.1) (ap is_eq f) i) ((r ∙ ap (λ o. bag_of left_cmp (placed epoch place o)) (none_again place e es s here)) i))
          ∙ (λ i. join left_cmp (map (left_of (sym here i)) (up_to epoch e.1)) [])

  placed-last : (epoch : ℕ) (place : ℕ × ℕ) (o : Option (List Version)) (s : Option State) → ended (bag_of left_cmp (placed epoch place o)) s ≡ version_or (latest_at epoch o) s
  placed-last epoch place None s = refl
  placed-last epoch place (Some vs) s =
      ended-last (bag_of left_cmp (map (left_of place) (up_to epoch vs))) s
      ∙ (ap (λ o. stays o s) (last_joined (map (left_of place) (up_to epoch vs)) [] refl ∙ fold-left place (up_to epoch vs) None) ∙ by (latest (up_to epoch vs)))
    where
      by : (o : Option Version) → stays (option_map (left_of place) o) s ≡ version_or o s
      by None = refl
      by (Some v) = refl

  -- THE STATE OF A KEY after an epoch
  pub state_there : (epoch : ℕ) (place : ℕ × ℕ) (es : VersionList) (states : StateList) → AreApart es → AreStates states
      → state_of (with_left states (filter (λ k. nat_le k.epoch epoch) (left_in es))) place.0 place.1
      ≡ version_or (latest_at epoch (lookup (is_at (state_key_cmp place)) es)) (state_of states place.0 place.1)
  state_there epoch place es states s h =
      look_left place (filter (λ k. nat_le k.epoch epoch) (left_in es)) states (states_in_order states h)
      ∙ (ap (λ l. ended l (state_of states place.0 place.1)) (left_there epoch place es s) ∙ placed-last epoch place (lookup (is_at (state_key_cmp place)) es) (state_of states place.0 place.1))

  -- ALL STATES: one change for each key does the same
  version_keeps : (states : StateList) (place : ℕ × ℕ) (o : Option Version) → InOrder states → InOrder (with_version states place o)
  version_keeps states place None h = h
  version_keeps states place (Some v) h = kept_keeps states place.0 place.1 v.state h

  latest_keeps : (epoch : ℕ) (es : VersionList) (states : StateList) → InOrder states → InOrder (with_latest epoch states es)
  latest_keeps epoch [] states h = h
  latest_keeps epoch (e ∷ es) states h = latest_keeps epoch es (with_version states e.0 (latest (up_to epoch e.1))) (version_keeps states e.0 (latest (up_to epoch e.1)) h)

  look_version : (place other : ℕ × ℕ) (o : Option Version) (states : StateList) → InOrder states
      → state_of (with_version states other o) place.0 place.1 ≡ cond (is_eq (state_key_cmp place other)) (version_or o (state_of states place.0 place.1)) (state_of states place.0 place.1)
  look_version place other None states h = by (is_eq (state_key_cmp place other))
    where
      by : (b : Bool) → state_of states place.0 place.1 ≡ cond b (state_of states place.0 place.1) (state_of states place.0 place.1)
      by true = refl
      by false = refl
  look_version place other (Some v) states h = look_kept place (left_of other v) states h

  look_latest : (epoch : ℕ) (place : ℕ × ℕ) (es : VersionList) (states : StateList) → AreApart es → InOrder states
      → state_of (with_latest epoch states es) place.0 place.1 ≡ version_or (latest_at epoch (lookup (is_at (state_key_cmp place)) es)) (state_of states place.0 place.1)
  unfolding IsDistinct
  look_latest epoch place [] states s h = refl
  look_latest epoch place (e ∷ es) states s h =
      look_latest epoch place es (with_version states e.0 (latest (up_to epoch e.1))) s.1 (version_keeps states e.0 (latest (up_to epoch e.1)) h)
      ∙ (ap (version_or (latest_at epoch (lookup (is_at (state_key_cmp place)) es))) (look_version place e.0 (latest (up_to epoch e.1)) states h) ∙ by (state_key_cmp place e.0) refl)
    where
      by : (o : Ordering) → state_key_cmp place e.0 ≡ o
          → version_or (latest_at epoch (lookup (is_at (state_key_cmp place)) es)) (cond (is_eq o) (version_or (latest (up_to epoch e.1)) (state_of states place.0 place.1)) (state_of states place.0 place.1))
          ≡ version_or (latest_at epoch (cond (is_eq o) (Some e.1) (lookup (is_at (state_key_cmp place)) es))) (state_of states place.0 place.1)
      by Less f = refl
      by Greater f = refl
      by Equal f = ap (λ o. version_or (latest_at epoch o) (version_or (latest (up_to epoch e.1)) (state_of states place.0 place.1))) (none_again place e es s (state_key_apart place e.0 f))

  pub all_states : (epoch : ℕ) (es : VersionList) (states : StateList) → AreApart es → AreStates states
      → with_latest epoch states es ≡ with_left states (filter (λ k. nat_le k.epoch epoch) (left_in es))
  all_states epoch es states s h =
      same_states (with_latest epoch states es) (with_left states (filter (λ k. nat_le k.epoch epoch) (left_in es)))
      (latest_keeps epoch es states (states_in_order states h)) (left_keeps (filter (λ k. nat_le k.epoch epoch) (left_in es)) states (states_in_order states h))
      (λ place. look_latest epoch place es states s (states_in_order states h) ∙ sym (state_there epoch place es states s h))

  -- SOME OF THE CHANGES, and then the others: those that set a state, and those that remove one
  some_keeps : (pick : Option Version → Option Version) (epoch : ℕ) (es : VersionList) (states : StateList) → InOrder states → InOrder (with_some pick epoch states es)
  some_keeps pick epoch [] states h = h
  some_keeps pick epoch (e ∷ es) states h =
      some_keeps pick epoch es (with_version states e.0 (pick (latest (up_to epoch e.1)))) (version_keeps states e.0 (pick (latest (up_to epoch e.1))) h)

  look_some : (pick : Option Version → Option Version) → pick None ≡ None → (epoch : ℕ) (place : ℕ × ℕ) (es : VersionList) (states : StateList) → AreApart es → InOrder states
      → state_of (with_some pick epoch states es) place.0 place.1 ≡ version_or (pick (latest_at epoch (lookup (is_at (state_key_cmp place)) es))) (state_of states place.0 place.1)
  unfolding IsDistinct
  look_some pick n epoch place [] states s h = sym (ap (λ o. version_or o (state_of states place.0 place.1)) n)
  look_some pick n epoch place (e ∷ es) states s h =
      look_some pick n epoch place es (with_version states e.0 (pick (latest (up_to epoch e.1)))) s.1 (version_keeps states e.0 (pick (latest (up_to epoch e.1))) h)
      ∙ (ap (version_or (pick (latest_at epoch (lookup (is_at (state_key_cmp place)) es)))) (look_version place e.0 (pick (latest (up_to epoch e.1))) states h) ∙ by (state_key_cmp place e.0) refl)
    where
      by : (o : Ordering) → state_key_cmp place e.0 ≡ o
          → version_or (pick (latest_at epoch (lookup (is_at (state_key_cmp place)) es))) (cond (is_eq o) (version_or (pick (latest (up_to epoch e.1))) (state_of states place.0 place.1)) (state_of states place.0 place.1))
          ≡ version_or (pick (latest_at epoch (cond (is_eq o) (Some e.1) (lookup (is_at (state_key_cmp place)) es)))) (state_of states place.0 place.1)
      by Less f = refl
      by Greater f = refl
      by Equal f =
          ap (λ o. version_or (pick (latest_at epoch o)) (version_or (pick (latest (up_to epoch e.1))) (state_of states place.0 place.1))) (none_again place e es s (state_key_apart place e.0 f))
          ∙ ap (λ o. version_or o (version_or (pick (latest (up_to epoch e.1))) (state_of states place.0 place.1))) n

  set_then_removed : (o : Option Version) (s : Option State) → version_or (removed_there o) (version_or (set_there o) s) ≡ version_or o s
  set_then_removed None s = refl
  set_then_removed (Some v) s = by (is_some v.state)
    where
      by : (b : Bool) → version_or (cond b None (Some v)) (version_or (cond b (Some v) None) s) ≡ v.state
      by true = refl
      by false = refl

  pub brought_up : (epoch : ℕ) (es : VersionList) (states : StateList) → AreApart es → AreStates states
      → with_some removed_there epoch (with_some set_there epoch states es) es ≡ with_left states (filter (λ k. nat_le k.epoch epoch) (left_in es))
  brought_up epoch es states s h =
      let ordered = states_in_order states h in
      let set = with_some set_there epoch states es in
      let set_ordered = some_keeps set_there epoch es states ordered in
      same_states (with_some removed_there epoch set es) (with_left states (filter (λ k. nat_le k.epoch epoch) (left_in es)))
      (some_keeps removed_there epoch es set set_ordered) (left_keeps (filter (λ k. nat_le k.epoch epoch) (left_in es)) states ordered)
      (λ place.
      let last = latest_at epoch (lookup (is_at (state_key_cmp place)) es) in
      look_some removed_there refl epoch place es set s set_ordered
      ∙ (ap (version_or (removed_there last)) (look_some set_there refl epoch place es states s ordered) ∙ (set_then_removed last (state_of states place.0 place.1) ∙ sym (state_there epoch place es states s h))))

  -- at most one more for each key
  length-put : (states : StateList) (place : ℕ × ℕ) (state : State) → length (insert_entry state_key_cmp states place state) ≤ length states + 1
  length-put [] place state = omega arith
  length-put (e ∷ es) place state = by (state_key_cmp place e.0) (length-put es place state)
    where
      by : (o : Ordering) → length (insert_entry state_key_cmp es place state) ≤ length es + 1
          → length (match_ordering o ((place, state) ∷ e ∷ es) ((e.0, state) ∷ es) (e ∷ insert_entry state_key_cmp es place state)) ≤ length (e ∷ es) + 1
      by Less rest = omega arith
      by Equal rest = omega arith
      by Greater rest = omega (arith, rest)

  length-removed : (test : ℕ × ℕ → Bool) (states : StateList) → length (remove_entry test states) ≤ length states
  length-removed test [] = omega arith
  length-removed test (e ∷ es) = by (test e.0) (length-removed test es)
    where
      by : (b : Bool) → length (remove_entry test es) ≤ length es → length (cond b es (e ∷ remove_entry test es)) ≤ length (e ∷ es)
      by true rest = omega arith
      by false rest = omega (arith, rest)

  length-kept : (states : StateList) (place : ℕ × ℕ) (state : Option State) → length (with_kept states place.0 place.1 state) ≤ length states + 1
  length-kept states place None = let few = length-removed (is_at (state_key_cmp place)) states in omega (arith, few)
  length-kept states place (Some s) = length-put states place s

  length-version : (states : StateList) (place : ℕ × ℕ) (o : Option Version) → length (with_version states place o) ≤ length states + 1
  length-version states place None = omega arith
  length-version states place (Some v) = length-kept states place v.state

  length-latest : (epoch : ℕ) (es : VersionList) (states : StateList) → length (with_latest epoch states es) ≤ length states + length es
  length-latest epoch [] states = omega arith
  length-latest epoch (e ∷ es) states =
      let one = length-version states e.0 (latest (up_to epoch e.1)) in
      let rest = length-latest epoch es (with_version states e.0 (latest (up_to epoch e.1))) in
      omega (arith, one, rest)

  pub at_most : (epoch : ℕ) (es : VersionList) (states : StateList) → AreApart es → AreStates states
      → length (with_left states (filter (λ k. nat_le k.epoch epoch) (left_in es))) ≤ length states + length es
  at_most epoch es states s h = let few = length-latest epoch es states in let same = ap length (all_states epoch es states s h) in omega (arith, few, same)
