-- What was left, as the bag of the versions of each place.
use Rattle.std.proofs.Common.{◌≡◌, ℕ, suc, ◌<◌, Bool, true, false, cond, ◌||◌, List, [], ◌∷◌, ◌++◌, map, filter, length, take, drop, get_or, set, Option, Some, None, refl, ap, sym, ◌∙◌, subst, arith, ⊎_elim}
use Rattle.std.specs.List.{AllByRecursion, IsDistinct, swap}
use Rattle.std.specs.Map.{lookup, remove_entry, set_value, keys_of}
use Rattle.std.specs.BTreeMap.{is_at}
use Rattle.std.specs.declared.cmp.Ordering.{Ordering}
use Rattle.std.specs.declared.cmp.Ordering.TheVariants.{Less, Equal, Greater}
use Rattle.std.specs.Ordering.{is_eq, eq_by_cmp}
use Rattle.std.specs.List.Sorted.{IsPermutation}
use Rattle.std.proofs.lemmas.List.{set_split, get_or-set_same, get_or-set_other, set-get_or, length-set}
use Rattle.std.proofs.lemmas.List.Edits.{swap_is}
use Rattle.std.proofs.lemmas.List.Sorted.{IsPermutation-keeps}
use Rattle.std.proofs.lemmas.Bool.{cases_eq}
use Rattle.std.proofs.lemmas.Map.Steps.{set_value_same}
use Rattle.td_stamp.specs.Orders.{state_key_cmp}
use Rattle.td_stamp.specs.States.{same_place}
use Rattle.td_stamp.specs.Bag.{bag_insert, bag_remove, join, has, IsBag}
use Rattle.td_stamp.specs.BagLaws.{BagLaws}
use Rattle.td_machine.specs.declared.records.StateLeft.{StateLeft}
use Rattle.td_machine.specs.State.{left_cmp}
use Rattle.td_shard.specs.declared.versions.Version.{Version}
use Rattle.td_shard.specs.Versions.{VersionList, left_of, left_in, version_cmp, taken_back}
use Rattle.td_stamp.specs.ProvedOrders.{state_key_apart, places_tied}
use Rattle.td_shard.proofs.LeftOrders.{left_apart, left_of-cmp, places_tie}

-- no two of the places are the same
abbrev pub AreApart : VersionList → Type 0
AreApart es = IsDistinct (eq_by_cmp state_key_cmp) (keys_of es)

-- the test of a place, by its parts and by its order
pub test_is : (place : ℕ × ℕ) → same_place place ≡ is_at (state_key_cmp place)
test_is place = λ i q. sym (places_tied place q) i

pub found_by_order : {V : Type 0} (place : ℕ × ℕ) (es : List ((ℕ × ℕ) × V)) (o : Option V) → o ≡ lookup (same_place place) es → o ≡ lookup (is_at (state_key_cmp place)) es
found_by_order place es o e = e ∙ ap (λ t. lookup t es) (test_is place)

pub set_by_order : {V : Type 0} (place : ℕ × ℕ) (es fs : List ((ℕ × ℕ) × V)) (w : V) → fs ≡ set_value (same_place place) es w → fs ≡ set_value (is_at (state_key_cmp place)) es w
set_by_order place es fs w e = e ∙ ap (λ t. set_value t es w) (test_is place)

pub removed_by_order : {V : Type 0} (place : ℕ × ℕ) (es fs : List ((ℕ × ℕ) × V)) → IsPermutation (remove_entry (same_place place) es) fs → IsPermutation (remove_entry (is_at (state_key_cmp place)) es) fs
removed_by_order place es fs h = subst (λ t. IsPermutation (remove_entry t es) fs) (test_is place) h

pub are_apart : {V : Type 0} (es : List ((ℕ × ℕ) × V)) → IsDistinct same_place (keys_of es) → IsDistinct (eq_by_cmp state_key_cmp) (keys_of es)
are_apart es h = subst (λ t. IsDistinct t (keys_of es)) (λ i p. test_is p i) h

pub tied : (o : Ordering) → is_eq o ≡ true → o ≡ Equal
tied Less e = cc
tied Equal e = refl
tied Greater e = cc

-- one more version of a place, where it belongs
put-part : (place : ℕ × ℕ) (v : Version) (vs : List Version) → map (left_of place) (bag_insert version_cmp v vs) ≡ bag_insert left_cmp (left_of place v) (map (left_of place) vs)
put-part place v [] = refl
put-part place v (w ∷ vs) = by (version_cmp v w) (put-part place v vs) ∙ ap chosen (sym (left_of-cmp place v w))
  where
    chosen : Ordering → List StateLeft
    chosen o = elim o [ Greater ↦ left_of place w ∷ bag_insert left_cmp (left_of place v) (map (left_of place) vs) | _ ↦ left_of place v ∷ left_of place w ∷ map (left_of place) vs ]

    by : (o : Ordering) → map (left_of place) (bag_insert version_cmp v vs) ≡ bag_insert left_cmp (left_of place v) (map (left_of place) vs)
        → map (left_of place) (elim o [ Greater ↦ w ∷ bag_insert version_cmp v vs | _ ↦ v ∷ w ∷ vs ]) ≡ chosen o
    by Less e = refl
    by Equal e = refl
    by Greater e = ap (λ l. left_of place w ∷ l) e

-- those that pass a test, where a place is told with them
pub filter-map : {X Y : Type 0} (p : Y → Bool) (f : X → Y) (xs : List X) → filter p (map f xs) ≡ map f (filter (λ x. p (f x)) xs)
filter-map p f [] = refl
filter-map {X} p f (x ∷ xs) = by (p (f x)) (filter-map p f xs)
  where
    by : (b : Bool) → filter p (map f xs) ≡ map f (filter (λ y. p (f y)) xs) → cond b (f x ∷ filter p (map f xs)) (filter p (map f xs)) ≡ map f (cond b (x ∷ filter (λ y. p (f y)) xs) (filter (λ y. p (f y)) xs))
    by true e = ap (λ l. f x ∷ l) e
    by false e = e

module _ (laws : BagLaws left_cmp) where
  pub join-bag : (xs ys : List StateLeft) → IsBag left_cmp ys → IsBag left_cmp (join left_cmp xs ys)
  join-bag xs ys h = laws.associative xs ys [] ∙ ap (join left_cmp xs) h

  pub left_in-bag : (es : VersionList) → IsBag left_cmp (left_in es)
  left_in-bag [] = refl
  left_in-bag (e ∷ es) = join-bag (map (left_of e.0) e.1) (left_in es) (left_in-bag es)

  -- one more in a part
  joined_more : (place : ℕ × ℕ) (vs : List Version) (v : Version) (rest : List StateLeft)
      → join left_cmp (map (left_of place) (bag_insert version_cmp v vs)) rest ≡ bag_insert left_cmp (left_of place v) (join left_cmp (map (left_of place) vs) rest)
  joined_more place vs v rest = ap (λ l. join left_cmp l rest) (put-part place v vs) ∙ laws.associative (left_of place v ∷ []) (map (left_of place) vs) rest

  -- ONE MORE VERSION, of a place that has some
  pub left_in-more : (place : ℕ × ℕ) (v : Version) (vs : List Version) (es : VersionList) → lookup (is_at (state_key_cmp place)) es ≡ Some vs
      → left_in (set_value (is_at (state_key_cmp place)) es (bag_insert version_cmp v vs)) ≡ bag_insert left_cmp (left_of place v) (left_in es)
  left_in-more place v vs [] h = cc
  left_in-more place v vs (e ∷ es) h = by (state_key_cmp place e.0) refl h (left_in-more place v vs es)
    where
      ws : List Version
      ws = bag_insert version_cmp v vs

      by : (o : Ordering) → state_key_cmp place e.0 ≡ o → cond (is_eq o) (Some e.1) (lookup (is_at (state_key_cmp place)) es) ≡ Some vs
          → (lookup (is_at (state_key_cmp place)) es ≡ Some vs → left_in (set_value (is_at (state_key_cmp place)) es ws) ≡ bag_insert left_cmp (left_of place v) (left_in es))
          → left_in (cond (is_eq o) ((e.0, ws) ∷ es) (e ∷ set_value (is_at (state_key_cmp place)) es ws)) ≡ bag_insert left_cmp (left_of place v) (left_in (e ∷ es))
      by Less f g rest = ap (join left_cmp (map (left_of e.0) e.1)) (rest g) ∙ laws.swaps (map (left_of e.0) e.1) (left_of place v ∷ []) (left_in es)
      by Greater f g rest = ap (join left_cmp (map (left_of e.0) e.1)) (rest g) ∙ laws.swaps (map (left_of e.0) e.1) (left_of place v ∷ []) (left_in es)
      by Equal f g rest =
          let here : place ≡ e.0 = state_key_apart place e.0 f in
          let same : e.1 ≡ vs = cc in
          (λ i. join left_cmp (map (left_of (sym here i)) ws) (left_in es))
          ∙ (joined_more place vs v (left_in es) ∙ (λ i. bag_insert left_cmp (left_of place v) (join left_cmp (map (left_of (here i)) (sym same i)) (left_in es))))

  -- IN ANY ORDER of the places the same was left
  abbrev part : (ℕ × ℕ) × List Version → List StateLeft
  part e = map (left_of e.0) e.1

  abbrev without : VersionList → ℕ → VersionList
  without es i = take i es ++ drop (suc i) es

  left_in-split : (es : VersionList) (e : (ℕ × ℕ) × List Version) (fs : VersionList) → left_in (es ++ e ∷ fs) ≡ join left_cmp (part e) (left_in (es ++ fs))
  left_in-split [] e fs = refl
  left_in-split (d ∷ es) e fs = ap (join left_cmp (part d)) (left_in-split es e fs) ∙ laws.swaps (part d) (part e) (left_in (es ++ fs))

  left_in-set : (es : VersionList) (i : ℕ) (e : (ℕ × ℕ) × List Version) → i < length es → left_in (set es i e) ≡ join left_cmp (part e) (left_in (without es i))
  left_in-set es i e lt = ap left_in (set_split es i e lt) ∙ left_in-split (take i es) e (drop (suc i) es)

  left_in-at : (es : VersionList) (i : ℕ) (d : (ℕ × ℕ) × List Version) → i < length es → left_in es ≡ join left_cmp (part (get_or es i d)) (left_in (without es i))
  left_in-at es i d lt = ap left_in (sym (set-get_or es i d)) ∙ left_in-set es i (get_or es i d) lt

  join-cancel : (xs ys zs : List StateLeft) → join left_cmp xs ys ≡ join left_cmp xs zs → ys ≡ zs
  join-cancel [] ys zs e = e
  join-cancel (x ∷ xs) ys zs e = join-cancel xs ys zs (sym (laws.removes x (join left_cmp xs ys)) ∙ ap (bag_remove left_cmp x) e ∙ laws.removes x (join left_cmp xs zs))

  left_in-exchange : (es : VersionList) (i j : ℕ) → i < length es → j < length es → left_in (swap es i j) ≡ left_in es
  left_in-exchange [] i j p q = absurd (omega (arith))
  left_in-exchange (e ∷ rest) i j p q =
      let es : VersionList = e ∷ rest in
      let y : (ℕ × ℕ) × List Version = get_or es i e in
      let z : (ℕ × ℕ) × List Version = get_or es j e in
      let w : VersionList = set es i z in
      let long : length w ≡ length es = length-set es i z in
      let q' : j < length w = omega (arith, long) in
      let there : get_or w j e ≡ z = ⊎_elim (λ n. ap (λ m. get_or w m e) n ∙ get_or-set_same es i z e p) (λ n. get_or-set_other es i j z e n) (cases_eq j i) in
      let kept : left_in (without w j) ≡ left_in (without es i) =
      join-cancel (part z) (left_in (without w j)) (left_in (without es i))
      (ap (λ u. join left_cmp (part u) (left_in (without w j))) (sym there) ∙ sym (left_in-at w j e q') ∙ left_in-set es i z p) in
      ap left_in (sym (swap_is es i j e p q)) ∙ left_in-set w j y q' ∙ ap (join left_cmp (part y)) kept ∙ sym (left_in-at es i e p)

  pub left_in-moved : (es fs : VersionList) → IsPermutation es fs → left_in fs ≡ left_in es
  left_in-moved es fs = IsPermutation-keeps es (λ l. left_in l ≡ left_in es) refl (λ l i j p q h. left_in-exchange l i j p q ∙ h) fs

  -- WHAT IS LET GO: those that pass a test of what was left
  pub left_in-filter : (p : StateLeft → Bool) (e : (ℕ × ℕ) × List Version) (es : VersionList)
      → filter p (left_in (e ∷ es)) ≡ join left_cmp (map (left_of e.0) (filter (λ v. p (left_of e.0 v)) e.1)) (filter p (left_in es))
  left_in-filter p e es =
      laws.filtered_join p (map (left_of e.0) e.1) (left_in es) (left_in-bag es)
      ∙ ap (λ l. join left_cmp l (filter p (left_in es))) (filter-map p (left_of e.0) e.1)

  -- ONE TAKEN OUT
  taken_part : (place : ℕ × ℕ) (v : Version) (vs : List Version) (rest : List StateLeft) → has version_cmp v vs ≡ true
      → join left_cmp (map (left_of place) vs) rest ≡ bag_insert left_cmp (left_of place v) (join left_cmp (map (left_of place) (bag_remove version_cmp v vs)) rest)
  taken_part place v [] rest h = cc
  taken_part place v (w ∷ vs) rest h = by (version_cmp v w) refl h (taken_part place v vs rest)
    where
      more : join left_cmp (map (left_of place) vs) rest ≡ bag_insert left_cmp (left_of place v) (join left_cmp (map (left_of place) (bag_remove version_cmp v vs)) rest)
          → join left_cmp (map (left_of place) (w ∷ vs)) rest ≡ bag_insert left_cmp (left_of place v) (join left_cmp (map (left_of place) (w ∷ bag_remove version_cmp v vs)) rest)
      more r = ap (bag_insert left_cmp (left_of place w)) r ∙ laws.swaps (left_of place w ∷ []) (left_of place v ∷ []) (join left_cmp (map (left_of place) (bag_remove version_cmp v vs)) rest)

      by : (o : Ordering) → version_cmp v w ≡ o → (is_eq o || has version_cmp v vs) ≡ true
          → (has version_cmp v vs ≡ true → join left_cmp (map (left_of place) vs) rest ≡ bag_insert left_cmp (left_of place v) (join left_cmp (map (left_of place) (bag_remove version_cmp v vs)) rest))
          → join left_cmp (map (left_of place) (w ∷ vs)) rest ≡ bag_insert left_cmp (left_of place v) (join left_cmp (map (left_of place) (elim o [ Equal ↦ vs | _ ↦ w ∷ bag_remove version_cmp v vs ])) rest)
      by Less f g r = more (r g)
      by Greater f g r = more (r g)
      by Equal f g r = ap (λ x. bag_insert left_cmp x (join left_cmp (map (left_of place) vs) rest)) (sym (left_apart (left_of place v) (left_of place w) (left_of-cmp place v w ∙ f)))

  -- one that a place has
  pub left_in-taken : (place : ℕ × ℕ) (v : Version) (vs : List Version) (es : VersionList) → lookup (is_at (state_key_cmp place)) es ≡ Some vs → has version_cmp v vs ≡ true
      → left_in es ≡ bag_insert left_cmp (left_of place v) (left_in (set_value (is_at (state_key_cmp place)) es (bag_remove version_cmp v vs)))
  left_in-taken place v vs [] h t = cc
  left_in-taken place v vs (e ∷ es) h t = by (state_key_cmp place e.0) refl h (λ g. left_in-taken place v vs es g t)
    where
      ws : List Version
      ws = bag_remove version_cmp v vs

      by : (o : Ordering) → state_key_cmp place e.0 ≡ o → cond (is_eq o) (Some e.1) (lookup (is_at (state_key_cmp place)) es) ≡ Some vs
          → (lookup (is_at (state_key_cmp place)) es ≡ Some vs → left_in es ≡ bag_insert left_cmp (left_of place v) (left_in (set_value (is_at (state_key_cmp place)) es ws)))
          → left_in (e ∷ es) ≡ bag_insert left_cmp (left_of place v) (left_in (cond (is_eq o) ((e.0, ws) ∷ es) (e ∷ set_value (is_at (state_key_cmp place)) es ws)))
      by Less f g r = ap (join left_cmp (map (left_of e.0) e.1)) (r g) ∙ laws.swaps (map (left_of e.0) e.1) (left_of place v ∷ []) (left_in (set_value (is_at (state_key_cmp place)) es ws))
      by Greater f g r = ap (join left_cmp (map (left_of e.0) e.1)) (r g) ∙ laws.swaps (map (left_of e.0) e.1) (left_of place v ∷ []) (left_in (set_value (is_at (state_key_cmp place)) es ws))
      by Equal f g r =
          let here : place ≡ e.0 = state_key_apart place e.0 f in
          let same : e.1 ≡ vs = cc in
          (λ i. join left_cmp (map (left_of (sym here i)) (same i)) (left_in es))
          ∙ (taken_part place v vs (left_in es) t ∙ (λ i. bag_insert left_cmp (left_of place v) (join left_cmp (map (left_of (here i)) ws) (left_in es))))

  -- a place without versions tells nothing
  pub left_in-emptied : (place : ℕ × ℕ) (es : VersionList) → left_in (remove_entry (is_at (state_key_cmp place)) (set_value (is_at (state_key_cmp place)) es [])) ≡ left_in (set_value (is_at (state_key_cmp place)) es [])
  left_in-emptied place [] = refl
  left_in-emptied place (e ∷ es) = by (is_at (state_key_cmp place) e.0) refl (left_in-emptied place es)
    where
      by : (b : Bool) → is_at (state_key_cmp place) e.0 ≡ b → left_in (remove_entry (is_at (state_key_cmp place)) (set_value (is_at (state_key_cmp place)) es [])) ≡ left_in (set_value (is_at (state_key_cmp place)) es [])
          → left_in (remove_entry (is_at (state_key_cmp place)) (cond b ((e.0, []) ∷ es) (e ∷ set_value (is_at (state_key_cmp place)) es []))) ≡ left_in (cond b ((e.0, []) ∷ es) (e ∷ set_value (is_at (state_key_cmp place)) es []))
      by true f r = ap (λ b. left_in (cond b es ((e.0, []) ∷ remove_entry (is_at (state_key_cmp place)) es))) f
      by false f r = ap (λ b. left_in (cond b (set_value (is_at (state_key_cmp place)) es []) (e ∷ remove_entry (is_at (state_key_cmp place)) (set_value (is_at (state_key_cmp place)) es [])))) f ∙ ap (join left_cmp (map (left_of e.0) e.1)) r

  -- ONE THAT IS NOT THERE
  or-assoc : (a b c : Bool) → (a || (b || c)) ≡ ((a || b) || c)
  or-assoc true b c = refl
  or-assoc false b c = refl

  has-join : (x : StateLeft) (xs ys : List StateLeft) → has left_cmp x (join left_cmp xs ys) ≡ (has left_cmp x xs || has left_cmp x ys)
  has-join x [] ys = refl
  has-join x (y ∷ xs) ys = laws.found x y (join left_cmp xs ys) ∙ (ap (λ b. is_eq (left_cmp x y) || b) (has-join x xs ys) ∙ or-assoc (is_eq (left_cmp x y)) (has left_cmp x xs) (has left_cmp x ys))

  has-part : (place : ℕ × ℕ) (v : Version) (vs : List Version) → has left_cmp (left_of place v) (map (left_of place) vs) ≡ has version_cmp v vs
  has-part place v [] = refl
  has-part place v (w ∷ vs) = λ i. is_eq (left_of-cmp place v w i) || has-part place v vs i

  has_not-part : (p q : ℕ × ℕ) (v : Version) (vs : List Version) → is_eq (state_key_cmp p q) ≡ false → has left_cmp (left_of p v) (map (left_of q) vs) ≡ false
  has_not-part p q v [] h = refl
  has_not-part p q v (w ∷ vs) h = λ i. by (left_cmp (left_of p v) (left_of q w)) refl i || has_not-part p q v vs h i
    where
      by : (o : Ordering) → left_cmp (left_of p v) (left_of q w) ≡ o → is_eq o ≡ false
      by Less e = refl
      by Greater e = refl
      by Equal e = let no : true ≡ false = sym (ap is_eq (places_tie p q v w e)) ∙ h in cc

  -- of places in order, none is at a place below the first, or at one that has no versions
  has_not-none : (place : ℕ × ℕ) (v : Version) (es : VersionList) → lookup (is_at (state_key_cmp place)) es ≡ None → has left_cmp (left_of place v) (left_in es) ≡ false
  has_not-none place v [] h = refl
  has_not-none place v (e ∷ es) h = by (is_eq (state_key_cmp place e.0)) refl h (has_not-none place v es)
    where
      by : (b : Bool) → is_eq (state_key_cmp place e.0) ≡ b → cond b (Some e.1) (lookup (is_at (state_key_cmp place)) es) ≡ None
          → (lookup (is_at (state_key_cmp place)) es ≡ None → has left_cmp (left_of place v) (left_in es) ≡ false) → has left_cmp (left_of place v) (left_in (e ∷ es)) ≡ false
      by true f g r = cc
      by false f g r = has-join (left_of place v) (map (left_of e.0) e.1) (left_in es) ∙ (λ i. has_not-part place e.0 v e.1 f i || r g i)

  remove_not : (x : StateLeft) (xs : List StateLeft) → has left_cmp x xs ≡ false → bag_remove left_cmp x xs ≡ xs
  remove_not x [] h = refl
  remove_not x (y ∷ xs) h = by (left_cmp x y) h (remove_not x xs)
    where
      by : (o : Ordering) → (is_eq o || has left_cmp x xs) ≡ false → (has left_cmp x xs ≡ false → bag_remove left_cmp x xs ≡ xs) → elim o [ Equal ↦ xs | _ ↦ y ∷ bag_remove left_cmp x xs ] ≡ y ∷ xs
      by Less g r = ap (λ l. y ∷ l) (r g)
      by Greater g r = ap (λ l. y ∷ l) (r g)
      by Equal g r = cc

  pub left_in-not : (place : ℕ × ℕ) (v : Version) (es : VersionList) → lookup (is_at (state_key_cmp place)) es ≡ None → bag_remove left_cmp (left_of place v) (left_in es) ≡ left_in es
  left_in-not place v es h = remove_not (left_of place v) (left_in es) (has_not-none place v es h)

-- places that differ: no later one is the first again
pub none_again : (place : ℕ × ℕ) (e : (ℕ × ℕ) × List Version) (es : VersionList) → AreApart (e ∷ es) → place ≡ e.0 → lookup (is_at (state_key_cmp place)) es ≡ None
unfolding IsDistinct
none_again place e es h here = none es h.0
  where
    none : (ds : VersionList) → AllByRecursion (λ k. eq_by_cmp state_key_cmp e.0 k ≡ false) (keys_of ds) → lookup (is_at (state_key_cmp place)) ds ≡ None
    none [] g = refl
    none (d ∷ ds) g = ap (λ b. cond b (Some d.1) (lookup (is_at (state_key_cmp place)) ds)) (ap is_eq (ap (λ p. state_key_cmp p d.0) here) ∙ g.0) ∙ none ds g.1

module _ (laws : BagLaws left_cmp) where
  -- one that its place does not have
  not_there : (place : ℕ × ℕ) (v : Version) (vs : List Version) (es : VersionList) → AreApart es → lookup (is_at (state_key_cmp place)) es ≡ Some vs → has version_cmp v vs ≡ false
      → has left_cmp (left_of place v) (left_in es) ≡ false
  unfolding IsDistinct
  not_there place v vs [] s h t = refl
  not_there place v vs (e ∷ es) s h t = by (state_key_cmp place e.0) refl h (λ g. not_there place v vs es s.1 g t)
    where
      by : (o : Ordering) → state_key_cmp place e.0 ≡ o → cond (is_eq o) (Some e.1) (lookup (is_at (state_key_cmp place)) es) ≡ Some vs
          → (lookup (is_at (state_key_cmp place)) es ≡ Some vs → has left_cmp (left_of place v) (left_in es) ≡ false) → has left_cmp (left_of place v) (left_in (e ∷ es)) ≡ false
      by Less f g r = has-join laws (left_of place v) (map (left_of e.0) e.1) (left_in es) ∙ (λ i. has_not-part laws place e.0 v e.1 (ap is_eq f) i || r g i)
      by Greater f g r = has-join laws (left_of place v) (map (left_of e.0) e.1) (left_in es) ∙ (λ i. has_not-part laws place e.0 v e.1 (ap is_eq f) i || r g i)
      by Equal f g r =
          let here : place ≡ e.0 = state_key_apart place e.0 f in
          let same : e.1 ≡ vs = cc in
          has-join laws (left_of place v) (map (left_of e.0) e.1) (left_in es)
          ∙ (λ i. has left_cmp (left_of place v) (map (left_of (sym here i)) (same i)) || has_not-none laws place v es (none_again place e es s here) i)
          ∙ (λ i. (has-part laws place v vs ∙ t) i || false)

  remove_none : (v : Version) (vs : List Version) → has version_cmp v vs ≡ false → bag_remove version_cmp v vs ≡ vs
  remove_none v [] h = refl
  remove_none v (w ∷ vs) h = by (version_cmp v w) h (remove_none v vs)
    where
      by : (o : Ordering) → (is_eq o || has version_cmp v vs) ≡ false → (has version_cmp v vs ≡ false → bag_remove version_cmp v vs ≡ vs) → elim o [ Equal ↦ vs | _ ↦ w ∷ bag_remove version_cmp v vs ] ≡ w ∷ vs
      by Less g r = ap (λ l. w ∷ l) (r g)
      by Greater g r = ap (λ l. w ∷ l) (r g)
      by Equal g r = cc

  -- ONE TAKEN OUT of a place that has some
  pub left_in-out : (place : ℕ × ℕ) (v : Version) (vs : List Version) (es : VersionList) → AreApart es → lookup (is_at (state_key_cmp place)) es ≡ Some vs
      → left_in (set_value (is_at (state_key_cmp place)) es (bag_remove version_cmp v vs)) ≡ bag_remove left_cmp (left_of place v) (left_in es)
  left_in-out place v vs es s h = by (has version_cmp v vs) refl
    where
      by : (b : Bool) → has version_cmp v vs ≡ b → left_in (set_value (is_at (state_key_cmp place)) es (bag_remove version_cmp v vs)) ≡ bag_remove left_cmp (left_of place v) (left_in es)
      by true t =
          let ws = set_value (is_at (state_key_cmp place)) es (bag_remove version_cmp v vs) in
          sym (laws.removes (left_of place v) (left_in ws)) ∙ ap (bag_remove left_cmp (left_of place v)) (sym (left_in-taken laws place v vs es h t))
      by false t =
          ap (λ l. left_in (set_value (is_at (state_key_cmp place)) es l)) (remove_none v vs t)
          ∙ (ap left_in (set_value_same (is_at (state_key_cmp place)) es vs h) ∙ sym (remove_not laws (left_of place v) (left_in es) (not_there place v vs es s h t)))

  -- ALL THAT WAS PUT IN is taken out again
  pub put_and_taken : (some left : List StateLeft) → taken_back (join left_cmp some left) some ≡ left
  put_and_taken [] left = refl
  put_and_taken (x ∷ some) left = ap (λ l. taken_back l some) (laws.removes x (join left_cmp some left)) ∙ put_and_taken some left
