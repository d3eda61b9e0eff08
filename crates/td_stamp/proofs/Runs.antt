-- The groups of arrivals that come in order are their runs of one key.
use Rattle.std.proofs.Common.{◌≡◌, ℕ, ◌<◌, ◌==◌, List, [], ◌∷◌, ◌++◌, refl, ap, sym, ◌∙◌, Bool, true, false, cond, map, filter, eq-eqb, ne_eqb, eqb-true, length, ◌-◌, get_or, arith, suc}
use Rattle.std.specs.Prelude.{slice_set, slice_get, Option, Some, None, IsSome}
use Rattle.std.specs.Option.{option_map, option_eq}
use Rattle.std.specs.declared.cmp.Ordering.{Ordering}
use Rattle.std.specs.declared.cmp.Ordering.TheVariants.{Less, Equal, Greater}
use Rattle.std.specs.Ordering.{nat_cmp, is_gt, ordering_then, MatchOrdering}
use Rattle.std.specs.Cmp.{nat_cmp_total, ranks, nat_cmp_is}
use Rattle.std.specs.FinMap.{nat_cmp-IsAntisymmetric}
use Rattle.std.specs.List.{AllByRecursion}
use Rattle.std.specs.List.Sorted.{IsStrictlySortedBy}
use Rattle.td_stamp.specs.declared.values.Item.{Item}
use Rattle.td_stamp.specs.declared.values.Arrival.{Arrival}
use Rattle.td_stamp.specs.Orders.{item_cmp, arrival_cmp}
use Rattle.td_stamp.specs.ProvedOrders.{item_total, item_apart, arrival_total, arrival_apart}
use Rattle.td_stamp.specs.Bag.{bag_of, set_of, set_insert, IsBag}
use Rattle.td_stamp.specs.Rises.{IsBelowAll, Rises}
use Rattle.td_stamp.specs.Groups.{groups, items_of, with_first, runs}
use Rattle.td_stamp.specs.Steps.{last_key, with_last_item}
use Rattle.td_stamp.proofs.Bags.{set_insert_less, set_insert_equal}
use Rattle.td_stamp.proofs.Rising.{insert_front, below_bag_of, all_weaker, Rises-from_IsBag}
use Rattle.td_stamp.proofs.Sets.{all_set_of, all_from_set_of, set_of-IsStrictlySortedBy}

-- ---- one more arrival at the end

-- there is a run
some_run : (a : Arrival) (gs : List (ℕ × List Item)) → 0 < length (with_first a gs)
some_run a [] = omega arith
some_run a (g ∷ gs) = by (a.key == g.0)
  where
    by : (b : Bool) → 0 < length (cond b ((g.0, a.item ∷ g.1) ∷ gs) ((a.key, a.item ∷ []) ∷ g ∷ gs))
    by true = omega arith
    by false = omega arith

-- what comes first does not change the last key
last_key-with_first : (a : Arrival) (gs : List (ℕ × List Item)) → 0 < length gs → last_key (with_first a gs) ≡ last_key gs
last_key-with_first a [] some = absurd (omega (arith, some))
last_key-with_first a (g ∷ []) some = by (a.key == g.0)
  where
    by : (b : Bool) → last_key (cond b ((g.0, a.item ∷ g.1) ∷ []) ((a.key, a.item ∷ []) ∷ g ∷ [])) ≡ Some g.0
    by true = refl
    by false = refl
last_key-with_first a (g ∷ h ∷ gs) some = by (a.key == g.0)
  where
    by : (b : Bool) → last_key (cond b ((g.0, a.item ∷ g.1) ∷ h ∷ gs) ((a.key, a.item ∷ []) ∷ g ∷ h ∷ gs)) ≡ last_key (h ∷ gs)
    by true = refl
    by false = refl

-- nor what is put into the last group, or after it
with_first-with_last_item : (a : Arrival) (gs : List (ℕ × List Item)) (i : Item) → 0 < length gs → with_first a (with_last_item gs i) ≡ with_last_item (with_first a gs) i
with_first-with_last_item a [] i some = absurd (omega (arith, some))
with_first-with_last_item a (g ∷ []) i some = by (a.key == g.0)
  where
    by : (b : Bool) → cond b ((g.0, a.item ∷ (g.1 ++ i ∷ [])) ∷ []) ((a.key, a.item ∷ []) ∷ (g.0, g.1 ++ i ∷ []) ∷ []) ≡ with_last_item (cond b ((g.0, a.item ∷ g.1) ∷ []) ((a.key, a.item ∷ []) ∷ g ∷ [])) i
    by true = refl
    by false = refl
with_first-with_last_item a (g ∷ h ∷ gs) i some = by (a.key == g.0)
  where
    by : (b : Bool) → cond b ((g.0, a.item ∷ g.1) ∷ with_last_item (h ∷ gs) i) ((a.key, a.item ∷ []) ∷ g ∷ with_last_item (h ∷ gs) i) ≡ with_last_item (cond b ((g.0, a.item ∷ g.1) ∷ h ∷ gs) ((a.key, a.item ∷ []) ∷ g ∷ h ∷ gs)) i
    by true = refl
    by false = refl

with_first-append : (a : Arrival) (gs hs : List (ℕ × List Item)) → 0 < length gs → with_first a (gs ++ hs) ≡ with_first a gs ++ hs
with_first-append a [] hs some = absurd (omega (arith, some))
with_first-append a (g ∷ gs) hs some = by (a.key == g.0)
  where
    by : (b : Bool) → cond b ((g.0, a.item ∷ g.1) ∷ (gs ++ hs)) ((a.key, a.item ∷ []) ∷ g ∷ (gs ++ hs)) ≡ cond b ((g.0, a.item ∷ g.1) ∷ gs) ((a.key, a.item ∷ []) ∷ g ∷ gs) ++ hs
    by true = refl
    by false = refl

-- an arrival of the last key goes into the last run
pub runs-same_key : (before : List Arrival) (a : Arrival) → last_key (runs before) ≡ Some a.key → runs (before ++ a ∷ []) ≡ with_last_item (runs before) a.item
runs-same_key [] a last = cc
runs-same_key (b ∷ []) a last = two (b.key == a.key) (eq-eqb b.key a.key equal)
  where
    equal : b.key ≡ a.key
    equal = cc

    two : (s : Bool) → (b.key == a.key) ≡ true → with_first b ((a.key, a.item ∷ []) ∷ []) ≡ (b.key, b.item ∷ a.item ∷ []) ∷ []
    two s e = ap (λ t. cond t ((a.key, b.item ∷ a.item ∷ []) ∷ []) ((b.key, b.item ∷ []) ∷ (a.key, a.item ∷ []) ∷ [])) e ∙ ap (λ k. (k, b.item ∷ a.item ∷ []) ∷ []) (sym equal)
runs-same_key (b ∷ c ∷ before) a last =
    let some = some_run c (runs before) in
    ap (with_first b) (runs-same_key (c ∷ before) a (sym (last_key-with_first b (runs (c ∷ before)) some) ∙ last)) ∙ with_first-with_last_item b (runs (c ∷ before)) a.item some

-- an arrival of another key begins a run
pub runs-other_key : (before : List Arrival) (a : Arrival) → (last_key (runs before) ≡ Some a.key → ⊥) → runs (before ++ a ∷ []) ≡ runs before ++ (a.key, a.item ∷ []) ∷ []
runs-other_key [] a other = refl
runs-other_key (b ∷ []) a other =
    ap (λ t. cond t ((a.key, b.item ∷ a.item ∷ []) ∷ []) ((b.key, b.item ∷ []) ∷ (a.key, a.item ∷ []) ∷ [])) (ne_eqb b.key a.key (λ e. other (ap Some e)))
runs-other_key (b ∷ c ∷ before) a other =
    let some = some_run c (runs before) in
    ap (with_first b) (runs-other_key (c ∷ before) a (λ last. other (last_key-with_first b (runs (c ∷ before)) some ∙ last))) ∙ with_first-append b (runs (c ∷ before)) ((a.key, a.item ∷ []) ∷ []) some

-- ---- the runs of arrivals in order are their groups

-- an arrival that is not above others has an item that is not above theirs, where the keys are the same
items_below : (k : ℕ) (a : Arrival) (rest : List Arrival) → a.key ≡ k → IsBelowAll arrival_cmp a rest → IsBelowAll item_cmp a.item (map (λ x. x.item) (filter (λ x. x.key == k) rest))
items_below k a [] e below = tt
items_below k a (b ∷ rest) e below = by (b.key == k) refl (items_below k a rest e below.1)
  where
    by : (s : Bool) → (b.key == k) ≡ s → IsBelowAll item_cmp a.item (map (λ (x : Arrival). x.item) (filter (λ x. x.key == k) rest))
        → IsBelowAll item_cmp a.item (map (λ (x : Arrival). x.item) (cond s (b ∷ filter (λ x. x.key == k) rest) (filter (λ x. x.key == k) rest)))
    by false f others = others
    by true f others =
        let tied : Equal ≡ nat_cmp a.key b.key = nat_cmp_is a.key b.key Equal (e ∙ sym (eqb-true b.key k f)) in
        (ap (λ r. is_gt (ordering_then r (item_cmp a.item b.item))) tied ∙ below.0, others)

-- the items of a key, with an arrival before all others
items_of-same : (k : ℕ) (a : Arrival) (rest : List Arrival) → a.key ≡ k → IsBelowAll arrival_cmp a rest → items_of k (a ∷ rest) ≡ a.item ∷ items_of k rest
items_of-same k a rest e below =
    let others = map (λ (x : Arrival). x.item) (filter (λ x. x.key == k) rest) in
    ap (λ b. bag_of item_cmp (map (λ (x : Arrival). x.item) (cond b (a ∷ filter (λ x. x.key == k) rest) (filter (λ x. x.key == k) rest)))) (eq-eqb a.key k e)
    ∙ insert_front item_cmp item_total item_apart a.item (bag_of item_cmp others) (below_bag_of item_cmp item_total item_apart a.item others (items_below k a rest e below))

items_of-other : (k : ℕ) (a : Arrival) (rest : List Arrival) → (a.key ≡ k → ⊥) → items_of k (a ∷ rest) ≡ items_of k rest
items_of-other k a rest other = ap (λ b. bag_of item_cmp (map (λ (x : Arrival). x.item) (cond b (a ∷ filter (λ x. x.key == k) rest) (filter (λ x. x.key == k) rest)))) (ne_eqb a.key k other)

items_of-none : (k : ℕ) (rest : List Arrival) → AllByRecursion (λ j. j ≡ k → ⊥) (map (λ a. a.key) rest) → items_of k rest ≡ []
items_of-none k [] none = refl
items_of-none k (a ∷ rest) none = items_of-other k a rest none.0 ∙ items_of-none k rest none.1

-- a key with its items
abbrev group_at : List Arrival → ℕ → ℕ × List Item
group_at arrivals key = (key, items_of key arrivals)

-- keys other than an arrival's have the same items with it
same_elsewhere : (a : Arrival) (rest : List Arrival) (ks : List ℕ) → AllByRecursion (λ j. a.key ≡ j → ⊥) ks → map (group_at (a ∷ rest)) ks ≡ map (group_at rest) ks
same_elsewhere a rest [] others = refl
same_elsewhere a rest (k ∷ ks) others = λ i. (k, items_of-other k a rest others.0 i) ∷ same_elsewhere a rest ks others.1 i

-- an arrival before all others, key by key
front_of_groups : (a : Arrival) (rest : List Arrival) → IsBelowAll arrival_cmp a rest → (ks : List ℕ) → AllByRecursion (λ j. is_gt (nat_cmp a.key j) ≡ false) ks → IsStrictlySortedBy nat_cmp ks
    → (AllByRecursion (λ j. j ≡ a.key → ⊥) ks → items_of a.key rest ≡ []) → map (group_at (a ∷ rest)) (set_insert nat_cmp a.key ks) ≡ with_first a (map (group_at rest) ks)
unfolding IsStrictlySortedBy
front_of_groups a rest below [] low sorted none = ap (λ l. (a.key, l) ∷ []) (items_of-same a.key a rest refl below ∙ ap (λ l. a.item ∷ l) (none tt))
front_of_groups a rest below (k ∷ ks) low sorted none = by (nat_cmp a.key k) refl (ranks a.key k)
  where
    apart : (j : ℕ) → nat_cmp a.key j ≡ Less → a.key ≡ j → ⊥
    apart j h e = let c : Less ≡ Equal = sym h ∙ sym (nat_cmp_is a.key j Equal e) in cc

    by : (r : Ordering) → nat_cmp a.key k ≡ r → MatchOrdering r (a.key < k) (a.key ≡ k) (k < a.key)
        → map (group_at (a ∷ rest)) (set_insert nat_cmp a.key (k ∷ ks)) ≡ with_first a ((k, items_of k rest) ∷ map (group_at rest) ks)
    by Greater e m = let c : true ≡ false = sym (ap is_gt e) ∙ low.0 in cc
    by Equal e m =
        ap (map (group_at (a ∷ rest))) (set_insert_equal nat_cmp nat_cmp_total nat_cmp-IsAntisymmetric a.key k ks e)
        ∙ (λ i. (k, items_of-same k a rest m below i) ∷ same_elsewhere a rest ks (all_weaker (λ j. nat_cmp k j ≡ Less) (λ j. a.key ≡ j → ⊥) (λ j h f. apart j (ap (λ n. nat_cmp n j) m ∙ h) f) ks sorted.0) i)
        ∙ ap (λ b. cond b ((k, a.item ∷ items_of k rest) ∷ map (group_at rest) ks) ((a.key, a.item ∷ []) ∷ (k, items_of k rest) ∷ map (group_at rest) ks)) (sym (eq-eqb a.key k m))
    by Less e m =
        let others : AllByRecursion (λ j. nat_cmp a.key j ≡ Less) (k ∷ ks) = (e, all_weaker (λ j. nat_cmp k j ≡ Less) (λ j. nat_cmp a.key j ≡ Less) (λ j h. nat_cmp_total.trans a.key k j e h) ks sorted.0) in
        let elsewhere : AllByRecursion (λ j. a.key ≡ j → ⊥) (k ∷ ks) = all_weaker (λ j. nat_cmp a.key j ≡ Less) (λ j. a.key ≡ j → ⊥) apart (k ∷ ks) others in
        let nowhere : AllByRecursion (λ j. j ≡ a.key → ⊥) (k ∷ ks) = all_weaker (λ j. a.key ≡ j → ⊥) (λ j. j ≡ a.key → ⊥) (λ j h f. h (sym f)) (k ∷ ks) elsewhere in
        ap (map (group_at (a ∷ rest))) (set_insert_less nat_cmp nat_cmp_total nat_cmp-IsAntisymmetric a.key k ks e)
        ∙ (λ i. (a.key, (items_of-same a.key a rest refl below ∙ ap (λ l. a.item ∷ l) (none nowhere)) i) ∷ same_elsewhere a rest (k ∷ ks) elsewhere i)
        ∙ ap (λ b. cond b ((k, a.item ∷ items_of k rest) ∷ map (group_at rest) ks) ((a.key, a.item ∷ []) ∷ (k, items_of k rest) ∷ map (group_at rest) ks)) (sym (ne_eqb a.key k (apart k e)))

-- an arrival that is not above others has a key that is not above theirs
keys_below : (a : Arrival) (rest : List Arrival) → IsBelowAll arrival_cmp a rest → AllByRecursion (λ j. is_gt (nat_cmp a.key j) ≡ false) (map (λ x. x.key) rest)
keys_below a [] below = tt
keys_below a (b ∷ rest) below = (by (nat_cmp a.key b.key) (item_cmp a.item b.item) below.0, keys_below a rest below.1)
  where
    by : (r s : Ordering) → is_gt (ordering_then r s) ≡ false → is_gt r ≡ false
    by Less s h = refl
    by Equal s h = refl
    by Greater s h = h

pub groups-Rises : (arrivals : List Arrival) → Rises arrival_cmp arrivals → groups arrivals ≡ runs arrivals
groups-Rises [] rises = refl
groups-Rises (a ∷ rest) rises =
    let keys = map (λ (x : Arrival). x.key) rest in
    front_of_groups a rest rises.0 (set_of nat_cmp keys) (all_set_of nat_cmp nat_cmp_total nat_cmp-IsAntisymmetric (λ j. is_gt (nat_cmp a.key j) ≡ false) keys (keys_below a rest rises.0))
    (set_of-IsStrictlySortedBy nat_cmp nat_cmp_total nat_cmp-IsAntisymmetric keys)
    (λ none. items_of-none a.key rest (all_from_set_of nat_cmp nat_cmp_total nat_cmp-IsAntisymmetric (λ j. j ≡ a.key → ⊥) keys none))
    ∙ ap (with_first a) (groups-Rises rest rises.1)

-- the groups of a bag of arrivals
pub groups-runs : (arrivals : List Arrival) → IsBag arrival_cmp arrivals → groups arrivals ≡ runs arrivals
groups-runs arrivals bag = groups-Rises arrivals (Rises-from_IsBag arrival_cmp arrival_total arrival_apart arrivals bag)

-- ---- the last of a list of groups, as the code finds it

pub last_key-slice_get : (gs : List (ℕ × List Item)) → last_key gs ≡ option_map (λ g. g.0) (slice_get gs (length gs - 1))
last_key-slice_get [] = refl
last_key-slice_get (g ∷ []) = refl
last_key-slice_get (g ∷ h ∷ gs) =
    let e : suc (suc (length gs) - 1) ≡ suc (suc (length gs)) - 1 = omega arith in
    last_key-slice_get (h ∷ gs) ∙ ap (λ n. option_map (λ (x : ℕ × List Item). x.0) (slice_get (g ∷ h ∷ gs) n)) e

pub with_last_item-set : (gs : List (ℕ × List Item)) (g : ℕ × List Item) (i : Item) → 0 < length gs → g ≡ get_or gs (length gs - 1) g → slice_set gs (length gs - 1) (g.0, g.1 ++ i ∷ []) ≡ with_last_item gs i
with_last_item-set [] g i some last = absurd (omega (arith, some))
with_last_item-set (h ∷ []) g i some last = ap (λ x. (x.0, x.1 ++ i ∷ []) ∷ []) last
with_last_item-set (h ∷ k ∷ gs) g i some last =
    let e : suc (suc (length gs)) - 1 ≡ suc (suc (length gs) - 1) = omega arith in
    let more : 0 < length (k ∷ gs) = omega arith in
    ap (λ n. slice_set (h ∷ k ∷ gs) n (g.0, g.1 ++ i ∷ [])) e ∙ ap (λ l. h ∷ l) (with_last_item-set (k ∷ gs) g i more (last ∙ ap (λ n. get_or (h ∷ k ∷ gs) n g) e))

-- where there is a last key, there is a group
pub some_group : (gs : List (ℕ × List Item)) → IsSome (last_key gs) → 0 < length gs
some_group [] some = cc
some_group (g ∷ gs) some = omega arith

-- what `==` tells of a key that may be there
pub key_is : (o : Option ℕ) (k : ℕ) → option_eq (λ i j. i == j) o (Some k) ≡ true → o ≡ Some k
key_is None k e = cc
key_is (Some j) k e = ap Some (eqb-true j k e)

pub key_is_not : (o : Option ℕ) (k : ℕ) → option_eq (λ i j. i == j) o (Some k) ≡ false → o ≡ Some k → ⊥
key_is_not None k e f = cc
key_is_not (Some j) k e f = let same : j ≡ k = cc in let c : true ≡ false = sym (eq-eqb j k same) ∙ e in cc
