-- What comes to an epoch's list comes to the bag of all, and what is taken from it is gone from there.
use Rattle.std.proofs.Common.{◌≡◌, ℕ, ◌==◌, Bool, true, false, not, cond, List, [], ◌∷◌, ◌++◌, map, filter, Option, Some, None, refl, sym, ap, ◌∙◌, true≢false, arith}
use Rattle.std.specs.declared.cmp.Ordering.{Ordering}
use Rattle.std.specs.declared.cmp.Ordering.TheVariants.{Less, Equal, Greater}
use Rattle.std.specs.List.{IsDistinct}
use Rattle.std.specs.List.Sorted.{IsStrictlySortedBy}
use Rattle.std.specs.Option.{is_some}
use Rattle.std.specs.Map.{keys_of, lookup, remove_entry, set_value}
use Rattle.std.specs.BTreeMap.{is_at, insert_entry}
use Rattle.std.specs.Ordering.{nat_cmp, eq_by_cmp, ordering_then, is_eq, match_ordering}
use Rattle.std.specs.Cmp.{IsEquivalence, eq_by_cmp_equiv, nat_cmp_total}
use Rattle.std.proofs.lemmas.Cmp.{tied_itself}
use Rattle.std.proofs.lemmas.Map.{NonePasses}
use Rattle.std.proofs.lemmas.Map.Entries.{none_past_head}
use Rattle.std.proofs.lemmas.Map.Keys.{IsDistinct-from_sorted}
use Rattle.std.proofs.lemmas.Bool.Decides.{nat_tests}
use Rattle.td_stamp.specs.declared.values.Rec.{Rec}
use Rattle.td_stamp.specs.declared.values.Output.{Output}
use Rattle.td_stamp.specs.Orders.{output_cmp}
use Rattle.td_stamp.specs.Bag.{bag_insert, bag_of, join}
use Rattle.td_stamp.specs.BagLaws.{BagLaws}
use Rattle.td_machine.specs.declared.records.OutputAt.{OutputAt}
use Rattle.td_machine.specs.State.{output_at_cmp}
use Rattle.td_core.specs.Came.{at_epoch, output_of, output_at, came_at, listed, came}

none_is_some : {X : Type 0} {x : X} → None ≡ Some x → ⊥
none_is_some {X} {x} e = let no : false ≡ true = ap is_some e in true≢false (sym no)

same_is : (a b : ℕ) → is_at (nat_cmp a) b ≡ true → b ≡ a
same_is a b e = grind (arith, nat_tests)

same_tests : (k n : ℕ) → (n == k) ≡ is_at (nat_cmp k) n
same_tests k n = grind (arith, nat_tests)

tie : (k : ℕ) (o : Ordering) → ordering_then (nat_cmp k k) o ≡ o
tie k o = ap (λ t. ordering_then t o) (tied_itself nat_cmp_total k)

-- outputs of one epoch stand in the order of outputs
inserted : (k : ℕ) (x : Output) (ys : List Output) → bag_insert output_at_cmp (at_epoch k x) (map (at_epoch k) ys) ≡ map (at_epoch k) (bag_insert output_cmp x ys)
inserted k x [] = refl
inserted k x (y ∷ ys) = by (output_at_cmp (at_epoch k x) (at_epoch k y)) (output_cmp x y) (tie k (output_cmp x y)) (inserted k x ys)
  where
    by : (o p : Ordering) → o ≡ p → bag_insert output_at_cmp (at_epoch k x) (map (at_epoch k) ys) ≡ map (at_epoch k) (bag_insert output_cmp x ys)
        → elim o [ Greater ↦ at_epoch k y ∷ bag_insert output_at_cmp (at_epoch k x) (map (at_epoch k) ys) | _ ↦ at_epoch k x ∷ at_epoch k y ∷ map (at_epoch k) ys ]
        ≡ map (at_epoch k) (elim p [ Greater ↦ y ∷ bag_insert output_cmp x ys | _ ↦ x ∷ y ∷ ys ])
    by o Less e later = ap (λ o. elim o [ Greater ↦ at_epoch k y ∷ bag_insert output_at_cmp (at_epoch k x) (map (at_epoch k) ys) | _ ↦ at_epoch k x ∷ at_epoch k y ∷ map (at_epoch k) ys ]) e
    by o Equal e later = ap (λ o. elim o [ Greater ↦ at_epoch k y ∷ bag_insert output_at_cmp (at_epoch k x) (map (at_epoch k) ys) | _ ↦ at_epoch k x ∷ at_epoch k y ∷ map (at_epoch k) ys ]) e
    by o Greater e later = ap (λ o. elim o [ Greater ↦ at_epoch k y ∷ bag_insert output_at_cmp (at_epoch k x) (map (at_epoch k) ys) | _ ↦ at_epoch k x ∷ at_epoch k y ∷ map (at_epoch k) ys ]) e ∙ ap (λ l. at_epoch k y ∷ l) later

in_order : (k : ℕ) (xs : List Output) → join output_at_cmp (map (at_epoch k) xs) [] ≡ map (at_epoch k) (bag_of output_cmp xs)
in_order k [] = refl
in_order k (x ∷ xs) = ap (bag_insert output_at_cmp (at_epoch k x)) (in_order k xs) ∙ inserted k x (bag_of output_cmp xs)

unmapped : (k : ℕ) (xs : List Output) → map (λ o. o.output) (map (at_epoch k) xs) ≡ xs
unmapped k [] = refl
unmapped k (x ∷ xs) = ap (λ l. x ∷ l) (unmapped k xs)

module _ (laws : BagLaws output_at_cmp) {V : Type 0} (f : V → List Output) where
  abbrev all_of : List (ℕ × V) → List OutputAt
  all_of es = listed f es

  abbrev bag : List (ℕ × V) → List OutputAt
  bag es = came f es

  map-two : (k : ℕ) (xs ys : List Output) → map (at_epoch k) (xs ++ ys) ≡ map (at_epoch k) xs ++ map (at_epoch k) ys
  map-two k [] ys = refl
  map-two k (x ∷ xs) ys = ap (λ l. at_epoch k x ∷ l) (map-two k xs ys)

  -- an entry before others
  first : (k : ℕ) (v : V) (es : List (ℕ × V)) → bag ((k, v) ∷ es) ≡ join output_at_cmp (map (at_epoch k) (f v)) (bag es)
  first k v es = laws.append (map (at_epoch k) (f v)) (all_of es) []

  -- more comes to the epoch of an entry
  more_here : (k : ℕ) (x y : V) (more : List Output) (es : List (ℕ × V)) → f y ≡ f x ++ more
      → bag ((k, y) ∷ es) ≡ join output_at_cmp (map (at_epoch k) more) (bag ((k, x) ∷ es))
  more_here k x y more es e =
      first k y es ∙ (ap (λ l. join output_at_cmp l (bag es)) (ap (map (at_epoch k)) e ∙ map-two k (f x) more)
      ∙ (laws.append (map (at_epoch k) (f x)) (map (at_epoch k) more) (bag es)
      ∙ (laws.swaps (map (at_epoch k) (f x)) (map (at_epoch k) more) (bag es)
      ∙ ap (join output_at_cmp (map (at_epoch k) more)) (sym (first k x es)))))

  -- or to a later one
  more_later : (k : ℕ) (v : V) (others : List OutputAt) (es fs : List (ℕ × V)) → bag fs ≡ join output_at_cmp others (bag es)
      → bag ((k, v) ∷ fs) ≡ join output_at_cmp others (bag ((k, v) ∷ es))
  more_later k v others es fs e =
      first k v fs ∙ (ap (join output_at_cmp (map (at_epoch k) (f v))) e ∙ (laws.swaps (map (at_epoch k) (f v)) others (bag es)
      ∙ ap (join output_at_cmp others) (sym (first k v es))))

  pub grown : (k : ℕ) (es : List (ℕ × V)) (x y : V) (more : List Output) → Some x ≡ lookup (is_at (nat_cmp k)) es → f y ≡ f x ++ more
      → bag (set_value (is_at (nat_cmp k)) es y) ≡ join output_at_cmp (map (at_epoch k) more) (bag es)
  grown k [] x y more e g = absurd (none_is_some (sym e))
  grown k (e ∷ es) x y more found g = by (is_at (nat_cmp k) e.0) refl found (λ later. grown k es x y more later g)
    where
      by : (b : Bool) → is_at (nat_cmp k) e.0 ≡ b → Some x ≡ cond b (Some e.1) (lookup (is_at (nat_cmp k)) es)
          → (Some x ≡ lookup (is_at (nat_cmp k)) es → bag (set_value (is_at (nat_cmp k)) es y) ≡ join output_at_cmp (map (at_epoch k) more) (bag es))
          → bag (cond b ((e.0, y) ∷ es) (e ∷ set_value (is_at (nat_cmp k)) es y)) ≡ join output_at_cmp (map (at_epoch k) more) (bag (e ∷ es))
      by true same found later =
          ap (λ n. bag ((n, y) ∷ es)) (same_is k e.0 same) ∙ (more_here k e.1 y more es (g ∙ ap (λ o. f (or x o) ++ more) found)
          ∙ ap (λ n. join output_at_cmp (map (at_epoch k) more) (bag ((n, e.1) ∷ es))) (sym (same_is k e.0 same)))
        where
          or : V → Option V → V
          or z None = z
          or z (Some v) = v
      by false other found later = more_later e.0 e.1 (map (at_epoch k) more) es (set_value (is_at (nat_cmp k)) es y) (later found)

  -- what is written back changes nothing
  pub as_before : (k : ℕ) (es : List (ℕ × V)) (x y : V) → Some x ≡ lookup (is_at (nat_cmp k)) es → f y ≡ f x
      → bag (set_value (is_at (nat_cmp k)) es y) ≡ bag es
  as_before k es x y found g = grown k es x y [] found (g ∙ nothing_more (f x))
    where
      nothing_more : (xs : List Output) → xs ≡ xs ++ []
      nothing_more [] = refl
      nothing_more (z ∷ zs) = ap (λ l. z ∷ l) (nothing_more zs)

  pub put_in : (k : ℕ) (es : List (ℕ × V)) (y : V) → None ≡ lookup (is_at (nat_cmp k)) es
      → bag (insert_entry nat_cmp es k y) ≡ join output_at_cmp (map (at_epoch k) (f y)) (bag es)
  put_in k [] y found = first k y []
  put_in k (e ∷ es) y found = by (nat_cmp k e.0) refl found (λ later. put_in k es y later)
    where
      by : (o : Ordering) → nat_cmp k e.0 ≡ o → None ≡ cond (is_eq o) (Some e.1) (lookup (is_at (nat_cmp k)) es)
          → (None ≡ lookup (is_at (nat_cmp k)) es → bag (insert_entry nat_cmp es k y) ≡ join output_at_cmp (map (at_epoch k) (f y)) (bag es))
          → bag (match_ordering o ((k, y) ∷ e ∷ es) ((e.0, y) ∷ es) (e ∷ insert_entry nat_cmp es k y)) ≡ join output_at_cmp (map (at_epoch k) (f y)) (bag (e ∷ es))
      by Less is found later = first k y (e ∷ es)
      by Equal is found later = absurd (none_is_some found)
      by Greater is found later = more_later e.0 e.1 (map (at_epoch k) (f y)) es (insert_entry nat_cmp es k y) (later found)

  two : (p : OutputAt → Bool) (xs ys : List OutputAt) → filter p (xs ++ ys) ≡ filter p xs ++ filter p ys
  two p [] ys = refl
  two p (x ∷ xs) ys = by (p x) (two p xs ys)
    where
      by : (b : Bool) → filter p (xs ++ ys) ≡ filter p xs ++ filter p ys → cond b (x ∷ filter p (xs ++ ys)) (filter p (xs ++ ys)) ≡ cond b (x ∷ filter p xs) (filter p xs) ++ filter p ys
      by true e = ap (λ l. x ∷ l) e
      by false e = e

  -- the outputs of the epochs that pass a test are those of the entries that do
  of_epoch : (q : ℕ → Bool) (k : ℕ) (xs : List Output) → filter (λ o. q o.epoch) (map (at_epoch k) xs) ≡ cond (q k) (map (at_epoch k) xs) []
  of_epoch q k [] = by (q k)
    where
      by : (b : Bool) → ◌≡◌ {A = List OutputAt} [] (cond b [] [])
      by true = refl
      by false = refl
  of_epoch q k (x ∷ xs) = by (q k) (of_epoch q k xs)
    where
      by : (b : Bool) → filter (λ o. q o.epoch) (map (at_epoch k) xs) ≡ cond b (map (at_epoch k) xs) []
          → cond b (at_epoch k x ∷ filter (λ o. q o.epoch) (map (at_epoch k) xs)) (filter (λ o. q o.epoch) (map (at_epoch k) xs)) ≡ cond b (at_epoch k x ∷ map (at_epoch k) xs) []
      by true e = ap (λ l. at_epoch k x ∷ l) e
      by false e = e

  of_epochs : (q : ℕ → Bool) (es : List (ℕ × V)) → filter (λ o. q o.epoch) (all_of es) ≡ all_of (filter (λ e. q e.0) es)
  of_epochs q [] = refl
  of_epochs q (e ∷ es) =
      two (λ o. q o.epoch) (map (at_epoch e.0) (f e.1)) (all_of es) ∙ (ap (λ l. l ++ filter (λ o. q o.epoch) (all_of es)) (of_epoch q e.0 (f e.1)) ∙ by (q e.0) (of_epochs q es))
    where
      by : (b : Bool) → filter (λ o. q o.epoch) (all_of es) ≡ all_of (filter (λ e. q e.0) es)
          → cond b (map (at_epoch e.0) (f e.1)) [] ++ filter (λ o. q o.epoch) (all_of es) ≡ all_of (cond b (e ∷ filter (λ e. q e.0) es) (filter (λ e. q e.0) es))
      by true g = ap (λ l. map (at_epoch e.0) (f e.1) ++ l) g
      by false g = g

  pub those : (q : ℕ → Bool) (es : List (ℕ × V)) → filter (λ o. q o.epoch) (bag es) ≡ bag (filter (λ e. q e.0) es)
  those q es = laws.filtered_join (λ o. q o.epoch) (all_of es) [] refl ∙ ap (bag_of output_at_cmp) (of_epochs q es)

  -- of one epoch they stand in the order of outputs
  pub taken : (k : ℕ) (es : List (ℕ × V)) → (x : V) → filter (λ e. e.0 == k) es ≡ (k, x) ∷ [] → came_at k (bag es) ≡ bag_of output_cmp (f x)
  taken k es x e =
      ap (map (λ o. o.output)) (those (λ n. n == k) es ∙ ap bag e ∙ first k x [])
      ∙ (ap (map (λ o. o.output)) (in_order k (f x)) ∙ unmapped k (bag_of output_cmp (f x)))

  pub none_taken : (k : ℕ) (es : List (ℕ × V)) → filter (λ e. e.0 == k) es ≡ [] → came_at k (bag es) ≡ []
  none_taken k es e = ap (map (λ o. o.output)) (those (λ n. n == k) es ∙ ap bag e)

pub each_at : (k v : ℕ) (rs : List Rec) → map (at_epoch k) (map (output_of v) rs) ≡ map (output_at k v) rs
each_at k v [] = refl
each_at k v (r ∷ rs) = ap (λ l. output_at k v r ∷ l) (each_at k v rs)

abbrev same_epoch : ℕ → ℕ → Bool
same_epoch = eq_by_cmp nat_cmp

epochs-equiv : IsEquivalence same_epoch
epochs-equiv = eq_by_cmp_equiv nat_cmp_total

module _ {V : Type 0} where
  distinct_tail : (e : ℕ × V) (es : List (ℕ × V)) → IsDistinct same_epoch (keys_of (e ∷ es)) → IsDistinct same_epoch (keys_of es)
  unfolding IsDistinct
  distinct_tail e es h = h.1

  -- where no key is k
  kept_all : (k : ℕ) (es : List (ℕ × V)) → NonePasses (is_at (nat_cmp k)) es → (filter (λ e. not (e.0 == k)) es ≡ es) × (filter (λ e. e.0 == k) es ≡ [])
  kept_all k [] none = (refl, refl)
  kept_all k (e ∷ es) none =
      let rest = kept_all k es none.1 in
      let apart = same_tests k e.0 ∙ none.0 in (
        ap (λ b. cond (not b) (e ∷ filter (λ e. not (e.0 == k)) es) (filter (λ e. not (e.0 == k)) es)) apart ∙ ap (λ l. e ∷ l) rest.0,
        ap (λ b. cond b (e ∷ filter (λ e. e.0 == k) es) (filter (λ e. e.0 == k) es)) apart ∙ rest.1,
      )

  -- what a look-up finds
  abbrev pub found_at : ℕ → Option V → List (ℕ × V)
  found_at k None = []
  found_at k (Some x) = (k, x) ∷ []

  parted : (k : ℕ) (es : List (ℕ × V)) → IsDistinct same_epoch (keys_of es)
      → (remove_entry (is_at (nat_cmp k)) es ≡ filter (λ e. not (e.0 == k)) es) × (filter (λ e. e.0 == k) es ≡ found_at k (lookup (is_at (nat_cmp k)) es))
  parted k [] once = (refl, refl)
  parted k (e ∷ es) once = by (is_at (nat_cmp k) e.0) refl (parted k es (distinct_tail e es once))
    where
      by : (b : Bool) → is_at (nat_cmp k) e.0 ≡ b
          → (remove_entry (is_at (nat_cmp k)) es ≡ filter (λ e. not (e.0 == k)) es) × (filter (λ e. e.0 == k) es ≡ found_at k (lookup (is_at (nat_cmp k)) es))
          → (cond b es (e ∷ remove_entry (is_at (nat_cmp k)) es) ≡ filter (λ e. not (e.0 == k)) (e ∷ es)) × (filter (λ e. e.0 == k) (e ∷ es) ≡ found_at k (cond b (Some e.1) (lookup (is_at (nat_cmp k)) es)))
      by true same later =
          let none = kept_all k es (none_past_head epochs-equiv k e es once same) in
          let here = same_tests k e.0 ∙ same in (
            sym (ap (λ b. cond (not b) (e ∷ filter (λ e. not (e.0 == k)) es) (filter (λ e. not (e.0 == k)) es)) here ∙ none.0),
            ap (λ b. cond b (e ∷ filter (λ e. e.0 == k) es) (filter (λ e. e.0 == k) es)) here ∙ (ap (λ l. e ∷ l) none.1 ∙ ap (λ n. (n, e.1) ∷ []) (same_is k e.0 same)),
          )
      by false other later =
          let apart = same_tests k e.0 ∙ other in (
            sym (ap (λ b. cond (not b) (e ∷ filter (λ e. not (e.0 == k)) es) (filter (λ e. not (e.0 == k)) es)) apart ∙ ap (λ l. e ∷ l) (sym later.0)),
            ap (λ b. cond b (e ∷ filter (λ e. e.0 == k) es) (filter (λ e. e.0 == k) es)) apart ∙ later.1,
          )

  pub removed : (k : ℕ) (es : List (ℕ × V)) → IsStrictlySortedBy nat_cmp (keys_of es) → remove_entry (is_at (nat_cmp k)) es ≡ filter (λ e. not (e.0 == k)) es
  removed k es h = (parted k es (IsDistinct-from_sorted nat_cmp (keys_of es) h)).0

  pub found : (k : ℕ) (es : List (ℕ × V)) → IsStrictlySortedBy nat_cmp (keys_of es) → filter (λ e. e.0 == k) es ≡ found_at k (lookup (is_at (nat_cmp k)) es)
  found k es h = (parted k es (IsDistinct-from_sorted nat_cmp (keys_of es) h)).1
