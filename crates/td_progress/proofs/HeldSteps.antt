-- What the code of held pointstamps does to its map, in the words of its contracts.
use Rattle.std.proofs.Common.{◌≡◌, ℕ, zero, suc, ◌+◌, ◌<◌, Bool, true, false, not, ◌&&◌, cond, length, position, nat_lt, List, [], ◌∷◌, slice_get, Option, Some, None, is_some, is_none, unwrap_or, Result, Ok, Err, refl, sym, ap, ◌∙◌, subst, true≢false, arith}
use Rattle.std.specs.Result.{OnOk, OnErr}
use Rattle.std.specs.List.{AllByRecursion, IsDistinct, position_or_len}
use Rattle.std.specs.Map.{keys_of, values_of, lookup, set_value}
use Rattle.indexmap.specs.IndexMap.{insert_entry, set_value_at}
use Rattle.td_plan.specs.Lines.{Line}
use Rattle.td_reach.specs.declared.stamp.Stamp.{Stamp}
use Rattle.td_reach.specs.Tables.{could_test}
use Rattle.td_progress.specs.Bag.{is_stamp}
use Rattle.td_progress.specs.Gaps.{Mark, timed, first_from, changed_from, with_epoch, without_epoch}
use Rattle.td_progress.specs.Held.{with_stamp, without_stamp, timed_stamp, shifted_at, changed_in, is_ahead, chain_at, gaps_at, IsPosition}
use Rattle.td_progress.proofs.Same.{Decides-is_stamp, is_stamp-equiv}
use Rattle.td_progress.proofs.Counted.{none_is_some}
use Rattle.td_progress.proofs.Gaps.{Gaps, le_is}
use Rattle.td_progress.proofs.ChainSteps.{none_from}
use Rattle.td_progress.proofs.Between.{Chains}

pub on_ok : {T E P Q : Type 0} (r : Result T E) → (P → Q) → OnOk r P → OnOk r Q
on_ok (Ok x) f p = f p
on_ok (Err e) f p = tt

pub on_ok_any : {T E P : Type 0} (r : Result T E) → P → OnOk r P
on_ok_any (Ok x) p = p
on_ok_any (Err e) p = tt

pub on_err : {T E P Q : Type 0} (r : Result T E) → (P → Q) → OnErr r P → OnErr r Q
on_err (Ok x) f p = tt
on_err (Err e) f p = f p

same_gaps : {a b : Gaps} → Some a ≡ Some b → a ≡ b
same_gaps {a} e = ap (λ o. unwrap_or o a) e

no_some : {X : Type 0} {x : X} → Some x ≡ None → ⊥
no_some e = none_is_some (sym e)

module _ (c : Stamp) (e : ℕ) (n : Mark) where
  pub set_with : (es : Chains) (v : Gaps) → Some v ≡ lookup (is_stamp c) es → set_value (is_stamp c) es (with_epoch e n v) ≡ with_stamp c e n es
  set_with [] v h = absurd (no_some h)
  set_with (k ∷ es) v h = by (is_stamp c k.0) (set_with es v) h
    where
      by : (b : Bool) → (Some v ≡ lookup (is_stamp c) es → set_value (is_stamp c) es (with_epoch e n v) ≡ with_stamp c e n es) → Some v ≡ cond b (Some k.1) (lookup (is_stamp c) es)
          → cond b ((k.0, with_epoch e n v) ∷ es) (k ∷ set_value (is_stamp c) es (with_epoch e n v)) ≡ cond b ((k.0, with_epoch e n k.1) ∷ es) (k ∷ with_stamp c e n es)
      by true rest i = ap (λ g. (k.0, with_epoch e n g) ∷ es) (same_gaps i)
      by false rest i = ap (λ r. k ∷ r) (rest i)

  pub insert_new : (es : Chains) → None ≡ lookup (is_stamp c) es → insert_entry is_stamp es c (with_epoch e n []) ≡ with_stamp c e n es
  insert_new [] h = refl
  insert_new (k ∷ es) h = by (is_stamp c k.0) (insert_new es) h
    where
      by : (b : Bool) → (None ≡ lookup (is_stamp c) es → insert_entry is_stamp es c (with_epoch e n []) ≡ with_stamp c e n es) → None ≡ cond b (Some k.1) (lookup (is_stamp c) es)
          → cond b ((k.0, with_epoch e n []) ∷ es) (k ∷ insert_entry is_stamp es c (with_epoch e n [])) ≡ cond b ((k.0, with_epoch e n k.1) ∷ es) (k ∷ with_stamp c e n es)
      by true rest i = absurd (none_is_some i)
      by false rest i = ap (λ r. k ∷ r) (rest i)

module _ (c : Stamp) (e : ℕ) where
  pub set_without : (es : Chains) (v : Gaps) → Some v ≡ lookup (is_stamp c) es → set_value (is_stamp c) es (without_epoch e v) ≡ without_stamp c e es
  set_without [] v h = absurd (no_some h)
  set_without (k ∷ es) v h = by (is_stamp c k.0) (set_without es v) h
    where
      by : (b : Bool) → (Some v ≡ lookup (is_stamp c) es → set_value (is_stamp c) es (without_epoch e v) ≡ without_stamp c e es) → Some v ≡ cond b (Some k.1) (lookup (is_stamp c) es)
          → cond b ((k.0, without_epoch e v) ∷ es) (k ∷ set_value (is_stamp c) es (without_epoch e v)) ≡ cond b ((k.0, without_epoch e k.1) ∷ es) (k ∷ without_stamp c e es)
      by true rest i = ap (λ g. (k.0, without_epoch e g) ∷ es) (same_gaps i)
      by false rest i = ap (λ r. k ∷ r) (rest i)

both_hold : (a b : Bool) → (a && b) ≡ true → b ≡ true
both_hold true b h = h
both_hold false b h = absurd (true≢false (sym h))

module _ (plan : List Line) (c : Stamp) (e : ℕ) (f : ℕ → ℕ) where
  pub set_shifted : (es : Chains) (i : ℕ) (v : Gaps) → Some v ≡ slice_get (values_of es) i → is_ahead plan c e (slice_get es i) ≡ true
      → set_value_at es i (changed_from e f v) ≡ shifted_at plan c e f i es
  set_shifted [] i v at ahead = absurd (no_some at)
  set_shifted (k ∷ es) zero v at ahead =
      let could = both_hold (is_some (first_from e k.1)) (could_test plan c k.0) ahead in
      (λ j. (k.0, changed_from e f (same_gaps at j)) ∷ es) ∙ sym (ap (λ b. (k.0, cond b (changed_from e f k.1) k.1) ∷ es) could)
  set_shifted (k ∷ es) (suc i) v at ahead = ap (λ r. k ∷ r) (set_shifted es i v at ahead)

  pub none_shifted : (es : Chains) (i : ℕ) → None ≡ slice_get (values_of es) i → es ≡ shifted_at plan c e f i es
  none_shifted [] i at = refl
  none_shifted (k ∷ es) zero at = absurd (none_is_some at)
  none_shifted (k ∷ es) (suc i) at = ap (λ r. k ∷ r) (none_shifted es i at)

  pub not_shifted : (es : Chains) (i : ℕ) → is_ahead plan c e (slice_get es i) ≡ false → es ≡ shifted_at plan c e f i es
  not_shifted [] i ahead = refl
  not_shifted (k ∷ es) zero ahead = ap (λ g. (k.0, g) ∷ es) (by (could_test plan c k.0) (first_from e k.1) refl ahead)
    where
      by : (b : Bool) (o : Option ℕ) → first_from e k.1 ≡ o → (is_some o && b) ≡ false → k.1 ≡ cond b (changed_from e f k.1) k.1
      by false o is h = refl
      by true None is h = sym (none_from e f k.1 is)
      by true (Some x) is h = absurd (true≢false h)
  not_shifted (k ∷ es) (suc i) ahead = ap (λ r. k ∷ r) (not_shifted es i ahead)

module _ (e : ℕ) (f : ℕ → ℕ) where
  pub set_changed : (es : Chains) (i : ℕ) (v : Gaps) → Some v ≡ slice_get (values_of es) i → set_value_at es i (changed_from e f v) ≡ changed_in e f i es
  set_changed [] i v at = absurd (no_some at)
  set_changed (k ∷ es) zero v at = ap (λ g. (k.0, changed_from e f g) ∷ es) (same_gaps at)
  set_changed (k ∷ es) (suc i) v at = ap (λ r. k ∷ r) (set_changed es i v at)

  pub none_changed : (es : Chains) (i : ℕ) → None ≡ slice_get (values_of es) i → es ≡ changed_in e f i es
  none_changed [] i at = refl
  none_changed (k ∷ es) zero at = absurd (none_is_some at)
  none_changed (k ∷ es) (suc i) at = ap (λ r. k ∷ r) (none_changed es i at)

pub same_position : (k d : Stamp) (es ks : Chains) (o : Option ℕ) → k ≡ d → es ≡ ks → IsPosition d ks o → IsPosition k es o
same_position k d es ks o is view at = subst (λ s. IsPosition s es o) (sym is) (subst (λ js. IsPosition d js o) (sym view) at)

-- At a position: the place and counters of a key stand there once
module _ (c : Stamp) where
  own_key : {x : Stamp} → Some x ≡ Some c → is_stamp c x ≡ true
  own_key {x} e = (Decides-is_stamp c x).1 (sym (ap (λ o. unwrap_or o x) e))

  all_keys : (P : Stamp → Type 0) (xs : List Stamp) → AllByRecursion P xs → (i : ℕ) → slice_get xs i ≡ Some c → P c
  all_keys P [] h i at = absurd (none_is_some at)
  all_keys P (x ∷ xs) h zero at = subst P (ap (λ o. unwrap_or o x) at) h.0
  all_keys P (x ∷ xs) h (suc i) at = all_keys P xs h.1 i at

  another_key : (k : Stamp × Gaps) (es : Chains) (i : ℕ) → IsDistinct is_stamp (keys_of (k ∷ es)) → slice_get (keys_of es) i ≡ Some c → is_stamp c k.0 ≡ false
  unfolding IsDistinct
  another_key k es i once at = is_stamp-equiv.symm c k.0 ∙ all_keys (λ s. is_stamp k.0 s ≡ false) (keys_of es) once.0 i at

  others_once : (k : Stamp × Gaps) (es : Chains) → IsDistinct is_stamp (keys_of (k ∷ es)) → IsDistinct is_stamp (keys_of es)
  unfolding IsDistinct
  others_once k es once = once.1

  pub found_at : (es : Chains) (i : ℕ) → IsDistinct is_stamp (keys_of es) → slice_get (keys_of es) i ≡ Some c → lookup (is_stamp c) es ≡ slice_get (values_of es) i
  found_at [] i once at = absurd (none_is_some at)
  found_at (k ∷ es) zero once at = ap (λ b. cond b (Some k.1) (lookup (is_stamp c) es)) (own_key at)
  found_at (k ∷ es) (suc i) once at =
      ap (λ b. cond b (Some k.1) (lookup (is_stamp c) es)) (another_key k es i once at) ∙ found_at es i (others_once k es once) at

  pub set_at : (es : Chains) (i : ℕ) (w : Gaps) → IsDistinct is_stamp (keys_of es) → slice_get (keys_of es) i ≡ Some c → set_value_at es i w ≡ set_value (is_stamp c) es w
  set_at [] i w once at = absurd (none_is_some at)
  set_at (k ∷ es) zero w once at = sym (ap (λ b. cond b ((k.0, w) ∷ es) (k ∷ set_value (is_stamp c) es w)) (own_key at))
  set_at (k ∷ es) (suc i) w once at =
      ap (λ r. k ∷ r) (set_at es i w (others_once k es once) at) ∙ sym (ap (λ b. cond b ((k.0, w) ∷ es) (k ∷ set_value (is_stamp c) es w)) (another_key k es i once at))

  pub gaps_found : (es : Chains) (o : Option ℕ) → IsDistinct is_stamp (keys_of es) → IsPosition c es o → gaps_at o es ≡ chain_at c es
  gaps_found es None once at = ap (λ o. unwrap_or o []) (sym at)
  gaps_found es (Some i) once at = ap (λ o. unwrap_or o []) (sym (found_at es i once at))

  pub set_timed : (e : ℕ) (f : ℕ → ℕ) (es : Chains) (v : Gaps) → Some v ≡ lookup (is_stamp c) es → set_value (is_stamp c) es (timed e f v) ≡ timed_stamp c e f es
  set_timed e f [] v h = absurd (no_some h)
  set_timed e f (k ∷ es) v h = by (is_stamp c k.0) (set_timed e f es v) h
    where
      by : (b : Bool) → (Some v ≡ lookup (is_stamp c) es → set_value (is_stamp c) es (timed e f v) ≡ timed_stamp c e f es) → Some v ≡ cond b (Some k.1) (lookup (is_stamp c) es)
          → cond b ((k.0, timed e f v) ∷ es) (k ∷ set_value (is_stamp c) es (timed e f v)) ≡ cond b ((k.0, timed e f k.1) ∷ es) (k ∷ timed_stamp c e f es)
      by true rest i = ap (λ g. (k.0, timed e f g) ∷ es) (same_gaps i)
      by false rest i = ap (λ r. k ∷ r) (rest i)

  -- the first that passes, where one does
  first_found : (xs : List Stamp) → position_or_len (is_stamp c) xs < length xs → slice_get xs (position_or_len (is_stamp c) xs) ≡ Some c
  first_found [] h = absurd (omega (arith, h))
  first_found (x ∷ xs) h = by (is_stamp c x) refl h (first_found xs)
    where
      by : (b : Bool) → is_stamp c x ≡ b → cond (not b) (1 + position_or_len (is_stamp c) xs) 0 < suc (length xs) → (position_or_len (is_stamp c) xs < length xs → slice_get xs (position_or_len (is_stamp c) xs) ≡ Some c)
          → slice_get (x ∷ xs) (cond (not b) (1 + position_or_len (is_stamp c) xs) 0) ≡ Some c
      by true same l rest = ap Some (sym ((Decides-is_stamp c x).0 same))
      by false other l rest =
          let next : suc (position_or_len (is_stamp c) xs) ≡ 1 + position_or_len (is_stamp c) xs = omega arith in
          subst (λ j. slice_get (x ∷ xs) j ≡ Some c) next (rest (omega (arith, l)))

  position_found : (xs : List Stamp) (i : ℕ) → Some i ≡ position (is_stamp c) xs → slice_get xs i ≡ Some c
  position_found xs i h = by (nat_lt (position_or_len (is_stamp c) xs) (length xs)) refl h
    where
      by : (b : Bool) → nat_lt (position_or_len (is_stamp c) xs) (length xs) ≡ b → Some i ≡ cond b (Some (position_or_len (is_stamp c) xs)) None → slice_get xs i ≡ Some c
      by true l s = subst (λ j. slice_get xs j ≡ Some c) (sym (ap (λ o. unwrap_or o i) s)) (first_found xs (le_is (suc (position_or_len (is_stamp c) xs)) (length xs) l))
      by false l s = absurd (none_is_some (sym s))

  pub position_is : (es : Chains) (o : Option ℕ) → o ≡ position (is_stamp c) (keys_of es) → is_some o ≡ is_some (lookup (is_stamp c) es) → IsPosition c es o
  position_is es None is there = by (lookup (is_stamp c) es) there
    where
      by : (o : Option Gaps) → false ≡ is_some o → o ≡ None
      by None h = refl
      by (Some v) h = absurd (true≢false (sym h))
  position_is es (Some i) is there = position_found (keys_of es) i is

  -- a value that is put back, and a position where nothing stands
  pub set_same : (es : Chains) (i : ℕ) (v : Gaps) → Some v ≡ slice_get (values_of es) i → set_value_at es i v ≡ es
  set_same [] i v h = absurd (no_some h)
  set_same (k ∷ es) zero v h = ap (λ g. (k.0, g) ∷ es) (same_gaps h)
  set_same (k ∷ es) (suc i) v h = ap (λ r. k ∷ r) (set_same es i v h)

  pub nowhere : (es : Chains) (i : ℕ) → slice_get (keys_of es) i ≡ Some c → None ≡ slice_get (values_of es) i → ⊥
  nowhere [] i at none = none_is_some at
  nowhere (k ∷ es) zero at none = none_is_some none
  nowhere (k ∷ es) (suc i) at none = nowhere es i at none

  pub keys_set : (es : Chains) (i : ℕ) (v : Gaps) → keys_of (set_value_at es i v) ≡ keys_of es
  keys_set [] i v = refl
  keys_set (k ∷ es) zero v = refl
  keys_set (k ∷ es) (suc i) v = ap (λ r. k.0 ∷ r) (keys_set es i v)

  pub none_at : (es : Chains) → IsPosition c es None → None ≡ lookup (is_stamp c) es
  none_at es at = sym at

  pub empty_there : (es : Chains) (i : ℕ) → IsDistinct is_stamp (keys_of es) → slice_get (keys_of es) i ≡ Some c → chain_at c es ≡ [] → slice_get (values_of es) i ≡ Some []
  empty_there es i once at empty = by (slice_get (values_of es) i) refl
    where
      by : (o : Option Gaps) → slice_get (values_of es) i ≡ o → o ≡ Some []
      by None is = absurd (nowhere es i at (sym is))
      by (Some v) is = ap Some (ap (λ o. unwrap_or o []) (sym (found_at es i once at ∙ is)) ∙ empty)

pub some_unless : {X : Type 0} (o : Option X) → is_none o ≡ false → is_some o ≡ true
some_unless None h = absurd (true≢false h)
some_unless (Some x) h = refl
