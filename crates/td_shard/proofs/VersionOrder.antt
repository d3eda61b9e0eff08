-- Versions in order: the last of them, and those up to an epoch.
use Rattle.std.proofs.Common.{◌≡◌, ℕ, suc, ◌-◌, ◌<◌, ◌≤◌, Bool, true, false, cond, nat_le, nat_lt, List, [], ◌∷◌, length, get_or, position, fold, filter, drop, Some, None, arith, refl, ap, sym, ◌∙◌, subst}
use Rattle.std.specs.Bool.{then_some}
use Rattle.std.specs.List.{AllByRecursion, position_or_len, slice_get}
use Rattle.std.specs.List.Sorted.{IsPartitionedBy, IsPartitionPoint}
use Rattle.std.specs.declared.cmp.Ordering.{Ordering}
use Rattle.std.specs.declared.cmp.Ordering.TheVariants.{Less, Equal, Greater}
use Rattle.std.specs.Ordering.{MatchOrdering, is_eq, is_gt, nat_cmp, ordering_reverse, ordering_then}
use Rattle.std.specs.Option.{option_cmp}
use Rattle.std.proofs.lemmas.Bool.{lt-ltb, le-ltb}
use Rattle.std.proofs.lemmas.Cmp.{ranked}
use Rattle.std.proofs.lemmas.List.Elements.{All-from_recursion}
use Rattle.std.proofs.lemmas.List.Sorted.{IsPartitionedBy-leb}
use Rattle.td_stamp.specs.Rises.{Rises}
use Rattle.td_machine.specs.State.{state_cmp}
use Rattle.td_shard.specs.declared.versions.Version.{Version}
use Rattle.td_shard.specs.Versions.{version_cmp, later, latest, up_to}
use Rattle.td_shard.proofs.LeftOrders.{version_total, version_apart}
use Rattle.td_shard.proofs.Rising.{IsPlace, last-pass, rises-filter, rises-at, found-at, found-nowhere}

-- THE LAST of some versions in order is the latest
later-one : (x y : Version) → is_gt (version_cmp x y) ≡ false → later (Some x) y ≡ Some y
later-one x y e = by (version_cmp y x) refl
  where
    by : (o : Ordering) → version_cmp y x ≡ o → Some (cond (is_gt o) y x) ≡ Some y
    by Greater f = refl
    by Equal f = ap Some (sym (version_apart y x f))
    by Less f = let no : true ≡ false = sym (ap is_gt (version_total.antisymm x y ∙ ap ordering_reverse f)) ∙ e in cc

latest-from : (x : Version) (vs : List Version) → Rises version_cmp (x ∷ vs) → fold later (Some x) vs ≡ slice_get (x ∷ vs) (length vs)
latest-from x [] r = refl
latest-from x (y ∷ vs) r = ap (λ o. fold later o vs) (later-one x y r.0.0) ∙ latest-from y vs r.1

pub latest-last : (vs : List Version) → Rises version_cmp vs → latest vs ≡ slice_get vs (length vs - 1)
latest-last [] r = refl
latest-last (x ∷ vs) r = let n : length vs ≡ length (x ∷ vs) - 1 = omega arith in latest-from x vs r ∙ ap (slice_get (x ∷ vs)) n

pub latest-up_to : (vs some : List Version) (epoch : ℕ) → Rises version_cmp vs → some ≡ up_to epoch vs → slice_get some (length some - 1) ≡ latest (up_to epoch vs)
latest-up_to vs some epoch r e =
    ap (λ l. slice_get l (length l - 1)) e ∙ sym (latest-last (up_to epoch vs) (rises-filter version_cmp (λ v. nat_le v.epoch epoch) vs r))

-- WHERE A VERSION STANDS, by the place for it
one-position : {X : Type 0} (p : X → Bool) (xs : List X) (n : ℕ) → n < length xs → position_or_len p xs ≡ n → position p xs ≡ Some n
one-position p xs n h e = λ i. cond ((ap (λ k. nat_lt k (length xs)) e ∙ lt-ltb n (length xs) h) i) (Some (e i)) None

no-position : {X : Type 0} (p : X → Bool) (xs : List X) → position_or_len p xs ≡ length xs → position p xs ≡ None
no-position p xs e = ap (λ b. cond b (Some (position_or_len p xs)) None) (ap (λ k. nat_lt k (length xs)) e ∙ le-ltb (length xs) (length xs) (omega arith))

pub stands-nowhere : (v : Version) (vs : List Version) (n : ℕ) → Rises version_cmp vs → IsPlace version_cmp version_total v vs n → length vs ≤ n
    → position (λ k. is_eq (version_cmp v k)) vs ≡ None
stands-nowhere v vs n r w l =
    no-position (λ k. is_eq (version_cmp v k)) vs (found-nowhere version_cmp version_total version_apart v vs n v r w (λ h. absurd (omega (arith, h, l))))

pub stands-there : (v kept : Version) (vs : List Version) (n : ℕ) → Rises version_cmp vs → IsPlace version_cmp version_total v vs n → n < length vs → kept ≡ get_or vs n kept
    → then_some (is_eq (version_cmp v kept)) n ≡ position (λ k. is_eq (version_cmp v k)) vs
stands-there v kept vs n r w h is = by (version_cmp v kept) refl
  where
    nowhere : is_eq (version_cmp v kept) ≡ false → None ≡ position (λ k. is_eq (version_cmp v k)) vs
    nowhere e =
        sym (no-position (λ k. is_eq (version_cmp v k)) vs
        (found-nowhere version_cmp version_total version_apart v vs n kept r w (λ b. ap (λ k. is_eq (version_cmp v k)) (sym is) ∙ e)))

    by : (o : Ordering) → version_cmp v kept ≡ o → then_some (is_eq o) n ≡ position (λ k. is_eq (version_cmp v k)) vs
    by Less e = nowhere (ap is_eq e)
    by Greater e = nowhere (ap is_eq e)
    by Equal e =
        sym (one-position (λ k. is_eq (version_cmp v k)) vs n h (found-at version_cmp version_total v vs n kept h w (ap (version_cmp v) (sym is) ∙ e)))

-- THE EPOCHS of versions in order do not fall
epochs-in_order : (x y : Version) → is_gt (version_cmp x y) ≡ false → x.epoch ≤ y.epoch
epochs-in_order x y e = by (nat_cmp x.epoch y.epoch) (ranked x.epoch y.epoch (nat_cmp x.epoch y.epoch) refl) e
  where
    by : (o : Ordering) → MatchOrdering o (x.epoch < y.epoch) (x.epoch ≡ y.epoch) (y.epoch < x.epoch) → is_gt (ordering_then o (option_cmp state_cmp x.state y.state)) ≡ false → x.epoch ≤ y.epoch
    by Less h f = omega (arith, h)
    by Equal h f = omega (arith, h)
    by Greater h f = cc

pub epochs-parted : (vs : List Version) (epoch : ℕ) → Rises version_cmp vs → IsPartitionedBy (λ v. nat_le v.epoch epoch) vs
epochs-parted vs epoch r = IsPartitionedBy-leb (λ v. v.epoch) vs epoch (λ i j d le h. epochs-in_order (get_or vs i d) (get_or vs j d) (rises-at version_cmp version_total vs r i j d le h))

pub others-after : (vs : List Version) (epoch n : ℕ) → n ≤ length vs → IsPartitionPoint (λ v. nat_le v.epoch epoch ≡ true) (λ v. nat_le v.epoch epoch ≡ false) vs n
    → drop n vs ≡ filter (λ v. nat_lt epoch v.epoch) vs
others-after vs epoch n l w =
    last-pass (λ v. nat_lt epoch v.epoch) vs n l (
      λ k d a b. not-lt _ epoch (w.0 k d a b),
      λ k d a b. lt _ epoch (w.1 k d a b),
    )
  where
    not-lt : (e epoch : ℕ) → nat_le e epoch ≡ true → nat_lt epoch e ≡ false
    not-lt e epoch h = grind arith

    lt : (e epoch : ℕ) → nat_le e epoch ≡ false → nat_lt epoch e ≡ true
    lt e epoch h = grind arith

-- ALL ARE UP TO AN EPOCH where the last is
pub all-up_to : (vs : List Version) (last : Version) (epoch : ℕ) → Rises version_cmp vs → slice_get vs (length vs - 1) ≡ Some last → last.epoch ≤ epoch → AllByRecursion (λ (v : Version). v.epoch ≤ epoch) vs
all-up_to [] last epoch r e h = tt
all-up_to (v ∷ []) last epoch r e h = let same : v ≡ last = cc in (subst (λ (w : Version). w.epoch ≤ epoch) (sym same) h, tt)
all-up_to (v ∷ w ∷ vs) last epoch r e h =
    let n : length (v ∷ w ∷ vs) - 1 ≡ suc (length (w ∷ vs) - 1) = omega arith in
    let later = all-up_to (w ∷ vs) last epoch r.1 (sym (ap (slice_get (v ∷ w ∷ vs)) n) ∙ e) h in
    let first = epochs-in_order v w r.0.0 in
    let next = later.0 in
    (omega (arith, first, next), later)

pub last-up_to : (vs : List Version) (last : Version) (epoch : ℕ) → slice_get vs (length vs - 1) ≡ Some last → AllByRecursion (λ (v : Version). v.epoch ≤ epoch) vs → last.epoch ≤ epoch
last-up_to [] last epoch e h = absurd (cc)
last-up_to (v ∷ []) last epoch e h = let same : v ≡ last = cc in subst (λ (w : Version). w.epoch ≤ epoch) same h.0
last-up_to (v ∷ w ∷ vs) last epoch e h =
    let n : length (v ∷ w ∷ vs) - 1 ≡ suc (length (w ∷ vs) - 1) = omega arith in
    last-up_to (w ∷ vs) last epoch (sym (ap (slice_get (v ∷ w ∷ vs)) n) ∙ e) h.1

last-there : (v : Version) (vs : List Version) → slice_get (v ∷ vs) (length (v ∷ vs) - 1) ≡ None → ⊥
last-there v [] e = cc
last-there v (w ∷ vs) e = let n : length (v ∷ w ∷ vs) - 1 ≡ suc (length (w ∷ vs) - 1) = omega arith in last-there w vs (sym (ap (slice_get (v ∷ w ∷ vs)) n) ∙ e)

-- so are none
pub none-up_to : (vs : List Version) (epoch : ℕ) → slice_get vs (length vs - 1) ≡ None → AllByRecursion (λ (v : Version). v.epoch ≤ epoch) vs
none-up_to [] epoch e = tt
none-up_to (v ∷ vs) epoch e = absurd (last-there v vs e)

-- so they are all before its end
pub up_to-all : (vs : List Version) (epoch : ℕ) → AllByRecursion (λ (v : Version). v.epoch ≤ epoch) vs → up_to epoch vs ≡ vs
up_to-all [] epoch h = refl
up_to-all (v ∷ vs) epoch h = let yes : nat_le v.epoch epoch ≡ true = grind (arith, h.0) in λ i. cond (yes i) (v ∷ up_to-all vs epoch h.1 i) (up_to-all vs epoch h.1 i)

pub after-none : (vs : List Version) (epoch : ℕ) → AllByRecursion (λ (v : Version). v.epoch ≤ epoch) vs → filter (λ (v : Version). nat_lt epoch v.epoch) vs ≡ []
after-none [] epoch h = refl
after-none (v ∷ vs) epoch h = let no : nat_lt epoch v.epoch ≡ false = grind (arith, h.0) in λ i. cond (no i) (v ∷ after-none vs epoch h.1 i) (after-none vs epoch h.1 i)

-- and a version of a later epoch stands behind them
later_than : (v w : Version) → w.epoch < v.epoch → version_cmp v w ≡ Greater
later_than v w h = by (nat_cmp v.epoch w.epoch) (ranked v.epoch w.epoch (nat_cmp v.epoch w.epoch) refl)
  where
    by : (o : Ordering) → MatchOrdering o (v.epoch < w.epoch) (v.epoch ≡ w.epoch) (w.epoch < v.epoch) → ordering_then o (option_cmp state_cmp v.state w.state) ≡ Greater
    by Less k = absurd (omega (arith, h, k))
    by Equal k = absurd (omega (arith, h, k))
    by Greater k = refl

pub behind_all : (v : Version) (vs : List Version) (epoch : ℕ) → epoch < v.epoch → AllByRecursion (λ (w : Version). w.epoch ≤ epoch) vs → IsPlace version_cmp version_total v vs (length vs)
behind_all v vs epoch l h = (
  λ k d a b. let here = All-from_recursion (λ (w : Version). w.epoch ≤ epoch) vs h k d b in later_than v (get_or vs k d) (omega (arith, here, l)),
  λ k d a b. absurd (omega (arith, a, b)),
)
