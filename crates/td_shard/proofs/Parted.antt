-- A task and what is left.
use Rattle.std.proofs.Common.{◌≡◌, ℕ, zero, suc, ◌<◌, ◌≤◌, ◌⊎◌, inl, inr, List, [], ◌∷◌, ◌++◌, length, filter, take, Bool, true, false, cond, Option, Some, None, refl, ap, sym, ◌∙◌, arith}
use Rattle.std.specs.declared.cmp.Ordering.{Ordering}
use Rattle.std.specs.List.{AllByRecursion, slice_get, remove}
use Rattle.td_stamp.specs.Bag.{bag_insert, bag_of}
use Rattle.td_stamp.specs.BagLaws.{BagLaws}
use Rattle.td_machine.specs.declared.records.Message.{Message}
use Rattle.td_machine.specs.Steps.{task_size}
use Rattle.td_shard.specs.declared.runs.Lane.{Lane}
use Rattle.td_shard.specs.Messages.{IsBeside, same_edge, without_first, task_by, task_at}
use Rattle.td_shard.specs.Runs.{lane_eq}
use Rattle.td_shard.proofs.Lanes.{lane_equiv, lane_eq-sound}

module _ {X : Type 0} (cmp : X → X → Ordering) (laws : BagLaws cmp) where
  parted-by : (p : X → Bool) (n : ℕ) (x : X) (xs : List X) (b : Bool) → bag_of cmp (take n (filter p xs) ++ without_first p n xs) ≡ bag_of cmp xs
      → bag_of cmp (take (suc n) (filter p xs) ++ without_first p (suc n) xs) ≡ bag_of cmp xs
      → bag_of cmp (take (suc n) (cond b (x ∷ filter p xs) (filter p xs)) ++ cond b (without_first p n xs) (x ∷ without_first p (suc n) xs)) ≡ bag_of cmp (x ∷ xs)
  parted-by p n x xs true less more = ap (bag_insert cmp x) less
  parted-by p n x xs false less more = laws.middle (take (suc n) (filter p xs)) x (without_first p (suc n) xs) [] ∙ ap (bag_insert cmp x) more

  -- the first n that pass a test, and the others
  parted : (p : X → Bool) (n : ℕ) (xs : List X) → bag_of cmp (take n (filter p xs) ++ without_first p n xs) ≡ bag_of cmp xs
  parted p zero xs = refl
  parted p (suc n) [] = refl
  parted p (suc n) (x ∷ xs) = parted-by p n x xs (p x) (parted p n xs) (parted p (suc n) xs)

  -- one element, and the others
  removed : (xs : List X) (i : ℕ) (x : X) → slice_get xs i ≡ Some x → bag_of cmp (x ∷ remove xs i) ≡ bag_of cmp xs
  removed [] i x e = absurd (cc)
  removed (y ∷ ys) zero x e = ap (λ z. bag_of cmp (z ∷ ys)) (is_some e)
    where
      is_some : Some y ≡ Some x → x ≡ y
      is_some f = cc
  removed (y ∷ ys) (suc i) x e = laws.swaps (x ∷ []) (y ∷ []) (bag_of cmp (remove ys i)) ∙ ap (bag_insert cmp y) (removed ys i x e)

  -- one element, the first n of the others that pass a test, and those that are left
  pub all_parted : (p : X → Bool) (n : ℕ) (xs : List X) (i : ℕ) (x : X) → slice_get xs i ≡ Some x
      → bag_of cmp ((x ∷ take n (filter p (remove xs i))) ++ without_first p n (remove xs i)) ≡ bag_of cmp xs
  all_parted p n xs i x e = ap (bag_insert cmp x) (parted p n (remove xs i)) ∙ removed xs i x e

module _ {X : Type 0} where
  pub found : (xs : List X) (i : ℕ) → i < length xs → (x : X) × (slice_get xs i ≡ Some x)
  found [] i h = absurd (omega (arith, h))
  found (x ∷ xs) zero h = (x, refl)
  found (x ∷ xs) (suc i) h = found xs i (omega (arith, h))

  pub few : (n : ℕ) (xs : List X) → length (take n xs) ≤ n
  few zero xs = omega arith
  few (suc n) [] = omega arith
  few (suc n) (x ∷ xs) = let f = few n xs in omega (arith, f)

  all-filter : (P : X → Type 0) (p : X → Bool) → ((x : X) → p x ≡ true → P x) → (xs : List X) → AllByRecursion P (filter p xs)
  all-filter P p h [] = tt
  all-filter P p h (x ∷ xs) = by (p x) refl (all-filter P p h xs)
    where
      by : (b : Bool) → p x ≡ b → AllByRecursion P (filter p xs) → AllByRecursion P (cond b (x ∷ filter p xs) (filter p xs))
      by true e rest = (h x e, rest)
      by false e rest = rest

  all-take : (P : X → Type 0) (n : ℕ) (xs : List X) → AllByRecursion P xs → AllByRecursion P (take n xs)
  all-take P zero xs h = tt
  all-take P (suc n) [] h = tt
  all-take P (suc n) (x ∷ xs) h = (h.0, all-take P n xs h.1)

  pub all-taken : (P : X → Type 0) (p : X → Bool) → ((x : X) → p x ≡ true → P x) → (n : ℕ) (xs : List X) → AllByRecursion P (take n (filter p xs))
  all-taken P p h n xs = all-take P n (filter p xs) (all-filter P p h xs)

  -- n are taken, or none that passes the test is left
  abbrev Full : (X → Type 0) → ℕ → List X → List X → Type 0
  Full P n taken left = (length taken ≡ n) ⊎ AllByRecursion (λ x. P x → ⊥) left

  full-by : (P : X → Type 0) (p : X → Bool) (n : ℕ) (x : X) (xs : List X) (b : Bool) → (b ≡ false → P x → ⊥) → Full P n (take n (filter p xs)) (without_first p n xs)
      → Full P (suc n) (take (suc n) (filter p xs)) (without_first p (suc n) xs) → Full P (suc n) (take (suc n) (cond b (x ∷ filter p xs) (filter p xs))) (cond b (without_first p n xs) (x ∷ without_first p (suc n) xs))
  full-by P p n x xs true h (inl e) more = inl (ap suc e)
  full-by P p n x xs true h (inr a) more = inr a
  full-by P p n x xs false h less (inl e) = inl e
  full-by P p n x xs false h less (inr a) = inr (h refl, a)

  pub full : (P : X → Type 0) (p : X → Bool) → ((x : X) → p x ≡ false → P x → ⊥) → (n : ℕ) (xs : List X) → Full P n (take n (filter p xs)) (without_first p n xs)
  full P p h zero xs = inl refl
  full P p h (suc n) [] = inr tt
  full P p h (suc n) (x ∷ xs) = full-by P p n x xs (p x) (h x) (full P p h n xs) (full P p h (suc n) xs)

  pub one_longer : (P : X → Type 0) (n : ℕ) (x : X) (taken left : List X) → Full P n taken left → (length (x ∷ taken) ≡ suc n) ⊎ AllByRecursion (λ y. P y → ⊥) left
  one_longer P n x taken left (inl e) = inl (ap suc e)
  one_longer P n x taken left (inr a) = inr a

-- MESSAGES ON ONE EDGE AND OF ONE TIME
abbrev lane_of : Message → Lane
lane_of c = record { vertex = c.vertex; port = c.port; time = c.time }

pub is-beside : (c d : Message) → same_edge c d ≡ true → IsBeside c d
is-beside c d e =
    let same : lane_of c ≡ lane_of d = lane_eq-sound (lane_of c) (lane_of d) e in
    (sym (ap (λ (k : Lane). k.vertex) same), sym (ap (λ (k : Lane). k.port) same), sym (ap (λ (k : Lane). k.time) same))

pub beside-is : (c d : Message) → IsBeside c d → same_edge c d ≡ true
beside-is c d (v, p, t) = (λ i. lane_eq (lane_of c) (record { vertex = v i; port = p i; time = t i })) ∙ lane_equiv.refl (lane_of c)

pub not-beside : (c d : Message) → same_edge c d ≡ false → IsBeside c d → ⊥
not-beside c d e h = let g = beside-is c d h in absurd (cc)

pub few_taken : (pick : ℕ) (ms : List Message) → length (task_at pick ms) ≤ task_size
few_taken pick ms = by (slice_get ms pick)
  where
    by : (o : Option Message) → length (task_by o (remove ms pick)) ≤ task_size
    by None = omega arith
    by (Some c) = let f = few 63 (filter (same_edge c) (remove ms pick)) in omega (arith, f)
