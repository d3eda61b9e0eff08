-- What the orders of times keep to.
use Rattle.std.specs.Prelude.{◌≡◌, ℕ, ◌+◌, ◌<◌, ◌≤◌, true, ◌⊎◌, List, [], ◌∷◌, ◌++◌, length, reverse, nat_le}
use Rattle.std.proofs.Common.{refl, sym, ap, ◌∙◌, subst, arith, inl, inr}
use Rattle.std.specs.declared.cmp.Ordering.{Ordering}
use Rattle.std.specs.declared.cmp.Ordering.TheVariants.{Less, Equal, Greater}
use Rattle.std.specs.Ordering.{nat_cmp, ordering_then, is_le, MatchOrdering}
use Rattle.std.specs.Cmp.{IsTotalOrder, then_total, on_total, nat_cmp_total, ranks}
use Rattle.std.specs.Cmp.Lexicographic.{slice_cmp, lists_total}
use Rattle.std.specs.FinMap.{IsAntisymmetric, nat_cmp-IsAntisymmetric, slice_cmp-IsAntisymmetric}
use Rattle.std.proofs.lemmas.List.{reverse-append, reverse-reverse, length-reverse}
use Rattle.std.proofs.lemmas.Bool.{cases_lt, leb-true, le-leb, and_parts, and_from}
use Rattle.td_stamp.specs.ProvedOrders.{both_tie}
use Rattle.td_stamp.specs.Time.{Timestamp, depth, outer_turns, raised, AreEarlier, AreNotLater, IsAtMost, counters_cmp, time_le, time_cmp}

-- ---- the relation

-- counters that are the same are not later
pub AreNotLater-refl : (cs : List ℕ) → AreNotLater cs cs
AreNotLater-refl cs = inr refl

pub AreEarlier-trans : (xs ys zs : List ℕ) → AreEarlier xs ys → AreEarlier ys zs → AreEarlier xs zs
AreEarlier-trans [] [] zs p q = absurd p
AreEarlier-trans [] (j ∷ ys) zs p q = absurd p
AreEarlier-trans (i ∷ xs) [] zs p q = absurd p
AreEarlier-trans (i ∷ xs) (j ∷ ys) [] p q = absurd q
AreEarlier-trans (i ∷ xs) (j ∷ ys) (k ∷ zs) (inl p) (inl q) = inl (AreEarlier-trans xs ys zs p q)
AreEarlier-trans (i ∷ xs) (j ∷ ys) (k ∷ zs) (inl p) (inr q) = inl (subst (AreEarlier xs) q.0 p)
AreEarlier-trans (i ∷ xs) (j ∷ ys) (k ∷ zs) (inr p) (inl q) = inl (subst (λ ws. AreEarlier ws zs) (sym p.0) q)
AreEarlier-trans (i ∷ xs) (j ∷ ys) (k ∷ zs) (inr p) (inr q) =
    let a : i < j = p.1 in
    let b : j < k = q.1 in inr (p.0 ∙ q.0, omega arith)

pub AreNotLater-trans : (xs ys zs : List ℕ) → AreNotLater xs ys → AreNotLater ys zs → AreNotLater xs zs
AreNotLater-trans xs ys zs (inl p) (inl q) = inl (AreEarlier-trans xs ys zs p q)
AreNotLater-trans xs ys zs (inl p) (inr q) = inl (subst (AreEarlier xs) q p)
AreNotLater-trans xs ys zs (inr p) (inl q) = inl (subst (λ ws. AreEarlier ws zs) (sym p) q)
AreNotLater-trans xs ys zs (inr p) (inr q) = inr (p ∙ q)

-- no counters are earlier than themselves
pub AreEarlier-irrefl : (xs : List ℕ) → ¬ AreEarlier xs xs
AreEarlier-irrefl [] h = h
AreEarlier-irrefl (k ∷ xs) (inl h) = AreEarlier-irrefl xs h
AreEarlier-irrefl (k ∷ xs) (inr h) = let l : k < k = h.1 in absurd (omega arith)

-- they are not later both ways only where they are the same
pub AreNotLater-antisymmetric : (xs ys : List ℕ) → AreNotLater xs ys → AreNotLater ys xs → xs ≡ ys
AreNotLater-antisymmetric xs ys (inr p) q = p
AreNotLater-antisymmetric xs ys (inl p) (inr q) = sym q
AreNotLater-antisymmetric xs ys (inl p) (inl q) = absurd (AreEarlier-irrefl xs (AreEarlier-trans xs ys xs p q))

-- ---- the comparison

-- the comparison of counters of one depth by recursion, the outermost first
abbrev by_turns : List ℕ → List ℕ → Ordering
by_turns [] ys = Equal
by_turns (j ∷ xs) [] = Equal
by_turns (j ∷ xs) (k ∷ ys) = ordering_then (by_turns xs ys) (nat_cmp j k)

by_turns-ranks : (xs ys : List ℕ) → length xs ≡ length ys → MatchOrdering (by_turns xs ys) (AreEarlier xs ys) (xs ≡ ys) (AreEarlier ys xs)
by_turns-ranks [] [] e = refl
by_turns-ranks [] (k ∷ ys) e = absurd (omega (arith, e))
by_turns-ranks (j ∷ xs) [] e = absurd (omega (arith, e))
by_turns-ranks (j ∷ xs) (k ∷ ys) e = by (by_turns xs ys) (by_turns-ranks xs ys (omega (arith, e))) (nat_cmp j k) (ranks j k)
  where
    by : (r : Ordering) → MatchOrdering r (AreEarlier xs ys) (xs ≡ ys) (AreEarlier ys xs) → (s : Ordering) → MatchOrdering s (j < k) (j ≡ k) (k < j)
        → MatchOrdering (ordering_then r s) (AreEarlier (j ∷ xs) (k ∷ ys)) (j ∷ xs ≡ k ∷ ys) (AreEarlier (k ∷ ys) (j ∷ xs))
    by Less h s t = inl h
    by Greater h s t = inl h
    by Equal h Less t = inr (h, t)
    by Equal h Equal t = λ i. t i ∷ h i
    by Equal h Greater t = inr (sym h, t)

then_Equal : (r : Ordering) → r ≡ ordering_then r Equal
then_Equal Less = refl
then_Equal Equal = refl
then_Equal Greater = refl

then_assoc : (q r s : Ordering) → ordering_then (ordering_then q r) s ≡ ordering_then q (ordering_then r s)
then_assoc Less r s = refl
then_assoc Equal r s = refl
then_assoc Greater r s = refl

-- the outermost counter decides first
by_turns-outermost : (xs ys : List ℕ) (i j : ℕ) → length xs ≡ length ys → by_turns (xs ++ i ∷ []) (ys ++ j ∷ []) ≡ ordering_then (nat_cmp i j) (by_turns xs ys)
by_turns-outermost [] [] i j e = then_Equal (nat_cmp i j)
by_turns-outermost [] (l ∷ ys) i j e = absurd (omega (arith, e))
by_turns-outermost (k ∷ xs) [] i j e = absurd (omega (arith, e))
by_turns-outermost (k ∷ xs) (l ∷ ys) i j e =
    ap (λ r. ordering_then r (nat_cmp k l)) (by_turns-outermost xs ys i j (omega (arith, e))) ∙ then_assoc (nat_cmp i j) (by_turns xs ys) (nat_cmp k l)

by_turns-same_depth : (xs ys : List ℕ) → length xs ≡ length ys → by_turns (reverse xs) (reverse ys) ≡ slice_cmp nat_cmp xs ys
by_turns-same_depth [] [] e = refl
by_turns-same_depth [] (y ∷ ys) e = absurd (omega (arith, e))
by_turns-same_depth (x ∷ xs) [] e = absurd (omega (arith, e))
by_turns-same_depth (x ∷ xs) (y ∷ ys) e =
    let f : length xs ≡ length ys = omega (arith, e) in
    (λ i. by_turns (reverse-append (x ∷ []) xs i) (reverse-append (y ∷ []) ys i))
    ∙ by_turns-outermost (reverse xs) (reverse ys) x y (length-reverse xs ∙ f ∙ sym (length-reverse ys)) ∙ ap (ordering_then (nat_cmp x y)) (by_turns-same_depth xs ys f)

-- counters of one depth compared as lists from the outermost tell which are earlier
pub counters_cmp-ranks : (xs ys : List ℕ) → length xs ≡ length ys → MatchOrdering (counters_cmp xs ys) (AreEarlier xs ys) (xs ≡ ys) (AreEarlier ys xs)
counters_cmp-ranks xs ys e = subst (λ r. MatchOrdering r (AreEarlier xs ys) (xs ≡ ys) (AreEarlier ys xs)) same (by_turns-ranks xs ys e)
  where
    same : by_turns xs ys ≡ counters_cmp xs ys
    same =
        (λ i. by_turns (sym (reverse-reverse xs) i) (sym (reverse-reverse ys) i))
        ∙ by_turns-same_depth (reverse xs) (reverse ys) (length-reverse xs ∙ e ∙ sym (length-reverse ys))

-- of one depth, one of two is not later than the other
pub AreNotLater-total : (xs ys : List ℕ) → length xs ≡ length ys → AreNotLater xs ys ⊎ AreNotLater ys xs
AreNotLater-total xs ys e = by (counters_cmp xs ys) (counters_cmp-ranks xs ys e)
  where
    by : (r : Ordering) → MatchOrdering r (AreEarlier xs ys) (xs ≡ ys) (AreEarlier ys xs) → AreNotLater xs ys ⊎ AreNotLater ys xs
    by Less h = inl (inl h)
    by Equal h = inl (inr h)
    by Greater h = inr (inl h)

-- what is done at the head keeps the order
pub AreNotLater-enter : (xs ys : List ℕ) → AreNotLater xs ys → AreNotLater (0 ∷ xs) (0 ∷ ys)
AreNotLater-enter xs ys (inl h) = inl (inl h)
AreNotLater-enter xs ys (inr h) = inr (ap (λ ws. 0 ∷ ws) h)

pub AreNotLater-leave : (xs ys : List ℕ) → AreNotLater xs ys → AreNotLater (outer_turns xs) (outer_turns ys)
AreNotLater-leave xs ys (inr h) = inr (ap outer_turns h)
AreNotLater-leave [] [] (inl h) = absurd h
AreNotLater-leave [] (k ∷ ys) (inl h) = absurd h
AreNotLater-leave (j ∷ xs) [] (inl h) = absurd h
AreNotLater-leave (j ∷ xs) (k ∷ ys) (inl (inl h)) = inl h
AreNotLater-leave (j ∷ xs) (k ∷ ys) (inl (inr h)) = inr h.0

pub AreNotLater-raised : (n : ℕ) (xs ys : List ℕ) → AreNotLater xs ys → AreNotLater (raised n xs) (raised n ys)
AreNotLater-raised n xs ys (inr h) = inr (ap (raised n) h)
AreNotLater-raised n [] [] (inl h) = absurd h
AreNotLater-raised n [] (k ∷ ys) (inl h) = absurd h
AreNotLater-raised n (j ∷ xs) [] (inl h) = absurd h
AreNotLater-raised n (j ∷ xs) (k ∷ ys) (inl (inl h)) = inl (inl h)
AreNotLater-raised n (j ∷ xs) (k ∷ ys) (inl (inr h)) =
    let l : j < k = h.1 in
    let m : j + n < k + n = omega arith in inl (inr (h.0, m))

-- more rounds are not earlier
pub AreNotLater-more : (m n : ℕ) (xs : List ℕ) → m ≤ n → AreNotLater (raised m xs) (raised n xs)
AreNotLater-more m n [] h = inr refl
AreNotLater-more m n (k ∷ xs) h = by (cases_lt m n)
  where
    by : (m < n) ⊎ (n ≤ m) → AreNotLater (raised m (k ∷ xs)) (raised n (k ∷ xs))
    by (inl l) = let less : k + m < k + n = omega arith in inl (inr (refl, less))
    by (inr l) = let same : m ≡ n = omega arith in inr (ap (λ i. (k + i) ∷ xs) same)

-- ---- the order of times

pub IsAtMost-refl : (t : Timestamp) → IsAtMost t t
IsAtMost-refl t = record { epoch = omega arith; turns = inr refl }

pub IsAtMost-trans : (t u v : Timestamp) → IsAtMost t u → IsAtMost u v → IsAtMost t v
IsAtMost-trans t u v h k = let e = h.epoch in let f = k.epoch in record { epoch = omega (arith, h.epoch, k.epoch); turns = AreNotLater-trans t.turns u.turns v.turns h.turns k.turns }

pub IsAtMost-antisymmetric : (t u : Timestamp) → IsAtMost t u → IsAtMost u t → t ≡ u
IsAtMost-antisymmetric t u h k =
    let e : t.epoch ≡ u.epoch = omega (arith, h.epoch, k.epoch) in
    let s = AreNotLater-antisymmetric t.turns u.turns h.turns k.turns in
    λ i. record { epoch = e i; turns = s i }

-- in one epoch and at one depth, one of two is at most the other
pub IsAtMost-total : (t u : Timestamp) → depth t ≡ depth u → t.epoch ≡ u.epoch → IsAtMost t u ⊎ IsAtMost u t
IsAtMost-total t u e f = by (AreNotLater-total t.turns u.turns e)
  where
    by : AreNotLater t.turns u.turns ⊎ AreNotLater u.turns t.turns → IsAtMost t u ⊎ IsAtMost u t
    by (inl h) = inl (record { epoch = omega (arith, f); turns = h })
    by (inr h) = inr (record { epoch = omega (arith, f); turns = h })

-- the test of two times of one depth
pub time_le-IsAtMost : (t u : Timestamp) → depth t ≡ depth u → time_le t u ≡ true → IsAtMost t u
time_le-IsAtMost t u e h = record { epoch = leb-true t.epoch u.epoch both.0; turns = by (counters_cmp t.turns u.turns) (counters_cmp-ranks t.turns u.turns e) both.1 }
  where
    both : (nat_le t.epoch u.epoch ≡ true) × (is_le (counters_cmp t.turns u.turns) ≡ true)
    both = and_parts (nat_le t.epoch u.epoch) (is_le (counters_cmp t.turns u.turns)) h

    by : (r : Ordering) → MatchOrdering r (AreEarlier t.turns u.turns) (t.turns ≡ u.turns) (AreEarlier u.turns t.turns) → is_le r ≡ true → AreNotLater t.turns u.turns
    by Less m l = inl m
    by Equal m l = inr m
    by Greater m l = cc

pub IsAtMost-time_le : (t u : Timestamp) → depth t ≡ depth u → IsAtMost t u → time_le t u ≡ true
IsAtMost-time_le t u e h =
    and_from (nat_le t.epoch u.epoch) (is_le (counters_cmp t.turns u.turns)) (le-leb t.epoch u.epoch h.epoch) (by (counters_cmp t.turns u.turns) (counters_cmp-ranks t.turns u.turns e) h.turns)
  where
    by : (r : Ordering) → MatchOrdering r (AreEarlier t.turns u.turns) (t.turns ≡ u.turns) (AreEarlier u.turns t.turns) → AreNotLater t.turns u.turns → is_le r ≡ true
    by Less m n = refl
    by Equal m n = refl
    by Greater m (inl n) = absurd (AreEarlier-irrefl t.turns (AreEarlier-trans t.turns u.turns t.turns n m))
    by Greater m (inr n) = absurd (AreEarlier-irrefl u.turns (subst (AreEarlier u.turns) n m))

-- ---- the total order

pub time_total : IsTotalOrder time_cmp
time_total = then_total (on_total (λ t. t.epoch) nat_cmp_total) (on_total (λ t. reverse t.turns) (lists_total nat_cmp_total))

-- only the same times tie
pub time_apart : IsAntisymmetric time_cmp
time_apart t u e =
    let tied = both_tie (nat_cmp t.epoch u.epoch) (counters_cmp t.turns u.turns) e in
    let backwards = slice_cmp-IsAntisymmetric nat_cmp-IsAntisymmetric (reverse t.turns) (reverse u.turns) tied.1 in
    let turns = sym (reverse-reverse t.turns) ∙ ap reverse backwards ∙ reverse-reverse u.turns in
    λ i. record { epoch = nat_cmp-IsAntisymmetric t.epoch u.epoch tied.0 i; turns = turns i }

-- a time that is at most another of its depth is not after it in the total order
pub IsAtMost-time_cmp : (t u : Timestamp) → depth t ≡ depth u → IsAtMost t u → is_le (time_cmp t u) ≡ true
IsAtMost-time_cmp t u e h = by (nat_cmp t.epoch u.epoch) (ranks t.epoch u.epoch) (counters_cmp t.turns u.turns) (counters_cmp-ranks t.turns u.turns e) h.turns
  where
    by : (r : Ordering) → MatchOrdering r (t.epoch < u.epoch) (t.epoch ≡ u.epoch) (u.epoch < t.epoch)
        → (s : Ordering) → MatchOrdering s (AreEarlier t.turns u.turns) (t.turns ≡ u.turns) (AreEarlier u.turns t.turns)
        → AreNotLater t.turns u.turns → is_le (ordering_then r s) ≡ true
    by Less l s m n = refl
    by Greater l s m n = absurd (omega (arith, l, h.epoch))
    by Equal l Less m n = refl
    by Equal l Equal m n = refl
    by Equal l Greater m (inl n) = absurd (AreEarlier-irrefl t.turns (AreEarlier-trans t.turns u.turns t.turns n m))
    by Equal l Greater m (inr n) = absurd (AreEarlier-irrefl u.turns (subst (AreEarlier u.turns) n m))
