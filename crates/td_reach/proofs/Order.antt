-- The order of counters, for proofs.
use Rattle.std.proofs.Common.{◌≡◌, ℕ, suc, zero, inl, inr, List, [], ◌∷◌, ◌++◌, length, drop, refl, ap, arith}
use Rattle.std.specs.Prelude.{true, ◌↔◌}
use Rattle.std.specs.Ordering.{MatchOrdering}
use Rattle.td_stamp.specs.Time.{Timestamp, depth, raised, AreEarlier, AreNotLater, IsAtMost, counters_cmp, time_le}
use Rattle.td_reach.specs.Summaries.{Effect, apply}

-- what is used of the laws of the orders of counters and times
pub record OrderLaws : Type 0 where
  pub transitive : (bs cs ds : List ℕ) → AreNotLater bs cs → AreNotLater cs ds → AreNotLater bs ds
  pub antisymmetric : (bs cs : List ℕ) → AreNotLater bs cs → AreNotLater cs bs → bs ≡ cs
  pub compared : (bs cs : List ℕ) → length bs ≡ length cs → MatchOrdering (counters_cmp bs cs) (AreEarlier bs cs) (bs ≡ cs) (AreEarlier cs bs)
  pub tested : (t u : Timestamp) → depth t ≡ depth u → (time_le t u ≡ true) ↔ IsAtMost t u
  pub times_transitive : (t u v : Timestamp) → IsAtMost t u → IsAtMost u v → IsAtMost t v
  pub times_antisymmetric : (t u : Timestamp) → IsAtMost t u → IsAtMost u t → t ≡ u

pub AreEarlier-length : (ws bs : List ℕ) → AreEarlier ws bs → length ws ≡ length bs
AreEarlier-length [] [] p = absurd p
AreEarlier-length [] (j ∷ bs) p = absurd p
AreEarlier-length (i ∷ ws) [] p = absurd p
AreEarlier-length (i ∷ ws) (j ∷ bs) (inl p) = ap suc (AreEarlier-length ws bs p)
AreEarlier-length (i ∷ ws) (j ∷ bs) (inr p) = ap (λ x. suc (length x)) p.0

pub AreNotLater-length : (ws bs : List ℕ) → AreNotLater ws bs → length ws ≡ length bs
AreNotLater-length ws bs (inl p) = AreEarlier-length ws bs p
AreNotLater-length ws bs (inr p) = ap length p

-- the outer parts decide, and else the inner ones
pub outer_first : (f g ws bs : List ℕ) → length f ≡ length g → AreEarlier ws bs → AreEarlier (f ++ ws) (g ++ bs)
outer_first [] [] ws bs e p = p
outer_first [] (y ∷ g) ws bs e p = absurd (omega (arith, e))
outer_first (x ∷ f) [] ws bs e p = absurd (omega (arith, e))
outer_first (x ∷ f) (y ∷ g) ws bs e p = inl (outer_first f g ws bs (omega (arith, e)) p)

pub inner_next : (f g ws : List ℕ) → AreEarlier f g → AreEarlier (f ++ ws) (g ++ ws)
inner_next [] [] ws p = absurd p
inner_next [] (y ∷ g) ws p = absurd p
inner_next (x ∷ f) [] ws p = absurd p
inner_next (x ∷ f) (y ∷ g) ws (inl p) = inl (inner_next f g ws p)
inner_next (x ∷ f) (y ∷ g) ws (inr p) = inr (ap (λ z. z ++ ws) p.0, p.1)

raised-AreEarlier : (n : ℕ) (ws bs : List ℕ) → AreEarlier ws bs → AreEarlier (raised n ws) (raised n bs)
raised-AreEarlier n [] [] p = absurd p
raised-AreEarlier n [] (j ∷ bs) p = absurd p
raised-AreEarlier n (i ∷ ws) [] p = absurd p
raised-AreEarlier n (i ∷ ws) (j ∷ bs) (inl p) = inl p
raised-AreEarlier n (i ∷ ws) (j ∷ bs) (inr p) = inr (p.0, omega (arith, p.1))

drop-AreNotLater : (n : ℕ) (ws bs : List ℕ) → AreNotLater ws bs → AreNotLater (drop n ws) (drop n bs)
drop-AreNotLater n ws bs (inr p) = inr (ap (drop n) p)
drop-AreNotLater zero ws bs (inl p) = inl p
drop-AreNotLater (suc n) [] [] (inl p) = absurd p
drop-AreNotLater (suc n) [] (j ∷ bs) (inl p) = absurd p
drop-AreNotLater (suc n) (i ∷ ws) [] (inl p) = absurd p
drop-AreNotLater (suc n) (i ∷ ws) (j ∷ bs) (inl (inl p)) = drop-AreNotLater n ws bs (inl p)
drop-AreNotLater (suc n) (i ∷ ws) (j ∷ bs) (inl (inr p)) = inr (ap (drop n) p.0)

-- what a path does keeps the order of times
pub apply-AreNotLater : (s : Effect) (ws bs : List ℕ) → AreNotLater ws bs → AreNotLater (apply s ws) (apply s bs)
apply-AreNotLater s ws bs p = by (drop-AreNotLater s.drops ws bs p)
  where
    by : AreNotLater (drop s.drops ws) (drop s.drops bs) → AreNotLater (apply s ws) (apply s bs)
    by (inr e) = inr (ap (λ x. s.fresh ++ raised s.adds x) e)
    by (inl e) = inl (outer_first s.fresh s.fresh _ _ refl (raised-AreEarlier s.adds _ _ e))
