-- How a table of paths is closed, one vertex more at a time: a path with that vertex among those between is not earlier than one
-- path to it and one from it.
use Rattle.std.proofs.Common.{◌≡◌, ℕ, ◌+◌, ◌<◌, ◌⊎◌, inl, inr, List, [], ◌∷◌, refl, sym, subst, arith}
use Rattle.std.proofs.lemmas.Bool.{cases_order}
use Rattle.td_stamp.specs.Time.{AreNotLater}
use Rattle.td_reach.proofs.Order.{OrderLaws}

below_or_at : (x n : ℕ) → x < n + 1 → (x < n) ⊎ (x ≡ n)
below_or_at x n h = by (cases_order x n)
  where
    by : (x ≡ n) ⊎ ((x < n) ⊎ (n < x)) → (x < n) ⊎ (x ≡ n)
    by (inl e) = inr e
    by (inr (inl l)) = inl l
    by (inr (inr l)) = absurd (omega (arith, l, h))

module _ (Edge : ℕ → ℕ → Type 0) (over : ℕ → List ℕ → List ℕ) where
  -- a path over these vertices between
  abbrev pub Passes : ℕ → List ℕ → ℕ → Type 0
  Passes u [] v = Edge u v
  Passes u (x ∷ xs) v = Edge u x × Passes x xs v

  abbrev pub along : ℕ → List ℕ → List ℕ → List ℕ
  along u [] t = over u t
  along u (x ∷ xs) t = along x xs (over u t)

  abbrev pub AllBelow : ℕ → List ℕ → Type 0
  AllBelow n [] = Unit {0}
  AllBelow n (x ∷ xs) = (x < n) × AllBelow n xs

  -- a path over vertices below n, not after this time
  abbrev pub Reaches : ℕ → ℕ → ℕ → List ℕ → List ℕ → Type 0
  Reaches n u v t limit = (xs : List ℕ) × Passes u xs v × AllBelow n xs × AreNotLater (along u xs t) limit

  module _ (laws : OrderLaws) (Fits : ℕ → List ℕ → Type 0) (fits : (u v : ℕ) (t : List ℕ) → Edge u v → Fits u t → Fits v (over u t))
      (kept : (u : ℕ) (s t : List ℕ) → AreNotLater s t → AreNotLater (over u s) (over u t))
      (cycles : (u : ℕ) (xs t : List ℕ) → Passes u xs u → Fits u t → AreNotLater t (along u xs t)) where
    along-AreNotLater : (xs : List ℕ) (u : ℕ) (s t : List ℕ) → AreNotLater s t → AreNotLater (along u xs s) (along u xs t)
    along-AreNotLater [] u s t p = kept u s t p
    along-AreNotLater (x ∷ xs) u s t p = along-AreNotLater xs x (over u s) (over u t) (kept u s t p)

    -- a path over vertices up to n: one over those below n, or one to n and one from there
    abbrev pub Splits : ℕ → ℕ → ℕ → List ℕ → List ℕ → Type 0
    Splits n u v t limit = Reaches n u v t limit
        ⊎ ((xs : List ℕ) × (ys : List ℕ) × Passes u xs n × AllBelow n xs × Passes n ys v × AllBelow n ys × AreNotLater (along n ys (along u xs t)) limit)

    pub splits : (xs : List ℕ) (n u v : ℕ) (t : List ℕ) → Fits u t → Passes u xs v → AllBelow (n + 1) xs → Splits n u v t (along u xs t)
    splits [] n u v t f p b = inl ([], p, tt, inr refl)
    splits (x ∷ xs) n u v t f p b = by (splits xs n x v (over u t) (fits u x t p.0 f) p.1 b.1) (below_or_at x n b.0)
      where
        by : Splits n x v (over u t) (along x xs (over u t)) → (x < n) ⊎ (x ≡ n) → Splits n u v t (along x xs (over u t))
        by (inl a) (inl l) = inl (x ∷ a.0, (p.0, a.1), (l, a.2), a.3)
        by (inl a) (inr e) = inr ([], a.0, subst (λ y. Edge u y) e p.0, tt, subst (λ y. Passes y a.0 v) e a.1, a.2, subst (λ y. AreNotLater (along y a.0 (over u t)) (along x xs (over u t))) e a.3)
        by (inr a) (inl l) = inr (x ∷ a.0, a.1, (p.0, a.2), (l, a.3), a.4, a.5, a.6)
        by (inr a) (inr e) = inr (
          [],
          a.1,
          subst (λ y. Edge u y) e p.0,
          tt,
          a.4,
          a.5,
          laws.transitive _ _ _ (along-AreNotLater a.1 n (over u t) (along x a.0 (over u t))
              (subst (λ y. AreNotLater (over u t) (along y a.0 (over u t))) (sym e) (cycles n a.0 (over u t) (subst (λ y. Passes y a.0 n) e a.2) (subst (λ y. Fits y (over u t)) e (fits u x t p.0 f))))) a.6,
        )
