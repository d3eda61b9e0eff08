-- Of a bag of pointstamps, in which each stands as often as it occurs: which hold which back, and which epochs have passed
-- (Naiad, section 2.3).
use Rattle.std.specs.Prelude.{◌≡◌, ℕ, nat_lt, Bool, List, length, slice_get, Some, Contains, ◌↔◌}
use Rattle.std.specs.List.{list_all, AllByRecursion}
use Rattle.td_plan.specs.Lines.{Line}
use Rattle.td_reach.specs.declared.stamp.Stamp.{Stamp}
use Rattle.td_reach.specs.Paths.{Could}

module _ (plan : List Line) (active : List Stamp) where
  -- an active pointstamp other than p that could result in p
  abbrev pub IsPrecursor : Stamp → Stamp → Type 0
  IsPrecursor p q = Contains active q × ((q ≡ p) → ⊥) × Could plan q p

  -- how many there are: a list of them all, each once
  pub record Precursors (p : Stamp) (n : ℕ) : Type 0 where
    pub each : List Stamp
    pub all : (q : Stamp) → Contains each q ↔ IsPrecursor p q
    pub once : (i j : ℕ) (q : Stamp) → slice_get each i ≡ Some q → slice_get each j ≡ Some q → i ≡ j
    pub count : length each ≡ n

  -- no active pointstamp holds this one back
  abbrev pub IsFree : Stamp → Type 0
  IsFree p = AllByRecursion (λ q. ((q ≡ p) → ⊥) → Could plan q p → ⊥) active

  -- FRONTIER: active, and held back by no other
  pub record Frontier (p : Stamp) : Type 0 where
    pub is_active : Contains active p
    pub is_free : IsFree p

-- PASSED: nothing of this epoch, or of one before, is active
abbrev pub has_passed : List Stamp → ℕ → Bool
has_passed active e = list_all (λ p. nat_lt e p.time.epoch) active
