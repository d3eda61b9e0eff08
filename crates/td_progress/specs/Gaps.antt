-- The active pointstamps of one place and counters, by epoch, each with its gap, how many could result in it that could not
-- result in the one before, and with how often it occurs.
use Rattle.std.specs.Prelude.{◌≡◌, ℕ, zero, suc, ◌+◌, ◌-◌, ◌^◌, ◌<◌, ◌≤◌, ◌&&◌, Bool, cond, nat_le, nat_lt, min, List, [], ◌∷◌, Option, Some, None, is_some, count_by}
use Rattle.std.specs.List.{AllByRecursion}
use Rattle.std.specs.Map.{lookup, remove_entry}
use Rattle.std.specs.BTreeMap.{is_at}
use Rattle.std.specs.Option.{unwrap_or}
use Rattle.std.specs.Ordering.{nat_cmp}

-- what is kept of an epoch: its gap, and how often the pointstamp of that epoch occurs
pub record Mark : Type 0 where
  pub gap : ℕ
  pub times : ℕ

-- with f of its gap
abbrev pub with_gap : (ℕ → ℕ) → Mark → Mark
with_gap f m = record { gap = f m.gap; times = m.times }

-- with f of how often it occurs
abbrev pub with_times : (ℕ → ℕ) → Mark → Mark
with_times f m = record { gap = m.gap; times = f m.times }

-- how many of the epochs are at least lo, and at most e
abbrev pub within : ℕ → ℕ → List (ℕ × Mark) → ℕ
within lo e gaps = count_by (λ g. nat_le lo g.0 && nat_le g.0 e) gaps

-- what the gaps of the epochs up to e add up to
abbrev pub sum_to : ℕ → List (ℕ × Mark) → ℕ
sum_to e [] = 0
sum_to e (g ∷ gaps) = cond (nat_le g.0 e) (g.1.gap + sum_to e gaps) 0

-- whether an epoch is there
abbrev pub has_epoch : ℕ → List (ℕ × Mark) → Bool
has_epoch e gaps = is_some (lookup (is_at (nat_cmp e)) gaps)

-- what the gaps up to an epoch add up to, without one, where it is there
abbrev pub count_to : ℕ → List (ℕ × Mark) → Option ℕ
count_to e gaps = cond (has_epoch e gaps) (Some (sum_to e gaps - 1)) None

-- the first epoch that is at least e
abbrev pub first_from : ℕ → List (ℕ × Mark) → Option ℕ
first_from e [] = None
first_from e (g ∷ gaps) = cond (nat_le e g.0) (Some g.0) (first_from e gaps)

-- the number after the last epoch below e, or lo where none is
abbrev pub start_of : ℕ → ℕ → List (ℕ × Mark) → ℕ
start_of lo e [] = lo
start_of lo e (g ∷ gaps) = cond (nat_lt g.0 e) (start_of (suc g.0) e gaps) lo

-- where the first epoch stands, or is to stand, that is at least e
abbrev pub place : ℕ → List (ℕ × Mark) → ℕ
place e [] = 0
place e (g ∷ gaps) = cond (nat_lt g.0 e) (suc (place e gaps)) 0

-- the epochs rise from lo on
abbrev pub AreRising : ℕ → List (ℕ × Mark) → Type 0
AreRising lo [] = Unit {0}
AreRising lo (g ∷ gaps) = (lo ≤ g.0) × AreRising (suc g.0) gaps

-- with f of the i-th gap
abbrev pub changed_at : ℕ → (ℕ → ℕ) → List (ℕ × Mark) → List (ℕ × Mark)
changed_at i f [] = []
changed_at zero f (g ∷ gaps) = (g.0, with_gap f g.1) ∷ gaps
changed_at (suc i) f (g ∷ gaps) = g ∷ changed_at i f gaps

-- with f of the first gap at this epoch or a later one
abbrev pub changed_from : ℕ → (ℕ → ℕ) → List (ℕ × Mark) → List (ℕ × Mark)
changed_from e f [] = []
changed_from e f (g ∷ gaps) = cond (nat_le e g.0) ((g.0, with_gap f g.1) ∷ gaps) (g ∷ changed_from e f gaps)

-- a number in 64 bits more
abbrev pub plus : ℕ → ℕ → ℕ
plus n g = min (g + n) (2 ^ 64 - 1)

-- and less
abbrev pub minus : ℕ → ℕ → ℕ
minus n g = g - n

-- with an epoch more, which takes its gap from the next one's
abbrev pub with_epoch : ℕ → Mark → List (ℕ × Mark) → List (ℕ × Mark)
with_epoch e m [] = (e, m) ∷ []
with_epoch e m (g ∷ gaps) = cond (nat_lt e g.0) ((e, m) ∷ (g.0, with_gap (minus m.gap) g.1) ∷ gaps) (g ∷ with_epoch e m gaps)

-- what is kept of an epoch that is not there
abbrev pub nothing : Mark
nothing = record { gap = 0; times = 0 }

-- the gap at an epoch, or 0
abbrev pub gap_at : ℕ → List (ℕ × Mark) → ℕ
gap_at e gaps = (unwrap_or (lookup (is_at (nat_cmp e)) gaps) nothing).gap

-- how often the pointstamp of an epoch occurs
abbrev pub times_at : ℕ → List (ℕ × Mark) → ℕ
times_at e gaps = (unwrap_or (lookup (is_at (nat_cmp e)) gaps) nothing).times

-- with f of how often the pointstamp of an epoch occurs
abbrev pub timed : ℕ → (ℕ → ℕ) → List (ℕ × Mark) → List (ℕ × Mark)
timed e f [] = []
timed e f (g ∷ gaps) = cond (is_at (nat_cmp e) g.0) ((g.0, with_times f g.1) ∷ gaps) (g ∷ timed e f gaps)

-- with an epoch less, which gives its gap to the next one
abbrev pub without_epoch : ℕ → List (ℕ × Mark) → List (ℕ × Mark)
without_epoch e gaps = changed_from e (plus (gap_at e gaps)) (remove_entry (is_at (nat_cmp e)) gaps)

-- of a count of what has epochs from one number to another: the epochs rise from lo on, and each gap counts from after the epoch
-- before
abbrev pub AreGaps : (ℕ → ℕ → ℕ) → ℕ → List (ℕ × Mark) → Type 0
AreGaps count lo [] = Unit {0}
AreGaps count lo (g ∷ gaps) = (lo ≤ g.0) × (g.1.gap ≡ count lo g.0) × AreGaps count (suc g.0) gaps

-- each occurs
abbrev pub AreTimed : List (ℕ × Mark) → Type 0
AreTimed gaps = AllByRecursion (λ g. 0 < g.1.times) gaps
