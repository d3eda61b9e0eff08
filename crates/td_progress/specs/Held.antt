-- How a table keeps occurrences and precursor counts: for each place and counters with active pointstamps, their epochs, with
-- the gap of each, and how often it occurs.
use Rattle.std.specs.Prelude.{◌≡◌, ◌==◌, ℕ, zero, suc, ◌<◌, ◌≤◌, Bool, true, false, ◌&&◌, cond, List, [], ◌∷◌, map, filter_map, fold, replicate, length, slice_get, Option, Some, None, is_some, option_map}
use Rattle.std.specs.List.{AllByRecursion, IsDistinct, flat_map, sum_by, range_with_len}
use Rattle.std.specs.Map.{lookup, keys_of, values_of}
use Rattle.std.specs.Option.{unwrap_or}
use Rattle.td_plan.specs.Lines.{Line}
use Rattle.td_reach.specs.declared.stamp.Stamp.{Stamp}
use Rattle.td_reach.specs.Paths.{IsOf}
use Rattle.td_reach.specs.Tables.{could_test}
use Rattle.td_progress.specs.Bag.{is_stamp}
use Rattle.td_progress.specs.Gaps.{Mark, has_epoch, sum_to, within, first_from, count_to, with_epoch, without_epoch, timed, changed_from, plus, minus, AreGaps, AreTimed}
use Rattle.td_progress.specs.Ways.{places_of, outside}
use Rattle.td_progress.specs.declared.chain.Step.{Step}
use Rattle.td_progress.specs.declared.chain.Step.TheVariants as steps

-- a gap after a step
abbrev pub stepped : Step → ℕ → ℕ
stepped steps.Up = plus 1
stepped steps.Down = minus 1

-- the pointstamp of the same place and counters in another epoch
abbrev pub at : ℕ → Stamp → Stamp
at e p = record { time = record { epoch = e; turns = p.time.turns }; place = p.place }

-- its place and counters, as the pointstamp of epoch 0
abbrev pub class_of : Stamp → Stamp
class_of p = at 0 p

-- the active pointstamps, each once
abbrev pub held : List (Stamp × List (ℕ × Mark)) → List Stamp
held chains = flat_map (λ k. map (λ g. at g.0 k.0) k.1) chains

-- those of a place and counters, each as often as it occurs
abbrev pub marked : Stamp × List (ℕ × Mark) → List Stamp
marked k = flat_map (λ g. replicate g.1.times (at g.0 k.0)) k.1

-- THE ACTIVE POINTSTAMPS, each as often as it occurs
abbrev pub all_marked : List (Stamp × List (ℕ × Mark)) → List Stamp
all_marked chains = flat_map marked chains

-- how many there are
abbrev pub total : List (Stamp × List (ℕ × Mark)) → ℕ
total chains = sum_by (λ k. length k.1) chains

-- how many of epochs from lo to e could result in what has the place and counters of c
abbrev pub between : List Line → List (Stamp × List (ℕ × Mark)) → Stamp → ℕ → ℕ → ℕ
between plan chains c lo e = sum_by (λ k. cond (could_test plan k.0 c) (within lo e k.1) 0) chains

-- how many of one of them, if it is there
abbrev pub count_in : List Line → Stamp → ℕ → ℕ → Option (Stamp × List (ℕ × Mark)) → ℕ
count_in plan c lo e None = 0
count_in plan c lo e (Some k) = cond (could_test plan k.0 c) (within lo e k.1) 0

-- how many epochs of one of them there are in that range, if it is there
abbrev pub epochs_in : ℕ → ℕ → Option (Stamp × List (ℕ × Mark)) → ℕ
epochs_in lo e None = 0
epochs_in lo e (Some k) = within lo e k.1

-- how many of those at these positions
abbrev pub count_among : List Line → List (Stamp × List (ℕ × Mark)) → Stamp → ℕ → ℕ → List ℕ → ℕ
count_among plan chains c lo e positions = sum_by (λ i. count_in plan c lo e (slice_get chains i)) positions

-- the epochs and gaps of a place and counters
abbrev pub chain_at : Stamp → List (Stamp × List (ℕ × Mark)) → List (ℕ × Mark)
chain_at c chains = unwrap_or (lookup (is_stamp c) chains) []

-- with an epoch more of c
abbrev pub with_stamp : Stamp → ℕ → Mark → List (Stamp × List (ℕ × Mark)) → List (Stamp × List (ℕ × Mark))
with_stamp c e m [] = (c, with_epoch e m []) ∷ []
with_stamp c e m (k ∷ chains) = cond (is_stamp c k.0) ((k.0, with_epoch e m k.1) ∷ chains) (k ∷ with_stamp c e m chains)

-- with an epoch less of c
abbrev pub without_stamp : Stamp → ℕ → List (Stamp × List (ℕ × Mark)) → List (Stamp × List (ℕ × Mark))
without_stamp c e [] = []
without_stamp c e (k ∷ chains) = cond (is_stamp c k.0) ((k.0, without_epoch e k.1) ∷ chains) (k ∷ without_stamp c e chains)

-- with f of how often the pointstamp of c in an epoch occurs
abbrev pub timed_stamp : Stamp → ℕ → (ℕ → ℕ) → List (Stamp × List (ℕ × Mark)) → List (Stamp × List (ℕ × Mark))
timed_stamp c e f [] = []
timed_stamp c e f (k ∷ chains) = cond (is_stamp c k.0) ((k.0, timed e f k.1) ∷ chains) (k ∷ timed_stamp c e f chains)

-- where a place and counters stand, if they do
abbrev pub IsPosition : Stamp → List (Stamp × List (ℕ × Mark)) → Option ℕ → Type 0
IsPosition c chains None = lookup (is_stamp c) chains ≡ None
IsPosition c chains (Some i) = slice_get (keys_of chains) i ≡ Some c

-- the epochs and gaps at a position, if there is one
abbrev pub gaps_at : Option ℕ → List (Stamp × List (ℕ × Mark)) → List (ℕ × Mark)
gaps_at None chains = []
gaps_at (Some i) chains = unwrap_or (slice_get (values_of chains) i) []

-- with f of the first gap from e on, where c could result in that
abbrev pub shifted : List Line → Stamp → ℕ → (ℕ → ℕ) → Stamp × List (ℕ × Mark) → Stamp × List (ℕ × Mark)
shifted plan c e f k = (k.0, cond (could_test plan c k.0) (changed_from e f k.1) k.1)

-- the same of the i-th
abbrev pub shifted_at : List Line → Stamp → ℕ → (ℕ → ℕ) → ℕ → List (Stamp × List (ℕ × Mark)) → List (Stamp × List (ℕ × Mark))
shifted_at plan c e f i [] = []
shifted_at plan c e f zero (k ∷ chains) = shifted plan c e f k ∷ chains
shifted_at plan c e f (suc i) (k ∷ chains) = k ∷ shifted_at plan c e f i chains

-- with f of the first gap from e on, of the i-th
abbrev pub changed_in : ℕ → (ℕ → ℕ) → ℕ → List (Stamp × List (ℕ × Mark)) → List (Stamp × List (ℕ × Mark))
changed_in e f i [] = []
changed_in e f zero (k ∷ chains) = (k.0, changed_from e f k.1) ∷ chains
changed_in e f (suc i) (k ∷ chains) = k ∷ changed_in e f i chains

-- whether c could result in a later epoch of a chain
abbrev pub is_ahead : List Line → Stamp → ℕ → Option (Stamp × List (ℕ × Mark)) → Bool
is_ahead plan c e None = false
is_ahead plan c e (Some k) = is_some (first_from e k.1) && could_test plan c k.0

-- the same of those at these positions, one after the other
abbrev pub all_shifted_at : List Line → Stamp → ℕ → (ℕ → ℕ) → List ℕ → List (Stamp × List (ℕ × Mark)) → List (Stamp × List (ℕ × Mark))
all_shifted_at plan c e f positions chains = fold (λ ks i. shifted_at plan c e f i ks) chains positions

-- the first epoch of a chain, where it has only itself in its gap
abbrev pub first_alone : List (ℕ × Mark) → Option ℕ
first_alone [] = None
first_alone (g ∷ gaps) = cond (g.1.gap == 1) (Some g.0) None

-- the first of its place and counters, with only itself in its gap
abbrev pub IsFirst : Stamp → List (Stamp × List (ℕ × Mark)) → Type 0
IsFirst p chains = first_alone (chain_at (class_of p) chains) ≡ Some p.time.epoch

-- of each place and counters the first, where it has only itself in its gap
abbrev pub firsts : List (Stamp × List (ℕ × Mark)) → List Stamp
firsts chains = filter_map (λ k. option_map (λ e. at e k.0) (first_alone k.1)) chains

-- of an active pointstamp, the gaps up to it add up to at least 1, and to no more than there are pointstamps
abbrev pub IsCounted : Stamp → List (Stamp × List (ℕ × Mark)) → Type 0
IsCounted p chains =
    has_epoch p.time.epoch (chain_at (class_of p) chains) ≡ true
    → (0 < sum_to p.time.epoch (chain_at (class_of p) chains)) × (sum_to p.time.epoch (chain_at (class_of p) chains) ≤ total chains)

-- of an active pointstamp, what the gaps up to it add up to, without itself
abbrev pub count_of : Stamp → List (Stamp × List (ℕ × Mark)) → Option ℕ
count_of p chains = count_to p.time.epoch (chain_at (class_of p) chains)

-- the plan has the place and counters, where any epoch of them is active
abbrev pub IsOfPlan : List Line → Stamp × List (ℕ × Mark) → Type 0
IsOfPlan plan k = 0 < length k.1 → IsOf plan k.0

-- of a place and counters of the plan, the gaps are as counted
pub record IsChain (plan : List Line) (count : Stamp → ℕ → ℕ → ℕ) (k : Stamp × List (ℕ × Mark)) : Type 0 where
  pub of_plan : IsOfPlan plan k
  pub class : k.0.time.epoch ≡ 0
  pub gaps : AreGaps (count k.0) 0 k.1

-- the places of the plan stand first, in no loop, by number
abbrev pub IsLaidOut : List Line → List Stamp → Type 0
IsLaidOut plan classes = (i : ℕ) → i < places_of plan → slice_get classes i ≡ Some (outside plan i)

-- those that stand there where nothing is active
abbrev pub empty_chains : List Line → List (Stamp × List (ℕ × Mark))
empty_chains plan = map (λ i. (outside plan i, [])) (range_with_len 0 (places_of plan))

-- each place and counters stands there once, those outside loops at their places' numbers, and all count what could result in
-- theirs
pub record AreHeld (plan : List Line) (chains : List (Stamp × List (ℕ × Mark))) : Type 0 where
  pub once : IsDistinct is_stamp (keys_of chains)
  pub laid : IsLaidOut plan (keys_of chains)
  pub each : AllByRecursion (IsChain plan (between plan chains)) chains

-- each that is held occurs
abbrev pub AllTimed : List (Stamp × List (ℕ × Mark)) → Type 0
AllTimed chains = AllByRecursion (λ k. AreTimed k.1) chains
