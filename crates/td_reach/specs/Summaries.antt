-- What a path does to the counters of a time, in short: how many are dropped, what is added to the innermost that is kept, and
-- which are put before it.
use Rattle.std.specs.Prelude.{ℕ, ◌+◌, ◌-◌, ◌≤◌, List, [], ◌∷◌, ◌++◌, length, drop, Option, Some, None}
use Rattle.std.specs.List.{AllByRecursion}
use Rattle.std.specs.declared.cmp.Ordering.{Ordering}
use Rattle.std.specs.declared.cmp.Ordering.TheVariants.{Less, Equal, Greater}
use Rattle.std.specs.Ordering.{nat_cmp, ordering_then}
use Rattle.td_stamp.specs.Time.{raised, counters_cmp}
use Rattle.td_plan.specs.declared.vertex.Kind.{Kind}
use Rattle.td_plan.specs.declared.vertex.Kind.TheVariants.{Enter, Feedback, Leave}

pub record Effect : Type 0 where
  pub drops : ℕ
  pub adds : ℕ
  pub fresh : List ℕ

abbrev pub apply : Effect → List ℕ → List ℕ
apply s cs = s.fresh ++ raised s.adds (drop s.drops cs)

abbrev pub nothing : Effect
nothing = record { drops = 0; adds = 0; fresh = [] }

abbrev pub effect_of : Kind → Effect
effect_of Enter = record { drops = 0; adds = 0; fresh = 0 ∷ [] }
effect_of Leave = record { drops = 1; adds = 0; fresh = [] }
effect_of Feedback = record { drops = 0; adds = 1; fresh = [] }
effect_of _ = nothing

-- the first and then the second, by how what the second drops compares with what the first put on
abbrev pub joined : Ordering → Effect → Effect → Effect
joined Less s t = record { drops = s.drops; adds = s.adds; fresh = t.fresh ++ raised t.adds (drop t.drops s.fresh) }
joined Equal s t = record { drops = s.drops; adds = s.adds + t.adds; fresh = t.fresh }
joined Greater s t = record { drops = s.drops + (t.drops - length s.fresh); adds = t.adds; fresh = t.fresh }

abbrev pub and_then : Effect → Effect → Effect
and_then s t = joined (nat_cmp t.drops (length s.fresh)) s t

-- Which effect comes first, between effects of paths from one vertex to another: the one that drops fewer
abbrev pub effect_cmp : Effect → Effect → Ordering
effect_cmp s t = ordering_then (nat_cmp s.drops t.drops) (ordering_then (nat_cmp s.adds t.adds) (counters_cmp s.fresh t.fresh))

-- of a vertex
abbrev pub effect_by : Option Kind → Effect
effect_by None = nothing
effect_by (Some kind) = effect_of kind

-- an effect on at most three loops, with numbers up to this bound
pub record IsSmall (bound : ℕ) (s : Effect) : Type 0 where
  pub drops : s.drops ≤ 3
  pub adds : s.adds ≤ bound
  pub fresh : AllByRecursion (λ x. x ≤ bound) s.fresh
  pub few : length s.fresh ≤ 3
