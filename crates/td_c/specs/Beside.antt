-- A call with closures in text: they stand beside those of the catalogue.
use Rattle.std.specs.Prelude.{◌≡◌, ◌⊎◌, ℕ, List, map}
use Rattle.std.specs.Str.{IsUtf8}
use Rattle.td_formula.specs.declared.closure.Closure.{Closure}
use Rattle.td_closures.specs.declared.fault.Wrong.TheVariants as wrongs
use Rattle.td_closures.specs.Texts.{ClosuresText, IsFirstFault}
use Rattle.td_closures.specs.Kept.{said_by}
use Rattle.td_c.specs.declared.values.TdRecord.{TdRecord}
use Rattle.td_c.specs.declared.values.TdState.{TdState}
use Rattle.td_c.specs.declared.values.TdCounts.{TdCounts}
use Rattle.td_c.specs.declared.refusal.Refusal.{Refusal}
use Rattle.td_c.specs.declared.refusal.Refusal.TheVariants as refusals
use Rattle.td_calls.specs.Stored.{Stored}
use Rattle.td_formula.specs.Stored.{stored_beside}
use Rattle.td_c.specs.Stores.{stored_catalogue}
use Rattle.td_c.specs.PlanRead.{HasPlan, PlanRefused}
use Rattle.td_c.specs.Epoch.{EpochWritten, EpochRefused}

-- THE TEXT SPELLS CLOSURES, and this holds of the catalogue with them beside it
pub record HoldsBeside (text : List ℕ) (P : Stored → Type 0) : Type 0 where
  pub closures : List Closure
  pub spelled : ClosuresText text (map said_by closures)
  pub holds : P (stored_beside stored_catalogue closures)

-- why it spells none
abbrev pub ClosuresRefused : List ℕ → Refusal → Type 0
ClosuresRefused text (refusals.Closures fault) = (fault.wrong ≡ wrongs.Memory) ⊎ IsFirstFault text fault
ClosuresRefused text refusals.ClosuresText = ¬ IsUtf8 text
ClosuresRefused text _ = ⊥

-- a text spells a plan whose closures are all there; or why not
abbrev pub HasPlanBeside : List ℕ → List ℕ → Type 0
HasPlanBeside closures text = HoldsBeside closures (λ stored. HasPlan stored text)

abbrev pub PlanRefusedBeside : List ℕ → List ℕ → Refusal → Type 0
PlanRefusedBeside closures text refusal =
    ClosuresRefused closures refusal ⊎ HoldsBeside closures (λ stored. PlanRefused stored text refusal)

-- the epoch was done by them; or why not, and where the closures are refused, the counts are as they were
abbrev pub EpochWrittenBeside : List ℕ → List ℕ → List TdRecord → List TdState → List TdState → List TdRecord → List TdRecord → TdCounts → TdCounts → Type 0
EpochWrittenBeside closures text records states states' outputs outputs' counts counts' =
    HoldsBeside closures (λ stored. EpochWritten stored text records states states' outputs outputs' counts counts')

abbrev pub EpochRefusedBeside : List ℕ → List ℕ → List TdRecord → List TdState → List TdRecord → TdCounts → TdCounts → Refusal → Type 0
EpochRefusedBeside closures text records states outputs counts counts' refusal =
    (ClosuresRefused closures refusal × (counts' ≡ counts))
    ⊎ HoldsBeside closures (λ stored. EpochRefused stored text records states outputs counts counts' refusal)
