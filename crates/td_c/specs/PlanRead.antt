-- The plan that a text spells, by the closures of a store.
use Rattle.std.specs.Prelude.{◌≡◌, ◌⊎◌, ℕ, List, Option, Some, None}
use Rattle.std.specs.Str.{IsUtf8}
use Rattle.td_plan.specs.declared.error.PlanError.TheVariants as faults
use Rattle.td_plan.specs.Lines.{Line}
use Rattle.td_plan.specs.Blocks.{vertices}
use Rattle.td_plan.specs.Texts.{PlanText, PlanFault}
use Rattle.td_calls.specs.declared.error.CallsError.{CallsError}
use Rattle.td_calls.specs.Fits.{first_lack}
use Rattle.td_c.specs.declared.refusal.Refusal.{Refusal}
use Rattle.td_c.specs.declared.refusal.Refusal.TheVariants as refusals
use Rattle.td_calls.specs.Stored.{Stored}

module _ (stored : Stored) where
  -- the first vertex of a plan whose closure is not stored
  abbrev pub first_lacking : List Line → Option CallsError
  first_lacking plan = first_lack stored.codes (vertices plan)

  -- the text spells this plan, whose closures are all stored
  pub record IsPlanOf (text : List ℕ) (plan : List Line) : Type 0 where
    pub spelled : PlanText text plan
    pub closures : first_lacking plan ≡ None

  -- it spells such a plan
  pub record HasPlan (text : List ℕ) : Type 0 where
    pub plan : List Line
    pub is_plan : IsPlanOf text plan

  -- it spells a plan of which this is the first closure that is lacking
  pub record LacksClosure (text : List ℕ) (lack : CallsError) : Type 0 where
    pub plan : List Line
    pub spelled : PlanText text plan
    pub first : first_lacking plan ≡ Some lack

  -- why it does not
  abbrev pub PlanRefused : List ℕ → Refusal → Type 0
  PlanRefused text (refusals.Plan fault) = (fault ≡ faults.Memory) ⊎ PlanFault text fault
  PlanRefused text refusals.Text = ¬ IsUtf8 text
  PlanRefused text (refusals.Closure lack) = LacksClosure text lack
  PlanRefused text _ = ⊥
