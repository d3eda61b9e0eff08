-- A keeper's refusal that is handed on as a fault.
use Rattle.std.proofs.Common.{◌≡◌, ◌⊎◌, inl, inr, refl, ◌∙◌, ap, Result, Ok, Err, IfErr}
use Rattle.std.specs.Prelude.{OnOk}
use Rattle.std.specs.Result.{IsErrAnd}
use Rattle.td_store.specs.declared.standing.error.KeeperError.{KeeperError}
use Rattle.td_store.specs.declared.standing.error.KeeperError.TheVariants as keeper
use Rattle.td_console.specs.declared.faults.Fault.{Fault}
use Rattle.td_console.specs.declared.faults.Fault.TheVariants.{Memory, Keeper}
use Rattle.td_console.specs.Refusals.{keeper_fault}
use Rattle.td_report.specs.Shown.{IsRefusedAs}

pub on_ok : {T E P Q : Type 0} (r : Result T E) → (P → Q) → OnOk r P → OnOk r Q
on_ok (Ok x) step is = step is
on_ok (Err e) step is = tt

pub if_err : {T E : Type 0} (r : Result T E) (P Q : E → Type 0) → IsErrAnd r P → ((e : E) → P e → Q e) → IfErr r Q
if_err (Ok x) P Q is step = tt
if_err (Err e) P Q is step = step e is

either : (e : KeeperError) → (keeper_fault e ≡ Memory) ⊎ (keeper_fault e ≡ Keeper e)
either keeper.Memory = inl refl
either _ = inr refl

-- the device and what it counted, memory, or what the refusal tells
module _ (Rose : Type 0) (Tells : KeeperError → Type 0) (e : KeeperError) (f : Fault) where
  pub refused : f ≡ keeper_fault e → (e ≡ keeper.Device → Rose) → (e ≡ keeper.Device) ⊎ ((e ≡ keeper.Memory) ⊎ Tells e)
      → (f ≡ Memory) ⊎ (((f ≡ Keeper keeper.Device) × Rose) ⊎ IsRefusedAs f Tells)
  refused is rose why = by (either e) why
    where
      by : (keeper_fault e ≡ Memory) ⊎ (keeper_fault e ≡ Keeper e) → (e ≡ keeper.Device) ⊎ ((e ≡ keeper.Memory) ⊎ Tells e) → (f ≡ Memory) ⊎ (((f ≡ Keeper keeper.Device) × Rose) ⊎ IsRefusedAs f Tells)
      by (inl m) other = inl (is ∙ m)
      by (inr k) (inl device) = inr (inl (is ∙ k ∙ ap Keeper device, rose device))
      by (inr k) (inr (inl memory)) = inl (is ∙ ap keeper_fault memory)
      by (inr k) (inr (inr told)) = inr (inr (e, is ∙ k, told))
