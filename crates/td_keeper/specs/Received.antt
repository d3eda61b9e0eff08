-- A submit under a request number, and what it comes to.
use Rattle.std.specs.Prelude.{◌≡◌, ℕ, true, false, List, [], ◌∷◌}
use Rattle.td_stamp.specs.declared.values.Entry.{Entry}
use Rattle.td_journal.specs.declared.payload.Submitted.{Submitted}
use Rattle.td_store.specs.standing.Standing.{last_epoch, last_request, submission}
use Rattle.td_keeper.specs.declared.receipt.Receipt.{Receipt}
use Rattle.td_keeper.specs.declared.receipt.Receipt.TheVariants.{New, Already}
use Rattle.td_keeper.specs.Keeping.{Keeping, with_batch}
use Rattle.td_keeper.specs.Refused.{is_new}

-- THE BATCH IS THE NEXT EPOCH, with this number; or the number is there already, and nothing changed
abbrev pub IsReceived : {D : Type 0} → ℕ → List Entry → Receipt → Keeping D → Keeping D → Type 0
IsReceived request batch (New epoch) old new = (is_new old.standing request ≡ true) × (epoch ≡ last_epoch new.standing) × (new ≡ with_batch old new.device request batch)
IsReceived request batch (Already last) old new = (is_new old.standing request ≡ false) × (last ≡ last_request old.standing) × (new ≡ old)

-- what it submitted
abbrev pub received_in : ℕ → List Entry → Receipt → List Submitted
received_in request batch (New epoch) = submission request batch ∷ []
received_in request batch (Already last) = []
