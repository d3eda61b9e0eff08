-- What is read after an epoch that has passed.
use Rattle.std.proofs.Common.{◌≡◌, ℕ, ◌≤◌, ◌<◌, true, ap, sym, ◌∙◌, subst}
use Rattle.td_calls.specs.Answers.{Answers}
use Rattle.td_machine.specs.State.{HallState}
use Rattle.td_machine.specs.Active.{has_passed}
use Rattle.td_machine.specs.Sound.{Sound, run_states}
use Rattle.td_core.specs.declared.hall.Parts.{Parts}
use Rattle.td_core.specs.Parts.{state_of}
use Rattle.td_shard.specs.After.{states_after}

-- the states after an epoch, as the parts of a hall have them, are those of the batch meaning
pub read_meant : (answers : Answers) (parts : Parts) → Sound answers (state_of parts) → (S : HallState) → state_of parts ≡ S
    → (e : ℕ) → S.base ≤ e → e < S.next → has_passed (state_of parts) e ≡ true → states_after e parts.states parts.versions ≡ run_states answers S e
read_meant answers parts sound S same e after before passed =
    sound.states e (subst (λ T. T.base ≤ e) (sym same) after) (subst (λ T. e < T.next) (sym same) before) passed ∙ ap (λ T. run_states answers T e) same
