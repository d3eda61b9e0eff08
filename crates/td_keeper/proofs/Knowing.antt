-- A hall that stands as it did is a keeper's where it was.
use Rattle.std.proofs.Common.{◌≡◌, ◌++◌, ℕ, sym, ap, subst, ⊎_elim, ◌∙◌, true, false, Option, None, Some, IfSome, Result, Ok, Err, IfOk, IfErr}
use Rattle.td_machine.specs.State.{HallState}
use Rattle.td_pool.specs.Stands.{StandsAs}
use Rattle.td_keeper.specs.Keeping.{Keeping}
use Rattle.td_keeper.specs.Halls.{IsOwn}
use Rattle.td_keeper.specs.Calls.{IsWritten, IsUnwritten}
use Rattle.td_keeper.proofs.Owning.{own_aside, own_written}
use Rattle.td_calls.specs.Answers.{Answers}
use Rattle.td_keeper.specs.Keeping.{IsKeeping}
use Rattle.td_store.specs.declared.standing.error.KeeperError.{KeeperError}

module _ {D : Type 0} (k : Keeping D) (S T : HallState) (stands : StandsAs S T) where
  pub own_still : IsOwn k S → IsOwn k T
  own_still own = record {
    plan = stands.plan ∙ own.plan;
    base = stands.base ∙ own.base;
    base_states = stands.base_states ∙ own.base_states;
    collected = stands.collected ∙ own.collected;
    batches = (own.batches.0, own.batches.1 ∙ ap (λ l. l ++ own.batches.0) (sym stands.batches));
  }

  -- and was its where it is
  pub own_before : IsOwn k T → IsOwn k S
  own_before own = record {
    plan = sym stands.plan ∙ own.plan;
    base = sym stands.base ∙ own.base;
    base_states = sym stands.base_states ∙ own.base_states;
    collected = sym stands.collected ∙ own.collected;
    batches = (own.batches.0, own.batches.1 ∙ ap (λ l. l ++ own.batches.0) stands.batches);
  }

-- a moment at which a keeper's hall stands
pub known_own : {D : Type 0} (k : Keeping D) (known : Option HallState) (S : HallState) → IsOwn k S → IfSome known (λ m. StandsAs m S) → IfSome known (IsOwn k)
known_own k None S own it = tt
known_own k (Some m) S own it = own_before k m S it own

-- what was the old keeper's is the new one's
pub known_goes_on : {D : Type 0} (k l : Keeping D) (known : Option HallState) → ((S : HallState) → IsOwn k S → IsOwn l S) → IfSome known (IsOwn k) → IfSome known (IsOwn l)
known_goes_on k l None goes it = tt
known_goes_on k l (Some m) goes it = goes m it

-- whatever a call answered
pub either_way : {A E R : Type 0} {P : A → Type 0} {Q : E → Type 0} (r : Result A E) → IfOk r P → IfErr r Q → ((a : A) → P a → R) → ((e : E) → Q e → R) → R
either_way (Ok a) p q done refused = done a p
either_way (Err e) p q done refused = refused e q

-- a cut that was written, or not
module _ {D : Type 0} (k l : Keeping D) (S : HallState) (own : IsOwn k S) where
  pub own_if_written : (answers : Answers) → IsKeeping k answers → (written : Option ℕ) → IsWritten written k l → IsOwn l S
  own_if_written answers keeping written w =
      ⊎_elim (λ none. subst (λ (q : Keeping D). IsOwn q S) (sym none.2) own)
      (λ done. subst (λ (q : Keeping D). IsOwn q S) (sym done.1) (own_written k S own answers keeping l.device)) w.cut

  pub own_if_unwritten : (error : KeeperError) → IsUnwritten error k l → IsOwn l S
  own_if_unwritten error w =
      ⊎_elim (λ many. subst (λ (q : Keeping D). IsOwn q S) (sym (w.too_many many)) (own_aside k S own k.device k.broken false))
      (λ other. ⊎_elim
      (λ failed. subst (λ (q : Keeping D). IsOwn q S) (sym (w.broken failed)) (own_aside k S own l.device true false))
      (λ same. subst (λ (q : Keeping D). IsOwn q S) (sym same) own) other) w.unchanged
