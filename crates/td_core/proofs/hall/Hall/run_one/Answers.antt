use Rattle.std.proofs.Common.{◌≡◌, ℕ, [], sym, ap, ◌∙◌, subst}
use Rattle.std.specs.Prelude.{Result, Ok, Err, Option, IfOk, OnErr}
use Rattle.td_calls.specs.Answers.{Answers}
use Rattle.td_machine.specs.State.{HallState}
use Rattle.td_core.specs.declared.error.HallError.{HallError}
use Rattle.td_core.specs.declared.drain.Drained.{Drained}
use Rattle.td_core.specs.Parts.{state_of}
use Rattle.td_core.specs.Drained.{IsKept, IsTurnIf}
use Rattle.td_core.proofs.DrainSteps.{kept_as_is}
use Rattle.td_core.proofs.DrainParts.{kept_by_turn, none_out_by_turn}
use Rattle.td_core.proofs.hall.Hall.run_one.Goals as goal

module _ (answers : Answers) (S T : HallState) (s : ℕ) where
  kept_after : (r : Result (Option Drained) HallError) → IfOk r (λ d. IsTurnIf answers S s d T) → OnErr r (T ≡ S) → IsKept S T
  kept_after (Ok d) turn same = kept_by_turn answers S T s d turn
  kept_after (Err e) turn same = subst (IsKept S) (sym same) (kept_as_is S)

  none_after : (r : Result (Option Drained) HallError) → IfOk r (λ d. IsTurnIf answers S s d T) → OnErr r (T ≡ S) → S.out ≡ [] → T.out ≡ []
  none_after (Ok d) turn same none = none_out_by_turn answers S T s d turn none
  none_after (Err e) turn same none = ap (λ S. S.out) same ∙ none

pub returns-clause-kept : goal.returns-clause-kept
returns-clause-kept g c =
    subst (λ S. IsKept S (state_of c.advance.new.parts)) c.self.view_is
    (kept_after g.L.Law.answers (state_of c.self.inside.parts) (state_of c.advance.new.parts) c.args.shard c.advance.result c.advance.ensures.turn c.advance.ensures.err)

pub returns-clause-none_out : goal.returns-clause-none_out
returns-clause-none_out g c =
    none_after g.L.Law.answers (state_of c.self.inside.parts) (state_of c.advance.new.parts) c.args.shard c.advance.result c.advance.ensures.turn c.advance.ensures.err
    (ap (λ S. S.out) c.self.view_is ∙ c.requires.none_out)

pub returns-clause-turn : goal.returns-clause-turn
returns-clause-turn g c =
    subst (λ S. IfOk c.advance.result (λ d. IsTurnIf g.L.Law.answers S c.args.shard d (state_of c.advance.new.parts))) c.self.view_is c.advance.ensures.turn
