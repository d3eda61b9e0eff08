-- What is collected and cut is the batch meaning's.
use Rattle.std.proofs.Common.{◌≡◌, ℕ, zero, suc, ◌+◌, ◌-◌, ◌≤◌, ◌<◌, Bool, true, false, not, cond, List, [], ◌∷◌, map, filter, find, Option, Some, None, Result, Ok, Err, IfOk, Vec, Global, refl, ap, sym, ◌∙◌, subst, arith}
use Rattle.std.specs.List.{AllByRecursion}
use Rattle.std.proofs.lemmas.Option.{none-some}
use Rattle.td_stamp.specs.declared.epoch_out.EpochOut.{EpochOut}
use Rattle.td_calls.specs.Answers.{Answers}
use Rattle.td_batch.specs.Flow.{numbers_from}
use Rattle.td_machine.specs.State.{HallState}
use Rattle.td_machine.specs.Active.{has_passed, unpassed}
use Rattle.td_machine.specs.Sound.{Sound, run_states}
use Rattle.td_machine.specs.Steps.{to_collect}
use Rattle.td_core.specs.declared.hall.Parts.{Parts}
use Rattle.td_core.specs.declared.cut.Cut.{Cut}
use Rattle.td_core.specs.declared.error.HallError.{HallError}
use Rattle.td_core.specs.Parts.{state_of, IsHall}
use Rattle.td_core.specs.Came.{out_of, passed_since}
use Rattle.td_core.specs.Cuts.{states_after}
use Rattle.td_core.specs.Meant.{IsMeantAt, IsMeant}
use Rattle.td_core.proofs.CollectSteps.{PassedAlike, passed_here}

-- OF NUMBERS IN A ROW, those that pass a test are in the row and pass it
within : (P : ℕ → Type 0) (p : ℕ → Bool) (k n : ℕ) → ((e : ℕ) → k ≤ e → e < k + n → p e ≡ true → P e) → AllByRecursion P (filter p (numbers_from k n))
within P p k zero h = tt
within P p k (suc n) h = by (p k) refl (within P p (suc k) n (λ e from before. h e (omega (arith, from)) (omega (arith, before))))
  where
    by : (b : Bool) → p k ≡ b → AllByRecursion P (filter p (numbers_from (suc k) n)) → AllByRecursion P (cond b (k ∷ filter p (numbers_from (suc k) n)) (filter p (numbers_from (suc k) n)))
    by true e later = (h k (omega arith) (omega arith) e, later)
    by false e later = later

-- where none is found that fails it, all pass it
all_pass : (p : ℕ → Bool) (k n : ℕ) → find (λ e. not (p e)) (numbers_from k n) ≡ None → (m : ℕ) → m < n → p (k + m) ≡ true
all_pass p k zero h m l = absurd (omega (arith, l))
all_pass p k (suc n) h m l = by (p k) refl h (all_pass p (suc k) n) m l
  where
    rest : Option ℕ
    rest = find (λ e. not (p e)) (numbers_from (suc k) n)

    by : (b : Bool) → p k ≡ b → cond (not b) (Some k) rest ≡ None → (rest ≡ None → (m : ℕ) → m < n → p (suc k + m) ≡ true) → (m : ℕ) → m < suc n → p (k + m) ≡ true
    by false e found later m l = absurd (none-some k (sym found))
    by true e found later zero l = let here : k + 0 ≡ k = omega arith in ap p here ∙ e
    by true e found later (suc m) l = let next : k + suc m ≡ suc k + m = omega arith in ap p next ∙ later found m (omega (arith, l))

all_map : {X Y : Type 0} (P : Y → Type 0) (f : X → Y) (xs : List X) → AllByRecursion (λ x. P (f x)) xs → AllByRecursion P (map f xs)
all_map P f [] h = tt
all_map P f (x ∷ xs) h = (h.0, all_map P f xs h.1)

-- OF A SOUND STATE
module _ (answers : Answers) (S : HallState) (sound : Sound answers S) where
  collected_meant : IsMeant answers S (map (out_of S.outputs) (to_collect S))
  collected_meant =
      all_map (IsMeantAt answers S) (out_of S.outputs) (to_collect S)
      (within (λ e. IsMeantAt answers S (out_of S.outputs e)) (has_passed S) (S.collected + 1) (S.next - (S.collected + 1))
      (λ e from before passed based. sound.outputs e based (omega (arith, from)) (omega (arith, before, from)) passed))

  -- where every released epoch after the base has passed, and the base itself has, the last released epoch has passed
  pub last_passed : has_passed S S.base ≡ true → S.base < S.next → unpassed S ≡ None → has_passed S (S.next - 1) ≡ true
  last_passed base few none = by (S.next - 1 - S.base) refl
    where
      by : (m : ℕ) → S.next - 1 - S.base ≡ m → has_passed S (S.next - 1) ≡ true
      by zero e = let is : S.next - 1 ≡ S.base = omega (arith, e, few) in ap (has_passed S) is ∙ base
      by (suc m) e = let is : S.next - 1 ≡ S.base + 1 + m = omega (arith, e, few) in
          ap (has_passed S) is ∙ all_pass (has_passed S) (S.base + 1) (S.next - (S.base + 1)) none m (omega (arith, e))

-- what a hall collects
module _ (answers : Answers) (alike : PassedAlike) (parts : Parts) (inv : IsHall answers parts) (sound : Sound answers (state_of parts)) where
  pub outs_meant : (r : Result (Vec EpochOut Global) HallError) → IfOk r (λ outs. outs.items ≡ map (out_of parts.outputs) (passed_since parts.table.stamps parts.collected parts.next))
      → (S : HallState) → state_of parts ≡ S → IfOk r (λ outs. IsMeant answers S outs.items)
  outs_meant (Ok outs) e S is =
      subst (λ T. IsMeant answers T outs.items) is
      (subst (IsMeant answers (state_of parts)) (sym (e ∙ ap (map (out_of parts.outputs)) (passed_here alike parts inv.counted))) (collected_meant answers (state_of parts) sound))
  outs_meant (Err why) e S is = tt

-- and what it is cut to
module _ (answers : Answers) (parts : Parts) (sound : Sound answers (state_of parts)) (epoch : ℕ) (after : parts.base ≤ epoch) (released : epoch < parts.next)
    (passed : has_passed (state_of parts) epoch ≡ true) where
  pub cut_meant : (r : Result Cut HallError) → IfOk r (λ made. made.epoch ≡ epoch) → IfOk r (λ made. made.states ≡ states_after parts epoch)
      → (S : HallState) → state_of parts ≡ S → IfOk r (λ made. made.states ≡ run_states answers S made.epoch)
  cut_meant (Ok made) e s S is = s ∙ (sound.states epoch after released passed ∙ (λ i. run_states answers (is i) (sym e i)))
  cut_meant (Err why) e s S is = tt
