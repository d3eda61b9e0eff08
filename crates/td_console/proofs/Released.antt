-- A hall into which batches were released, and in which all of their epochs have passed.
use Rattle.std.proofs.Common.{◌≡◌, ℕ, zero, suc, ◌+◌, ◌-◌, ◌<◌, ◌==◌, Bool, true, false, List, [], ◌∷◌, ◌++◌, map, filter, length, refl, ap, sym, ◌∙◌, subst, arith, append-nil, length-append, get_or, inl, inr}
use Rattle.std.proofs.lemmas.Bool.{ne_eqb}
use Rattle.std.specs.List.{AllByRecursion}
use Rattle.std.proofs.lemmas.List.{append_assoc, get_or-append-add}
use Rattle.std.proofs.lemmas.List.Sums.{fold-append}
use Rattle.td_stamp.specs.declared.values.Entry.{Entry}
use Rattle.td_stamp.specs.declared.values.Output.{Output}
use Rattle.td_stamp.specs.declared.epoch_out.EpochOut.{EpochOut}
use Rattle.td_plan.specs.Tree.{tree_of}
use Rattle.td_calls.specs.Answers.{Answers}
use Rattle.td_batch.specs.Flow.{numbers_from}
use Rattle.td_batch.specs.Meaning.{numbered}
use Rattle.td_machine.specs.State.{HallState}
use Rattle.td_machine.specs.Active.{has_passed}
use Rattle.td_machine.specs.Sound.{run_of}
use Rattle.td_machine.specs.Steps.{Answer, ends, with_batch, release_by, release_step, outputs_at, to_collect, collect_step}
use Rattle.td_machine.specs.Steps.Answer.{has_released, has_collected, refused}
use Rattle.td_core.specs.declared.error.HallError.{HallError}
use Rattle.td_core.specs.declared.error.HallError.TheVariants.{Memory}
use Rattle.td_core.specs.Refusals.{IsRefused}
use Rattle.td_core.specs.Meant.{IsMeantAt, IsMeant}
use Rattle.td_console.specs.Turns.{all_released}
use Rattle.td_console.proofs.MoreEpochs.{length-outs}

-- RELEASED: what releases change, and what they leave
pub record IsReleased (S : HallState) (more : List (List Entry)) (T : HallState) : Type 0 where
  pub plan : T.plan ≡ S.plan
  pub workers : T.workers ≡ S.workers
  pub base : T.base ≡ S.base
  pub base_states : T.base_states ≡ S.base_states
  pub batches : T.batches ≡ S.batches ++ more
  pub next : T.next ≡ S.next + length more
  pub closed : T.closed ≡ S.closed
  pub out : T.out ≡ S.out
  pub collected : T.collected ≡ S.collected
  pub taken : T.taken ≡ S.taken

pub is_released : (S : HallState) (batches : List (List Entry)) → IsReleased S batches (all_released S batches)
is_released S [] = record {
  plan = refl;
  workers = refl;
  base = refl;
  base_states = refl;
  batches = sym (append-nil S.batches);
  next = omega arith;
  closed = refl;
  out = refl;
  collected = refl;
  taken = refl;
}
is_released S (batch ∷ later) =
    let r = is_released (with_batch S batch) later in
    record {
      plan = r.plan;
      workers = r.workers;
      base = r.base;
      base_states = r.base_states;
      batches = r.batches ∙ append_assoc S.batches (batch ∷ []) later;
      next = omega (arith, r.next);
      closed = r.closed;
      out = r.out;
      collected = r.collected;
      taken = r.taken;
    }

-- one more batch
pub released-push : (S : HallState) (batches : List (List Entry)) (batch : List Entry) → all_released S (batches ++ batch ∷ []) ≡ with_batch (all_released S batches) batch
released-push S batches batch = fold-append with_batch S batches (batch ∷ [])

-- an open hall with numbers left takes a batch
module _ (S : HallState) (batch : List Entry) (is_open : S.closed ≡ false) (below : S.next < ends) where
  pub release_steps : release_step S batch ≡ (has_released S.next, with_batch S batch)
  release_steps =
      let at_end : (S.next == ends) ≡ false = ne_eqb S.next ends (λ e. let n = S.next in absurd (omega (arith, below, e))) in
      λ i. release_by S (is_open i) (at_end i) batch

  pub is_taken : (epoch : ℕ) (T : HallState) → release_step S batch ≡ (has_released epoch, T) → T ≡ with_batch S batch
  is_taken epoch T e = ap (λ (p : Answer × HallState). p.1) (sym e ∙ release_steps)

  pub only_memory : (error : HallError) → IsRefused (release_step S batch) S error → error ≡ Memory
  only_memory error (inl e) = e
  only_memory error (inr (r, e, is)) = let no : (refused r) ≡ has_released S.next = ap (λ (p : Answer × HallState). p.0) (sym is ∙ release_steps) in cc

filter_all : {X : Type 0} (p : X → Bool) (xs : List X) → AllByRecursion (λ x. p x ≡ true) xs → filter p xs ≡ xs
filter_all p [] h = refl
filter_all p (x ∷ xs) h = rw (h.0, filter_all p xs h.1) refl

-- COLLECTED: where every epoch passed, all outputs of the batch meaning
module _ (answers : Answers) (S : HallState) (base : S.base ≡ 0) where
  abbrev out_at : ℕ → EpochOut
  out_at e = record { epoch = e; recs = outputs_at S e }

  numbers : (before runs : List (List Output)) (k : ℕ) → k ≡ 1 + length before → (run_of answers S).outs ≡ before ++ runs
      → AllByRecursion (IsMeantAt answers S) (map out_at (numbers_from k (length runs))) → map out_at (numbers_from k (length runs)) ≡ numbered k runs
  numbers before [] k at all h = refl
  numbers before (r ∷ runs) k at all h =
      let here : outputs_at S k ≡ r =
      h.0 (omega (arith, base, at))
      ∙ (λ i. get_or (all i) (place i) [])
      ∙ get_or-append-add before (r ∷ runs) 0 [] in
      let rest = numbers (before ++ r ∷ []) runs (suc k) (omega (arith, at, sizes)) (all ∙ sym (append_assoc before (r ∷ []) runs)) h.1 in
      λ i. record { epoch = k; recs = here i } ∷ (rest ∙ next) i
    where
      sizes : length (before ++ r ∷ []) ≡ length before + 1
      sizes = length-append before (r ∷ [])

      place : k - S.base - 1 ≡ length before + 0
      place = omega (arith, base, at)

      next : numbered (suc k) runs ≡ numbered (k + 1) runs
      next = let e : suc k ≡ k + 1 = omega arith in ap (λ m. numbered m runs) e

  all_passed : (k n : ℕ) → k + n ≡ S.next → ((e : ℕ) → e < S.next → has_passed S e ≡ true) → AllByRecursion (λ e. has_passed S e ≡ true) (numbers_from k n)
  all_passed k zero at passed = tt
  all_passed k (suc n) at passed = (passed k (omega (arith, at)), all_passed (suc k) n (omega (arith, at)) passed)

  pub collected_all : S.collected ≡ 0 → 1 + length S.batches ≡ S.next → ((e : ℕ) → e < S.next → has_passed S e ≡ true)
      → (outs : List EpochOut) (T : HallState) → collect_step S ≡ (has_collected outs, T) → IsMeant answers S outs → outs ≡ numbered 1 (run_of answers S).outs
  collected_all collected released passed outs T step meant =
      let runs = (run_of answers S).outs in
      let sizes : length runs ≡ length S.batches = length-outs answers (tree_of S.plan) S.base_states S.batches in
      let all : to_collect S ≡ numbers_from 1 (length runs) =
      filter_all (has_passed S) _ (all_passed (S.collected + 1) (S.next - (S.collected + 1)) (omega (arith, collected, released)) passed)
      ∙ (λ i. numbers_from (from collected i) (count collected released sizes i)) in
      let came : outs ≡ map out_at (to_collect S) = outs_of (ap (λ (p : Answer × HallState). p.0) (sym step)) in
      let is : outs ≡ map out_at (numbers_from 1 (length runs)) = came ∙ ap (map out_at) all in
      is ∙ numbers [] runs 1 refl refl (subst (AllByRecursion (IsMeantAt answers S)) is meant)
    where
      outs_of : {xs ys : List EpochOut} → has_collected xs ≡ has_collected ys → xs ≡ ys
      outs_of e = cc

      from : S.collected ≡ 0 → S.collected + 1 ≡ 1
      from c = omega (arith, c)

      count : {n : ℕ} → S.collected ≡ 0 → 1 + length S.batches ≡ S.next → n ≡ length S.batches → S.next - (S.collected + 1) ≡ n
      count c r s = omega (arith, c, r, s)
