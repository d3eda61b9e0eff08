-- One more epoch of a run.
use Rattle.std.proofs.Common.{◌≡◌, ℕ, suc, ◌+◌, ◌<◌, List, [], ◌∷◌, ◌++◌, length, take, get_or, refl, ap, sym, ◌∙◌, arith}
use Rattle.std.proofs.lemmas.List.{take_more, length-take}
use Rattle.td_stamp.specs.declared.values.Entry.{Entry}
use Rattle.td_stamp.specs.declared.values.Output.{Output}
use Rattle.td_stamp.specs.declared.epoch_out.EpochOut.{EpochOut}
use Rattle.td_stamp.specs.States.{StateList}
use Rattle.td_plan.specs.Tree.{Nodes}
use Rattle.td_calls.specs.Answers.{Answers}
use Rattle.td_batch.specs.Meaning.{EpochResult, epoch_result, run, numbered}
use Rattle.td_batch.specs.Steps.Emitted.{input_of}
use Rattle.td_batch.proofs.Runs.{states-append, outs-append}

-- one more number
numbered-push : (first : ℕ) (outs : List (List Output)) (last : List Output) → numbered first (outs ++ last ∷ []) ≡ numbered first outs ++ record { epoch = first + length outs; recs = last } ∷ []
numbered-push first [] last = let e : first ≡ first + 0 = omega arith in λ i. record { epoch = e i; recs = last } ∷ []
numbered-push first (out ∷ outs) last =
    let e : (first + 1) + length outs ≡ first + length (out ∷ outs) = omega arith in
    λ i. record { epoch = first; recs = out } ∷ (numbered-push (first + 1) outs last ∙ ap (λ n. numbered (first + 1) outs ++ record { epoch = n; recs = last } ∷ []) e) i

length_taken : {X : Type 0} (xs : List X) (i : ℕ) → i < length xs → length (take i xs) ≡ i
length_taken xs i h = let e = length-take i xs in omega (arith, e, h)

module _ (answers : Answers) (nodes : Nodes) where
  length-outs : (states : StateList) (batches : List (List Entry)) → length (run answers nodes states batches).outs ≡ length batches
  length-outs states [] = refl
  length-outs states (batch ∷ later) = ap suc (length-outs (epoch_result (input_of answers states batch) nodes).states later)

  -- one more epoch goes on from the states so far, and its outputs come last
  pub one_more : (first : ℕ) (states : StateList) (batches : List (List Entry)) (i : ℕ) (d : List Entry) (kept now : StateList) (outs : List EpochOut) (last : List Output) → i < length batches
      → kept ≡ (run answers nodes states (take i batches)).states → outs ≡ numbered first (run answers nodes states (take i batches)).outs
      → now ≡ (epoch_result (input_of answers kept (get_or batches i d)) nodes).states → last ≡ (epoch_result (input_of answers kept (get_or batches i d)) nodes).outs
      → (now ≡ (run answers nodes states (take (i + 1) batches)).states)
      × (outs ++ record { epoch = first + i; recs = last } ∷ [] ≡ numbered first (run answers nodes states (take (i + 1) batches)).outs)
  one_more first states batches i d kept now outs last h keeps so_far after sent =
      let front = take i batches in
      let batch = get_or batches i d in
      let split : take (i + 1) batches ≡ front ++ batch ∷ [] = take_more batches i d h in
      let here : StateList → EpochResult = λ s. epoch_result (input_of answers s batch) nodes in
      let before = run answers nodes states front in (
        sym (ap (λ bs. (run answers nodes states bs).states) split ∙ states-append answers nodes states front (batch ∷ []) ∙ ap (λ s. (here s).states) (sym keeps) ∙ sym after),
        (λ j. so_far j ++ record { epoch = first + (sym (length-outs states front ∙ length_taken batches i h)) j; recs = last } ∷ []) ∙ sym (numbered-push first before.outs last)
            ∙ ap (numbered first)
            (ap (λ o. before.outs ++ o ∷ []) (sent ∙ ap (λ s. (here s).outs) keeps) ∙ sym (outs-append answers nodes states front (batch ∷ []))
            ∙ ap (λ bs. (run answers nodes states bs).outs) (sym split)),
      )
