-- The lines of one more epoch.
use Rattle.std.proofs.Common.{◌≡◌, ℕ, ◌+◌, List, [], ◌∷◌, ◌++◌, length, refl, ap, ◌∙◌, arith, append-nil}
use Rattle.std.specs.Prelude.{flat_map}
use Rattle.std.proofs.lemmas.Grind.{flat_map-append}
use Rattle.td_stamp.specs.declared.values.Entry.{Entry}
use Rattle.td_stamp.specs.declared.values.Output.{Output}
use Rattle.td_stamp.specs.declared.epoch_out.EpochOut.{EpochOut}
use Rattle.td_stamp.specs.States.{StateList}
use Rattle.td_plan.specs.Tree.{Nodes}
use Rattle.td_calls.specs.Answers.{Answers}
use Rattle.td_batch.specs.Meaning.{EpochInput, epoch_result, run, numbered}
use Rattle.td_console.specs.Answer.{output_line, output_text}

-- one more number
numbered-push : (first : ℕ) (outs : List (List Output)) (last : List Output) → numbered first (outs ++ last ∷ []) ≡ numbered first outs ++ record { epoch = first + length outs; recs = last } ∷ []
numbered-push first [] last = let e : first ≡ first + 0 = omega arith in λ i. record { epoch = e i; recs = last } ∷ []
numbered-push first (out ∷ outs) last =
    let e : (first + 1) + length outs ≡ first + length (out ∷ outs) = omega arith in
    λ i. record { epoch = first; recs = out } ∷ (numbered-push (first + 1) outs last ∙ ap (λ n. numbered (first + 1) outs ++ record { epoch = n; recs = last } ∷ []) e) i

-- there is an output for each batch
pub length-outs : (answers : Answers) (nodes : Nodes) (states : StateList) (batches : List (List Entry)) → length (run answers nodes states batches).outs ≡ length batches
length-outs answers nodes states [] = refl
length-outs answers nodes states (batch ∷ later) =
    let epoch : EpochInput = record { answers = answers; states = states; batch = batch } in
    let e = length-outs answers nodes (epoch_result epoch nodes).states later in omega (arith, e)

-- the lines of the epochs so far, and then those of the next one
pub lines-push : (answers : Answers) (nodes : Nodes) (states : StateList) (batches : List (List Entry)) (last : List Output) (n : ℕ) → n ≡ 1 + length batches
    → output_text (numbered 1 ((run answers nodes states batches).outs ++ last ∷ [])) ≡ output_text (numbered 1 (run answers nodes states batches).outs) ++ flat_map (output_line n) last
lines-push answers nodes states batches last n at =
    let outs = (run answers nodes states batches).outs in
    let here : 1 + length outs ≡ n = omega (arith, at, length-outs answers nodes states batches) in
    ap output_text (numbered-push 1 outs last)
    ∙ flat_map-append (λ (e : EpochOut). flat_map (output_line e.epoch) e.recs) (numbered 1 outs) (record { epoch = 1 + length outs; recs = last } ∷ [])
    ∙ ap (λ l. output_text (numbered 1 outs) ++ l) (append-nil (flat_map (output_line (1 + length outs)) last) ∙ ap (λ m. flat_map (output_line m) last) here)
