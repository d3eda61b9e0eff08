-- The batch meaning of batches that go on from a base.
use Rattle.std.proofs.Common.{◌≡◌, ℕ, zero, suc, ◌+◌, ◌≤◌, ◌<◌, List, [], ◌∷◌, ◌++◌, map, take, drop, length, get_or, refl, sym, ap, ◌∙◌, arith}
use Rattle.std.proofs.lemmas.List.{take-append-drop, take-append-le, length-take-le, get_or-append-add, get_or_append_left, drop_more}
use Rattle.td_stamp.specs.declared.values.Entry.{Entry}
use Rattle.td_stamp.specs.declared.values.Output.{Output}
use Rattle.td_stamp.specs.declared.epoch_out.EpochOut.{EpochOut}
use Rattle.td_stamp.specs.States.{StateList}
use Rattle.td_plan.specs.Tree.{Nodes}
use Rattle.td_calls.specs.Answers.{Answers}
use Rattle.td_batch.specs.Meaning.{run, epoch_result, states_after, numbered}
use Rattle.td_batch.specs.Flow.{numbers_from}

-- an epoch's output
abbrev pub out_at : ℕ → List Output → EpochOut
out_at e recs = record { epoch = e; recs = recs }

-- outputs of epochs in a row, as those of a run from its m-th epoch on
pub in_a_row : (f : ℕ → EpochOut) (k m n : ℕ) (outs : List (List Output)) → (0 < n → m + n ≤ length outs) → ((i : ℕ) → i < n → f (k + i) ≡ out_at (k + i) (get_or outs (m + i) []))
    → map f (numbers_from k n) ≡ numbered k (take n (drop m outs))
in_a_row f k m zero outs l h = refl
in_a_row f k m (suc n) outs l h =
    let here : k ≡ k + 0 = omega arith in
    let there : m + 0 ≡ m = omega arith in
    let next : suc k ≡ k + 1 = omega arith in
    let first : f k ≡ out_at k (get_or outs m []) = ap f here ∙ (h 0 (omega arith) ∙ (λ i. out_at (sym here i) (get_or outs (there i) []))) in
    let later = in_a_row f (suc k) (m + 1) n outs (λ some. omega (arith, l (omega arith))) (λ i b.
    let at : suc k + i ≡ k + suc i = omega arith in
    let in_outs : m + suc i ≡ m + 1 + i = omega arith in
    ap f at ∙ (h (suc i) (omega (arith, b)) ∙ (λ j. out_at (sym at j) (get_or outs (in_outs j) [])))) in
    (λ i. first i ∷ later i)
    ∙ (ap (λ j. out_at k (get_or outs m []) ∷ numbered j (take n (drop (m + 1) outs))) next
    ∙ sym (ap (λ l. numbered k (take (suc n) l)) (drop_more outs m [] (omega (arith, l (omega arith))))))

-- the first epochs, and then some of the others
pub take_on : {X : Type 0} (d n : ℕ) (xs : List X) → take (d + n) xs ≡ take d xs ++ take n (drop d xs)
take_on zero n xs = let is : 0 + n ≡ n = omega arith in ap (λ k. take k xs) is
take_on (suc d) n [] = let is : suc d + n ≡ suc (d + n) = omega arith in ap (λ k. take k []) is ∙ none n
  where
    none : {X : Type 0} (n : ℕ) → [] ≡ take {A = X} n []
    none zero = refl
    none (suc n) = refl
take_on (suc d) n (x ∷ xs) = let is : suc d + n ≡ suc (d + n) = omega arith in ap (λ k. take k (x ∷ xs)) is ∙ ap (λ l. x ∷ l) (take_on d n xs)

module _ (answers : Answers) (nodes : Nodes) where
  pub length_outs : (states : StateList) (batches : List (List Entry)) → length (run answers nodes states batches).outs ≡ length batches
  length_outs states [] = refl
  length_outs states (batch ∷ later) = ap suc (length_outs (epoch_result (record { answers = answers; states = states; batch = batch }) nodes).states later)

  module _ (joined_states : (states : StateList) (x y : List (List Entry)) → (run answers nodes states (x ++ y)).states ≡ (run answers nodes (run answers nodes states x).states y).states)
      (joined_outs : (states : StateList) (x y : List (List Entry)) → (run answers nodes states (x ++ y)).outs ≡ (run answers nodes states x).outs ++ (run answers nodes (run answers nodes states x).states y).outs)
      (from : StateList) (all : List (List Entry)) (d : ℕ) (within : d ≤ length all)
      (base : StateList) (based : base ≡ states_after answers nodes from all d)
      (some rest : List (List Entry)) (parts : drop d all ≡ some ++ rest) where
    -- all outputs, from the base's on
    outs_on : (run answers nodes from all).outs ≡ (run answers nodes from (take d all)).outs ++ (run answers nodes base (some ++ rest)).outs
    outs_on =
        ap (λ l. (run answers nodes from l).outs) (sym (take-append-drop d all) ∙ ap (λ l. take d all ++ l) parts)
        ∙ (joined_outs from (take d all) (some ++ rest) ∙ ap (λ s. (run answers nodes from (take d all)).outs ++ (run answers nodes s (some ++ rest)).outs) (sym based))

    pub outs_at : (i : ℕ) → i < length some → get_or (run answers nodes from all).outs (d + i) [] ≡ get_or (run answers nodes base some).outs i []
    outs_at i l =
        let before = (run answers nodes from (take d all)).outs in
        let many : length before ≡ d = length_outs from (take d all) ∙ length-take-le d all within in
        let of_some = length_outs base some in
        ap (λ l. get_or l (d + i) []) outs_on
        ∙ (ap (λ n. get_or (before ++ (run answers nodes base (some ++ rest)).outs) (n + i) []) (sym many)
        ∙ (get_or-append-add before (run answers nodes base (some ++ rest)).outs i []
        ∙ (ap (λ l. get_or l i []) (joined_outs base some rest)
        ∙ get_or_append_left (run answers nodes base some).outs _ [] i (omega (arith, l, of_some)))))

    pub states_on : (n : ℕ) → n ≤ length some → states_after answers nodes from all (d + n) ≡ states_after answers nodes base some n
    states_on n l =
        ap (λ l. (run answers nodes from l).states) (take_on d n all ∙ ap (λ l. take d all ++ take n l) parts ∙ ap (λ l. take d all ++ l) (take-append-le n some rest l))
        ∙ (joined_states from (take d all) (take n some) ∙ ap (λ s. (run answers nodes s (take n some)).states) (sym based))
