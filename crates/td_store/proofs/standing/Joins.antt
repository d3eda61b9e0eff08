-- An advance after a submit or after a cut.
use Rattle.std.proofs.Common.{◌≡◌, ℕ, ◌+◌, ◌≤◌, List, ◌++◌, length, take, drop, sym, ap, ◌∙◌, subst, arith}
use Rattle.std.proofs.lemmas.List.{append_assoc, length-append, length-drop, take-append-le, drop-append-le, drop-drop}
use Rattle.std.proofs.Math.Seq.{take-add}
use Rattle.td_stamp.specs.declared.values.Entry.{Entry}
use Rattle.td_stamp.specs.States.{StateList}
use Rattle.td_journal.specs.declared.payload.Submitted.{Submitted}
use Rattle.td_journal.specs.Numbers.{greatest}
use Rattle.td_store.specs.standing.Standing.{Standing, last_epoch, batches_of, with_more, cut_at}
use Rattle.td_store.specs.standing.Stops.{Advance}
use Rattle.td_store.proofs.standing.Requests.{greatest-append, batches-append}

module _ (run : StateList → List (List Entry) → StateList) where
  -- what was submitted, and then more
  pub after_submit : (s u : Standing) (x y : List Submitted) → Advance run (with_more (with_more s x) y) u → Advance run (with_more s (x ++ y)) u
  after_submit s u x y step =
      let same : with_more (with_more s x) y ≡ with_more s (x ++ y) = λ i. record { epoch = s.epoch; states = s.states; last = s.last; submitted = append_assoc s.submitted x y i } in
      subst (λ (t : Standing). Advance run t u) same step

  -- more that was submitted may be cut off
  pub later : (s u : Standing) (y : List Submitted) → Advance run s u → Advance run (with_more s y) u
  later s u y step =
      let w : List Submitted = s.submitted in
      let done : take step.k (w ++ y) ≡ take step.k w = take-append-le step.k w y step.most in
      let rest : drop step.k (w ++ y) ≡ drop step.k w ++ y = drop-append-le step.k w y step.most in
      record {
        k = step.k;
        most = let e = length-append w y in let m = step.most in omega (arith, e, m);
        epoch = step.epoch;
        states = step.states ∙ ap (λ (l : List Submitted). run s.states (batches_of l)) (sym done);
        last = step.last ∙ ap (greatest s.last) (sym done);
        submitted = (step.submitted.0 ++ y, rest ∙ (ap (λ (l : List Submitted). l ++ y) step.submitted.1 ∙ append_assoc u.submitted step.submitted.0 y));
      }

  -- a cut, and then more
  pub after_cut : ((b : StateList) (x y : List (List Entry)) → run b (x ++ y) ≡ run (run b x) y) → (s u : Standing) (k : ℕ) (states : StateList) (y : List Submitted) → k ≤ length s.submitted
      → states ≡ run s.states (batches_of (take k s.submitted)) → Advance run (with_more (cut_at s k states) y) u → Advance run (with_more s y) u
  after_cut in_parts s u k states y le is step =
      let w : List Submitted = s.submitted in
      let first : List Submitted = take k w in
      let second : List Submitted = take step.k (drop k w ++ y) in
      let past : drop k (w ++ y) ≡ drop k w ++ y = drop-append-le k w y le in
      let done : take (k + step.k) (w ++ y) ≡ first ++ second =
      take-add k step.k (w ++ y) ∙ ap (λ (l : List Submitted). l ++ take step.k (drop k (w ++ y))) (take-append-le k w y le)
      ∙ ap (λ (l : List Submitted). first ++ take step.k l) past in
      record {
        k = k + step.k;
        most = let e = length-append w y in let f = length-append (drop k w) y in let d = length-drop k w in let m = step.most in omega (arith, e, f, d, m, le);
        epoch = let e = step.epoch in omega (arith, e);
        states =
            step.states ∙ ap (λ (b : StateList). run b (batches_of second)) is ∙ sym (in_parts s.states (batches_of first) (batches_of second))
            ∙ ap (run s.states) (sym (batches-append first second)) ∙ ap (λ (l : List Submitted). run s.states (batches_of l)) (sym done);
        last = step.last ∙ sym (greatest-append s.last first second) ∙ ap (greatest s.last) (sym done);
        submitted = (step.submitted.0, sym (drop-drop step.k k (w ++ y)) ∙ ap (drop step.k) past ∙ step.submitted.1);
      }

-- a cut leaves the last epoch
pub last-cut : (s : Standing) (k : ℕ) (states : StateList) → k ≤ length s.submitted → last_epoch (cut_at s k states) ≡ last_epoch s
last-cut s k states le = let d = length-drop k s.submitted in omega (arith, d, le)
