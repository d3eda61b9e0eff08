-- Any number of stops: what a disk tells after each is a beginning of all that was submitted.
use Rattle.std.proofs.Common.{◌≡◌, ℕ, ◌+◌, List, [], ◌++◌, length, take, refl, sym, ap, ◌∙◌}
use Rattle.std.proofs.lemmas.List.{append_assoc, take-append-drop, length-append, length-take-le}
use Rattle.td_stamp.specs.declared.values.Entry.{Entry}
use Rattle.td_stamp.specs.States.{StateList}
use Rattle.td_journal.specs.declared.payload.Submitted.{Submitted}
use Rattle.td_journal.specs.Numbers.{greatest}
use Rattle.td_store.specs.standing.Standing.{Standing, batches_of, with_more}
use Rattle.td_store.specs.standing.Stops.{Begins, Advance, Stands}
use Rattle.td_store.proofs.standing.Requests.{greatest-append, batches-append}

module _ (run : StateList → List (List Entry) → StateList) (in_parts : (s : StateList) (x y : List (List Entry)) → run s (x ++ y) ≡ run (run s x) y) where
  pub stands_again : (s t : Standing) (h x : List Submitted) → Stands run s h → Advance run (with_more s x) t
      → (g : List Submitted) × Begins g (h ++ x) × Stands run t g
  stands_again s t h x stands step =
      let w : List Submitted = s.submitted ++ x in
      let b : List Submitted = stands.before in
      let done : List Submitted = take step.k w in
      let rest : List Submitted = step.submitted.0 in
      let states : t.states ≡ run [] (batches_of (b ++ done)) =
      step.states ∙ ap (λ (v : StateList). run v (batches_of done)) stands.states ∙ sym (in_parts [] (batches_of b) (batches_of done))
      ∙ ap (run []) (sym (batches-append b done)) in
      let last : t.last ≡ greatest 0 (b ++ done) =
      step.last ∙ ap (λ (q : ℕ). greatest q done) stands.last ∙ sym (greatest-append 0 b done) in
      let epochs : length (b ++ done) ≡ t.epoch =
      length-append b done ∙ ap (λ (n : ℕ). length b + n) (length-take-le step.k w step.most) ∙ ap (λ (n : ℕ). n + step.k) stands.epochs ∙ sym step.epoch in
      let whole : h ++ x ≡ ((b ++ done) ++ t.submitted) ++ rest =
      ap (λ (l : List Submitted). l ++ x) stands.whole ∙ append_assoc b s.submitted x
      ∙ ap (λ (l : List Submitted). b ++ l) (sym (take-append-drop step.k w) ∙ ap (λ (l : List Submitted). done ++ l) step.submitted.1)
      ∙ sym (append_assoc b done (t.submitted ++ rest)) ∙ sym (append_assoc (b ++ done) t.submitted rest) in
      ((b ++ done) ++ t.submitted, (rest, whole), record { before = b ++ done; epochs = epochs; states = states; last = last; whole = refl })
