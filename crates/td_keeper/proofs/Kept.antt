-- What a keeper keeps right in its memory, from one call to the next.
use Rattle.std.proofs.Common.{◌≡◌, ℕ, zero, suc, ◌+◌, ◌-◌, ◌^◌, ◌<◌, ◌≤◌, true, List, [], ◌∷◌, ◌++◌, length, take, drop, refl, sym, ap, ◌∙◌, subst, arith}
use Rattle.std.specs.Prelude.{All, Option, Some, None, Bool, false}
use Rattle.std.proofs.lemmas.List.{length-append, length-drop, length-map, map-append, take-append-le}
use Rattle.std.proofs.lemmas.List.Elements.{All-append, All-cons, All-nil, All-drop}
use Rattle.td_stamp.specs.declared.values.Entry.{Entry}
use Rattle.td_stamp.specs.declared.epoch_out.EpochOut.{EpochOut}
use Rattle.td_plan.specs.Lines.{Line}
use Rattle.td_plan.specs.Tree.{tree_of}
use Rattle.td_calls.specs.Answers.{Answers}
use Rattle.td_batch.specs.Meaning.{states_after, run}
use Rattle.td_head.specs.declared.head.Head.{Head}
use Rattle.td_slots.specs.Slot.{are_states}
use Rattle.td_slots.specs.declared.slots.Checkpoint.{Checkpoint}
use Rattle.td_journal.specs.Cell.{is_batch}
use Rattle.td_journal.specs.declared.payload.Submitted.{Submitted}
use Rattle.td_store.specs.group.Groups.{AreBatches}
use Rattle.td_store.specs.standing.Standing.{Standing, standing_from, batches_of, last_epoch, nothing_told, with_more, cut_at}
use Rattle.td_store.specs.standing.Told.{inputs_of, folds_of}
use Rattle.td_store.specs.standing.Tells.{side_after}
use Rattle.td_store.specs.standing.Read.{MayStand}
use Rattle.td_watch.specs.View.{View}
use Rattle.td_watch.specs.Words.{IsAtMost, KeepsOrder}
use Rattle.td_keeper.specs.Keeping.{Keeping, keeping_of, IsKeeping, IsFreshlyOpened, with_epochs, with_checkpoint, words_at, words_of, published, IsBelow}

-- a writer that published words is not above them
at_most_itself : (words : List ℕ) → IsAtMost words words
at_most_itself words = (omega arith, omega arith, omega arith)

pub now_published : (o : Option View) (words : List ℕ) → IsBelow (published o words) words
now_published None words = tt
now_published (Some v) words = at_most_itself words

-- each batch of a group, one by one
all_batches : (inputs : List ℕ) (x : List Submitted) → AreBatches inputs x → All (λ s. is_batch inputs s.batch ≡ true) x
all_batches inputs [] all = All-nil (λ (s : Submitted). is_batch inputs s.batch ≡ true)
all_batches inputs (s ∷ x) all = All-cons (λ (s : Submitted). is_batch inputs s.batch ≡ true) s x all.0 (all_batches inputs x all.1)

module _ {D : Type 0} (answers : Answers) (k : Keeping D) where
  abbrev b : List (List Entry)
  b = batches_of k.standing.submitted

  -- it was just opened
  pub opened : IsFreshlyOpened k → MayStand k.plan k.head k.side k.standing → IsKeeping k answers
  opened fresh stands =
      let none : k.base - k.standing.epoch ≡ 0 = omega (arith, fresh.base) in
      record {
        which = stands.which;
        batches = stands.batches;
        few = stands.few;
        small = stands.small;
        states = stands.states;
        from_checkpoint = omega (arith, fresh.base);
        released = omega (arith, fresh.base);
        base_states = fresh.base_states ∙ ap (λ (n : ℕ). states_after answers (tree_of k.plan) k.standing.states b n) (sym none);
        collected = omega (arith, fresh.base, fresh.collected);
        done = omega (arith, fresh.collected);
        watched = subst (λ (o : Option View). IsBelow o (words_of k)) (sym fresh.unwatched) tt;
      }

  -- some epochs more
  pub submitted : (device : D) (x : List Submitted) → IsKeeping k answers → AreBatches (inputs_of k.plan) x
      → length k.standing.submitted + length x ≤ k.head.shape.n → last_epoch k.standing + length x < 2 ^ 63 → IsKeeping (with_epochs k device x) answers
  submitted device x is lawful room small =
      let w = k.standing.submitted in
      let P : Submitted → Type 0 = λ s. is_batch (inputs_of k.plan) s.batch ≡ true in
      let n = k.base - k.standing.epoch in
      let size : length (w ++ x) ≡ length w + length x = length-append w x in
      let most : n ≤ length b = omega (arith, is.from_checkpoint, is.released, length-map w (λ s. s.batch)) in
      let same : take n (batches_of (w ++ x)) ≡ take n b = ap (take n) (map-append (λ s. s.batch) w x) ∙ take-append-le n b (batches_of x) most in
      record {
        which = is.which;
        batches = All-append P w x is.batches (all_batches (inputs_of k.plan) x lawful);
        few = omega (arith, room, size);
        small = omega (arith, small, size);
        states = is.states;
        from_checkpoint = is.from_checkpoint;
        released = omega (arith, is.released, size);
        base_states = is.base_states ∙ ap (λ (l : List (List Entry)). (run answers (tree_of k.plan) k.standing.states l).states) (sym same);
        collected = is.collected;
        done = omega (arith, is.done, size);
        watched = now_published k.watch (words_at (with_more k.standing x) k.collected);
      }

  side_is : (side n : ℕ) → side_after side n ≤ 1
  side_is zero zero = omega arith
  side_is zero (suc n) = omega arith
  side_is (suc side) n = omega arith

  -- the cut is the checkpoint
  pub written : (device : D) → IsKeeping k answers → are_states (folds_of k.plan) k.base_states ≡ true → IsKeeping (with_checkpoint k device) answers
  written device is lawful =
      let w = k.standing.submitted in
      let n = k.base - k.standing.epoch in
      let P : Submitted → Type 0 = λ s. is_batch (inputs_of k.plan) s.batch ≡ true in
      let size : length (drop n w) ≡ length w - n = length-drop n w in
      let none : k.base - (k.standing.epoch + n) ≡ 0 = omega (arith, is.from_checkpoint) in
      record {
        which = side_is k.side n;
        batches = All-drop P n w is.batches;
        few = omega (arith, is.few, size);
        small = omega (arith, is.small, is.released, is.from_checkpoint, size);
        states = lawful;
        from_checkpoint = omega (arith, is.from_checkpoint);
        released = omega (arith, is.released, is.from_checkpoint, size);
        base_states = ap (λ (m : ℕ). states_after answers (tree_of k.plan) k.base_states (batches_of (drop n w)) m) (sym none);
        collected = is.collected;
        done = omega (arith, is.done, is.released, is.from_checkpoint, size);
        watched = now_published k.watch (words_at (cut_at k.standing n k.base_states) k.collected);
      }

-- as it is opened, and as it sees itself then
module _ {D : Type 0} (answers : Answers) (device : D) (plan : List Line) (head : Head) (c : Checkpoint) (w : List Submitted) (collected : ℕ) (q : List EpochOut) where
  abbrev new : Keeping D
  new = keeping_of device plan head c w false None collected q None

  pub fresh : collected ≡ c.epoch → q ≡ [] → IsFreshlyOpened new
  fresh e none = record { whole = refl; base = refl; base_states = refl; none_waits = refl; collected = e; queue = none; unwatched = refl }

  pub new_keeping : collected ≡ c.epoch → q ≡ [] → MayStand plan head c.slot (standing_from c w) → IsKeeping new answers
  new_keeping e none stands = opened answers new (fresh e none) stands

-- nothing stands after a format
pub nothing_stands : (plan : List Line) (head : Head) (s : Standing) (side : ℕ) → s ≡ nothing_told → side ≡ 0 → MayStand plan head side s
nothing_stands plan head s side is at = record {
  which = omega (arith, at);
  states = ap (λ (t : Standing). are_states (folds_of plan) t.states) is;
  batches = subst (λ (t : Standing). All (λ x. is_batch (inputs_of plan) x.batch ≡ true) t.submitted) (sym is) (All-nil (λ (x : Submitted). is_batch (inputs_of plan) x.batch ≡ true));
  few = subst (λ (t : Standing). length t.submitted ≤ head.shape.n) (sym is) (omega arith);
  small = subst (λ (t : Standing). last_epoch t < 2 ^ 63) (sym is) (omega arith);
}

-- the device is another, and failed or not
pub elsewhere : {D : Type 0} (answers : Answers) (k : Keeping D) (device : D) (broken : Bool) → IsKeeping k answers → IsKeeping (record k { device = device; broken = broken }) answers
elsewhere answers k device broken is = record {
  which = is.which;
  batches = is.batches;
  few = is.few;
  small = is.small;
  states = is.states;
  from_checkpoint = is.from_checkpoint;
  released = is.released;
  base_states = is.base_states;
  collected = is.collected;
  done = is.done;
  watched = is.watched;
}

-- and the cut waits no more
pub set_down : {D : Type 0} (answers : Answers) (k : Keeping D) (device : D) (broken waiting : Bool) → IsKeeping k answers → IsKeeping (record k { device = device; broken = broken; waiting = waiting }) answers
set_down answers k device broken waiting is = record {
  which = is.which;
  batches = is.batches;
  few = is.few;
  small = is.small;
  states = is.states;
  from_checkpoint = is.from_checkpoint;
  released = is.released;
  base_states = is.base_states;
  collected = is.collected;
  done = is.done;
  watched = is.watched;
}

-- the words of a keeper are in order
pub in_order : {D : Type 0} (answers : Answers) (k : Keeping D) → IsKeeping k answers → KeepsOrder (words_of k)
in_order answers k is = (omega (arith, is.from_checkpoint, is.collected), is.done)
