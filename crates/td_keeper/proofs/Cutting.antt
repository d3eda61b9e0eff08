-- The cut that a keeper writes.
use Rattle.std.proofs.Common.{◌≡◌, ◌==◌, ℕ, zero, suc, ◌+◌, ◌-◌, ◌^◌, ◌<◌, ◌≤◌, true, false, Bool, List, [], ◌∷◌, length, take, drop, append-nil, refl, sym, ap, ◌∙◌, subst, arith}
use Rattle.std.specs.Prelude.{Option, Some, None, max, nat_lt, not, if◌then◌else◌}
use Rattle.std.proofs.lemmas.Bool.{ltb-true, ltb-false, le-ltb}
use Rattle.std.specs.List.{list_all, list_any}
use Rattle.std.proofs.lemmas.List.{take-map}
use Rattle.td_stamp.specs.declared.values.Entry.{Entry}
use Rattle.td_stamp.specs.declared.epoch_out.EpochOut.{EpochOut}
use Rattle.td_stamp.specs.States.{StateList, AreStates}
use Rattle.td_plan.specs.Lines.{Line}
use Rattle.td_plan.specs.Faults.{IsPlan}
use Rattle.td_plan.specs.Tree.{tree_of}
use Rattle.td_calls.specs.Answers.{Answers}
use Rattle.td_batch.specs.Meaning.{run, states_after}
use Rattle.td_batch.specs.Folds.{are_kept_by}
use Rattle.td_gate.specs.Reading.{Each}
use Rattle.td_head.specs.declared.head.Head.{Head}
use Rattle.td_slots.specs.Slot.{are_states, FitsState}
use Rattle.td_slots.specs.declared.slots.Checkpoint.{Checkpoint}
use Rattle.td_journal.specs.Numbers.{greatest}
use Rattle.td_journal.specs.declared.payload.Submitted.{Submitted}
use Rattle.td_watch.specs.View.{View}
use Rattle.td_store.specs.standing.Standing.{Standing, standing_from, batches_of, with_more, cut_at}
use Rattle.td_store.specs.standing.Stops.{Advance}
use Rattle.td_store.specs.standing.Told.{folds_of}
use Rattle.td_store.specs.standing.Tells.{IsCut, side_after}
use Rattle.td_store.specs.standing.Advanced.{states_by}
use Rattle.td_store.specs.declared.standing.error.KeeperError.TheVariants.{Broken, TooManyKeys}
use Rattle.td_keeper.specs.Refused.{write_refusal}
use Rattle.td_keeper.specs.declared.keeper.Taken.{Taken}
use Rattle.td_keeper.specs.Keeping.{Keeping, keeping_of, IsKeeping, with_checkpoint, words_at, published}

-- the laws, as they are handed in
abbrev pub Folded : Answers → Type 0
Folded answers = (plan : List Line) (states : StateList) (batches : List (List Entry)) → IsPlan plan → are_kept_by (folds_of plan) states ≡ true → are_kept_by (folds_of plan) (run answers (tree_of plan) states batches).states ≡ true

abbrev pub Ordered : Type 0
Ordered = (folds : List ℕ) (states : StateList) → AreStates states → list_all (λ s. list_any (λ v. v == s.0.0) folds) states ≡ true → are_states folds states ≡ true

abbrev pub Named : Type 0
Named = (folds : List ℕ) (states : StateList) → are_states folds states ≡ true → list_all (λ s. list_any (λ v. v == s.0.0) folds) states ≡ true

-- the greatest number of the first epochs, and then of the others
pub cut_last : (q n : ℕ) (w : List Submitted) → greatest (greatest q (take n w)) (drop n w) ≡ greatest q w
cut_last q zero w = refl
cut_last q (suc n) [] = refl
cut_last q (suc n) (s ∷ w) = cut_last (max q s.request) n w

-- no batches more
pub with_none : (s : Standing) → with_more s [] ≡ s
with_none s = λ i. record { epoch = s.epoch; states = s.states; last = s.last; submitted = append-nil s.submitted i }

module _ {D : Type 0} (answers : Answers) (k : Keeping D) (is : IsKeeping k answers) where
  abbrev n : ℕ
  n = k.base - k.standing.epoch

  -- its states are of folds
  pub lawful : Folded answers → Ordered → Named → IsPlan k.plan → AreStates k.base_states → are_states (folds_of k.plan) k.base_states ≡ true
  lawful folded ordered named plan sorted =
      let kept : list_all (λ s. list_any (λ v. v == s.0.0) (folds_of k.plan)) (states_after answers (tree_of k.plan) k.standing.states (batches_of k.standing.submitted) n) ≡ true =
      folded k.plan k.standing.states (take n (batches_of k.standing.submitted)) plan (named (folds_of k.plan) k.standing.states is.states) in
      ordered (folds_of k.plan) k.base_states sorted (subst (λ (s : StateList). list_all (λ s. list_any (λ v. v == s.0.0) (folds_of k.plan)) s ≡ true) (sym is.base_states) kept)

  pub most : n ≤ length k.standing.submitted
  most = omega (arith, is.released, is.from_checkpoint)

  -- it may stand in a slot
  pub is_cut : are_states (folds_of k.plan) k.base_states ≡ true → length k.base_states ≤ k.head.shape.k → k.head.shape.k < 2 ^ 32 → Each FitsState k.base_states
      → IsCut k.plan k.head.shape k.standing n k.base_states
  is_cut states few room fits = record {
    most = most;
    small = omega (arith, is.small, is.released, is.from_checkpoint);
    same = λ none. is.base_states ∙ ap (λ (m : ℕ). states_after answers (tree_of k.plan) k.standing.states (batches_of k.standing.submitted) m) none;
    fit = record { few = few; room = room; lawful = states; fits = fits };
  }

  -- it is an advance of the standing
  pub advance : Advance (states_by answers k.plan) k.standing (cut_at k.standing n (run answers (tree_of k.plan) k.standing.states (batches_of (take n k.standing.submitted))).states)
      → Advance (states_by answers k.plan) (with_more k.standing []) (cut_at k.standing n k.base_states)
  advance by_run =
      let same : (run answers (tree_of k.plan) k.standing.states (batches_of (take n k.standing.submitted))).states ≡ k.base_states =
      ap (λ (l : List (List Entry)). (run answers (tree_of k.plan) k.standing.states l).states) (sym (take-map (λ s. s.batch) n k.standing.submitted)) ∙ sym is.base_states in
      subst (λ (s : Standing). Advance (states_by answers k.plan) s (cut_at k.standing n k.base_states)) (sym (with_none k.standing))
      (subst (λ (states : StateList). Advance (states_by answers k.plan) k.standing (cut_at k.standing n states)) same by_run)

-- what the keeper is once it is written
pub as_written : {D : Type 0} (old new : D) (plan : List Line) (head : Head) (c d : Checkpoint) (w v : List Submitted) (broken : Bool) (cut : Taken) (collected : ℕ) (q : List EpochOut) (watch : Option View)
    → c.epoch ≤ cut.epoch → d.slot ≡ side_after c.slot (cut.epoch - c.epoch) → d.epoch ≡ cut.epoch → d.last ≡ greatest c.last (take (cut.epoch - c.epoch) w) → d.states ≡ cut.states → v ≡ drop (cut.epoch - c.epoch) w
    → keeping_of new plan head d v broken None collected q (published watch (words_at (standing_from d v) collected)) ≡ with_checkpoint (keeping_of old plan head c w broken (Some cut) collected q watch) new
as_written old new plan head c d w v broken cut collected q watch after slot epoch last states rest =
    let at : d.epoch ≡ c.epoch + (cut.epoch - c.epoch) = omega (arith, epoch, after) in
    λ i. record {
      device = new;
      plan = plan;
      head = head;
      side = slot i;
      standing = record { epoch = at i; states = states i; last = last i; submitted = rest i };
      broken = broken;
      base = epoch i;
      base_states = states i;
      waiting = false;
      collected = collected;
      queue = q;
      watch = published watch (words_at (record { epoch = at i; states = states i; last = last i; submitted = rest i }) collected);
    }

pub not_above : (a b : ℕ) → (a < b → ⊥) → b ≤ a
not_above a b no_ = by (nat_lt a b) refl
  where
    by : (t : Bool) → nat_lt a b ≡ t → b ≤ a
    by true is = absurd (no_ (ltb-true a b is))
    by false is = ltb-false a b is

-- a cut that fits is not refused
pub write_none : {D : Type 0} (k : Keeping D) → k.broken ≡ false → length k.base_states ≤ k.head.shape.k → write_refusal k ≡ None
write_none k whole few = by k.broken k.waiting (nat_lt k.head.shape.k (length k.base_states)) whole (le-ltb k.head.shape.k (length k.base_states) few)
  where
    by : (a b c : Bool) → a ≡ false → c ≡ false → (if a then Some Broken else (if not b then None else (if c then Some TooManyKeys else None))) ≡ None
    by true b c x y = absurd cc
    by false b true x y = absurd cc
    by false true false x y = refl
    by false false false x y = refl
