-- An engine that is opened where a disk stands comes to the rest.
use Rattle.std.proofs.Common.{◌≡◌, ℕ, ◌+◌, ◌-◌, ◌<◌, ◌≤◌, Bool, true, false, List, [], ◌∷◌, ◌++◌, length, take, drop, refl, sym, ap, ◌∙◌, subst, arith}
use Rattle.std.specs.Prelude.{Option, Some, None, Result, Ok, Err, ◌&&◌, nat_lt, flat_map, All}
use Rattle.std.proofs.lemmas.List.{append-nil, length-map}
use Rattle.std.proofs.lemmas.List.Elements.{All-nil, All-cons}
use Rattle.std.proofs.lemmas.Grind.{flat_map-append}
use Rattle.std.proofs.Math.Seq.{take_all}
use Rattle.td_stamp.specs.declared.values.Entry.{Entry}
use Rattle.td_stamp.specs.declared.values.Output.{Output}
use Rattle.td_stamp.specs.declared.epoch_out.EpochOut.{EpochOut}
use Rattle.td_stamp.specs.States.{AreStates}
use Rattle.td_plan.specs.Lines.{Line}
use Rattle.td_plan.specs.Faults.{IsPlan}
use Rattle.td_plan.specs.Tree.{tree_of}
use Rattle.td_calls.specs.Answers.{Answers}
use Rattle.td_batch.specs.Meaning.{run, states_after, numbered}
use Rattle.td_machine.specs.State.{HallState}
use Rattle.td_machine.specs.Steps.{Event, Answer, Step, Plays, opened as hall_opened, collect_step}
use Rattle.td_machine.specs.Steps.Event.{taking, collect}
use Rattle.td_machine.specs.Steps.Answer.{has_taken, has_cut}
use Rattle.td_machine.specs.Sound.{outs_by, batches_of as released, CutIs, CutsAre}
use Rattle.td_gate.specs.Region.{opened}
use Rattle.td_gate.specs.Fields.{front_in}
use Rattle.td_slots.specs.declared.slots.Checkpoint.{Checkpoint}
use Rattle.td_slots.specs.declared.error.SlotsError.{SlotsError}
use Rattle.td_slots.specs.declared.error.SlotsError.TheVariants.{Damaged, NoSlot}
use Rattle.td_slots.specs.Slot.{slot, is_slot, is_front, states_in, are_states}
use Rattle.td_slots.specs.Newest.{where_valid, spelled, checkpoint_in, second_if, later, newest_of, newest_in}
use Rattle.td_journal.specs.declared.payload.Submitted.{Submitted}
use Rattle.td_store.specs.standing.Standing.{Standing, batches_of}
use Rattle.td_store.specs.standing.Stops.{Stands}
use Rattle.td_store.specs.standing.Told.{Told, folds_of, slots_of}
use Rattle.td_store.specs.standing.Tells.{checkpoint_of}
use Rattle.td_store.specs.standing.Advanced.{states_by}
use Rattle.td_keeper.specs.Acknowledged.{outs_of}
use Rattle.td_theorem.specs.Comes.{HasStatesOf, ComesToTheRest}
use Rattle.td_theorem.proofs.Histories.{take-numbered, outs, count, after_checkpoint, states_in_rest}
use Rattle.td_theorem.proofs.Plays.{next_of, all_collected}
use Rattle.td_theorem.proofs.Below.{OfStandings, OfPlays}

-- of two answers that are the same
same_read : (c d : Checkpoint) → ◌≡◌ {A = Result Checkpoint SlotsError} (Ok c) (Ok d) → c ≡ d
same_read c d is = cc

-- the second of two tests
second_true : (a b : Bool) → (a && b) ≡ true → b ≡ true
second_true true b is = is
second_true false b is = absurd (cc)

-- the states of a slot that is read are in order
of_slot : (version : ℕ) (folds : List ℕ) (k side : ℕ) (bytes : List ℕ) (c : Checkpoint) → checkpoint_in version folds k side bytes ≡ Ok c → are_states folds c.states ≡ true
of_slot version folds k side bytes c is = by (is_slot version folds k bytes) refl is
  where
    by : (b : Bool) → is_slot version folds k bytes ≡ b → where_valid b (spelled side bytes) ≡ Ok c → are_states folds c.states ≡ true
    by true valid read =
        subst (λ (d : Checkpoint). are_states folds d.states ≡ true) (same_read (spelled side bytes) c read)
        (second_true (is_front version k (front_in bytes)) (are_states folds (states_in bytes)) valid)
    by false valid read = let wrong : ◌≡◌ {A = Result Checkpoint SlotsError} (Err (Damaged side)) (Ok c) = read in absurd (cc)

-- of two
of_two : (folds : List ℕ) (x y : Result Checkpoint SlotsError) (c : Checkpoint) → ((d : Checkpoint) → x ≡ Ok d → are_states folds d.states ≡ true) → ((d : Checkpoint) → y ≡ Ok d → are_states folds d.states ≡ true)
    → newest_of x y ≡ Ok c → are_states folds c.states ≡ true
of_two folds (Err e) y c first second is = let wrong : ◌≡◌ {A = Result Checkpoint SlotsError} (Err e) (Ok c) = is in absurd (cc)
of_two folds (Ok x) (Err e) c first second is = let wrong : ◌≡◌ {A = Result Checkpoint SlotsError} (Err e) (Ok c) = is in absurd (cc)
of_two folds (Ok x) (Ok y) c first second is =
    subst (λ (d : Checkpoint). are_states folds d.states ≡ true) (same_read (later x y) c is) (by (nat_lt x.epoch y.epoch))
  where
    by : (b : Bool) → are_states folds (second_if b x y).states ≡ true
    by true = second y refl
    by false = first x refl

-- of an image
of_image : (version : ℕ) (folds : List ℕ) (k : ℕ) (a b : Option (List ℕ)) (c : Checkpoint) → newest_in version folds k a b ≡ Ok c → are_states folds c.states ≡ true
of_image version folds k None None c is = let wrong : ◌≡◌ {A = Result Checkpoint SlotsError} (Err NoSlot) (Ok c) = is in absurd (cc)
of_image version folds k (Some p) None c is = of_slot version folds k 0 p c is
of_image version folds k None (Some q) c is = of_slot version folds k 1 q c is
of_image version folds k (Some p) (Some q) c is =
    of_two folds (checkpoint_in version folds k 0 p) (checkpoint_in version folds k 1 q) c (of_slot version folds k 0 p) (of_slot version folds k 1 q) is

module _ (answers : Answers) (standings : OfStandings answers) (plays : OfPlays answers) (plan : List Line) where
  -- the states that an image tells are in order
  told_states : (s : Standing) (image : List ℕ) → Told plan image (Ok s) → AreStates s.states
  told_states s image told =
      let t = standings.apart plan s image told in
      let slots = slots_of t.0.shape in
      standings.in_order (folds_of plan) s.states
      (of_image t.0.version (folds_of plan) slots.k (opened (slot slots 0) image) (opened (slot slots 1) image) (checkpoint_of t.1 s) t.2.checkpoint)

  module _ (s : Standing) (history : List Submitted) (stands : Stands (states_by answers plan) s history) (more : List Submitted) where
    -- cuts, one by one
    one_cut : (answer : Answer) → CutIs answers plan s.states (s.epoch + 1) (batches_of (s.submitted ++ more)) answer → HasStatesOf answers plan (history ++ more) s.epoch answer
    one_cut (has_cut e at) is = λ from.
        let place : e + 1 - (s.epoch + 1) ≡ e - s.epoch = omega arith in
        is ∙ (ap (states_after answers (tree_of plan) s.states (batches_of (s.submitted ++ more))) place
        ∙ states_in_rest answers plays.states_join plays.outs_join plan s history stands more e from)
    one_cut other is = tt

    all_cuts : (replies : List Answer) → CutsAre answers plan s.states (s.epoch + 1) (batches_of (s.submitted ++ more)) replies → All (HasStatesOf answers plan (history ++ more) s.epoch) replies
    all_cuts [] are = All-nil (HasStatesOf answers plan (history ++ more) s.epoch)
    all_cuts (r ∷ rs) are = All-cons (HasStatesOf answers plan (history ++ more) s.epoch) r rs (one_cut r are.0) (all_cuts rs are.1)

  -- what a play collected that was given the batches of a standing, and then more
  module _ (lawful : IsPlan plan) (s : Standing) (history : List Submitted) (ordered : AreStates s.states) (stands : Stands (states_by answers plan) s history)
      (workers : ℕ) (some : 1 ≤ workers) (more : List Submitted) where
    abbrev start : HallState
    start = hall_opened plan s.states (s.epoch + 1) workers

    abbrev rest : List (List Output)
    rest = outs answers plan s.states (s.submitted ++ more)

    collected : (events : List Event) (replies : List Answer) (S : HallState) → Plays answers start events replies S → released events replies ≡ batches_of (s.submitted ++ more)
        → (flat_map outs_by replies ≡ numbered (s.epoch + 1) (take (S.collected - s.epoch) rest)) × CutsAre answers plan s.states (s.epoch + 1) (batches_of (s.submitted ++ more)) replies
    collected events replies S played given =
        let meant = plays.confluence plan s.states (s.epoch + 1) workers events replies S lawful ordered (omega arith) some played in
        let far : S.collected + 1 - (s.epoch + 1) ≡ S.collected - s.epoch = omega arith in (
          meant.0
              ∙ (ap (λ (l : List (List Entry)). numbered (s.epoch + 1) (take (S.collected + 1 - (s.epoch + 1)) (run answers (tree_of plan) s.states l).outs)) given
              ∙ ap (λ (n : ℕ). numbered (s.epoch + 1) (take n rest)) far),
          subst (λ (l : List (List Entry)). CutsAre answers plan s.states (s.epoch + 1) l replies) given meant.1,
        )

    module _ (events : List Event) (replies : List Answer) (S : HallState) (played : Plays answers start events replies S) (given : released events replies ≡ batches_of (s.submitted ++ more)) where
      -- as far as it collected, that is the rest
      so_far : flat_map outs_by replies ≡ take (S.collected - s.epoch) (drop s.epoch (outs_of answers plan (history ++ more)))
      so_far =
          (collected events replies S played given).0
          ∙ (sym (take-numbered (S.collected - s.epoch) (s.epoch + 1) rest)
          ∙ ap (take (S.collected - s.epoch)) (sym (after_checkpoint answers plays.states_join plays.outs_join plan s history stands more)))

      -- the play with a collect after it
      abbrev last : Answer
      last = (collect_step S).0

      abbrev after : HallState
      after = (collect_step S).1

      longer : Plays answers start (events ++ collect ∷ []) (replies ++ last ∷ []) after
      longer = plays.joined start S after events (collect ∷ []) replies (last ∷ []) played (after, refl, refl)

      given_so : released (events ++ collect ∷ []) (replies ++ last ∷ []) ≡ batches_of (s.submitted ++ more)
      given_so = plays.released start S events (collect ∷ []) replies (last ∷ []) played ∙ (append-nil (released events replies) ∙ given)

      -- where no shard has a task, it answers all that is left
      far : ((w : ℕ) → w < workers → Step answers S (taking w) (has_taken None) S) → length rest ≤ after.collected - s.epoch
      far none =
          let all = all_collected S (λ e below. plays.never_stuck plan s.states (s.epoch + 1) workers events replies S lawful ordered (omega arith) some played none e below) in
          let next = next_of answers start S events replies played in
          let many = ap length given in
          let each = length-map (s.submitted ++ more) (λ (x : Submitted). x.batch) in
          let outs_many = count answers plan s.states (s.submitted ++ more) in
          omega (arith, all, next, many, each, outs_many)

      whole : ((w : ℕ) → w < workers → Step answers S (taking w) (has_taken None) S) → flat_map outs_by replies ++ outs_by last ≡ drop s.epoch (outs_of answers plan (history ++ more))
      whole none =
          ap (λ (l : List EpochOut). flat_map outs_by replies ++ l) (sym (append-nil (outs_by last)))
          ∙ (sym (flat_map-append outs_by replies (last ∷ []))
          ∙ ((collected (events ++ collect ∷ []) (replies ++ last ∷ []) after longer given_so).0
          ∙ (ap (numbered (s.epoch + 1)) (take_all (after.collected - s.epoch) rest (far none))
          ∙ sym (after_checkpoint answers plays.states_join plays.outs_join plan s history stands more))))

  -- AN ENGINE COMES TO THE REST
  pub comes : IsPlan plan → (s : Standing) (image : List ℕ) (history : List Submitted) → Told plan image (Ok s) → Stands (states_by answers plan) s history → ComesToTheRest answers plan s history
  comes lawful s image history told stands workers events replies S more some played given =
      let ordered = told_states s image told in
      record {
        outs = so_far lawful s history ordered stands workers some more events replies S played given;
        cuts = all_cuts s history stands more replies (collected lawful s history ordered stands workers some more events replies S played given).1;
        all = whole lawful s history ordered stands workers some more events replies S played given;
      }
