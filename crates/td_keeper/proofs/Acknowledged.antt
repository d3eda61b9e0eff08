-- What commands acknowledge are the epochs that follow, and what a keeper stood for it stands for still, with these.
use Rattle.std.proofs.Common.{◌≡◌, ◌⊎◌, inl, inr, ⊎_elim, ℕ, ◌+◌, ◌-◌, ◌≤◌, Bool, true, false, List, [], ◌∷◌, ◌++◌, length, take, drop, refl, sym, ap, ◌∙◌, subst, arith}
use Rattle.std.specs.Prelude.{if◌then◌else◌, All, Contains}
use Rattle.std.proofs.lemmas.List.{append-nil, append_assoc, length-append, nil_from_length, take-map, take-append-drop, take-append-le}
use Rattle.std.proofs.lemmas.List.Elements.{All-weaker, All-contains_itself, Contains-append_left, Contains-append_right}
use Rattle.std.proofs.Math.Seq.{take-append_seam}
use Rattle.td_stamp.specs.declared.values.Entry.{Entry}
use Rattle.td_stamp.specs.declared.epoch_out.EpochOut.{EpochOut}
use Rattle.td_plan.specs.Lines.{Line}
use Rattle.td_plan.specs.Tree.{Nodes, tree_of}
use Rattle.td_calls.specs.Answers.{Answers}
use Rattle.td_batch.specs.Meaning.{run}
use Rattle.td_disk.specs.Disk.{DiskView, DiskState}
use Rattle.td_head.specs.declared.head.Head.{Head}
use Rattle.td_journal.specs.declared.payload.Submitted.{Submitted as AnySubmitted}
use Rattle.td_store.specs.standing.Standing.{Standing, last_epoch, submission, batches_of, with_more, cut_at}
use Rattle.td_store.specs.standing.Stops.{Begins, Advance, Stands}
use Rattle.td_store.specs.standing.Tells.{Tells}
use Rattle.td_store.specs.standing.Advanced.{HeldWhere, states_by}
use Rattle.td_store.specs.declared.standing.error.KeeperError.{KeeperError}
use Rattle.td_store.specs.declared.standing.error.KeeperError.TheVariants as error
use Rattle.td_keeper.specs.declared.submit_all.GroupError.{GroupError}
use Rattle.td_keeper.specs.declared.submit_all.GroupError.TheVariants.{Keeper}
use Rattle.td_keeper.specs.declared.command.Command.{Command}
use Rattle.td_keeper.specs.declared.command.Command.TheVariants.{Submit, SubmitAs, SubmitAll, Release, Settle, Collect, NextOut, Cut, CutUpTo, Answer, WriteCut, CloseFree}
use Rattle.td_keeper.specs.declared.command.Reply.{Reply}
use Rattle.td_keeper.specs.declared.command.Reply.TheVariants.{Submitted, SubmittedAs, SubmittedAll, Released, Settled, Collected, Out, CutTaken, Answered, Written, Closed, Refused, RefusedAll}
use Rattle.td_keeper.specs.declared.receipt.Receipt.{Receipt}
use Rattle.td_keeper.specs.declared.receipt.Receipt.TheVariants.{New, Already}
use Rattle.td_keeper.specs.Received.{IsReceived}
use Rattle.td_keeper.specs.Keeping.{Keeping, IsKeeping, with_epochs, with_group, with_checkpoint}
use Rattle.td_keeper.specs.Driven.{is_device, is_of_device, submitted_in, submitted_by, handed_out, Submits, SubmitsAs, SubmitsAll, Writes, ClosesFree, Obeys, Driven, Rests}
use Rattle.td_keeper.specs.Acknowledged.{Epoch, epochs_from, epochs_of, outs_of, acknowledged_in, acknowledged_by, Acknowledges, TellsWork}
use Rattle.td_keeper.proofs.Driving.{Submit-on, Cut-on, Last, is_device_is, is_of_device_is, rests, driven_broken}
use Rattle.td_keeper.proofs.Since.{Together, NotYet}
use Rattle.td_keeper.proofs.Collecting.{OutsJoin}
use Rattle.td_keeper.proofs.Handing.{driven_hands}
use Rattle.td_keeper.proofs.Handed.{count_of, first_of, out_still, handed_meant}

-- batches as epochs, and then others
epochs_on : (n : ℕ) (xs ys : List AnySubmitted) → epochs_from n (xs ++ ys) ≡ epochs_from n xs ++ epochs_from (n + length xs) ys
epochs_on n [] ys = let is : n ≡ n + 0 = omega arith in ap (λ m. epochs_from m ys) is
epochs_on n (x ∷ xs) ys =
    let is : n + 1 + length xs ≡ n + length (x ∷ xs) = omega arith in
    ap (λ (l : List Epoch). record { number = n; submitted = x } ∷ l) (epochs_on (n + 1) xs ys ∙ ap (λ m. epochs_from (n + 1) xs ++ epochs_from m ys) is)

-- epochs after a history are among those of both
after_these : (history batches : List AnySubmitted) → All (Contains (epochs_of (history ++ batches))) (epochs_from (length history + 1) batches)
after_these history batches =
    let first : 1 + length history ≡ length history + 1 = omega arith in
    let whole : epochs_of (history ++ batches) ≡ epochs_of history ++ epochs_from (length history + 1) batches = epochs_on 1 history batches ∙ ap (λ m. epochs_of history ++ epochs_from m batches) first in
    subst (λ (l : List Epoch). All (Contains l) (epochs_from (length history + 1) batches)) (sym whole)
    (All-weaker (Contains (epochs_from (length history + 1) batches)) (Contains (epochs_of history ++ epochs_from (length history + 1) batches))
    (Contains-append_right (epochs_of history) (epochs_from (length history + 1) batches)) (epochs_from (length history + 1) batches) (All-contains_itself (epochs_from (length history + 1) batches)))

-- and are there still where more follow
there_still : (history more : List AnySubmitted) (e : Epoch) → Contains (epochs_of history) e → Contains (epochs_of (history ++ more)) e
there_still history more e there =
    subst (λ (l : List Epoch). Contains l e) (sym (epochs_on 1 history more)) (Contains-append_left (epochs_of history) (epochs_from (1 + length history) more) e there)

-- a beginning that is as long is all
all_of : (w rest : List AnySubmitted) → length (w ++ rest) ≤ length w → w ++ rest ≡ w
all_of w rest short =
    let n = length-append w rest in
    let none : rest ≡ [] = nil_from_length rest (omega (arith, n, short)) in
    ap (λ (l : List AnySubmitted). w ++ l) none ∙ append-nil w

-- nothing begins with nothing alone
none_before : (w rest : List AnySubmitted) → [] ≡ w ++ rest → w ≡ []
none_before w rest is =
    let n = length-append w rest in
    let none : 0 ≡ length (w ++ rest) = ap length is in
    nil_from_length w (omega (arith, n, none))

-- of two beginnings of one list the longer begins with the other
longer : (a b c d : List AnySubmitted) → a ++ b ≡ c ++ d → length a ≤ length c → Begins a c
longer a b c d same long = (
  drop (length a) c,
  sym (take-append-drop (length a) c)
      ∙ ap (λ (l : List AnySubmitted). l ++ drop (length a) c) (sym (take-append-le (length a) c d long) ∙ (ap (take (length a)) (sym same) ∙ take-append_seam a b)),
)

-- A KEEPER WENT ON by these batches: what is an advance of it with more is one of what it was, with these and more
record GoesOn {D : Type 0} (answers : Answers) (old new : Keeping D) (x : List AnySubmitted) : Type 0 where
  plan : new.plan ≡ old.plan
  last : last_epoch new.standing ≡ last_epoch old.standing + length x
  on : (u : Standing) (y : List AnySubmitted) → Advance (states_by answers old.plan) (with_more new.standing y) u → Advance (states_by answers old.plan) (with_more old.standing (x ++ y)) u

-- ONE REPLY: its batches come next, and are what was submitted, but where the device failed
record Comes {D : Type 0} (answers : Answers) (c : Command) (r : Reply) (old new : Keeping D) : Type 0 where
  batches : List AnySubmitted
  epochs : acknowledged_in c r ≡ epochs_from (last_epoch old.standing + 1) batches
  submitted : (submitted_in c r ≡ batches) ⊎ ((batches ≡ []) × (new.broken ≡ true))
  goes : GoesOn answers old new batches

-- SOME REPLIES
record Gone {D : Type 0} (answers : Answers) (commands : List Command) (replies : List Reply) (old new : Keeping D) : Type 0 where
  batches : List AnySubmitted
  epochs : acknowledged_by commands replies ≡ epochs_from (last_epoch old.standing + 1) batches
  submitted : Begins batches (submitted_by commands replies)
  kept : IsKeeping new answers
  goes : GoesOn answers old new batches

module _ {D : Type 0} (answers : Answers) (submit_on : Submit-on answers) (cut_on : Cut-on answers) (last : Last) where
  -- the plan and the standing stay
  stays : (old new : Keeping D) → new.plan ≡ old.plan → new.standing ≡ old.standing → GoesOn answers old new []
  stays old new plan standing =
      let same = ap (λ (s : Standing). last_epoch s) standing in record {
        plan = plan;
        last = omega (arith, same);
        on = λ u y step. subst (λ (s : Standing). Advance (states_by answers old.plan) (with_more s y) u) standing step;
      }

  -- these epochs come next
  follow : (x : List AnySubmitted) (old new : Keeping D) → new ≡ with_epochs old new.device x → GoesOn answers old new x
  follow x old new is =
      let standing : new.standing ≡ with_more old.standing x = ap (λ k. k.standing) is in
      let far = ap (λ (s : Standing). last_epoch s) standing in
      let count = length-append old.standing.submitted x in record {
        plan = ap (λ k. k.plan) is;
        last = omega (arith, far, count);
        on = λ u y step.
            submit_on (tree_of old.plan) old.standing u x y
            (subst (λ (s : Standing). Advance (states_by answers old.plan) (with_more s y) u) standing step);
      }

  -- a cut is the checkpoint
  cut_off : (old new : Keeping D) → IsKeeping old answers → new ≡ with_checkpoint old new.device → GoesOn answers old new []
  cut_off old new kept is =
      let s = old.standing in
      let n = old.base - s.epoch in
      let most : n ≤ length s.submitted = omega (arith, kept.released, kept.from_checkpoint) in
      let states : old.base_states ≡ (run answers (tree_of old.plan) s.states (batches_of (take n s.submitted))).states =
      kept.base_states ∙ ap (λ (l : List (List Entry)). (run answers (tree_of old.plan) s.states l).states) (take-map (λ s. s.batch) n s.submitted) in
      let standing : new.standing ≡ cut_at s n old.base_states = ap (λ k. k.standing) is in
      let same = ap (λ (t : Standing). last_epoch t) standing in
      let far : last_epoch (cut_at s n old.base_states) ≡ last_epoch s = last s n old.base_states most in record {
        plan = ap (λ k. k.plan) is;
        last = omega (arith, same, far);
        on = λ u y step.
            cut_on (tree_of old.plan) s u n old.base_states y most states
            (subst (λ (t : Standing). Advance (states_by answers old.plan) (with_more t y) u) standing step);
      }

  -- nothing is acknowledged
  none_comes : (c : Command) (r : Reply) (old new : Keeping D) → acknowledged_in c r ≡ [] → (submitted_in c r ≡ []) ⊎ (new.broken ≡ true) → (new.plan ≡ old.plan) × (new.standing ≡ old.standing)
      → Comes answers c r old new
  none_comes c r old new none submitted same = record {
    batches = [];
    epochs = none;
    submitted = ⊎_elim (λ no. inl no) (λ broke. inr (refl, broke)) submitted;
    goes = stays old new same.0 same.1;
  }

  -- what a refusal leaves as it was
  left_alike : (old new : Keeping D) (E F : Type 0) → (new ≡ old) ⊎ (E × (new ≡ record old { device = new.device })) ⊎ (F × (new ≡ record old { device = new.device; broken = true }))
      → (new.plan ≡ old.plan) × (new.standing ≡ old.standing)
  left_alike old new E F left =
      ⊎_elim (λ is. (ap (λ k. k.plan) is, ap (λ k. k.standing) is))
      (λ other. ⊎_elim (λ is. (ap (λ k. k.plan) is.1, ap (λ k. k.standing) is.1)) (λ is. (ap (λ k. k.plan) is.1, ap (λ k. k.standing) is.1)) other) left

  -- what a refusal submitted: nothing, or the device failed
  perhaps : (x : List AnySubmitted) (e : KeeperError) (new : Keeping D) → (e ≡ error.Device → new.broken ≡ true) → ((if is_device e then x else []) ≡ []) ⊎ (new.broken ≡ true)
  perhaps x e new broke = by (is_device e) refl
    where
      by : (b : Bool) → is_device e ≡ b → ((if b then x else []) ≡ []) ⊎ (new.broken ≡ true)
      by true is = inr (broke (is_device_is e is))
      by false is = inl refl

  perhaps_all : (x : List AnySubmitted) (e : GroupError) (new : Keeping D) → (e ≡ Keeper error.Device → new.broken ≡ true) → ((if is_of_device e then x else []) ≡ []) ⊎ (new.broken ≡ true)
  perhaps_all x e new broke = by (is_of_device e) refl
    where
      by : (b : Bool) → is_of_device e ≡ b → ((if b then x else []) ≡ []) ⊎ (new.broken ≡ true)
      by true is = inr (broke (is_of_device_is e is))
      by false is = inl refl

module _ {D : Type 0} (view : D → DiskView) (answers : Answers) (submit_on : Submit-on answers) (cut_on : Cut-on answers) (last : Last) where
  submits : (batch : List Entry) (r : Reply) (old new : Keeping D) → Submits view answers batch r old new → Comes answers (Submit batch) r old new
  submits batch (Submitted n) old new r =
      let goes = follow answers submit_on cut_on last (submission 0 batch ∷ []) old new r.submitted in
      let far = goes.last in
      let next : n ≡ last_epoch old.standing + 1 = omega (arith, r.last, far) in record {
        batches = submission 0 batch ∷ [];
        epochs = ap (λ m. epochs_from m (submission 0 batch ∷ [])) next;
        submitted = inl refl;
        goes = goes;
      }
  submits batch (Refused e back) old new r =
      none_comes answers submit_on cut_on last (Submit batch) (Refused e back) old new refl
      (perhaps answers submit_on cut_on last (submission 0 batch ∷ []) e new (λ is. (r.device is).broken))
      (left_alike answers submit_on cut_on last old new (e ≡ error.Memory) (e ≡ error.Device) r.unchanged)
  submits batch (SubmittedAs n) old new r = absurd r
  submits batch (SubmittedAll n m) old new r = absurd r
  submits batch (RefusedAll e xs) old new r = absurd r
  submits batch (Released n) old new r = absurd r
  submits batch Settled old new r = absurd r
  submits batch (Collected n) old new r = absurd r
  submits batch (Out o) old new r = absurd r
  submits batch (CutTaken n) old new r = absurd r
  submits batch (Written n) old new r = absurd r
  submits batch (Answered m ys) old new r = absurd r
  submits batch Closed old new r = absurd r

  receives : (request : ℕ) (batch : List Entry) (receipt : Receipt) (old new : Keeping D) → IsReceived request batch receipt old new → Comes answers (SubmitAs request batch) (SubmittedAs receipt) old new
  receives request batch (New n) old new r =
      let goes = follow answers submit_on cut_on last (submission request batch ∷ []) old new r.2 in
      let far = goes.last in
      let named = r.1 in
      let next : n ≡ last_epoch old.standing + 1 = omega (arith, named, far) in record {
        batches = submission request batch ∷ [];
        epochs = ap (λ m. epochs_from m (submission request batch ∷ [])) next;
        submitted = inl refl;
        goes = goes;
      }
  receives request batch (Already n) old new r =
      none_comes answers submit_on cut_on last (SubmitAs request batch) (SubmittedAs (Already n)) old new refl (inl refl) (ap (λ k. k.plan) r.2, ap (λ k. k.standing) r.2)

  submits_as : (request : ℕ) (batch : List Entry) (r : Reply) (old new : Keeping D) → SubmitsAs view answers request batch r old new → Comes answers (SubmitAs request batch) r old new
  submits_as request batch (SubmittedAs receipt) old new r = receives request batch receipt old new r.received
  submits_as request batch (Refused e back) old new r =
      none_comes answers submit_on cut_on last (SubmitAs request batch) (Refused e back) old new refl
      (perhaps answers submit_on cut_on last (submission request batch ∷ []) e new (λ is. (r.refused.device is).broken))
      (left_alike answers submit_on cut_on last old new (e ≡ error.Memory) (e ≡ error.Device) r.refused.unchanged)
  submits_as request batch (Submitted n) old new r = absurd r
  submits_as request batch (SubmittedAll n m) old new r = absurd r
  submits_as request batch (RefusedAll e xs) old new r = absurd r
  submits_as request batch (Released n) old new r = absurd r
  submits_as request batch Settled old new r = absurd r
  submits_as request batch (Collected n) old new r = absurd r
  submits_as request batch (Out o) old new r = absurd r
  submits_as request batch (CutTaken n) old new r = absurd r
  submits_as request batch (Written n) old new r = absurd r
  submits_as request batch (Answered m ys) old new r = absurd r
  submits_as request batch Closed old new r = absurd r

  of_group : (group : List AnySubmitted) (old new : Keeping D) → new ≡ with_group old new.device group → GoesOn answers old new group
  of_group [] old new is = stays answers submit_on cut_on last old new (ap (λ k. k.plan) is) (ap (λ k. k.standing) is)
  of_group (x ∷ xs) old new is = follow answers submit_on cut_on last (x ∷ xs) old new is

  submits_all : (group : List AnySubmitted) (r : Reply) (old new : Keeping D) → SubmitsAll view answers group r old new → Comes answers (SubmitAll group) r old new
  submits_all group (SubmittedAll n m) old new r = record {
    batches = group;
    epochs = ap (λ m. epochs_from m group) r.first_is;
    submitted = inl refl;
    goes = of_group group old new r.submitted;
  }
  submits_all group (RefusedAll e back) old new r =
      none_comes answers submit_on cut_on last (SubmitAll group) (RefusedAll e back) old new refl
      (perhaps_all answers submit_on cut_on last group e new (λ is. (r.device is).broken))
      (left_alike answers submit_on cut_on last old new (e ≡ Keeper error.Memory) (e ≡ Keeper error.Device) r.unchanged)
  submits_all group (Submitted n) old new r = absurd r
  submits_all group (SubmittedAs n) old new r = absurd r
  submits_all group (Released n) old new r = absurd r
  submits_all group Settled old new r = absurd r
  submits_all group (Collected n) old new r = absurd r
  submits_all group (Out o) old new r = absurd r
  submits_all group (CutTaken n) old new r = absurd r
  submits_all group (Written n) old new r = absurd r
  submits_all group (Answered m ys) old new r = absurd r
  submits_all group Closed old new r = absurd r
  submits_all group (Refused e b) old new r = absurd r

  writes : (r : Reply) (old new : Keeping D) → IsKeeping old answers → Writes view answers r old new → Comes answers WriteCut r old new
  writes (Written w) old new kept r =
      ⊎_elim (λ none. none_comes answers submit_on cut_on last WriteCut (Written w) old new refl (inl refl) (ap (λ k. k.plan) none.2, ap (λ k. k.standing) none.2))
      (λ some. record { batches = []; epochs = refl; submitted = inl refl; goes = cut_off answers submit_on cut_on last old new kept some.1 }) r.cut
  writes (Refused e back) old new kept r =
      none_comes answers submit_on cut_on last WriteCut (Refused e back) old new refl (inl refl)
      (⊎_elim (λ many. (ap (λ k. k.plan) many.1, ap (λ k. k.standing) many.1))
      (λ other. ⊎_elim (λ failed. (ap (λ k. k.plan) failed.1, ap (λ k. k.standing) failed.1)) (λ is. (ap (λ k. k.plan) is, ap (λ k. k.standing) is)) other) r.unchanged)
  writes (Submitted n) old new kept r = absurd r
  writes (SubmittedAs n) old new kept r = absurd r
  writes (SubmittedAll n m) old new kept r = absurd r
  writes (RefusedAll e xs) old new kept r = absurd r
  writes (Released n) old new kept r = absurd r
  writes Settled old new kept r = absurd r
  writes (Collected n) old new kept r = absurd r
  writes (Out o) old new kept r = absurd r
  writes (CutTaken n) old new kept r = absurd r
  writes (Answered m ys) old new kept r = absurd r
  writes Closed old new kept r = absurd r

  closes : (most : ℕ) (r : Reply) (old new : Keeping D) → ClosesFree view answers most r old new → Comes answers (CloseFree most) r old new
  closes most Closed old new r = none_comes answers submit_on cut_on last (CloseFree most) Closed old new refl (inl refl) (ap (λ k. k.plan) r.same, ap (λ k. k.standing) r.same)
  closes most (Refused e back) old new r =
      none_comes answers submit_on cut_on last (CloseFree most) (Refused e back) old new refl (inl refl)
      (⊎_elim (λ is. (ap (λ k. k.plan) is, ap (λ k. k.standing) is)) (λ failed. (ap (λ k. k.plan) failed.1, ap (λ k. k.standing) failed.1)) r.unchanged)
  closes most (Submitted n) old new r = absurd r
  closes most (SubmittedAs n) old new r = absurd r
  closes most (SubmittedAll n m) old new r = absurd r
  closes most (RefusedAll e xs) old new r = absurd r
  closes most (Released n) old new r = absurd r
  closes most Settled old new r = absurd r
  closes most (Collected n) old new r = absurd r
  closes most (Out o) old new r = absurd r
  closes most (CutTaken n) old new r = absurd r
  closes most (Answered m ys) old new r = absurd r
  closes most (Written w) old new r = absurd r

  rested : (c : Command) (r : Reply) (old new : Keeping D) → (acknowledged_in c r ≡ []) × (submitted_in c r ≡ []) → Rests old new → Comes answers c r old new
  rested c r old new none is = none_comes answers submit_on cut_on last c r old new none.0 (inl none.1) (is.plan, is.standing)

  one : (c : Command) (r : Reply) (old new : Keeping D) → IsKeeping old answers → Obeys view answers c r old new → Comes answers c r old new
  one (Submit batch) r old new kept obeys = submits batch r old new obeys.0
  one (SubmitAs request batch) r old new kept obeys = submits_as request batch r old new obeys.0
  one (SubmitAll group) r old new kept obeys = submits_all group r old new obeys.0
  one WriteCut r old new kept obeys = writes r old new kept obeys.0
  one (CloseFree most) r old new kept obeys = closes most r old new obeys.0
  one Release r old new kept obeys = rested Release r old new (refl, refl) (rests view answers Release r old new refl obeys)
  one Settle r old new kept obeys = rested Settle r old new (refl, refl) (rests view answers Settle r old new refl obeys)
  one Collect r old new kept obeys = rested Collect r old new (refl, refl) (rests view answers Collect r old new refl obeys)
  one NextOut r old new kept obeys = rested NextOut r old new (refl, refl) (rests view answers NextOut r old new refl obeys)
  one Cut r old new kept obeys = rested Cut r old new (refl, refl) (rests view answers Cut r old new refl obeys)
  one (Answer v w) r old new kept obeys = rested (Answer v w) r old new (refl, refl) (rests view answers (Answer v w) r old new refl obeys)
  one (CutUpTo e) r old new kept obeys = rested (CutUpTo e) r old new (refl, refl) (rests view answers (CutUpTo e) r old new refl obeys)

  -- a reply, and then others
  joined : (c : Command) (r : Reply) (cs : List Command) (rs : List Reply) (old mid new : Keeping D) → Comes answers c r old mid → (mid.broken ≡ true → submitted_by cs rs ≡ [])
      → Gone answers cs rs mid new → Gone answers (c ∷ cs) (r ∷ rs) old new
  joined c r cs rs old mid new first none rest =
      let near = first.goes.last in
      let far = rest.goes.last in
      let count = length-append first.batches rest.batches in
      let next : last_epoch mid.standing + 1 ≡ last_epoch old.standing + 1 + length first.batches = omega (arith, near) in record {
        batches = first.batches ++ rest.batches;
        epochs = (λ i. first.epochs i ++ rest.epochs i)
            ∙ (ap (λ m. epochs_from (last_epoch old.standing + 1) first.batches ++ epochs_from m rest.batches) next
            ∙ sym (epochs_on (last_epoch old.standing + 1) first.batches rest.batches));
        submitted = ⊎_elim all_went (λ broke. it_broke broke.0 (none broke.1)) first.submitted;
        kept = rest.kept;
        goes = record {
          plan = rest.goes.plan ∙ first.goes.plan;
          last = omega (arith, near, far, count);
          on = λ u y step.
              subst (λ (l : List AnySubmitted). Advance (states_by answers old.plan) (with_more old.standing l) u) (sym (append_assoc first.batches rest.batches y))
              (first.goes.on u (rest.batches ++ y) (further u y step));
        };
      }
    where
      all_went : submitted_in c r ≡ first.batches → Begins (first.batches ++ rest.batches) (submitted_in c r ++ submitted_by cs rs)
      all_went same =
          (rest.submitted.0, (λ i. same i ++ rest.submitted.1 i) ∙ sym (append_assoc first.batches rest.batches rest.submitted.0))

      it_broke : first.batches ≡ [] → submitted_by cs rs ≡ [] → Begins (first.batches ++ rest.batches) (submitted_in c r ++ submitted_by cs rs)
      it_broke none_here later =
          let nothing : rest.batches ≡ [] = none_before rest.batches rest.submitted.0 (sym later ∙ rest.submitted.1) in
          subst (λ (l : List AnySubmitted). Begins l (submitted_in c r ++ submitted_by cs rs)) (sym (λ i. none_here i ++ nothing i)) (submitted_in c r ++ submitted_by cs rs, refl)

      further : (u : Standing) (y : List AnySubmitted) → Advance (states_by answers old.plan) (with_more new.standing y) u → Advance (states_by answers old.plan) (with_more mid.standing (rest.batches ++ y)) u
      further =
          subst (λ (p : List Line). (u : Standing) (y : List AnySubmitted) → Advance (states_by answers p) (with_more new.standing y) u → Advance (states_by answers p) (with_more mid.standing (rest.batches ++ y)) u)
          first.goes.plan rest.goes.on

  gone : (commands : List Command) (replies : List Reply) (old new : Keeping D) → IsKeeping old answers → Driven view answers commands replies old new → Gone answers commands replies old new
  gone [] [] old new kept e = record {
    batches = [];
    epochs = refl;
    submitted = ([], refl);
    kept = subst (λ (k : Keeping D). IsKeeping k answers) (sym e) kept;
    goes = stays answers submit_on cut_on last old new (ap (λ k. k.plan) e) (ap (λ k. k.standing) e);
  }
  gone [] (r ∷ rs) old new kept none = absurd none
  gone (c ∷ cs) [] old new kept none = absurd none
  gone (c ∷ cs) (r ∷ rs) old new kept driven =
      joined c r cs rs old driven.0 new (one c r old driven.0 kept driven.2)
      (λ broke. (driven_broken view answers cs rs driven.0 new driven.3 broke).1)
      (gone cs rs driven.0 new driven.1 driven.3)

-- the law, as it is handed in
abbrev pub Each : Answers → Type 0
Each answers = (nodes : Nodes) (s t : Standing) (history submitted : List AnySubmitted)
    → Stands (λ b x. (run answers nodes b x).states) s history
    → Advance (λ b x. (run answers nodes b x).states) (with_more s submitted) t
    → (told : List AnySubmitted) × Begins told (history ++ submitted) × Stands (λ b x. (run answers nodes b x).states) t told

module _ {D : Type 0} (answers : Answers) (each : Each answers) (not_yet : NotYet answers) where
  -- WHAT REPLIES ACKNOWLEDGE
  of_gone : (commands : List Command) (replies : List Reply) (old new : Keeping D) → Gone answers commands replies old new → Acknowledges answers commands replies old new
  of_gone commands replies old new g = record {
    batches = g.batches;
    epochs = g.epochs;
    submitted = g.submitted;
    plan = g.goes.plan;
    kept = g.kept;
    last = g.goes.last;
    stands = stands;
    there = λ history s.
        subst (λ (l : List Epoch). All (Contains (epochs_of (history ++ g.batches))) l) (sym g.epochs)
        (subst (λ (n : ℕ). All (Contains (epochs_of (history ++ g.batches))) (epochs_from (n + 1) g.batches)) (count_of (states_by answers old.plan) old.standing history s) (after_these history g.batches));
  }
    where
      advance : Advance (states_by answers old.plan) (with_more old.standing g.batches) new.standing
      advance =
          subst (λ (l : List AnySubmitted). Advance (states_by answers old.plan) (with_more old.standing l) new.standing) (append-nil g.batches)
          (g.goes.on new.standing [] (not_yet (tree_of old.plan) new.standing []))

      stands : (history : List AnySubmitted) → Stands (states_by answers old.plan) old.standing history → Stands (states_by answers old.plan) new.standing (history ++ g.batches)
      stands history s =
          let told = each (tree_of old.plan) old.standing new.standing history g.batches s advance in
          let whole : history ++ g.batches ≡ told.0 ++ told.1.0 = told.1.1 in
          let before = count_of (states_by answers old.plan) old.standing history s in
          let after = count_of (states_by answers old.plan) new.standing told.0 told.2 in
          let count = length-append history g.batches in
          let same = ap length whole in
          let far = g.goes.last in
          subst (λ (l : List AnySubmitted). Stands (states_by answers old.plan) new.standing l) (sym (whole ∙ all_of told.0 told.1.0 (omega (arith, before, after, count, same, far)))) told.2

-- WHAT AN IMAGE TELLS of a history, and of its epochs and outputs
told_of : (answers : Answers) (each : Each answers) (outs_join : OutsJoin answers) (b : Bool) (plan : List Line) (head : Head) (side : ℕ) (s : Standing) (state : DiskState) (history : List AnySubmitted) (epochs : List Epoch) (outs : List EpochOut)
    → Together → HeldWhere b answers plan head side s state → Stands (states_by answers plan) s history → All (Contains (epochs_of history)) epochs → All (Contains (outs_of answers plan history)) outs
    → (c : List ℕ) → state.images c → TellsWork answers plan epochs outs c
told_of answers each outs_join false plan head side s state history epochs outs together held stands there meant c image = record {
  standing = s;
  told = together plan head side s c (subst (Tells plan head side s) (sym (held.durable c image)) held.tells);
  history = history;
  stands = stands;
  epochs = there;
  outs = meant;
}
told_of answers each outs_join true plan head side s state history epochs outs together held stands there meant c image =
    let x = (held c image).0 in
    let tells = (held c image).1 in
    let told = each (tree_of plan) s tells.standing history x stands tells.advance in
    let before = count_of (states_by answers plan) s history stands in
    let after = count_of (states_by answers plan) tells.standing told.0 told.2 in
    let holds = tells.holds in
    let on = longer history x told.0 told.1.0 told.1.1 (omega (arith, before, after, holds)) in record {
      standing = tells.standing;
      told = tells.told;
      history = told.0;
      stands = told.2;
      epochs = subst (λ (l : List AnySubmitted). All (Contains (epochs_of l)) epochs) (sym on.1)
          (All-weaker (Contains (epochs_of history)) (Contains (epochs_of (history ++ on.0))) (there_still history on.0) epochs there);
      outs = subst (λ (l : List AnySubmitted). All (Contains (outs_of answers plan l)) outs) (sym on.1)
          (All-weaker (Contains (outs_of answers plan history)) (Contains (outs_of answers plan (history ++ on.0))) (out_still answers outs_join plan history on.0) outs meant);
    }

module _ {D : Type 0} (view : D → DiskView) (answers : Answers)
    (submit_on : Submit-on answers) (cut_on : Cut-on answers) (last : Last) (each : Each answers) (not_yet : NotYet answers) where
  pub driven_acknowledges : (commands : List Command) (replies : List Reply) (old new : Keeping D) → IsKeeping old answers → Driven view answers commands replies old new
      → Acknowledges answers commands replies old new
  driven_acknowledges commands replies old new kept driven =
      of_gone answers each not_yet commands replies old new (gone view answers submit_on cut_on last commands replies old new kept driven)

  -- WHAT WAS ACKNOWLEDGED AND HANDED OUT IS TOLD
  pub driven_told : (commands : List Command) (replies : List Reply) (old new : Keeping D) (history : List AnySubmitted) → OutsJoin answers → Together → IsKeeping old answers
      → Driven view answers commands replies old new → Stands (states_by answers old.plan) old.standing history → All (Contains (outs_of answers old.plan history)) old.queue
      → HeldWhere new.broken answers new.plan new.head new.side new.standing (view new.device).state → (c : List ℕ) → (view new.device).state.images c
      → TellsWork answers old.plan (acknowledged_by commands replies) (handed_out replies) c
  driven_told commands replies old new history outs_join together kept driven stands queue held c image =
      let acked = driven_acknowledges commands replies old new kept driven in
      let hands = driven_hands view answers outs_join last commands replies old new kept driven in
      let meant = handed_meant answers outs_join commands replies old new history kept acked hands stands queue in
      subst (λ (p : List Line). TellsWork answers p (acknowledged_by commands replies) (handed_out replies) c) acked.plan
      (told_of answers each outs_join new.broken new.plan new.head new.side new.standing (view new.device).state (history ++ acked.batches) (acknowledged_by commands replies) (handed_out replies) together held
      (subst (λ (p : List Line). Stands (states_by answers p) new.standing (history ++ acked.batches)) (sym acked.plan) (acked.stands history stands))
      (acked.there history stands)
      (subst (λ (p : List Line). All (Contains (outs_of answers p (history ++ acked.batches))) (handed_out replies)) (sym acked.plan) (first_of (Contains (outs_of answers old.plan (history ++ acked.batches))) (handed_out replies) new.queue meant))
      c image)
