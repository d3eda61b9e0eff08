-- What commands hand out, and what is left in the queue, is what the batch meaning has.
use Rattle.std.proofs.Common.{◌≡◌, ◌⊎◌, ⊎_elim, ℕ, zero, suc, ◌+◌, ◌-◌, ◌≤◌, Bool, true, false, List, [], ◌∷◌, ◌++◌, length, take, drop, refl, sym, ap, ◌∙◌, subst, arith}
use Rattle.std.specs.Prelude.{Option, Some, None, if◌then◌else◌}
use Rattle.std.proofs.lemmas.List.{append-nil, append_assoc, length-append, length-map, length-drop, map-append, take-append-le, drop-append-le, drop-drop, length-take-le, take-append-drop, take-map}
use Rattle.td_stamp.specs.declared.values.Entry.{Entry}
use Rattle.td_stamp.specs.declared.values.Output.{Output}
use Rattle.td_stamp.specs.declared.epoch_out.EpochOut.{EpochOut}
use Rattle.td_stamp.specs.States.{StateList}
use Rattle.td_plan.specs.Lines.{Line}
use Rattle.td_plan.specs.Tree.{tree_of}
use Rattle.td_calls.specs.Answers.{Answers}
use Rattle.td_batch.specs.Meaning.{run, numbered}
use Rattle.td_machine.specs.State.{HallState}
use Rattle.td_machine.specs.Steps.{collect_step, to_collect, outputs_at}
use Rattle.td_machine.specs.Sound.{outs_by}
use Rattle.td_disk.specs.Disk.{DiskView, DiskState}
use Rattle.td_journal.specs.declared.payload.Submitted.{Submitted as AnySubmitted}
use Rattle.td_store.specs.standing.Standing.{Standing, last_epoch, submission, batches_of, with_more, cut_at}
use Rattle.td_keeper.specs.declared.submit_all.GroupError.{GroupError}
use Rattle.td_keeper.specs.declared.submit_all.GroupError.TheVariants.{Keeper}
use Rattle.td_keeper.specs.declared.command.Command.{Command}
use Rattle.td_keeper.specs.declared.command.Command.TheVariants.{Submit, SubmitAs, SubmitAll, Release, Settle, Collect, NextOut, Cut, CutUpTo, Answer, WriteCut, CloseFree}
use Rattle.td_keeper.specs.declared.command.Reply.{Reply}
use Rattle.td_keeper.specs.declared.command.Reply.TheVariants.{Submitted, SubmittedAs, SubmittedAll, Released, Settled, Collected, Out, CutTaken, Answered, Written, Closed, Refused, RefusedAll}
use Rattle.td_keeper.specs.Keeping.{Keeping, IsKeeping, with_batch, with_group}
use Rattle.td_keeper.specs.Halls.{IsOwn, meant_outs, with_collected}
use Rattle.td_store.specs.declared.standing.error.KeeperError.{KeeperError}
use Rattle.td_store.specs.declared.standing.error.KeeperError.TheVariants as error
use Rattle.td_keeper.specs.declared.receipt.Receipt.{Receipt}
use Rattle.td_keeper.specs.declared.receipt.Receipt.TheVariants.{New, Already}
use Rattle.td_keeper.specs.Received.{IsReceived, received_in}
use Rattle.td_keeper.specs.Refused.{submit_refusal, submit_as_refusal}
use Rattle.td_keeper.specs.Driven.{is_device, is_of_device, submitted_in, submitted_by, handed_in, handed_out, outs_beyond, HandsOn, IsNotSubmitted, IsNoneSubmitted, Obeys, Driven}
use Rattle.td_keeper.proofs.Collecting.{OutsJoin}
use Rattle.td_keeper.proofs.Runs.{out_at, length_outs, take_on}
use Rattle.td_keeper.proofs.Driving.{is_device_is, is_of_device_is, driven_broken}

-- outputs, and then others
pub numbered-append : (n : ℕ) (xs ys : List (List Output)) → numbered n (xs ++ ys) ≡ numbered n xs ++ numbered (n + length xs) ys
numbered-append n [] ys = let is : n ≡ n + 0 = omega arith in ap (λ m. numbered m ys) is
numbered-append n (x ∷ xs) ys =
    let is : n + 1 + length xs ≡ n + length (x ∷ xs) = omega arith in
    λ i. record { epoch = n; recs = x } ∷ (numbered-append (n + 1) xs ys ∙ ap (λ m. numbered (n + 1) xs ++ numbered m ys) is) i

-- outputs, by the parts of a keeper of which they are made
abbrev beyond : Answers → List Line → Standing → ℕ → List AnySubmitted → ℕ → List EpochOut
beyond answers plan s from x to = numbered (from + 1) (take (to - from) (drop (from - s.epoch) (run answers (tree_of plan) s.states (batches_of (s.submitted ++ x))).outs))

module _ {D : Type 0} (answers : Answers) (outs_join : OutsJoin answers) where
  -- all outputs of what a keeper stands for, with more submitted
  abbrev outs_of : Keeping D → List AnySubmitted → List (List Output)
  outs_of k x = (run answers (tree_of k.plan) k.standing.states (batches_of (k.standing.submitted ++ x))).outs

  many : (k : Keeping D) (x : List AnySubmitted) → length (outs_of k x) ≡ length k.standing.submitted + length x
  many k x =
      length_outs answers (tree_of k.plan) k.standing.states (batches_of (k.standing.submitted ++ x))
      ∙ (length-map (k.standing.submitted ++ x) (λ s. s.batch) ∙ length-append k.standing.submitted x)

  -- those of later batches come after them
  abbrev later_outs : (k : Keeping D) (x z : List AnySubmitted) → List (List Output)
  later_outs k x z = (run answers (tree_of k.plan) (run answers (tree_of k.plan) k.standing.states (batches_of (k.standing.submitted ++ x))).states (batches_of z)).outs

  outs_after : (k : Keeping D) (x z : List AnySubmitted) → outs_of k (x ++ z) ≡ outs_of k x ++ later_outs k x z
  outs_after k x z =
      ap (λ (l : List (List Entry)). (run answers (tree_of k.plan) k.standing.states l).outs)
      (ap batches_of (sym (append_assoc k.standing.submitted x z)) ∙ map-append (λ s. s.batch) (k.standing.submitted ++ x) z)
      ∙ outs_join (tree_of k.plan) k.standing.states (batches_of (k.standing.submitted ++ x)) (batches_of z)

  -- so what is submitted later changes none of them
  longer : (k : Keeping D) (x z : List AnySubmitted) (to : ℕ) → k.standing.epoch ≤ k.collected → k.collected ≤ to → to ≤ last_epoch k.standing + length x
      → outs_beyond k answers (x ++ z) to ≡ outs_beyond k answers x to
  longer k x z to from up most =
      let A = outs_of k x in
      let B = later_outs k x z in
      let n = many k x in
      let d = k.collected - k.standing.epoch in
      let left = length-drop d A in
      ap (λ l. numbered (k.collected + 1) (take (to - k.collected) (drop d l))) (outs_after k x z)
      ∙ ap (λ l. numbered (k.collected + 1) (take (to - k.collected) l)) (drop-append-le d A B (omega (arith, n, from, up, most)))
      ∙ ap (numbered (k.collected + 1)) (take-append-le (to - k.collected) (drop d A) B (omega (arith, n, left, from, up, most)))

  -- up to an epoch, and then from that on
  parted : (k : Keeping D) (x : List AnySubmitted) (mid to : ℕ) → k.standing.epoch ≤ k.collected → k.collected ≤ mid → mid ≤ to → to ≤ last_epoch k.standing + length x
      → outs_beyond k answers x to ≡ outs_beyond k answers x mid ++ numbered (mid + 1) (take (to - mid) (drop (mid - k.standing.epoch) (outs_of k x)))
  parted k x mid to from first second most =
      let A = outs_of k x in
      let n = many k x in
      let d = k.collected - k.standing.epoch in
      let rest = drop d A in
      let left = length-drop d A in
      let whole : to - k.collected ≡ mid - k.collected + (to - mid) = omega (arith, first, second) in
      let place : d + (mid - k.collected) ≡ mid - k.standing.epoch = omega (arith, from, first) in
      let here : length (take (mid - k.collected) rest) ≡ mid - k.collected = length-take-le (mid - k.collected) rest (omega (arith, n, left, from, first, second, most)) in
      let next : k.collected + 1 + length (take (mid - k.collected) rest) ≡ mid + 1 = omega (arith, here, first) in
      ap (λ m. numbered (k.collected + 1) (take m rest)) whole
      ∙ ap (numbered (k.collected + 1)) (take_on (mid - k.collected) (to - mid) rest)
      ∙ ap (λ l. numbered (k.collected + 1) (take (mid - k.collected) rest ++ take (to - mid) l)) (drop-drop (mid - k.collected) d A)
      ∙ ap (λ m. numbered (k.collected + 1) (take (mid - k.collected) rest ++ take (to - mid) (drop m A))) place
      ∙ numbered-append (k.collected + 1) (take (mid - k.collected) rest) (take (to - mid) (drop (mid - k.standing.epoch) A))
      ∙ ap (λ m. outs_beyond k answers x mid ++ numbered m (take (to - mid) (drop (mid - k.standing.epoch) A))) next

  -- a keeper that differs in nothing of it
  same_all : (old mid new : Keeping D) (y : List AnySubmitted) (hs : List EpochOut) → mid.plan ≡ old.plan → mid.standing ≡ old.standing → mid.collected ≡ old.collected → mid.queue ≡ old.queue
      → HandsOn answers mid new y hs → HandsOn answers old new y hs
  same_all old mid new y hs plan standing collected queue rest = record {
    on = omega (arith, rest.on, collected);
    within = subst (λ (s : Standing). new.collected ≤ last_epoch s + length y) standing rest.within;
    outs = rest.outs ∙ (λ i. queue i ++ beyond answers (plan i) (standing i) (collected i) y new.collected);
  }

  -- a batch was submitted
  one_more : (old mid new : Keeping D) (x y : List AnySubmitted) (hs : List EpochOut) → mid.plan ≡ old.plan → mid.standing ≡ with_more old.standing x → mid.collected ≡ old.collected → mid.queue ≡ old.queue
      → HandsOn answers mid new y hs → HandsOn answers old new (x ++ y) hs
  one_more old mid new x y hs plan standing collected queue rest =
      let within : new.collected ≤ last_epoch (with_more old.standing x) + length y = subst (λ (s : Standing). new.collected ≤ last_epoch s + length y) standing rest.within in
      let n = length-append old.standing.submitted x in
      let m = length-append x y in
      let assoc = append_assoc old.standing.submitted x y in record {
        on = omega (arith, rest.on, collected);
        within = omega (arith, within, n, m);
        outs = rest.outs ∙ (λ i. queue i ++ beyond answers (plan i) (standing i) (collected i) y new.collected)
            ∙ (λ i. old.queue ++ numbered (old.collected + 1) (take (new.collected - old.collected) (drop (old.collected - old.standing.epoch) (run answers (tree_of old.plan) old.standing.states (batches_of (assoc i))).outs)));
      }

  -- what perhaps was submitted as the device failed has no outputs yet
  perhaps : (old new : Keeping D) (x : List AnySubmitted) (hs : List EpochOut) → IsKeeping old answers → HandsOn answers old new [] hs → HandsOn answers old new (x ++ []) hs
  perhaps old new x hs kept rest =
      let n = length-append x [] in record {
        on = rest.on;
        within = omega (arith, rest.within, n);
        outs = rest.outs
            ∙ ap (λ l. old.queue ++ l) (sym (longer old [] x new.collected (omega (arith, kept.from_checkpoint, kept.collected)) rest.on rest.within)
            ∙ ap (λ (z : List AnySubmitted). outs_beyond old answers z new.collected) (sym (append-nil x)));
      }

  -- outputs were collected
  brought : (old mid new : Keeping D) (y : List AnySubmitted) (hs outs : List EpochOut) → IsKeeping old answers → IsKeeping mid answers → mid.plan ≡ old.plan → mid.standing ≡ old.standing
      → mid.queue ≡ old.queue ++ outs → outs ≡ meant_outs old answers old.collected mid.collected → old.collected ≤ mid.collected
      → HandsOn answers mid new y hs → HandsOn answers old new y hs
  brought old mid new y hs outs kept kept_mid plan standing queue meant up rest =
      let within : new.collected ≤ last_epoch old.standing + length y = subst (λ (s : Standing). new.collected ≤ last_epoch s + length y) standing rest.within in
      let done : mid.collected ≤ last_epoch old.standing = subst (λ (s : Standing). mid.collected ≤ last_epoch s) standing kept_mid.done in
      let from : old.standing.epoch ≤ old.collected = omega (arith, kept.from_checkpoint, kept.collected) in
      let none = append-nil old.standing.submitted in
      let found : outs ≡ outs_beyond old answers y mid.collected =
      meant
      ∙ (λ i. numbered (old.collected + 1) (take (mid.collected - old.collected) (drop (old.collected - old.standing.epoch) (run answers (tree_of old.plan) old.standing.states (batches_of (sym none i))).outs)))
      ∙ sym (longer old [] y mid.collected from up (omega (arith, done))) in
      let rest_of : outs_beyond mid answers y new.collected ≡ numbered (mid.collected + 1) (take (new.collected - mid.collected) (drop (mid.collected - old.standing.epoch) (outs_of old y))) =
      λ i. beyond answers (plan i) (standing i) mid.collected y new.collected in record {
        on = omega (arith, up, rest.on);
        within = within;
        outs = rest.outs ∙ (λ i. queue i ++ rest_of i) ∙ append_assoc old.queue outs (onward new.collected)
            ∙ ap (λ l. old.queue ++ (l ++ onward new.collected)) found
            ∙ ap (λ l. old.queue ++ l) (sym (parted old y mid.collected new.collected from up rest.on within));
      }
    where
      onward : ℕ → List EpochOut
      onward to = numbered (mid.collected + 1) (take (to - mid.collected) (drop (mid.collected - old.standing.epoch) (outs_of old y)))

-- what comes after the first
drop_past : {A : Type 0} (xs ys : List A) (n : ℕ) → length xs ≡ n → drop n (xs ++ ys) ≡ ys
drop_past [] ys zero is = refl
drop_past [] ys (suc n) is = absurd (omega (arith, is))
drop_past (x ∷ xs) ys zero is = absurd (omega (arith, is))
drop_past (x ∷ xs) ys (suc n) is = drop_past xs ys n (omega (arith, is))

module _ {D : Type 0} (answers : Answers) (outs_join : OutsJoin answers) where
  -- a cut was written
  cut_off : (old mid new : Keeping D) (y : List AnySubmitted) (hs : List EpochOut) → IsKeeping old answers → mid.plan ≡ old.plan
      → mid.standing ≡ cut_at old.standing (old.base - old.standing.epoch) old.base_states → mid.collected ≡ old.collected → mid.queue ≡ old.queue
      → last_epoch (cut_at old.standing (old.base - old.standing.epoch) old.base_states) ≡ last_epoch old.standing
      → HandsOn answers mid new y hs → HandsOn answers old new y hs
  cut_off old mid new y hs kept plan standing collected queue far rest =
      let within : new.collected ≤ last_epoch (cut_at s n old.base_states) + length y = subst (λ (t : Standing). new.collected ≤ last_epoch t + length y) standing rest.within in record {
        on = omega (arith, rest.on, collected);
        within = omega (arith, within, far);
        outs = rest.outs ∙ (λ i. queue i ++ beyond answers (plan i) (standing i) (collected i) y new.collected)
            ∙ ap (λ l. old.queue ++ numbered (old.collected + 1) (take (new.collected - old.collected) l)) (sym others);
      }
    where
      s : Standing
      s = old.standing

      n : ℕ
      n = old.base - s.epoch

      most : n ≤ length s.submitted
      most = omega (arith, kept.released, kept.from_checkpoint)

      first : List (List Entry)
      first = batches_of (take n s.submitted)

      B : List (List Output)
      B = (run answers (tree_of old.plan) old.base_states (batches_of (drop n s.submitted ++ y))).outs

      based : (run answers (tree_of old.plan) s.states first).states ≡ old.base_states
      based = ap (λ (l : List (List Entry)). (run answers (tree_of old.plan) s.states l).states) (sym (take-map (λ s. s.batch) n s.submitted)) ∙ sym kept.base_states

      whole : s.submitted ++ y ≡ take n s.submitted ++ (drop n s.submitted ++ y)
      whole = ap (λ (l : List AnySubmitted). l ++ y) (sym (take-append-drop n s.submitted)) ∙ append_assoc (take n s.submitted) (drop n s.submitted) y

      all : (run answers (tree_of old.plan) s.states (batches_of (s.submitted ++ y))).outs ≡ (run answers (tree_of old.plan) s.states first).outs ++ B
      all =
          ap (λ (l : List (List Entry)). (run answers (tree_of old.plan) s.states l).outs) (ap batches_of whole ∙ map-append (λ s. s.batch) (take n s.submitted) (drop n s.submitted ++ y))
          ∙ outs_join (tree_of old.plan) s.states first (batches_of (drop n s.submitted ++ y))
          ∙ ap (λ (b : StateList). (run answers (tree_of old.plan) s.states first).outs ++ (run answers (tree_of old.plan) b (batches_of (drop n s.submitted ++ y))).outs) based

      some : length (run answers (tree_of old.plan) s.states first).outs ≡ n
      some = length_outs answers (tree_of old.plan) s.states first ∙ (length-map (take n s.submitted) (λ s. s.batch) ∙ length-take-le n s.submitted most)

      place : old.collected - s.epoch ≡ n + (old.collected - (s.epoch + n))
      place = omega (arith, kept.from_checkpoint, kept.collected)

      others : drop (old.collected - s.epoch) (run answers (tree_of old.plan) s.states (batches_of (s.submitted ++ y))).outs ≡ drop (old.collected - (s.epoch + n)) B
      others =
          (λ i. drop (place i) (all i))
          ∙ (sym (drop-drop (old.collected - (s.epoch + n)) n ((run answers (tree_of old.plan) s.states first).outs ++ B))
          ∙ ap (drop (old.collected - (s.epoch + n))) (drop_past (run answers (tree_of old.plan) s.states first).outs B n some))

-- the law, as it is handed in
abbrev pub Last : Type 0
Last = (s : Standing) (k : ℕ) (states : StateList) → k ≤ length s.submitted → last_epoch (cut_at s k states) ≡ last_epoch s

-- so many were collected
pub collected_count : (S : HallState) → (collect_step S).1.collected ≡ S.collected + length (outs_by (collect_step S).0)
collected_count S = ap (λ (n : ℕ). S.collected + n) (sym (length-map (to_collect S) (λ e. out_at e (outputs_at S e))))

module _ {D : Type 0} (answers : Answers) (outs_join : OutsJoin answers) where
  -- the keeper is as it was
  as_it_was : (old mid new : Keeping D) (y : List AnySubmitted) (hs : List EpochOut) → mid ≡ old → HandsOn answers mid new y hs → HandsOn answers old new y hs
  as_it_was old mid new y hs is rest = subst (λ (k : Keeping D). HandsOn answers k new y hs) is rest

  -- what a hall of this keeper's had was collected
  collected_from : (old mid new : Keeping D) (y : List AnySubmitted) (hs : List EpochOut) → IsKeeping old answers → IsKeeping mid answers → (S : HallState) → IsOwn old S
      → outs_by (collect_step S).0 ≡ meant_outs old answers old.collected (collect_step S).1.collected → mid ≡ with_collected old S
      → HandsOn answers mid new y hs → HandsOn answers old new y hs
  collected_from old mid new y hs kept kept_mid S own outs is rest =
      let so_many : mid.collected ≡ (collect_step S).1.collected = ap (λ k. k.collected) is in
      let count = collected_count S in
      brought answers outs_join old mid new y hs (outs_by (collect_step S).0) kept kept_mid (ap (λ k. k.plan) is) (ap (λ k. k.standing) is) (ap (λ k. k.queue) is)
      (outs ∙ ap (λ m. meant_outs old answers old.collected m) (sym so_many)) (omega (arith, so_many, count, own.collected)) rest

  -- the first of the queue was handed out
  handed_first : (old mid new : Keeping D) (y : List AnySubmitted) (hs : List EpochOut) (f : EpochOut) → old.queue ≡ f ∷ mid.queue → mid ≡ record old { queue = mid.queue }
      → HandsOn answers mid new y hs → HandsOn answers old new y (f ∷ hs)
  handed_first old mid new y hs f queue is rest =
      let plan : mid.plan ≡ old.plan = ap (λ k. k.plan) is in
      let standing : mid.standing ≡ old.standing = ap (λ k. k.standing) is in
      let collected : mid.collected ≡ old.collected = ap (λ k. k.collected) is in record {
        on = omega (arith, rest.on, collected);
        within = subst (λ (s : Standing). new.collected ≤ last_epoch s + length y) standing rest.within;
        outs = ap (λ (l : List EpochOut). f ∷ l) (rest.outs ∙ (λ i. mid.queue ++ beyond answers (plan i) (standing i) (collected i) y new.collected))
            ∙ ap (λ (l : List EpochOut). l ++ outs_beyond old answers y new.collected) (sym queue);
      }

module _ {D : Type 0} (view : D → DiskView) (answers : Answers) (outs_join : OutsJoin answers) (last : Last) where
  -- the batch is the next epoch
  hands_submitted : (request : ℕ) (batch : List Entry) (old mid new : Keeping D) (y : List AnySubmitted) (hs : List EpochOut) → mid ≡ with_batch old mid.device request batch
      → HandsOn answers mid new y hs → HandsOn answers old new (submission request batch ∷ [] ++ y) hs
  hands_submitted request batch old mid new y hs is rest =
      one_more answers outs_join old mid new (submission request batch ∷ []) y hs (ap (λ k. k.plan) is) (ap (λ k. k.standing) is) (ap (λ k. k.collected) is) (ap (λ k. k.queue) is) rest

  -- what a refusal leaves as it was
  left_alike : (old mid : Keeping D) (E F : Type 0) → (mid ≡ old) ⊎ (E × (mid ≡ record old { device = mid.device })) ⊎ (F × (mid ≡ record old { device = mid.device; broken = true }))
      → (mid.plan ≡ old.plan) × (mid.standing ≡ old.standing) × (mid.collected ≡ old.collected) × (mid.queue ≡ old.queue)
  left_alike old mid E F left =
      ⊎_elim (λ is. (ap (λ k. k.plan) is, ap (λ k. k.standing) is, ap (λ k. k.collected) is, ap (λ k. k.queue) is))
      (λ other. ⊎_elim (λ is. (ap (λ k. k.plan) is.1, ap (λ k. k.standing) is.1, ap (λ k. k.collected) is.1, ap (λ k. k.queue) is.1))
      (λ is. (ap (λ k. k.plan) is.1, ap (λ k. k.standing) is.1, ap (λ k. k.collected) is.1, ap (λ k. k.queue) is.1)) other) left

  -- or it is not
  hands_refused : (refusal : Option KeeperError) (x : List AnySubmitted) (batch : List Entry) (e : KeeperError) (b : Option (List Entry)) (old mid new : Keeping D) (y : List AnySubmitted) (hs : List EpochOut)
      → IsKeeping old answers → IsNotSubmitted view answers refusal batch e b old mid → (mid.broken ≡ true → y ≡ []) → HandsOn answers mid new y hs
      → HandsOn answers old new ((if is_device e then x else []) ++ y) hs
  hands_refused refusal x batch e b old mid new y hs kept r none rest = by (is_device e) refl
    where
      alike : (mid.plan ≡ old.plan) × (mid.standing ≡ old.standing) × (mid.collected ≡ old.collected) × (mid.queue ≡ old.queue)
      alike = left_alike old mid (e ≡ error.Memory) (e ≡ error.Device) r.unchanged

      on : HandsOn answers old new y hs
      on = same_all answers outs_join old mid new y hs alike.0 alike.1 alike.2 alike.3 rest

      by : (d : Bool) → is_device e ≡ d → HandsOn answers old new ((if d then x else []) ++ y) hs
      by false is = on
      by true is =
          let no : y ≡ [] = none (r.device (is_device_is e is)).broken in
          subst (λ (l : List AnySubmitted). HandsOn answers old new (x ++ l) hs) (sym no)
          (perhaps answers outs_join old new x hs kept (subst (λ (l : List AnySubmitted). HandsOn answers old new l hs) no on))

  -- a group is the next epochs, or it is not
  hands_group : (group : List AnySubmitted) (old mid new : Keeping D) (y : List AnySubmitted) (hs : List EpochOut) → mid ≡ with_group old mid.device group
      → HandsOn answers mid new y hs → HandsOn answers old new (group ++ y) hs
  hands_group [] old mid new y hs is rest = as_it_was answers outs_join old mid new y hs is rest
  hands_group (x ∷ xs) old mid new y hs is rest =
      one_more answers outs_join old mid new (x ∷ xs) y hs (ap (λ k. k.plan) is) (ap (λ k. k.standing) is) (ap (λ k. k.collected) is) (ap (λ k. k.queue) is) rest

  hands_none : (group : List AnySubmitted) (e : GroupError) (back : List AnySubmitted) (old mid new : Keeping D) (y : List AnySubmitted) (hs : List EpochOut)
      → IsKeeping old answers → IsNoneSubmitted view answers group e back old mid → (mid.broken ≡ true → y ≡ []) → HandsOn answers mid new y hs
      → HandsOn answers old new ((if is_of_device e then group else []) ++ y) hs
  hands_none group e back old mid new y hs kept r none rest = by (is_of_device e) refl
    where
      alike : (mid.plan ≡ old.plan) × (mid.standing ≡ old.standing) × (mid.collected ≡ old.collected) × (mid.queue ≡ old.queue)
      alike = left_alike old mid (e ≡ Keeper error.Memory) (e ≡ Keeper error.Device) r.unchanged

      on : HandsOn answers old new y hs
      on = same_all answers outs_join old mid new y hs alike.0 alike.1 alike.2 alike.3 rest

      by : (d : Bool) → is_of_device e ≡ d → HandsOn answers old new ((if d then group else []) ++ y) hs
      by false is = on
      by true is =
          let no : y ≡ [] = none (r.device (is_of_device_is e is)).broken in
          subst (λ (l : List AnySubmitted). HandsOn answers old new (group ++ l) hs) (sym no)
          (perhaps answers outs_join old new group hs kept (subst (λ (l : List AnySubmitted). HandsOn answers old new l hs) no on))

  hands_received : (request : ℕ) (batch : List Entry) (receipt : Receipt) (old mid new : Keeping D) (y : List AnySubmitted) (hs : List EpochOut) → IsReceived request batch receipt old mid
      → HandsOn answers mid new y hs → HandsOn answers old new (received_in request batch receipt ++ y) hs
  hands_received request batch (New epoch) old mid new y hs r rest = hands_submitted request batch old mid new y hs r.2 rest
  hands_received request batch (Already last) old mid new y hs r rest = as_it_was answers outs_join old mid new y hs r.2 rest

  -- ONE COMMAND, and then others
  hands : (c : Command) (r : Reply) (old mid new : Keeping D) (y : List AnySubmitted) (hs : List EpochOut) → IsKeeping old answers → IsKeeping mid answers
      → Obeys view answers c r old mid → (mid.broken ≡ true → y ≡ []) → HandsOn answers mid new y hs → HandsOn answers old new (submitted_in c r ++ y) (handed_in r ++ hs)
  hands (Submit batch) (Submitted n) old mid new y hs kept kept_mid obeys none rest = hands_submitted 0 batch old mid new y hs obeys.0.submitted rest
  hands (Submit batch) (Refused e b) old mid new y hs kept kept_mid obeys none rest =
      hands_refused (submit_refusal old batch) (submission 0 batch ∷ []) batch e b old mid new y hs kept obeys.0 none rest
  hands (SubmitAs request batch) (SubmittedAs receipt) old mid new y hs kept kept_mid obeys none rest = hands_received request batch receipt old mid new y hs obeys.0.received rest
  hands (SubmitAs request batch) (Refused e b) old mid new y hs kept kept_mid obeys none rest =
      hands_refused (submit_as_refusal old request batch) (submission request batch ∷ []) batch e b old mid new y hs kept obeys.0.refused none rest
  hands (SubmitAs request batch) (Submitted n) old mid new y hs kept kept_mid obeys none rest = absurd obeys.0
  hands (SubmitAs request batch) (SubmittedAll n m) old mid new y hs kept kept_mid obeys none rest = absurd obeys.0
  hands (SubmitAs request batch) (RefusedAll e xs) old mid new y hs kept kept_mid obeys none rest = absurd obeys.0
  hands (SubmitAs request batch) (Released n) old mid new y hs kept kept_mid obeys none rest = absurd obeys.0
  hands (SubmitAs request batch) Settled old mid new y hs kept kept_mid obeys none rest = absurd obeys.0
  hands (SubmitAs request batch) (Collected n) old mid new y hs kept kept_mid obeys none rest = absurd obeys.0
  hands (SubmitAs request batch) (Out o) old mid new y hs kept kept_mid obeys none rest = absurd obeys.0
  hands (SubmitAs request batch) (CutTaken n) old mid new y hs kept kept_mid obeys none rest = absurd obeys.0
  hands (SubmitAs request batch) (Written w) old mid new y hs kept kept_mid obeys none rest = absurd obeys.0
  hands (SubmitAs request batch) (Answered m ys) old mid new y hs kept kept_mid obeys none rest = absurd obeys.0
  hands (SubmitAs request batch) Closed old mid new y hs kept kept_mid obeys none rest = absurd obeys.0
  hands (Submit batch) (SubmittedAs n) old mid new y hs kept kept_mid obeys none rest = absurd obeys.0
  hands (Submit batch) (SubmittedAll n m) old mid new y hs kept kept_mid obeys none rest = absurd obeys.0
  hands (Submit batch) (RefusedAll e xs) old mid new y hs kept kept_mid obeys none rest = absurd obeys.0
  hands (Submit batch) (Released n) old mid new y hs kept kept_mid obeys none rest = absurd obeys.0
  hands (Submit batch) Settled old mid new y hs kept kept_mid obeys none rest = absurd obeys.0
  hands (Submit batch) (Collected n) old mid new y hs kept kept_mid obeys none rest = absurd obeys.0
  hands (Submit batch) (Out o) old mid new y hs kept kept_mid obeys none rest = absurd obeys.0
  hands (Submit batch) (CutTaken n) old mid new y hs kept kept_mid obeys none rest = absurd obeys.0
  hands (Submit batch) (Written w) old mid new y hs kept kept_mid obeys none rest = absurd obeys.0
  hands (Submit batch) (Answered m ys) old mid new y hs kept kept_mid obeys none rest = absurd obeys.0
  hands (Submit batch) Closed old mid new y hs kept kept_mid obeys none rest = absurd obeys.0
  hands (SubmitAll group) (SubmittedAll n m) old mid new y hs kept kept_mid obeys none rest = hands_group group old mid new y hs obeys.0.submitted rest
  hands (SubmitAll group) (RefusedAll e back) old mid new y hs kept kept_mid obeys none rest = hands_none group e back old mid new y hs kept obeys.0 none rest
  hands (SubmitAll group) (Submitted n) old mid new y hs kept kept_mid obeys none rest = absurd obeys.0
  hands (SubmitAll group) (SubmittedAs n) old mid new y hs kept kept_mid obeys none rest = absurd obeys.0
  hands (SubmitAll group) (Released n) old mid new y hs kept kept_mid obeys none rest = absurd obeys.0
  hands (SubmitAll group) Settled old mid new y hs kept kept_mid obeys none rest = absurd obeys.0
  hands (SubmitAll group) (Collected n) old mid new y hs kept kept_mid obeys none rest = absurd obeys.0
  hands (SubmitAll group) (Out o) old mid new y hs kept kept_mid obeys none rest = absurd obeys.0
  hands (SubmitAll group) (CutTaken n) old mid new y hs kept kept_mid obeys none rest = absurd obeys.0
  hands (SubmitAll group) (Written w) old mid new y hs kept kept_mid obeys none rest = absurd obeys.0
  hands (SubmitAll group) (Answered m ys) old mid new y hs kept kept_mid obeys none rest = absurd obeys.0
  hands (SubmitAll group) Closed old mid new y hs kept kept_mid obeys none rest = absurd obeys.0
  hands (SubmitAll group) (Refused e b) old mid new y hs kept kept_mid obeys none rest = absurd obeys.0
  hands Release (Released n) old mid new y hs kept kept_mid obeys none rest = as_it_was answers outs_join old mid new y hs obeys.same rest
  hands Release (Refused e b) old mid new y hs kept kept_mid obeys none rest =
      ⊎_elim (λ foreign. as_it_was answers outs_join old mid new y hs foreign.1.same rest) (λ memory. as_it_was answers outs_join old mid new y hs memory.1.same rest) obeys.1
  hands Release (Submitted n) old mid new y hs kept kept_mid obeys none rest = absurd obeys
  hands Release (SubmittedAs n) old mid new y hs kept kept_mid obeys none rest = absurd obeys
  hands Release (SubmittedAll n m) old mid new y hs kept kept_mid obeys none rest = absurd obeys
  hands Release (RefusedAll e xs) old mid new y hs kept kept_mid obeys none rest = absurd obeys
  hands Release Settled old mid new y hs kept kept_mid obeys none rest = absurd obeys
  hands Release (Collected n) old mid new y hs kept kept_mid obeys none rest = absurd obeys
  hands Release (Out o) old mid new y hs kept kept_mid obeys none rest = absurd obeys
  hands Release (CutTaken n) old mid new y hs kept kept_mid obeys none rest = absurd obeys
  hands Release (Written w) old mid new y hs kept kept_mid obeys none rest = absurd obeys
  hands Release (Answered m ys) old mid new y hs kept kept_mid obeys none rest = absurd obeys
  hands Release Closed old mid new y hs kept kept_mid obeys none rest = absurd obeys
  hands Settle Settled old mid new y hs kept kept_mid obeys none rest = as_it_was answers outs_join old mid new y hs obeys.same rest
  hands Settle (Refused e b) old mid new y hs kept kept_mid obeys none rest = as_it_was answers outs_join old mid new y hs obeys.1.2.same rest
  hands Settle (Submitted n) old mid new y hs kept kept_mid obeys none rest = absurd obeys
  hands Settle (SubmittedAs n) old mid new y hs kept kept_mid obeys none rest = absurd obeys
  hands Settle (SubmittedAll n m) old mid new y hs kept kept_mid obeys none rest = absurd obeys
  hands Settle (RefusedAll e xs) old mid new y hs kept kept_mid obeys none rest = absurd obeys
  hands Settle (Released n) old mid new y hs kept kept_mid obeys none rest = absurd obeys
  hands Settle (Collected n) old mid new y hs kept kept_mid obeys none rest = absurd obeys
  hands Settle (Out o) old mid new y hs kept kept_mid obeys none rest = absurd obeys
  hands Settle (CutTaken n) old mid new y hs kept kept_mid obeys none rest = absurd obeys
  hands Settle (Written w) old mid new y hs kept kept_mid obeys none rest = absurd obeys
  hands Settle (Answered m ys) old mid new y hs kept kept_mid obeys none rest = absurd obeys
  hands Settle Closed old mid new y hs kept kept_mid obeys none rest = absurd obeys
  hands Collect (Collected n) old mid new y hs kept kept_mid obeys none rest = collected_from answers outs_join old mid new y hs kept kept_mid obeys.hall (obeys.brings.own) obeys.brings.outs obeys.collected rest
  hands Collect (Refused e b) old mid new y hs kept kept_mid obeys none rest =
      ⊎_elim (λ foreign. as_it_was answers outs_join old mid new y hs foreign.1.same rest) (λ memory. as_it_was answers outs_join old mid new y hs memory.1.same rest) obeys.1
  hands Collect (Submitted n) old mid new y hs kept kept_mid obeys none rest = absurd obeys
  hands Collect (SubmittedAs n) old mid new y hs kept kept_mid obeys none rest = absurd obeys
  hands Collect (SubmittedAll n m) old mid new y hs kept kept_mid obeys none rest = absurd obeys
  hands Collect (RefusedAll e xs) old mid new y hs kept kept_mid obeys none rest = absurd obeys
  hands Collect (Released n) old mid new y hs kept kept_mid obeys none rest = absurd obeys
  hands Collect Settled old mid new y hs kept kept_mid obeys none rest = absurd obeys
  hands Collect (Out o) old mid new y hs kept kept_mid obeys none rest = absurd obeys
  hands Collect (CutTaken n) old mid new y hs kept kept_mid obeys none rest = absurd obeys
  hands Collect (Written w) old mid new y hs kept kept_mid obeys none rest = absurd obeys
  hands Collect (Answered m ys) old mid new y hs kept kept_mid obeys none rest = absurd obeys
  hands Collect Closed old mid new y hs kept kept_mid obeys none rest = absurd obeys
  hands NextOut (Out None) old mid new y hs kept kept_mid obeys none rest = as_it_was answers outs_join old mid new y hs obeys.1 rest
  hands NextOut (Out (Some out)) old mid new y hs kept kept_mid obeys none rest = handed_first answers outs_join old mid new y hs out obeys.0 obeys.1 rest
  hands NextOut (Refused e b) old mid new y hs kept kept_mid obeys none rest = absurd obeys
  hands NextOut (Submitted n) old mid new y hs kept kept_mid obeys none rest = absurd obeys
  hands NextOut (SubmittedAs n) old mid new y hs kept kept_mid obeys none rest = absurd obeys
  hands NextOut (SubmittedAll n m) old mid new y hs kept kept_mid obeys none rest = absurd obeys
  hands NextOut (RefusedAll e xs) old mid new y hs kept kept_mid obeys none rest = absurd obeys
  hands NextOut (Released n) old mid new y hs kept kept_mid obeys none rest = absurd obeys
  hands NextOut Settled old mid new y hs kept kept_mid obeys none rest = absurd obeys
  hands NextOut (Collected n) old mid new y hs kept kept_mid obeys none rest = absurd obeys
  hands NextOut (CutTaken n) old mid new y hs kept kept_mid obeys none rest = absurd obeys
  hands NextOut (Written w) old mid new y hs kept kept_mid obeys none rest = absurd obeys
  hands NextOut (Answered m ys) old mid new y hs kept kept_mid obeys none rest = absurd obeys
  hands NextOut Closed old mid new y hs kept kept_mid obeys none rest = absurd obeys
  hands Cut (CutTaken n) old mid new y hs kept kept_mid obeys none rest =
      let is = obeys.cut in
      let S = obeys.hall in
      let so_many : mid.collected ≡ (collect_step S).1.collected = ap (λ k. k.collected) is in
      let count = collected_count S in
      brought answers outs_join old mid new y hs (outs_by (collect_step S).0) kept kept_mid (ap (λ k. k.plan) is) (ap (λ k. k.standing) is) (ap (λ k. k.queue) is)
      (obeys.brings.outs ∙ ap (λ m. meant_outs old answers old.collected m) (sym so_many)) (omega (arith, so_many, count, obeys.brings.own.collected)) rest
  hands Cut (Refused e b) old mid new y hs kept kept_mid obeys none rest =
      ⊎_elim
      (λ foreign. as_it_was answers outs_join old mid new y hs foreign.1.same rest)
      (λ other. ⊎_elim
      (λ memory. as_it_was answers outs_join old mid new y hs memory.1.same rest)
      (λ some. collected_from answers outs_join old mid new y hs kept kept_mid some.hall some.brings.own some.brings.outs some.collected rest)
      other)
      obeys.1
  hands Cut (Submitted n) old mid new y hs kept kept_mid obeys none rest = absurd obeys
  hands Cut (SubmittedAs n) old mid new y hs kept kept_mid obeys none rest = absurd obeys
  hands Cut (SubmittedAll n m) old mid new y hs kept kept_mid obeys none rest = absurd obeys
  hands Cut (RefusedAll e xs) old mid new y hs kept kept_mid obeys none rest = absurd obeys
  hands Cut (Released n) old mid new y hs kept kept_mid obeys none rest = absurd obeys
  hands Cut Settled old mid new y hs kept kept_mid obeys none rest = absurd obeys
  hands Cut (Collected n) old mid new y hs kept kept_mid obeys none rest = absurd obeys
  hands Cut (Out o) old mid new y hs kept kept_mid obeys none rest = absurd obeys
  hands Cut (Written w) old mid new y hs kept kept_mid obeys none rest = absurd obeys
  hands Cut (Answered m ys) old mid new y hs kept kept_mid obeys none rest = absurd obeys
  hands Cut Closed old mid new y hs kept kept_mid obeys none rest = absurd obeys
  hands (CutUpTo most) (CutTaken n) old mid new y hs kept kept_mid obeys none rest =
      let is = obeys.cut in
      let S = obeys.hall in
      let so_many : mid.collected ≡ (collect_step S).1.collected = ap (λ k. k.collected) is in
      let count = collected_count S in
      brought answers outs_join old mid new y hs (outs_by (collect_step S).0) kept kept_mid (ap (λ k. k.plan) is) (ap (λ k. k.standing) is) (ap (λ k. k.queue) is)
      (obeys.brings.outs ∙ ap (λ m. meant_outs old answers old.collected m) (sym so_many)) (omega (arith, so_many, count, obeys.brings.own.collected)) rest
  hands (CutUpTo most) (Refused e b) old mid new y hs kept kept_mid obeys none rest =
      ⊎_elim
      (λ foreign. as_it_was answers outs_join old mid new y hs foreign.1.same rest)
      (λ other. ⊎_elim
      (λ memory. as_it_was answers outs_join old mid new y hs memory.1.same rest)
      (λ some. collected_from answers outs_join old mid new y hs kept kept_mid some.hall some.brings.own some.brings.outs some.collected rest)
      other)
      obeys.1
  hands (CutUpTo most) (Submitted n) old mid new y hs kept kept_mid obeys none rest = absurd obeys
  hands (CutUpTo most) (SubmittedAs n) old mid new y hs kept kept_mid obeys none rest = absurd obeys
  hands (CutUpTo most) (SubmittedAll n m) old mid new y hs kept kept_mid obeys none rest = absurd obeys
  hands (CutUpTo most) (RefusedAll e xs) old mid new y hs kept kept_mid obeys none rest = absurd obeys
  hands (CutUpTo most) (Released n) old mid new y hs kept kept_mid obeys none rest = absurd obeys
  hands (CutUpTo most) Settled old mid new y hs kept kept_mid obeys none rest = absurd obeys
  hands (CutUpTo most) (Collected n) old mid new y hs kept kept_mid obeys none rest = absurd obeys
  hands (CutUpTo most) (Out o) old mid new y hs kept kept_mid obeys none rest = absurd obeys
  hands (CutUpTo most) (Written w) old mid new y hs kept kept_mid obeys none rest = absurd obeys
  hands (CutUpTo most) (Answered m ys) old mid new y hs kept kept_mid obeys none rest = absurd obeys
  hands (CutUpTo most) Closed old mid new y hs kept kept_mid obeys none rest = absurd obeys
  hands (Answer v w) (Answered m ys) old mid new y hs kept kept_mid obeys none rest = as_it_was answers outs_join old mid new y hs obeys.same rest
  hands (Answer v w) (Refused e b) old mid new y hs kept kept_mid obeys none rest =
      ⊎_elim
      (λ foreign. as_it_was answers outs_join old mid new y hs foreign.1.same rest)
      (λ other. ⊎_elim
      (λ memory. as_it_was answers outs_join old mid new y hs memory.1.same rest)
      (λ unpassed. as_it_was answers outs_join old mid new y hs unpassed.2.same rest)
      other)
      obeys.1
  hands (Answer v w) (Submitted n) old mid new y hs kept kept_mid obeys none rest = absurd obeys
  hands (Answer v w) (SubmittedAs n) old mid new y hs kept kept_mid obeys none rest = absurd obeys
  hands (Answer v w) (SubmittedAll n m) old mid new y hs kept kept_mid obeys none rest = absurd obeys
  hands (Answer v w) (RefusedAll e xs) old mid new y hs kept kept_mid obeys none rest = absurd obeys
  hands (Answer v w) (Released n) old mid new y hs kept kept_mid obeys none rest = absurd obeys
  hands (Answer v w) Settled old mid new y hs kept kept_mid obeys none rest = absurd obeys
  hands (Answer v w) (Collected n) old mid new y hs kept kept_mid obeys none rest = absurd obeys
  hands (Answer v w) (Out o) old mid new y hs kept kept_mid obeys none rest = absurd obeys
  hands (Answer v w) (CutTaken n) old mid new y hs kept kept_mid obeys none rest = absurd obeys
  hands (Answer v w) (Written u) old mid new y hs kept kept_mid obeys none rest = absurd obeys
  hands (Answer v w) Closed old mid new y hs kept kept_mid obeys none rest = absurd obeys
  hands WriteCut (Written w) old mid new y hs kept kept_mid obeys none rest =
      ⊎_elim
      (λ no. same_all answers outs_join old mid new y hs (ap (λ k. k.plan) no.2) (ap (λ k. k.standing) no.2) (ap (λ k. k.collected) no.2) (ap (λ k. k.queue) no.2) rest)
      (λ some.
      let is = some.1 in
      cut_off answers outs_join old mid new y hs kept (ap (λ k. k.plan) is) (ap (λ k. k.standing) is) (ap (λ k. k.collected) is) (ap (λ k. k.queue) is)
      (last old.standing (old.base - old.standing.epoch) old.base_states (omega (arith, kept.released, kept.from_checkpoint))) rest)
      obeys.0.cut
  hands WriteCut (Refused e b) old mid new y hs kept kept_mid obeys none rest =
      ⊎_elim
      (λ few. same_all answers outs_join old mid new y hs (ap (λ k. k.plan) few.1) (ap (λ k. k.standing) few.1) (ap (λ k. k.collected) few.1) (ap (λ k. k.queue) few.1) rest)
      (λ other. ⊎_elim
      (λ few. same_all answers outs_join old mid new y hs (ap (λ k. k.plan) few.1) (ap (λ k. k.standing) few.1) (ap (λ k. k.collected) few.1) (ap (λ k. k.queue) few.1) rest)
      (λ is. same_all answers outs_join old mid new y hs (ap (λ k. k.plan) is) (ap (λ k. k.standing) is) (ap (λ k. k.collected) is) (ap (λ k. k.queue) is) rest)
      other)
      obeys.0.unchanged
  hands WriteCut (Submitted n) old mid new y hs kept kept_mid obeys none rest = absurd obeys.0
  hands WriteCut (SubmittedAs n) old mid new y hs kept kept_mid obeys none rest = absurd obeys.0
  hands WriteCut (SubmittedAll n m) old mid new y hs kept kept_mid obeys none rest = absurd obeys.0
  hands WriteCut (RefusedAll e xs) old mid new y hs kept kept_mid obeys none rest = absurd obeys.0
  hands WriteCut (Released n) old mid new y hs kept kept_mid obeys none rest = absurd obeys.0
  hands WriteCut Settled old mid new y hs kept kept_mid obeys none rest = absurd obeys.0
  hands WriteCut (Collected n) old mid new y hs kept kept_mid obeys none rest = absurd obeys.0
  hands WriteCut (Out o) old mid new y hs kept kept_mid obeys none rest = absurd obeys.0
  hands WriteCut (CutTaken n) old mid new y hs kept kept_mid obeys none rest = absurd obeys.0
  hands WriteCut (Answered m ys) old mid new y hs kept kept_mid obeys none rest = absurd obeys.0
  hands WriteCut Closed old mid new y hs kept kept_mid obeys none rest = absurd obeys.0
  hands (CloseFree most) Closed old mid new y hs kept kept_mid obeys none rest =
      let is = obeys.0.same in
      same_all answers outs_join old mid new y hs (ap (λ k. k.plan) is) (ap (λ k. k.standing) is) (ap (λ k. k.collected) is) (ap (λ k. k.queue) is) rest
  hands (CloseFree most) (Refused e b) old mid new y hs kept kept_mid obeys none rest =
      ⊎_elim
      (λ is. same_all answers outs_join old mid new y hs (ap (λ k. k.plan) is) (ap (λ k. k.standing) is) (ap (λ k. k.collected) is) (ap (λ k. k.queue) is) rest)
      (λ few. same_all answers outs_join old mid new y hs (ap (λ k. k.plan) few.1) (ap (λ k. k.standing) few.1) (ap (λ k. k.collected) few.1) (ap (λ k. k.queue) few.1) rest)
      obeys.0.unchanged
  hands (CloseFree most) (Submitted n) old mid new y hs kept kept_mid obeys none rest = absurd obeys.0
  hands (CloseFree most) (SubmittedAs n) old mid new y hs kept kept_mid obeys none rest = absurd obeys.0
  hands (CloseFree most) (SubmittedAll n m) old mid new y hs kept kept_mid obeys none rest = absurd obeys.0
  hands (CloseFree most) (RefusedAll e xs) old mid new y hs kept kept_mid obeys none rest = absurd obeys.0
  hands (CloseFree most) (Released n) old mid new y hs kept kept_mid obeys none rest = absurd obeys.0
  hands (CloseFree most) Settled old mid new y hs kept kept_mid obeys none rest = absurd obeys.0
  hands (CloseFree most) (Collected n) old mid new y hs kept kept_mid obeys none rest = absurd obeys.0
  hands (CloseFree most) (Out o) old mid new y hs kept kept_mid obeys none rest = absurd obeys.0
  hands (CloseFree most) (CutTaken n) old mid new y hs kept kept_mid obeys none rest = absurd obeys.0
  hands (CloseFree most) (Answered m ys) old mid new y hs kept kept_mid obeys none rest = absurd obeys.0
  hands (CloseFree most) (Written w) old mid new y hs kept kept_mid obeys none rest = absurd obeys.0

  -- WHAT COMMANDS HAND OUT
  pub driven_hands : (commands : List Command) (replies : List Reply) (old new : Keeping D) → IsKeeping old answers → Driven view answers commands replies old new
      → HandsOn answers old new (submitted_by commands replies) (handed_out replies)
  driven_hands [] [] old new kept e =
      subst (λ (k : Keeping D). HandsOn answers old k [] []) (sym e) (record {
        on = omega arith;
        within = omega (arith, kept.done);
        outs = sym (append-nil old.queue) ∙ ap (λ m. old.queue ++ numbered (old.collected + 1) (take m (drop (old.collected - old.standing.epoch) (outs_of answers outs_join old [])))) zero_is;
      })
    where
      zero_is : 0 ≡ old.collected - old.collected
      zero_is = omega arith
  driven_hands [] (r ∷ rs) old new kept none = absurd none
  driven_hands (c ∷ cs) [] old new kept none = absurd none
  driven_hands (c ∷ cs) (r ∷ rs) old new kept driven =
      hands c r old driven.0 new (submitted_by cs rs) (handed_out rs) kept driven.1 driven.2
      (λ broke. (driven_broken view answers cs rs driven.0 new driven.3 broke).1)
      (driven_hands cs rs driven.0 new driven.1 driven.3)
