-- What is handed out is of the history that the keeper then stands for.
use Rattle.std.proofs.Common.{◌≡◌, ℕ, ◌+◌, ◌-◌, ◌≤◌, List, [], ◌∷◌, ◌++◌, length, take, drop, sym, ap, ◌∙◌, subst, arith}
use Rattle.std.specs.Prelude.{All, Contains, Some, None}
use Rattle.std.proofs.lemmas.List.{append_assoc, length-append, length-map, length-drop, length-take, map-append, take-append-le, drop-append-le, length-take-le, take-append-drop}
use Rattle.std.proofs.lemmas.List.Elements.{All-nil, All-cons, All-head, All-tail, All-weaker, All-append, All-contains_itself, Contains-append_left, Contains-append_right}
use Rattle.std.proofs.Math.Seq.{drop-append-add}
use Rattle.std.proofs.Math.Nat.{min-le_left}
use Rattle.td_stamp.specs.declared.values.Entry.{Entry}
use Rattle.td_stamp.specs.declared.values.Output.{Output}
use Rattle.td_stamp.specs.declared.epoch_out.EpochOut.{EpochOut}
use Rattle.td_stamp.specs.States.{StateList}
use Rattle.td_plan.specs.Lines.{Line}
use Rattle.td_plan.specs.Tree.{tree_of}
use Rattle.td_calls.specs.Answers.{Answers}
use Rattle.td_batch.specs.Meaning.{run, numbered}
use Rattle.td_journal.specs.declared.payload.Submitted.{Submitted as AnySubmitted}
use Rattle.td_store.specs.standing.Standing.{Standing, last_epoch, batches_of}
use Rattle.td_store.specs.standing.Stops.{Begins, Stands}
use Rattle.td_store.specs.standing.Advanced.{states_by}
use Rattle.td_keeper.specs.declared.command.Command.{Command}
use Rattle.td_keeper.specs.declared.command.Reply.{Reply}
use Rattle.td_keeper.specs.declared.command.Reply.TheVariants.{Submitted, SubmittedAs, SubmittedAll, Released, Settled, Collected, Out, CutTaken, Answered, Written, Closed, Refused, RefusedAll}
use Rattle.td_keeper.specs.Keeping.{Keeping, IsKeeping}
use Rattle.td_keeper.specs.Driven.{submitted_by, handed_out, outs_beyond, HandsOn}
use Rattle.td_keeper.specs.Acknowledged.{outs_of, HandsOutUpTo, Acknowledges}
use Rattle.td_keeper.proofs.Collecting.{OutsJoin}
use Rattle.td_keeper.proofs.Handing.{numbered-append}
use Rattle.td_keeper.proofs.Runs.{length_outs}

-- a history has as many epochs as what stands for it
pub count_of : (comes : StateList → List (List Entry) → StateList) (s : Standing) (history : List AnySubmitted) → Stands comes s history → length history ≡ last_epoch s
count_of comes s history stands =
    let whole = ap length stands.whole in
    let n = length-append stands.before s.submitted in
    omega (arith, whole, n, stands.epochs)

-- what holds of all of two lists holds of all of the first
pub first_of : {X : Type 0} (P : X → Type 0) (xs ys : List X) → All P (xs ++ ys) → All P xs
first_of P [] ys all = All-nil P
first_of P (x ∷ xs) ys all = All-cons P x xs (All-head P x (xs ++ ys) all) (first_of P xs ys (All-tail P x (xs ++ ys) all))

pub last_of : {X : Type 0} (P : X → Type 0) (xs ys : List X) → All P (xs ++ ys) → All P ys
last_of P [] ys all = all
last_of P (x ∷ xs) ys all = last_of P xs ys (All-tail P x (xs ++ ys) all)

module _ (answers : Answers) (outs_join : OutsJoin answers) (plan : List Line) where
  -- the outputs of a history, epoch by epoch
  abbrev outs : List AnySubmitted → List (List Output)
  outs history = (run answers (tree_of plan) [] (batches_of history)).outs

  count : (history : List AnySubmitted) → length (outs history) ≡ length history
  count history = length_outs answers (tree_of plan) [] (batches_of history) ∙ length-map history (λ s. s.batch)

  -- later ones come after them
  abbrev later : List AnySubmitted → List AnySubmitted → List (List Output)
  later history more = (run answers (tree_of plan) (run answers (tree_of plan) [] (batches_of history)).states (batches_of more)).outs

  outs_on : (history more : List AnySubmitted) → outs (history ++ more) ≡ outs history ++ later history more
  outs_on history more =
      ap (λ (l : List (List Entry)). (run answers (tree_of plan) [] l).outs) (map-append (λ s. s.batch) history more)
      ∙ outs_join (tree_of plan) [] (batches_of history) (batches_of more)

  -- so an output is still one where more follow
  pub out_still : (history more : List AnySubmitted) (out : EpochOut) → Contains (outs_of answers plan history) out → Contains (outs_of answers plan (history ++ more)) out
  out_still history more out there =
      subst (λ (l : List EpochOut). Contains l out) (sym (ap (numbered 1) (outs_on history more) ∙ numbered-append 1 (outs history) (later history more)))
      (Contains-append_left (numbered 1 (outs history)) (numbered (1 + length (outs history)) (later history more)) out there)

  -- of all outputs, those after one epoch up to another
  some : (c to : ℕ) (A : List (List Output)) → c ≤ to → to ≤ length A → All (Contains (numbered 1 A)) (numbered (c + 1) (take (to - c) (drop c A)))
  some c to A up most =
      subst (λ (l : List EpochOut). All (Contains l) here) (sym whole)
      (All-weaker (Contains here) (Contains (before ++ (here ++ after)))
      (λ o there. Contains-append_right before (here ++ after) o (Contains-append_left here after o there)) here (All-contains_itself here))
    where
      before : List EpochOut
      before = numbered 1 (take c A)

      here : List EpochOut
      here = numbered (c + 1) (take (to - c) (drop c A))

      after : List EpochOut
      after = numbered (c + 1 + length (take (to - c) (drop c A))) (drop (to - c) (drop c A))

      next : 1 + length (take c A) ≡ c + 1
      next = let first : length (take c A) ≡ c = length-take-le c A (omega (arith, up, most)) in omega (arith, first)

      whole : numbered 1 A ≡ before ++ (here ++ after)
      whole =
          ap (numbered 1) (sym (take-append-drop c A))
          ∙ (numbered-append 1 (take c A) (drop c A)
          ∙ (ap (λ n. before ++ numbered n (drop c A)) next
          ∙ ap (λ (l : List EpochOut). before ++ l) (ap (numbered (c + 1)) (sym (take-append-drop (to - c) (drop c A))) ∙ numbered-append (c + 1) (take (to - c) (drop c A)) (drop (to - c) (drop c A)))))

  -- and of what stands for a history, with what was submitted after it
  pub beyond : (s : Standing) (history batches x : List AnySubmitted) (c to : ℕ) → Stands (states_by answers plan) s history → Begins batches x → s.epoch ≤ c → c ≤ to → to ≤ length (history ++ batches)
      → All (Contains (outs_of answers plan (history ++ batches))) (numbered (c + 1) (take (to - c) (drop (c - s.epoch) (run answers (tree_of plan) s.states (batches_of (s.submitted ++ x))).outs)))
  beyond s history batches x c to stands begins from up most =
      subst (λ (l : List (List Output)). All (Contains (numbered 1 all)) (numbered (c + 1) l)) same (some c to all up (omega (arith, most, count (history ++ batches))))
    where
      all : List (List Output)
      all = outs (history ++ batches)

      first : List (List Output)
      first = outs stands.before

      others : List (List Output)
      others = (run answers (tree_of plan) s.states (batches_of (s.submitted ++ x))).outs

      more : List (List Output)
      more = later (history ++ batches) begins.0

      as_before : (history ++ batches) ++ begins.0 ≡ stands.before ++ (s.submitted ++ x)
      as_before =
          append_assoc history batches begins.0
          ∙ (ap (λ (l : List AnySubmitted). history ++ l) (sym begins.1)
          ∙ (ap (λ (l : List AnySubmitted). l ++ x) stands.whole ∙ append_assoc stands.before s.submitted x))

      whole : all ++ more ≡ first ++ others
      whole =
          sym (outs_on (history ++ batches) begins.0)
          ∙ (ap outs as_before
          ∙ (outs_on stands.before (s.submitted ++ x)
          ∙ ap (λ (b : StateList). first ++ (run answers (tree_of plan) b (batches_of (s.submitted ++ x))).outs) (sym stands.states)))

      place : c ≡ length first + (c - s.epoch)
      place = let n = count stands.before in omega (arith, n, from, stands.epochs)

      same : take (to - c) (drop c all) ≡ take (to - c) (drop (c - s.epoch) others)
      same =
          let n = count (history ++ batches) in
          let left = length-drop c all in
          sym (take-append-le (to - c) (drop c all) more (omega (arith, n, left, up, most)))
          ∙ (ap (take (to - c)) (sym (drop-append-le c all more (omega (arith, n, up, most))))
          ∙ (ap (λ (l : List (List Output)). take (to - c) (drop c l)) whole
          ∙ (ap (λ (k : ℕ). take (to - c) (drop k (first ++ others))) place
          ∙ ap (take (to - c)) (drop-append-add first others (c - s.epoch)))))

-- WHAT IS HANDED OUT, and what is left in the queue, is of the history with what was acknowledged
pub handed_meant : {D : Type 0} (answers : Answers) (outs_join : OutsJoin answers) (commands : List Command) (replies : List Reply) (old new : Keeping D) (history : List AnySubmitted) → IsKeeping old answers
    → (acked : Acknowledges answers commands replies old new) → HandsOn answers old new (submitted_by commands replies) (handed_out replies) → Stands (states_by answers old.plan) old.standing history
    → All (Contains (outs_of answers old.plan history)) old.queue → All (Contains (outs_of answers old.plan (history ++ acked.batches))) (handed_out replies ++ new.queue)
handed_meant answers outs_join commands replies old new history kept acked hands stands queue =
    let many = count_of (states_by answers old.plan) old.standing history stands in
    let more = length-append history acked.batches in
    let far = acked.last in
    let done = acked.kept.done in
    subst (λ (l : List EpochOut). All (Contains (outs_of answers old.plan (history ++ acked.batches))) l) (sym hands.outs)
    (All-append (Contains (outs_of answers old.plan (history ++ acked.batches))) old.queue (outs_beyond old answers (submitted_by commands replies) new.collected)
    (All-weaker (Contains (outs_of answers old.plan history)) (Contains (outs_of answers old.plan (history ++ acked.batches))) (out_still answers outs_join old.plan history acked.batches) old.queue queue)
    (beyond answers outs_join old.plan old.standing history acked.batches (submitted_by commands replies) old.collected new.collected stands acked.submitted
    (omega (arith, kept.from_checkpoint, kept.collected)) hands.on (omega (arith, many, more, far, done))))

-- numbered outputs, up to the last of them
up_to : (k m : ℕ) (xs : List (List Output)) → k + length xs ≤ m + 1 → All (λ (o : EpochOut). o.epoch ≤ m) (numbered k xs)
up_to k m [] short = All-nil (λ (o : EpochOut). o.epoch ≤ m)
up_to k m (x ∷ xs) short =
    All-cons (λ (o : EpochOut). o.epoch ≤ m) (record { epoch = k; recs = x }) (numbered (k + 1) xs) (omega (arith, short)) (up_to (k + 1) m xs (omega (arith, short)))

-- of the outputs among some replies
of_replies : (n : ℕ) (replies : List Reply) → All (λ (o : EpochOut). o.epoch ≤ n) (handed_out replies) → All (HandsOutUpTo n) replies
of_replies n [] all = All-nil (HandsOutUpTo n)
of_replies n (Out (Some o) ∷ rs) all =
    All-cons (HandsOutUpTo n) (Out (Some o)) rs (All-head (λ (p : EpochOut). p.epoch ≤ n) o (handed_out rs) all) (of_replies n rs (All-tail (λ (p : EpochOut). p.epoch ≤ n) o (handed_out rs) all))
of_replies n (Out None ∷ rs) all = All-cons (HandsOutUpTo n) (Out None) rs tt (of_replies n rs all)
of_replies n (Submitted e ∷ rs) all = All-cons (HandsOutUpTo n) (Submitted e) rs tt (of_replies n rs all)
of_replies n (SubmittedAs e ∷ rs) all = All-cons (HandsOutUpTo n) (SubmittedAs e) rs tt (of_replies n rs all)
of_replies n (SubmittedAll e m ∷ rs) all = All-cons (HandsOutUpTo n) (SubmittedAll e m) rs tt (of_replies n rs all)
of_replies n (Released e ∷ rs) all = All-cons (HandsOutUpTo n) (Released e) rs tt (of_replies n rs all)
of_replies n (Settled ∷ rs) all = All-cons (HandsOutUpTo n) Settled rs tt (of_replies n rs all)
of_replies n (Collected e ∷ rs) all = All-cons (HandsOutUpTo n) (Collected e) rs tt (of_replies n rs all)
of_replies n (CutTaken e ∷ rs) all = All-cons (HandsOutUpTo n) (CutTaken e) rs tt (of_replies n rs all)
of_replies n (Written w ∷ rs) all = All-cons (HandsOutUpTo n) (Written w) rs tt (of_replies n rs all)
of_replies n (Answered m ys ∷ rs) all = All-cons (HandsOutUpTo n) (Answered m ys) rs tt (of_replies n rs all)
of_replies n (Closed ∷ rs) all = All-cons (HandsOutUpTo n) Closed rs tt (of_replies n rs all)
of_replies n (Refused e b ∷ rs) all = All-cons (HandsOutUpTo n) (Refused e b) rs tt (of_replies n rs all)
of_replies n (RefusedAll e b ∷ rs) all = All-cons (HandsOutUpTo n) (RefusedAll e b) rs tt (of_replies n rs all)

-- WHAT IS HANDED OUT IS COUNTED
pub handed_counted : {D : Type 0} (answers : Answers) (commands : List Command) (replies : List Reply) (old new : Keeping D) → Acknowledges answers commands replies old new
    → HandsOn answers old new (submitted_by commands replies) (handed_out replies) → All (λ (o : EpochOut). o.epoch ≤ last_epoch old.standing) old.queue
    → All (HandsOutUpTo (last_epoch new.standing)) replies × All (λ (o : EpochOut). o.epoch ≤ last_epoch new.standing) new.queue
handed_counted answers commands replies old new acked hands queue =
    (of_replies (last_epoch new.standing) replies (first_of up (handed_out replies) new.queue all), last_of up (handed_out replies) new.queue all)
  where
    up : EpochOut → Type 0
    up o = o.epoch ≤ last_epoch new.standing

    outs : List (List Output)
    outs = drop (old.collected - old.standing.epoch) (run answers (tree_of old.plan) old.standing.states (batches_of (old.standing.submitted ++ submitted_by commands replies))).outs

    within : old.collected + 1 + length (take (new.collected - old.collected) outs) ≤ last_epoch new.standing + 1
    within =
        let n = length-take (new.collected - old.collected) outs in
        let few = min-le_left (new.collected - old.collected) (length outs) in
        let on = hands.on in
        let done = acked.kept.done in
        omega (arith, n, few, on, done)

    all : All up (handed_out replies ++ new.queue)
    all =
        let far = acked.last in
        subst (λ (l : List EpochOut). All up l) (sym hands.outs)
        (All-append up old.queue (outs_beyond old answers (submitted_by commands replies) new.collected)
        (All-weaker (λ (o : EpochOut). o.epoch ≤ last_epoch old.standing) up (λ o le. omega (arith, le, far)) old.queue queue)
        (up_to (old.collected + 1) (last_epoch new.standing) (take (new.collected - old.collected) outs) within))
