-- A keeper without its watch: it obeys each command as one with a watch does.
use Rattle.std.proofs.Common.{◌≡◌, ◌⊎◌, inl, inr, ⊎_elim, ℕ, List, [], ◌∷◌, ◌++◌, ap, subst}
use Rattle.std.specs.Prelude.{Option, Some, None}
use Rattle.td_stamp.specs.declared.values.Entry.{Entry}
use Rattle.td_calls.specs.Answers.{Answers}
use Rattle.td_machine.specs.State.{HallState}
use Rattle.td_disk.specs.Disk.{DiskView, DiskState}
use Rattle.td_journal.specs.declared.payload.Submitted.{Submitted as AnySubmitted}
use Rattle.td_store.specs.declared.standing.error.KeeperError.{KeeperError}
use Rattle.td_watch.specs.View.{View}
use Rattle.td_questions.specs.declared.question.Wanted.{Wanted}
use Rattle.td_keeper.specs.declared.command.Command.{Command}
use Rattle.td_keeper.specs.declared.command.Command.TheVariants.{Submit, SubmitAs, SubmitAll, Release, Settle, Collect, NextOut, Cut, CutUpTo, Answer, WriteCut, CloseFree}
use Rattle.td_keeper.specs.declared.command.Reply.{Reply}
use Rattle.td_keeper.specs.declared.command.Reply.TheVariants.{Submitted, SubmittedAs, SubmittedAll, Released, Settled, Collected, Out, CutTaken, Answered, Written, Closed, Refused, RefusedAll}
use Rattle.td_keeper.specs.declared.receipt.Receipt.{Receipt}
use Rattle.td_keeper.specs.declared.receipt.Receipt.TheVariants.{New, Already}
use Rattle.td_keeper.specs.Keeping.{Keeping, IsKeeping, with_group}
use Rattle.td_keeper.specs.Received.{IsReceived}
use Rattle.td_keeper.specs.Halls.{IsOwn}
use Rattle.td_keeper.specs.Driven.{MayWrite, Fails, IsNotSubmitted, Submits, SubmitsAs, SubmitsAll, Finds, Releases, Settles, BringsIn, Collects, HandsOut, IsNotCut, Cuts, Asks, Writes, ClosesFree, Obeys, Driven}
use Rattle.td_theorem.specs.Life.{Obeyed}

-- the keeper, as no one watches it
abbrev pub unwatched : {D : Type 0} → Keeping D → Keeping D
unwatched k = record k { watch = None }

-- each of two cases
either : {A B C E : Type 0} → A ⊎ B → (A → C) → (B → E) → C ⊎ E
either said f g = ⊎_elim (λ a. inl (f a)) (λ b. inr (g b)) said

-- its memory is right
pub kept_unwatched : {D : Type 0} (answers : Answers) (k : Keeping D) → IsKeeping k answers → IsKeeping (unwatched k) answers
kept_unwatched answers k is = record {
  which = is.which;
  batches = is.batches;
  few = is.few;
  small = is.small;
  states = is.states;
  from_checkpoint = is.from_checkpoint;
  released = is.released;
  base_states = is.base_states;
  collected = is.collected;
  done = is.done;
  watched = tt;
}

-- its halls are the same
own : {D : Type 0} (k : Keeping D) (S : HallState) → IsOwn k S → IsOwn (unwatched k) S
own k S is = record {
  plan = is.plan;
  base = is.base;
  base_states = is.base_states;
  collected = is.collected;
  batches = is.batches;
}

was_own : {D : Type 0} (k : Keeping D) (S : HallState) → IsOwn (unwatched k) S → IsOwn k S
was_own k S is = record {
  plan = is.plan;
  base = is.base;
  base_states = is.base_states;
  collected = is.collected;
  batches = is.batches;
}

-- a group more
grouped : {D : Type 0} (group : List AnySubmitted) (old new : Keeping D) → new ≡ with_group old new.device group → unwatched new ≡ with_group (unwatched old) new.device group
grouped [] old new is = ap unwatched is
grouped (x ∷ xs) old new is = ap unwatched is

module _ {D : Type 0} (view : D → DiskView) (answers : Answers) where
  may_write : (reply : Reply) (old new : Keeping D) (x : List AnySubmitted) → MayWrite view answers reply old new x
      → MayWrite view answers reply (unwatched old) (unwatched new) x
  may_write reply old new x is = record {
    counted = is.counted;
    stays = is.stays;
    advances = λ lawful. let on = is.advances lawful in record { lawful = on.lawful; later = on.later; since = on.since };
    short = is.short;
  }

  fails : (old new : Keeping D) → Fails view answers old new → Fails view answers (unwatched old) (unwatched new)
  fails old new is = record { broken = is.broken; risen = is.risen }

  finds : {P Q : HallState → Type 0} (old new : Keeping D) → Finds view answers P old new → ((S : HallState) → P S → Q S) → Finds view answers Q (unwatched old) (unwatched new)
  finds old new is weaker = record {
    hall = is.hall;
    reached = is.reached;
    is = weaker is.hall is.is;
    same = ap unwatched is.same;
  }

  not_submitted : (refusal : Option KeeperError) (batch : List Entry) (e : KeeperError) (back : Option (List Entry)) (old new : Keeping D)
      → IsNotSubmitted view answers refusal batch e back old new → IsNotSubmitted view answers refusal batch e back (unwatched old) (unwatched new)
  not_submitted refusal batch e back old new r = record {
    batch_back = r.batch_back;
    cause = r.cause;
    unchanged = either r.unchanged (λ same. ap unwatched same) (λ failed. either failed (λ memory. (memory.0, ap unwatched memory.1)) (λ device. (device.0, ap unwatched device.1)));
    memory = r.memory;
    device = λ is. fails old new (r.device is);
  }

  submits : (batch : List Entry) (reply : Reply) (old new : Keeping D) → Submits view answers batch reply old new
      → Submits view answers batch reply (unwatched old) (unwatched new)
  submits batch (Submitted n) old new r = record { accepted = r.accepted; submitted = ap unwatched r.submitted; last = r.last }
  submits batch (Refused e back) old new r = not_submitted _ batch e back old new r
  submits batch other old new r = absurd r

  receives : (request : ℕ) (batch : List Entry) (receipt : Receipt) (old new : Keeping D) → IsReceived request batch receipt old new → IsReceived request batch receipt (unwatched old) (unwatched new)
  receives request batch (New n) old new r = (r.0, r.1, ap unwatched r.2)
  receives request batch (Already n) old new r = (r.0, r.1, ap unwatched r.2)

  submits_as : (request : ℕ) (batch : List Entry) (reply : Reply) (old new : Keeping D) → SubmitsAs view answers request batch reply old new
      → SubmitsAs view answers request batch reply (unwatched old) (unwatched new)
  submits_as request batch (SubmittedAs receipt) old new r = record { accepted = r.accepted; received = receives request batch receipt old new r.received }
  submits_as request batch (Refused e back) old new r = record { refused = not_submitted _ batch e back old new r.refused; repeated = r.repeated }
  submits_as request batch other old new r = absurd r

  submits_all : (group : List AnySubmitted) (reply : Reply) (old new : Keeping D) → SubmitsAll view answers group reply old new
      → SubmitsAll view answers group reply (unwatched old) (unwatched new)
  submits_all group (SubmittedAll first end) old new r = record { accepted = r.accepted; submitted = grouped group old new r.submitted; first_is = r.first_is; end_is = r.end_is }
  submits_all group (RefusedAll e back) old new r = record {
    group_back = r.group_back;
    cause = r.cause;
    unchanged = either r.unchanged (λ same. ap unwatched same) (λ failed. either failed (λ memory. (memory.0, ap unwatched memory.1)) (λ device. (device.0, ap unwatched device.1)));
    memory = r.memory;
    device = λ is. fails old new (r.device is);
    images = r.images;
  }
  submits_all group other old new r = absurd r

  releases : (reply : Reply) (old new : Keeping D) → Releases view answers reply old new → Releases view answers reply (unwatched old) (unwatched new)
  releases (Released n) old new r = finds old new r (λ S is. (own old S is.0, is.1, is.2, is.3))
  releases (Refused e back) old new r = (
    r.0,
    either r.1 (λ foreign. (foreign.0, finds old new foreign.1 (λ S is his. is (was_own old S his)))) (λ memory. (memory.0, finds old new memory.1 (λ S is. (own old S is.0, is.1)))),
  )
  releases other old new r = absurd r

  settles : (reply : Reply) (old new : Keeping D) → Settles view answers reply old new → Settles view answers reply (unwatched old) (unwatched new)
  settles Settled old new r = finds old new r (λ S is. is)
  settles (Refused e back) old new r = (r.0, (r.1.0, r.1.1, finds old new r.1.2 (λ S is. is)))
  settles other old new r = absurd r

  brings : (old : Keeping D) (S : HallState) → BringsIn view answers old S → BringsIn view answers (unwatched old) S
  brings old S is = record { reached = is.reached; own = own old S is.own; outs = is.outs }

  collects : (reply : Reply) (old new : Keeping D) → Collects view answers reply old new → Collects view answers reply (unwatched old) (unwatched new)
  collects (Collected n) old new r = record { hall = r.hall; brings = brings old r.hall r.brings; count = r.count; collected = ap unwatched r.collected }
  collects (Refused e back) old new r = (
    r.0,
    either r.1 (λ foreign. (foreign.0, finds old new foreign.1 (λ S is his. is (was_own old S his)))) (λ memory. (memory.0, finds old new memory.1 (λ S is. own old S is))),
  )
  collects other old new r = absurd r

  hands_out : (reply : Reply) (old new : Keeping D) → HandsOut view answers reply old new → HandsOut view answers reply (unwatched old) (unwatched new)
  hands_out (Out None) old new r = (r.0, ap unwatched r.1)
  hands_out (Out (Some out)) old new r = (r.0, ap unwatched r.1)
  hands_out other old new r = absurd r

  not_cut : (e : KeeperError) (old new : Keeping D) → IsNotCut view answers e old new → IsNotCut view answers e (unwatched old) (unwatched new)
  not_cut e old new r = record { hall = r.hall; brings = brings old r.hall r.brings; cause = r.cause; collected = ap unwatched r.collected }

  cuts : (most : Option ℕ) (reply : Reply) (old new : Keeping D) → Cuts view answers most reply old new → Cuts view answers most reply (unwatched old) (unwatched new)
  cuts most (CutTaken n) old new r = record {
    hall = r.hall;
    brings = brings old r.hall r.brings;
    accepted = r.accepted;
    place = r.place;
    base = r.base;
    cut = ap unwatched r.cut;
    states = r.states;
  }
  cuts most (Refused e back) old new r = (
    r.0,
    either r.1 (λ foreign. (foreign.0, finds old new foreign.1 (λ S is his. is (was_own old S his))))
        (λ later. either later (λ memory. (memory.0, finds old new memory.1 (λ S is. own old S is))) (λ none. not_cut e old new none)),
  )
  cuts most other old new r = absurd r

  -- an answer is of the same states
  asks : (vertex : ℕ) (wanted : Wanted) (reply : Reply) (old new : Keeping D) → Asks view answers vertex wanted reply old new
      → Asks view answers vertex wanted reply (unwatched old) (unwatched new)
  asks vertex wanted (Answered m ys) old new r = record { last = r.last; answer = r.answer; same = ap unwatched r.same }
  asks vertex wanted (Refused e back) old new r = (
    r.0,
    either r.1 (λ foreign. (foreign.0, finds old new foreign.1 (λ S is his. is (was_own old S his))))
        (λ later. either later (λ memory. (memory.0, finds old new memory.1 (λ S is. own old S is)))
        (λ unpassed. (unpassed.0, unpassed.1, finds old new unpassed.2 (λ S is. (own old S is.0, is.1))))),
  )
  asks vertex wanted other old new r = absurd r

  writes : (reply : Reply) (old new : Keeping D) → Writes view answers reply old new → Writes view answers reply (unwatched old) (unwatched new)
  writes (Written w) old new r = record {
    accepted = r.accepted;
    cut = either r.cut (λ none. (none.0, none.1, ap unwatched none.2)) (λ some. (some.0, ap unwatched some.1));
  }
  writes (Refused e back) old new r = record {
    no_batch = r.no_batch;
    cause = r.cause;
    unchanged = either r.unchanged (λ many. (many.0, ap unwatched many.1)) (λ other. either other (λ failed. (failed.0, ap unwatched failed.1)) (λ same. ap unwatched same));
    device = λ is. fails old new (r.device is);
  }
  writes other old new r = absurd r

  closes : (most : ℕ) (reply : Reply) (old new : Keeping D) → ClosesFree view answers most reply old new
      → ClosesFree view answers most reply (unwatched old) (unwatched new)
  closes most Closed old new r = record { accepted = r.accepted; same = ap unwatched r.same; closed = r.closed }
  closes most (Refused e back) old new r = record {
    no_batch = r.no_batch;
    cause = r.cause;
    unchanged = either r.unchanged (λ same. ap unwatched same) (λ failed. (failed.0, ap unwatched failed.1));
    device = λ is. fails old new (r.device is);
  }
  closes most other old new r = absurd r

  -- ONE COMMAND
  obeys : (command : Command) (reply : Reply) (old new : Keeping D) → Obeys view answers command reply old new
      → Obeys view answers command reply (unwatched old) (unwatched new)
  obeys (Submit batch) reply old new is = (submits batch reply old new is.0, may_write reply old new _ is.1)
  obeys (SubmitAs request batch) reply old new is = (submits_as request batch reply old new is.0, may_write reply old new _ is.1)
  obeys (SubmitAll group) reply old new is = (submits_all group reply old new is.0, may_write reply old new _ is.1)
  obeys Release reply old new is = releases reply old new is
  obeys Settle reply old new is = settles reply old new is
  obeys Collect reply old new is = collects reply old new is
  obeys NextOut reply old new is = hands_out reply old new is
  obeys Cut reply old new is = cuts None reply old new is
  obeys (Answer vertex wanted) reply old new is = asks vertex wanted reply old new is
  obeys (CutUpTo epoch) reply old new is = cuts (Some epoch) reply old new is
  obeys WriteCut reply old new is = (writes reply old new is.0, may_write reply old new _ is.1)
  obeys (CloseFree most) reply old new is = (closes most reply old new is.0, may_write reply old new _ is.1)

  -- COMMANDS, whatever watches are attached between them
  pub driven_of : (commands : List Command) (replies : List Reply) (old new : Keeping D) → Obeyed view answers commands replies old new
      → Driven view answers commands replies (unwatched old) (unwatched new)
  driven_of [] [] old new is = ap unwatched is.1
  driven_of [] (r ∷ rs) old new none = absurd none
  driven_of (c ∷ cs) [] old new none = absurd none
  driven_of (c ∷ cs) (r ∷ rs) old new is =
      let mid : Keeping D = is.1 in
      (unwatched mid, kept_unwatched answers mid is.2, obeys c r (record old { watch = is.0 }) mid is.3, driven_of cs rs mid new is.4)

  -- and back: a watch was attached, and then none changed
  pub obeyed_from : (watch : Option View) (commands : List Command) (replies : List Reply) (old new : Keeping D) → Driven view answers commands replies (record old { watch = watch }) new
      → Obeyed view answers commands replies old new
  obeyed_from watch [] [] old new is = (watch, is)
  obeyed_from watch [] (r ∷ rs) old new none = absurd none
  obeyed_from watch (c ∷ cs) [] old new none = absurd none
  obeyed_from watch (c ∷ cs) (r ∷ rs) old new is =
      let mid : Keeping D = is.0 in
      (watch, mid, is.1, is.2, obeyed_from mid.watch cs rs mid new is.3)

  -- or none changed at all
  pub obeyed_of : (commands : List Command) (replies : List Reply) (old new : Keeping D) → Driven view answers commands replies old new
      → Obeyed view answers commands replies old new
  obeyed_of commands replies old new is = obeyed_from old.watch commands replies old new is

  -- a watch may be attached before the first of them
  attached : (watch : Option View) (commands : List Command) (replies : List Reply) (old new : Keeping D) → Obeyed view answers commands replies (record old { watch = watch }) new
      → Obeyed view answers commands replies old new
  attached watch [] [] old new is = (is.0, is.1)
  attached watch [] (r ∷ rs) old new none = absurd none
  attached watch (c ∷ cs) [] old new none = absurd none
  attached watch (c ∷ cs) (r ∷ rs) old new is = (is.0, is.1, is.2, is.3, is.4)

  -- COMMANDS, A WATCH, AND COMMANDS
  pub obeyed_on : (watch : Option View) (commands : List Command) (replies : List Reply) (more : List Command) (others : List Reply) (old mid new : Keeping D)
      → Obeyed view answers commands replies old mid → Obeyed view answers more others (record mid { watch = watch }) new
      → Obeyed view answers (commands ++ more) (replies ++ others) old new
  obeyed_on watch [] [] more others old mid new is later =
      attached watch more others old new
      (subst (λ (k : Keeping D). Obeyed view answers more others (record k { watch = watch }) new) is.1 later)
  obeyed_on watch [] (r ∷ rs) more others old mid new none later = absurd none
  obeyed_on watch (c ∷ cs) [] more others old mid new none later = absurd none
  obeyed_on watch (c ∷ cs) (r ∷ rs) more others old mid new is later = (is.0, is.1, is.2, is.3, obeyed_on watch cs rs more others is.1 mid new is.4 later)
