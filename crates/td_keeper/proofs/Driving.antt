-- Commands, one after another: the replies so far, and what the images since the first of them tell.
use Rattle.std.proofs.Common.{◌≡◌, ◌⊎◌, inl, inr, ⊎_elim, ℕ, ◌-◌, ◌≤◌, Bool, true, false, List, [], ◌∷◌, ◌++◌, length, take, refl, sym, ap, ◌∙◌, subst, arith}
use Rattle.std.specs.Prelude.{Option, Some, None, if◌then◌else◌}
use Rattle.std.proofs.lemmas.List.{append-nil, length-append, take-map}
use Rattle.td_stamp.specs.declared.values.Entry.{Entry}
use Rattle.td_stamp.specs.States.{StateList}
use Rattle.td_plan.specs.Tree.{Nodes, tree_of}
use Rattle.td_calls.specs.Answers.{Answers}
use Rattle.td_batch.specs.Meaning.{run}
use Rattle.td_disk.specs.Disk.{DiskView, DiskState}
use Rattle.td_journal.specs.declared.payload.Submitted.{Submitted as AnySubmitted}
use Rattle.td_questions.specs.declared.question.Wanted.{Wanted}
use Rattle.td_store.specs.standing.Standing.{Standing, last_epoch, submission, batches_of, with_more, cut_at}
use Rattle.td_store.specs.standing.Stops.{Advance}
use Rattle.td_store.specs.standing.Advanced.{TellsAdvance, AdvancesSince, states_by}
use Rattle.td_store.specs.declared.standing.error.KeeperError.{KeeperError}
use Rattle.td_store.specs.declared.standing.error.KeeperError.TheVariants as error
use Rattle.td_keeper.specs.declared.submit_all.GroupError.{GroupError}
use Rattle.td_keeper.specs.declared.submit_all.GroupError.TheVariants.{Repeated, Keeper}
use Rattle.td_keeper.specs.declared.command.Command.{Command}
use Rattle.td_keeper.specs.declared.command.Command.TheVariants.{Submit, SubmitAs, SubmitAll, Release, Settle, Collect, NextOut, Cut, CutUpTo, Answer, WriteCut, CloseFree}
use Rattle.td_keeper.specs.declared.command.Reply.{Reply}
use Rattle.td_keeper.specs.declared.command.Reply.TheVariants.{Submitted, SubmittedAs, SubmittedAll, Released, Settled, Collected, Out, CutTaken, Answered, Written, Closed, Refused, RefusedAll}
use Rattle.td_keeper.specs.Keeping.{Keeping, IsKeeping, with_batch, with_epochs, with_group, with_checkpoint}
use Rattle.td_keeper.specs.Refused.{submit_refusal, submit_as_refusal, group_refusal, write_refusal, close_refusal}
use Rattle.td_keeper.specs.declared.receipt.Receipt.{Receipt}
use Rattle.td_keeper.specs.declared.receipt.Receipt.TheVariants.{New, Already}
use Rattle.td_keeper.specs.Received.{IsReceived, received_in}
use Rattle.td_keeper.specs.Halls.{with_collected, with_cut, collected_hall, cut_hall_up_to}
use Rattle.td_keeper.specs.Driven.{is_device, is_of_device, may_write, submitted_in, submitted_by, Advances, IsNotSubmitted, IsNoneSubmitted, Submits, SubmitsAs, SubmitsAll, Releases, Settles, Collects, HandsOut, Cuts, Asks, Writes, ClosesFree, Obeys, Driven, Rests}

-- whether the device failed, both ways
pub is_device_is : (e : KeeperError) → is_device e ≡ true → e ≡ error.Device
is_device_is error.Device is = refl
is_device_is error.NotFormatted is = absurd (cc)
is_device_is error.WrongPlan is = absurd (cc)
is_device_is (error.Damaged part) is = absurd (cc)
is_device_is error.Full is = absurd (cc)
is_device_is error.TooManyRecords is = absurd (cc)
is_device_is error.NoSuchInput is = absurd (cc)
is_device_is error.Foreign is = absurd (cc)
is_device_is (error.NotPassed epoch) is = absurd (cc)
is_device_is error.CutWaiting is = absurd (cc)
is_device_is error.TooManyKeys is = absurd (cc)
is_device_is error.Broken is = absurd (cc)
is_device_is error.Memory is = absurd (cc)
is_device_is error.Epochs is = absurd (cc)
is_device_is error.OldVersion is = absurd (cc)
is_device_is error.LastGeneration is = absurd (cc)

device_is : (e : KeeperError) → e ≡ error.Device → is_device e ≡ true
device_is e is = ap is_device is

pub is_of_device_is : (e : GroupError) → is_of_device e ≡ true → e ≡ Keeper error.Device
is_of_device_is Repeated is = absurd (cc)
is_of_device_is (Keeper e) is = ap (λ (f : KeeperError). Keeper f) (is_device_is e is)

-- of a group that was refused: what holds with it where the device failed, and without it else
pub none_in : (P : List AnySubmitted → Type 0) (x : List AnySubmitted) (e : GroupError) → P x → (e ≡ Keeper error.Device) ⊎ P [] → P (if is_of_device e then x else [])
none_in P x e with_it other = by (is_of_device e) refl
  where
    by : (b : Bool) → is_of_device e ≡ b → P (if b then x else [])
    by true is = with_it
    by false is = ⊎_elim (λ device. absurd (let no : true ≡ false = sym (ap is_of_device device) ∙ is in cc)) (λ p. p) other

-- of a submit that was refused: what holds with its batch where the device failed, and without it else
pub refused_in : (P : List AnySubmitted → Type 0) (x : List AnySubmitted) (e : KeeperError) → P x → (e ≡ error.Device) ⊎ P [] → P (if is_device e then x else [])
refused_in P x e with_it other = by (is_device e) refl
  where
    by : (b : Bool) → is_device e ≡ b → P (if b then x else [])
    by true is = with_it
    by false is = ⊎_elim (λ device. absurd (let no : true ≡ false = sym (device_is e device) ∙ is in cc)) (λ p. p) other

-- of a request that was answered: what holds with its batch, or without it where nothing changed
pub received_since : {D : Type 0} (view : D → DiskView) (answers : Answers) (request : ℕ) (batch : List Entry) (receipt : Receipt) (old new : Keeping D) → IsReceived request batch receipt old new
    → AdvancesSince answers old.plan old.standing (submission request batch ∷ []) (last_epoch old.standing) (view old.device).state (view new.device).state
    → AdvancesSince answers old.plan old.standing (received_in request batch receipt) (last_epoch old.standing) (view old.device).state (view new.device).state
received_since view answers request batch (New epoch) old new r further t c le left = further t c le left
received_since {D = D} view answers request batch (Already last) old new r further t c le left = inl (subst (λ (k : Keeping D). (view k.device).state.since t c) r.2 left)

-- a keeper that is broken refuses as that
submit_broken : {D : Type 0} (k : Keeping D) (batch : List Entry) → k.broken ≡ true → submit_refusal k batch ≡ Some error.Broken
submit_broken k batch is = ap (λ (b : Bool). submit_refusal (record k { broken = b }) batch) is

submit_as_broken : {D : Type 0} (k : Keeping D) (request : ℕ) (batch : List Entry) → k.broken ≡ true → submit_as_refusal k request batch ≡ Some error.Broken
submit_as_broken k request batch is = ap (λ (b : Bool). submit_as_refusal (record k { broken = b }) request batch) is

group_broken : {D : Type 0} (k : Keeping D) (group : List AnySubmitted) → k.broken ≡ true → group_refusal k group ≡ Some (Keeper error.Broken)
group_broken k group is = ap (λ (b : Bool). group_refusal (record k { broken = b }) group) is

write_broken : {D : Type 0} (k : Keeping D) → k.broken ≡ true → write_refusal k ≡ Some error.Broken
write_broken k is = ap (λ (b : Bool). write_refusal (record k { broken = b })) is

close_broken : {D : Type 0} (k : Keeping D) → k.broken ≡ true → close_refusal k ≡ Some error.Broken
close_broken k is = ap (λ (b : Bool). close_refusal (record k { broken = b })) is

-- the refusal of one that is broken
is_broken : {E : Type 0} (o : Option E) (b e : E) (P : Type 0) → o ≡ Some b → (o ≡ Some e) ⊎ ((o ≡ None) × P) → e ≡ b
is_broken o b e P broken said =
    ⊎_elim
    (λ is. let same : Some e ≡ Some b = sym is ∙ broken in cc)
    (λ none. absurd (let no : None ≡ Some b = sym none.0 ∙ broken in cc))
    said

none_is_broken : {E : Type 0} (o : Option E) (b : E) → o ≡ Some b → o ≡ None → ⊥
none_is_broken o b broken none = let no : None ≡ Some b = sym none ∙ broken in absurd (cc)

-- the laws, as they are handed in
abbrev pub Submit-on : Answers → Type 0
Submit-on answers = (nodes : Nodes) (s u : Standing) (x y : List AnySubmitted)
    → Advance (λ b z. (run answers nodes b z).states) (with_more (with_more s x) y) u
    → Advance (λ b z. (run answers nodes b z).states) (with_more s (x ++ y)) u

abbrev pub Cut-on : Answers → Type 0
Cut-on answers = (nodes : Nodes) (s u : Standing) (k : ℕ) (states : StateList) (y : List AnySubmitted) → k ≤ length s.submitted
    → states ≡ (run answers nodes s.states (batches_of (take k s.submitted))).states
    → Advance (λ b z. (run answers nodes b z).states) (with_more (cut_at s k states) y) u
    → Advance (λ b z. (run answers nodes b z).states) (with_more s y) u

abbrev pub Later : Answers → Type 0
Later answers = (nodes : Nodes) (s u : Standing) (y : List AnySubmitted)
    → Advance (λ b z. (run answers nodes b z).states) s u
    → Advance (λ b z. (run answers nodes b z).states) (with_more s y) u

abbrev pub Last : Type 0
Last = (s : Standing) (k : ℕ) (states : StateList) → k ≤ length s.submitted → last_epoch (cut_at s k states) ≡ last_epoch s

module _ {D : Type 0} (view : D → DiskView) (answers : Answers) where
  -- with one command more
  pub driven_more : (commands : List Command) (replies : List Reply) (command : Command) (reply : Reply) (old mid new : Keeping D)
      → Driven view answers commands replies old mid → Obeys view answers command reply mid new → IsKeeping new answers
      → Driven view answers (commands ++ command ∷ []) (replies ++ reply ∷ []) old new
  driven_more [] [] command reply old mid new e obeys kept = (new, kept, subst (λ k. Obeys view answers command reply k new) e obeys, refl)
  driven_more [] (r ∷ rs) command reply old mid new none obeys kept = absurd none
  driven_more (c ∷ cs) [] command reply old mid new none obeys kept = absurd none
  driven_more (c ∷ cs) (r ∷ rs) command reply old mid new driven obeys kept =
      (driven.0, driven.1, driven.2, driven_more cs rs command reply driven.0 mid new driven.3 obeys kept)

module _ {D : Type 0} where
  same : (old : Keeping D) → Rests old old
  same old = record { device = refl; plan = refl; standing = refl; broken = refl }

  by : (old other new : Keeping D) → new ≡ other → Rests old other → Rests old new
  by old other new is rests = subst (λ (k : Keeping D). Rests old k) (sym is) rests

module _ {D : Type 0} (view : D → DiskView) (answers : Answers) where
  releases : (reply : Reply) (old new : Keeping D) → Releases view answers reply old new → Rests old new
  releases (Released n) old new r = by old old new r.same (same old)
  releases (Refused e b) old new r = ⊎_elim (λ foreign. by old old new foreign.1.same (same old)) (λ memory. by old old new memory.1.same (same old)) r.1
  releases (Submitted n) old new r = absurd r
  releases (SubmittedAs n) old new r = absurd r
  releases (SubmittedAll n m) old new r = absurd r
  releases (RefusedAll e xs) old new r = absurd r
  releases Settled old new r = absurd r
  releases (Collected n) old new r = absurd r
  releases (Out o) old new r = absurd r
  releases (CutTaken n) old new r = absurd r
  releases (Written n) old new r = absurd r
  releases (Answered m ys) old new r = absurd r
  releases Closed old new r = absurd r

  settles : (reply : Reply) (old new : Keeping D) → Settles view answers reply old new → Rests old new
  settles Settled old new r = by old old new r.same (same old)
  settles (Refused e b) old new r = by old old new r.1.2.same (same old)
  settles (Submitted n) old new r = absurd r
  settles (SubmittedAs n) old new r = absurd r
  settles (SubmittedAll n m) old new r = absurd r
  settles (RefusedAll e xs) old new r = absurd r
  settles (Released n) old new r = absurd r
  settles (Collected n) old new r = absurd r
  settles (Out o) old new r = absurd r
  settles (CutTaken n) old new r = absurd r
  settles (Written n) old new r = absurd r
  settles (Answered m ys) old new r = absurd r
  settles Closed old new r = absurd r

  collects : (reply : Reply) (old new : Keeping D) → Collects view answers reply old new → Rests old new
  collects (Collected n) old new r = by old (with_collected old r.hall) new r.collected (record { device = refl; plan = refl; standing = refl; broken = refl })
  collects (Refused e b) old new r = ⊎_elim (λ foreign. by old old new foreign.1.same (same old)) (λ memory. by old old new memory.1.same (same old)) r.1
  collects (Submitted n) old new r = absurd r
  collects (SubmittedAs n) old new r = absurd r
  collects (SubmittedAll n m) old new r = absurd r
  collects (RefusedAll e xs) old new r = absurd r
  collects (Released n) old new r = absurd r
  collects Settled old new r = absurd r
  collects (Out o) old new r = absurd r
  collects (CutTaken n) old new r = absurd r
  collects (Written n) old new r = absurd r
  collects (Answered m ys) old new r = absurd r
  collects Closed old new r = absurd r

  hands_out : (reply : Reply) (old new : Keeping D) → HandsOut view answers reply old new → Rests old new
  hands_out (Out None) old new r = by old old new r.1 (same old)
  hands_out (Out (Some out)) old new r = by old (record old { queue = new.queue }) new r.1 (record { device = refl; plan = refl; standing = refl; broken = refl })
  hands_out (Refused e b) old new r = absurd r
  hands_out (Submitted n) old new r = absurd r
  hands_out (SubmittedAs n) old new r = absurd r
  hands_out (SubmittedAll n m) old new r = absurd r
  hands_out (RefusedAll e xs) old new r = absurd r
  hands_out (Released n) old new r = absurd r
  hands_out Settled old new r = absurd r
  hands_out (Collected n) old new r = absurd r
  hands_out (CutTaken n) old new r = absurd r
  hands_out (Written n) old new r = absurd r
  hands_out (Answered m ys) old new r = absurd r
  hands_out Closed old new r = absurd r

  cuts : (most : Option ℕ) (reply : Reply) (old new : Keeping D) → Cuts view answers most reply old new → Rests old new
  cuts most (CutTaken n) old new r = by old (with_cut (with_collected old r.hall) (cut_hall_up_to most (collected_hall r.hall))) new r.cut (record { device = refl; plan = refl; standing = refl; broken = refl })
  cuts most (Refused e b) old new r =
      ⊎_elim
      (λ foreign. by old old new foreign.1.same (same old))
      (λ other. ⊎_elim
      (λ memory. by old old new memory.1.same (same old))
      (λ some. by old (with_collected old some.hall) new some.collected (record { device = refl; plan = refl; standing = refl; broken = refl }))
      other)
      r.1
  cuts most (Submitted n) old new r = absurd r
  cuts most (SubmittedAs n) old new r = absurd r
  cuts most (SubmittedAll n m) old new r = absurd r
  cuts most (RefusedAll e xs) old new r = absurd r
  cuts most (Released n) old new r = absurd r
  cuts most Settled old new r = absurd r
  cuts most (Collected n) old new r = absurd r
  cuts most (Out o) old new r = absurd r
  cuts most (Written n) old new r = absurd r
  cuts most (Answered m ys) old new r = absurd r
  cuts most Closed old new r = absurd r

  asks : (vertex : ℕ) (wanted : Wanted) (reply : Reply) (old new : Keeping D) → Asks view answers vertex wanted reply old new → Rests old new
  asks vertex wanted (Answered m ys) old new r = by old old new r.same (same old)
  asks vertex wanted (Refused e b) old new r =
      ⊎_elim
      (λ foreign. by old old new foreign.1.same (same old))
      (λ other. ⊎_elim
      (λ memory. by old old new memory.1.same (same old))
      (λ unpassed. by old old new unpassed.2.same (same old))
      other)
      r.1
  asks vertex wanted (Submitted n) old new r = absurd r
  asks vertex wanted (SubmittedAs n) old new r = absurd r
  asks vertex wanted (SubmittedAll n m) old new r = absurd r
  asks vertex wanted (RefusedAll e xs) old new r = absurd r
  asks vertex wanted (Released n) old new r = absurd r
  asks vertex wanted Settled old new r = absurd r
  asks vertex wanted (Collected n) old new r = absurd r
  asks vertex wanted (Out o) old new r = absurd r
  asks vertex wanted (CutTaken n) old new r = absurd r
  asks vertex wanted (Written n) old new r = absurd r
  asks vertex wanted Closed old new r = absurd r

  -- WHAT A COMMAND THAT DOES NOT WRITE leaves
  pub rests : (command : Command) (reply : Reply) (old new : Keeping D) → may_write command ≡ false → Obeys view answers command reply old new → Rests old new
  rests (Submit batch) reply old new quiet obeys = absurd (cc)
  rests (SubmitAs request batch) reply old new quiet obeys = absurd (cc)
  rests (SubmitAll group) reply old new quiet obeys = absurd (cc)
  rests Release reply old new quiet obeys = releases reply old new obeys
  rests Settle reply old new quiet obeys = settles reply old new obeys
  rests Collect reply old new quiet obeys = collects reply old new obeys
  rests NextOut reply old new quiet obeys = hands_out reply old new obeys
  rests Cut reply old new quiet obeys = cuts None reply old new obeys
  rests (Answer vertex wanted) reply old new quiet obeys = asks vertex wanted reply old new obeys
  rests (CutUpTo e) reply old new quiet obeys = cuts (Some e) reply old new obeys
  rests WriteCut reply old new quiet obeys = absurd (cc)
  rests (CloseFree most) reply old new quiet obeys = absurd (cc)

-- WHAT ONE COMMAND DOES to a whole keeper of a lawful disk, with what it submitted
pub record Goes {D : Type 0} (view : D → DiskView) (answers : Answers) (old new : Keeping D) (x : List AnySubmitted) : Type 0 where
  pub plan : new.plan ≡ old.plan
  pub advances : Advances view answers old new x
  pub far : last_epoch old.standing ≤ last_epoch new.standing
  pub on : new.broken ≡ false → (u : Standing) (y : List AnySubmitted) → Advance (states_by answers old.plan) (with_more new.standing y) u → Advance (states_by answers old.plan) (with_more old.standing (x ++ y)) u

module _ {D : Type 0} (view : D → DiskView) (answers : Answers) (submit_on : Submit-on answers) (cut_on : Cut-on answers) (last : Last) where
  -- where it writes nothing
  goes_rests : (old new : Keeping D) → Rests old new → (view old.device).lawful → Goes view answers old new []
  goes_rests old new rests lawful = record {
    plan = rests.plan;
    advances = record {
      lawful = subst (λ (d : D). (view d).lawful) (sym rests.device) lawful;
      later = subst (λ (d : D). (view old.device).state.moment ≤ (view d).state.moment) (sym rests.device) (omega arith);
      since = λ whole t c le left. inl (subst (λ (d : D). (view d).state.since t c) rests.device left);
    };
    far = subst (λ (s : Standing). last_epoch old.standing ≤ last_epoch s) (sym rests.standing) (omega arith);
    on = λ whole u y step. subst (λ (s : Standing). Advance (states_by answers old.plan) (with_more s y) u) rests.standing step;
  }

  -- where its plan and standing stay, with nothing submitted, or with the device broken
  goes_same : (old new : Keeping D) (x : List AnySubmitted) → new.plan ≡ old.plan → new.standing ≡ old.standing → (new.broken ≡ false → x ≡ []) → Advances view answers old new x → Goes view answers old new x
  goes_same old new x plan standing none advances = record {
    plan = plan;
    advances = advances;
    far = subst (λ (s : Standing). last_epoch old.standing ≤ last_epoch s) (sym standing) (omega arith);
    on = λ whole u y step.
        subst (λ (l : List AnySubmitted). Advance (states_by answers old.plan) (with_more old.standing (l ++ y)) u) (sym (none whole))
        (subst (λ (s : Standing). Advance (states_by answers old.plan) (with_more s y) u) standing step);
  }

  -- what a submit leaves where it is refused: the plan and the standing
  kept_plan : (old new : Keeping D) (E : Type 0) (F : Type 0)
      → (new ≡ old) ⊎ (E × (new ≡ record old { device = new.device })) ⊎ (F × (new ≡ record old { device = new.device; broken = true }))
      → (new.plan ≡ old.plan) × (new.standing ≡ old.standing)
  kept_plan old new E F left =
      ⊎_elim (λ is. (ap (λ k. k.plan) is, ap (λ k. k.standing) is))
      (λ other. ⊎_elim (λ is. (ap (λ k. k.plan) is.1, ap (λ k. k.standing) is.1)) (λ is. (ap (λ k. k.plan) is.1, ap (λ k. k.standing) is.1)) other) left

  -- where some epochs come next
  goes_epochs : (x : List AnySubmitted) (old new : Keeping D) → new ≡ with_epochs old new.device x
      → Advances view answers old new x → Goes view answers old new x
  goes_epochs x old new is advances =
      let standing : new.standing ≡ with_more old.standing x = ap (λ k. k.standing) is in
      let count = length-append old.standing.submitted x in record {
        plan = ap (λ k. k.plan) is;
        advances = advances;
        far = subst (λ (s : Standing). last_epoch old.standing ≤ last_epoch s) (sym standing) (omega (arith, count));
        on = λ whole u y step.
            submit_on (tree_of old.plan) old.standing u x y
            (subst (λ (s : Standing). Advance (states_by answers old.plan) (with_more s y) u) standing step);
      }

  goes_submitted : (request : ℕ) (batch : List Entry) (old new : Keeping D) → new ≡ with_batch old new.device request batch
      → Advances view answers old new (submission request batch ∷ []) → Goes view answers old new (submission request batch ∷ [])
  goes_submitted request batch old new is advances = goes_epochs (submission request batch ∷ []) old new is advances

  goes_group : (group : List AnySubmitted) (old new : Keeping D) → new ≡ with_group old new.device group
      → Advances view answers old new group → Goes view answers old new group
  goes_group [] old new is advances = goes_same old new [] (ap (λ k. k.plan) is) (ap (λ k. k.standing) is) (λ whole. refl) advances
  goes_group (x ∷ xs) old new is advances = goes_epochs (x ∷ xs) old new is advances

  -- where it is not
  goes_refused : (refusal : Option KeeperError) (x : List AnySubmitted) (batch : List Entry) (e : KeeperError) (back : Option (List Entry)) (old new : Keeping D)
      → IsNotSubmitted view answers refusal batch e back old new
      → Advances view answers old new (if is_device e then x else []) → Goes view answers old new (if is_device e then x else [])
  goes_refused refusal x batch e back old new r advances =
      let stays = kept_plan old new (e ≡ error.Memory) (e ≡ error.Device) r.unchanged in
      goes_same old new (if is_device e then x else []) stays.0 stays.1 (λ whole. none (is_device e) refl whole) advances
    where
      none : (b : Bool) → is_device e ≡ b → new.broken ≡ false → (if b then x else []) ≡ []
      none true is whole = absurd (let no : true ≡ false = sym (r.device (is_device_is e is)).broken ∙ whole in cc)
      none false is whole = refl

  submits : (batch : List Entry) (reply : Reply) (old new : Keeping D) → Submits view answers batch reply old new
      → Advances view answers old new (submitted_in (Submit batch) reply) → Goes view answers old new (submitted_in (Submit batch) reply)
  submits batch (Submitted n) old new r advances = goes_submitted 0 batch old new r.submitted advances
  submits batch (Refused e back) old new r advances = goes_refused (submit_refusal old batch) (submission 0 batch ∷ []) batch e back old new r advances
  submits batch (SubmittedAs n) old new r advances = absurd r
  submits batch (SubmittedAll n m) old new r advances = absurd r
  submits batch (RefusedAll e xs) old new r advances = absurd r
  submits batch (Released n) old new r advances = absurd r
  submits batch Settled old new r advances = absurd r
  submits batch (Collected n) old new r advances = absurd r
  submits batch (Out o) old new r advances = absurd r
  submits batch (CutTaken n) old new r advances = absurd r
  submits batch (Written n) old new r advances = absurd r
  submits batch (Answered m ys) old new r advances = absurd r
  submits batch Closed old new r advances = absurd r

  answers_as : (request : ℕ) (batch : List Entry) (receipt : Receipt) (old new : Keeping D) → IsReceived request batch receipt old new
      → Advances view answers old new (received_in request batch receipt) → Goes view answers old new (received_in request batch receipt)
  answers_as request batch (New epoch) old new r advances = goes_submitted request batch old new r.2 advances
  answers_as request batch (Already last) old new r advances = goes_same old new [] (ap (λ k. k.plan) r.2) (ap (λ k. k.standing) r.2) (λ whole. refl) advances

  submits_as : (request : ℕ) (batch : List Entry) (reply : Reply) (old new : Keeping D) → SubmitsAs view answers request batch reply old new
      → Advances view answers old new (submitted_in (SubmitAs request batch) reply) → Goes view answers old new (submitted_in (SubmitAs request batch) reply)
  submits_as request batch (SubmittedAs receipt) old new r advances = answers_as request batch receipt old new r.received advances
  submits_as request batch (Refused e back) old new r advances = goes_refused (submit_as_refusal old request batch) (submission request batch ∷ []) batch e back old new r.refused advances
  submits_as request batch (Submitted n) old new r advances = absurd r
  submits_as request batch (SubmittedAll n m) old new r advances = absurd r
  submits_as request batch (RefusedAll e xs) old new r advances = absurd r
  submits_as request batch (Released n) old new r advances = absurd r
  submits_as request batch Settled old new r advances = absurd r
  submits_as request batch (Collected n) old new r advances = absurd r
  submits_as request batch (Out o) old new r advances = absurd r
  submits_as request batch (CutTaken n) old new r advances = absurd r
  submits_as request batch (Written n) old new r advances = absurd r
  submits_as request batch (Answered m ys) old new r advances = absurd r
  submits_as request batch Closed old new r advances = absurd r

  goes_none : (group : List AnySubmitted) (e : GroupError) (back : List AnySubmitted) (old new : Keeping D)
      → IsNoneSubmitted view answers group e back old new
      → Advances view answers old new (if is_of_device e then group else []) → Goes view answers old new (if is_of_device e then group else [])
  goes_none group e back old new r advances =
      let stays = kept_plan old new (e ≡ Keeper error.Memory) (e ≡ Keeper error.Device) r.unchanged in
      goes_same old new (if is_of_device e then group else []) stays.0 stays.1 (λ whole. none (is_of_device e) refl whole) advances
    where
      none : (b : Bool) → is_of_device e ≡ b → new.broken ≡ false → (if b then group else []) ≡ []
      none true is whole = absurd (let no : true ≡ false = sym (r.device (is_of_device_is e is)).broken ∙ whole in cc)
      none false is whole = refl

  submits_all : (group : List AnySubmitted) (reply : Reply) (old new : Keeping D) → SubmitsAll view answers group reply old new
      → Advances view answers old new (submitted_in (SubmitAll group) reply) → Goes view answers old new (submitted_in (SubmitAll group) reply)
  submits_all group (SubmittedAll n m) old new r advances = goes_group group old new r.submitted advances
  submits_all group (RefusedAll e back) old new r advances = goes_none group e back old new r advances
  submits_all group (Submitted n) old new r advances = absurd r
  submits_all group (SubmittedAs n) old new r advances = absurd r
  submits_all group (Released n) old new r advances = absurd r
  submits_all group Settled old new r advances = absurd r
  submits_all group (Collected n) old new r advances = absurd r
  submits_all group (Out o) old new r advances = absurd r
  submits_all group (CutTaken n) old new r advances = absurd r
  submits_all group (Written n) old new r advances = absurd r
  submits_all group (Answered m ys) old new r advances = absurd r
  submits_all group Closed old new r advances = absurd r
  submits_all group (Refused e b) old new r advances = absurd r

  writes : (reply : Reply) (old new : Keeping D) → IsKeeping old answers → Writes view answers reply old new
      → Advances view answers old new [] → Goes view answers old new []
  writes (Written w) old new kept r advances =
      ⊎_elim (λ none. goes_same old new [] (ap (λ k. k.plan) none.2) (ap (λ k. k.standing) none.2) (λ whole. refl) advances) (λ some. by_cut some.1) r.cut
    where
      by_cut : new ≡ with_checkpoint old new.device → Goes view answers old new []
      by_cut is =
          let s = old.standing in
          let n = old.base - s.epoch in
          let most : n ≤ length s.submitted = omega (arith, kept.released, kept.from_checkpoint) in
          let states : old.base_states ≡ (run answers (tree_of old.plan) s.states (batches_of (take n s.submitted))).states =
          kept.base_states ∙ ap (λ (l : List (List Entry)). (run answers (tree_of old.plan) s.states l).states) (take-map (λ s. s.batch) n s.submitted) in
          let standing : new.standing ≡ cut_at s n old.base_states = ap (λ k. k.standing) is in
          let far : last_epoch (cut_at s n old.base_states) ≡ last_epoch s = last s n old.base_states most in record {
            plan = ap (λ k. k.plan) is;
            advances = advances;
            far = subst (λ (t : Standing). last_epoch s ≤ last_epoch t) (sym standing) (omega (arith, far));
            on = λ whole u y step.
                cut_on (tree_of old.plan) s u n old.base_states y most states
                (subst (λ (t : Standing). Advance (states_by answers old.plan) (with_more t y) u) standing step);
          }
  writes (Refused e back) old new kept r advances =
      ⊎_elim (λ many. goes_same old new [] (ap (λ k. k.plan) many.1) (ap (λ k. k.standing) many.1) (λ whole. refl) advances)
      (λ other. ⊎_elim (λ failed. goes_same old new [] (ap (λ k. k.plan) failed.1) (ap (λ k. k.standing) failed.1) (λ whole. refl) advances)
      (λ is. goes_same old new [] (ap (λ k. k.plan) is) (ap (λ k. k.standing) is) (λ whole. refl) advances) other) r.unchanged
  writes (Submitted n) old new kept r advances = absurd r
  writes (SubmittedAs n) old new kept r advances = absurd r
  writes (SubmittedAll n m) old new kept r advances = absurd r
  writes (RefusedAll e xs) old new kept r advances = absurd r
  writes (Released n) old new kept r advances = absurd r
  writes Settled old new kept r advances = absurd r
  writes (Collected n) old new kept r advances = absurd r
  writes (Out o) old new kept r advances = absurd r
  writes (CutTaken n) old new kept r advances = absurd r
  writes (Answered m ys) old new kept r advances = absurd r
  writes Closed old new kept r advances = absurd r

  closes : (most : ℕ) (reply : Reply) (old new : Keeping D) → ClosesFree view answers most reply old new
      → Advances view answers old new [] → Goes view answers old new []
  closes most Closed old new r advances = goes_same old new [] (ap (λ k. k.plan) r.same) (ap (λ k. k.standing) r.same) (λ whole. refl) advances
  closes most (Refused e back) old new r advances =
      ⊎_elim (λ is. goes_same old new [] (ap (λ k. k.plan) is) (ap (λ k. k.standing) is) (λ whole. refl) advances)
      (λ failed. goes_same old new [] (ap (λ k. k.plan) failed.1) (ap (λ k. k.standing) failed.1) (λ whole. refl) advances) r.unchanged
  closes most (Submitted n) old new r advances = absurd r
  closes most (SubmittedAs n) old new r advances = absurd r
  closes most (SubmittedAll n m) old new r advances = absurd r
  closes most (RefusedAll e xs) old new r advances = absurd r
  closes most (Released n) old new r advances = absurd r
  closes most Settled old new r advances = absurd r
  closes most (Collected n) old new r advances = absurd r
  closes most (Out o) old new r advances = absurd r
  closes most (CutTaken n) old new r advances = absurd r
  closes most (Answered m ys) old new r advances = absurd r
  closes most (Written w) old new r advances = absurd r

  pub one : (command : Command) (reply : Reply) (old new : Keeping D) → IsKeeping old answers → Obeys view answers command reply old new
      → (view old.device).lawful → Goes view answers old new (submitted_in command reply)
  one (Submit batch) reply old new kept obeys lawful = submits batch reply old new obeys.0 (obeys.1.advances lawful)
  one (SubmitAs request batch) reply old new kept obeys lawful = submits_as request batch reply old new obeys.0 (obeys.1.advances lawful)
  one (SubmitAll group) reply old new kept obeys lawful = submits_all group reply old new obeys.0 (obeys.1.advances lawful)
  one Release reply old new kept obeys lawful = goes_rests old new (rests view answers Release reply old new refl obeys) lawful
  one Settle reply old new kept obeys lawful = goes_rests old new (rests view answers Settle reply old new refl obeys) lawful
  one Collect reply old new kept obeys lawful = goes_rests old new (rests view answers Collect reply old new refl obeys) lawful
  one NextOut reply old new kept obeys lawful = goes_rests old new (rests view answers NextOut reply old new refl obeys) lawful
  one Cut reply old new kept obeys lawful = goes_rests old new (rests view answers Cut reply old new refl obeys) lawful
  one (Answer v w) reply old new kept obeys lawful = goes_rests old new (rests view answers (Answer v w) reply old new refl obeys) lawful
  one (CutUpTo e) reply old new kept obeys lawful = goes_rests old new (rests view answers (CutUpTo e) reply old new refl obeys) lawful
  one WriteCut reply old new kept obeys lawful = writes reply old new kept obeys.0 (obeys.1.advances lawful)
  one (CloseFree most) reply old new kept obeys lawful = closes most reply old new obeys.0 (obeys.1.advances lawful)

module _ {D : Type 0} (view : D → DiskView) (answers : Answers) where
  -- a broken keeper writes nothing, and stays broken
  record StaysBroken (old new : Keeping D) : Type 0 where
    device : new.device ≡ old.device
    broken : new.broken ≡ true

  rests_broken : (old new : Keeping D) → Rests old new → old.broken ≡ true → StaysBroken old new
  rests_broken old new rests is = record { device = rests.device; broken = rests.broken ∙ is }

  broken_refused : (refusal : Option KeeperError) (x : List AnySubmitted) (batch : List Entry) (e : KeeperError) (back : Option (List Entry)) (old new : Keeping D)
      → refusal ≡ Some error.Broken → IsNotSubmitted view answers refusal batch e back old new → old.broken ≡ true
      → StaysBroken old new × ((if is_device e then x else []) ≡ [])
  broken_refused refusal x batch e back old new broken r is =
      let named : e ≡ error.Broken = is_broken refusal error.Broken e ((e ≡ error.Memory) ⊎ (e ≡ error.Device)) broken r.cause in
      let none : (if is_device e then x else []) ≡ [] = ap (λ (f : KeeperError). if is_device f then x else []) named in (
        ⊎_elim (λ old_is. rests_broken old new (by old old new old_is (same old)) is)
            (λ other. ⊎_elim (λ memory. absurd (let no : error.Broken ≡ error.Memory = sym named ∙ memory.0 in cc)) (λ device. absurd (let no : error.Broken ≡ error.Device = sym named ∙ device.0 in cc)) other) r.unchanged,
        none,
      )

  broken_submits : (batch : List Entry) (reply : Reply) (old new : Keeping D) → Submits view answers batch reply old new → old.broken ≡ true
      → StaysBroken old new × (submitted_in (Submit batch) reply ≡ [])
  broken_submits batch (Submitted n) old new r is = absurd (none_is_broken (submit_refusal old batch) error.Broken (submit_broken old batch is) r.accepted)
  broken_submits batch (Refused e back) old new r is = broken_refused (submit_refusal old batch) (submission 0 batch ∷ []) batch e back old new (submit_broken old batch is) r is
  broken_submits batch (SubmittedAs n) old new r is = absurd r
  broken_submits batch (SubmittedAll n m) old new r is = absurd r
  broken_submits batch (RefusedAll e xs) old new r is = absurd r
  broken_submits batch (Released n) old new r is = absurd r
  broken_submits batch Settled old new r is = absurd r
  broken_submits batch (Collected n) old new r is = absurd r
  broken_submits batch (Out o) old new r is = absurd r
  broken_submits batch (CutTaken n) old new r is = absurd r
  broken_submits batch (Written n) old new r is = absurd r
  broken_submits batch (Answered m ys) old new r is = absurd r
  broken_submits batch Closed old new r is = absurd r

  broken_submits_as : (request : ℕ) (batch : List Entry) (reply : Reply) (old new : Keeping D) → SubmitsAs view answers request batch reply old new → old.broken ≡ true
      → StaysBroken old new × (submitted_in (SubmitAs request batch) reply ≡ [])
  broken_submits_as request batch (SubmittedAs n) old new r is = absurd (none_is_broken (submit_as_refusal old request batch) error.Broken (submit_as_broken old request batch is) r.accepted)
  broken_submits_as request batch (Refused e back) old new r is =
      broken_refused (submit_as_refusal old request batch) (submission request batch ∷ []) batch e back old new (submit_as_broken old request batch is) r.refused is
  broken_submits_as request batch (Submitted n) old new r is = absurd r
  broken_submits_as request batch (SubmittedAll n m) old new r is = absurd r
  broken_submits_as request batch (RefusedAll e xs) old new r is = absurd r
  broken_submits_as request batch (Released n) old new r is = absurd r
  broken_submits_as request batch Settled old new r is = absurd r
  broken_submits_as request batch (Collected n) old new r is = absurd r
  broken_submits_as request batch (Out o) old new r is = absurd r
  broken_submits_as request batch (CutTaken n) old new r is = absurd r
  broken_submits_as request batch (Written n) old new r is = absurd r
  broken_submits_as request batch (Answered m ys) old new r is = absurd r
  broken_submits_as request batch Closed old new r is = absurd r

  broken_submits_all : (group : List AnySubmitted) (reply : Reply) (old new : Keeping D) → SubmitsAll view answers group reply old new → old.broken ≡ true
      → StaysBroken old new × (submitted_in (SubmitAll group) reply ≡ [])
  broken_submits_all group (SubmittedAll n m) old new r is = absurd (none_is_broken (group_refusal old group) (Keeper error.Broken) (group_broken old group is) r.accepted)
  broken_submits_all group (RefusedAll e back) old new r is =
      let named : e ≡ Keeper error.Broken = is_broken (group_refusal old group) (Keeper error.Broken) e ((e ≡ Keeper error.Memory) ⊎ (e ≡ Keeper error.Device)) (group_broken old group is) r.cause in
      let none : (if is_of_device e then group else []) ≡ [] = ap (λ (f : GroupError). if is_of_device f then group else []) named in (
        ⊎_elim (λ old_is. rests_broken old new (by old old new old_is (same old)) is)
            (λ other. ⊎_elim (λ memory. absurd (let no : Keeper error.Broken ≡ Keeper error.Memory = sym named ∙ memory.0 in cc)) (λ device. absurd (let no : Keeper error.Broken ≡ Keeper error.Device = sym named ∙ device.0 in cc)) other) r.unchanged,
        none,
      )
  broken_submits_all group (Submitted n) old new r is = absurd r
  broken_submits_all group (SubmittedAs n) old new r is = absurd r
  broken_submits_all group (Released n) old new r is = absurd r
  broken_submits_all group Settled old new r is = absurd r
  broken_submits_all group (Collected n) old new r is = absurd r
  broken_submits_all group (Out o) old new r is = absurd r
  broken_submits_all group (CutTaken n) old new r is = absurd r
  broken_submits_all group (Written n) old new r is = absurd r
  broken_submits_all group (Answered m ys) old new r is = absurd r
  broken_submits_all group Closed old new r is = absurd r
  broken_submits_all group (Refused e b) old new r is = absurd r

  broken_writes : (reply : Reply) (old new : Keeping D) → Writes view answers reply old new → old.broken ≡ true → StaysBroken old new
  broken_writes (Written w) old new r is = absurd (none_is_broken (write_refusal old) error.Broken (write_broken old is) r.accepted)
  broken_writes (Refused e back) old new r is =
      let named : e ≡ error.Broken = is_broken (write_refusal old) error.Broken e ((e ≡ error.Memory) ⊎ (e ≡ error.Device)) (write_broken old is) r.cause in
      ⊎_elim (λ many. absurd (let no : error.Broken ≡ error.TooManyKeys = sym named ∙ many.0 in cc))
      (λ other. ⊎_elim (λ failed. absurd (let no : error.Broken ≡ error.Device = sym named ∙ failed.0 in cc)) (λ old_is. rests_broken old new (by old old new old_is (same old)) is) other) r.unchanged
  broken_writes (Submitted n) old new r is = absurd r
  broken_writes (SubmittedAs n) old new r is = absurd r
  broken_writes (SubmittedAll n m) old new r is = absurd r
  broken_writes (RefusedAll e xs) old new r is = absurd r
  broken_writes (Released n) old new r is = absurd r
  broken_writes Settled old new r is = absurd r
  broken_writes (Collected n) old new r is = absurd r
  broken_writes (Out o) old new r is = absurd r
  broken_writes (CutTaken n) old new r is = absurd r
  broken_writes (Answered m ys) old new r is = absurd r
  broken_writes Closed old new r is = absurd r

  broken_closes : (most : ℕ) (reply : Reply) (old new : Keeping D) → ClosesFree view answers most reply old new → old.broken ≡ true → StaysBroken old new
  broken_closes most Closed old new r is = absurd (none_is_broken (close_refusal old) error.Broken (close_broken old is) r.accepted)
  broken_closes most (Refused e back) old new r is =
      let named : e ≡ error.Broken = is_broken (close_refusal old) error.Broken e (e ≡ error.Device) (close_broken old is) r.cause in
      ⊎_elim (λ old_is. rests_broken old new (by old old new old_is (same old)) is) (λ failed. absurd (let no : error.Broken ≡ error.Device = sym named ∙ failed.0 in cc)) r.unchanged
  broken_closes most (Submitted n) old new r is = absurd r
  broken_closes most (SubmittedAs n) old new r is = absurd r
  broken_closes most (SubmittedAll n m) old new r is = absurd r
  broken_closes most (RefusedAll e xs) old new r is = absurd r
  broken_closes most (Released n) old new r is = absurd r
  broken_closes most Settled old new r is = absurd r
  broken_closes most (Collected n) old new r is = absurd r
  broken_closes most (Out o) old new r is = absurd r
  broken_closes most (CutTaken n) old new r is = absurd r
  broken_closes most (Answered m ys) old new r is = absurd r
  broken_closes most (Written w) old new r is = absurd r

  broken_one : (command : Command) (reply : Reply) (old new : Keeping D) → Obeys view answers command reply old new → old.broken ≡ true
      → StaysBroken old new × (submitted_in command reply ≡ [])
  broken_one (Submit batch) reply old new obeys is = broken_submits batch reply old new obeys.0 is
  broken_one (SubmitAs request batch) reply old new obeys is = broken_submits_as request batch reply old new obeys.0 is
  broken_one (SubmitAll group) reply old new obeys is = broken_submits_all group reply old new obeys.0 is
  broken_one Release reply old new obeys is = (rests_broken old new (rests view answers Release reply old new refl obeys) is, refl)
  broken_one Settle reply old new obeys is = (rests_broken old new (rests view answers Settle reply old new refl obeys) is, refl)
  broken_one Collect reply old new obeys is = (rests_broken old new (rests view answers Collect reply old new refl obeys) is, refl)
  broken_one NextOut reply old new obeys is = (rests_broken old new (rests view answers NextOut reply old new refl obeys) is, refl)
  broken_one Cut reply old new obeys is = (rests_broken old new (rests view answers Cut reply old new refl obeys) is, refl)
  broken_one (Answer v w) reply old new obeys is = (rests_broken old new (rests view answers (Answer v w) reply old new refl obeys) is, refl)
  broken_one (CutUpTo e) reply old new obeys is = (rests_broken old new (rests view answers (CutUpTo e) reply old new refl obeys) is, refl)
  broken_one WriteCut reply old new obeys is = (broken_writes reply old new obeys.0 is, refl)
  broken_one (CloseFree most) reply old new obeys is = (broken_closes most reply old new obeys.0 is, refl)

  -- A BROKEN KEEPER WRITES NOTHING, whatever it is told
  pub driven_broken : (commands : List Command) (replies : List Reply) (old new : Keeping D) → Driven view answers commands replies old new → old.broken ≡ true
      → (new.device ≡ old.device) × (submitted_by commands replies ≡ []) × (new.broken ≡ true)
  driven_broken [] [] old new e is = (ap (λ k. k.device) e, refl, ap (λ k. k.broken) e ∙ is)
  driven_broken [] (r ∷ rs) old new none is = absurd none
  driven_broken (c ∷ cs) [] old new none is = absurd none
  driven_broken (c ∷ cs) (r ∷ rs) old new driven is =
      let first = broken_one c r old driven.0 driven.2 is in
      let rest = driven_broken cs rs driven.0 new driven.3 first.0.broken in
      (rest.0 ∙ first.0.device, ap (λ (l : List AnySubmitted). l ++ submitted_by cs rs) first.1 ∙ rest.1, rest.2)

module _ {D : Type 0} (view : D → DiskView) (answers : Answers) (submit_on : Submit-on answers) (cut_on : Cut-on answers) (later : Later answers) (last : Last) where
  -- one command, and then others of a whole keeper
  then_goes : (old mid new : Keeping D) (x y : List AnySubmitted) → Goes view answers old mid x → old.broken ≡ false → mid.broken ≡ false
      → Advances view answers mid new y → Advances view answers old new (x ++ y)
  then_goes old mid new x y first whole goes_on rest = record {
    lawful = rest.lawful;
    later = omega (arith, first.advances.later, rest.later);
    since = λ w t c le left.
        ⊎_elim
        (λ was. ⊎_elim (λ before. inl before) (λ told. inr (more told)) (first.advances.since whole t c le was))
        (λ told. inr (joined c told))
        (rest.since goes_on t c (omega (arith, le, first.advances.later)) left);
  }
    where
      more : {c : List ℕ} → TellsAdvance answers old.plan old.standing x (last_epoch old.standing) c → TellsAdvance answers old.plan old.standing (x ++ y) (last_epoch old.standing) c
      more told = record {
        standing = told.standing;
        told = told.told;
        advance = submit_on (tree_of old.plan) old.standing told.standing x y (later (tree_of old.plan) (with_more old.standing x) told.standing y told.advance);
        holds = told.holds;
      }

      of_old : (c : List ℕ) → TellsAdvance answers old.plan mid.standing y (last_epoch mid.standing) c → TellsAdvance answers old.plan old.standing (x ++ y) (last_epoch old.standing) c
      of_old c told = record {
        standing = told.standing;
        told = told.told;
        advance = first.on goes_on told.standing y told.advance;
        holds = omega (arith, first.far, told.holds);
      }

      joined : (c : List ℕ) → TellsAdvance answers mid.plan mid.standing y (last_epoch mid.standing) c → TellsAdvance answers old.plan old.standing (x ++ y) (last_epoch old.standing) c
      joined c told = of_old c (subst (λ p. TellsAdvance answers p mid.standing y (last_epoch mid.standing) c) first.plan told)

  -- or, where it broke, nothing more
  then_broken : (old mid new : Keeping D) (x : List AnySubmitted) → Advances view answers old mid x → new.device ≡ mid.device → Advances view answers old new x
  then_broken old mid new x first device = record {
    lawful = subst (λ (d : D). (view d).lawful) (sym device) first.lawful;
    later = subst (λ (d : D). (view old.device).state.moment ≤ (view d).state.moment) (sym device) first.later;
    since = λ whole t c le left. first.since whole t c le (subst (λ (d : D). (view d).state.since t c) device left);
  }

  -- WHAT THE IMAGES TELL since an earlier moment: an advance of the standing with all that the commands submitted
  pub driven_advances : (commands : List Command) (replies : List Reply) (old new : Keeping D) → IsKeeping old answers → Driven view answers commands replies old new
      → (view old.device).lawful → old.broken ≡ false → Advances view answers old new (submitted_by commands replies)
  driven_advances [] [] old new kept e lawful whole = (goes_rests view answers submit_on cut_on last old new (by old old new e (same old)) lawful).advances
  driven_advances [] (r ∷ rs) old new kept none lawful whole = absurd none
  driven_advances (c ∷ cs) [] old new kept none lawful whole = absurd none
  driven_advances (c ∷ cs) (r ∷ rs) old new kept driven lawful whole =
      next mid.broken refl (λ goes_on. driven_advances cs rs driven.0 new driven.1 driven.3 first.advances.lawful goes_on)
    where
      mid : Keeping D
      mid = driven.0

      first : Goes view answers old mid (submitted_in c r)
      first = one view answers submit_on cut_on last c r old mid kept driven.2 lawful

      next : (b : Bool) → mid.broken ≡ b → (mid.broken ≡ false → Advances view answers mid new (submitted_by cs rs)) → Advances view answers old new (submitted_in c r ++ submitted_by cs rs)
      next false goes_on rest = then_goes old mid new (submitted_in c r) (submitted_by cs rs) first whole goes_on (rest goes_on)
      next true broke rest =
          let last = driven_broken view answers cs rs mid new driven.3 broke in
          subst (λ (l : List AnySubmitted). Advances view answers old new (submitted_in c r ++ l)) (sym last.1)
          (subst (λ (l : List AnySubmitted). Advances view answers old new l) (sym (append-nil (submitted_in c r)))
          (then_broken old mid new (submitted_in c r) first.advances last.0))
