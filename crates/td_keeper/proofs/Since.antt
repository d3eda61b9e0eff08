-- What the images since the start of a call tell, and those since an earlier moment, as advances of the standing.
use Rattle.std.proofs.Common.{◌≡◌, ◌⊎◌, inl, inr, ⊎_elim, ℕ, ◌≤◌, Bool, true, false, List, [], sym, ap, ◌∙◌, subst, arith}
use Rattle.std.specs.Prelude.{Result, Ok, Err}
use Rattle.td_plan.specs.Lines.{Line}
use Rattle.td_plan.specs.Tree.{Nodes, tree_of}
use Rattle.td_calls.specs.Answers.{Answers}
use Rattle.td_batch.specs.Meaning.{run}
use Rattle.td_disk.specs.Disk.{DiskView, DiskState}
use Rattle.td_gate.specs.CrashSafe.{CrashSafe, Unchanged}
use Rattle.td_head.specs.declared.head.Head.{Head}
use Rattle.td_journal.specs.declared.payload.Submitted.{Submitted}
use Rattle.td_store.specs.declared.standing.error.KeeperError.{KeeperError}
use Rattle.td_store.specs.standing.Standing.{Standing, last_epoch, with_more}
use Rattle.td_store.specs.standing.Stops.{Advance, Holds}
use Rattle.td_store.specs.standing.Told.{Told}
use Rattle.td_store.specs.standing.Tells.{Tells, Keeps, TellsSince}
use Rattle.td_store.specs.standing.Advanced.{TellsAdvance, SinceAdvance, AdvancesSince, HeldWhere, states_by}
use Rattle.td_keeper.specs.Keeping.{Keeping, EachKeepsTo, KeepsSince, KeepsToWhere}
use Rattle.td_keeper.proofs.Submitting.{keeps_of}

-- what is told in parts is told, as it is handed in
abbrev pub Together : Type 0
Together = (plan : List Line) (head : Head) (side : ℕ) (s : Standing) (image : List ℕ) → Tells plan head side s image → Told plan image (Ok s)

-- and that a standing is an advance of itself
abbrev pub NotYet : Answers → Type 0
NotYet answers = (nodes : Nodes) (s : Standing) (x : List Submitted) → Advance (λ b y. (run answers nodes b y).states) (with_more s x) s

module _ (answers : Answers) (plan : List Line) (together : Together) (s t : Standing) (x : List Submitted) (n : ℕ) where
  -- an image that tells an advance
  pub tells : (head : Head) (side : ℕ) (image : List ℕ) → Advance (states_by answers plan) (with_more s x) t → Holds t n → Tells plan head side t image → TellsAdvance answers plan s x n image
  tells head side image advance holds told = record { standing = t; told = together plan head side t image told; advance = advance; holds = holds }

module _ (answers : Answers) (plan : List Line) (together : Together) (head : Head) (side : ℕ) (s : Standing) (x : List Submitted) where
  -- the standing itself is an advance
  pub itself : (image : List ℕ) → Advance (states_by answers plan) (with_more s x) s → Tells plan head side s image → TellsAdvance answers plan s x (last_epoch s) image
  itself image advance told = tells answers plan together s s x (last_epoch s) head side image advance (omega arith) told

  -- nothing was written
  untouched : (state : DiskState) → ((c : List ℕ) → state.since state.moment c → state.images c) → Advance (states_by answers plan) (with_more s x) s
      → Keeps plan head side s state → SinceAdvance answers plan s x (last_epoch s) state.moment state
  untouched state only advance keeps c left = itself c advance (subst (Tells plan head side s) (sym (keeps.durable c (only c left))) keeps.tells)

  -- nothing was written since an earlier moment
  pub unwritten : (old new : DiskState) → CrashSafe Unchanged old new → Advance (states_by answers plan) (with_more s x) s
      → Keeps plan head side s old → AdvancesSince answers plan s x (last_epoch s) old new
  unwritten old new safe advance keeps moment c le left = ⊎_elim
      (λ was. inl was)
      (λ image. inr (itself c advance (subst (Tells plan head side s) (sym (image.2 ∙ keeps.durable image.0 image.1)) keeps.tells)))
      (safe.before moment c le left)

  -- it, or another that holds its epochs
  pub either : (old new : DiskState) (other : ℕ) (t : Standing) → Advance (states_by answers plan) (with_more s x) s → Advance (states_by answers plan) (with_more s x) t
      → Holds t (last_epoch s) → TellsSince (Tells plan head side s) (Tells plan head other t) old new
      → AdvancesSince answers plan s x (last_epoch s) old new
  either old new other t same next holds begun moment c le left = ⊎_elim
      (λ was. inl was)
      (λ now. inr (⊎_elim (λ told. itself c same told) (λ told. tells answers plan together s t x (last_epoch s) head other c next holds told) now))
      (begun moment c le left)

  -- since the start of the call, when each image told the standing
  pub from_start : (old new : DiskState) → ((c : List ℕ) → old.since old.moment c → old.images c) → Advance (states_by answers plan) (with_more s x) s
      → Keeps plan head side s old → AdvancesSince answers plan s x (last_epoch s) old new → SinceAdvance answers plan s x (last_epoch s) old.moment new
  from_start old new only advance keeps further c left =
      ⊎_elim (λ was. untouched old only advance keeps c was) (λ told. told) (further old.moment c (omega arith) left)

-- where the device failed: what may be left now might have been left since the start
pub held : (answers : Answers) (plan : List Line) (head : Head) (side : ℕ) (s : Standing) (x : List Submitted) (moment : ℕ) (state : DiskState)
    → ((c : List ℕ) → state.images c → state.since moment c) → SinceAdvance answers plan s x (last_epoch s) moment state → HeldWhere true answers plan head side s state
held answers plan head side s x moment state counts since c image = (x, since c (counts c image))

-- of a keeper: in each image since the start of a call, by what is known of those since an earlier moment
pub by_further : {D : Type 0} (view : D → DiskView) → ((d : D) (c : List ℕ) → (view d).lawful → (view d).state.since (view d).state.moment c → (view d).state.images c)
    → (answers : Answers) → Together → NotYet answers → {k z : Keeping D} → k ≡ z → ((view k.device).lawful → HeldWhere k.broken answers k.plan k.head k.side k.standing (view k.device).state)
    → (x : List Submitted) (new : DiskState) → (view z.device).lawful → z.broken ≡ false
    → AdvancesSince answers z.plan z.standing x (last_epoch z.standing) (view z.device).state new
    → SinceAdvance answers z.plan z.standing x (last_epoch z.standing) (view z.device).state.moment new
by_further {D = D} view only answers together not_yet {k = k} {z = z} is held x new =
    subst (λ (v : Keeping D). (view v.device).lawful → v.broken ≡ false → AdvancesSince answers v.plan v.standing x (last_epoch v.standing) (view v.device).state new → SinceAdvance answers v.plan v.standing x (last_epoch v.standing) (view v.device).state.moment new) is
    (λ old whole further.
    let keeps = keeps_of k.broken answers k.plan k.head k.side k.standing (view k.device).state whole (held old) in
    from_start answers k.plan together k.head k.side k.standing x (view k.device).state new (λ c. only k.device c old) (not_yet (tree_of k.plan) k.standing x) keeps further)

-- the standing, or another, perhaps under another head and in another slot
pub either_told : (plan : List Line) → Together → (head next : Head) (side other : ℕ) (s t : Standing) (old new : DiskState) → ((c : List ℕ) → old.since old.moment c → old.images c)
    → Keeps plan head side s old → TellsSince (Tells plan head side s) (Tells plan next other t) old new → (c : List ℕ) → new.since old.moment c → Told plan c (Ok s) ⊎ Told plan c (Ok t)
either_told plan together head next side other s t old new only keeps begun c left =
    ⊎_elim (λ was. inl (together plan head side s c (subst (Tells plan head side s) (sym (keeps.durable c (only c was))) keeps.tells)))
    (λ now. ⊎_elim (λ told. inl (together plan head side s c told)) (λ told. inr (together plan next other t c told)) now)
    (begun old.moment c (omega arith) left)

-- under the same head
pub one_or_other : (plan : List Line) → Together → (head : Head) (side : ℕ) (s t : Standing) (old new : DiskState) → ((c : List ℕ) → old.since old.moment c → old.images c)
    → Keeps plan head side s old → TellsSince (Tells plan head side s) (Tells plan head side t) old new → (c : List ℕ) → new.since old.moment c → Told plan c (Ok s) ⊎ Told plan c (Ok t)
one_or_other plan together head side s t old new only keeps begun c left = either_told plan together head head side side s t old new only keeps begun c left

-- that an image tells one answer, as it is handed in
abbrev pub OneAnswer : Type 0
OneAnswer = (plan : List Line) (image : List ℕ) (a b : Result Standing KeeperError) → Told plan image a → Told plan image b → a ≡ b

abbrev epoch_or : Result Standing KeeperError → ℕ
epoch_or (Ok s) = s.epoch
epoch_or (Err e) = 0

module _ (plan : List Line) (one : OneAnswer) (last : ℕ) where
  told_at_most : (c : List ℕ) (s t : Standing) → Told plan c (Ok s) → s.epoch ≤ last → Told plan c (Ok t) → t.epoch ≤ last
  told_at_most c s t told low other = let same : s.epoch ≡ t.epoch = ap epoch_or (one plan c (Ok s) (Ok t) told other) in omega (arith, same, low)

  -- WHERE THE DEVICE FAILED nothing is kept beyond an epoch, where the standing and the other one keep nothing beyond it
  pub keeps_to : (s t : Standing) (moment : ℕ) (state : DiskState) → ((c : List ℕ) → state.images c → state.since moment c)
      → ((c : List ℕ) → state.since moment c → Told plan c (Ok s) ⊎ Told plan c (Ok t)) → s.epoch ≤ last → t.epoch ≤ last → EachKeepsTo plan last state
  keeps_to s t moment state counts each low also c image u told =
      ⊎_elim (λ is. told_at_most c s u is low told) (λ is. told_at_most c t u is also told) (each c (counts c image))

  -- AT EACH MOMENT of a call, where each image that it adds tells one of these
  pub keeps_since : Together → (head next : Head) (side other : ℕ) (s t : Standing) (old new : DiskState) → s.epoch ≤ last → t.epoch ≤ last
      → TellsSince (Tells plan head side s) (Tells plan next other t) old new → KeepsSince plan last old new
  keeps_since together head next side other s t old new low also begun moment c le left = ⊎_elim
      (λ was. inl was)
      (λ now. inr (λ u told. ⊎_elim (λ is. told_at_most c s u (together plan head side s c is) low told) (λ is. told_at_most c t u (together plan next other t c is) also told) now))
      (begun moment c le left)

  -- at any time
  pub all_keep_to : (b : Bool) (answers : Answers) → Together → (head : Head) (side : ℕ) (s : Standing) (state : DiskState) → HeldWhere b answers plan head side s state → KeepsToWhere b plan last state
      → s.epoch ≤ last → EachKeepsTo plan last state
  all_keep_to true answers together head side s state holds kept low = kept
  all_keep_to false answers together head side s state holds kept low =
      λ c image u told. told_at_most c s u (together plan head side s c (subst (Tells plan head side s) (sym (holds.durable c image)) holds.tells)) low told

-- where it did not
pub none_beyond : (b : Bool) (plan : List Line) (last : ℕ) (state : DiskState) → b ≡ false → KeepsToWhere b plan last state
none_beyond b plan last state whole = subst (λ (t : Bool). KeepsToWhere t plan last state) (sym whole) tt

-- and of a later epoch
pub keeps_further : (b : Bool) (plan : List Line) (last next : ℕ) (state : DiskState) → last ≤ next → KeepsToWhere b plan last state → KeepsToWhere b plan next state
keeps_further true plan last next state on kept = λ c image s told. let low = kept c image s told in omega (arith, low, on)
keeps_further false plan last next state on kept = tt

-- nothing was written
pub none_since : (plan : List Line) → Together → (head : Head) (side : ℕ) (s : Standing) (state : DiskState) → ((c : List ℕ) → state.since state.moment c → state.images c)
    → Keeps plan head side s state → (c : List ℕ) → state.since state.moment c → Told plan c (Ok s)
none_since plan together head side s state only keeps c left = together plan head side s c (subst (Tells plan head side s) (sym (keeps.durable c (only c left))) keeps.tells)

-- the standing under one head or another
module _ (answers : Answers) (plan : List Line) (together : Together) (head other : Head) (side : ℕ) (s : Standing) (old new : DiskState) where
  -- each image since the start of the call, when each image told the standing, tells it
  pub told_since : ((c : List ℕ) → old.since old.moment c → old.images c) → Keeps plan head side s old → TellsSince (Tells plan head side s) (Tells plan other side s) old new
      → (c : List ℕ) → new.since old.moment c → Told plan c (Ok s)
  told_since only keeps begun c left =
      ⊎_elim (λ was. together plan head side s c (subst (Tells plan head side s) (sym (keeps.durable c (only c was))) keeps.tells))
      (λ now. ⊎_elim (λ told. together plan head side s c told) (λ told. together plan other side s c told) now)
      (begun old.moment c (omega arith) left)

  -- and each since an earlier moment was one by then, or tells it
  pub told_further : Advance (states_by answers plan) (with_more s []) s → TellsSince (Tells plan head side s) (Tells plan other side s) old new → AdvancesSince answers plan s [] (last_epoch s) old new
  told_further same begun moment c le left = ⊎_elim
      (λ was. inl was)
      (λ now. inr (⊎_elim (λ told. itself answers plan together head side s [] c same told) (λ told. itself answers plan together other side s [] c same told) now))
      (begun moment c le left)
