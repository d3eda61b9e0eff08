-- A task is taken of a shard, run and given; or it is put back, and the state is as it was before.
use Rattle.std.proofs.Common.{◌≡◌, ℕ, zero, suc, ◌==◌, ◌≤◌, ◌<◌, Bool, true, false, List, [], ◌∷◌, ◌++◌, map, flat_map, length, get_or, set, Option, Some, None, option_map, Vec, Global, Contains, HoldsAt, refl, ap, sym, ◌∙◌, subst, arith, inl, inr}
use Rattle.std.specs.List.{slice_get, list_any, enumerate_from}
use Rattle.td_stamp.specs.Bag.{bag_of, set_of}
use Rattle.td_plan.specs.declared.vertex.Kind.{Kind}
use Rattle.td_plan.specs.Lines.{Line}
use Rattle.td_plan.specs.Blocks.{PlacedVertex, vertices}
use Rattle.td_calls.specs.Answers.{Answers}
use Rattle.td_calls.specs.Fits.{lacking_code, first_lack}
use Rattle.td_calls.specs.declared.error.CallsError.{CallsError}
use Rattle.td_calls.specs.declared.error.CallsError.TheVariants.{NoCall}
use Rattle.td_calls.specs.Stored.{Codes}
use Rattle.td_machine.specs.State.{HallState, Task, message_cmp, notification_cmp}
use Rattle.td_machine.specs.Active.{kind_or, kind_of}
use Rattle.td_machine.specs.Steps.{Answer, Refusal, Takes, Gives, effect, is_given}
use Rattle.td_machine.specs.Steps.Answer.{has_taken, has_given, refused}
use Rattle.td_machine.specs.Steps.Refusal.{spent}
use Rattle.td_machine.specs.Steps.Takes.{is_busy, has_none, is_spent, takes}
use Rattle.td_machine.specs.Steps.Gives.{gives}
use Rattle.td_machine.specs.Tally.{records_in, notes_in}
use Rattle.td_shard.specs.declared.shard.Shard.{Shard}
use Rattle.td_task.specs.Refusals.{refusal}
use Rattle.td_task.specs.declared.error.TaskError.{TaskError}
use Rattle.td_task.specs.declared.error.TaskError.TheVariants as task_errors
use Rattle.td_core.specs.declared.hall.Parts.{Parts}
use Rattle.td_core.specs.declared.drain.Drained.{Drained}
use Rattle.td_core.specs.declared.error.HallError.{HallError}
use Rattle.td_core.specs.Parts.{state_of, in_mailboxes, with_tasks, waiting_in, asked_in, IsHall}
use Rattle.td_core.specs.Given.{IsUntouched}
use Rattle.td_core.specs.Posted.{HasNoLess, IsRoomier, mails, waits}
use Rattle.td_core.specs.Refusals.{error_of}
use Rattle.td_core.specs.Taking.{IsSame, IsTakeRefused, HasRoomBack, IsLastTake, room_of}
use Rattle.td_core.specs.Drained.{IsTurn, IsWhy}
use Rattle.td_core.proofs.GiveSteps.{untouched_state, untouched_hall}
use Rattle.td_core.proofs.PostSteps.{roomier_same}
use Rattle.td_core.proofs.DrainParts.{took}

-- MORE ROOM in one mailbox
module _ (s t : Shard) (mail : t.mailbox.messages ≡ s.mailbox.messages) (waiting : t.waiting ≡ s.waiting) (room : s.mailbox.room ≤ t.mailbox.room) (runs : s.mailbox.runs ≤ t.mailbox.runs) where
  same_mails : (shards : List Shard) (i : ℕ) → get_or shards i s ≡ s → mails (set shards i t) ≡ mails shards
  same_mails [] i e = refl
  same_mails (u ∷ us) zero e = ap (λ m. m ∷ mails us) (mail ∙ ap (λ u. u.mailbox.messages) (sym e))
  same_mails (u ∷ us) (suc i) e = ap (λ l. u.mailbox.messages ∷ l) (same_mails us i e)

  same_waits : (shards : List Shard) (i : ℕ) → get_or shards i s ≡ s → waits (set shards i t) ≡ waits shards
  same_waits [] i e = refl
  same_waits (u ∷ us) zero e = ap (λ w. w ∷ waits us) (waiting ∙ ap (λ u. u.waiting) (sym e))
  same_waits (u ∷ us) (suc i) e = ap (λ l. u.waiting ∷ l) (same_waits us i e)

  no_less : (shards : List Shard) (i : ℕ) → get_or shards i s ≡ s → HasNoLess shards (set shards i t)
  no_less [] i e = tt
  no_less (u ∷ us) zero e =
      let rooms = ap (λ u. u.mailbox.room) e in
      let all_runs = ap (λ u. u.mailbox.runs) e in
      (omega (arith, room, rooms), omega (arith, runs, all_runs), (roomier_same us).room)
  no_less (u ∷ us) (suc i) e = (omega arith, omega arith, no_less us i e)

  pub roomier_at : (shards : List Shard) (i : ℕ) → get_or shards i s ≡ s → IsRoomier shards (set shards i t)
  roomier_at shards i e = record { mails = same_mails shards i e; waiting = same_waits shards i e; room = no_less shards i e }

-- NOTHING BUT ROOM was changed
module _ (parts : Parts) (shards : Vec Shard Global) (same : IsRoomier parts.shards.items shards.items) where
  abbrev pub with_room : Parts
  with_room = record parts { shards = shards }

  untouched : IsUntouched parts with_room
  untouched = record { fields = refl; plan = refl; stamps = λ p. refl; shards = same }

  pub room_state : state_of with_room ≡ state_of parts
  room_state = untouched_state parts with_room untouched

  pub room_hall : (answers : Answers) → IsHall answers parts → IsHall answers with_room
  room_hall answers inv = untouched_hall parts with_room untouched answers inv

-- nor where a take was refused
pub same_state : (old new : Parts) → IsSame old new → state_of new ≡ state_of old
same_state old new same = ap state_of same.fields ∙ (λ i. record (state_of old) {
  workers = length (same.shards i);
  messages = bag_of message_cmp (in_mailboxes (same.shards i) ++ with_tasks (same.out i));
  buffered = bag_of message_cmp (flat_map waiting_in (same.shards i));
  asked = set_of notification_cmp (flat_map asked_in (enumerate_from 0 (same.shards i)));
  out = same.out i;
})

-- ROOM stays while a task is taken and nothing has less
room_taken : (a b : List Shard) (i : ℕ) → i < length a → map room_of b ≡ map room_of a → HoldsAt HasRoomBack a i → HoldsAt HasRoomBack b i
room_taken [] b i l e h = absurd (omega (arith, l))
room_taken (s ∷ a) [] i l e h = absurd (cc)
room_taken (s ∷ a) (t ∷ b) zero l e h =
    let here : room_of t ≡ room_of s = cc in
    let runs = ap (λ r. r.0) here in
    let room = ap (λ r. r.1) here in
    let had = h s in
    let had_runs = had.0 in
    let had_room = had.1 in
    λ d. (omega (arith, runs, had_runs), omega (arith, room, had_room))
room_taken (s ∷ a) (t ∷ b) (suc i) l e h = let rest : map room_of b ≡ map room_of a = cc in room_taken a b i (omega (arith, l)) rest h

room_more : (a b : List Shard) (i : ℕ) → i < length a → HasNoLess a b → HoldsAt HasRoomBack a i → HoldsAt HasRoomBack b i
room_more [] b i l e h = absurd (omega (arith, l))
room_more (s ∷ a) [] i l e h = absurd e
room_more (s ∷ a) (t ∷ b) zero l e h =
    let room = e.0 in
    let runs = e.1 in
    let had = h s in
    let had_runs = had.0 in
    let had_room = had.1 in
    λ d. (omega (arith, runs, had_runs), omega (arith, room, had_room))
room_more (s ∷ a) (t ∷ b) (suc i) l e h = room_more a b i (omega (arith, l)) e.2 h

as_many_rooms : (a b : List Shard) → map room_of b ≡ map room_of a → length b ≡ length a
as_many_rooms [] [] e = refl
as_many_rooms [] (t ∷ b) e = absurd (cc)
as_many_rooms (s ∷ a) [] e = absurd (cc)
as_many_rooms (s ∷ a) (t ∷ b) e = let rest : map room_of b ≡ map room_of a = cc in ap suc (as_many_rooms a b rest)

pub room_back : (a b c : List Shard) (i : ℕ) → i < length a → HoldsAt HasRoomBack a i → map room_of b ≡ map room_of a → IsRoomier b c → HoldsAt HasRoomBack c i
room_back a b c i l h taken more =
    let many = as_many_rooms a b taken in
    room_more b c i (omega (arith, many, l)) more.room (room_taken a b i l taken h)

-- A TAKE that answers none, or refuses
some_is_none : (S T : HallState) (s : ℕ) (answer : Answer) → Takes S s answer T → answer ≡ has_taken None → T ≡ S
some_is_none S T s answer (is_busy b) e = refl
some_is_none S T s answer (has_none b none) e = refl
some_is_none S T s answer (is_spent b task may all) e = refl
some_is_none S T s answer (takes b task may more) e = absurd (cc)

pub none_taken : (parts taken : Parts) (S : HallState) (s : ℕ) (task : Option Task) → state_of parts ≡ S → task ≡ None → Takes (state_of parts) s (has_taken task) (state_of taken)
    → (state_of taken ≡ S) × Takes S s (has_taken None) S
none_taken parts taken S s task is e t =
    let none : Takes (state_of parts) s (has_taken None) (state_of taken) = subst (λ o. Takes (state_of parts) s (has_taken o) (state_of taken)) e t in
    let same : state_of taken ≡ S = some_is_none _ _ s _ none refl ∙ is in
    (same, subst (λ U. Takes U s (has_taken None) U) is (subst (λ U. Takes (state_of parts) s (has_taken None) U) (some_is_none _ _ s _ none refl) none))

is_refused_spent : (S T : HallState) (s : ℕ) (answer : Answer) (r : Refusal) → S.out ≡ [] → Takes S s answer T → answer ≡ refused r → r ≡ spent
is_refused_spent S T s answer r none (is_busy b) e = let no : false ≡ true = ap (λ out. list_any (λ t. t.shard == s) out) (sym none) ∙ b in absurd (cc)
is_refused_spent S T s answer r none (has_none b n) e = absurd (cc)
is_refused_spent S T s answer r none (is_spent b task may all) e = cc
is_refused_spent S T s answer r none (takes b task may more) e = absurd (cc)

pub why : (S : HallState) (s : ℕ) (error : HallError) → S.out ≡ [] → s < S.workers → IsTakeRefused S s error → IsWhy S error
why S s error none within (inl m) = inl m
why S s error none within (inr (r, e, t)) =
    let is = is_refused_spent S S s (refused r) r none t refl in
    inr (e ∙ ap error_of is, (s, within, subst (λ r. Takes S s (refused r) S) is t))

-- A TAKE that answers a task: it is for a vertex of its kind
pub of_its_kind : (parts taken : Parts) (s : ℕ) (task : Task) → Takes (state_of parts) s (has_taken (Some task)) (state_of taken) → task.kind ≡ kind_of taken.table.plan task.vertex
of_its_kind parts taken s task t =
    let is = took (state_of parts) (state_of taken) s task t in
    is.may.kind ∙ ap (λ S. kind_of S.plan task.vertex) (sym is.after)

-- and where it was given, that is a turn
pub is_turn : (answers : Answers) (old parts taken given : Parts) (s : ℕ) (task : Task) (delivered : Drained) → state_of parts ≡ state_of old
    → Takes (state_of parts) s (has_taken (Some task)) (state_of taken) → taken.out.items ≡ task ∷ []
    → state_of given ≡ is_given (effect answers (state_of taken) task task.content) task
    → delivered.messages ≡ records_in task.content → delivered.notes ≡ notes_in task.content
    → IsTurn answers (state_of old) s delivered (state_of given)
is_turn answers old parts taken given s task delivered same t out is messages notes = record {
  task = task;
  between = state_of taken;
  takes = subst (λ S. Takes S s (has_taken (Some task)) (state_of taken)) same t;
  gives = subst (Gives answers (state_of taken) task has_given) (sym is) (gives (subst (λ l. Contains l task) (sym out) (0, omega arith, refl)));
  messages = messages;
  notes = notes;
}

-- the take that is taken back
pub last_take : (answers : Answers) (old parts taken left : Parts) (s : ℕ) (task : Task) → IsHall answers old → state_of parts ≡ state_of old
    → Takes (state_of parts) s (has_taken (Some task)) (state_of taken) → IsUntouched taken left → IsLastTake answers (state_of old) s task (state_of left)
last_take answers old parts taken left s task inv same t untouched =
    (inv.reached, subst (λ T. Takes (state_of old) s (has_taken (Some task)) T) (sym (untouched_state taken left untouched)) (subst (λ S. Takes S s (has_taken (Some task)) (state_of taken)) same t))

-- THE CALLS FIT: no vertex lacks its closure
module _ (stored : Codes) where
  by_first : (p : PlacedVertex) (ps : List PlacedVertex) (lack : Option ℕ)
      → ◌≡◌ {A = Option CallsError} (elim lack [ None ↦ first_lack stored ps | Some code ↦ Some (NoCall p.vertex.number code) ]) None
      → (lack ≡ None) × (first_lack stored ps ≡ None)
  by_first p ps None e = (refl, e)
  by_first p ps (Some code) e = absurd (cc)

  lacks_none_at : (ps : List PlacedVertex) (v : ℕ) → first_lack stored ps ≡ None → lacking_code stored (kind_or (option_map (λ p. p.vertex.kind) (slice_get ps v))) ≡ None
  lacks_none_at [] v e = refl
  lacks_none_at (p ∷ ps) zero e = (by_first p ps (lacking_code stored p.vertex.kind) e).0
  lacks_none_at (p ∷ ps) (suc v) e = lacks_none_at ps v (by_first p ps (lacking_code stored p.vertex.kind) e).1

  pub lacks_none : (plan : List Line) (kind : Kind) (v : ℕ) → first_lack stored (vertices plan) ≡ None → kind ≡ kind_of plan v → lacking_code stored kind ≡ None
  lacks_none plan kind v e k = ap (lacking_code stored) k ∙ lacks_none_at (vertices plan) v e

-- so a run is not refused for one
pub not_lacking : (v vertex code : ℕ) (error : TaskError) (lack : Option ℕ) → lack ≡ None → error ≡ refusal v lack → error ≡ task_errors.NoCall vertex code → ⊥
not_lacking v vertex code error lack none is e = let same : task_errors.Memory ≡ task_errors.NoCall vertex code = sym (is ∙ ap (refusal v) none) ∙ e in absurd (cc)
