-- Turns: what each does, and what comes of all of them.
use Rattle.std.proofs.Common.{◌≡◌, ◌⊎◌, ℕ, zero, suc, ◌+◌, ◌-◌, ◌*◌, ◌/◌, ◌%◌, ◌==◌, ◌<◌, ◌≤◌, ◌^◌, nat_lt, Bool, true, false, not, cond, List, [], ◌∷◌, ◌++◌, length, filter, Option, Some, None, Contains, All, IsTrue, refl, ap, sym, ◌∙◌, subst, arith, inl, inr, append-nil, length-append, ltb-true, ltb-false}
use Rattle.std.specs.Prelude.{fold, option_map, slice_get}
use Rattle.std.specs.List.{AllByRecursion, list_all}
use Rattle.std.proofs.lemmas.List.Elements.{All-get_or, All-drop}
use Rattle.std.proofs.lemmas.Bool.{eq-eqb, eqb-true, eqb-false}
use Rattle.std.proofs.lemmas.List.{append_assoc}
use Rattle.std.proofs.lemmas.List.Sums.{fold-append}
use Rattle.std.proofs.lemmas.Grind.{flat_map-append}
use Rattle.std.proofs.Math.Nat.{zero-mod}
use Rattle.std.proofs.lemmas.Nat.{mod_below, mod-mul-add, div-add-mod'}
use Rattle.std.specs.List.Sorted.{IsStrictlySortedBy}
use Rattle.td_stamp.specs.declared.values.Entry.{Entry}
use Rattle.td_stamp.specs.States.{AreStates}
use Rattle.td_plan.specs.declared.vertex.Kind.{Kind}
use Rattle.td_plan.specs.Lines.{Line as PlanLine}
use Rattle.td_plan.specs.Blocks.{PlacedVertex, vertices}
use Rattle.td_plan.specs.Faults.{IsPlan}
use Rattle.td_plan.specs.Inputs.{is_input_of}
use Rattle.td_calls.specs.declared.error.CallsError.{CallsError}
use Rattle.td_calls.specs.declared.error.CallsError.TheVariants.{NoCall}
use Rattle.td_calls.specs.Answers.{Answers}
use Rattle.td_calls.specs.Fits.{first_lack, lacking_code}
use Rattle.td_calls.specs.Stored.{Codes}
use Rattle.td_machine.specs.declared.records.Message.{Message}
use Rattle.td_machine.specs.State.{HallState, Task, Content, is_out}
use Rattle.td_machine.specs.State.Content.{messages, notification}
use Rattle.td_machine.specs.Steps.{Event, Answer, Refusal, Plays, opened, with_batch, accepts, Takes, Gives, MayTake, ends, with_task, effect, all_delivered, delivered, coming, is_given}
use Rattle.td_machine.specs.Steps.Event.{release, taking, give}
use Rattle.td_machine.specs.Steps.Answer.{refused, has_released, has_taken, has_given}
use Rattle.td_machine.specs.Sound.{NeverStuck}
use Rattle.td_machine.specs.Steps.Refusal.{spent}
use Rattle.td_machine.specs.Steps.Takes.{is_busy, has_none, is_spent, takes}
use Rattle.td_machine.specs.Steps.Gives.{gives, is_stranger}
use Rattle.td_machine.specs.Active.{kind_or, kind_of, has_passed}
use Rattle.td_core.specs.declared.error.HallError.{HallError}
use Rattle.td_core.specs.declared.error.HallError.TheVariants.{Memory, Spent}
use Rattle.td_core.specs.Refusals.{error_of}
use Rattle.td_core.specs.Drained.{IsKept}
use Rattle.td_console.specs.Turns.{all_released, IsTurn, AreTurns, idle_after, note_by, note_of, notes_of, Played}
use Rattle.td_console.proofs.Released.{release_steps}

-- KEPT
kept_as_is : (S : HallState) → IsKept S S
kept_as_is S = record { plan = refl; workers = refl; base = refl; base_states = refl; batches = refl; next = refl; closed = refl; collected = refl }

kept_on : (S T U : HallState) → IsKept S T → IsKept T U → IsKept S U
kept_on S T U k l = record {
  plan = l.plan ∙ k.plan;
  workers = l.workers ∙ k.workers;
  base = l.base ∙ k.base;
  base_states = l.base_states ∙ k.base_states;
  batches = l.batches ∙ k.batches;
  next = l.next ∙ k.next;
  closed = l.closed ∙ k.closed;
  collected = l.collected ∙ k.collected;
}

-- what a task's effect leaves as it was
record IsEffect (S T : HallState) : Type 0 where
  pub kept : IsKept S T
  pub out : T.out ≡ S.out
  pub taken : T.taken ≡ S.taken

module _ (answers : Answers) where
  all_kept : (kind : Kind) (S : HallState) (cs : List Message) → IsEffect S (all_delivered answers kind S cs)
  all_kept kind S [] = record { kept = kept_as_is S; out = refl; taken = refl }
  all_kept kind S (c ∷ cs) =
      let later = all_kept kind (delivered answers S kind c) cs in
      record {
        kept = record { plan = later.kept.plan; workers = later.kept.workers; base = later.kept.base; base_states = later.kept.base_states; batches = later.kept.batches; next = later.kept.next; closed = later.kept.closed; collected = later.kept.collected };
        out = later.out;
        taken = later.taken;
      }

  effect_kept : (S : HallState) (task : Task) (content : Content) → IsEffect S (effect answers S task content)
  effect_kept S task (messages port recs) = all_kept task.kind S (coming task.vertex port task.time recs)
  effect_kept S task (notification items) = record { kept = record { plan = refl; workers = refl; base = refl; base_states = refl; batches = refl; next = refl; closed = refl; collected = refl }; out = refl; taken = refl }

-- WHAT A TAKE SAYS
pub record IsTaken (S : HallState) (s : ℕ) (task : Task) (T : HallState) : Type 0 where
  pub may : MayTake S s task
  pub below : S.taken < ends
  pub after : T ≡ with_task S task

took_by : (S T : HallState) (s : ℕ) (answer : Answer) (task : Task) → Takes S s answer T → answer ≡ has_taken (Some task) → IsTaken S s task T
took_by S T s answer task (is_busy b) e = cc
took_by S T s answer task (has_none b none) e = cc
took_by S T s answer task (is_spent b other may all) e = cc
took_by S T s answer task (takes b other may below) e =
    let same : other ≡ task = cc in
    record { may = subst (MayTake S s) same may; below = below; after = ap (with_task S) same }

pub took : (S T : HallState) (s : ℕ) (task : Task) → Takes S s (has_taken (Some task)) T → IsTaken S s task T
took S T s task take = took_by S T s (has_taken (Some task)) task take refl

none_by : (S T : HallState) (s : ℕ) (answer : Answer) → Takes S s answer T → answer ≡ has_taken None → T ≡ S
none_by S T s answer (is_busy b) e = cc
none_by S T s answer (has_none b none) e = refl
none_by S T s answer (is_spent b other may all) e = cc
none_by S T s answer (takes b other may below) e = cc

-- where no task is out, a take is refused since all numbers are used
spent_by : (S T : HallState) (s : ℕ) (answer : Answer) (r : Refusal) → is_out S s ≡ false → Takes S s answer T → answer ≡ refused r → r ≡ spent
spent_by S T s answer r free (is_busy b) e = cc
spent_by S T s answer r free (has_none b none) e = cc
spent_by S T s answer r free (is_spent b other may all) e = cc
spent_by S T s answer r free (takes b other may below) e = cc

none_is_out : (S : HallState) (s : ℕ) → S.out ≡ [] → is_out S s ≡ false
none_is_out S s none = rw none refl

pub take_refused : (S : HallState) (s : ℕ) (error : HallError) → S.out ≡ [] → (error ≡ Memory) ⊎ ((r : Refusal) × (error ≡ error_of r) × Takes S s (refused r) S) → (error ≡ Memory) ⊎ (error ≡ Spent)
take_refused S s error none (inl e) = inl e
take_refused S s error none (inr (r, e, take)) = inr (e ∙ ap error_of (spent_by S S s (refused r) r (none_is_out S s none) take refl))

-- the one task that is out is no stranger
gave_by : (answers : Answers) (S T : HallState) (task : Task) (answer : Answer) → Gives answers S task answer T → answer ≡ has_given → T ≡ is_given (effect answers S task task.content) task
gave_by answers S T task answer (gives there) e = refl
gave_by answers S T task answer (is_stranger away) e = cc

stranger_by : (answers : Answers) (S T : HallState) (task : Task) (answer : Answer) (r : Refusal) → Contains S.out task → Gives answers S task answer T → answer ≡ refused r → ⊥
stranger_by answers S T task answer r there (gives h) e = cc
stranger_by answers S T task answer r there (is_stranger away) e = away there

pub give_refused : (answers : Answers) (S T : HallState) (task : Task) (error : HallError) → Contains S.out task → (error ≡ Memory) ⊎ ((r : Refusal) × (error ≡ error_of r) × Gives answers S task (refused r) T) → error ≡ Memory
give_refused answers S T task error there (inl e) = e
give_refused answers S T task error there (inr (r, e, back)) = absurd (stranger_by answers S T task (refused r) r there back refl)

-- WHAT A TURN LEAVES
pub record IsAfter (S T : HallState) : Type 0 where
  pub kept : IsKept S T
  pub none_out : S.out ≡ [] → T.out ≡ []

pub out_alone : (S T : HallState) (s : ℕ) (task : Task) → IsTaken S s task T → S.out ≡ [] → T.out ≡ task ∷ []
out_alone S T s task t none = ap (λ (U : HallState). U.out) t.after ∙ rw none refl

given_alone : (task : Task) (out : List Task) → out ≡ task ∷ [] → filter (λ t. not (t.shard == task.shard)) out ≡ []
given_alone task out e = let same = eq-eqb task.shard task.shard refl in rw (e, same) refl

module _ (answers : Answers) where
  pub turn_leaves : (s : ℕ) (S T : HallState) (turn : Option Task) → IsTurn answers s S turn T → IsAfter S T
  turn_leaves s S T None t = let same = none_by S T s (has_taken None) t refl in subst (IsAfter S) (sym same) (record { kept = kept_as_is S; none_out = λ none. none })
  turn_leaves s S T (Some task) t =
      let take = took S t.0 s task t.1 in
      let gave = gave_by answers t.0 T task has_given t.2 refl in
      let left = effect_kept answers t.0 task task.content in
      let from : IsKept S t.0 = subst (IsKept S) (sym take.after) (record { plan = refl; workers = refl; base = refl; base_states = refl; batches = refl; next = refl; closed = refl; collected = refl }) in
      let end = is_given (effect answers t.0 task task.content) task in
      let to : IsKept t.0 end = record { plan = left.kept.plan; workers = left.kept.workers; base = left.kept.base; base_states = left.kept.base_states; batches = left.kept.batches; next = left.kept.next; closed = left.kept.closed; collected = left.kept.collected } in
      let gone : S.out ≡ [] → end.out ≡ [] = λ none. given_alone task (effect answers t.0 task task.content).out (left.out ∙ out_alone S t.0 s task take none) in
      subst (IsAfter S) (sym gave) (record { kept = kept_on S t.0 end from to; none_out = gone })

  -- one more number is used
  pub turn_uses : (s : ℕ) (S T : HallState) (task : Task) → IsTurn answers s S (Some task) T → (S.taken < ends) × (T.taken ≡ S.taken + 1)
  turn_uses s S T task t =
      let take = took S t.0 s task t.1 in
      let gave = gave_by answers t.0 T task has_given t.2 refl in
      let left = effect_kept answers t.0 task task.content in
      (take.below, ap (λ (U : HallState). U.taken) gave ∙ (left.taken ∙ ap (λ (U : HallState). U.taken) take.after))

  -- A TURN MORE
  turns-push : (workers i : ℕ) (S T U : HallState) (turns : List (Option Task)) (turn : Option Task) → AreTurns answers workers i S turns T → IsTurn answers ((i + length turns) % workers) T turn U
      → AreTurns answers workers i S (turns ++ turn ∷ []) U
  turns-push workers i S T U [] turn are is =
      let at : i + 0 ≡ i = omega arith in
      (U, subst (λ n. IsTurn answers (n % workers) S turn U) at (subst (λ V. IsTurn answers ((i + 0) % workers) V turn U) are is), refl)
  turns-push workers i S T U (t ∷ turns) turn are is =
      let at : i + suc (length turns) ≡ (i + 1) + length turns = omega arith in
      (are.0, are.1, turns-push workers (i + 1) are.0 T U turns turn are.2 (subst (λ n. IsTurn answers (n % workers) T turn U) at is))

  module _ (workers : ℕ) (before now : List ℕ) (S T U : HallState) where
    none_still : (idle : ℕ) (p : Played answers workers idle before now S T) (turn : Option Task) → IsTurn answers (length p.turns % workers) T turn U
        → (i : ℕ) → i < length p.turns + 1 → length p.turns + 1 ≤ i + idle_after idle turn → Takes U (i % workers) (has_taken None) U
    none_still idle p None t i below late = by (nat_lt i (length p.turns)) refl
      where
        same : U ≡ T
        same = none_by T U (length p.turns % workers) (has_taken None) t refl

        by : (b : Bool) → nat_lt i (length p.turns) ≡ b → Takes U (i % workers) (has_taken None) U
        by true is = subst (λ V. Takes V (i % workers) (has_taken None) V) (sym same) (p.none_now i (ltb-true i (length p.turns) is) (omega (arith, late)))
        by false is =
            let least = ltb-false i (length p.turns) is in
            let at : length p.turns ≡ i = omega (arith, least, below) in
            subst (λ n. Takes U (n % workers) (has_taken None) U) at (subst (λ V. Takes V (length p.turns % workers) (has_taken None) U) (sym same) t)
    none_still idle p (Some task) t i below late = absurd (omega (arith, below, late))

    pub played_on : (idle later : ℕ) (p : Played answers workers idle before now S T) (turn : Option Task) (after : List ℕ) → IsTurn answers (length p.turns % workers) T turn U → after ≡ now ++ note_of turn
        → later ≡ idle_after idle turn → (q : Played answers workers later before after S U) × (length q.turns ≡ length p.turns + 1)
    played_on idle later p turn after t written is =
        let left = turn_leaves (length p.turns % workers) T U turn t in
        let size = length-append p.turns (turn ∷ []) in
        let at : length p.turns ≡ 0 + length p.turns = omega arith in (
          record {
            turns = p.turns ++ turn ∷ [];
            played = turns-push workers 0 S T U p.turns turn p.played (subst (λ n. IsTurn answers (n % workers) T turn U) at t);
            ended = fold-append idle_after 0 p.turns (turn ∷ []) ∙ ap (λ n. idle_after n turn) p.ended ∙ sym is;
            written = written ∙ ap (λ l. l ++ note_of turn) p.written ∙ append_assoc before (notes_of p.turns) (note_of turn)
                ∙ ap (λ l. before ++ l) (sym (flat_map-append note_of p.turns (turn ∷ []) ∙ ap (λ l. notes_of p.turns ++ l) (append-nil (note_of turn))));
            none_now = λ i below late. none_still idle p turn t i (subst (λ n. i < n) size below) (subst (λ n. n ≤ i + idle_after idle turn) size (subst (λ n. length (p.turns ++ turn ∷ []) ≤ i + n) is late));
            kept = kept_on S T U p.kept left.kept;
            none_out = λ none. left.none_out (p.none_out none);
          },
          size,
        )

-- what a turn answers, whether there was a task or not
pub turned : (answers : Answers) (s : ℕ) (S T : HallState) (old new : List ℕ) (worked : Bool)
    → (worked ≡ false → IsTurn answers s S None T × (new ≡ old))
    → (worked ≡ true → (task : Task) × IsTurn answers s S (Some task) T × (new ≡ old ++ note_by task task.content))
    → (turn : Option Task) × ((idle : ℕ) → cond worked 0 (idle + 1) ≡ idle_after idle turn) × IsTurn answers s S turn T × (new ≡ old ++ note_of turn)
turned answers s S T old new false none some = let h = none refl in (None, (λ idle. refl), h.0, h.1 ∙ sym (append-nil old))
turned answers s S T old new true none some = let h = some refl in (Some h.0, (λ idle. refl), h.1, h.2)

-- A TURN COMES NEARER TO THE END
pub nearer : (answers : Answers) (s : ℕ) (T U : HallState) (turn : Option Task) (idle later : ℕ) → IsTurn answers s T turn U → later ≡ idle_after idle turn → idle < 16
    → (ends - U.taken) * 17 + (16 - later) < (ends - T.taken) * 17 + (16 - idle)
nearer answers s T U None idle later t is few =
    let same : U.taken ≡ T.taken = ap (λ (V : HallState). V.taken) (none_by T U s (has_taken None) t refl) in
    omega (arith, same, is, few)
nearer answers s T U (Some task) idle later t is few =
    let uses = turn_uses answers s T U task t in
    let below = uses.0 in
    let next = uses.1 in
    omega (arith, below, next, is, few)

-- closures that fit the plan
module _ (stored : Codes) where
  by_first : (p : PlacedVertex) (ps : List PlacedVertex) (lack : Option ℕ)
      → ◌≡◌ {A = Option CallsError} (elim lack [ None ↦ first_lack stored ps | Some code ↦ Some (NoCall p.vertex.number code) ]) None
      → (lack ≡ None) × (first_lack stored ps ≡ None)
  by_first p ps None e = (refl, e)
  by_first p ps (Some code) e = cc

  lacks_none_at : (ps : List PlacedVertex) (v : ℕ) → first_lack stored ps ≡ None → lacking_code stored (kind_or (option_map (λ p. p.vertex.kind) (slice_get ps v))) ≡ None
  lacks_none_at [] v e = refl
  lacks_none_at (p ∷ ps) zero e = (by_first p ps (lacking_code stored p.vertex.kind) e).0
  lacks_none_at (p ∷ ps) (suc v) e = lacks_none_at ps v (by_first p ps (lacking_code stored p.vertex.kind) e).1

  pub lacks_none : (plan : List PlanLine) (kind : Kind) (v : ℕ) → first_lack stored (vertices plan) ≡ None → kind ≡ kind_of plan v → lacking_code stored kind ≡ None
  lacks_none plan kind v e k = ap (lacking_code stored) k ∙ lacks_none_at (vertices plan) v e

-- the one task that is out
pub out_there : (out : List Task) (task other : Task) → out ≡ task ∷ [] → other ≡ task → Contains out other
out_there out task other e same = subst (λ ts. Contains ts other) (sym e) (0, omega arith, sym same)

-- before the first turn
pub not_played : (answers : Answers) (workers : ℕ) (text : List ℕ) (S : HallState) → (p : Played answers workers 0 text text S S) × (0 ≡ length p.turns % workers)
not_played answers workers text S = (
  record {
    turns = [];
    played = refl;
    ended = refl;
    written = sym (append-nil text);
    none_now = λ i below late. absurd (omega (arith, below));
    kept = kept_as_is S;
    none_out = λ none. none;
  },
  sym (zero-mod workers),
)

-- the next shard
pub next_shard : (n workers shard : ℕ) → shard ≡ n % workers → 0 < workers → cond (shard + 1 == workers) 0 (shard + 1) ≡ (n + 1) % workers
next_shard n workers shard at some = by (shard + 1 == workers) refl
  where
    q : ℕ
    q = n / workers

    parts : q * workers + shard ≡ n
    parts = ap (λ r. q * workers + r) at ∙ div-add-mod' n workers

    small : shard < workers
    small = subst (λ r. r < workers) (sym at) (mod_below n workers some)

    by : (b : Bool) → (shard + 1 == workers) ≡ b → cond b 0 (shard + 1) ≡ (n + 1) % workers
    by true is =
        let full = eqb-true (shard + 1) workers is in
        let round : (q + 1) * workers + 0 ≡ n + 1 = grind (arith) in
        sym (ap (λ m. m % workers) (sym round) ∙ mod-mul-add (q + 1) workers 0 some)
    by false is =
        let least = eqb-false (shard + 1) workers is in
        let here : q * workers + (shard + 1) ≡ n + 1 = omega (arith, parts) in
        sym (ap (λ m. m % workers) (sym here) ∙ mod-mul-add q workers (shard + 1) (omega (arith, small, least)))

-- THE END: each shard had no task
idle_few : (turns : List (Option Task)) (k : ℕ) → fold idle_after k turns ≤ k + length turns
idle_few [] k = omega arith
idle_few (None ∷ turns) k = let h = idle_few turns (k + 1) in omega (arith, h)
idle_few (Some task ∷ turns) k = let h = idle_few turns 0 in omega (arith, h)

pub none_left : (answers : Answers) (workers : ℕ) (before after : List ℕ) (S T : HallState) → Played answers workers workers before after S T → 0 < workers
    → (s : ℕ) → s < workers → Takes T s (has_taken None) T
none_left answers workers before after S T p some s small =
    let n = length p.turns in
    let many : workers ≤ n = let h = idle_few p.turns 0 in let e = p.ended in omega (arith, h, e) in
    let q = (n - 1 - s) / workers in
    let r = (n - 1 - s) % workers in
    let parts : q * workers + r ≡ n - 1 - s = div-add-mod' (n - 1 - s) workers in
    let rest : r < workers = mod_below (n - 1 - s) workers some in
    let i = q * workers + s in
    let below : i < n = omega (arith, many, small, parts) in
    let late : n ≤ i + workers = omega (arith, many, small, parts, rest) in
    subst (λ m. Takes T m (has_taken None) T) (mod-mul-add q workers s small) (p.none_now i below late)

-- AND EVERY EPOCH HAS PASSED: releases and turns are a play
plays_of_turns : (answers : Answers) (workers i : ℕ) (S T : HallState) (turns : List (Option Task)) → AreTurns answers workers i S turns T → (events : List Event) × (replies : List Answer) × Plays answers S events replies T
plays_of_turns answers workers i S T [] are = ([], [], are)
plays_of_turns answers workers i S T (None ∷ turns) are =
    let later = plays_of_turns answers workers (i + 1) are.0 T turns are.2 in
    (taking (i % workers) ∷ later.0, has_taken None ∷ later.1, (are.0, are.1, later.2))
plays_of_turns answers workers i S T (Some task ∷ turns) are =
    let later = plays_of_turns answers workers (i + 1) are.0 T turns are.2 in
    let turn = are.1 in
    (taking (i % workers) ∷ give task ∷ later.0, has_taken (Some task) ∷ has_given ∷ later.1, (turn.0, turn.1, (are.0, turn.2, later.2)))

-- all entries of all batches name inputs
abbrev AreAccepted : List PlanLine → List (List Entry) → Type 0
AreAccepted plan batches = AllByRecursion (λ batch. accepts plan batch ≡ true) batches

plays_of_releases : (answers : Answers) (S T : HallState) (batches : List (List Entry)) (events : List Event) (replies : List Answer)
    → AreAccepted S.plan batches → S.closed ≡ false → S.next + length batches ≤ ends → Plays answers (all_released S batches) events replies T
    → (events : List Event) × (replies : List Answer) × Plays answers S events replies T
plays_of_releases answers S T [] events replies accepted is_open few plays = (events, replies, plays)
plays_of_releases answers S T (batch ∷ batches) events replies accepted is_open few plays =
    let later = plays_of_releases answers (with_batch S batch) T batches events replies accepted.1 is_open (omega (arith, few)) plays in
    (release batch ∷ later.0, has_released S.next ∷ later.1, (with_batch S batch, (accepted.0, release_steps S batch is_open (omega (arith, few))), later.2))

accepted_all : (plan : List PlanLine) (batches : List (List Entry)) → All (λ batch. IsTrue (list_all (λ e. is_input_of plan e.input) batch)) batches → AreAccepted plan batches
accepted_all plan [] h = tt
accepted_all plan (batch ∷ batches) h = (
  All-get_or (λ batch. IsTrue (list_all (λ e. is_input_of plan e.input) batch)) (batch ∷ batches) 0 batch (omega arith) h,
  accepted_all plan batches (All-drop (λ batch. IsTrue (list_all (λ e. is_input_of plan e.input) batch)) 1 (batch ∷ batches) h),
)

no_states : AreStates []
unfolding IsStrictlySortedBy
no_states = tt

pub all_passed : (answers : Answers) → NeverStuck answers → (plan : List PlanLine) (batches : List (List Entry)) (workers : ℕ) → IsPlan plan
    → All (λ batch. IsTrue (list_all (λ e. is_input_of plan e.input) batch)) batches → length batches < 2 ^ 63 → 1 ≤ workers
    → (before after : List ℕ) (T : HallState) → Played answers workers workers before after (all_released (opened plan [] 1 workers) batches) T
    → (e : ℕ) → e < T.next → has_passed T e ≡ true
all_passed answers never plan batches workers lawful accepted few some before after T played =
    let start = opened plan [] 1 workers in
    let turns = plays_of_turns answers workers 0 (all_released start batches) T played.turns played.played in
    let plays = plays_of_releases answers start T batches turns.0 turns.1 (accepted_all plan batches accepted) refl (omega (arith, few)) turns.2 in
    never plan [] 1 workers plays.0 plays.1 T lawful no_states (omega arith) some plays.2
    (λ s small. none_left answers workers before after (all_released start batches) T played (omega (arith, some)) s small)
