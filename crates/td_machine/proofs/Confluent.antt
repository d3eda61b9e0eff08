-- Confluence: what a play collects and cuts is the batch meaning's.
use Rattle.std.proofs.Common.{◌≡◌, ℕ, ◌+◌, ◌-◌, ◌<◌, ◌≤◌, List, [], ◌∷◌, ◌++◌, map, flat_map, filter, take, length, get_or, refl, ap, sym, ◌∙◌, subst, Bool, true, false, arith, suc, zero, append_assoc}
use Rattle.std.proofs.lemmas.List.{map-append}
use Rattle.td_stamp.specs.declared.values.Entry.{Entry}
use Rattle.td_stamp.specs.declared.values.Output.{Output}
use Rattle.td_stamp.specs.declared.epoch_out.EpochOut.{EpochOut}
use Rattle.td_stamp.specs.States.{StateList}
use Rattle.td_plan.specs.Lines.{Line}
use Rattle.td_plan.specs.Tree.{Nodes, tree_of, IsNumbered}
use Rattle.td_plan.specs.Placed.{IsPlacedTree}
use Rattle.td_calls.specs.Answers.{Answers}
use Rattle.td_batch.specs.Meaning.{run, states_after, epoch_result, numbered}
use Rattle.td_batch.specs.Flow.{numbers_from}
use Rattle.std.specs.Prelude.{Option, Some, None, unwrap_or, ◌==◌}
use Rattle.td_plan.specs.declared.vertex.Kind.{Kind}
use Rattle.td_machine.specs.declared.records.Message.{Message}
use Rattle.td_machine.specs.State.{HallState, Task, Content, states_at}
use Rattle.td_machine.specs.State.Content.{messages, notification}
use Rattle.td_machine.specs.Active.{has_passed, unpassed}
use Rattle.td_machine.specs.Steps.{Event, Answer, Step, Plays, Takes, Gives, to_collect, outputs_at, release_by, with_batch, with_task, all_delivered, delivered, effect, coming, is_given, cut_by, cut_at_by, cut_to, collect_step, ends}
use Rattle.td_machine.specs.Steps.Refusal.{stranger, busy, not_passed, inputs_closed, out_of_epochs, spent}
use Rattle.td_machine.specs.Steps.Answer.{refused, has_released, has_taken, has_given, has_cut, has_closed}
use Rattle.td_machine.specs.Steps.Event.{release, taking, give, collect, cut, cut_at, close}
use Rattle.td_machine.specs.Steps.Takes.{is_busy, has_none, is_spent, takes}
use Rattle.td_machine.specs.Steps.Gives.{gives, is_stranger}
use Rattle.td_machine.specs.Sound.{batch_by, batches_of, outs_by, CutIs, CutsAre}
use Rattle.td_machine.proofs.Played.{step_goes, last_passed}
use Rattle.td_machine.proofs.History.{Origin, History, Invariant}
use Rattle.td_machine.proofs.Flows.{AreLaid}
use Rattle.td_machine.proofs.PlanFacts.{PlanFacts}
use Rattle.td_machine.proofs.Lists.{filter_yes}
use Rattle.td_machine.proofs.Plain.{none_from, down, passed_before, collected_passed, passed_from}
use Rattle.td_machine.proofs.Releases.{get_before}
use Rattle.td_machine.proofs.Runs.{outs-append, outputs_are, states_are}
use Rattle.td_machine.specs.Below.{Below}

module _ (below : Below) where
  -- numbers that pass a test that those below pass as well are the first ones
  empty_list : {X : Type 0} (xs : List X) → length xs ≡ 0 → xs ≡ []
  empty_list [] h = refl
  empty_list (x ∷ xs) h = absurd (omega (arith, h))

  first_pass : (p : ℕ → Bool) (lower : (i : ℕ) → p (suc i) ≡ true → p i ≡ true) (k n : ℕ) → filter p (numbers_from k n) ≡ numbers_from k (length (filter p (numbers_from k n)))
  first_pass p lower k zero = refl
  first_pass p lower k (suc n) = by (p k) refl (first_pass p lower (suc k) n)
    where
      by : (b : Bool) → p k ≡ b → filter p (numbers_from (suc k) n) ≡ numbers_from (suc k) (length (filter p (numbers_from (suc k) n))) → filter p (numbers_from k (suc n)) ≡ numbers_from k (length (filter p (numbers_from k (suc n))))
      by true e rest = filter_yes p k (numbers_from (suc k) n) e ∙ ap (λ l. k ∷ l) rest ∙ ap (λ l. numbers_from k (length l)) (sym (filter_yes p k (numbers_from (suc k) n) e))
      by false e rest = let z = none_from below p lower k (suc n) e in empty_list (filter p (numbers_from k (suc n))) z ∙ ap (numbers_from k) (sym z)

  pub length_outs : (answers : Answers) (nodes : Nodes) (batches : List (List Entry)) (states : StateList) → length (run answers nodes states batches).outs ≡ length batches
  length_outs answers nodes [] states = refl
  length_outs answers nodes (batch ∷ later) states = ap suc (length_outs answers nodes later (epoch_result (record { answers = answers; states = states; batch = batch }) nodes).states)

  take_before : {X : Type 0} (n : ℕ) (xs ys : List X) → n ≤ length xs → take n (xs ++ ys) ≡ take n xs
  take_before zero xs ys h = refl
  take_before (suc n) [] ys h = absurd (omega (arith, h))
  take_before (suc n) (x ∷ xs) ys h = ap (λ l. x ∷ l) (take_before n xs ys (omega (arith, h)))

  -- batches that are released later change nothing of the earlier epochs
  pub later_outs : (answers : Answers) (nodes : Nodes) (states : StateList) (x y : List (List Entry)) (i : ℕ) → i < length x → get_or (run answers nodes states (x ++ y)).outs i [] ≡ get_or (run answers nodes states x).outs i []
  later_outs answers nodes states x y i h = ap (λ l. get_or l i []) (outs-append below answers nodes states x y) ∙ get_before below (run answers nodes states x).outs (run answers nodes (run answers nodes states x).states y).outs i [] (let n = length_outs answers nodes x states in omega (arith, h, n))

  pub later_states : (answers : Answers) (nodes : Nodes) (states : StateList) (x y : List (List Entry)) (n : ℕ) → n ≤ length x → states_after answers nodes states (x ++ y) n ≡ states_after answers nodes states x n
  later_states answers nodes states x y n h = ap (λ l. (run answers nodes states l).states) (take_before n x y h)

  module _ (answers : Answers) (origin : Origin) (S : HallState) (H : History) (facts : PlanFacts S.plan) (numbered : IsNumbered 0 (tree_of S.plan)) (laid : AreLaid S.plan [] (tree_of S.plan)) (placed : IsPlacedTree (tree_of S.plan)) (inv : Invariant answers origin S H) where
    -- A COLLECT answers the next epochs, each with the outputs that the run has there, however many batches follow
    pub collects : (more : List (List Entry)) → map (λ e. let o : EpochOut = record { epoch = e; recs = outputs_at S e } in o) (to_collect S)
        ≡ map (λ e. let o : EpochOut = record { epoch = e; recs = get_or (run answers (tree_of S.plan) origin.states (origin.batches ++ more)).outs (e - origin.first) [] } in o) (numbers_from (S.collected + 1) (length (to_collect S)))
    collects more = ap (map (λ e. let o : EpochOut = record { epoch = e; recs = outputs_at S e } in o)) (first_pass (has_passed S) (down below answers origin S H) (S.collected + 1) (S.next - (S.collected + 1)))
        ∙ each (S.collected + 1) (length (to_collect S)) (omega arith) (let d = collected_passed below answers origin S H inv.stands inv.running.later in omega (arith, d.0))
      where
        last : has_passed S (S.collected + length (to_collect S)) ≡ true
        last = passed_from below answers origin S H (S.collected + length (to_collect S)) (collected_passed below answers origin S H inv.stands inv.running.later).1

        each : (k n : ℕ) → S.collected < k → k + n ≤ S.collected + length (to_collect S) + 1 → map (λ e. let o : EpochOut = record { epoch = e; recs = outputs_at S e } in o) (numbers_from k n)
            ≡ map (λ e. let o : EpochOut = record { epoch = e; recs = get_or (run answers (tree_of S.plan) origin.states (origin.batches ++ more)).outs (e - origin.first) [] } in o) (numbers_from k n)
        each k zero l h = refl
        each k (suc n) l h =
            let d = collected_passed below answers origin S H inv.stands inv.running.later in
            let high : k < S.next = omega (arith, h, d.0) in
            let p : has_passed S k ≡ true = passed_before below answers origin S H k (S.collected + length (to_collect S)) (omega (arith, h)) last in
            let at = outputs_are below answers origin S H facts numbered laid placed inv k l high p ∙ sym (later_outs answers (tree_of S.plan) origin.states origin.batches more (k - origin.first) (omega (arith, high, inv.stands.next, l, inv.stands.collected.0))) in
            λ i. record { epoch = k; recs = at i } ∷ each (suc k) n (omega (arith, l)) (omega (arith, h)) i

    -- A CUT answers the states of the run up to its epoch, however many batches follow
    pub cuts_answer : (more : List (List Entry)) (e : ℕ) → S.base ≤ e → e < S.next → has_passed S e ≡ true → states_at S e ≡ states_after answers (tree_of S.plan) origin.states (origin.batches ++ more) (e + 1 - origin.first)
    cuts_answer more e l h p = states_are below answers origin S H facts numbered laid placed inv e l h p ∙ sym (later_states answers (tree_of S.plan) origin.states origin.batches more (e + 1 - origin.first) (omega (arith, h, inv.stands.next)))

  -- ALONG A PLAY
  module _ (answers : Answers) (plan : List Line) (states : StateList) (first : ℕ) where
    abbrev out_at : List (List Entry) → ℕ → EpochOut
    out_at all e = record { epoch = e; recs = get_or (run answers (tree_of plan) states all).outs (e - first) [] }

    -- what a step answers
    record Says (all : List (List Entry)) (S : HallState) (answer : Answer) (after : HallState) : Type 0 where
      pub rises : S.collected ≤ after.collected
      pub outs : outs_by answer ≡ map (out_at all) (numbers_from (S.collected + 1) (after.collected - S.collected))
      pub cut_is : CutIs answers plan states first all answer

    silent : (all : List (List Entry)) (S : HallState) (answer : Answer) (after : HallState) → after.collected ≡ S.collected → outs_by answer ≡ [] → CutIs answers plan states first all answer → Says all S answer after
    silent all S answer after c o k = record {
      rises = omega (arith, c);
      outs = o ∙ (let z : 0 ≡ after.collected - S.collected = omega (arith, c) in ap (λ n. map (out_at all) (numbers_from (S.collected + 1) n)) z);
      cut_is = k;
    }

    module _ (batches more : List (List Entry)) (S : HallState) (H : History) (same : S.plan ≡ plan) (facts : PlanFacts S.plan) (numbered : IsNumbered 0 (tree_of S.plan)) (laid : AreLaid S.plan [] (tree_of S.plan)) (placed : IsPlacedTree (tree_of S.plan))
        (inv : Invariant answers (record { states = states; first = first; batches = batches }) S H) where
      abbrev origin : Origin
      origin = record { states = states; first = first; batches = batches }

      abbrev all : List (List Entry)
      all = batches ++ more

      releases_say : (b c : Bool) (batch : List Entry) → (let r : Answer × HallState = release_by S b c batch in Says all S r.0 r.1)
      releases_say true c batch = silent all S (refused inputs_closed) S refl refl tt
      releases_say false true batch = silent all S (refused out_of_epochs) S refl refl tt
      releases_say false false batch = silent all S (has_released S.next) (with_batch S batch) refl refl tt

      takes_say : (s : ℕ) (answer : Answer) (after : HallState) → Takes S s answer after → Says all S answer after
      takes_say s _ _ (is_busy e) = silent all S (refused busy) S refl refl tt
      takes_say s _ _ (has_none e n) = silent all S (has_taken None) S refl refl tt
      takes_say s _ _ (is_spent e task may l) = silent all S (refused spent) S refl refl tt
      takes_say s _ _ (takes e task may l) = silent all S (has_taken (Some task)) (with_task S task) refl refl tt

      each_collected : (kind : Kind) (cs : List Message) (X : HallState) → (all_delivered answers kind X cs).collected ≡ X.collected
      each_collected kind [] X = refl
      each_collected kind (c ∷ cs) X = each_collected kind cs (delivered answers X kind c)

      effect_collected : (task : Task) (content : Content) → (effect answers S task content).collected ≡ S.collected
      effect_collected task (messages port recs) = each_collected task.kind (coming task.vertex port task.time recs) S
      effect_collected task (notification items) = refl

      gives_say : (task : Task) (answer : Answer) (after : HallState) → Gives answers S task answer after → Says all S answer after
      gives_say task _ _ (gives out) = silent all S has_given (is_given (effect answers S task task.content) task) (effect_collected task task.content) refl tt
      gives_say task _ _ (is_stranger n) = silent all S (refused stranger) S refl refl tt

      cut_value : (e : ℕ) → S.base ≤ e → e < S.next → has_passed S e ≡ true → states_at S e ≡ states_after answers (tree_of plan) states all (e + 1 - first)
      cut_value e l h p = cuts_answer answers origin S H facts numbered laid placed inv more e l h p ∙ ap (λ q. states_after answers (tree_of q) states all (e + 1 - first)) same

      cuts_say : (o : Option ℕ) → unpassed S ≡ o → (let r : Answer × HallState = cut_by S o (S.next - 1) in Says all S r.0 r.1)
      cuts_say (Some e) h = silent all S (refused (not_passed e)) S refl refl tt
      cuts_say None h = silent all S (has_cut (S.next - 1) (states_at S (S.next - 1))) (cut_to S (S.next - 1)) refl refl (cut_value (S.next - 1) (omega (arith, inv.stands.base.1)) (omega (arith, inv.stands.base.1)) (last_passed below answers origin S H facts inv h))

      cuts_at_say : (e : ℕ) → S.base ≤ e → e < S.next → (b : Bool) → has_passed S e ≡ b → (let r : Answer × HallState = cut_at_by S b e in Says all S r.0 r.1)
      cuts_at_say e l m true h = silent all S (has_cut e (states_at S e)) (cut_to S e) refl refl (cut_value e l m h)
      cuts_at_say e l m false h = silent all S (refused (not_passed (unwrap_or (unpassed S) e))) S refl refl tt

      collect_says : Says all S (collect_step S).0 (collect_step S).1
      collect_says = record {
        rises = omega arith;
        outs = collects answers origin S H facts numbered laid placed inv more ∙ ap (λ q. map (λ e. let o : EpochOut = record { epoch = e; recs = get_or (run answers (tree_of q) states all).outs (e - first) [] } in o) (numbers_from (S.collected + 1) (length (to_collect S)))) same
            ∙ (let n : length (to_collect S) ≡ S.collected + length (to_collect S) - S.collected = omega arith in ap (λ n. map (out_at all) (numbers_from (S.collected + 1) n)) n);
        cut_is = tt;
      }

      step_says : (event : Event) (answer : Answer) (after : HallState) → Step answers S event answer after → Says all S answer after
      step_says (release batch) answer after h = subst (λ (p : Answer × HallState). Says all S p.0 p.1) h.1 (releases_say S.closed (S.next == ends) batch)
      step_says (taking s) answer after h = takes_say s answer after h
      step_says (give task) answer after h = gives_say task answer after h
      step_says collect answer after h = subst (λ (p : Answer × HallState). Says all S p.0 p.1) h collect_says
      step_says cut answer after h = subst (λ (p : Answer × HallState). Says all S p.0 p.1) h (cuts_say (unpassed S) refl)
      step_says (cut_at e) answer after h = subst (λ (p : Answer × HallState). Says all S p.0 p.1) h.2 (cuts_at_say e h.0 h.1 (has_passed S e) refl)
      step_says close answer after h = subst (λ (p : Answer × HallState). Says all S p.0 p.1) h (silent all S has_closed (record S { closed = true }) refl refl tt)

    numbers_more : (k a b : ℕ) → numbers_from k (a + b) ≡ numbers_from k a ++ numbers_from (k + a) b
    numbers_more k zero b = let z : 0 + b ≡ b = omega arith in let w : k ≡ k + 0 = omega arith in λ i. numbers_from (w i) (z i)
    numbers_more k (suc a) b =
        let z : suc a + b ≡ suc (a + b) = omega arith in let w : suc k + a ≡ k + suc a = omega arith in
        ap (numbers_from k) z ∙ ap (λ l. k ∷ l) (numbers_more (suc k) a b ∙ ap (λ n. numbers_from (suc k) a ++ numbers_from n b) w)

    pub play_says : (events : List Event) (replies : List Answer) (batches : List (List Entry)) (S : HallState) (H : History) (after : HallState) → S.plan ≡ plan → PlanFacts plan → IsNumbered 0 (tree_of plan) → AreLaid plan [] (tree_of plan) → IsPlacedTree (tree_of plan)
        → Invariant answers (record { states = states; first = first; batches = batches }) S H → Plays answers S events replies after
        → (S.collected ≤ after.collected) × (flat_map outs_by replies ≡ map (out_at (batches ++ batches_of events replies)) (numbers_from (S.collected + 1) (after.collected - S.collected))) × CutsAre answers plan states first (batches ++ batches_of events replies) replies
    play_says [] [] batches S H after same facts numbered laid placed inv p =
        let z : 0 ≡ after.collected - S.collected = let q = ap (λ (X : HallState). X.collected) p in omega (arith, q) in
        (let q = ap (λ (X : HallState). X.collected) p in omega (arith, q), ap (λ n. map (out_at (batches ++ [])) (numbers_from (S.collected + 1) n)) z, tt)
    play_says [] (answer ∷ replies) batches S H after same facts numbered laid placed inv p = absurd p
    play_says (event ∷ events) [] batches S H after same facts numbered laid placed inv p = absurd p
    play_says (event ∷ events) (answer ∷ replies) batches S H after same facts numbered laid placed inv p =
        let more : List (List Entry) = batches_of (event ∷ events) (answer ∷ replies) in
        let facts_S : PlanFacts S.plan = subst PlanFacts (sym same) facts in
        let says = step_says batches more S H same facts_S (subst (λ q. IsNumbered 0 (tree_of q)) (sym same) numbered) (subst (λ q. AreLaid q [] (tree_of q)) (sym same) laid) (subst (λ q. IsPlacedTree (tree_of q)) (sym same) placed) inv event answer p.0 p.1 in
        let g = step_goes below answers (record { states = states; first = first; batches = batches }) S H facts_S inv event answer p.0 p.1 in
        let now : Origin = record { states = states; first = first; batches = batches ++ batch_by event answer } in
        let origin_same : g.origin_then ≡ now = λ i. record { states = g.states_same i; first = g.first_same i; batches = g.batches_more i } in
        let rest = play_says events replies (batches ++ batch_by event answer) p.0 g.history_then after (g.same_hall.0 ∙ same) facts numbered laid placed (subst (λ o. Invariant answers o p.0 g.history_then) origin_same g.holds) p.2 in
        let assoc : (batches ++ batch_by event answer) ++ batches_of events replies ≡ batches ++ more = append_assoc batches (batch_by event answer) (batches_of events replies) in
        let a : ℕ = p.0.collected - S.collected in
        let b : ℕ = after.collected - p.0.collected in
        let total : a + b ≡ after.collected - S.collected = omega (arith, says.rises, rest.0) in
        let start : S.collected + 1 + a ≡ p.0.collected + 1 = omega (arith, says.rises) in (
          omega (arith, says.rises, rest.0),
          (λ i. says.outs i ++ (rest.1 ∙ ap (λ l. map (out_at l) (numbers_from (p.0.collected + 1) b)) assoc ∙ ap (λ n. map (out_at (batches ++ more)) (numbers_from n b)) (sym start)) i)
              ∙ sym (map-append (out_at (batches ++ more)) (numbers_from (S.collected + 1) a) (numbers_from (S.collected + 1 + a) b)) ∙ ap (map (out_at (batches ++ more))) (sym (numbers_more (S.collected + 1) a b) ∙ ap (numbers_from (S.collected + 1)) total),
          (says.cut_is, subst (λ l. CutsAre answers plan states first l replies) assoc rest.2),
        )

  range_alike : {X : Type 0} (f g : ℕ → X) (k m : ℕ) → ((e : ℕ) → k ≤ e → f e ≡ g e) → map f (numbers_from k m) ≡ map g (numbers_from k m)
  range_alike f g k zero h = refl
  range_alike f g k (suc m) h = λ i. h k (omega arith) i ∷ range_alike f g (suc k) m (λ e l. h e (omega (arith, l))) i

  pub numbered_by_epoch : (outs : List (List Output)) (k m : ℕ) → m ≤ length outs → numbered k (take m outs) ≡ map (λ e. let o : EpochOut = record { epoch = e; recs = get_or outs (e - k) [] } in o) (numbers_from k m)
  numbered_by_epoch outs k zero h = refl
  numbered_by_epoch [] k (suc m) h = absurd (omega (arith, h))
  numbered_by_epoch (x ∷ outs) k (suc m) h =
      let z : 0 ≡ k - k = omega arith in
      let w : k + 1 ≡ suc k = omega arith in
      (λ i. record { epoch = k; recs = get_or (x ∷ outs) (z i) [] } ∷ (ap (λ n. numbered n (take m outs)) w ∙ numbered_by_epoch outs (suc k) m (omega (arith, h))
      ∙ range_alike (λ e. let o : EpochOut = record { epoch = e; recs = get_or outs (e - suc k) [] } in o) (λ e. let o : EpochOut = record { epoch = e; recs = get_or (x ∷ outs) (e - k) [] } in o) (suc k) m
      (λ e l. let q : suc (e - suc k) ≡ e - k = omega (arith, l) in λ j. record { epoch = e; recs = get_or (x ∷ outs) (q j) [] })) i)
