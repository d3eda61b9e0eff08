-- Where no task may be taken, every released epoch has passed.
use Rattle.std.proofs.Common.{◌≡◌, ℕ, zero, suc, ◌+◌, ◌<◌, Bool, true, false, List, [], ◌∷◌, ◌++◌, length, map, refl, ap, sym, ◌∙◌, subst, arith}
use Rattle.std.specs.Prelude.{Some, None, Contains}
use Rattle.std.specs.List.{AllByRecursion, slice_get}
use Rattle.std.proofs.lemmas.List.{length-map}
use Rattle.td_stamp.specs.Bag.{bag_of}
use Rattle.td_plan.specs.Lines.{Line}
use Rattle.td_calls.specs.Answers.{Answers}
use Rattle.td_reach.specs.declared.stamp.Stamp.{Stamp}
use Rattle.td_reach.specs.Paths.{Could, IsOf}
use Rattle.td_reach.specs.Laws.{IsLeast}
use Rattle.td_machine.specs.declared.records.Message.{Message}
use Rattle.td_machine.specs.declared.records.Notification.{Notification}
use Rattle.td_machine.specs.State.{HallState, Task, message_cmp, shard_of_key}
use Rattle.td_machine.specs.State.Content.{messages, notification}
use Rattle.td_machine.specs.Active.{kind_of, inputs_of, active, has_passed, IsFree, stamp_of_message, stamp_of_asked, stamp_of_input, stamps_of_inputs}
use Rattle.td_machine.specs.Steps.{Answer, MayTake, Takes, to_notify}
use Rattle.td_machine.specs.Steps.Answer.{has_taken}
use Rattle.td_machine.specs.Steps.Takes.{is_busy, has_none, is_spent, takes}
use Rattle.td_machine.proofs.History.{Origin, History, Invariant}
use Rattle.td_machine.proofs.Lists.{get_left, all_app, all_map, all_everywhere, all_weaken}
use Rattle.td_machine.proofs.Delivered.{to_active}
use Rattle.td_machine.proofs.Plain.{passed_from}
use Rattle.td_machine.proofs.OfPlan.{has_at, own_shard, good}
use Rattle.td_machine.specs.Below.{Below}

module _ (below : Below) where
  -- no task may be taken where none is answered
  pub none_may : (S : HallState) (s : ℕ) (answer : Answer) (after : HallState) → Takes S s answer after → answer ≡ has_taken None → (task : Task) → MayTake S s task → ⊥
  none_may S s _ _ (is_busy b) e task may = cc
  none_may S s _ _ (has_none out none) e task may = none task may
  none_may S s _ _ (is_spent out t m full) e task may = cc
  none_may S s _ _ (takes out t m room) e task may = cc

  contains_at : {X : Type 0} (xs : List X) (i : ℕ) (x : X) → slice_get xs i ≡ Some x → Contains xs x
  contains_at [] i x h = absurd (cc)
  contains_at (y ∷ xs) zero x h = (0, omega arith, (let same : y ≡ x = cc in same))
  contains_at (y ∷ xs) (suc i) x h = let r = contains_at xs i x h in (suc r.0, (let l = r.1 in omega (arith, l)), r.2)

  -- an element of a list that was mapped
  record FromMap (xs : List Notification) (i : ℕ) (p : Stamp) : Type 0 where
    of : Notification
    at : slice_get xs i ≡ Some of
    is : stamp_of_asked of ≡ p

  from_mapped : (xs : List Notification) (i : ℕ) (p : Stamp) → slice_get (map stamp_of_asked xs) i ≡ Some p → FromMap xs i p
  from_mapped [] i p h = absurd (cc)
  from_mapped (x ∷ xs) zero p h = record { of = x; at = refl; is = (let same : stamp_of_asked x ≡ p = cc in same) }
  from_mapped (x ∷ xs) (suc i) p h = let r = from_mapped xs i p h in record { of = r.of; at = r.at; is = r.is }

  at_all : (P : Stamp → Type 0) (xs : List Stamp) → ((i : ℕ) (q : Stamp) → slice_get xs i ≡ Some q → P q) → AllByRecursion P xs
  at_all P [] h = tt
  at_all P (x ∷ xs) h = (h 0 x refl, at_all P xs (λ i q at. h (suc i) q at))

  inputs_next : (plan : List Line) (next : ℕ) (closed : Bool) → AllByRecursion (λ (p : Stamp). p.time.epoch ≡ next) (stamps_of_inputs plan next closed)
  inputs_next plan next true = tt
  inputs_next plan next false = all_map (λ (p : Stamp). p.time.epoch ≡ next) (stamp_of_input next) (inputs_of plan) (all_everywhere (λ v. next ≡ next) (λ v. refl) (inputs_of plan))

  module _ (answers : Answers) (origin : Origin) (S : HallState) (H : History) (inv : Invariant answers origin S H) (idle : (s : ℕ) → s < S.workers → (task : Task) → MayTake S s task → ⊥) where
    -- no message is left
    no_messages : S.messages ≡ []
    no_messages = by S.messages refl
      where
        by : (ms : List Message) → S.messages ≡ ms → S.messages ≡ []
        by [] e = e
        by (c ∷ ms) e = absurd (idle (shard_of_key S.workers c.rec.key) (own_shard below answers origin S H inv c.rec.key)
            (record { shard = shard_of_key S.workers c.rec.key; number = S.taken + 1; vertex = c.vertex; time = c.time; kind = kind_of S.plan c.vertex; content = messages c.port (c.rec ∷ []) })
            (record { shard = refl; number = refl; kind = refl; content = (omega arith, omega arith, (refl, tt), (bag_of message_cmp ms, sym inv.running.messages_bag ∙ ap (bag_of message_cmp) e)) }))

    -- none is asked
    none_asked : S.asked ≡ []
    none_asked = by S.asked refl
      where
        stuck : 0 < length S.asked → ⊥
        stuck some = idle a.shard (good below answers origin S H inv a (has_at S.asked l.place a f.at)).2
            (record { shard = a.shard; number = S.taken + 1; vertex = a.vertex; time = a.time; kind = kind_of S.plan a.vertex; content = notification (to_notify S a.shard a.vertex a.time) })
            (record { shard = refl; number = refl; kind = refl; content = (has_at S.asked l.place a f.at, record { is_active = is_active; is_free = is_free }, refl) })
          where
            all : List Stamp
            all = map stamp_of_asked S.asked

            of_plan : (i : ℕ) (p : Stamp) → slice_get all i ≡ Some p → IsOf S.plan p
            of_plan i p at = let r = from_mapped S.asked i p at in subst (IsOf S.plan) r.is (good below answers origin S H inv r.of (has_at S.asked i r.of r.at)).0

            least : (p : Stamp) × IsLeast S.plan all p
            least = below.some_least S.plan inv.stands.plan all (let n = length-map S.asked stamp_of_asked in omega (arith, some, n)) of_plan

            l : IsLeast S.plan all least.0
            l = least.1

            f : FromMap S.asked l.place least.0
            f = from_mapped S.asked l.place least.0 l.is

            a : Notification
            a = f.of

            at : slice_get all l.place ≡ Some (stamp_of_asked a)
            at = l.is ∙ ap Some (sym f.is)

            is_active : Contains (active S) (stamp_of_asked a)
            is_active = subst (λ ms. Contains (map (stamp_of_message S.plan) ms ++ (map stamp_of_asked S.asked ++ stamps_of_inputs S.plan S.next S.closed)) (stamp_of_asked a)) (sym no_messages)
                (contains_at (all ++ stamps_of_inputs S.plan S.next S.closed) l.place (stamp_of_asked a) (get_left all (stamps_of_inputs S.plan S.next S.closed) l.place (stamp_of_asked a) at))

            Is : Stamp → Type 0
            Is q = ((q ≡ stamp_of_asked a) → ⊥) → Could S.plan q (stamp_of_asked a) → ⊥

            soon : a.time.epoch < S.next
            soon = (good below answers origin S H inv a (has_at S.asked l.place a f.at)).1

            is_free : IsFree S (stamp_of_asked a)
            is_free = subst (λ ms. AllByRecursion Is (map (stamp_of_message S.plan) ms ++ (map stamp_of_asked S.asked ++ stamps_of_inputs S.plan S.next S.closed))) (sym no_messages)
                (all_app Is all (stamps_of_inputs S.plan S.next S.closed)
                (at_all Is all (λ i q h other could. other (l.least i q h (subst (Could S.plan q) f.is could) ∙ sym f.is)))
                (all_weaken (λ (p : Stamp). p.time.epoch ≡ S.next) Is (λ p e other could. let early = below.epochs S.plan p (stamp_of_asked a) could in absurd (omega (arith, early, e, soon))) (stamps_of_inputs S.plan S.next S.closed) (inputs_next S.plan S.next S.closed)))

        by : (xs : List Notification) → S.asked ≡ xs → S.asked ≡ []
        by [] e = e
        by (x ∷ xs) e = absurd (stuck (subst (λ ys. 0 < length ys) (sym e) (omega arith)))

    pub all_pass : (e : ℕ) → e < S.next → has_passed S e ≡ true
    all_pass e h =
        let P : Stamp → Type 0 = λ p. e < p.time.epoch in
        passed_from below answers origin S H e (to_active below S P (
          subst (AllByRecursion (λ c. P (stamp_of_message S.plan c))) (sym no_messages) tt,
          subst (AllByRecursion (λ a. P (stamp_of_asked a))) (sym none_asked) tt,
          all_weaken (λ (p : Stamp). p.time.epoch ≡ S.next) P (λ p n. omega (arith, n, h)) (stamps_of_inputs S.plan S.next S.closed) (inputs_next S.plan S.next S.closed),
        ))
