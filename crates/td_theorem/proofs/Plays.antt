-- How far plays go: each release takes the next number; where every released epoch has passed, a collect answers all that is left.
use Rattle.std.proofs.Common.{◌≡◌, ℕ, zero, suc, ◌+◌, ◌-◌, ◌<◌, ◌≤◌, Bool, true, false, cond, List, [], ◌∷◌, length, filter, refl, sym, ap, ◌∙◌, subst, arith}
use Rattle.std.specs.Prelude.{Option, Some, None, ◌==◌}
use Rattle.std.proofs.lemmas.List.{length-append}
use Rattle.td_stamp.specs.declared.values.Entry.{Entry}
use Rattle.td_plan.specs.declared.vertex.Kind.{Kind}
use Rattle.td_calls.specs.Answers.{Answers}
use Rattle.td_batch.specs.Flow.{numbers_from}
use Rattle.td_machine.specs.declared.records.Message.{Message}
use Rattle.td_machine.specs.State.{HallState, Content, Task}
use Rattle.td_machine.specs.State.Content.{messages, notification}
use Rattle.td_machine.specs.Active.{has_passed, unpassed}
use Rattle.td_machine.specs.Steps.{Event, Answer, Step, Plays, Takes, Gives, release_by, collect_step, cut_by, cut_at_by, delivered, all_delivered, effect, coming, ends}
use Rattle.td_machine.specs.Steps.Event.{release, taking, give, collect, cut, cut_at, close}
use Rattle.td_machine.specs.Steps.Takes.{is_busy, has_none, is_spent, takes}
use Rattle.td_machine.specs.Steps.Gives.{gives, is_stranger}
use Rattle.td_machine.specs.Sound.{batch_by, batches_of as released}

-- after a release
release_next : (S : HallState) (batch : List Entry) (closed at_end : Bool)
    → (release_by S closed at_end batch).1.next ≡ S.next + length (batch_by (release batch) (release_by S closed at_end batch).0)
release_next S batch true at_end = omega arith
release_next S batch false true = omega arith
release_next S batch false false = omega arith

-- other calls leave the number
takes_next : (S : HallState) (s : ℕ) (answer : Answer) (after : HallState) → Takes S s answer after → after.next ≡ S.next
takes_next S s _ _ (is_busy out) = refl
takes_next S s _ _ (has_none out none) = refl
takes_next S s _ _ (is_spent out task may spent) = refl
takes_next S s _ _ (takes out task may room) = refl

cut_next : (S : HallState) (first : Option ℕ) (last : ℕ) → (cut_by S first last).1.next ≡ S.next
cut_next S None last = refl
cut_next S (Some e) last = refl

cut_at_next : (S : HallState) (passed : Bool) (e : ℕ) → (cut_at_by S passed e).1.next ≡ S.next
cut_at_next S true e = refl
cut_at_next S false e = refl

module _ (answers : Answers) where
  delivered_next : (kind : Kind) (cs : List Message) (S : HallState) → (all_delivered answers kind S cs).next ≡ S.next
  delivered_next kind [] S = refl
  delivered_next kind (c ∷ cs) S = delivered_next kind cs (delivered answers S kind c)

  effect_next : (S : HallState) (task : Task) (content : Content) → (effect answers S task content).next ≡ S.next
  effect_next S task (messages port recs) = delivered_next task.kind (coming task.vertex port task.time recs) S
  effect_next S task (notification items) = refl

  gives_next : (S : HallState) (task : Task) (answer : Answer) (after : HallState) → Gives answers S task answer after → after.next ≡ S.next
  gives_next S task _ _ (gives out) = effect_next S task task.content
  gives_next S task _ _ (is_stranger not_out) = refl

  -- what a step with no release leaves
  same : (a b : ℕ) → a ≡ b → a ≡ b + 0
  same a b is = omega (arith, is)

  step_next : (S : HallState) (event : Event) (answer : Answer) (after : HallState) → Step answers S event answer after → after.next ≡ S.next + length (batch_by event answer)
  step_next S (release batch) answer after step =
      subst (λ (p : Answer × HallState). p.1.next ≡ S.next + length (batch_by (release batch) p.0)) step.1 (release_next S batch S.closed (S.next == ends))
  step_next S (taking s) answer after step = same after.next S.next (takes_next S s answer after step)
  step_next S (give task) answer after step = same after.next S.next (gives_next S task answer after step)
  step_next S collect answer after step = same after.next S.next (ap (λ (p : Answer × HallState). p.1.next) (sym step))
  step_next S cut answer after step = same after.next S.next (ap (λ (p : Answer × HallState). p.1.next) (sym step) ∙ cut_next S (unpassed S) (S.next - 1))
  step_next S (cut_at e) answer after step = same after.next S.next (ap (λ (p : Answer × HallState). p.1.next) (sym step.2) ∙ cut_at_next S (has_passed S e) e)
  step_next S close answer after step = same after.next S.next (ap (λ (p : Answer × HallState). p.1.next) (sym step))

  -- A PLAY gives each batch that it releases the next number
  pub next_of : (S T : HallState) (events : List Event) (replies : List Answer) → Plays answers S events replies T → T.next ≡ S.next + length (released events replies)
  next_of S T [] [] is = same T.next S.next (ap (λ (h : HallState). h.next) is)
  next_of S T [] (a ∷ replies) none = absurd none
  next_of S T (e ∷ events) [] none = absurd none
  next_of S T (e ∷ events) (a ∷ replies) played =
      let first = step_next S e a played.0 played.1 in
      let later = next_of played.0 T events replies played.2 in
      let n = length-append (batch_by e a) (released events replies) in
      omega (arith, first, later, n)

-- of numbers below one, of all of which something holds, a filter leaves all
kept : (p : ℕ → Bool) (m k n : ℕ) → n ≤ m - k → ((i : ℕ) → i < m → p i ≡ true) → length (filter p (numbers_from k n)) ≡ n
kept p m k zero few all = refl
kept p m k (suc n) few all =
    ap (λ (b : Bool). length (cond b (k ∷ filter p (numbers_from (suc k) n)) (filter p (numbers_from (suc k) n)))) (all k (omega (arith, few)))
    ∙ ap suc (kept p m (suc k) n (omega (arith, few)) all)

-- A COLLECT where every epoch that was released has passed goes as far as they
pub all_collected : (S : HallState) → ((e : ℕ) → e < S.next → has_passed S e ≡ true) → S.next ≤ (collect_step S).1.collected + 1
all_collected S passed =
    let n = kept (has_passed S) S.next (S.collected + 1) (S.next - (S.collected + 1)) (omega arith) passed in
    omega (arith, n)
