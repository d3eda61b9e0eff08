-- Plays after one another.
use Rattle.std.proofs.Common.{◌≡◌, ℕ, ◌+◌, List, [], ◌∷◌, ◌++◌, refl, ap, sym, ◌∙◌, subst, arith}
use Rattle.std.proofs.lemmas.List.{append_assoc}
use Rattle.td_calls.specs.Answers.{Answers}
use Rattle.td_machine.specs.State.{HallState, Content}
use Rattle.td_machine.specs.Steps.{Event, Answer, Step, Plays}
use Rattle.td_machine.specs.Sound.{batch_by, batches_of}
use Rattle.td_machine.specs.Tally.{tally}
use Rattle.td_machine.specs.Reached.{IsReached}

module _ (answers : Answers) where
  pub plays_joined : (S T U : HallState) (events more : List Event) (replies others : List Answer)
      → Plays answers S events replies T → Plays answers T more others U → Plays answers S (events ++ more) (replies ++ others) U
  plays_joined S T U [] more [] others p q = subst (λ X. Plays answers X more others U) p q
  plays_joined S T U [] more (answer ∷ replies) others p q = absurd p
  plays_joined S T U (event ∷ events) more [] others p q = absurd p
  plays_joined S T U (event ∷ events) more (answer ∷ replies) others p q = (p.0, p.1, plays_joined p.0 T U events more replies others p.2 q)

  pub batches_joined : (S T : HallState) (events more : List Event) (replies others : List Answer)
      → Plays answers S events replies T → batches_of (events ++ more) (replies ++ others) ≡ batches_of events replies ++ batches_of more others
  batches_joined S T [] more [] others p = refl
  batches_joined S T [] more (answer ∷ replies) others p = absurd p
  batches_joined S T (event ∷ events) more [] others p = absurd p
  batches_joined S T (event ∷ events) more (answer ∷ replies) others p =
      ap (λ l. batch_by event answer ++ l) (batches_joined p.0 T events more replies others p.2) ∙ sym (append_assoc (batch_by event answer) (batches_of events replies) (batches_of more others))

  pub tally_joined : (many : Content → ℕ) (S T : HallState) (events more : List Event) (replies others : List Answer)
      → Plays answers S events replies T → tally many (events ++ more) (replies ++ others) ≡ tally many events replies + tally many more others
  tally_joined many S T [] more [] others p = omega arith
  tally_joined many S T [] more (answer ∷ replies) others p = absurd p
  tally_joined many S T (event ∷ events) more [] others p = absurd p
  tally_joined many S T (event ∷ events) more (answer ∷ replies) others p = let rest = tally_joined many p.0 T events more replies others p.2 in omega (arith, rest)

  pub step_reached : (S T : HallState) (event : Event) (answer : Answer) → IsReached answers S → Step answers S event answer T → IsReached answers T
  step_reached S T event answer r s = record {
    plan = r.plan;
    states = r.states;
    first = r.first;
    workers = r.workers;
    events = r.events ++ event ∷ [];
    replies = r.replies ++ answer ∷ [];
    lawful = r.lawful;
    ordered = r.ordered;
    from_one = r.from_one;
    some_worker = r.some_worker;
    plays = plays_joined _ S T r.events (event ∷ []) r.replies (answer ∷ []) r.plays (T, s, refl);
  }
