-- A writer that is attached stays so, and what it published last is how far its keeper has come.
use Rattle.std.proofs.Common.{◌≡◌, ◌⊎◌, ⊎_elim, ℕ, true, List, [], ◌∷◌, refl, sym, ap, ◌∙◌, subst}
use Rattle.std.specs.Prelude.{Option, Some, None, option_map}
use Rattle.td_stamp.specs.declared.values.Entry.{Entry}
use Rattle.td_calls.specs.Answers.{Answers}
use Rattle.td_disk.specs.Disk.{DiskView}
use Rattle.td_journal.specs.declared.payload.Submitted.{Submitted as AnySubmitted}
use Rattle.td_questions.specs.declared.question.Wanted.{Wanted}
use Rattle.td_watch.specs.View.{View}
use Rattle.td_keeper.specs.declared.command.Command.{Command}
use Rattle.td_keeper.specs.declared.command.Command.TheVariants.{Submit, SubmitAs, SubmitAll, Release, Settle, Collect, NextOut, Cut, CutUpTo, Answer, WriteCut, CloseFree}
use Rattle.td_keeper.specs.declared.command.Reply.{Reply}
use Rattle.td_keeper.specs.declared.command.Reply.TheVariants.{Submitted, SubmittedAs, SubmittedAll, Released, Settled, Collected, Out, CutTaken, Answered, Written, Closed, Refused, RefusedAll}
use Rattle.td_keeper.specs.declared.receipt.Receipt.{Receipt}
use Rattle.td_keeper.specs.declared.receipt.Receipt.TheVariants.{New, Already}
use Rattle.td_keeper.specs.Received.{IsReceived}
use Rattle.td_keeper.specs.Keeping.{Keeping, HasPublished, published, words_of, with_group}
use Rattle.td_keeper.specs.Driven.{Submits, SubmitsAs, SubmitsAll, Releases, Settles, Collects, HandsOut, Cuts, Asks, Writes, ClosesFree, Obeys, Driven, Publishes}

same_watch : (w : Option View) (words : List ℕ) → option_map (λ v. v.watch) (published w words) ≡ option_map (λ v. v.watch) w
same_watch None words = refl
same_watch (Some v) words = refl

has_published : (w : Option View) (words : List ℕ) → HasPublished (published w words) words
has_published None words = tt
has_published (Some v) words = refl

module _ {D : Type 0} where
  itself : (k : Keeping D) → Publishes k k
  itself k = record { same = refl; words = λ w. w }

  next : {a b c : Keeping D} → Publishes a b → Publishes b c → Publishes a c
  next first then = record { same = then.same ∙ first.same; words = λ w. then.words (first.words w) }

  by : {old other new : Keeping D} → new ≡ other → Publishes old other → Publishes old new
  by {old = old} is same = subst (λ (k : Keeping D). Publishes old k) (sym is) same

  -- how far it has come then is published
  publishes : (old new : Keeping D) → new.watch ≡ published old.watch (words_of new) → Publishes old new
  publishes old new is = record {
    same = ap (option_map (λ v. v.watch)) is ∙ same_watch old.watch (words_of new);
    words = λ was. subst (λ (w : Option View). HasPublished w (words_of new)) (sym is) (has_published old.watch (words_of new));
  }

  by_group : (old : Keeping D) (device : D) (group : List AnySubmitted) → Publishes old (with_group old device group)
  by_group old device [] = itself old
  by_group old device (x ∷ xs) = publishes old (with_group old device (x ∷ xs)) refl

  -- what a refusal leaves in memory
  aside : {old new : Keeping D} (P Q : Type 0) → (new ≡ old) ⊎ (P × (new ≡ record old { device = new.device })) ⊎ (Q × (new ≡ record old { device = new.device; broken = true })) → Publishes old new
  aside {old = old} P Q is =
      ⊎_elim (λ same. by same (itself old))
      (λ other. ⊎_elim (λ memory. by memory.1 (record { same = refl; words = λ w. w })) (λ device. by device.1 (record { same = refl; words = λ w. w })) other) is

  received : (request : ℕ) (batch : List Entry) (receipt : Receipt) (old new : Keeping D) → IsReceived request batch receipt old new → Publishes old new
  received request batch (New epoch) old new r = by r.2 (publishes old _ refl)
  received request batch (Already last) old new r = by r.2 (itself old)

module _ {D : Type 0} (view : D → DiskView) (answers : Answers) where
  submits : (batch : List Entry) (reply : Reply) (old new : Keeping D) → Submits view answers batch reply old new → Publishes old new
  submits batch (Submitted n) old new r = by r.submitted (publishes old _ refl)
  submits batch (Refused e back) old new r = aside _ _ r.unchanged
  submits batch other old new r = absurd r

  submits_as : (request : ℕ) (batch : List Entry) (reply : Reply) (old new : Keeping D) → SubmitsAs view answers request batch reply old new → Publishes old new
  submits_as request batch (SubmittedAs receipt) old new r = received request batch receipt old new r.received
  submits_as request batch (Refused e back) old new r = aside _ _ r.refused.unchanged
  submits_as request batch other old new r = absurd r

  submits_all : (group : List AnySubmitted) (reply : Reply) (old new : Keeping D) → SubmitsAll view answers group reply old new → Publishes old new
  submits_all group (SubmittedAll n m) old new r = by r.submitted (by_group old new.device group)
  submits_all group (RefusedAll e back) old new r = aside _ _ r.unchanged
  submits_all group other old new r = absurd r

  releases : (reply : Reply) (old new : Keeping D) → Releases view answers reply old new → Publishes old new
  releases (Released n) old new r = by r.same (itself old)
  releases (Refused e b) old new r = ⊎_elim (λ foreign. by foreign.1.same (itself old)) (λ memory. by memory.1.same (itself old)) r.1
  releases other old new r = absurd r

  settles : (reply : Reply) (old new : Keeping D) → Settles view answers reply old new → Publishes old new
  settles Settled old new r = by r.same (itself old)
  settles (Refused e b) old new r = by r.1.2.same (itself old)
  settles other old new r = absurd r

  collects : (reply : Reply) (old new : Keeping D) → Collects view answers reply old new → Publishes old new
  collects (Collected n) old new r = by r.collected (publishes old _ refl)
  collects (Refused e b) old new r = ⊎_elim (λ foreign. by foreign.1.same (itself old)) (λ memory. by memory.1.same (itself old)) r.1
  collects other old new r = absurd r

  hands_out : (reply : Reply) (old new : Keeping D) → HandsOut view answers reply old new → Publishes old new
  hands_out (Out None) old new r = by r.1 (itself old)
  hands_out (Out (Some out)) old new r = by r.1 (record { same = refl; words = λ w. w })
  hands_out other old new r = absurd r

  cuts : (most : Option ℕ) (reply : Reply) (old new : Keeping D) → Cuts view answers most reply old new → Publishes old new
  cuts most (CutTaken n) old new r = by r.cut (publishes old _ refl)
  cuts most (Refused e b) old new r =
      ⊎_elim (λ foreign. by foreign.1.same (itself old))
      (λ other. ⊎_elim (λ memory. by memory.1.same (itself old)) (λ some. by some.collected (publishes old _ refl)) other) r.1
  cuts most other old new r = absurd r

  asks : (vertex : ℕ) (wanted : Wanted) (reply : Reply) (old new : Keeping D) → Asks view answers vertex wanted reply old new → Publishes old new
  asks vertex wanted (Answered m ys) old new r = by r.same (itself old)
  asks vertex wanted (Refused e b) old new r =
      ⊎_elim (λ foreign. by foreign.1.same (itself old))
      (λ other. ⊎_elim (λ memory. by memory.1.same (itself old)) (λ unpassed. by unpassed.2.same (itself old)) other) r.1
  asks vertex wanted other old new r = absurd r

  writes : (reply : Reply) (old new : Keeping D) → Writes view answers reply old new → Publishes old new
  writes (Written w) old new r = ⊎_elim (λ none. by none.2 (itself old)) (λ some. by some.1 (publishes old _ refl)) r.cut
  writes (Refused e b) old new r =
      ⊎_elim (λ many. by many.1 (record { same = refl; words = λ w. w }))
      (λ other. ⊎_elim (λ device. by device.1 (record { same = refl; words = λ w. w })) (λ same. by same (itself old)) other) r.unchanged
  writes other old new r = absurd r

  closes : (most : ℕ) (reply : Reply) (old new : Keeping D) → ClosesFree view answers most reply old new → Publishes old new
  closes most Closed old new r = by r.same (record { same = refl; words = λ w. w })
  closes most (Refused e b) old new r = ⊎_elim (λ same. by same (itself old)) (λ device. by device.1 (record { same = refl; words = λ w. w })) r.unchanged
  closes most other old new r = absurd r

  obeys : (command : Command) (reply : Reply) (old new : Keeping D) → Obeys view answers command reply old new → Publishes old new
  obeys (Submit batch) reply old new is = submits batch reply old new is.0
  obeys (SubmitAs request batch) reply old new is = submits_as request batch reply old new is.0
  obeys (SubmitAll group) reply old new is = submits_all group reply old new is.0
  obeys Release reply old new is = releases reply old new is
  obeys Settle reply old new is = settles reply old new is
  obeys Collect reply old new is = collects reply old new is
  obeys NextOut reply old new is = hands_out reply old new is
  obeys Cut reply old new is = cuts None reply old new is
  obeys (CutUpTo most) reply old new is = cuts (Some most) reply old new is
  obeys (Answer vertex wanted) reply old new is = asks vertex wanted reply old new is
  obeys WriteCut reply old new is = writes reply old new is.0
  obeys (CloseFree most) reply old new is = closes most reply old new is.0

  pub driven_publishes : (commands : List Command) (replies : List Reply) (old new : Keeping D) → Driven view answers commands replies old new → Publishes old new
  driven_publishes [] [] old new is = by is (itself old)
  driven_publishes [] (reply ∷ replies) old new is = absurd is
  driven_publishes (command ∷ commands) [] old new is = absurd is
  driven_publishes (command ∷ commands) (reply ∷ replies) old new is = next (obeys command reply old is.0 is.2) (driven_publishes commands replies is.0 new is.3)
