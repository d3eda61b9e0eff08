-- How far a keeper keeps.
use Rattle.std.proofs.Common.{◌≡◌, ◌⊎◌, ⊎_elim, ℕ, ◌≤◌, ◌<◌, nat_lt, Bool, true, false, List, [], ◌∷◌, ◌++◌, refl, sym, ap, ◌∙◌, subst, arith}
use Rattle.std.specs.Prelude.{Option, Some, None, max, min}
use Rattle.std.proofs.Math.Nat.{le-max_left, le-max_right, max-eq_left, max-eq_right, min-le_left}
use Rattle.std.proofs.lemmas.Bool.{ltb-true, ltb-false}
use Rattle.td_stamp.specs.declared.values.Entry.{Entry}
use Rattle.td_calls.specs.Answers.{Answers}
use Rattle.td_disk.specs.Disk.{DiskView}
use Rattle.td_journal.specs.declared.payload.Submitted.{Submitted as AnySubmitted}
use Rattle.td_questions.specs.declared.question.Wanted.{Wanted}
use Rattle.td_keeper.specs.declared.command.Command.{Command}
use Rattle.td_keeper.specs.declared.command.Command.TheVariants.{Submit, SubmitAs, SubmitAll, Release, Settle, Collect, NextOut, Cut, CutUpTo, Answer, WriteCut, CloseFree}
use Rattle.td_keeper.specs.declared.command.Reply.{Reply}
use Rattle.td_keeper.specs.declared.command.Reply.TheVariants.{Submitted, SubmittedAs, SubmittedAll, Released, Settled, Collected, Out, CutTaken, Answered, Written, Closed, Refused, RefusedAll}
use Rattle.td_keeper.specs.declared.receipt.Receipt.{Receipt}
use Rattle.td_keeper.specs.declared.receipt.Receipt.TheVariants.{New, Already}
use Rattle.td_keeper.specs.Received.{IsReceived}
use Rattle.td_keeper.specs.Keeping.{Keeping, with_group}
use Rattle.td_keeper.specs.Halls.{last_passed}
use Rattle.td_keeper.specs.Driven.{Submits, SubmitsAs, SubmitsAll, Releases, Settles, Collects, HandsOut, Cuts, Asks, Writes, ClosesFree, Obeys, cutting}
use Rattle.td_orders.specs.declared.order.Order.{Order}
use Rattle.td_orders.specs.declared.order.Order.TheVariants as order
use Rattle.td_feed.specs.Carried.{batch_in, is_resting}
use Rattle.td_feed.specs.Held.{seen_then, seen_after, then_seen, SameBase, GoesUpTo, KeepsTo, MovesBase}
use Rattle.td_feed.proofs.Lines.{is_quiet}

-- the greater of two is at most what both are
max_at_most : (a b c : ℕ) → a ≤ c → b ≤ c → max a b ≤ c
max_at_most a b c first second = by (nat_lt a b) refl
  where
    by : (t : Bool) → nat_lt a b ≡ t → max a b ≤ c
    by true is = let less : a < b = ltb-true a b is in subst (λ (n : ℕ). n ≤ c) (sym (max-eq_right (omega (arith, less)))) second
    by false is = let least : b ≤ a = ltb-false a b is in subst (λ (n : ℕ). n ≤ c) (sym (max-eq_left least)) first

-- WHAT WAS SEEN, after more orders
seen_more : (a b : ℕ) (o : Order) → a ≤ b → seen_then a o ≤ seen_then b o
seen_more a b (order.Seen line epoch) less =
    let left = le-max_left b epoch in
    let right = le-max_right b epoch in
    max_at_most a epoch (max b epoch) (omega (arith, left, less)) right
seen_more a b (order.Submit batch) less = less
seen_more a b (order.SubmitAs request batch) less = less
seen_more a b (order.SubmitAt place request batch) less = less
seen_more a b order.Cut less = less
seen_more a b (order.Say note) less = less
seen_more a b (order.Answer vertex wanted) less = less
seen_more a b (order.Copy copy) less = less

pub seen_further : (a b : ℕ) (orders : List Order) → a ≤ b → seen_after a orders ≤ seen_after b orders
seen_further a b [] less = less
seen_further a b (o ∷ orders) less = seen_further (seen_then a o) (seen_then b o) orders (seen_more a b o less)

seen_one : (a : ℕ) (o : Order) → a ≤ seen_then a o
seen_one a (order.Seen line epoch) = le-max_left a epoch
seen_one a (order.Submit batch) = omega arith
seen_one a (order.SubmitAs request batch) = omega arith
seen_one a (order.SubmitAt place request batch) = omega arith
seen_one a order.Cut = omega arith
seen_one a (order.Say note) = omega arith
seen_one a (order.Answer vertex wanted) = omega arith
seen_one a (order.Copy copy) = omega arith

pub seen_on : (a : ℕ) (orders : List Order) → a ≤ seen_after a orders
seen_on a [] = omega arith
seen_on a (o ∷ orders) =
    let one = seen_one a o in
    let more = seen_on (seen_then a o) orders in
    omega (arith, one, more)

pub seen_append : (a : ℕ) (xs ys : List Order) → seen_after a (xs ++ ys) ≡ seen_after (seen_after a xs) ys
seen_append a [] ys = refl
seen_append a (o ∷ xs) ys = seen_append (seen_then a o) xs ys

module _ {D : Type 0} where
  pub base_itself : (k : Keeping D) → SameBase k k
  base_itself k = record { plan = refl; head = refl; base = refl }

  pub base_then : {a b c : Keeping D} → SameBase a b → SameBase b c → SameBase a c
  base_then first next = record { plan = next.plan ∙ first.plan; head = next.head ∙ first.head; base = next.base ∙ first.base }

  pub up_to_then : (seen : ℕ) {a b c : Keeping D} → GoesUpTo seen a b → GoesUpTo seen b c → GoesUpTo seen a c
  up_to_then seen first next = record { plan = next.plan ∙ first.plan; base = λ last up low. next.base last up (first.base last up low) }

  pub up_to_same : (seen : ℕ) {a b : Keeping D} → SameBase a b → GoesUpTo seen a b
  up_to_same seen same = record { plan = same.plan; base = λ last up low. omega (arith, same.base, low) }

  pub up_to_further : (seen next : ℕ) {a b : Keeping D} → seen ≤ next → GoesUpTo seen a b → GoesUpTo next a b
  up_to_further seen next more goes = record { plan = goes.plan; base = λ last up low. goes.base last (omega (arith, more, up)) low }

  pub keeps_same : (seen : Option ℕ) {a b : Keeping D} → SameBase a b → KeepsTo seen a b
  keeps_same None same = tt
  keeps_same (Some seen) same = up_to_same seen same

  pub keeps_then : (seen : Option ℕ) (a b c : Keeping D) → KeepsTo seen a b → KeepsTo seen b c → KeepsTo seen a c
  keeps_then None a b c first next = tt
  keeps_then (Some seen) a b c first next = up_to_then seen first next

  -- up to what more orders say was seen
  pub keeps_on : (seen : Option ℕ) (orders : List Order) (a b : Keeping D) → KeepsTo seen a b → KeepsTo (then_seen seen orders) a b
  keeps_on None orders a b keeps = tt
  keeps_on (Some seen) orders a b keeps = up_to_further seen (seen_after seen orders) (seen_on seen orders) keeps

  -- a cut is taken up to what was seen
  pub cut_keeps : (seen : Option ℕ) (a b : Keeping D) → MovesBase (cutting seen) a b → KeepsTo seen a b
  cut_keeps None a b moves = tt
  cut_keeps (Some seen) a b moves = moves

  pub by : {old other new : Keeping D} → new ≡ other → SameBase old other → SameBase old new
  by {old = old} is same = subst (λ (k : Keeping D). SameBase old k) (sym is) same

  by_group : (old : Keeping D) (device : D) (group : List AnySubmitted) → SameBase old (with_group old device group)
  by_group old device [] = record { plan = refl; head = refl; base = refl }
  by_group old device (x ∷ xs) = record { plan = refl; head = refl; base = refl }

  -- what a refusal leaves in memory
  aside : {old new : Keeping D} (P Q : Type 0) → (new ≡ old) ⊎ (P × (new ≡ record old { device = new.device })) ⊎ (Q × (new ≡ record old { device = new.device; broken = true })) → SameBase old new
  aside {old = old} P Q is =
      ⊎_elim (λ same. by same (base_itself old))
      (λ other. ⊎_elim (λ memory. by memory.1 (record { plan = refl; head = refl; base = refl })) (λ device. by device.1 (record { plan = refl; head = refl; base = refl })) other) is

  received : (request : ℕ) (batch : List Entry) (receipt : Receipt) (old new : Keeping D) → IsReceived request batch receipt old new → SameBase old new
  received request batch (New epoch) old new r = by r.2 (record { plan = refl; head = refl; base = refl })
  received request batch (Already last) old new r = by r.2 (base_itself old)

pub cut_is_quiet : (seen : Option ℕ) → is_quiet (cutting seen) ≡ true
cut_is_quiet None = refl
cut_is_quiet (Some epoch) = refl

pub cut_is_resting : (seen : Option ℕ) → is_resting (cutting seen) ≡ true
cut_is_resting None = refl
cut_is_resting (Some epoch) = refl

pub cut_submits_none : (seen : Option ℕ) → batch_in (cutting seen) ≡ []
cut_submits_none None = refl
cut_submits_none (Some epoch) = refl

module _ {D : Type 0} (view : D → DiskView) (answers : Answers) where
  submits : (batch : List Entry) (reply : Reply) (old new : Keeping D) → Submits view answers batch reply old new → SameBase old new
  submits batch (Submitted n) old new r = by r.submitted (record { plan = refl; head = refl; base = refl })
  submits batch (Refused e back) old new r = aside _ _ r.unchanged
  submits batch other old new r = absurd r

  submits_as : (request : ℕ) (batch : List Entry) (reply : Reply) (old new : Keeping D) → SubmitsAs view answers request batch reply old new → SameBase old new
  submits_as request batch (SubmittedAs receipt) old new r = received request batch receipt old new r.received
  submits_as request batch (Refused e back) old new r = aside _ _ r.refused.unchanged
  submits_as request batch other old new r = absurd r

  submits_all : (group : List AnySubmitted) (reply : Reply) (old new : Keeping D) → SubmitsAll view answers group reply old new → SameBase old new
  submits_all group (SubmittedAll n m) old new r = by r.submitted (by_group old new.device group)
  submits_all group (RefusedAll e back) old new r = aside _ _ r.unchanged
  submits_all group other old new r = absurd r

  releases : (reply : Reply) (old new : Keeping D) → Releases view answers reply old new → SameBase old new
  releases (Released n) old new r = by r.same (base_itself old)
  releases (Refused e b) old new r = ⊎_elim (λ foreign. by foreign.1.same (base_itself old)) (λ memory. by memory.1.same (base_itself old)) r.1
  releases other old new r = absurd r

  settles : (reply : Reply) (old new : Keeping D) → Settles view answers reply old new → SameBase old new
  settles Settled old new r = by r.same (base_itself old)
  settles (Refused e b) old new r = by r.1.2.same (base_itself old)
  settles other old new r = absurd r

  collects : (reply : Reply) (old new : Keeping D) → Collects view answers reply old new → SameBase old new
  collects (Collected n) old new r = by r.collected (record { plan = refl; head = refl; base = refl })
  collects (Refused e b) old new r = ⊎_elim (λ foreign. by foreign.1.same (base_itself old)) (λ memory. by memory.1.same (base_itself old)) r.1
  collects other old new r = absurd r

  pub hands_out : (reply : Reply) (old new : Keeping D) → HandsOut view answers reply old new → SameBase old new
  hands_out (Out None) old new r = by r.1 (base_itself old)
  hands_out (Out (Some out)) old new r = by r.1 (record { plan = refl; head = refl; base = refl })
  hands_out other old new r = absurd r

  asks : (vertex : ℕ) (wanted : Wanted) (reply : Reply) (old new : Keeping D) → Asks view answers vertex wanted reply old new → SameBase old new
  asks vertex wanted (Answered m ys) old new r = by r.same (base_itself old)
  asks vertex wanted (Refused e b) old new r =
      ⊎_elim (λ foreign. by foreign.1.same (base_itself old))
      (λ other. ⊎_elim (λ memory. by memory.1.same (base_itself old)) (λ unpassed. by unpassed.2.same (base_itself old)) other) r.1
  asks vertex wanted other old new r = absurd r

  writes : (reply : Reply) (old new : Keeping D) → Writes view answers reply old new → SameBase old new
  writes (Written w) old new r = ⊎_elim (λ none. by none.2 (base_itself old)) (λ some. by some.1 (record { plan = refl; head = refl; base = refl })) r.cut
  writes (Refused e b) old new r =
      ⊎_elim (λ many. by many.1 (record { plan = refl; head = refl; base = refl }))
      (λ other. ⊎_elim (λ device. by device.1 (record { plan = refl; head = refl; base = refl })) (λ same. by same (base_itself old)) other) r.unchanged
  writes other old new r = absurd r

  closes : (most : ℕ) (reply : Reply) (old new : Keeping D) → ClosesFree view answers most reply old new → SameBase old new
  closes most Closed old new r = by r.same (record { plan = refl; head = refl; base = refl })
  closes most (Refused e b) old new r = ⊎_elim (λ same. by same (base_itself old)) (λ device. by device.1 (record { plan = refl; head = refl; base = refl })) r.unchanged
  closes most other old new r = absurd r

  -- a cut that is taken at no later epoch goes no further
  cuts : (most : ℕ) (reply : Reply) (old new : Keeping D) → Cuts view answers (Some most) reply old new → GoesUpTo most old new
  cuts most (CutTaken n) old new r = record {
    plan = ap (λ (k : Keeping D). k.plan) r.cut;
    base = λ last up low.
        let own = r.brings.own.base in
        let place : n ≡ max r.hall.base (min most (last_passed r.hall)) = r.place in
        let least = min-le_left most (last_passed r.hall) in
        let at : max r.hall.base (min most (last_passed r.hall)) ≤ last = max_at_most r.hall.base (min most (last_passed r.hall)) last (omega (arith, own, low)) (omega (arith, least, up)) in
        omega (arith, r.base, place, at);
  }
  cuts most (Refused e b) old new r =
      up_to_same most
      (⊎_elim (λ foreign. by foreign.1.same (base_itself old))
      (λ other. ⊎_elim (λ memory. by memory.1.same (base_itself old)) (λ some. by some.collected (record { plan = refl; head = refl; base = refl })) other) r.1)
  cuts most other old new r = absurd r

  -- ONE COMMAND
  pub moves : (command : Command) (reply : Reply) (old new : Keeping D) → Obeys view answers command reply old new → MovesBase command old new
  moves (Submit batch) reply old new obeys = submits batch reply old new obeys.0
  moves (SubmitAs request batch) reply old new obeys = submits_as request batch reply old new obeys.0
  moves (SubmitAll group) reply old new obeys = submits_all group reply old new obeys.0
  moves Release reply old new obeys = releases reply old new obeys
  moves Settle reply old new obeys = settles reply old new obeys
  moves Collect reply old new obeys = collects reply old new obeys
  moves NextOut reply old new obeys = hands_out reply old new obeys
  moves Cut reply old new obeys = tt
  moves (Answer vertex wanted) reply old new obeys = asks vertex wanted reply old new obeys
  moves (CutUpTo most) reply old new obeys = cuts most reply old new obeys
  moves WriteCut reply old new obeys = writes reply old new obeys.0
  moves (CloseFree most) reply old new obeys = closes most reply old new obeys.0
