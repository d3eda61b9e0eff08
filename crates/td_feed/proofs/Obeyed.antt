-- Orders that were obeyed, one after another, of a script that may be known.
use Rattle.std.proofs.Common.{◌≡◌, ℕ, zero, suc, arith, Bool, false, List, [], ◌∷◌, ◌++◌, refl, sym, ap, ◌∙◌, subst, append-nil, append_assoc}
use Rattle.std.specs.Prelude.{Option, Some, None, Result, Ok, Err, OnOk}
use Rattle.std.proofs.lemmas.Option.{IfSome_then}
use Rattle.std.specs.Option.{IfSome}
use Rattle.td_calls.specs.Answers.{Answers}
use Rattle.td_disk.specs.Disk.{DiskView}
use Rattle.td_journal.specs.declared.payload.Submitted.{Submitted}
use Rattle.td_journal.specs.Numbers.{greatest}
use Rattle.td_stamp.specs.declared.values.Entry.{Entry}
use Rattle.td_store.specs.standing.Standing.{last_request, submission}
use Rattle.td_store.specs.standing.Stops.{Begins}
use Rattle.td_keeper.specs.Keeping.{Keeping}
use Rattle.td_orders.specs.declared.order.Order.{Order}
use Rattle.td_orders.specs.declared.source.Asked.{Asked}
use Rattle.td_orders.specs.declared.source.Asked.TheVariants.{One, Epochs}
use Rattle.td_orders.specs.Noted.{Aside, ComeOf, copied_in}
use Rattle.td_orders.specs.Orders.{submissions, notes_in, order_for, new_after}
use Rattle.td_orders.specs.Scripts.{Script, SeeNothing, Asks, IsOf, asked_for, notes_for}
use Rattle.td_feed.specs.Copied.{Copied, MakesCopies}
use Rattle.td_feed.specs.Session.{FeedsCopying}
use Rattle.td_feed.specs.Held.{seen_after, then_seen, asked_seen, seen_with, told_seen, TellsSeen, SameBase, KeepsTo}
use Rattle.td_feed.specs.Carried.{new_to, Carries, Leaves}
use Rattle.td_console.specs.declared.faults.Fault.{Fault}
use Rattle.td_feed.specs.Said.{Says, SaysBy}
use Rattle.td_feed.proofs.Carrying.{at_ok, unmoved, then_carries, carries_then, then_leaves, leaves_all}
use Rattle.td_feed.proofs.Held.{seen_on, seen_append, up_to_then, up_to_further, keeps_same, keeps_then}
use Rattle.td_feed.proofs.SeenAsked.{nothing_seen, one_for, none_seen, seen_with_more, told_over, tells_taken}
use Rattle.td_feed.proofs.Copies.{as_they_ask, none_yet, come-append, copied-append, none_made, made_then, made_within}
use Rattle.td_feed.proofs.Lines.{says_then, then_quiet}
use Rattle.td_feed.proofs.Newness.{new_on}
use Rattle.td_orders.specs.OrderProofs.{new_after-append, submissions-append, notes-append}

-- of a script some orders are done, and this is left
abbrev pub IsPart : Option Script → List Order → Option Script → Type 0
IsPart None done left = Unit {0}
IsPart (Some all) done None = ⊥
IsPart (Some all) done (Some left) = (all.orders ≡ done ++ left.orders) × (all.fault ≡ left.fault)

-- what is asked for, as orders, where they are not known
each_order : List Submitted → List Order
each_order [] = []
each_order (s ∷ group) = order_for s.request s.batch ∷ each_order group

as_orders : Asked → List Order
as_orders (One order) = order ∷ []
as_orders (Epochs group) = each_order group.items

one_submits : (request : ℕ) (batch : List Entry) (orders : List Order) → submissions (order_for request batch ∷ orders) ≡ submission request batch ∷ submissions orders
one_submits zero batch orders = refl
one_submits (suc q) batch orders = refl

each_submits : (group : List Submitted) → submissions (each_order group) ≡ group
unfolding each_order
each_submits [] = refl
each_submits (s ∷ group) = one_submits s.request s.batch (each_order group) ∙ ap (λ (l : List Submitted). s ∷ l) (each_submits group)

these : (asked : Asked) → submissions (as_orders asked) ≡ asked_for asked
unfolding as_orders
these (One order) = refl
these (Epochs group) = each_submits group.items

one_notes : (request : ℕ) (batch : List Entry) (orders : List Order) → notes_in (order_for request batch ∷ orders) ≡ notes_in orders
one_notes zero batch orders = refl
one_notes (suc q) batch orders = refl

each_notes : (group : List Submitted) → notes_in (each_order group) ≡ []
unfolding each_order
each_notes [] = refl
each_notes (s ∷ group) = one_notes s.request s.batch (each_order group) ∙ each_notes group

their_notes : (asked : Asked) → notes_in (as_orders asked) ≡ notes_for asked
unfolding as_orders
their_notes (One order) = refl
their_notes (Epochs group) = each_notes group.items

-- and where they are
those : (asked : Asked) (orders : List Order) → IsOf asked orders → submissions orders ≡ asked_for asked
those (One order) orders is = ap submissions is
those (Epochs group) orders is = is.0

-- what was seen then is what these say
each_see : (group : List Submitted) → SeeNothing (each_order group)
unfolding each_order
each_see [] = tt
each_see (s ∷ group) = one_for s.request s.batch (each_order group) (each_see group)

their_seen : (asked : Asked) (last : ℕ) → asked_seen last asked ≡ seen_after last (as_orders asked)
unfolding as_orders
their_seen (One order) last = refl
their_seen (Epochs group) last = sym (nothing_seen (each_order group.items) (each_see group.items) last)

those_seen : (asked : Asked) (orders : List Order) → IsOf asked orders → (last : ℕ) → asked_seen last asked ≡ seen_after last orders
those_seen (One order) orders is last = sym (ap (seen_after last) is)
those_seen (Epochs group) orders is last = sym (nothing_seen orders is.3 last)

those_notes : (asked : Asked) (orders : List Order) → IsOf asked orders → notes_in orders ≡ notes_for asked
those_notes (One order) orders is = ap notes_in is
those_notes (Epochs group) orders is = is.1

-- WHAT WAS SEEN SO FAR, where outputs are held, by some orders, after a first epoch: nothing is kept beyond it
pub record HasSeen {D : Type 0} (first : Option ℕ) (done : List Order) (seen : Option ℕ) (old new : Keeping D) : Type 0 where
  pub now : seen ≡ then_seen first done
  pub keeps : KeepsTo (then_seen first done) old new

module _ {D : Type 0} where
  -- before the first order
  seen_first : (first : Option ℕ) (old new : Keeping D) → KeepsTo first old new → HasSeen first [] first old new
  seen_first first old new keeps = record { now = sym (none_seen first); keeps = subst (λ (o : Option ℕ). KeepsTo o old new) (sym (none_seen first)) keeps }

  -- up to what was seen, and then with more orders
  keeps_more : (first : Option ℕ) (done more : List Order) (old there new : Keeping D) → KeepsTo (then_seen first done) old there → KeepsTo (then_seen first (done ++ more)) there new
      → KeepsTo (then_seen first (done ++ more)) old new
  keeps_more None done more old there new one other = tt
  keeps_more (Some first) done more old there new one other =
      let on = seen_append first done more in
      let further = seen_on (seen_after first done) more in
      up_to_then (seen_after first (done ++ more)) (up_to_further (seen_after first done) (seen_after first (done ++ more)) (omega (arith, further, on)) one) other

  -- with what was asked for
  seen_asked : (first seen next : Option ℕ) (done more : List Order) (asked : Asked) (old there new : Keeping D) → ((last : ℕ) → asked_seen last asked ≡ seen_after last more)
      → HasSeen first done seen old there → next ≡ seen_with seen asked → KeepsTo next there new → HasSeen first (done ++ more) next old new
  seen_asked first seen next done more asked old there new same has is keeps =
      let now : next ≡ then_seen first (done ++ more) = is ∙ ap (λ (o : Option ℕ). seen_with o asked) has.now ∙ seen_with_more first done more asked same in
      record { now = now; keeps = keeps_more first done more old there new has.keeps (subst (λ (o : Option ℕ). KeepsTo o there new) now keeps) }

  -- of a script of which these are done
  seen_of_part : (all left : Option Script) (first seen : Option ℕ) (done : List Order) (old new : Keeping D) → IsPart all done left → HasSeen first done seen old new
      → IfSome all (λ s. KeepsTo (then_seen first s.orders) old new)
  seen_of_part None left first seen done old new part has = tt
  seen_of_part (Some s) None first seen done old new part has = absurd part
  seen_of_part (Some s) (Some l) None seen done old new part has = tt
  seen_of_part (Some s) (Some l) (Some first) seen done old new part has =
      let on = seen_on (seen_after first done) l.orders in
      let whole : seen_after first s.orders ≡ seen_after (seen_after first done) l.orders = ap (seen_after first) part.0 ∙ seen_append first done l.orders in
      up_to_further (seen_after first done) (seen_after first s.orders) (omega (arith, on, whole)) has.keeps

  -- and nothing moved its base since
  seen_then_same : (first seen : Option ℕ) (done : List Order) (old there new : Keeping D) → HasSeen first done seen old there → SameBase there new → HasSeen first done seen old new
  seen_then_same first seen done old there new has same =
      record { now = has.now; keeps = keeps_then (then_seen first done) old there new has.keeps (keeps_same (then_seen first done) same) }

module _ {D E : Type 0} (view : D → DiskView) (answers : Answers) (marks : Bool) (new_view : E → DiskView) where
  -- THE ORDERS SO FAR were obeyed by a keeper, its lines written, and the copies for which they ask made
  pub record HasObeyed (all left : Option Script) (u v : Option (List ℕ)) (had has : Option (List (Copied E))) (old new : Keeping D) (first seen : Option ℕ) : Type 0 where
    pub done : List Order
    pub known : IsPart all done left
    pub answered : List Aside
    pub came : ComeOf (notes_in done) answered
    pub said : Says view answers marks u v old new (new_to old (submissions done)) answered
    pub copied : MakesCopies view new_view answers (copied_in answered) had has old (new_to old (submissions done))
    pub carried : Carries answers old new (new_to old (submissions done))
    pub sound : (view old.device).lawful → (view new.device).lawful
    pub held : HasSeen first done seen old new

  pub none_obeyed : (all : Option Script) (u v : Option (List ℕ)) (kept : Option (List (Copied E))) (old new : Keeping D) (first : Option ℕ) → Says view answers marks u v old new [] [] → Carries answers old new [] → ((view old.device).lawful → (view new.device).lawful)
      → KeepsTo first old new → HasObeyed all all u v kept kept old new first first
  none_obeyed all u v kept old new first said carried sound keeps = record {
    done = [];
    known = by all;
    answered = [];
    came = refl;
    said = said;
    copied = none_made view new_view answers kept old [];
    carried = carried;
    sound = sound;
    held = seen_first first old new keeps;
  }
    where
      by : (all : Option Script) → IsPart all [] all
      by None = tt
      by (Some s) = (refl, refl)

  -- what came of some orders, and the notes of those after them, of which nothing is done
  whole_script : (all done later : List Order) (answered : List Aside) (had has : Option (List (Copied E))) (old : Keeping D) (x : List Submitted) → all ≡ done ++ later → new_to old (submissions done) ≡ x
      → ComeOf (notes_in done) answered → MakesCopies view new_view answers (copied_in answered) had has old x
      → (rest : List Aside) × ComeOf (notes_in all) (answered ++ rest) × MakesCopies view new_view answers (copied_in (answered ++ rest)) had has old (new_to old (submissions all))
  whole_script all done later answered had has old x parts is came copied = (
    notes_in later,
    come-append (notes_in done) (notes_in later) answered (notes_in later) came (as_they_ask later) ∙ sym (ap notes_in parts ∙ notes-append done later),
    (let said : copied_in (answered ++ notes_in later) ≡ copied_in answered = copied-append answered (notes_in later) ∙ ap (λ (l : List (List ℕ × ℕ)). copied_in answered ++ l) (none_yet later) ∙ append-nil (copied_in answered) in
        let more : List Submitted = new_after (greatest (last_request old.standing) (new_to old (submissions done))) (submissions later) in
        let whole : new_to old (submissions all) ≡ x ++ more = ap (new_to old) (ap submissions parts ∙ submissions-append done later) ∙ new_after-append (last_request old.standing) (submissions done) (submissions later) ∙ ap (λ (l : List Submitted). l ++ more) is in
        subst (λ (y : List Submitted). MakesCopies view new_view answers (copied_in (answered ++ notes_in later)) had has old y) (sym whole)
        (subst (λ (l : List (List ℕ × ℕ)). MakesCopies view new_view answers l had has old (x ++ more)) (sym said)
        (made_within view new_view answers (copied_in answered) had has old x more copied))),
  )

  module _ (all left next : Option Script) (u v w : Option (List ℕ)) (had has then : Option (List (Copied E))) (old there new : Keeping D) (asked : Asked) (first seen : Option ℕ) (so : HasObeyed all left u v had has old there first seen) (asks : Asks left next (Some asked)) where
    abbrev more : List Submitted
    more = asked_for asked

    abbrev noted : List Aside
    noted = notes_for asked

    -- the orders that were asked for
    orders : (o : List Order) × (submissions o ≡ more) × IsPart all (so.done ++ o) next × (notes_in o ≡ noted) × ((last : ℕ) → asked_seen last asked ≡ seen_after last o)
    orders = by all left next so.known asks
      where
        by : (all left next : Option Script) → IsPart all so.done left → Asks left next (Some asked)
            → (o : List Order) × (submissions o ≡ more) × IsPart all (so.done ++ o) next × (notes_in o ≡ noted) × ((last : ℕ) → asked_seen last asked ≡ seen_after last o)
        by None left next is a = (as_orders asked, these asked, tt, their_notes asked, their_seen asked)
        by (Some s) None next is a = absurd is
        by (Some s) (Some l) None is a = absurd a
        by (Some s) (Some l) (Some n) is a =
            (a.0, those asked a.0 a.1, (is.0 ∙ ap (λ os. so.done ++ os) a.2 ∙ sym (append_assoc so.done a.0 n.orders), is.1 ∙ a.3), those_notes asked a.0 a.1, those_seen asked a.0 a.1)

    also_new : new_to old (submissions (so.done ++ orders.0)) ≡ new_to old (submissions so.done) ++ new_to there more
    also_new =
        ap (new_to old) (submissions-append so.done orders.0 ∙ ap (λ (l : List Submitted). submissions so.done ++ l) orders.1)
        ∙ new_on answers old there (submissions so.done) more so.carried

    noted_so_far : notes_in (so.done ++ orders.0) ≡ notes_in so.done ++ noted
    noted_so_far = notes-append so.done orders.0 ∙ ap (λ (l : List Aside). notes_in so.done ++ l) orders.3

    came_so_far : (more_done : List Aside) → ComeOf noted more_done → ComeOf (notes_in (so.done ++ orders.0)) (so.answered ++ more_done)
    came_so_far more_done came = come-append (notes_in so.done) noted so.answered more_done so.came came ∙ sym noted_so_far

    copied_so_far : (more_done : List Aside) → MakesCopies view new_view answers (copied_in more_done) has then there (new_to there more)
        → MakesCopies view new_view answers (copied_in (so.answered ++ more_done)) had then old (new_to old (submissions so.done) ++ new_to there more)
    copied_so_far more_done copied =
        subst (λ (said : List (List ℕ × ℕ)). MakesCopies view new_view answers said had then old (new_to old (submissions so.done) ++ new_to there more)) (sym (copied-append so.answered more_done))
        (made_then view new_view answers (copied_in so.answered) (copied_in more_done) had has then old there (new_to old (submissions so.done)) (new_to there more) so.sound so.carried so.copied copied)

    pub some_obeyed : (later : Option ℕ) → later ≡ seen_with seen asked → KeepsTo later there new → ((view there.device).lawful → (view new.device).lawful) → (d : Unit {0})
        → FeedsCopying view answers marks new_view (Ok d) v w has then there new (new_to there more) noted → HasObeyed all next u w had then old new first later
    some_obeyed later is keeps sound d fed = record {
      done = so.done ++ orders.0;
      known = orders.2;
      answered = so.answered ++ fed.done;
      came = came_so_far fed.done fed.came;
      said = subst (λ (x : List Submitted). Says view answers marks u w old new x (so.answered ++ fed.done)) (sym also_new)
          (says_then view answers marks u v w old there new (new_to old (submissions so.done)) (new_to there more) so.answered fed.done so.said fed.fed.said);
      copied = subst (λ (x : List Submitted). MakesCopies view new_view answers (copied_in (so.answered ++ fed.done)) had then old x) (sym also_new) (copied_so_far fed.done fed.copied);
      carried = subst (λ (x : List Submitted). Carries answers old new x) (sym also_new) (then_carries answers old there new (new_to old (submissions so.done)) (new_to there more) so.carried fed.fed.carried);
      sound = λ lawful. sound (so.sound lawful);
      held = seen_asked first seen later so.done orders.0 asked old there new orders.4 so.held is keeps;
    }

    -- also where they were refused
    pub some_held : (later : Option ℕ) → later ≡ seen_with seen asked → KeepsTo later there new → IfSome all (λ s. KeepsTo (then_seen first s.orders) old new)
    some_held later is keeps = seen_of_part all next first later (so.done ++ orders.0) old new orders.2 (seen_asked first seen later so.done orders.0 asked old there new orders.4 so.held is keeps)

    -- and what they say was seen was told
    pub some_seen : (r : Result (Unit {0}) Fault) (later before after : Option ℕ) → (f : Fault) × (r ≡ Err f) → later ≡ seen_with seen asked → after ≡ told_seen before later → IfSome all (λ s. TellsSeen r first s.orders before after)
    some_seen r later before after refused is told = by all next orders.2
      where
        now : later ≡ then_seen first (so.done ++ orders.0)
        now = is ∙ ap (λ (o : Option ℕ). seen_with o asked) so.held.now ∙ seen_with_more first so.done orders.0 asked orders.4

        by : (all next : Option Script) → IsPart all (so.done ++ orders.0) next → IfSome all (λ s. TellsSeen r first s.orders before after)
        by None next part = tt
        by (Some s) None part = absurd part
        by (Some s) (Some n) part =
            tells_taken r first later before after s.orders (so.done ++ orders.0) n.orders part.0 (subst (λ (q : Result (Unit {0}) Fault). OnOk q (n.orders ≡ [])) (sym refused.1) tt) told now

    pub told_on : (later before : Option ℕ) → later ≡ seen_with seen asked → told_seen (told_seen before seen) later ≡ told_seen before later
    told_on later before is =
        told_over before first seen later so.done (so.done ++ orders.0) so.held.now (is ∙ ap (λ (o : Option ℕ). seen_with o asked) so.held.now ∙ seen_with_more first so.done orders.0 asked orders.4)

    -- the batches of the orders after these
    abbrev others : List Order → List Submitted
    others later = new_after (greatest (last_request there.standing) (new_to there more)) (submissions later)

    all_in_parts : (s : Script) (later : List Order) → s.orders ≡ (so.done ++ orders.0) ++ later
        → new_to old (submissions s.orders) ≡ new_to old (submissions so.done) ++ (new_to there more ++ others later)
    all_in_parts s later is =
        ap (new_to old) (ap submissions (is ∙ append_assoc so.done orders.0 later) ∙ submissions-append so.done (orders.0 ++ later)
        ∙ ap (λ (l : List Submitted). submissions so.done ++ l) (submissions-append orders.0 later ∙ ap (λ (l : List Submitted). l ++ submissions later) orders.1))
        ∙ new_on answers old there (submissions so.done) (more ++ submissions later) so.carried
        ∙ ap (λ (l : List Submitted). new_to old (submissions so.done) ++ l) (new_after-append (last_request there.standing) more (submissions later))

    -- these begin the batches of the script
    pub some_later : IfSome all (λ s. Begins (new_to old (submissions so.done) ++ new_to there more) (new_to old (submissions s.orders)))
    some_later = by all next orders.2
      where
        by : (all next : Option Script) → IsPart all (so.done ++ orders.0) next → IfSome all (λ s. Begins (new_to old (submissions so.done) ++ new_to there more) (new_to old (submissions s.orders)))
        by None next is = tt
        by (Some s) None is = absurd is
        by (Some s) (Some n) is = (others n.orders, all_in_parts s n.orders is.0 ∙ sym (append_assoc (new_to old (submissions so.done)) (new_to there more) (others n.orders)))

    -- or they were refused
    pub some_refused : Leaves view answers there new (new_to there more) → IfSome all (λ s. Leaves view answers old new (new_to old (submissions s.orders)))
    some_refused leaves = by all next orders.2
      where
        by : (all next : Option Script) → IsPart all (so.done ++ orders.0) next → IfSome all (λ s. Leaves view answers old new (new_to old (submissions s.orders)))
        by None next is = tt
        by (Some s) None is = absurd is
        by (Some s) (Some n) is =
            then_leaves view answers old there new (new_to old (submissions so.done)) (new_to there more) (others n.orders) (new_to old (submissions s.orders))
            (all_in_parts s n.orders is.0) so.carried leaves

    -- what came of the script's notes, of which those after them are not done
    pub came_left : (more_done : List Aside) → ComeOf noted more_done
        → MakesCopies view new_view answers (copied_in more_done) has then there (new_to there more)
        → IfSome all (λ s. (later : List Aside) × ComeOf (notes_in s.orders) ((so.answered ++ more_done) ++ later)
        × MakesCopies view new_view answers (copied_in ((so.answered ++ more_done) ++ later)) had then old (new_to old (submissions s.orders)))
    came_left more_done came copied = by all next orders.2
      where
        by : (all next : Option Script) → IsPart all (so.done ++ orders.0) next
            → IfSome all (λ s. (later : List Aside) × ComeOf (notes_in s.orders) ((so.answered ++ more_done) ++ later)
            × MakesCopies view new_view answers (copied_in ((so.answered ++ more_done) ++ later)) had then old (new_to old (submissions s.orders)))
        by None next is = tt
        by (Some s) None is = absurd is
        by (Some s) (Some n) is =
            whole_script s.orders (so.done ++ orders.0) n.orders (so.answered ++ more_done) had then old (new_to old (submissions so.done) ++ new_to there more) is.0 also_new (came_so_far more_done came) (copied_so_far more_done copied)

  module _ (all left next : Option Script) (u v : Option (List ℕ)) (had has : Option (List (Copied E))) (old there : Keeping D) (first seen : Option ℕ) (so : HasObeyed all left u v had has old there first seen) where
    pub came_there : IfSome all (λ s. (later : List Aside) × ComeOf (notes_in s.orders) (so.answered ++ later)
        × MakesCopies view new_view answers (copied_in (so.answered ++ later)) had has old (new_to old (submissions s.orders)))
    came_there = by all left so.known
      where
        by : (all left : Option Script) → IsPart all so.done left
            → IfSome all (λ s. (later : List Aside) × ComeOf (notes_in s.orders) (so.answered ++ later)
            × MakesCopies view new_view answers (copied_in (so.answered ++ later)) had has old (new_to old (submissions s.orders)))
        by None left is = tt
        by (Some s) None is = absurd is
        by (Some s) (Some l) is = whole_script s.orders so.done l.orders so.answered had has old (new_to old (submissions so.done)) is.0 refl so.came so.copied

    -- where no further one was asked for
    pub left_there : IfSome all (λ s. Leaves view answers old there (new_to old (submissions s.orders)))
    left_there = by all left so.known
      where
        by : (all left : Option Script) → IsPart all so.done left → IfSome all (λ s. Leaves view answers old there (new_to old (submissions s.orders)))
        by None left is = tt
        by (Some s) None is = absurd is
        by (Some s) (Some l) is =
            then_leaves view answers old there there (new_to old (submissions so.done)) [] (new_to there (submissions l.orders)) (new_to old (submissions s.orders))
            (ap (new_to old) (ap submissions is.0 ∙ submissions-append so.done l.orders) ∙ new_on answers old there (submissions so.done) (submissions l.orders) so.carried)
            so.carried (leaves_all view answers there there [] (unmoved answers there there refl refl so.carried.whole))

    -- what was asked for so far begins the batches of the script
    pub later_there : IfSome all (λ s. Begins (new_to old (submissions so.done)) (new_to old (submissions s.orders)))
    later_there = by all left so.known
      where
        by : (all left : Option Script) → IsPart all so.done left → IfSome all (λ s. Begins (new_to old (submissions so.done)) (new_to old (submissions s.orders)))
        by None left is = tt
        by (Some s) None is = absurd is
        by (Some s) (Some l) is =
            (new_to there (submissions l.orders), ap (new_to old) (ap submissions is.0 ∙ submissions-append so.done l.orders) ∙ new_on answers old there (submissions so.done) (submissions l.orders) so.carried)

    -- nothing is kept beyond what was seen
    pub held_there : (new : Keeping D) → SameBase there new → IfSome all (λ s. KeepsTo (then_seen first s.orders) old new)
    held_there new same = seen_of_part all left first seen so.done old new so.known (seen_then_same first seen so.done old there new so.held same)

    -- what was seen is told
    pub seen_there : (r : Result (Unit {0}) Fault) (before after : Option ℕ) → (f : Fault) × (r ≡ Err f) → after ≡ told_seen before seen → IfSome all (λ s. TellsSeen r first s.orders before after)
    seen_there r before after refused told = by all left so.known
      where
        by : (all left : Option Script) → IsPart all so.done left → IfSome all (λ s. TellsSeen r first s.orders before after)
        by None left part = tt
        by (Some s) None part = absurd part
        by (Some s) (Some l) part =
            tells_taken r first seen before after s.orders so.done l.orders part.0 (subst (λ (q : Result (Unit {0}) Fault). OnOk q (l.orders ≡ [])) (sym refused.1) tt) told so.held.now

    -- where the script has ended
    pub is_sound : Asks left next None → IfSome all (λ s. s.fault ≡ None)
    is_sound asks = by all left next so.known asks
      where
        by : (all left next : Option Script) → IsPart all so.done left → Asks left next None → IfSome all (λ s. s.fault ≡ None)
        by None left next is a = tt
        by (Some s) None next is a = absurd is
        by (Some s) (Some l) None is a = absurd a
        by (Some s) (Some l) (Some n) is a = is.1 ∙ a.1

    pub all_done : Asks left next None → IfSome all (λ s. s.orders ≡ so.done)
    all_done asks = by all left next so.known asks
      where
        by : (all left next : Option Script) → IsPart all so.done left → Asks left next None → IfSome all (λ s. s.orders ≡ so.done)
        by None left next is a = tt
        by (Some s) None next is a = absurd is
        by (Some s) (Some l) None is a = absurd a
        by (Some s) (Some l) (Some n) is a = is.0 ∙ ap (λ os. so.done ++ os) a.0 ∙ append-nil so.done

    pub at_end_carried : (new : Keeping D) → Asks left next None → Carries answers there new [] → IfSome all (λ s. Carries answers old new (new_to old (submissions s.orders)))
    at_end_carried new asks carried =
        IfSome_then all (all_done asks) (λ s is. subst (λ (os : List Order). Carries answers old new (new_to old (submissions os))) (sym is)
        (carries_then view answers old there new (new_to old (submissions so.done)) so.carried carried))

    pub at_end_left : (new : Keeping D) → Asks left next None → Carries answers there new [] → IfSome all (λ s. Leaves view answers old new (new_to old (submissions s.orders)))
    at_end_left new asks carried = IfSome_then all (at_end_carried new asks carried) (λ s whole. leaves_all view answers old new (new_to old (submissions s.orders)) whole)

    pub at_end_said : (result : Result (Unit {0}) Fault) (w : Option (List ℕ)) (new : Keeping D) → Asks left next None → SaysBy view answers marks result v w there new [] []
        → IfSome all (λ s. SaysBy view answers marks result u w old new (new_to old (submissions s.orders)) so.answered)
    at_end_said result w new asks said =
        IfSome_then all (all_done asks) (λ s is. subst (λ (os : List Order). SaysBy view answers marks result u w old new (new_to old (submissions os)) so.answered) (sym is)
        (then_quiet view answers marks result u v w old there new (new_to old (submissions so.done)) so.answered so.said said))

    pub at_end_seen : (r : Result (Unit {0}) Fault) (before after : Option ℕ) → Asks left next None → after ≡ told_seen before seen → IfSome all (λ s. TellsSeen r first s.orders before after)
    at_end_seen r before after asks told =
        IfSome_then all (all_done asks) (λ s is. tells_taken r first seen before after s.orders so.done [] (is ∙ sym (append-nil so.done)) (at_ok r refl) told so.held.now)

    pub at_end_came : Asks left next None → IfSome all (λ s. ComeOf (notes_in s.orders) so.answered)
    at_end_came asks = IfSome_then all (all_done asks) (λ s is. so.came ∙ ap notes_in (sym is))

    pub at_end_copied : Asks left next None → IfSome all (λ s. MakesCopies view new_view answers (copied_in so.answered) had has old (new_to old (submissions s.orders)))
    at_end_copied asks =
        IfSome_then all (all_done asks) (λ s is. subst (λ (os : List Order). MakesCopies view new_view answers (copied_in so.answered) had has old (new_to old (submissions os))) (sym is) so.copied)

  -- a refusal before the first order
  pub none_left : (old new : Keeping D) (more : List Submitted) → old.broken ≡ false → Leaves view answers old new [] → Leaves view answers old new more
  none_left old new more whole left = then_leaves view answers old old new [] [] more more refl (unmoved answers old old refl refl whole) left

-- there is none where there is not any
pub none_of : {X : Type 0} (o : Option X) → ((x : X) → o ≡ Some x → ⊥) → o ≡ None
none_of None never = refl
none_of (Some x) never = absurd (never x refl)
