use Rattle.std.proofs.Common.{◌≡◌, ℕ, ◌++◌, List, [], true, refl, sym, ap, ◌∙◌, subst, inr, None}
use Rattle.std.specs.Prelude.{Option, Some, Result, Ok, Err, OnOk}
use Rattle.std.specs.Result.{IsErrAnd}
use Rattle.td_console.specs.declared.faults.Fault.{Fault}
use Rattle.td_console.specs.declared.faults.Fault.TheVariants.{Keeper}
use Rattle.td_store.specs.declared.standing.error.KeeperError.TheVariants.{Device}
use Rattle.td_orders.specs.Noted.{Aside, ComeOf, copied_in}
use Rattle.td_feed.specs.Copied.{Copied, MakesCopies}
use Rattle.td_orders.specs.Orders.{submissions, notes_in}
use Rattle.td_orders.specs.declared.source.Room.{Room}
use Rattle.td_orders.specs.Scripts.{Script, Asks, asked_for, notes_for, is_of_reader}
use Rattle.td_store.specs.standing.Standing.{last_epoch, last_request}
use Rattle.td_keeper.specs.Keeping.{Keeping}
use Rattle.td_feed.specs.Carried.{new_to, Carries, Leaves}
use Rattle.td_feed.specs.Said.{Says, SaysBy}
use Rattle.td_feed.specs.Session.{KeepsDisk, FeedsCopying}
use Rattle.td_feed.specs.Held.{KeepsTo, seen_at, seen_with, then_seen, told_seen}
use Rattle.td_feed.specs.Stepping.{KeepsPace}
use Rattle.td_feed.proofs.Stepping.{pace_still}
use Rattle.std.proofs.lemmas.Result.{on_ok_weaker}
use Rattle.td_feed.proofs.SeenAsked.{none_seen, tells_taken}
use Rattle.td_feed.proofs.Copies.{as_they_ask, none_yet, none_made}
use Rattle.td_feed.proofs.Held.{base_itself, keeps_on}
use Rattle.td_feed.proofs.Carrying.{at_ok, at_err}
use Rattle.td_feed.proofs.Counting.{as_err, other_fault}
use Rattle.td_feed.proofs.Replies.{of_reader_error}
use Rattle.td_feed.proofs.Lines.{says_nothing, some_of_all, some_of_longer, some_of_more, by_refusal, handed_on}
use Rattle.td_feed.proofs.Obeyed.{HasObeyed, none_obeyed, some_obeyed, some_refused, some_held, held_there, some_seen, told_on, came_left, came_there, left_there, seen_there, is_sound, at_end_carried, at_end_left, at_end_said, at_end_came, at_end_copied, at_end_seen, none_left, none_of, some_later, later_there}
use Rattle.td_feed.specs.Served.{script_at}
use Rattle.td_feed.proofs.Placed.{next_script, script_same, next_there, AsksFrom, asks_there}
use Rattle.td_feed.proofs.Causes.{if_of_writer, handed_of_writer, of_reader, of_seen, tells_there}
use Rattle.td_feed.proofs.Sessions.{done, known, in_some_is, disk_same, disk_then, disk_handed, err_fed}
use Rattle.td_feed.proofs.under_way.Feeding.serve.Goals as goal

not_read : (f : Fault) → is_of_reader f ≡ true → f ≡ Keeper Device → ⊥
not_read f of_reader is = absurd (let no : is_of_reader (Keeper Device) ≡ true = ap is_of_reader (sym is) ∙ of_reader in cc)

none_ok : (P : Type 0) (r : Result (Unit {0}) Fault) → (f : Fault) × (r ≡ Err f) → OnOk r P
none_ok P r is = subst (λ (q : Result (Unit {0}) Fault). OnOk q P) (sym is.1) tt

-- a refusal of a step
is_err : (P : Fault → Type 0) (r : Result (Unit {0}) Fault) → IsErrAnd r P → (f : Fault) × (r ≡ Err f)
is_err P (Ok d) none = absurd none
is_err P (Err f) holds = (f, refl)

pub returns-in_err-keep_pace : goal.returns-in_err-keep_pace
returns-in_err-keep_pace g c =
    let view = g.D.Disk.view in
    let answers = g.L.Law.answers in
    let marks = g.W.Voice.marks in
    let new_view = g.H.New.Disk.view in
    let had = g.H.Host.copies c.args.host.now in
    let u = g.W.Sink.contents c.args.self.now.writer in
    let w = g.W.Sink.contents c.keep_pace.new.self.writer in
    let old = g.E.Obey.keeping c.args.self.now.engine in
    let new = g.E.Obey.keeping c.keep_pace.new.self.engine in
    let fed = c.in_err-keep_pace.ensures.steps.fed in
    let pace = c.args.pace in
    let first : Option ℕ = c.first_seen-seen.result in
    let is : first ≡ seen_at pace old.standing.epoch = c.first_seen-seen.ensures ∙ ap (λ (k : Keeping g.row.D.Denot). seen_at pace k.standing.epoch) c.keeper.ensures in
    let keeps : KeepsTo first old new = subst (λ (k : Keeping g.row.D.Denot). KeepsTo first k new) c.allow.ensures c.keep_pace.ensures.steps.held in
    let r = c.from_residual.result in
    let refused = is_err _ r c.from_residual.ensures.1 in
    record {
      disk =
          disk_handed r c.from_residual.ensures.1
          (subst (λ (k : Keeping g.row.D.Denot). KeepsDisk view (as_err (Unit {0}) c.in_err-keep_pace.field-0.0) k.device new.device) c.allow.ensures c.in_err-keep_pace.ensures.steps.disk);
      fed =
          in_some_is (script_at g.S.Asking.script old c.args.orders.now)
          (λ s there. err_fed _ r (notes_in s.orders) c.from_residual.ensures.1 (as_they_ask s.orders)
          (none_left view answers marks new_view old new (new_to old (submissions s.orders)) c.requires.whole (subst (λ (k : Keeping g.row.D.Denot). Leaves view answers k new []) c.allow.ensures fed.left))
          (handed_on view answers marks r c.in_err-keep_pace.field-0.0 u u w old old new [] [] (new_to old (submissions s.orders)) [] [] (notes_in s.orders) (notes_in s.orders) refl (new_to old (submissions s.orders), refl) c.from_residual.ensures.1 (says_nothing view answers marks u old)
          (subst (λ (k : Keeping g.row.D.Denot). SaysBy view answers marks (Err c.in_err-keep_pace.field-0.0) u w k new [] []) c.allow.ensures fed.said))
          (subst (λ (has : Option (List (Copied g.row.H-New.Denot))). MakesCopies view new_view answers (copied_in (notes_in s.orders)) had has old (new_to old (submissions s.orders))) (sym c.tell_seen.ensures.copies)
          (subst (λ (said : List (List ℕ × ℕ)). MakesCopies view new_view answers said had had old (new_to old (submissions s.orders))) (sym (none_yet s.orders))
          (none_made view new_view answers had old (new_to old (submissions s.orders))))));
      held = in_some_is (script_at g.S.Asking.script old c.args.orders.now) (λ s there. subst (λ (f : Option ℕ). KeepsTo (then_seen f s.orders) old new) is (keeps_on first s.orders old new keeps));
      seen =
          in_some_is (script_at g.S.Asking.script old c.args.orders.now)
          (λ s there. tells_taken r (seen_at pace old.standing.epoch) first (g.H.Host.seen c.args.host.now) (g.H.Host.seen c.tell_seen.new.host) s.orders [] s.orders refl
          (subst (λ (q : Result (Unit {0}) Fault). OnOk q (s.orders ≡ [])) (sym refused.1) tt) c.tell_seen.ensures.seen (is ∙ sym (none_seen (seen_at pace old.standing.epoch))));
      fault = handed_of_writer (g.S.Asking.overlong c.args.orders.now) (script_at g.S.Asking.script old c.args.orders.now) g.W.Sink.HasRoom r c.in_err-keep_pace.field-0.0 c.from_residual.ensures.1 c.in_err-keep_pace.ensures.steps.fault;
      all_out = λ alone. none_ok _ r (is_err _ r c.from_residual.ensures.1);
      in_time = λ alone none. none_ok _ r (is_err _ r c.from_residual.ensures.1);
    }

pub loop-asked-init : goal.loop-asked-init
loop-asked-init g c =
    let view = g.D.Disk.view in
    let answers = g.L.Law.answers in
    let marks = g.W.Voice.marks in
    let new_view = g.H.New.Disk.view in
    let had = g.H.Host.copies c.args.host.now in
    let v = g.W.Sink.contents c.args.self.now.writer in
    let w = g.W.Sink.contents c.keep_pace.new.self.writer in
    let new = g.E.Obey.keeping c.keep_pace.new.self.engine in
    let same = c.allow.ensures in
    let fed = c.in_ok-keep_pace.ensures.steps.fed in
    let old = g.E.Obey.keeping c.args.self.now.engine in
    let script = script_at g.S.Asking.script old c.args.orders.now in
    let carried : Carries answers old new [] = subst (λ (k : Keeping g.row.D.Denot). Carries answers k new []) same fed.carried in
    let pace = c.args.pace in
    let first : Option ℕ = c.first_seen-seen.result in
    let is : first ≡ seen_at pace old.standing.epoch = c.first_seen-seen.ensures ∙ ap (λ (k : Keeping g.row.D.Denot). seen_at pace k.standing.epoch) c.keeper.ensures in
    let disk : KeepsDisk g.D.Disk.view done old.device new.device =
    subst (λ (k : Keeping g.row.D.Denot). KeepsDisk g.D.Disk.view done k.device new.device) same c.in_ok-keep_pace.ensures.steps.disk in
    record {
      obeyed =
          subst (λ (has : Option (List (Copied g.row.H-New.Denot))). HasObeyed view answers marks new_view script (script_at g.S.Asking.script new c.args.orders.now) v w had has old new (seen_at pace old.standing.epoch) first) (sym c.tell_seen.ensures.copies)
          (subst (λ (left : Option Script). HasObeyed view answers marks new_view script left v w had had old new (seen_at pace old.standing.epoch) first) (script_same g.S.Asking.script answers old new c.args.orders.now carried)
          (subst (λ (f : Option ℕ). HasObeyed view answers marks new_view script script v w had had old new f first) is
          (none_obeyed view answers marks new_view script v w had old new first
          (subst (λ (k : Keeping g.row.D.Denot). Says view answers marks v w k new [] []) same fed.said)
          carried disk.lawful.0
          (subst (λ (k : Keeping g.row.D.Denot). KeepsTo first k new) same c.keep_pace.ensures.steps.held))));
      disk = disk;
      told = c.tell_seen.ensures.seen;
      overlong = λ is. is;
      unheld = λ none. is ∙ none;
      in_time = λ alone. c.in_ok-keep_pace.ensures.in_time alone;
    }

pub returns-in_err-asked : goal.returns-in_err-asked
returns-in_err-asked g c =
    let view = g.D.Disk.view in
    let answers = g.L.Law.answers in
    let marks = g.W.Voice.marks in
    let new_view = g.H.New.Disk.view in
    let had = g.H.Host.copies c.args.host.now in
    let script = script_at g.S.Asking.script (g.E.Obey.keeping c.args.self.now.engine) c.args.orders.now in
    let left = script_at g.S.Asking.script (g.E.Obey.keeping c.loop-asked.self.engine) c.loop-asked.orders in
    let u = g.W.Sink.contents c.args.self.now.writer in
    let v = g.W.Sink.contents c.loop-asked.self.writer in
    let has = g.H.Host.copies c.loop-asked.host in
    let old = g.E.Obey.keeping c.args.self.now.engine in
    let there = g.E.Obey.keeping c.loop-asked.self.engine in
    let first = seen_at c.args.pace (g.E.Obey.keeping c.args.self.now.engine).standing.epoch in
    let seen = c.loop-asked.seen in
    let so = c.loop-asked.invariant.obeyed in
    let r = c.from_residual-in_err-asked.result in
    let overlong = g.S.Asking.overlong c.loop-asked.orders in
    let cause = c.in_err-asked.field-0.0 in
    record {
      disk =
          disk_then c.loop-asked.invariant.disk
          (disk_same r refl
          (other_fault r (λ (f : Fault). f ≡ cause) c.from_residual-in_err-asked.ensures.1 (λ is. not_read cause c.in_err-asked.ensures.err (sym is))));
      fed =
          in_some_is script
          (λ s is.
          let later : (m : List Aside) × ComeOf (notes_in s.orders) (so.answered ++ m) × MakesCopies view new_view answers (copied_in (so.answered ++ m)) had has old (new_to old (submissions s.orders)) =
          known _ script s is (came_there view answers marks new_view script left left u v had has old there first seen so) in
          err_fed _ r (so.answered ++ later.0) c.from_residual-in_err-asked.ensures.1 later.1
          (known _ script s is (left_there view answers marks new_view script left left u v had has old there first seen so))
          (by_refusal view answers marks r (λ (f : Fault). f ≡ cause) u v old there (new_to old (submissions s.orders)) (so.answered ++ later.0) c.from_residual-in_err-asked.ensures.1
          (λ f holds. inr (some_of_more view answers marks u v old there so.answered later.0 (so.answered ++ later.0) refl (some_of_longer view answers marks u v old there so.answered (known _ script s is (later_there view answers marks new_view script left left u v had has old there first seen so)) (some_of_all view answers marks f u v old there (new_to old (submissions so.done)) so.answered (of_reader_error f (ap is_of_reader holds ∙ c.in_err-asked.ensures.err)) so.said)))))
          later.2);
      held = held_there view answers marks new_view script left left u v had has old there first seen so there (base_itself there);
      seen =
          seen_there view answers marks new_view script left left u v had has old there first seen so
          r (g.H.Host.seen c.args.host.now) (g.H.Host.seen c.loop-asked.host) (is_err _ r c.from_residual-in_err-asked.ensures.1) c.loop-asked.invariant.told;
      fault =
          of_reader g.W.Sink.HasRoom (g.S.Asking.overlong c.args.orders.now) overlong (script_at g.S.Asking.script old c.args.orders.now) (script_at g.S.Asking.script there c.loop-asked.orders) c.loop-asked.invariant.obeyed.done
          r cause c.from_residual-in_err-asked.ensures.1 c.loop-asked.invariant.overlong c.loop-asked.invariant.obeyed.known c.in_err-asked.ensures.err
          (tells_there g.S.Asking.script there c.room_of-room.result.told c.room_of-room.result.last c.loop-asked.orders overlong cause
          (ap (λ (r : Room). r.told) c.room_of-room.ensures ∙ ap (λ (k : Keeping g.row.D.Denot). last_epoch k.standing) c.keeper-keeper.ensures) (ap (λ (r : Room). r.last) c.room_of-room.ensures ∙ ap (λ (k : Keeping g.row.D.Denot). last_request k.standing) c.keeper-keeper.ensures) c.in_err-asked.ensures.fault);
      all_out = λ alone. none_ok _ r (is_err _ r c.from_residual-in_err-asked.ensures.1);
      in_time = λ alone none. none_ok _ r (is_err _ r c.from_residual-in_err-asked.ensures.1);
    }

pub returns-in_err-next : goal.returns-in_err-next
returns-in_err-next g c =
    let view = g.D.Disk.view in
    let answers = g.L.Law.answers in
    let marks = g.W.Voice.marks in
    let new_view = g.H.New.Disk.view in
    let had = g.H.Host.copies c.args.host.now in
    let script = script_at g.S.Asking.script (g.E.Obey.keeping c.args.self.now.engine) c.args.orders.now in
    let left = script_at g.S.Asking.script (g.E.Obey.keeping c.loop-asked.self.engine) c.loop-asked.orders in
    let u = g.W.Sink.contents c.args.self.now.writer in
    let v = g.W.Sink.contents c.loop-asked.self.writer in
    let has = g.H.Host.copies c.loop-asked.host in
    let old = g.E.Obey.keeping c.args.self.now.engine in
    let there = g.E.Obey.keeping c.loop-asked.self.engine in
    let first = seen_at c.args.pace (g.E.Obey.keeping c.args.self.now.engine).standing.epoch in
    let seen = c.loop-asked.seen in
    let so = c.loop-asked.invariant.obeyed in
    let r = c.from_residual-in_err-next.result in
    let asked = c.in-Some-2.asked in
    let asks : Asks (script_at g.S.Asking.script there c.loop-asked.orders) (next_script g.S.Asking.script there (Some asked) c.next_asked.new.self) (Some asked) =
    asks_there g.S.Asking.script there c.room_of-room.result.told c.room_of-room.result.last c.loop-asked.orders c.next_asked.new.self (Some asked)
    (ap (λ (r : Room). r.told) c.room_of-room.ensures ∙ ap (λ (k : Keeping g.row.D.Denot). last_epoch k.standing) c.keeper-keeper.ensures) (ap (λ (r : Room). r.last) c.room_of-room.ensures ∙ ap (λ (k : Keeping g.row.D.Denot). last_request k.standing) c.keeper-keeper.ensures)
    (subst (AsksFrom g.S.Asking.script c.room_of-room.result.told c.room_of-room.result.last c.loop-asked.orders c.next_asked.new.self) c.in-Some-2.is c.in_ok-asked.ensures.asked) in
    record {
      disk =
          disk_then c.loop-asked.invariant.disk
          (disk_same r refl
          (other_fault r (λ (f : Fault). f ≡ c.in_err-next.field-0.0) c.from_residual-in_err-next.ensures.1 (λ is. not_read c.in_err-next.field-0.0 c.in_err-next.ensures.err (sym is))));
      fed =
          in_some_is script
          (λ s is.
          let later : (m : List Aside) × ComeOf (notes_in s.orders) (so.answered ++ m) × MakesCopies view new_view answers (copied_in (so.answered ++ m)) had has old (new_to old (submissions s.orders)) =
          known _ script s is (came_there view answers marks new_view script left left u v had has old there first seen so) in
          err_fed _ r (so.answered ++ later.0) c.from_residual-in_err-next.ensures.1 later.1
          (known _ script s is (left_there view answers marks new_view script left left u v had has old there first seen so))
          (by_refusal view answers marks r (λ (f : Fault). f ≡ c.in_err-next.field-0.0) u v old there (new_to old (submissions s.orders)) (so.answered ++ later.0) c.from_residual-in_err-next.ensures.1
          (λ f holds. inr (some_of_more view answers marks u v old there so.answered later.0 (so.answered ++ later.0) refl (some_of_longer view answers marks u v old there so.answered (known _ script s is (later_there view answers marks new_view script left left u v had has old there first seen so)) (some_of_all view answers marks f u v old there (new_to old (submissions so.done)) so.answered (of_reader_error f (ap is_of_reader holds ∙ c.in_err-next.ensures.err)) so.said)))))
          later.2);
      held = held_there view answers marks new_view script left left u v had has old there first seen so there (base_itself there);
      seen =
          seen_there view answers marks new_view script left left u v had has old there first seen so
          r (g.H.Host.seen c.args.host.now) (g.H.Host.seen c.loop-asked.host) (is_err _ r c.from_residual-in_err-next.ensures.1) c.loop-asked.invariant.told;
      fault =
          of_seen g.W.Sink.HasRoom (g.S.Asking.overlong c.args.orders.now) (script_at g.S.Asking.script old c.args.orders.now) (script_at g.S.Asking.script there c.loop-asked.orders)
          (next_script g.S.Asking.script there (Some asked) c.next_asked.new.self) c.loop-asked.invariant.obeyed.done asked r c.in_err-next.field-0.0 c.from_residual-in_err-next.ensures.1
          c.loop-asked.invariant.obeyed.known asks c.in_err-next.ensures.fault;
      all_out = λ alone. none_ok _ r (is_err _ r c.from_residual-in_err-next.ensures.1);
      in_time = λ alone none. none_ok _ r (is_err _ r c.from_residual-in_err-next.ensures.1);
    }

pub returns-in_default : goal.returns-in_default
returns-in_default g c =
    let view = g.D.Disk.view in
    let answers = g.L.Law.answers in
    let marks = g.W.Voice.marks in
    let new_view = g.H.New.Disk.view in
    let had = g.H.Host.copies c.args.host.now in
    let script = script_at g.S.Asking.script (g.E.Obey.keeping c.args.self.now.engine) c.args.orders.now in
    let left = script_at g.S.Asking.script (g.E.Obey.keeping c.loop-asked.self.engine) c.loop-asked.orders in
    let u = g.W.Sink.contents c.args.self.now.writer in
    let v = g.W.Sink.contents c.loop-asked.self.writer in
    let has = g.H.Host.copies c.loop-asked.host in
    let old = g.E.Obey.keeping c.args.self.now.engine in
    let there = g.E.Obey.keeping c.loop-asked.self.engine in
    let first = seen_at c.args.pace (g.E.Obey.keeping c.args.self.now.engine).standing.epoch in
    let seen = c.loop-asked.seen in
    let so = c.loop-asked.invariant.obeyed in
    let next = next_script g.S.Asking.script there None c.next_asked.new.self in
    let w = g.W.Sink.contents c.settle.new.self.writer in
    let new = g.E.Obey.keeping c.settle.new.self.engine in
    let r = c.settle.result in
    let none = none_of c.in_ok-asked.field-0 c.in_default.not-Some in
    let asks : Asks left next None =
    asks_there g.S.Asking.script there c.room_of-room.result.told c.room_of-room.result.last c.loop-asked.orders c.next_asked.new.self None
    (ap (λ (r : Room). r.told) c.room_of-room.ensures ∙ ap (λ (k : Keeping g.row.D.Denot). last_epoch k.standing) c.keeper-keeper.ensures) (ap (λ (r : Room). r.last) c.room_of-room.ensures ∙ ap (λ (k : Keeping g.row.D.Denot). last_request k.standing) c.keeper-keeper.ensures)
    (subst (AsksFrom g.S.Asking.script c.room_of-room.result.told c.room_of-room.result.last c.loop-asked.orders c.next_asked.new.self) none c.in_ok-asked.ensures.asked) in
    record {
      disk = disk_then c.loop-asked.invariant.disk (c.settle.ensures.steps seen).disk;
      fed =
          in_some_is script
          (λ s is. record {
            sound = at_ok r (known _ script s is (is_sound view answers marks new_view script left next u v had has old there first seen so asks));
            fed = record {
              done = so.answered;
              came = known _ script s is (at_end_came view answers marks new_view script left next u v had has old there first seen so asks);
              fed = record {
                carried = at_ok r (known _ script s is (at_end_carried view answers marks new_view script left next u v had has old there first seen so new asks c.settle.ensures.stays.rests));
                left = at_err r (known _ script s is (at_end_left view answers marks new_view script left next u v had has old there first seen so new asks c.settle.ensures.stays.rests));
                said = known _ script s is (at_end_said view answers marks new_view script left next u v had has old there first seen so r w new asks (c.settle.ensures.steps seen).fed.said);
              };
              copied = known _ script s is (at_end_copied view answers marks new_view script left next u v had has old there first seen so asks);
            };
          });
      held =
          held_there view answers marks new_view script left left u v had has old there first seen so
          new c.settle.ensures.stays.base;
      seen =
          at_end_seen view answers marks new_view script left next u v had has old there first seen so
          r (g.H.Host.seen c.args.host.now) (g.H.Host.seen c.loop-asked.host) asks c.loop-asked.invariant.told;
      fault = if_of_writer (g.S.Asking.overlong c.args.orders.now) (script_at g.S.Asking.script old c.args.orders.now) g.W.Sink.HasRoom r (c.settle.ensures.steps seen).fault;
      all_out = λ alone. on_ok_weaker r (λ settled. settled.all_out) (c.settle.ensures.settled alone);
      in_time = λ alone none.
          at_ok r (pace_still c.args.pace None there new c.settle.ensures.stays.stands c.settle.ensures.stays.base.head
          (subst (λ (s : Option ℕ). KeepsPace c.args.pace s there) (c.loop-asked.invariant.unheld none) (c.loop-asked.invariant.in_time alone)));
    }

pub loop-asked-preserved : goal.loop-asked-preserved
loop-asked-preserved g c =
    let view = g.D.Disk.view in
    let answers = g.L.Law.answers in
    let marks = g.W.Voice.marks in
    let new_view = g.H.New.Disk.view in
    let had = g.H.Host.copies c.args.host.now in
    let script = script_at g.S.Asking.script (g.E.Obey.keeping c.args.self.now.engine) c.args.orders.now in
    let left = script_at g.S.Asking.script (g.E.Obey.keeping c.loop-asked.self.engine) c.loop-asked.orders in
    let u = g.W.Sink.contents c.args.self.now.writer in
    let v = g.W.Sink.contents c.loop-asked.self.writer in
    let has = g.H.Host.copies c.loop-asked.host in
    let old = g.E.Obey.keeping c.args.self.now.engine in
    let there = g.E.Obey.keeping c.loop-asked.self.engine in
    let first = seen_at c.args.pace (g.E.Obey.keeping c.args.self.now.engine).standing.epoch in
    let seen = c.loop-asked.seen in
    let so = c.loop-asked.invariant.obeyed in
    let w = g.W.Sink.contents c.obey.new.self.writer in
    let then = g.H.Host.copies c.obey.new.host in
    let new = g.E.Obey.keeping c.obey.new.self.engine in
    let asked = c.in-Some-2.asked in
    let next = next_script g.S.Asking.script there (Some asked) c.next_asked.new.self in
    let asks : Asks left next (Some asked) =
    asks_there g.S.Asking.script there c.room_of-room.result.told c.room_of-room.result.last c.loop-asked.orders c.next_asked.new.self (Some asked)
    (ap (λ (r : Room). r.told) c.room_of-room.ensures ∙ ap (λ (k : Keeping g.row.D.Denot). last_epoch k.standing) c.keeper-keeper.ensures) (ap (λ (r : Room). r.last) c.room_of-room.ensures ∙ ap (λ (k : Keeping g.row.D.Denot). last_request k.standing) c.keeper-keeper.ensures)
    (subst (AsksFrom g.S.Asking.script c.room_of-room.result.told c.room_of-room.result.last c.loop-asked.orders c.next_asked.new.self) c.in-Some-2.is c.in_ok-asked.ensures.asked) in
    let same = c.allow-in-loop-asked.ensures in
    let told = c.tell_seen-in-loop-asked.ensures in
    let fed : FeedsCopying view answers marks new_view done v w has then there new (new_to there (asked_for asked)) (notes_for asked) =
    subst (λ (k : Keeping g.row.D.Denot). FeedsCopying view answers marks new_view done v w has then k new (new_to k (asked_for asked)) (notes_for asked)) same
    (subst (λ (h : Option (List (Copied g.row.H-New.Denot))). FeedsCopying view answers marks new_view done v w h then (g.E.Obey.keeping c.allow-in-loop-asked.new.self) new (new_to (g.E.Obey.keeping c.allow-in-loop-asked.new.self) (asked_for asked)) (notes_for asked)) told.copies c.in_ok-obey.ensures.does.fed) in
    let disk : KeepsDisk g.D.Disk.view done there.device new.device =
    subst (λ (k : Keeping g.row.D.Denot). KeepsDisk g.D.Disk.view done k.device new.device) same c.in_ok-obey.ensures.does.disk in
    let later = c.in_ok-next.next in
    let before = g.H.Host.seen c.args.host.now in
    record {
      obeyed =
          subst (λ (more : Option Script). HasObeyed view answers marks new_view script more u w had then old new first later) (next_there g.S.Asking.script answers there new asked c.next_asked.new.self fed.fed.carried)
          (some_obeyed view answers marks new_view script left next u v w had has then old there new asked first seen so asks later c.in_ok-next.ensures.ok
          (subst (λ (k : Keeping g.row.D.Denot). KeepsTo later k new) same c.obey.ensures.does.held) disk.lawful.0 tt fed);
      disk = disk_then c.loop-asked.invariant.disk disk;
      told =
          c.obey.ensures.seen ∙ told.seen ∙ ap (λ (o : Option ℕ). told_seen o later) c.loop-asked.invariant.told
          ∙ told_on view answers marks new_view script left next u v w had has then old there new asked first seen so asks later before c.in_ok-next.ensures.ok;
      overlong = λ is. c.loop-asked.invariant.overlong (c.in_ok-asked.ensures.overlong is);
      unheld = λ none. c.in_ok-next.ensures.ok ∙ ap (λ (s : Option ℕ). seen_with s asked) (c.loop-asked.invariant.unheld none);
      in_time = λ alone. c.in_ok-obey.ensures.in_time alone;
    }

pub returns-in_err-obey : goal.returns-in_err-obey
returns-in_err-obey g c =
    let view = g.D.Disk.view in
    let answers = g.L.Law.answers in
    let marks = g.W.Voice.marks in
    let new_view = g.H.New.Disk.view in
    let had = g.H.Host.copies c.args.host.now in
    let script = script_at g.S.Asking.script (g.E.Obey.keeping c.args.self.now.engine) c.args.orders.now in
    let left = script_at g.S.Asking.script (g.E.Obey.keeping c.loop-asked.self.engine) c.loop-asked.orders in
    let u = g.W.Sink.contents c.args.self.now.writer in
    let v = g.W.Sink.contents c.loop-asked.self.writer in
    let has = g.H.Host.copies c.loop-asked.host in
    let old = g.E.Obey.keeping c.args.self.now.engine in
    let there = g.E.Obey.keeping c.loop-asked.self.engine in
    let first = seen_at c.args.pace (g.E.Obey.keeping c.args.self.now.engine).standing.epoch in
    let seen = c.loop-asked.seen in
    let so = c.loop-asked.invariant.obeyed in
    let w = g.W.Sink.contents c.obey.new.self.writer in
    let then = g.H.Host.copies c.obey.new.host in
    let new = g.E.Obey.keeping c.obey.new.self.engine in
    let asked = c.in-Some-2.asked in
    let next = next_script g.S.Asking.script there (Some asked) c.next_asked.new.self in
    let asks : Asks left next (Some asked) =
    asks_there g.S.Asking.script there c.room_of-room.result.told c.room_of-room.result.last c.loop-asked.orders c.next_asked.new.self (Some asked)
    (ap (λ (r : Room). r.told) c.room_of-room.ensures ∙ ap (λ (k : Keeping g.row.D.Denot). last_epoch k.standing) c.keeper-keeper.ensures) (ap (λ (r : Room). r.last) c.room_of-room.ensures ∙ ap (λ (k : Keeping g.row.D.Denot). last_request k.standing) c.keeper-keeper.ensures)
    (subst (AsksFrom g.S.Asking.script c.room_of-room.result.told c.room_of-room.result.last c.loop-asked.orders c.next_asked.new.self) c.in-Some-2.is c.in_ok-asked.ensures.asked) in
    let same = c.allow-in-loop-asked.ensures in
    let r = c.from_residual-in_err-obey.result in
    let e = c.in_err-obey.field-0.0 in
    let fed : FeedsCopying view answers marks new_view (as_err (Unit {0}) e) v w has then there new (new_to there (asked_for asked)) (notes_for asked) =
    subst (λ (k : Keeping g.row.D.Denot). FeedsCopying view answers marks new_view (as_err (Unit {0}) e) v w has then k new (new_to k (asked_for asked)) (notes_for asked)) same
    (subst (λ (h : Option (List (Copied g.row.H-New.Denot))). FeedsCopying view answers marks new_view (as_err (Unit {0}) e) v w h then (g.E.Obey.keeping c.allow-in-loop-asked.new.self) new (new_to (g.E.Obey.keeping c.allow-in-loop-asked.new.self) (asked_for asked)) (notes_for asked))
    c.tell_seen-in-loop-asked.ensures.copies c.in_err-obey.ensures.does.fed) in
    let later = c.in_ok-next.next in
    let before = g.H.Host.seen c.args.host.now in
    record {
      disk =
          disk_then c.loop-asked.invariant.disk
          (disk_handed r c.from_residual-in_err-obey.ensures.1
          (subst (λ (k : Keeping g.row.D.Denot). KeepsDisk view (as_err (Unit {0}) e) k.device new.device) same c.in_err-obey.ensures.does.disk));
      fed =
          in_some_is script
          (λ s is.
          let later : (m : List Aside) × ComeOf (notes_in s.orders) ((so.answered ++ fed.done) ++ m) × MakesCopies view new_view answers (copied_in ((so.answered ++ fed.done) ++ m)) had then old (new_to old (submissions s.orders)) =
          known _ script s is (came_left view answers marks new_view script left next u v w had has then old there new asked first seen so asks fed.done fed.came fed.copied) in
          err_fed _ r ((so.answered ++ fed.done) ++ later.0) c.from_residual-in_err-obey.ensures.1 later.1
          (known _ script s is (some_refused view answers marks new_view script left next u v w had has then old there new asked first seen so asks fed.fed.left))
          (handed_on view answers marks r e u v w old there new (new_to old (submissions so.done)) (new_to there (asked_for asked)) (new_to old (submissions s.orders)) so.answered fed.done later.0 ((so.answered ++ fed.done) ++ later.0) refl
          (known _ script s is (some_later view answers marks new_view script left next u v w had has then old there new asked first seen so asks)) c.from_residual-in_err-obey.ensures.1 so.said fed.fed.said)
          later.2);
      held =
          some_held view answers marks new_view script left next u v w had has then old there new asked first seen
          so asks later c.in_ok-next.ensures.ok
          (subst (λ (k : Keeping g.row.D.Denot). KeepsTo later k new) same c.obey.ensures.does.held);
      seen =
          some_seen view answers marks new_view script left next u v w had has then old there new asked first seen so asks
          r later before (g.H.Host.seen c.obey.new.host) (is_err _ r c.from_residual-in_err-obey.ensures.1) c.in_ok-next.ensures.ok
          (c.obey.ensures.seen ∙ c.tell_seen-in-loop-asked.ensures.seen ∙ ap (λ (o : Option ℕ). told_seen o later) c.loop-asked.invariant.told
          ∙ told_on view answers marks new_view script left next u v w had has then old there new asked first seen so asks later before c.in_ok-next.ensures.ok);
      fault =
          handed_of_writer (g.S.Asking.overlong c.args.orders.now) (script_at g.S.Asking.script old c.args.orders.now) g.W.Sink.HasRoom
          r e c.from_residual-in_err-obey.ensures.1 c.in_err-obey.ensures.does.fault;
      all_out = λ alone. none_ok _ r (is_err _ r c.from_residual-in_err-obey.ensures.1);
      in_time = λ alone none. none_ok _ r (is_err _ r c.from_residual-in_err-obey.ensures.1);
    }
