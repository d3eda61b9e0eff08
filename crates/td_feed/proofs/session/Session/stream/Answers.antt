use Rattle.std.proofs.Common.{◌≡◌, ◌==◌, Bool, true, false, ℕ, ◌≤◌, arith, List, [], ◌++◌, length, refl, sym, ap, ◌∙◌, subst, inl, inr, ⊎_elim}
use Rattle.std.specs.Prelude.{◌⊎◌, Option, None, option_map, IfSome, IfErr, Result, Ok, Err, OnOk, All}
use Rattle.td_plan.specs.Lines.{Line}
use Rattle.td_disk.specs.Disk.{DiskState, Rises, IsDurable}
use Rattle.td_gate.specs.CrashSafe.{CrashSafe, Unchanged}
use Rattle.td_journal.specs.declared.payload.Submitted.{Submitted}
use Rattle.td_store.specs.declared.standing.error.KeeperError.{KeeperError}
use Rattle.td_store.specs.standing.Told.{Told}
use Rattle.td_store.specs.standing.Read.{Refused}
use Rattle.td_store.specs.standing.Stops.{Stands}
use Rattle.td_store.specs.standing.Advanced.{states_by, HeldWhere}
use Rattle.td_journal.specs.Numbers.{greatest}
use Rattle.td_watch.specs.View.{View}
use Rattle.td_keeper.specs.Keeping.{Keeping, IsKeeping, EachKeepsTo, EverKeepsTo, KeepsSince, HasPublished, words_of}
use Rattle.td_orders.specs.declared.order.Order.{Order}
use Rattle.td_feed.specs.Held.{seen_after, first_seen, then_seen, TellsSeen, GoesUpTo, KeepsTo}
use Rattle.td_feed.specs.Copied.{IsCopyOf}
use Rattle.td_feed.specs.Said.{SaysFrom}
use Rattle.td_feed.proofs.Copies.{with_none}
use Rattle.td_feed.proofs.Held.{seen_on, seen_further}
use Rattle.td_orders.specs.Orders.{submissions, new_after}
use Rattle.td_store.specs.standing.Standing.{last_epoch, last_request}
use Rattle.td_orders.specs.Scripts.{Script, script_of}
use Rattle.td_orders.specs.Lines.{has_overlong}
use Rattle.td_orders.specs.Placed.{placed}
use Rattle.td_store.specs.standing.Tells.{Keeps}
use Rattle.td_console.specs.declared.faults.Fault.{Fault}
use Rattle.td_feed.specs.Fed.{EachTellsHistory, EachTellsSome, TellsOnward, HasRoom}
use Rattle.td_feed.specs.Stepping.{IsInTime, KeepsPace}
use Rattle.td_feed.specs.Carried.{new_to, Carries}
use Rattle.td_feed.specs.Session.{limit_of, pace_of, wanted_by, asked_at, KeepsDisk, FeedsScript}
use Rattle.td_feed.proofs.Newness.{last_of_history}
use Rattle.td_feed.proofs.Placed.{still_sound, seen_placed}
use Rattle.td_feed.proofs.Carrying.{as_long, in_some, ended_some, ended_all, none_more, still_each, found}
use Rattle.td_feed.proofs.Counting.{as_err, fault_of, lack_no_device}
use Rattle.td_feed.proofs.Lines.{fed_says, says_copies, always_driven}
use Rattle.td_feed.proofs.Moments.{onward_still, onward_ever}
use Rattle.td_keeper.specs.Driven.{submitted_by}
use Rattle.std.proofs.lemmas.List.Elements.{All-nil}
use Rattle.td_report.specs.RefusedProofs.{refused}
use Rattle.std.proofs.lemmas.Result.{on_ok_weaker}
use Rattle.td_feed.specs.Caused.{IsOfStream}
use Rattle.td_feed.proofs.Causes.{is_other, other_keeper, other_lack, refused_before, refused_at}
use Rattle.td_feed.proofs.Sessions.{mapped, in_some_is, left_of, disk_same, disk_then, disk_recovered, disk_refused, refused_by}
use Rattle.td_feed.proofs.session.Session.stream.Goals as goal

-- the limit is that of the disk, where there is one
within : (refuse : Bool) (records : ℕ) → IfSome (limit_of refuse records) (λ most. most ≡ records)
within true records = refl
within false records = tt

-- two things of a feed that ended well
on_ok_both : {P Q R : Type 0} (r : Result (Unit {0}) Fault) → (P → Q → R) → OnOk r P → OnOk r Q → OnOk r R
on_ok_both (Ok d) both p q = both p q
on_ok_both (Err f) both p q = tt

-- no cut is due, where no outputs are held
none_due : {D : Type 0} (every : Option ℕ) (k : Keeping D) → IsInTime every None k → (length k.standing.submitted ≡ 0) ⊎ HasRoom every k.head.shape.n k.standing
none_due every k (inl (inl none)) = inl none
none_due every k (inl (inr never)) = absurd never
none_due every k (inr room) = inr room

-- what a crash may leave, it might have left before
beyond : (plan : List Line) (old new : DiskState) (kept last : ℕ) → CrashSafe Unchanged old new → ((c : List ℕ) → new.images c → new.since old.moment c) → kept ≤ last → EachKeepsTo plan kept old → EachKeepsTo plan last new
beyond plan old new kept last safe counts on each c image s told =
    let from = safe.each c (counts c image) in
    let low = each from.0 from.1 s (subst (λ (i : List ℕ). Told plan i (Ok s)) from.2 told) in
    omega (arith, low, on)

-- and so at each moment since, where nothing was written at first, and then nothing was kept beyond a base
ever : (plan : List Line) (old mid new : DiskState) (kept base last : ℕ) → CrashSafe Unchanged old mid → KeepsSince plan base mid new → kept ≤ last → base ≤ last → EachKeepsTo plan kept old → EverKeepsTo plan last old.moment new
ever plan old mid new kept base last safe short on most each c left s told = ⊎_elim
    (λ was.
    let from = safe.each c was in
    let low = each from.0 from.1 s (subst (λ (i : List ℕ). Told plan i (Ok s)) from.2 told) in
    omega (arith, low, on))
    (λ keeps. let low = keeps s told in omega (arith, low, most))
    (short old.moment c safe.later left)

-- where outputs are held
held_by : {D : Type 0} {old new : Keeping D} (hold : Bool) (kept : ℕ) (orders : List Order) → hold ≡ true → KeepsTo (then_seen (first_seen hold kept) orders) old new → GoesUpTo (seen_after kept orders) old new
held_by true kept orders is keeps = keeps
held_by false kept orders is keeps = absurd (let no = is in cc)

pub returns-in-Err-clause-disk : goal.returns-in-Err-clause-disk
returns-in-Err-clause-disk g c = disk_same _ refl (λ is. lack_no_device c.in-Err.lack (ap (as_err (Unit {0})) (sym c.lack_fault.ensures.fault ∙ fault_of _ _ is)))

pub returns-in-Err-clause-fed : goal.returns-in-Err-clause-fed
returns-in-Err-clause-fed g c = λ none. absurd (let some = c.in-Err.ensures.err in cc)

pub returns-in-Err-recover-clause-disk : goal.returns-in-Err-recover-clause-disk
returns-in-Err-recover-clause-disk g c = disk_refused c.in-Err-recover.refusal c.from.result c.from.ensures c.in-Err-recover.ensures.device

pub returns-in-Err-recover-clause-fed : goal.returns-in-Err-recover-clause-fed
returns-in-Err-recover-clause-fed g c = λ fits.
    let recover = c.in-Err-recover.ensures in
    let view = g.D.Disk.view in
    let new = c.in-Err-recover.disk in
    let rose = Rises (g.D.Disk.view c.args.disk).failures (g.D.Disk.view new).failures in
    let tells = λ (e : KeeperError). (g.D.Disk.view c.args.disk).lawful → IsDurable (view new).state × Told c.args.self.now.plan.now (view new).state.bytes (Refused e) in
    in_some (g.I.Source.remaining c.args.reader)
    (λ input.
    record {
      streams = record {
        records = 0;
        sound = tt;
        no_gap = tt;
        fed = record {
          fed = tt;
          safe = λ lawful history told.
              let answers = g.L.Law.answers in
              let old = c.args.disk in
              let new = c.in-Err-recover.disk in
              let plan = c.args.self.now.plan.now in
              let safe : CrashSafe Unchanged (view old).state (view new).state = c.in-Err-recover.ensures.crash_safe lawful in
              none_more answers plan history (new_after (greatest 0 history) (submissions (placed c.args.options.refuse (length history) (greatest 0 history) (script_of c.args.options.placing c.args.options.hold c.args.options.questions c.args.options.copies (limit_of c.args.options.refuse 0) plan input)).orders)) (view new).state
              (still_each answers plan history (view old).state (view new).state safe
              (λ i image. g.met.D.Disk.counts_now new (view old).state.moment i (c.in-Err-recover.ensures.device.lawful.0 lawful) safe.later image) told);
          ever = λ lawful history told image was.
              onward_still g.L.Law.answers c.args.self.now.plan.now history
              (new_after (greatest 0 history) (submissions (placed c.args.options.refuse (length history) (greatest 0 history) (script_of c.args.options.placing c.args.options.hold c.args.options.questions c.args.options.copies (limit_of c.args.options.refuse 0) c.args.self.now.plan.now input)).orders))
              image (view c.args.disk).state (view new).state (recover.crash_safe lawful) told was;
          said = inl (record {
            refused = refused rose tells c.in-Err-recover.refusal c.from.result c.from.ensures (λ failed. recover.device.counts.rises (ap (refused_by (Keeping g.row.D.Denot)) failed)) recover.refused;
            unwritten = recover.crash_safe;
            said = refl;
          });
        };
        in_time = λ alone unheld. tt;
        held = λ hold lawful kept each.
            let safe : CrashSafe Unchanged (view c.args.disk).state (view new).state = recover.crash_safe lawful in
            let orders = (script_of c.args.options.placing c.args.options.hold c.args.options.questions c.args.options.copies (limit_of c.args.options.refuse 0) c.args.self.now.plan.now input).orders in
            beyond c.args.self.now.plan.now (view c.args.disk).state (view new).state kept (seen_after kept orders) safe
            (λ i image. g.met.D.Disk.counts_now new (view c.args.disk).state.moment i (recover.device.lawful.0 lawful) safe.later image) (seen_on kept orders) each;
        ever_held = λ hold lawful kept each.
            let orders = (script_of c.args.options.placing c.args.options.hold c.args.options.questions c.args.options.copies (limit_of c.args.options.refuse 0) c.args.self.now.plan.now input).orders in
            ever c.args.self.now.plan.now (view c.args.disk).state (view new).state (view new).state kept (seen_after kept orders) (seen_after kept orders) (recover.crash_safe lawful) (λ t i le left. inl left) (seen_on kept orders) (omega arith) each;
      };
      copied = record {
        made = [];
        kept = sym (with_none (g.H.Host.copies c.args.host));
        labelled = refl;
        each = λ lawful history told.
            All-nil (IsCopyOf g.H.New.Disk.view g.L.Law.answers c.args.self.now.plan.now
            (history ++ new_after (greatest 0 history) (submissions (placed c.args.options.refuse (length history) (greatest 0 history) (script_of c.args.options.placing c.args.options.hold c.args.options.questions c.args.options.copies (limit_of c.args.options.refuse 0) c.args.self.now.plan.now input)).orders)));
      };
    })

pub returns-clause-disk : goal.returns-clause-disk
returns-clause-disk g c =
    let view = g.D.Disk.view in
    let r = c.serve_lines-served.result.ended in
    subst (λ (d : g.row.D.Denot). KeepsDisk view r c.args.disk d) (sym c.disk_and_watch-disk.ensures.disk)
    (disk_then (disk_recovered c.in-Ok.ensures.device)
    (subst (λ (d : g.row.D.Denot). KeepsDisk view r d c.serve_lines-served.result.keeper.device) c.watched-keeper.ensures.device c.serve_lines-served.ensures.disk))

pub returns-clause-fed : goal.returns-clause-fed
returns-clause-fed g c = λ fits.
    let view = g.D.Disk.view in
    let answers = g.L.Law.answers in
    let marks = g.W.Voice.marks in
    let plan = c.args.self.now.plan.now in
    let old = c.args.disk in
    let keeper : Keeping g.row.D.Denot = (record c.in-Ok.keeper { watch = c.watched-keeper.ensures.aside.0 }) in
    let new = c.serve_lines-served.result.keeper in
    let r = c.serve_lines-served.result.ended in
    let u = g.W.Sink.contents c.args.writer in
    let v = g.W.Sink.contents c.serve_lines-served.result.writer in
    let held = c.disk_and_watch-disk.ensures.held in
    let remaining = g.I.Source.remaining c.args.reader in
    let refuse = c.args.options.refuse in
    in_some_is remaining
    (λ input is.
    let fed = mapped _ (asked_at c.args.options plan c.watched-keeper.result) remaining input is c.serve_lines-served.ensures.fed in
    let script_at : Keeping g.row.D.Denot → Script =
    λ k. placed refuse (last_epoch k.standing) (last_request k.standing) (script_of c.args.options.placing c.args.options.hold c.args.options.questions c.args.options.copies (limit_of refuse k.head.shape.m) plan input) in
    let keeps : KeepsTo (then_seen (first_seen c.args.options.hold keeper.standing.epoch) (script_at keeper).orders) keeper new =
    subst (λ (k : Keeping g.row.D.Denot). KeepsTo (then_seen (first_seen c.args.options.hold k.standing.epoch) (script_at k).orders) k new) c.watched-keeper.ensures.aside.1 (mapped _ (asked_at c.args.options plan c.watched-keeper.result) remaining input is c.serve_lines-served.ensures.held) in
    let limit : Option ℕ = limit_of refuse keeper.head.shape.m in
    let told : ℕ = last_epoch keeper.standing in
    let last : ℕ = last_request keeper.standing in
    let raw : Script = script_of c.args.options.placing c.args.options.hold c.args.options.questions c.args.options.copies limit plan input in
    let asked : Script = placed refuse told last raw in
    let wanted : List Submitted = submissions asked.orders in
    let more : List Submitted = new_to keeper wanted in
    let new_view = g.H.New.Disk.view in
    let had = g.H.Host.copies c.args.host in
    let has = g.H.Host.copies c.serve_lines-served.result.host in
    let whole : FeedsScript view answers marks new_view r u v had has keeper new asked =
    subst (λ (k : Keeping g.row.D.Denot). FeedsScript view answers marks new_view r u v had has k new (script_at k)) c.watched-keeper.ensures.aside.1 fed in
    let feeds = whole.fed.fed in
    let stands = λ (lawful : (view old).lawful) (history : List Submitted) (told : EachTellsHistory answers plan history (view old).state).
    let safe : CrashSafe Unchanged (view old).state (view keeper.device).state = c.in-Ok.ensures.crash_safe lawful in
    found answers plan history (view old).state (view keeper.device).state safe
    (λ i image. g.met.D.Disk.counts_now keeper.device (view old).state.moment i (c.in-Ok.ensures.device.lawful.0 lawful) safe.later image) told
    c.told_in_parts.ensures.one_answer (g.met.D.Disk.reads_image keeper.device (c.in-Ok.ensures.device.lawful.0 lawful)) keeper.standing (c.in-Ok.ensures.told lawful) in
    let by_keeper = λ (history : List Submitted) (is : Stands (states_by answers plan) keeper.standing history).
    subst (λ (p : List Line). Stands (states_by answers p) keeper.standing history) (sym c.in-Ok.ensures.plan) is in
    let also : (history : List Submitted) → Stands (states_by answers plan) keeper.standing history
    → more ≡ new_after (greatest 0 history) (submissions (placed refuse (length history) (greatest 0 history) raw).orders) =
    λ history is.
    let first = last_of_history answers plan keeper.standing history is in
    let long = sym (as_long answers plan keeper.standing history is) in
    λ i. new_after (first i) (submissions (placed refuse (long i) (first i) raw).orders) in
    let left_lawful : (view old).lawful → (view new.device).lawful = λ lawful. c.serve_lines-served.ensures.disk.lawful.0 (subst (λ (d : g.row.D.Denot). (view d).lawful) (sym c.watched-keeper.ensures.device) (c.in-Ok.ensures.device.lawful.0 lawful)) in
    let driven = always_driven view answers marks r u v keeper new more whole.fed.done feeds.said in
    let goes = λ (hold : c.args.options.hold ≡ true). held_by {old = keeper} {new = new} c.args.options.hold keeper.standing.epoch asked.orders hold keeps in
    let most = λ (hold : c.args.options.hold ≡ true) (lawful : (view old).lawful) (kept : ℕ) (each : EachKeepsTo plan kept (view old).state).
    let safe : CrashSafe Unchanged (view old).state (view keeper.device).state = c.in-Ok.ensures.crash_safe lawful in
    let there : EachKeepsTo plan kept (view keeper.device).state = beyond plan (view old).state (view keeper.device).state kept kept safe
    (λ i image. g.met.D.Disk.counts_now keeper.device (view old).state.moment i (c.in-Ok.ensures.device.lawful.0 lawful) safe.later image) (omega arith) each in
    let low : keeper.standing.epoch ≤ kept = there (view keeper.device).state.bytes (g.met.D.Disk.reads_image keeper.device (c.in-Ok.ensures.device.lawful.0 lawful)) keeper.standing (c.in-Ok.ensures.told lawful) in
    let base : keeper.base ≡ keeper.standing.epoch = c.in-Ok.ensures.fresh.base in
    let on = seen_on kept asked.orders in
    let further = seen_further keeper.standing.epoch kept asked.orders low in
    (goes hold).base (seen_after kept asked.orders) further (omega (arith, base, low, on)) in
    let from : SaysFrom view answers marks r plan (c.args.self.now.workers == 1) old c.disk_and_watch-disk.result.0 u v (wanted_by refuse limit raw) =
    record {
      keeper = c.in-Ok.keeper;
      fresh = c.in-Ok.ensures.fresh;
      plan_is = c.in-Ok.ensures.plan;
      told = c.in-Ok.ensures.told;
      watch = c.watched-keeper.ensures.aside.0;
      kept = subst (λ (k : Keeping g.row.D.Denot). IsKeeping k answers) c.watched-keeper.ensures.aside.1 c.each_is_kept.ensures;
      lawful = c.in-Ok.ensures.device.lawful.0;
      unwritten = c.in-Ok.ensures.crash_safe;
      found = c.in-Ok.ensures.kept;
      ended = new;
      left_is = c.disk_and_watch-disk.ensures.disk;
      lawful_left = λ lawful. subst (λ (d : g.row.D.Denot). (view d).lawful) (sym c.disk_and_watch-disk.ensures.disk) (left_lawful lawful);
      holds = subst (λ (d : g.row.D.Denot). (view d).lawful → HeldWhere new.broken answers new.plan new.head new.side new.standing (view d).state) (sym c.disk_and_watch-disk.ensures.disk) held;
      limit = within c.args.options.refuse keeper.head.shape.m;
      notes = whole.fed.done;
      came = whole.fed.came;
      said = feeds.said;
      all_out = c.serve_lines-served.ensures.all_out;
    } in
    let copied = whole.fed.copied in
    record {
      streams = record {
        records = keeper.head.shape.m;
        sound = on_ok_weaker r (λ (is : asked.fault ≡ None). still_sound raw.fault refuse told last raw.orders is) whole.sound;
        no_gap = on_ok_weaker r (λ (is : asked.fault ≡ None) lawful history known.
            let stood = stands lawful history known in
            let first = sym (last_of_history answers plan keeper.standing history stood) in
            let long = as_long answers plan keeper.standing history stood in
            (λ i. (placed refuse (long i) (first i) raw).fault) ∙ is) whole.sound;
        fed = record {
          fed = on_ok_weaker r (λ (carries : Carries answers keeper new more) lawful history told.
              let is = stands lawful history told in
              subst (λ (l : List Submitted). EachTellsHistory answers plan (history ++ l) (view c.disk_and_watch-disk.result.0).state) (also history is)
              (subst (λ (d : g.row.D.Denot). EachTellsHistory answers plan (history ++ more) (view d).state) (sym c.disk_and_watch-disk.ensures.disk)
              (subst (λ (p : List Line). EachTellsHistory answers p (history ++ more) (view new.device).state) c.in-Ok.ensures.plan
              (ended_all view answers c.told_in_parts.ensures.together keeper new history more (by_keeper history is) carries held (left_lawful lawful))))) feeds.carried;
          safe = λ lawful history told.
              let is = stands lawful history told in
              subst (λ (l : List Submitted). EachTellsSome answers plan history l (view c.disk_and_watch-disk.result.0).state) (also history is)
              (subst (λ (d : g.row.D.Denot). EachTellsSome answers plan history more (view d).state) (sym c.disk_and_watch-disk.ensures.disk)
              (subst (λ (p : List Line). EachTellsSome answers p history more (view new.device).state) c.in-Ok.ensures.plan
              (ended_some view answers c.told_in_parts.ensures.together keeper new history more (by_keeper history is) (left_of r feeds) held (left_lawful lawful))));
          ever = λ lawful history told image was.
              let is = stands lawful history told in
              let sound = c.in-Ok.ensures.device.lawful.0 lawful in
              let advances = c.driven_advances.ensures driven.commands driven.replies keeper new from.kept sound c.in-Ok.ensures.fresh.whole driven.driven in
              subst (λ (l : List Submitted). TellsOnward answers plan history l image) (also history is)
              (onward_ever answers plan history more image c.advance_stands.ensures.each keeper.plan keeper.standing (submitted_by driven.commands driven.replies) (view old).state (view keeper.device).state (view new.device).state
              c.in-Ok.ensures.plan (c.in-Ok.ensures.crash_safe lawful) is (advances.since c.in-Ok.ensures.fresh.whole) driven.submitted told
              (subst (λ (d : g.row.D.Denot). (view d).state.since (view old).state.moment image) c.disk_and_watch-disk.ensures.disk was));
          said = fed_says view answers marks r plan (c.args.self.now.workers == 1) old c.disk_and_watch-disk.result.0 u v (wanted_by refuse limit raw) from;
        };
        in_time = λ alone unheld.
            on_ok_both r (λ (carries : Carries answers keeper new more) (in_time : KeepsPace (pace_of c.args.options) None new) lawful.
            let sound = left_lawful lawful in
            record {
              head = new.head;
              side = new.side;
              standing = new.standing;
              keeps =
                  subst (λ (d : g.row.D.Denot). Keeps plan new.head new.side new.standing (view d).state) (sym c.disk_and_watch-disk.ensures.disk)
                  (subst (λ (p : List Line). Keeps p new.head new.side new.standing (view new.device).state) (carries.plan ∙ c.in-Ok.ensures.plan)
                  (subst (λ (b : Bool). HeldWhere b answers new.plan new.head new.side new.standing (view new.device).state) carries.whole (held sound)));
              in_time = none_due c.args.options.cut_every new in_time;
            }) feeds.carried (c.serve_lines-served.ensures.in_time alone (ap (λ (b : Bool). first_seen b c.watched-keeper.result.standing.epoch) unheld));
        held = λ hold lawful kept each.
            let at_most = most hold lawful kept each in
            let said = seen_placed raw.fault refuse told last raw.orders kept in
            subst (λ (d : g.row.D.Denot). EachKeepsTo plan (seen_after kept raw.orders) (view d).state) (sym c.disk_and_watch-disk.ensures.disk)
            (subst (λ (p : List Line). EachKeepsTo p (seen_after kept raw.orders) (view new.device).state) ((goes hold).plan ∙ c.in-Ok.ensures.plan)
            (λ i image t told. let low = c.each_keeps_to_its_base.ensures (left_lawful lawful) i image t told in omega (arith, low, at_most, said)));
        ever_held = λ hold lawful kept each.
            let short = (c.driven_keeps_to_its_base.ensures driven.commands driven.replies keeper new (c.in-Ok.ensures.device.lawful.0 lawful) driven.driven).1 in
            let at_most = most hold lawful kept each in
            let said = seen_placed raw.fault refuse told last raw.orders kept in
            let far : new.base ≤ seen_after kept raw.orders = omega (arith, at_most, said) in
            subst (λ (d : g.row.D.Denot). EverKeepsTo plan (seen_after kept raw.orders) (view old).state.moment (view d).state) (sym c.disk_and_watch-disk.ensures.disk)
            (ever plan (view old).state (view keeper.device).state (view new.device).state kept new.base (seen_after kept raw.orders) (c.in-Ok.ensures.crash_safe lawful)
            (subst (λ (p : List Line). KeepsSince p new.base (view keeper.device).state (view new.device).state) c.in-Ok.ensures.plan short) (seen_on kept raw.orders) far each);
      };
      copied = record {
        made = copied.made;
        kept = copied.kept;
        labelled = copied.labelled ∙ sym (says_copies view answers marks r plan (c.args.self.now.workers == 1) old c.disk_and_watch-disk.result.0 u v (wanted_by refuse limit raw) from);
        each = λ lawful history told.
            let is = stands lawful history told in
            subst (λ (l : List Submitted). All (IsCopyOf new_view answers plan (history ++ l)) copied.made) (also history is)
            (subst (λ (p : List Line). All (IsCopyOf new_view answers p (history ++ more)) copied.made) c.in-Ok.ensures.plan
            (copied.each (c.in-Ok.ensures.device.lawful.0 lawful) history (by_keeper history is)));
      };
    })

pub returns-in-Err-clause-fault : goal.returns-in-Err-clause-fault
returns-in-Err-clause-fault g c =
    in_some (g.I.Source.remaining c.args.reader)
    (λ input. refused_before g.D.Disk.view g.L.Law.answers g.W.Sink.HasRoom c.args.options c.lack_fault.result c.args.self.now.plan.now c.args.disk input (ap is_other c.lack_fault.ensures.fault ∙ other_lack c.in-Err.lack))

pub returns-in-Err-recover-clause-fault : goal.returns-in-Err-recover-clause-fault
returns-in-Err-recover-clause-fault g c =
    in_some (g.I.Source.remaining c.args.reader)
    (λ input. refused_before g.D.Disk.view g.L.Law.answers g.W.Sink.HasRoom c.args.options c.from.result c.args.self.now.plan.now c.args.disk input (ap is_other c.from.ensures ∙ other_keeper c.in-Err-recover.refusal))

pub returns-clause-fault : goal.returns-clause-fault
returns-clause-fault g c =
    let view = g.D.Disk.view in
    let answers = g.L.Law.answers in
    let has = g.W.Sink.HasRoom in
    let plan = c.args.self.now.plan.now in
    let old = c.args.disk in
    let keeper : Keeping g.row.D.Denot = (record c.in-Ok.keeper { watch = c.watched-keeper.ensures.aside.0 }) in
    let r = c.serve_lines-served.result.ended in
    let refuse = c.args.options.refuse in
    let remaining = g.I.Source.remaining c.args.reader in
    in_some_is remaining
    (λ input is.
    let script_at : Keeping g.row.D.Denot → Script =
    λ k. placed refuse (last_epoch k.standing) (last_request k.standing) (script_of c.args.options.placing c.args.options.hold c.args.options.questions c.args.options.copies (limit_of refuse k.head.shape.m) plan input) in
    refused_at view answers has c.args.options r plan old input keeper.head.shape.m (last_epoch keeper.standing) (last_request keeper.standing)
    (subst (λ (rest : Option (List ℕ)). IfErr r (IsOfStream (has_overlong rest) (script_at keeper) has)) is
    (subst (λ (k : Keeping g.row.D.Denot). IfErr r (IsOfStream (has_overlong remaining) (script_at k) has)) c.watched-keeper.ensures.aside.1 (mapped _ (asked_at c.args.options plan c.watched-keeper.result) remaining input is c.serve_lines-served.ensures.fault)))
    (λ lawful history known.
    let safe : CrashSafe Unchanged (view old).state (view keeper.device).state = c.in-Ok.ensures.crash_safe lawful in
    let stood =
    found answers plan history (view old).state (view keeper.device).state safe
    (λ i image. g.met.D.Disk.counts_now keeper.device (view old).state.moment i (c.in-Ok.ensures.device.lawful.0 lawful) safe.later image) known
    c.told_in_parts.ensures.one_answer (g.met.D.Disk.reads_image keeper.device (c.in-Ok.ensures.device.lawful.0 lawful)) keeper.standing (c.in-Ok.ensures.told lawful) in
    (sym (as_long answers plan keeper.standing history stood), last_of_history answers plan keeper.standing history stood)))

pub returns-in-Err-clause-told : goal.returns-in-Err-clause-told
returns-in-Err-clause-told g c = λ none. absurd (let some = c.in-Err.ensures.err in cc)

pub returns-in-Err-recover-clause-told : goal.returns-in-Err-recover-clause-told
returns-in-Err-recover-clause-told g c = λ fits. in_some (g.I.Source.remaining c.args.reader) (λ input. record { seen = inl (refl, refl); watch = record { same = refl; told = tt } })

pub returns-clause-told : goal.returns-clause-told
returns-clause-told g c = λ fits.
    let view = g.D.Disk.view in
    let plan = c.args.self.now.plan.now in
    let old = c.args.disk in
    let keeper : Keeping g.row.D.Denot = (record c.in-Ok.keeper { watch = c.watched-keeper.ensures.aside.0 }) in
    let r = c.serve_lines-served.result.ended in
    let refuse = c.args.options.refuse in
    let hold = c.args.options.hold in
    let before = g.H.Host.seen c.args.host in
    let after = g.H.Host.seen c.serve_lines-served.result.host in
    let remaining = g.I.Source.remaining c.args.reader in
    let answers = g.L.Law.answers in
    let marks = g.W.Voice.marks in
    let first = c.watched-keeper.result in
    let new = c.serve_lines-served.result.keeper in
    let u = g.W.Sink.contents c.args.writer in
    let v = g.W.Sink.contents c.serve_lines-served.result.writer in
    let had = g.H.Host.copies c.args.host in
    let has = g.H.Host.copies c.serve_lines-served.result.host in
    let apart = c.disk_and_watch-disk.ensures in
    in_some_is remaining
    (λ input known. record {
      seen =
          let orders_at : Keeping g.row.D.Denot → List Order =
          λ k. (placed refuse (last_epoch k.standing) (last_request k.standing) (script_of c.args.options.placing hold c.args.options.questions c.args.options.copies (limit_of refuse k.head.shape.m) plan input)).orders in
          inr (record {
            records = keeper.head.shape.m;
            standing = keeper.standing;
            told = λ lawful.
                let safe : CrashSafe Unchanged (view old).state (view keeper.device).state = c.in-Ok.ensures.crash_safe lawful in
                let sound = c.in-Ok.ensures.device.lawful.0 lawful in
                let was = safe.each (view keeper.device).state.bytes (g.met.D.Disk.counts_now keeper.device (view old).state.moment (view keeper.device).state.bytes sound safe.later (g.met.D.Disk.reads_image keeper.device sound)) in
                (was.0, was.1, subst (λ (i : List ℕ). Told plan i (Ok keeper.standing)) was.2 (c.in-Ok.ensures.told lawful));
            seen = subst (λ (k : Keeping g.row.D.Denot). TellsSeen r (first_seen hold k.standing.epoch) (orders_at k) before after) c.watched-keeper.ensures.aside.1 (mapped _ (asked_at c.args.options plan c.watched-keeper.result) remaining input known c.serve_lines-served.ensures.seen);
          });
      watch =
          let fed : FeedsScript view answers marks g.H.New.Disk.view r u v had has first new (asked_at c.args.options plan first input) = mapped _ (asked_at c.args.options plan first) remaining input known c.serve_lines-served.ensures.fed in
          let feeds = fed.fed.fed in
          let more : List Submitted = new_to first (submissions (asked_at c.args.options plan first input).orders) in
          let driven = always_driven view answers marks r u v first new more fed.fed.done feeds.said in
          let on = c.driven_publishes.ensures driven.commands driven.replies first new driven.driven in
          let words : HasPublished new.watch (words_of new) = on.words c.watched-keeper.ensures.published in
          record {
            same = ap (option_map (λ (v : View). v.watch)) apart.watch ∙ (on.same ∙ c.watched-keeper.ensures.watch);
            told = on_ok_weaker r (λ (carries : Carries answers first new more) lawful.
                let sound : (view new.device).lawful = c.serve_lines-served.ensures.disk.lawful.0 (subst (λ (d : g.row.D.Denot). (view d).lawful) (sym c.watched-keeper.ensures.device) (c.in-Ok.ensures.device.lawful.0 lawful)) in
                record {
                  head = new.head;
                  side = new.side;
                  standing = new.standing;
                  keeps =
                      subst (λ (d : g.row.D.Denot). Keeps plan new.head new.side new.standing (view d).state) (sym apart.disk)
                      (subst (λ (p : List Line). Keeps p new.head new.side new.standing (view new.device).state) (carries.plan ∙ (ap (λ (k : Keeping g.row.D.Denot). k.plan) c.watched-keeper.ensures.aside.1 ∙ c.in-Ok.ensures.plan))
                      (subst (λ (b : Bool). HeldWhere b answers new.plan new.head new.side new.standing (view new.device).state) carries.whole (apart.held sound)));
                  collected = new.collected;
                  published = subst (λ (w : Option View). HasPublished w (words_of new)) (sym apart.watch) words;
                }) feeds.carried;
          };
    })
