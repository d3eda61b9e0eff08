use Rattle.std.proofs.Common.{◌≡◌, false, ℕ, List, [], ◌++◌, refl, sym, ap, ◌∙◌, subst, inl}
use Rattle.std.proofs.lemmas.Option.{IfSome_then}
use Rattle.td_plan.specs.Lines.{Line}
use Rattle.td_disk.specs.Disk.{Rises, IsDurable}
use Rattle.td_gate.specs.CrashSafe.{CrashSafe, Unchanged}
use Rattle.td_journal.specs.declared.payload.Submitted.{Submitted}
use Rattle.td_store.specs.declared.standing.error.KeeperError.{KeeperError}
use Rattle.td_store.specs.standing.Told.{Told}
use Rattle.td_store.specs.standing.Read.{Refused}
use Rattle.td_store.specs.standing.Stops.{Stands}
use Rattle.td_store.specs.standing.Advanced.{states_by, HeldWhere}
use Rattle.td_journal.specs.Numbers.{greatest}
use Rattle.td_keeper.specs.Keeping.{Keeping}
use Rattle.td_orders.specs.Orders.{orders_of, submitted_by, new_after}
use Rattle.td_feed.specs.Fed.{EachTellsHistory, EachTellsSome, TellsOnward}
use Rattle.td_feed.specs.Carried.{new_to, Carries}
use Rattle.td_feed.specs.Said.{epochs_alone}
use Rattle.td_feed.specs.Session.{KeepsDisk, Feeds}
use Rattle.td_feed.proofs.Newness.{last_of_history}
use Rattle.td_feed.proofs.Carrying.{in_some, ended_some, ended_all, none_more, still_each, found}
use Rattle.td_feed.proofs.Counting.{as_err, fault_of, lack_no_device}
use Rattle.td_feed.proofs.Causes.{is_other, other_keeper, other_lack}
use Rattle.td_feed.proofs.Plain.{for_other}
use Rattle.td_feed.proofs.Lines.{fed_says, always_driven}
use Rattle.td_feed.proofs.Moments.{onward_still, onward_ever}
use Rattle.td_keeper.specs.Driven.{submitted_by as submitted_in}
use Rattle.td_report.specs.RefusedProofs.{refused}
use Rattle.std.proofs.lemmas.Result.{on_ok_weaker}
use Rattle.td_feed.proofs.Sessions.{left_of, disk_same, disk_then, disk_recovered, disk_refused, refused_by}
use Rattle.td_feed.proofs.session.Session.feed.Goals as goal

pub returns-in-Err-clause-disk : goal.returns-in-Err-clause-disk
returns-in-Err-clause-disk g c = disk_same _ refl (λ is. lack_no_device c.in-Err.lack (ap (as_err (Unit {0})) (sym c.lack_fault.ensures.fault ∙ fault_of _ _ is)))

pub returns-in-Err-clause-fed : goal.returns-in-Err-clause-fed
returns-in-Err-clause-fed g c = λ none. absurd (let some = c.in-Err.ensures.err in cc)

pub returns-in-Err-recover-clause-disk : goal.returns-in-Err-recover-clause-disk
returns-in-Err-recover-clause-disk g c = disk_refused c.in-Err-recover.refusal c.from.result c.from.ensures c.in-Err-recover.ensures.device

pub returns-in-Err-recover-clause-fed : goal.returns-in-Err-recover-clause-fed
returns-in-Err-recover-clause-fed g c = λ fits.
    let recover = c.in-Err-recover.ensures in
    let view = g.D.Disk.view in
    let new = c.in-Err-recover.disk in
    let rose = Rises (g.D.Disk.view c.args.disk).failures (g.D.Disk.view new).failures in
    let tells = λ (e : KeeperError). (g.D.Disk.view c.args.disk).lawful → IsDurable (view new).state × Told c.args.self.now.plan.now (view new).state.bytes (Refused e) in
    in_some (g.I.Source.remaining c.args.reader.now)
    (λ input. record {
      fed = tt;
      safe = λ lawful history told.
          let answers = g.L.Law.answers in
          let old = c.args.disk in
          let new = c.in-Err-recover.disk in
          let plan = c.args.self.now.plan.now in
          let safe : CrashSafe Unchanged (view old).state (view new).state = c.in-Err-recover.ensures.crash_safe lawful in
          none_more answers plan history (new_after (greatest 0 history) (submitted_by (orders_of plan input))) (view new).state
          (still_each answers plan history (view old).state (view new).state safe
          (λ i image. g.met.D.Disk.counts_now new (view old).state.moment i (c.in-Err-recover.ensures.device.lawful.0 lawful) safe.later image) told);
      ever = λ lawful history told image was.
          onward_still g.L.Law.answers c.args.self.now.plan.now history (new_after (greatest 0 history) (submitted_by (orders_of c.args.self.now.plan.now input))) image
          (view c.args.disk).state (view new).state (recover.crash_safe lawful) told was;
      said = inl (record {
        refused = refused rose tells c.in-Err-recover.refusal c.from.result c.from.ensures (λ failed. recover.device.counts.rises (ap (refused_by (Keeping g.row.D.Denot)) failed)) recover.refused;
        unwritten = recover.crash_safe;
        said = refl;
      });
    })

pub returns-clause-disk : goal.returns-clause-disk
returns-clause-disk g c =
    let view = g.D.Disk.view in
    let r = c.serve_input-served.result.ended in
    subst (λ (d : g.row.D.Denot). KeepsDisk view r c.args.disk d) (sym c.into_disk.ensures.disk)
    (disk_then (disk_recovered c.in-Ok.ensures.device) c.serve_input-served.ensures.disk)

pub returns-clause-fed : goal.returns-clause-fed
returns-clause-fed g c = λ fits.
    let view = g.D.Disk.view in
    let answers = g.L.Law.answers in
    let marks = g.W.Voice.marks in
    let plan = c.args.self.now.plan.now in
    let old = c.args.disk in
    let keeper : Keeping g.row.D.Denot = c.in-Ok.keeper in
    let new = c.serve_input-served.result.keeper in
    let r = c.serve_input-served.result.ended in
    let u = g.W.Sink.contents c.args.writer in
    let v = g.W.Sink.contents c.serve_input-served.result.writer in
    let held = c.into_disk.ensures.held in
    IfSome_then (g.I.Source.remaining c.args.reader.now) c.serve_input-served.ensures.fed
    (λ input fed.
    let more : List Submitted = new_to keeper (submitted_by (orders_of plan input)) in
    let feeds : Feeds view answers marks r u v keeper new more = fed in
    let stands = λ (lawful : (view old).lawful) (history : List Submitted) (told : EachTellsHistory answers plan history (view old).state).
    let safe : CrashSafe Unchanged (view old).state (view keeper.device).state = c.in-Ok.ensures.crash_safe lawful in
    found answers plan history (view old).state (view keeper.device).state safe
    (λ i image. g.met.D.Disk.counts_now keeper.device (view old).state.moment i (c.in-Ok.ensures.device.lawful.0 lawful) safe.later image) told
    c.told_in_parts.ensures.one_answer (g.met.D.Disk.reads_image keeper.device (c.in-Ok.ensures.device.lawful.0 lawful)) keeper.standing (c.in-Ok.ensures.told lawful) in
    let by_keeper = λ (history : List Submitted) (is : Stands (states_by answers plan) keeper.standing history).
    subst (λ (p : List Line). Stands (states_by answers p) keeper.standing history) (sym c.in-Ok.ensures.plan) is in
    let also : (history : List Submitted) → Stands (states_by answers plan) keeper.standing history → more ≡ new_after (greatest 0 history) (submitted_by (orders_of plan input)) =
    λ history is. ap (λ (q : ℕ). new_after q (submitted_by (orders_of plan input))) (last_of_history answers plan keeper.standing history is) in
    let driven = always_driven view answers marks r u v keeper new more [] feeds.said in
    let left_lawful : (view old).lawful → (view new.device).lawful = λ lawful. c.serve_input-served.ensures.disk.lawful.0 (c.in-Ok.ensures.device.lawful.0 lawful) in
    record {
      fed = on_ok_weaker r (λ (carries : Carries answers keeper new more) lawful history told.
          let is = stands lawful history told in
          subst (λ (l : List Submitted). EachTellsHistory answers plan (history ++ l) (view c.into_disk.result).state) (also history is)
          (subst (λ (d : g.row.D.Denot). EachTellsHistory answers plan (history ++ more) (view d).state) (sym c.into_disk.ensures.disk)
          (subst (λ (p : List Line). EachTellsHistory answers p (history ++ more) (view new.device).state) c.in-Ok.ensures.plan
          (ended_all view answers c.told_in_parts.ensures.together keeper new history more (by_keeper history is) carries held (left_lawful lawful))))) feeds.carried;
      safe = λ lawful history told.
          let is = stands lawful history told in
          subst (λ (l : List Submitted). EachTellsSome answers plan history l (view c.into_disk.result).state) (also history is)
          (subst (λ (d : g.row.D.Denot). EachTellsSome answers plan history more (view d).state) (sym c.into_disk.ensures.disk)
          (subst (λ (p : List Line). EachTellsSome answers p history more (view new.device).state) c.in-Ok.ensures.plan
          (ended_some view answers c.told_in_parts.ensures.together keeper new history more (by_keeper history is) (left_of r feeds) held (left_lawful lawful))));
      ever = λ lawful history told image was.
          let is = stands lawful history told in
          let sound = c.in-Ok.ensures.device.lawful.0 lawful in
          let advances = c.driven_advances.ensures driven.commands driven.replies keeper new c.each_is_kept.ensures sound c.in-Ok.ensures.fresh.whole driven.driven in
          subst (λ (l : List Submitted). TellsOnward answers plan history l image) (also history is)
          (onward_ever answers plan history more image c.advance_stands.ensures.each keeper.plan keeper.standing (submitted_in driven.commands driven.replies) (view old).state (view keeper.device).state (view new.device).state
          c.in-Ok.ensures.plan (c.in-Ok.ensures.crash_safe lawful) is (advances.since c.in-Ok.ensures.fresh.whole) driven.submitted told
          (subst (λ (d : g.row.D.Denot). (view d).state.since (view old).state.moment image) c.into_disk.ensures.disk was));
      said = fed_says view answers marks r plan false old c.into_disk.result u v (epochs_alone (submitted_by (orders_of plan input)))
          (record {
            keeper = c.in-Ok.keeper;
            fresh = c.in-Ok.ensures.fresh;
            plan_is = c.in-Ok.ensures.plan;
            told = c.in-Ok.ensures.told;
            watch = c.in-Ok.keeper.watch;
            kept = c.each_is_kept.ensures;
            lawful = c.in-Ok.ensures.device.lawful.0;
            unwritten = c.in-Ok.ensures.crash_safe;
            found = c.in-Ok.ensures.kept;
            ended = new;
            left_is = c.into_disk.ensures.disk;
            lawful_left = λ lawful. subst (λ (d : g.row.D.Denot). (view d).lawful) (sym c.into_disk.ensures.disk) (left_lawful lawful);
            holds = subst (λ (d : g.row.D.Denot). (view d).lawful → HeldWhere new.broken answers new.plan new.head new.side new.standing (view d).state) (sym c.into_disk.ensures.disk) held;
            limit = tt;
            notes = [];
            came = refl;
            said = feeds.said;
            all_out = λ never. absurd (let no = never in cc);
          });
    })

pub returns-in-Err-clause-fault : goal.returns-in-Err-clause-fault
returns-in-Err-clause-fault g c =
    in_some (g.I.Source.remaining c.args.reader.now) (λ input. for_other g.W.Sink.HasRoom c.args.self.now.plan.now input c.lack_fault.result c.args.writer (ap is_other c.lack_fault.ensures.fault ∙ other_lack c.in-Err.lack))

pub returns-in-Err-recover-clause-fault : goal.returns-in-Err-recover-clause-fault
returns-in-Err-recover-clause-fault g c =
    in_some (g.I.Source.remaining c.args.reader.now) (λ input. for_other g.W.Sink.HasRoom c.args.self.now.plan.now input c.from.result c.args.writer (ap is_other c.from.ensures ∙ other_keeper c.in-Err-recover.refusal))
