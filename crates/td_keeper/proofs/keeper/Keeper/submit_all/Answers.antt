use Rattle.std.proofs.Common.{◌≡◌, ⊎_elim, inl, inr, Some, Ok, Err, false, List, refl, sym, ap, ◌∙◌, subst}
use Rattle.td_journal.specs.declared.payload.Submitted.{Submitted}
use Rattle.td_store.specs.group.Groups.{AreFresh}
use Rattle.td_store.specs.declared.standing.error.KeeperError.{KeeperError}
use Rattle.td_store.specs.declared.standing.error.KeeperError.TheVariants.{Memory, Device}
use Rattle.td_keeper.specs.declared.submit_all.GroupError.{GroupError}
use Rattle.td_keeper.specs.declared.submit_all.GroupError.TheVariants.{Keeper as ByKeeper, Repeated}
use Rattle.td_keeper.specs.Calls.{CrashLeaves}
use Rattle.td_keeper.specs.Grouped.{AllOrNone}
use Rattle.td_keeper.specs.Refused.{group_refusal}
use Rattle.td_keeper.proofs.Accepting.{group_fresh, group_never_device}
use Rattle.td_keeper.proofs.Leaving.{leaves_as_it_was, refused_as_it_was, device_same, device_kept, same_error}
use Rattle.td_keeper.proofs.Since.{none_since}
use Rattle.td_keeper.proofs.Submitting.{keeps_of, is_none}
use Rattle.td_keeper.proofs.keeper.Keeper.submit_all.Goals as goal

-- the keeper's own error
error_of : GroupError → KeeperError
error_of (ByKeeper error) = error
error_of Repeated = Memory

by_keeper : {d e : KeeperError} → ByKeeper e ≡ ByKeeper d → e ≡ d
unfolding error_of
by_keeper is = ap error_of is

pub returns-in-Some-clause-all_or_none : goal.returns-in-Some-clause-all_or_none
returns-in-Some-clause-all_or_none g c old whole i left =
    let k = c.args.self.now in
    let state = (g.D.Disk.view k.device).state in
    inl (none_since k.plan c.told_in_parts.ensures.together k.head k.side k.standing state (λ d. g.met.D.Disk.only_now k.device d old)
    (keeps_of k.broken g.L.Law.answers k.plan k.head k.side k.standing state whole (c.each_disk_holds.ensures old)) i left)

pub returns-then-is_empty-clause-all_or_none : goal.returns-then-is_empty-clause-all_or_none
returns-then-is_empty-clause-all_or_none g c old whole i left =
    let k = c.args.self.now in
    let state = (g.D.Disk.view k.device).state in
    inl (none_since k.plan c.told_in_parts.ensures.together k.head k.side k.standing state (λ d. g.met.D.Disk.only_now k.device d old)
    (keeps_of k.broken g.L.Law.answers k.plan k.head k.side k.standing state whole (c.each_disk_holds.ensures old)) i left)

pub put_next-requires-clause-fresh : goal.put_next-requires-clause-fresh
put_next-requires-clause-fresh g c =
    let k = c.args.self.now in
    let group = c.as_slice.result.now in
    let none = sym c.refusal_of_group.ensures.refusal ∙ is_none c.refusal_of_group.result c.in_default.not-Some in
    subst (λ (l : List Submitted). AreFresh k.head.version k.standing l) (c.as_slice.ensures ∙ sym c.into_vec.ensures) (group_fresh k group none)

pub returns-in-Ok-clause-all_or_none : goal.returns-in-Ok-clause-all_or_none
returns-in-Ok-clause-all_or_none g c =
    let k = c.args.self.now in
    let view = g.D.Disk.view in
    subst (λ (l : List Submitted). (g.D.Disk.view k.device).lawful → k.broken ≡ false → AllOrNone k.plan k.standing l (view k.device).state.moment (view c.put_next.new.self.device).state) c.into_vec.ensures c.in-Ok.ensures.all_or_none

pub returns-in-Err-clause-all_or_none : goal.returns-in-Err-clause-all_or_none
returns-in-Err-clause-all_or_none g c =
    let k = c.args.self.now in
    let view = g.D.Disk.view in
    subst (λ (l : List Submitted). (g.D.Disk.view k.device).lawful → k.broken ≡ false → AllOrNone k.plan k.standing l (view k.device).state.moment (view c.put_next.new.self.device).state) c.into_vec.ensures c.in-Err.ensures.all_or_none

pub returns-in-Some-clause-crash : goal.returns-in-Some-clause-crash
returns-in-Some-clause-crash g c old = leaves_as_it_was g.D.Disk.view g.met.D.Disk.only_now g.L.Law.answers c.told_in_parts.ensures.together c.standings_advance.ensures.not_yet {k = c.args.self.now} {z = c.args.self.now} refl c.each_disk_holds.ensures c.args.group old

pub returns-then-is_empty-clause-crash : goal.returns-then-is_empty-clause-crash
returns-then-is_empty-clause-crash g c old = leaves_as_it_was g.D.Disk.view g.met.D.Disk.only_now g.L.Law.answers c.told_in_parts.ensures.together c.standings_advance.ensures.not_yet {k = c.args.self.now} {z = c.args.self.now} refl c.each_disk_holds.ensures c.args.group old

pub returns-in-Ok-clause-crash : goal.returns-in-Ok-clause-crash
returns-in-Ok-clause-crash g c old =
    let k = c.args.self.now in
    let view = g.D.Disk.view in
    let e = c.in-Ok.ensures in
    subst (λ (l : List Submitted). CrashLeaves g.L.Law.answers l k (view k.device).state (view c.put_next.new.self.device).state) c.into_vec.ensures
    (record { later = e.later old; images = e.images old; further = e.further old; short = e.short old })

pub returns-in-Err-clause-crash : goal.returns-in-Err-clause-crash
returns-in-Err-clause-crash g c old =
    let k = c.args.self.now in
    let view = g.D.Disk.view in
    let e = c.in-Err.ensures in
    subst (λ (l : List Submitted). CrashLeaves g.L.Law.answers l k (view k.device).state (view c.put_next.new.self.device).state) c.into_vec.ensures
    (record { later = e.later old; images = e.images old; further = e.further old; short = e.short old })

pub returns-in-Some-clause-refused : goal.returns-in-Some-clause-refused
returns-in-Some-clause-refused g c =
    let is = ap (group_refusal c.args.self.now) (sym c.as_slice.ensures) ∙ (sym c.refusal_of_group.ensures.refusal ∙ c.in-Some.is) in
    refused_as_it_was g.D.Disk.view g.met.D.Disk.only_now g.L.Law.answers (ByKeeper Memory) (ByKeeper Device) c.args.self.now (group_refusal c.args.self.now c.args.group) c.in-Some.refusal (inl is)
    (λ failed. group_never_device c.args.self.now c.args.group (is ∙ ap (λ e. Some e) failed))

pub returns-in-Some-clause-device : goal.returns-in-Some-clause-device
returns-in-Some-clause-device g c =
    let is = ap (group_refusal c.args.self.now) (sym c.as_slice.ensures) ∙ (sym c.refusal_of_group.ensures.refusal ∙ c.in-Some.is) in
    device_same g.D.Disk.view (ByKeeper Device) (Err c.in-Some.refusal) c.args.self.now.device
    (λ failed. group_never_device c.args.self.now c.args.group (is ∙ ap (λ e. Some e) (same_error (ByKeeper Device) c.in-Some.refusal failed)))

pub returns-in-Err-clause-refused : goal.returns-in-Err-clause-refused
returns-in-Err-clause-refused g c =
    let e = c.in-Err.ensures in
    let none = ap (group_refusal c.args.self.now) (sym c.as_slice.ensures) ∙ (sym c.refusal_of_group.ensures.refusal ∙ is_none c.refusal_of_group.result c.in_default.not-Some) in
    record {
      cause = inr (none, ⊎_elim (λ memory. inl (ap ByKeeper memory)) (λ device. inr (ap ByKeeper device)) e.refused);
      unchanged = ⊎_elim inl (λ other. inr (⊎_elim (λ memory. inl (ap ByKeeper memory.0, memory.1)) (λ device. inr (ap ByKeeper device.0, device.1)) other)) e.unchanged;
      broken = λ is. e.broken (by_keeper is);
      unwritten = λ is. e.unwritten (by_keeper is);
      nothing = ⊎_elim (λ device. inl (ap ByKeeper device)) inr e.nothing;
    }

pub returns-in-Err-clause-device : goal.returns-in-Err-clause-device
returns-in-Err-clause-device g c =
    let e = c.in-Err.ensures in
    device_kept g.D.Disk.view (ByKeeper Device) c.args.self.now.device c.put_next.new.self.device (Err (ByKeeper c.in-Err.refusal, c.in-Err.group)) e.size e.lawful e.counted tt
    (λ is. e.device (by_keeper is)) (⊎_elim (λ device. inl (ap ByKeeper device)) inr e.stays_back)

pub returns-in-Ok-clause-device : goal.returns-in-Ok-clause-device
returns-in-Ok-clause-device g c =
    let e = c.in-Ok.ensures in
    device_kept {B = Unit {0}} g.D.Disk.view (ByKeeper Device) c.args.self.now.device c.put_next.new.self.device (Ok c.in-Ok.first) e.size e.lawful e.counted e.stays tt tt
