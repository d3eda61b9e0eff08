use Rattle.std.proofs.Common.{◌≡◌, inl, inr, Some, List, [], ◌∷◌, ◌++◌, ap, ◌∙◌, sym, subst, refl, Ok, Err}
use Rattle.td_journal.specs.declared.payload.Submitted.{Submitted}
use Rattle.td_store.specs.standing.Standing.{submission}
use Rattle.td_store.specs.declared.standing.error.KeeperError.TheVariants.{Memory, Device}
use Rattle.td_keeper.specs.Calls.{CrashLeaves}
use Rattle.td_keeper.specs.Refused.{submit_refusal}
use Rattle.td_keeper.proofs.Accepting.{never_device}
use Rattle.td_keeper.proofs.Leaving.{leaves_as_it_was, refused_as_it_was, device_same, device_kept, same_error}
use Rattle.td_keeper.proofs.keeper.Keeper.submit_next.Goals as goal

pub returns-in-Some-clause-refused : goal.returns-in-Some-clause-refused
returns-in-Some-clause-refused g c =
    let is = sym c.refusal_of.ensures.refusal ∙ c.in-Some.is in
    refused_as_it_was g.D.Disk.view g.met.D.Disk.only_now g.L.Law.answers Memory Device c.args.self.now (submit_refusal c.args.self.now c.args.batch) c.in-Some.refusal (inl is)
    (λ failed. never_device c.args.self.now c.args.batch (is ∙ ap (λ e. Some e) failed))

pub returns-in-Some-clause-crash : goal.returns-in-Some-clause-crash
returns-in-Some-clause-crash g c old =
    leaves_as_it_was g.D.Disk.view g.met.D.Disk.only_now g.L.Law.answers c.told_in_parts.ensures.together c.standings_advance.ensures.not_yet c.self.view_is c.self.invariant.2
    (submission c.args.request c.args.batch ∷ []) old

pub returns-in-Some-clause-device : goal.returns-in-Some-clause-device
returns-in-Some-clause-device g c =
    device_same g.D.Disk.view Device (Err c.in-Some.refusal) c.args.self.now.device
    (λ failed. never_device c.args.self.now c.args.batch (sym c.refusal_of.ensures.refusal ∙ (c.in-Some.is ∙ ap (λ e. Some e) (same_error Device c.in-Some.refusal failed))))

pub returns-in_default-with_capacity-clause-refused : goal.returns-in_default-with_capacity-clause-refused
returns-in_default-with_capacity-clause-refused g c =
    refused_as_it_was g.D.Disk.view g.met.D.Disk.only_now g.L.Law.answers Memory Device c.args.self.now (submit_refusal c.args.self.now c.args.batch) Memory (inr (sym c.refusal_of.ensures.refusal ∙ c.in_default.is, inl refl)) (λ failed. absurd (let never : Memory ≡ Device = failed in cc))

pub returns-in_default-with_capacity-clause-crash : goal.returns-in_default-with_capacity-clause-crash
returns-in_default-with_capacity-clause-crash g c old =
    leaves_as_it_was g.D.Disk.view g.met.D.Disk.only_now g.L.Law.answers c.told_in_parts.ensures.together c.standings_advance.ensures.not_yet c.self.view_is c.self.invariant.2
    (submission c.args.request c.args.batch ∷ []) old

pub returns-in_default-with_capacity-clause-device : goal.returns-in_default-with_capacity-clause-device
returns-in_default-with_capacity-clause-device g c =
    device_same g.D.Disk.view Device (Err Memory) c.args.self.now.device (λ failed. absurd (let never : Memory ≡ Device = same_error Device Memory failed in cc))

pub returns-in-Ok-put_next-clause-crash : goal.returns-in-Ok-put_next-clause-crash
returns-in-Ok-put_next-clause-crash g c old =
    let k = c.args.self.now in
    let view = g.D.Disk.view in
    let e = c.in-Ok-put_next.ensures in
    let x : List Submitted = submission c.args.request c.args.batch ∷ [] in
    let items : c.push_reserved.new.self.items ≡ x = c.push_reserved.ensures.items ∙ ap (λ (l : List Submitted). l ++ x) c.in-Ok.ensures.items in
    subst (λ (l : List Submitted). CrashLeaves g.L.Law.answers l k (view k.device).state (view c.put_next.new.self.device).state) items
    (record { later = e.later old; images = e.images old; further = e.further old; short = e.short old })

pub returns-in-Ok-put_next-clause-device : goal.returns-in-Ok-put_next-clause-device
returns-in-Ok-put_next-clause-device g c =
    let e = c.in-Ok-put_next.ensures in
    device_kept {B = Unit {0}} g.D.Disk.view Device c.args.self.now.device c.put_next.new.self.device (Ok c.in-Ok-put_next.epoch) e.size e.lawful e.counted e.stays tt tt

pub returns-in-Err-clause-crash : goal.returns-in-Err-clause-crash
returns-in-Err-clause-crash g c old =
    let k = c.args.self.now in
    let view = g.D.Disk.view in
    let e = c.in-Err.ensures in
    let x : List Submitted = submission c.args.request c.args.batch ∷ [] in
    let items : c.push_reserved.new.self.items ≡ x = c.push_reserved.ensures.items ∙ ap (λ (l : List Submitted). l ++ x) c.in-Ok.ensures.items in
    subst (λ (l : List Submitted). CrashLeaves g.L.Law.answers l k (view k.device).state (view c.put_next.new.self.device).state) items
    (record { later = e.later old; images = e.images old; further = e.further old; short = e.short old })

pub returns-in-Err-clause-refused : goal.returns-in-Err-clause-refused
returns-in-Err-clause-refused g c =
    let e = c.in-Err.ensures in
    record { cause = inr (sym c.refusal_of.ensures.refusal ∙ c.in_default.is, e.refused); unchanged = e.unchanged; broken = e.broken; unwritten = e.unwritten; nothing = e.nothing }

pub returns-in-Err-clause-device : goal.returns-in-Err-clause-device
returns-in-Err-clause-device g c =
    let e = c.in-Err.ensures in
    device_kept g.D.Disk.view Device c.args.self.now.device c.put_next.new.self.device (Err (c.in-Err.refusal, c.in-Err.group)) e.size e.lawful e.counted tt e.device e.stays_back
