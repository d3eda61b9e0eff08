use Rattle.std.proofs.Common.{◌≡◌, sym, ap, ◌∙◌, subst}
use Rattle.std.specs.Prelude.{ℕ, ◌+◌}
use Rattle.td_store.specs.standing.Standing.{last_epoch}
use Rattle.td_keeper.specs.Keeping.{Keeping}
use Rattle.td_keeper.specs.declared.command.Command.TheVariants.{SubmitAll}
use Rattle.td_keeper.specs.declared.command.Reply.{Reply}
use Rattle.td_keeper.specs.Driven.{submitted_all}
use Rattle.td_feed.specs.Stepping.{Comes}
use Rattle.td_feed.proofs.Held.{keeps_same}
use Rattle.td_feed.proofs.Stepping.{steps_said}
use Rattle.td_feed.proofs.under_way.Feeding.submit_all.Goals as goal

pub say-requires : goal.say-requires
say-requires g c =
    let old = g.E.Obey.keeping c.args.self.now.engine in
    let new = g.E.Obey.keeping c.submit_all-submitted.new.self in
    let ended = ap (λ (n : ℕ). submitted_all n c.submit_all-submitted.result) (ap (λ (n : ℕ). n + 1) (c.last_epoch.ensures ∙ ap (λ (k : Keeping g.row.D.Denot). last_epoch k.standing) c.keeper.ensures)) in
    let comes = c.known.ensures.comes (SubmitAll c.args.group) (submitted_all (last_epoch new.standing + 1) c.submit_all-submitted.result) old new c.known.ensures.keeper c.known-2.ensures.keeper c.submit_all-submitted.ensures.submitted c.requires.whole c.requires.rising c.submit_all-submitted.ensures.device.size c.submit_all-submitted.ensures.device.lawful in
    record { new = (subst (λ (r : Reply). Comes g.D.Disk.view g.L.Law.answers (SubmitAll c.args.group) r old new) (sym (c.of_submit_all-reply.ensures ∙ ended)) comes).new_one }

pub returns : goal.returns
returns g c = λ seen.
    let old = g.E.Obey.keeping c.args.self.now.engine in
    let new = g.E.Obey.keeping c.submit_all-submitted.new.self in
    let ended = ap (λ (n : ℕ). submitted_all n c.submit_all-submitted.result) (ap (λ (n : ℕ). n + 1) (c.last_epoch.ensures ∙ ap (λ (k : Keeping g.row.D.Denot). last_epoch k.standing) c.keeper.ensures)) in
    let comes = c.known.ensures.comes (SubmitAll c.args.group) (submitted_all (last_epoch new.standing + 1) c.submit_all-submitted.result) old new c.known.ensures.keeper c.known-2.ensures.keeper c.submit_all-submitted.ensures.submitted c.requires.whole c.requires.rising c.submit_all-submitted.ensures.device.size c.submit_all-submitted.ensures.device.lawful in
    let there = subst (λ (r : Reply). Comes g.D.Disk.view g.L.Law.answers (SubmitAll c.args.group) r old new) (sym (c.of_submit_all-reply.ensures ∙ ended)) comes in
    steps_said (SubmitAll c.args.group) c.of_submit_all-reply.result old new c.say.result (c.say.new.writer ≡ c.args.self.now.writer) there c.requires.rising c.say.ensures.refused c.say.ensures.said c.say.ensures.unsaid (λ same. ap g.W.Sink.contents same) c.say.ensures.fault
    (keeps_same seen there.base)
