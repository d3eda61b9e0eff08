use Rattle.std.proofs.Common.{◌≡◌, sym, ap, subst}
use Rattle.td_keeper.specs.declared.command.Command.TheVariants.{Submit}
use Rattle.td_keeper.specs.declared.command.Reply.{Reply}
use Rattle.td_keeper.specs.Driven.{submitted}
use Rattle.td_feed.specs.Stepping.{Comes}
use Rattle.td_feed.proofs.Held.{keeps_same}
use Rattle.td_feed.proofs.Stepping.{steps_said}
use Rattle.td_feed.proofs.under_way.Feeding.submit.Goals as goal

pub say-requires : goal.say-requires
say-requires g c =
    let old = g.E.Obey.keeping c.args.self.now.engine in
    let new = g.E.Obey.keeping c.submit.new.self in
    let comes = c.known.ensures.comes (Submit c.args.batch) (submitted c.submit.result) old new c.known.ensures.keeper c.known-2.ensures.keeper c.submit.ensures.submitted c.requires.whole tt c.submit.ensures.device.size c.submit.ensures.device.lawful in
    record { new = (subst (λ (r : Reply). Comes g.D.Disk.view g.L.Law.answers (Submit c.args.batch) r old new) (sym c.of_submit-reply.ensures) comes).new_one }

pub returns : goal.returns
returns g c = λ seen.
    let old = g.E.Obey.keeping c.args.self.now.engine in
    let new = g.E.Obey.keeping c.submit.new.self in
    let comes = c.known.ensures.comes (Submit c.args.batch) (submitted c.submit.result) old new c.known.ensures.keeper c.known-2.ensures.keeper c.submit.ensures.submitted c.requires.whole tt c.submit.ensures.device.size c.submit.ensures.device.lawful in
    let there = subst (λ (r : Reply). Comes g.D.Disk.view g.L.Law.answers (Submit c.args.batch) r old new) (sym c.of_submit-reply.ensures) comes in
    steps_said (Submit c.args.batch) c.of_submit-reply.result old new c.say.result (c.say.new.writer ≡ c.args.self.now.writer) there tt c.say.ensures.refused c.say.ensures.said c.say.ensures.unsaid (λ same. ap g.W.Sink.contents same) c.say.ensures.fault
    (keeps_same seen there.base)
