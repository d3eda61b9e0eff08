use Rattle.std.proofs.Common.{◌≡◌, sym, ap, ◌∙◌, subst}
use Rattle.std.proofs.lemmas.Result.{on_ok_weaker}
use Rattle.td_keeper.specs.declared.command.Command.TheVariants.{WriteCut}
use Rattle.td_keeper.specs.declared.command.Reply.{Reply}
use Rattle.td_keeper.specs.Driven.{written}
use Rattle.td_feed.specs.Carried.{is_refused}
use Rattle.td_feed.specs.Said.{fault_in}
use Rattle.td_feed.specs.Stepping.{Comes}
use Rattle.td_feed.proofs.Serving.{refusal}
use Rattle.td_feed.proofs.Held.{keeps_same}
use Rattle.td_feed.proofs.Stepping.{steps_said, write_checkpoints}
use Rattle.td_feed.proofs.under_way.Feeding.write_cut.Goals as goal

pub say-requires : goal.say-requires
say-requires g c =
    let old = g.E.Obey.keeping c.args.self.now.engine in
    let new = g.E.Obey.keeping c.write_cut.new.self in
    let comes = c.known.ensures.comes (WriteCut) (written c.write_cut.result) old new c.known.ensures.keeper c.known-2.ensures.keeper c.write_cut.ensures.written c.requires.whole tt c.write_cut.ensures.device.size c.write_cut.ensures.device.lawful in
    record { new = (subst (λ (r : Reply). Comes g.D.Disk.view g.L.Law.answers (WriteCut) r old new) (sym c.of_write_cut-reply.ensures) comes).new_one }

pub returns-clause-steps : goal.returns-clause-steps
returns-clause-steps g c = λ seen.
    let old = g.E.Obey.keeping c.args.self.now.engine in
    let new = g.E.Obey.keeping c.write_cut.new.self in
    let comes = c.known.ensures.comes (WriteCut) (written c.write_cut.result) old new c.known.ensures.keeper c.known-2.ensures.keeper c.write_cut.ensures.written c.requires.whole tt c.write_cut.ensures.device.size c.write_cut.ensures.device.lawful in
    let there = subst (λ (r : Reply). Comes g.D.Disk.view g.L.Law.answers (WriteCut) r old new) (sym c.of_write_cut-reply.ensures) comes in
    steps_said (WriteCut) c.of_write_cut-reply.result old new c.say.result (c.say.new.writer ≡ c.args.self.now.writer) there tt c.say.ensures.refused c.say.ensures.said c.say.ensures.unsaid (λ same. ap g.W.Sink.contents same) c.say.ensures.fault
    (keeps_same seen there.base)

pub returns-clause-written : goal.returns-clause-written
returns-clause-written g c =
    let old = g.E.Obey.keeping c.args.self.now.engine in
    let new = g.E.Obey.keeping c.write_cut.new.self in
    let reply = written c.write_cut.result in
    on_ok_weaker c.say.result (λ is. record { kept = c.known.ensures.keeper.kept; new_is = is })
    (write_checkpoints g.D.Disk.view g.L.Law.answers c.write_cut.result old new c.say.result c.write_cut.ensures.written c.requires.waits
    (λ refused. (c.say.ensures.refused (ap is_refused c.of_write_cut-reply.ensures ∙ refused)).0 ∙ ap (λ (r : Reply). refusal (fault_in r)) c.of_write_cut-reply.ensures))
