use Rattle.std.proofs.Common.{◌≡◌, refl, ap}
use Rattle.td_keeper.specs.declared.command.Command.TheVariants.{Answer}
use Rattle.td_keeper.specs.Driven.{answered}
use Rattle.td_feed.proofs.Stepping.{answer_said, answer_no_device, refused_answer, said_answer, unsaid_answer}
use Rattle.td_feed.proofs.under_way.Feeding.answer.Goals as goal

pub returns-clause-steps : goal.returns-clause-steps
returns-clause-steps g c =
    let k = g.E.Obey.keeping c.args.self.now.engine in
    let a = c.answer-answer.result in
    let comes = c.known.ensures.resting (Answer c.args.vertex c.args.wanted) (answered a) k k refl c.known.ensures.keeper c.known.ensures.keeper c.answer-answer.ensures c.requires.whole in
    let say = c.say_answer.ensures in
    answer_said c.args.vertex c.args.wanted (answered a) k k c.say_answer.result (c.say_answer.new.writer ≡ c.args.self.now.writer) comes
    (refused_answer a say.refused) (said_answer c.say_answer.result (g.W.Sink.contents c.args.self.now.writer) (g.W.Sink.contents c.say_answer.new.writer) c.args.vertex c.args.wanted a say.said) (unsaid_answer a say.unsaid) (λ same. ap g.W.Sink.contents same)

pub returns-clause-no_device : goal.returns-clause-no_device
returns-clause-no_device g c =
    let k = g.E.Obey.keeping c.args.self.now.engine in
    let a = c.answer-answer.result in
    let say = c.say_answer.ensures in
    answer_no_device g.D.Disk.view g.L.Law.answers c.args.vertex c.args.wanted a (answered a) k c.say_answer.result (c.say_answer.new.writer ≡ c.args.self.now.writer) c.answer-answer.ensures refl
    (refused_answer a say.refused) (unsaid_answer a say.unsaid)
