use Rattle.std.proofs.Common.{subst}
use Rattle.td_machine.specs.Steps.{Takes}
use Rattle.td_machine.specs.Steps.Answer.{has_taken}
use Rattle.td_pool.proofs.Counted.{taken}
use Rattle.td_pool.proofs.Ledger.{one_taken}
use Rattle.td_pool.proofs.Standing.{course_stands, stands_taken}
use Rattle.td_pool.proofs.held.Held.take.Goals as goal

pub invariant_of-self-2 : goal.invariant_of-self-2
invariant_of-self-2 g c =
    let step = subst (λ t. Takes c.self.inside.hall c.args.seat.now.shard (has_taken t) c.take.new.self) c.in-Some.is c.in_ok-task.ensures.taken in
    let more = taken c.self.inside.hall c.take.new.self c.args.seat.now.shard c.in-Some.task step in (
      one_taken g.K.Crew.start c.self.inside.book.total c.add.new.self.total c.self.inside.hall c.take.new.self c.self.invariant.0 more.0 more.1 c.add.ensures.total,
      c.self.invariant.1,
      c.self.invariant.2,
      course_stands c.self.inside.course c.self.inside.hall c.take.new.self (stands_taken c.self.inside.hall c.take.new.self c.args.seat.now.shard c.in-Some.task step) c.self.invariant.3,
    )
