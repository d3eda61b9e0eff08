use Rattle.std.proofs.Common.{◌≡◌, Contains, subst, arith}
use Rattle.std.proofs.lemmas.Result.{err_from_is_err_and}
use Rattle.td_core.specs.declared.error.HallError.TheVariants.{Memory}
use Rattle.td_pool.specs.Lents.{Lent}
use Rattle.td_pool.proofs.Counted.{by_give}
use Rattle.td_pool.proofs.Ledger.{other_given}
use Rattle.td_pool.proofs.Standing.{course_stands, stands_given}
use Rattle.td_pool.proofs.held.Held.give.Goals as goal

pub invariant_of-self-2 : goal.invariant_of-self-2
invariant_of-self-2 g c =
    let one = by_give g.L.Law.answers c.self.inside.hall c.give.new.self c.args.done c.in_ok-give.ensures.given in (
      other_given g.K.Crew.start c.self.inside.book.total c.add-2.new.self.total c.self.inside.hall c.give.new.self c.self.invariant.0 one.0 one.1
          (omega (arith, c.audit.ensures.total, c.add.ensures.total, c.add-2.ensures.total)),
      c.self.invariant.1,
      c.self.invariant.2,
      course_stands c.self.inside.course c.self.inside.hall c.give.new.self (stands_given g.L.Law.answers c.self.inside.hall c.give.new.self c.args.done c.in_ok-give.ensures.given) c.self.invariant.3,
    )

pub returns-in_err-give-clause-memory_last : goal.returns-in_err-give-clause-memory_last
returns-in_err-give-clause-memory_last g c =
    let p = err_from_is_err_and c.from_residual.result c.from_residual.ensures.1 in
    rw (p.1, p.2) (subst (λ (h : Lent). c.in_err-give.field-0.0.0 ≡ Memory → Contains h.hall.out c.args.done) c.self.view_is c.in_err-give.ensures.memory_last)
