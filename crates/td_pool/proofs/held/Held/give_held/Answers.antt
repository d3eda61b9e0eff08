use Rattle.std.proofs.Common.{◌≡◌, ◌⊎◌, inl, IfErr, IfSome, refl, subst, sym, ap, arith}
use Rattle.td_core.specs.declared.error.HallError.TheVariants.{Memory, Stranger}
use Rattle.td_pool.specs.Counts.{IsCounted}
use Rattle.td_pool.proofs.Counted.{by_give, give_refused}
use Rattle.td_pool.specs.Stands.{StandsAs}
use Rattle.td_pool.proofs.Ledger.{one_given, as_before}
use Rattle.td_pool.proofs.Standing.{course_stands, stands_given, stands_still}
use Rattle.td_pool.proofs.held.Held.give_held.Goals as goal
use Rattle.td_pool.proofs.held.Held.give_held.Goals.{in-Ok, in-Err-Memory-default, in-Err}

pub invariant_of-self : goal.invariant_of-self
invariant_of-self g c = elim c.match-give.branch [
  | in-Ok w ↦ (let one = by_give g.L.Law.answers c.self.inside.hall c.give.new.self c.in-Ready.done w.in-Ok.ensures.given in
      subst (λ h. IsCounted g.K.Crew.start h.hall h.book.total × (h.rest.parts ≡ 0) × (h.rest.amount ≡ 0) × IfSome h.course (λ course. StandsAs course h.hall)) (sym w.self-inside-is) (
        one_given g.K.Crew.start c.self.inside.book.total w.add.new.self.total c.self.inside.hall c.give.new.self c.self.invariant.0 one.0 one.1
            (omega (arith, c.audit.ensures.total, w.add.ensures.total)),
        c.self.invariant.1,
        c.self.invariant.2,
        course_stands c.self.inside.course c.self.inside.hall c.give.new.self (stands_given g.L.Law.answers c.self.inside.hall c.give.new.self c.in-Ready.done w.in-Ok.ensures.given) c.self.invariant.3,
      ))
  | in-Err-Memory-default w ↦
      subst (λ h. IsCounted g.K.Crew.start h.hall h.book.total × (h.rest.parts ≡ 0) × (h.rest.amount ≡ 0) × IfSome h.course (λ course. StandsAs course h.hall)) (sym w.self-inside-is) (
        subst (λ total. IsCounted g.K.Crew.start c.give.new.self total) (sym c.audit.ensures.total)
            (as_before g.K.Crew.start c.self.inside.book.total c.self.inside.hall c.give.new.self c.self.invariant.0
            (ap (λ h. h.given) w.in-Err-Memory-default.ensures.err) (ap (λ h. h.taken) w.in-Err-Memory-default.ensures.err)),
        c.self.invariant.1,
        c.self.invariant.2,
        course_stands c.self.inside.course c.self.inside.hall c.give.new.self (stands_still c.self.inside.hall c.give.new.self (sym w.in-Err-Memory-default.ensures.err)) c.self.invariant.3,
      )
  | in-Err w ↦
      subst (λ h. IsCounted g.K.Crew.start h.hall h.book.total × (h.rest.parts ≡ 0) × (h.rest.amount ≡ 0) × IfSome h.course (λ course. StandsAs course h.hall)) (sym w.self-inside-is) (
        subst (λ total. IsCounted g.K.Crew.start c.give.new.self total) (sym c.audit.ensures.total)
            (as_before g.K.Crew.start c.self.inside.book.total c.self.inside.hall c.give.new.self c.self.invariant.0
            (ap (λ h. h.given) w.in-Err.ensures.err) (ap (λ h. h.taken) w.in-Err.ensures.err)),
        c.self.invariant.1,
        c.self.invariant.2,
        course_stands c.self.inside.course c.self.inside.hall c.give.new.self (stands_still c.self.inside.hall c.give.new.self (sym w.in-Err.ensures.err)) c.self.invariant.3,
      )
]

pub returns-clause-refused : goal.returns-clause-refused
returns-clause-refused g c = elim c.match-give.branch [
  | in-Ok w ↦ subst (λ r. IfErr r (λ e. (e ≡ Memory) ⊎ (e ≡ Stranger))) (sym w.result-is) tt
  | in-Err-Memory-default w ↦ subst (λ r. IfErr r (λ e. (e ≡ Memory) ⊎ (e ≡ Stranger))) (sym w.result-is) (inl refl)
  | in-Err w ↦ subst (λ r. IfErr r (λ e. (e ≡ Memory) ⊎ (e ≡ Stranger))) (sym w.result-is)
      (give_refused g.L.Law.answers c.self.inside.hall c.in-Ready.done _ w.in-Err.ensures.refused)
]
