use Rattle.std.proofs.Common.{◌≡◌, ◌+◌, ◌==◌, ◌++◌, ◌∷◌, [], true, length, sym, ◌∙◌, ap, subst, MatchBool, rules, arith}
use Rattle.std.proofs.lemmas.Bool.Decides.{nat_tests}
use Rattle.td_machine.specs.State.{HallState}
use Rattle.td_pool.specs.Courses.{last_of}
use Rattle.td_pool.proofs.Noting.{adds_moves}
use Rattle.td_pool.proofs.Beginnings.{last_is}
use Rattle.td_pool.proofs.course.Course.then.Goals as goal

pub compare_exchange-found-requires : goal.compare_exchange-found-requires
compare_exchange-found-requires g c =
    let h = c.self.inside.head_is in
    let offer = c.plain-offer.ensures in
    let pen = c.no_pen-pen.ensures in
    let last = c.last.invariant in
    let next : c.in_ok-more.more ≡ c.last.inside.entries + 1 = search rules in (
      ap (λ w. w.tracked) h,
      last.1 ∙ sym (ap (λ w. w.book) h),
      pen.0 ∙ (last.1 ∙ sym (ap (λ w. w.book) h)),
      offer.0,
      rw (ap (λ w. w.key) h, pen.1, offer.1, offer.3) (adds_moves c.last.inside.seen.log c.args.hall.now c.last.inside.entries c.in_ok-more.more (sym last.0) next),
    )

pub returns : goal.returns
returns g c =
    let seen = c.last.inside.seen.log in
    let log = c.compare_exchange-found.new.seen.log in
    let found : (c.compare_exchange-found.result == c.last.inside.entries) ≡ true = grind (arith, nat_tests, c.if-found-entries.false) in
    let added : log ≡ seen ++ c.plain-offer.result.ask ∷ [] =
    subst (λ b. MatchBool b (log ≡ seen ++ c.plain-offer.result.ask ∷ []) (length log ≡ c.compare_exchange-found.result)) found c.compare_exchange-found.ensures.7 in
    ap last_of (added ∙ ap (λ (S : HallState). seen ++ S ∷ []) c.plain-offer.ensures.1) ∙ last_is c.args.hall.now seen
