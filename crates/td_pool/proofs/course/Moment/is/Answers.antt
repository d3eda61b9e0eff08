use Rattle.std.proofs.Common.{rules, ◌≡◌, ap, subst, length, List, arith}
use mathlib.Core.List.{IsPrefix}
use Rattle.td_machine.specs.State.{HallState}
use Rattle.td_pool.specs.Courses.{last_of}
use Rattle.td_pool.proofs.Beginnings.{same}
use Rattle.td_pool.proofs.course.Moment.is.Goals as goal

pub returns : goal.returns
returns g c = λ yes.
    let both = c.learn.new.self.log in
    let mine = c.self.inside.seen.log in
    let theirs = c.other.inside.seen.log in
    let this : IsPrefix mine both = subst (λ (l : List HallState). IsPrefix l both) (ap (λ s. s.log) c.again-both.ensures) c.learn.ensures.2 in
    let equal : c.self.inside.entries ≡ c.other.inside.entries = grind (arith, yes) in
    let as_long : length mine ≡ length theirs = omega (arith, equal, c.self.invariant.0, c.other.invariant.0) in
    rw (← c.self.view_is, ← c.other.view_is) (ap last_of (same mine theirs both this c.learn.ensures.3 as_long))
