use Rattle.std.proofs.Common.{◌≤◌, cond, ap, ◌∙◌, arith}
use Rattle.td_shard.proofs.Search.{at_next, at_behind, still_within}
use Rattle.td_shard.proofs.TakenUp.{nothing}
use Rattle.td_shard.proofs.take.place_at.Goals as goal
use Rattle.td_shard.proofs.take.place_at.Goals.{then-left-gt0, else-left-gt0+then-not-has_number, then-has_number, else-has_number}

pub overflow_sub-left : goal.overflow_sub-left
overflow_sub-left c =
    elim c.if-left-gt0.branch [
      | then-left-gt0 w ↦ omega (arith, w.if-left-gt0.true)
      | else-left-gt0+then-not-has_number w ↦
          let none = w.has_number.ensures.count nothing ∙ ap (λ b. cond b 1 0) w.if-not-has_number.true in
          let one = c.has_number-in-loop-left.ensures.count nothing ∙ ap (λ b. cond b 1 0) c.if-has_number.true in
          omega (arith, none, one)
    ]

pub overflow_add-place : goal.overflow_add-place
overflow_add-place c =
    let within = still_within c.args.number c.args.runs.now.parts c.loop-left.place c.loop-left.left c.loop-left.invariant.behind in
    omega (arith, within, c.has_number-in-loop-left.ensures.fits)

pub loop-left-preserved : goal.loop-left-preserved
loop-left-preserved c =
    let ps = c.args.runs.now.parts in
    let n = c.args.number in
    let place = c.loop-left.place in
    let was = c.loop-left.invariant in
    let within = still_within n ps place c.loop-left.left was.behind in
    let next = at_next n ps place nothing within in
    let behind = at_behind n ps place nothing within in
    let count = c.has_number-in-loop-left.ensures.count nothing in
    elim c.if-has_number.branch [
      | then-has_number w ↦
          let one = count ∙ ap (λ b. cond b 1 0) w.if-has_number.true in
          let some : 1 ≤ c.loop-left.left =
          elim c.if-left-gt0.branch [
            | then-left-gt0 v ↦ omega (arith, v.if-left-gt0.true)
            | else-left-gt0+then-not-has_number v ↦ let none = v.has_number.ensures.count nothing ∙ ap (λ b. cond b 1 0) v.if-not-has_number.true in omega (arith, none, one)
          ] in
          record { before = omega (arith, was.before, next, one, some, w.left-is); behind = omega (arith, was.behind, behind, one, some, w.left-is) }
      | else-has_number w ↦
          let none = count ∙ ap (λ b. cond b 1 0) w.if-has_number.false in
          record { before = omega (arith, was.before, next, none, w.left-is); behind = omega (arith, was.behind, behind, none, w.left-is) }
    ]

pub returns-clause-fits : goal.returns-clause-fits
returns-clause-fits c =
    let some = c.has_number.ensures.there c.if-not-has_number.false nothing in
    let is = c.below_in.ensures.count nothing in
    let fits = c.below_in.ensures.fits nothing in
    omega (arith, some, is, fits)
