use Rattle.std.proofs.Common.{◌≡◌, ◌-◌, suc, length, get_or, set, is_some, sym, ap, ◌∙◌, subst, arith}
use Rattle.td_progress.specs.Cells.{gaps_of}
use Rattle.td_progress.specs.Gaps.{has_epoch, times_at, timed, place, AreRising}
use Rattle.td_progress.proofs.Gaps.{le_not}
use Rattle.td_progress.proofs.ChainSteps.{length_gaps, timed_there, stands_there, rising_timed}
use Rattle.td_progress.proofs.chain.Chain.take_off.Goals as goal
use Rattle.td_progress.proofs.chain.Chain.take_off.Goals.{in-Some, in_default}

pub overflow_sub-cell : goal.overflow_sub-cell
overflow_sub-cell c =
    let cs = c.self.inside.cells.items in
    let e = c.args.epoch in
    let cell = c.in-Some.cell.now in
    let at = c.place-place.ensures.is ∙ ap (place e) (sym c.self.view_is) in
    let there = ap (has_epoch e) c.self.view_is ∙ c.requires.there in
    let r = timed_there e 0 (λ n. n - c.args.times) cs cell c.self.invariant there (subst (λ i. cell ≡ get_or cs i cell) at c.in-Some.ensures.value) in
    let same = ap (times_at e) c.self.view_is in
    omega (arith, r.1, same, c.requires.enough, c.from.ensures)

pub invariant_of-self : goal.invariant_of-self
invariant_of-self c =
    let cs = c.self.inside.cells.items in
    let e = c.args.epoch in
    let at = c.place-place.ensures.is ∙ ap (place e) (sym c.self.view_is) in
    let there = ap (has_epoch e) c.self.view_is ∙ c.requires.there in
    let long = length_gaps cs in
    let stands = stands_there e 0 (gaps_of cs) c.self.invariant there in
    elim c.match-get_mut.branch [
      | in-Some w ↦
          let cell = w.in-Some.cell.now in
          let r = timed_there e 0 (λ n. n - c.args.times) cs cell c.self.invariant there (subst (λ i. cell ≡ get_or cs i cell) at w.in-Some.ensures.value) in
          let made = ap (λ s. gaps_of s.cells.items) w.self-inside-is ∙ ((λ i. gaps_of (set cs (at i) (record { epoch = cell.epoch; gap = cell.gap; times = cell.times - w.from.ensures i }))) ∙ r.0) in
          subst (AreRising 0) (sym made) (rising_timed 0 e (λ n. n - c.args.times) (gaps_of cs) c.self.invariant)
      | in_default w ↦
          let past = le_not (suc c.place-place.result) (length cs) (sym c.get_mut.ensures.item.0 ∙ ap is_some w.in_default.is) in
          absurd (omega (arith, past, at, long, stands))
    ]

pub returns : goal.returns
returns c =
    let cs = c.self.inside.cells.items in
    let e = c.args.epoch in
    let at = c.place-place.ensures.is ∙ ap (place e) (sym c.self.view_is) in
    let there = ap (has_epoch e) c.self.view_is ∙ c.requires.there in
    let long = length_gaps cs in
    let stands = stands_there e 0 (gaps_of cs) c.self.invariant there in
    elim c.match-get_mut.branch [
      | in-Some w ↦
          let cell = w.in-Some.cell.now in
          let r = timed_there e 0 (λ n. n - c.args.times) cs cell c.self.invariant there (subst (λ i. cell ≡ get_or cs i cell) at w.in-Some.ensures.value) in
          ap (λ s. gaps_of s.cells.items) w.self-inside-is
          ∙ ((λ i. gaps_of (set cs (at i) (record { epoch = cell.epoch; gap = cell.gap; times = cell.times - w.from.ensures i }))) ∙ (r.0 ∙ ap (timed e (λ n. n - c.args.times)) c.self.view_is))
      | in_default w ↦
          let past = le_not (suc c.place-place.result) (length cs) (sym c.get_mut.ensures.item.0 ∙ ap is_some w.in_default.is) in
          absurd (omega (arith, past, at, long, stands))
    ]
