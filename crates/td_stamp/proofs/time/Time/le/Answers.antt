use Rattle.std.proofs.Common.{◌≡◌, ◌≤◌, ◌&&◌, ap, sym, ◌∙◌, arith}
use Rattle.std.specs.Ordering.{nat_cmp, is_le}
use Rattle.std.specs.Cmp.Lexicographic.{slice_cmp}
use Rattle.std.proofs.lemmas.Bool.{le-leb}
use Rattle.td_stamp.specs.Time.{Timestamp, counters_cmp}
use Rattle.td_stamp.proofs.TimeLaws.{time_le-IsAtMost, IsAtMost-time_le}
use Rattle.td_stamp.proofs.time.Time.le.Goals as goal

pub returns-then-self-other-clause-value : goal.returns-then-self-other-clause-value
returns-then-self-other-clause-value c =
    let mine : c.self.inside.epoch ≡ c.args.self.now.epoch = ap (λ (t : Timestamp). t.epoch) c.self.view_is in
    let others : c.other.inside.epoch ≡ c.args.other.now.epoch = ap (λ (t : Timestamp). t.epoch) c.other.view_is in
    let not_later : c.args.self.now.epoch ≤ c.args.other.now.epoch = omega (arith, c.if-self-other.true) in
    c.is_le.ensures
    ∙ ap is_le (c.cmp.ensures ∙ (λ i. slice_cmp nat_cmp (c.turns.ensures i) (c.turns-then-self-other.ensures i)))
    ∙ sym (ap (λ b. b && is_le (counters_cmp c.args.self.now.turns c.args.other.now.turns)) (le-leb c.args.self.now.epoch c.args.other.now.epoch not_later))

pub returns-then-self-other-clause-meaning : goal.returns-then-self-other-clause-meaning
returns-then-self-other-clause-meaning c =
    let t = c.args.self.now in
    let u = c.args.other.now in
    let value = returns-then-self-other-clause-value c in
    (λ h. time_le-IsAtMost t u c.requires (sym value ∙ h), λ h. value ∙ IsAtMost-time_le t u c.requires h)
