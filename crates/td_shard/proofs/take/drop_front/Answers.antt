use Rattle.std.proofs.Common.{◌≡◌, ℕ, ◌==◌, ◌&&◌, Bool, true, false, cond, None, get_or, refl, sym, ap, ◌∙◌}
use Rattle.std.proofs.lemmas.Bool.{eq-eqb, eqb-true}
use Rattle.std.specs.HashMap.{get}
use Rattle.td_shard.specs.declared.runs.Lane.{Lane}
use Rattle.td_shard.specs.Runs.{lane_eq}
use Rattle.td_shard.proofs.take.drop_front.Goals as goal
use Rattle.td_shard.proofs.take.drop_front.Goals.{then-ahead-eq0, else-ahead-eq0}

is_apart : (n : ℕ) → (n ≡ 0 → ⊥) → (n == 0) ≡ false
is_apart n h = by (n == 0) refl
  where
    by : (b : Bool) → (n == 0) ≡ b → (n == 0) ≡ false
    by true e = absurd (h (eqb-true n 0 e))
    by false e = e

pub returns-clause-lasts : goal.returns-clause-lasts
returns-clause-lasts c d q =
    let s = get_or c.args.runs.now.parts 0 d in
    let old = get lane_eq c.args.lasts.now q in
    elim c.if-ahead-eq0.branch [
      | then-ahead-eq0 w ↦
          let none : (s.ahead == 0) ≡ true = eq-eqb s.ahead 0 (sym (c.ahead.ensures d) ∙ w.if-ahead-eq0.true) in
          ap (λ m. get lane_eq m q) w.lasts-is
          ∙ (w.remove.ensures.updates.0 q
          ∙ (ap (λ (l : Lane). cond (lane_eq l q) None old) (w.lane.ensures.lane d)
          ∙ ap (λ b. cond (b && lane_eq s.lane q) None old) (sym none)))
      | else-ahead-eq0 w ↦
          let some : (s.ahead == 0) ≡ false = is_apart s.ahead (λ e. w.if-ahead-eq0.false (c.ahead.ensures d ∙ e)) in
          ap (λ m. get lane_eq m q) w.lasts-is ∙ ap (λ b. cond (b && lane_eq s.lane q) None old) (sym some)
    ]
