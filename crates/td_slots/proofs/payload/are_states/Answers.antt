use Rattle.std.proofs.Common.{◌≡◌, ℕ, ◌+◌, ◌*◌, not, Option, Some, None, drop, refl, sym, ap, ◌∙◌}
use Rattle.std.specs.Prelude.{IfNone}
use Rattle.td_slots.specs.Slot.{state_in}
use Rattle.td_slots.specs.Parsed.{may_come_after}
use Rattle.td_slots.proofs.Parsing.{not_named, too_late, look_more}
use Rattle.td_slots.proofs.payload.are_states.Goals as goal

if_none : {X P : Type 0} (o : Option X) → ((x : X) → o ≡ Some x → ⊥) → IfNone o P → P
if_none None not p = p
if_none (Some x) not p = absurd (not x refl)

pub returns-in_default : goal.returns-in_default
returns-in_default c =
    sym (not_named c.args.folds.now c.read-i-end.result.count c.args.payload.now c.loop-i.i c.loop-i.last c.loop-i.invariant.looked c.loop-i-test.true
    (if_none c.kept_at.result c.in_default.not-Some c.kept_at.ensures.none))

pub returns-then-not-may_come : goal.returns-then-not-may_come
returns-then-not-may_come c =
    let next = state_in (drop (24 + 32 * c.loop-i.i) c.args.payload.now) in
    sym (too_late c.args.folds.now c.read-i-end.result.count c.args.payload.now c.loop-i.i c.loop-i.last c.loop-i.invariant.looked c.loop-i-test.true
    (ap (may_come_after c.loop-i.last) (sym c.in-Some.ensures.some) ∙ sym c.may_come.ensures ∙ c.if-not-may_come.true))

pub loop-i-preserved : goal.loop-i-preserved
loop-i-preserved c =
    record {
      count = c.loop-i.invariant.count;
      looked = look_more c.args.folds.now c.read-i-end.result.count c.args.payload.now c.loop-i.i c.loop-i.last c.loop-i.invariant.looked c.loop-i-test.true
          c.in-Some.ensures.named
          (ap (may_come_after c.loop-i.last) (sym c.in-Some.ensures.some) ∙ sym c.may_come.ensures ∙ c.if-not-may_come.false)
          (Some c.in-Some.place) (ap (λ (p : ℕ × ℕ). Some p) c.in-Some.ensures.some);
    }
