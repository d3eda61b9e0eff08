use Rattle.std.proofs.Common.{◌≡◌, true, Option, ℕ, ap, sym, ◌∙◌, ◌++◌, ◌∷◌, []}
use Rattle.td_slots.specs.Parsed.{last_place, may_come_after}
use Rattle.td_states.proofs.Order.{ordered_more}
use Rattle.td_states.proofs.ReadOn.{held_given, held_ends}
use Rattle.td_states.proofs.draft.Draft.with_fold.Goals as goal

pub push-requires : goal.push-requires
push-requires c =
    let at = c.self.inside.checkpoint in
    let may : may_come_after (last_place at.states) (c.args.fold, c.args.key) ≡ true =
    ap (λ (p : Option (ℕ × ℕ)). may_come_after p (c.args.fold, c.args.key)) (sym c.self.invariant.last) ∙ sym c.may_come.ensures ∙ c.if-not-may_come.false in
    c.states_are_in_order.ensures.rises (at.states ++ ((c.args.fold, c.args.key), c.args.state) ∷ []) (ordered_more at.states ((c.args.fold, c.args.key), c.args.state) c.self.invariant.rises may)

pub invariant_of-result : goal.invariant_of-result
invariant_of-result c =
    let at = c.self.inside.checkpoint in
    let may : may_come_after (last_place at.states) (c.args.fold, c.args.key) ≡ true =
    ap (λ (p : Option (ℕ × ℕ)). may_come_after p (c.args.fold, c.args.key)) (sym c.self.invariant.last) ∙ sym c.may_come.ensures ∙ c.if-not-may_come.false in
    held_ends at ((c.args.fold, c.args.key), c.args.state) c.push.new.self may c.in_ok-push.ensures.ok c.self.invariant.rises

pub returns : goal.returns
returns c =
    let at = c.self.inside.checkpoint in
    let may : may_come_after (last_place at.states) (c.args.fold, c.args.key) ≡ true =
    ap (λ (p : Option (ℕ × ℕ)). may_come_after p (c.args.fold, c.args.key)) (sym c.self.invariant.last) ∙ sym c.may_come.ensures ∙ c.if-not-may_come.false in
    held_given at ((c.args.fold, c.args.key), c.args.state) c.push.new.self may c.in_ok-push.ensures.ok c.args.number c.args.self (sym c.self.view_is)
