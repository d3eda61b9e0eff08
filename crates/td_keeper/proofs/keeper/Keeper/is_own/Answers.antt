use Rattle.std.proofs.Common.{List, drop, sym, ap, ◌∙◌, subst, true≢false}
use Rattle.td_stamp.specs.declared.values.Entry.{Entry}
use Rattle.td_store.specs.standing.Standing.{batches_of}
use Rattle.td_keeper.specs.Keeping.{Keeping, since_base}
use Rattle.td_keeper.specs.Halls.{Begin}
use Rattle.td_keeper.proofs.keeper.Keeper.is_own.Goals as goal

pub returns-then-not-are : goal.returns-then-not-are
returns-then-not-are g c = (
  λ f. absurd (true≢false (sym f)),
  λ own. absurd (true≢false (sym (c.are.ensures.1 (c.base-epoch.ensures.states ∙ (sym own.base_states ∙ sym c.base-of_hall.ensures.states))) ∙ c.if-not-are.true)),
)

pub returns-then-not-same_plan : goal.returns-then-not-same_plan
returns-then-not-same_plan g c = (
  λ f. absurd (true≢false (sym f)),
  λ own. absurd (true≢false (sym (c.same-same_plan.ensures.1 (c.plan.ensures ∙ (own.plan ∙ sym (ap (λ (q : Keeping g.row.D.Denot). q.plan) c.self.view_is)))) ∙ c.if-not-same_plan.true)),
)

pub returns : goal.returns
returns g c =
    let subs = ap (λ (q : Keeping g.row.D.Denot). batches_of q.standing.submitted) c.self.view_is in (
      λ t. record {
        plan = sym c.plan.ensures ∙ (c.same-same_plan.ensures.0 c.if-not-same_plan.false ∙ ap (λ (q : Keeping g.row.D.Denot). q.plan) c.self.view_is);
        base = sym c.base-of_hall.ensures.epoch ∙ (c.if-of_hall-epoch.false ∙ c.base-epoch.ensures.epoch);
        base_states = sym c.base-of_hall.ensures.states ∙ (sym (c.are.ensures.0 c.if-not-are.false) ∙ c.base-epoch.ensures.states);
        collected = sym c.collected.ensures ∙ (c.if-collected-self.false ∙ ap (λ (q : Keeping g.row.D.Denot). q.collected) c.self.view_is);
        batches = subst (λ (l : List (List Entry)). Begin l (since_base c.args.self.now)) c.inputs.ensures
            (subst (λ n. Begin c.inputs.result.now.items (drop n (batches_of c.args.self.now.standing.submitted))) c.past.ensures
            (subst (λ (l : List (List Entry)). Begin c.inputs.result.now.items (drop c.past.result l)) subs (c.begin.ensures.0 t)));
      },
      λ own. c.begin.ensures.1
          (subst (λ (l : List (List Entry)). Begin c.inputs.result.now.items (drop c.past.result l)) (sym subs)
          (subst (λ n. Begin c.inputs.result.now.items (drop n (batches_of c.args.self.now.standing.submitted))) (sym c.past.ensures)
          (subst (λ (l : List (List Entry)). Begin l (since_base c.args.self.now)) (sym c.inputs.ensures) own.batches))),
    )
