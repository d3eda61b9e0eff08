use Rattle.std.proofs.Common.{rules, ◌≡◌, ◌∙◌, ℕ, ap, ap₂, sym, subst}
use Rattle.std.proofs.lemmas.List.{take_all}
use Rattle.td_head.specs.declared.head.Head.{Head}
use Rattle.td_store.specs.standing.Standing.{Standing, standing_from}
use Rattle.td_store.specs.standing.Read.{MayStand}
use Rattle.td_calls.specs.Answers.{Answers}
use Rattle.td_keeper.specs.Keeping.{Keeping, IsKeeping}
use Rattle.td_keeper.proofs.keeper.Keeper.told.Goals as goal

-- what a keeper stands for may stand where it does
stands : {D : Type 0} (answers : Answers) (k : Keeping D) → IsKeeping k answers → (head : Head) (side : ℕ) (s : Standing) → head ≡ k.head → side ≡ k.side → s ≡ k.standing → MayStand k.plan head side s
stands answers k kept head side s h e is =
    subst (λ (x : Standing). MayStand k.plan head side x) (sym is)
    (subst (λ (x : ℕ). MayStand k.plan head x k.standing) (sym e)
    (subst (λ (x : Head). MayStand k.plan x k.side k.standing) (sym h)
    (record { which = kept.which; states = kept.states; batches = kept.batches; few = kept.few; small = kept.small })))

pub returns-clause-may_stand : goal.returns-clause-may_stand
returns-clause-may_stand g c =
    let states : c.in_ok-states.states ≡ c.self.inside.checkpoint.states = search rules in
    let submitted : c.loop-i.submitted.items ≡ c.self.inside.submitted.items = c.loop-i.invariant ∙ take_all c.loop-i.i c.self.inside.submitted.items (search rules) in
    stands g.L.Law.answers c.args.self.now c.each_is_kept.ensures _ _ _
    (ap (λ (k : Keeping g.row.D.Denot). k.head) c.self.view_is) (ap (λ (k : Keeping g.row.D.Denot). k.side) c.self.view_is)
    (ap₂ (λ s w. standing_from (record c.self.inside.checkpoint { states = s }) w) states submitted ∙ ap (λ (k : Keeping g.row.D.Denot). k.standing) c.self.view_is)
