use Rattle.std.proofs.Common.{◌≡◌, ◌-◌, map, filter, nat_le, List, [], ◌∷◌, refl, ap, sym, ◌∙◌}
use Rattle.td_task.specs.Contents.{content_of}
use Rattle.td_stamp.specs.Groups.{groups}
use Rattle.td_machine.specs.State.Content.{notification}
use Rattle.td_machine.specs.State.{with_left}
use Rattle.td_stamp.specs.States.{state_of}
use Rattle.td_task.specs.KeyLists.{with_state, without_state}
use Rattle.td_machine.specs.Active.{kind_of}
use Rattle.td_core.proofs.take.notification_task.Goals as goal

map_twice : {X Y Z : Type 0} (f : X → Y) (g : Y → Z) (xs : List X) → map g (map f xs) ≡ map (λ x. g (f x)) xs
map_twice f g [] = refl
map_twice f g (x ∷ xs) = ap (λ l. g (f x) ∷ l) (map_twice f g xs)

pub returns-clause-ok : goal.returns-clause-ok
returns-clause-ok c =
    let made = c.new-2.ensures in
    let n = c.args.noted.now in
    let before : c.saturating_sub-before.result ≡ n.time.epoch - 1 = c.saturating_sub-before.ensures ∙ ap (λ e. e - 1) c.epoch.ensures in
    record {
      shard_is = ap (λ x. x.shard) made;
      number = ap (λ x. x.number) made;
      kind = ap (λ x. x.kind) made ∙ (c.kind-kind.ensures ∙ (c.requires.routes.kind n.vertex ∙ sym (ap (λ x. kind_of c.args.parts.now.table.plan x.vertex) made)));
      content = (
        ap (λ x. x.vertex) made,
        ap (λ x. x.time) made ∙ c.copy.ensures,
        λ items here.
            ap (λ x. x.content) made ∙ (ap content_of c.in_ok-work.ensures.ok ∙ ap notification (c.set_states.ensures
            ∙ ((λ i. map (λ k. with_state k (state_of (with_left c.args.parts.now.states (filter (λ one. nat_le one.epoch (before i)) c.args.parts.now.versions)) n.vertex k.key)) ((c.in_ok-items.ensures.ok ∙ ap (λ l. map without_state (groups l)) (c.items_of.ensures items here)) i))
            ∙ map_twice without_state _ (groups items)))),
      );
    }
