use Rattle.std.proofs.Common.{Some, sym, ap, ◌∙◌}
use Rattle.std.specs.Option.{option_map}
use Rattle.std.specs.Map.{lookup}
use Rattle.std.specs.BTreeMap.{is_at}
use Rattle.td_stamp.specs.Bag.{bag_of}
use Rattle.td_stamp.specs.Orders.{arrival_cmp}
use Rattle.td_shard.specs.Asked.{noted_cmp, noted_at, items_at}
use Rattle.td_shard.proofs.Viewed.{lookup-seen}
use Rattle.td_shard.proofs.waiting.Waiting.items.Goals as goal

pub returns-in-Some : goal.returns-in-Some
returns-in-Some c =
    let es = c.self.inside.asked.entries in
    let v = c.args.vertex in
    ap (λ l. Some (bag_of arrival_cmp l)) c.as_slice.ensures.value ∙ (ap (option_map (λ w. bag_of arrival_cmp w.items)) c.in-Some.ensures.value
    ∙ (ap (λ t. option_map (λ w. bag_of arrival_cmp w.items) (lookup (is_at (noted_cmp (noted_at v t))) es)) c.copy-time.ensures
    ∙ (sym (lookup-seen (λ w. bag_of arrival_cmp w.items) (is_at (noted_cmp (noted_at v c.args.time.now))) es) ∙ ap (λ w. items_at w v c.args.time.now) c.self.view_is)))

pub returns-in-None : goal.returns-in-None
returns-in-None c =
    let es = c.self.inside.asked.entries in
    let v = c.args.vertex in
    ap (option_map (λ w. bag_of arrival_cmp w.items)) c.in-None.ensures.value
    ∙ (ap (λ t. option_map (λ w. bag_of arrival_cmp w.items) (lookup (is_at (noted_cmp (noted_at v t))) es)) c.copy-time.ensures
    ∙ (sym (lookup-seen (λ w. bag_of arrival_cmp w.items) (is_at (noted_cmp (noted_at v c.args.time.now))) es) ∙ ap (λ w. items_at w v c.args.time.now) c.self.view_is))
