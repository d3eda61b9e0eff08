use Rattle.std.proofs.Common.{◌∙◌, sym, ap}
use Rattle.std.specs.Option.{is_some}
use Rattle.std.specs.Map.{lookup}
use Rattle.std.specs.BTreeMap.{is_at}
use Rattle.td_stamp.specs.Bag.{bag_of}
use Rattle.td_stamp.specs.Orders.{arrival_cmp}
use Rattle.td_shard.specs.Asked.{noted_cmp, noted_at, items_at}
use Rattle.td_shard.proofs.Viewed.{some-seen}
use Rattle.td_shard.proofs.waiting.Waiting.is_asked.Goals as goal

pub returns : goal.returns
returns c =
    let es = c.self.inside.asked.entries in
    c.contains_key.ensures ∙ (ap (λ t. is_some (lookup (is_at (noted_cmp (noted_at c.args.vertex t))) es)) c.copy-time.ensures
    ∙ (sym (some-seen (λ v. bag_of arrival_cmp v.items) (is_at (noted_cmp (noted_at c.args.vertex c.args.time.now))) es) ∙ ap (λ w. is_some (items_at w c.args.vertex c.args.time.now)) c.self.view_is))
