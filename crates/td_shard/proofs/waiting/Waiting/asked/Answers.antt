use Rattle.std.proofs.Common.{◌∙◌, map, sym, ap}
use Rattle.td_stamp.specs.Bag.{bag_of}
use Rattle.td_stamp.specs.Orders.{arrival_cmp}
use Rattle.td_shard.proofs.Viewed.{keys-seen}
use Rattle.td_shard.proofs.waiting.Waiting.asked.Goals as goal

pub returns : goal.returns
returns c = c.keys.ensures.rest ∙ (sym (keys-seen (λ v. bag_of arrival_cmp v.items) c.self.inside.asked.entries) ∙ ap (map (λ w. w.0)) c.self.view_is)
