use Rattle.std.proofs.Common.{◌∙◌, map, sym, ap}
use Rattle.std.specs.Map.{remove_entry}
use Rattle.std.specs.BTreeMap.{is_at}
use Rattle.td_stamp.specs.Bag.{bag_of}
use Rattle.td_stamp.specs.Orders.{arrival_cmp}
use Rattle.td_shard.specs.Asked.{noted_cmp, noted_at, without_items}
use Rattle.td_shard.proofs.Viewed.{seen, remove-seen}
use Rattle.td_shard.proofs.waiting.Waiting.forget.Goals as goal

pub returns : goal.returns
returns c =
    let es = c.self.inside.asked.entries in
    let v = c.args.vertex in
    let t = c.args.time.now in
    record {
      left = ap (map (seen (λ w. bag_of arrival_cmp w.items))) (c.remove-items.ensures.entries ∙ ap (λ u. remove_entry (is_at (noted_cmp (noted_at v u))) es) c.copy-time.ensures)
          ∙ (sym (remove-seen (λ w. bag_of arrival_cmp w.items) (is_at (noted_cmp (noted_at v t))) es) ∙ ap (λ w. without_items w v t) c.self.view_is);
    }
