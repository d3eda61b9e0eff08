use Rattle.std.proofs.Common.{◌≡◌, [], map, length, ◌∙◌, ap, arith}
use Rattle.std.specs.Vec.{with_items}
use Rattle.std.proofs.lemmas.List.{with_items_is}
use Rattle.td_stamp.specs.Bag.{bag_of}
use Rattle.td_stamp.specs.Orders.{arrival_cmp}
use Rattle.td_shard.specs.Asked.{noted_at}
use Rattle.td_shard.specs.contracts.waiting.Waiting.{the_view}
use Rattle.td_shard.proofs.Gathered.{as_before}
use Rattle.td_shard.proofs.Viewed.{seen}
use Rattle.td_shard.proofs.waiting.Waiting.sort.Goals as goal
use Rattle.td_shard.proofs.waiting.Waiting.sort.Goals.{in-Some, in_default}

pub returns : goal.returns
returns c = elim c.match-get_mut.branch [
  | in-Some w ↦
      let old = w.in-Some.items.now in
      let new = with_items old w.sort.new.members in
      let long : length w.sort.new.members ≡ old.len = omega (arith, w.sort.auto.members, w.as_mut_slice.ensures.len, old.ok) in
      ap the_view w.self-inside-is
      ∙ (as_before (λ v. bag_of arrival_cmp v.items) c.self.inside.asked.entries (c.get_mut.follows.lender new).entries (noted_at c.args.vertex c.copy-time.result) [] old new
      w.in-Some.ensures.value (c.get_mut.follows.holds new).0
      (ap (bag_of arrival_cmp) (with_items_is old w.sort.new.members long ∙ w.sort.ensures ∙ ap (bag_of arrival_cmp) w.as_mut_slice.ensures.value) ∙ c.bags.ensures.gives_a_bag old.items)
      ∙ c.self.view_is)
  | in_default w ↦ ap the_view w.self-inside-is ∙ (ap (λ m. map (seen (λ v. bag_of arrival_cmp v.items)) m.entries) c.get_mut.follows.holds-at-none ∙ c.self.view_is)
]
