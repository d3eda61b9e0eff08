use Rattle.std.proofs.Common.{◌∙◌, ◌++◌, [], map, ap}
use Rattle.std.proofs.lemmas.Result.{on_ok_weaker, on_err_weaker}
use Rattle.std.specs.BTreeMap.{insert_entry}
use Rattle.td_stamp.specs.Bag.{bag_of}
use Rattle.td_stamp.specs.Groups.{arrival_of}
use Rattle.td_stamp.specs.Orders.{arrival_cmp}
use Rattle.td_shard.specs.Asked.{noted_cmp, noted_at, with_items}
use Rattle.td_shard.proofs.Gathered.{more_in_bag, grown, put_in, as_before}
use Rattle.td_shard.proofs.Viewed.{seen}
use Rattle.td_shard.proofs.waiting.Waiting.wait.Goals as goal

pub returns-in-Some-clause-ok : goal.returns-in-Some-clause-ok
returns-in-Some-clause-ok c =
    let es = c.self.inside.asked.entries in
    let more = map (arrival_of c.args.port) c.args.recs.now in
    let old = c.in-Some.items.now in
    let new = c.push_items.new.items in
    on_ok_weaker c.push_items.result
    (λ h. grown (λ v. bag_of arrival_cmp v.items) es (c.get_mut.follows.lender new).entries (noted_at c.args.vertex c.copy-time.result) more old new c.in-Some.ensures.value (c.get_mut.follows.holds new).0
    (ap (bag_of arrival_cmp) h ∙ more_in_bag c.bags.ensures.append c.joins.ensures.associative old.items more)
    ∙ (ap (λ t. with_items (map (seen (λ v. bag_of arrival_cmp v.items)) es) c.args.vertex t more) c.copy-time.ensures ∙ ap (λ w. with_items w c.args.vertex c.args.time.now more) c.self.view_is))
    c.push_items.ensures.ok

pub returns-in-Some-clause-err : goal.returns-in-Some-clause-err
returns-in-Some-clause-err c =
    let es = c.self.inside.asked.entries in
    let new = c.push_items.new.items in
    on_err_weaker c.push_items.result
    (λ h. as_before (λ v. bag_of arrival_cmp v.items) es (c.get_mut.follows.lender new).entries (noted_at c.args.vertex c.copy-time.result) [] c.in-Some.items.now new c.in-Some.ensures.value (c.get_mut.follows.holds new).0 (ap (bag_of arrival_cmp) h) ∙ c.self.view_is)
    c.push_items.ensures.err

pub returns-in_ok-insert-in-None-clause-ok : goal.returns-in_ok-insert-in-None-clause-ok
returns-in_ok-insert-in-None-clause-ok c =
    let es = c.self.inside.asked.entries in
    let more = map (arrival_of c.args.port) c.args.recs.now in
    let items = c.push_items-in-None.new.items in
    put_in (λ v. bag_of arrival_cmp v.items) es c.insert.new.self.entries (noted_at c.args.vertex c.copy-time.result) more items c.in-None.ensures.value
    (c.in_ok-insert-in-None.ensures.entries ∙ ap (λ m. insert_entry noted_cmp m.entries (noted_at c.args.vertex c.copy-time.result) items) c.get_mut.follows.holds-at-none)
    (ap (bag_of arrival_cmp) (c.in_ok-push_items-in-None.ensures.ok ∙ ap (λ l. l ++ more) c.new-items.ensures.items))
    ∙ (ap (λ t. with_items (map (seen (λ v. bag_of arrival_cmp v.items)) es) c.args.vertex t more) c.copy-time.ensures ∙ ap (λ w. with_items w c.args.vertex c.args.time.now more) c.self.view_is)
