use Rattle.std.proofs.Common.{◌++◌, ◌∷◌, [], ap, sym, ◌∙◌, length, arith}
use Rattle.td_task.specs.declared.keyed.Key.{Key}
use Rattle.std.specs.Prelude.{None}
use Rattle.td_task.specs.Arriving.{with_arrival_by}
use Rattle.td_task.specs.KeyLists.{with_items}
use Rattle.td_task.proofs.CutLists.{length-with_last}
use Rattle.td_task.proofs.KeysWithItems.{with_items-add, with_items-last}
use Rattle.td_task.proofs.keyed.put.Goals as goal

pub returns-then-is_last-clause-keys : goal.returns-then-is_last-clause-keys
returns-then-is_last-clause-keys c =
    let keys = c.args.keys.now.items in
    let items = c.args.items.now.lists in
    ap (with_items keys) c.put_into_last.ensures.lists ∙ with_items-last keys items c.args.arrival.item c.requires.same
    ∙ ap (λ b. with_arrival_by b (with_items keys items) c.args.arrival) (sym c.if-is_last.true)

pub returns-then-is_last-clause-same : goal.returns-then-is_last-clause-same
returns-then-is_last-clause-same c =
    c.requires.same ∙ sym (ap length c.put_into_last.ensures.lists ∙ length-with_last c.args.items.now.lists c.args.arrival.item)

pub returns-then-is_last-clause-lists : goal.returns-then-is_last-clause-lists
returns-then-is_last-clause-lists c =
    let same = ap length c.put_into_last.ensures.lists ∙ length-with_last c.args.items.now.lists c.args.arrival.item in
    omega (arith, same, c.put_into_last.ensures.more_lists)

pub returns-else-is_last-clause-keys : goal.returns-else-is_last-clause-keys
returns-else-is_last-clause-keys c =
    let keys = c.args.keys.now.items in
    let items = c.args.items.now.lists in
    let k : Key = record { key = c.args.arrival.key; state = None } in
    ap (λ ks. with_items ks c.put.new.self.lists) c.push_reserved.ensures.items ∙ ap (with_items (keys ++ k ∷ [])) c.put.ensures.lists
    ∙ with_items-add keys items k (c.args.arrival.item ∷ []) c.requires.same
    ∙ ap (λ b. with_arrival_by b (with_items keys items) c.args.arrival) (sym c.if-is_last.false)
