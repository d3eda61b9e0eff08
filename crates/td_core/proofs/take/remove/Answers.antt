use Rattle.std.proofs.Common.{◌<◌, length, get_or, ap, sym, ◌∙◌, subst, arith}
use Rattle.td_shard.specs.Messages.{left_at}
use Rattle.td_shard.specs.declared.shard.Shard.{Shard}
use Rattle.td_core.specs.Taking.{IsThere, mails_without, room_of}
use Rattle.td_core.specs.Posted.{mails}
use Rattle.td_core.proofs.TakeLists.{map_same, map_changed}
use Rattle.td_core.proofs.take.remove.Goals as goal

pub remove-requires : goal.remove-requires
remove-requires c =
    let s = c.index_mut.result.now in
    let there = ap (get_or c.args.shards.now.items) c.from.ensures in
    subst (λ (x : Shard). c.in-Message.place < length x.mailbox.messages) (sym (c.index_mut.ensures.value ∙ (λ i. there i s))) (subst (IsThere (get_or c.args.shards.now.items c.args.shard s)) c.in-Message.is (c.requires.there s))

pub returns-in-Message-clause-mails : goal.returns-in-Message-clause-mails
returns-in-Message-clause-mails c =
    let s = c.index_mut.result.now in
    map_changed (λ (x : Shard). x.mailbox.messages) (left_at c.in-Message.place) c.args.shards.now.items c.from.result _ s (omega (arith, c.requires.within, c.from.ensures))
    (ap (λ m. m.messages) c.remove.ensures ∙ ap (λ (x : Shard). left_at c.in-Message.place x.mailbox.messages) c.index_mut.ensures.value)
    ∙ ((λ i. mails_without (sym c.in-Message.is i) (c.from.ensures i) (mails c.args.shards.now.items)))

pub returns-in-Message-clause-waiting : goal.returns-in-Message-clause-waiting
returns-in-Message-clause-waiting c =
    let s = c.index_mut.result.now in
    map_same (λ (x : Shard). x.waiting) c.args.shards.now.items c.from.result _ s (omega (arith, c.requires.within, c.from.ensures)) (ap (λ (x : Shard). x.waiting) c.index_mut.ensures.value)

pub returns-in-Message-clause-room : goal.returns-in-Message-clause-room
returns-in-Message-clause-room c =
    let s = c.index_mut.result.now in
    map_same room_of c.args.shards.now.items c.from.result _ s (omega (arith, c.requires.within, c.from.ensures))
    ((λ i. ((c.remove.ensures i).runs, (c.remove.ensures i).room)) ∙ ap room_of c.index_mut.ensures.value)
