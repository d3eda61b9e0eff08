use Rattle.std.proofs.Common.{◌≡◌, ◌++◌, ap, sym, ◌∙◌, append-nil, arith}
use Rattle.td_machine.specs.Steps.{coming}
use Rattle.td_shard.specs.declared.shard.Shard.{Shard}
use Rattle.td_task.specs.Contents.{content_of}
use Rattle.td_core.specs.Parts.{taken_up}
use Rattle.td_core.specs.Posted.{mails}
use Rattle.td_core.specs.Taking.{changed_at}
use Rattle.td_core.proofs.TakeLists.{map_same, map_changed, unchanged}
use Rattle.td_core.proofs.take.post_back.Goals as goal

pub returns-in-Messages-clause-mails : goal.returns-in-Messages-clause-mails
returns-in-Messages-clause-mails c =
    let s = c.index_mut.result.now in
    let task = c.args.task.now in
    let its : taken_up task.vertex task.time task.content ≡ coming c.vertex.result c.in-Messages.port c.time.result.now c.as_slice.result.now =
    ap (taken_up task.vertex task.time) (sym c.work.ensures.content ∙ ap content_of c.in-Messages.is)
    ∙ (λ i. coming (sym c.vertex.ensures i) c.in-Messages.port (sym c.time.ensures i) (sym c.as_slice.ensures.value i)) in
    map_changed (λ (x : Shard). x.mailbox.messages) (λ ms. ms ++ taken_up task.vertex task.time task.content) c.args.shards.now.items c.from.result _ s (omega (arith, c.requires.within, c.from.ensures))
    (c.post.ensures.messages ∙ (λ i. (c.index_mut.ensures.value i).mailbox.messages ++ sym its i))
    ∙ ap (λ n. changed_at (λ ms. ms ++ taken_up task.vertex task.time task.content) n (mails c.args.shards.now.items)) c.from.ensures

pub returns-in-Messages-clause-waiting : goal.returns-in-Messages-clause-waiting
returns-in-Messages-clause-waiting c =
    let s = c.index_mut.result.now in
    map_same (λ (x : Shard). x.waiting) c.args.shards.now.items c.from.result _ s (omega (arith, c.requires.within, c.from.ensures)) (ap (λ (x : Shard). x.waiting) c.index_mut.ensures.value)

pub returns-in-Notification-clause-mails : goal.returns-in-Notification-clause-mails
returns-in-Notification-clause-mails c =
    let task = c.args.task.now in
    let none = ap (taken_up task.vertex task.time) (sym c.work.ensures.content ∙ ap content_of c.in-Notification.is) in
    sym (unchanged (λ ms. ms ++ taken_up task.vertex task.time task.content) (λ ms. ap (λ l. ms ++ l) none ∙ append-nil ms) c.args.shard (mails c.args.shards.now.items))
