use Rattle.std.proofs.Common.{◌≡◌, ◌∙◌, [], ◌∷◌, sym, subst, refl}
use Rattle.std.specs.List.{AllByRecursion}
use Rattle.td_reach.specs.Paths.{IsOf}
use Rattle.td_machine.specs.ByEdge.{times_from}
use Rattle.td_shard.specs.Messages.{AreApart}
use Rattle.td_core.specs.Posted.{stamp_on_outlet}
use Rattle.td_core.proofs.Sending.{looked_up, none_sent, sent_then, outlets_of_plan}
use Rattle.td_core.proofs.deliver.send.Goals as goal

pub returns-in_default-clause-ok : goal.returns-in_default-clause-ok
returns-in_default-clause-ok c =
    let parts = c.args.parts.now in
    none_sent parts c.args.vertex c.args.time.now (sym (c.in_default.ensures ∙ looked_up parts.table.plan parts.routes c.requires.routes c.args.vertex c.args.time.now)) c.args.recs.now

pub prepare-requires-clause-of_plan : goal.prepare-requires-clause-of_plan
prepare-requires-clause-of_plan c =
    let parts = c.args.parts.now in
    let times : times_from parts.table.plan c.args.vertex c.args.time.now ≡ c.in-Some.later ∷ [] = sym (c.in-Some.ensures ∙ looked_up parts.table.plan parts.routes c.requires.routes c.args.vertex c.args.time.now) in
    subst (AllByRecursion (λ o. IsOf parts.table.plan (stamp_on_outlet c.in-Some.later o))) (sym (c.outlets-outlets.ensures ∙ c.requires.routes.outlets c.args.vertex))
    (outlets_of_plan parts.table.plan c.args.vertex c.args.time.now c.in-Some.later times c.requires.of_plan)

pub returns-clause-ok : goal.returns-clause-ok
returns-clause-ok c =
    let parts = c.args.parts.now in
    let times : times_from parts.table.plan c.args.vertex c.args.time.now ≡ c.in-Some.later ∷ [] = sym (c.in-Some.ensures ∙ looked_up parts.table.plan parts.routes c.requires.routes c.args.vertex c.args.time.now) in
    sent_then parts (record parts { table = c.prepare.new.table; shards = c.post.new.shards }) c.args.vertex c.args.time.now c.in-Some.later times c.outlets-outlets.result.now
    (c.outlets-outlets.ensures ∙ c.requires.routes.outlets c.args.vertex) c.args.recs.now parts.seen parts.outputs c.prepare.new.shards.items refl c.in_ok-prepare.ensures.plan c.in_ok-prepare.ensures.stamps
    c.in_ok-prepare.ensures.shards c.post.ensures.messages

pub post-requires-clause-apart : goal.post-requires-clause-apart
post-requires-clause-apart c = subst AreApart (sym c.outlets-outlets.ensures) (c.requires.routes.apart c.args.vertex)
