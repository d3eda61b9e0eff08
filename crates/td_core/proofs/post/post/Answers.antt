use Rattle.std.proofs.Common.{length, sym, ◌∙◌}
use Rattle.td_core.proofs.PostRuns.{room_apart, more_room_apart, all_of_one, room_together, more_room_together}
use Rattle.td_core.proofs.post.post.Goals as goal

pub post_run-requires-clause-own : goal.post_run-requires-clause-own
post_run-requires-clause-own c = all_of_one (length c.args.shards.now.items) (sym (c.len.ensures ∙ c.args.shards.now.ok.0) ∙ c.if-len-eq1.true) c.args.recs.now

pub post_run-requires-clause-room : goal.post_run-requires-clause-room
post_run-requires-clause-room c = room_together c.args.recs.now (length c.args.outlets.now) c.args.shards.now.items (sym (c.len.ensures ∙ c.args.shards.now.ok.0) ∙ c.if-len-eq1.true) c.requires.room

pub returns-then-len-eq1-clause-room : goal.returns-then-len-eq1-clause-room
returns-then-len-eq1-clause-room c runs many h =
    c.post_run.ensures.room runs many (more_room_together c.args.recs.now (length c.args.outlets.now) c.args.shards.now.items (sym (c.len.ensures ∙ c.args.shards.now.ok.0) ∙ c.if-len-eq1.true) runs many h)

pub post_runs-requires-clause-room : goal.post_runs-requires-clause-room
post_runs-requires-clause-room c = room_apart c.args.recs.now (length c.args.outlets.now) c.args.shards.now.items (λ one. c.if-len-eq1.false (c.len.ensures ∙ (c.args.shards.now.ok.0 ∙ one))) c.requires.room

pub returns-else-len-eq1-clause-room : goal.returns-else-len-eq1-clause-room
returns-else-len-eq1-clause-room c runs many h =
    c.post_runs.ensures.room runs many
    (more_room_apart c.args.recs.now (length c.args.outlets.now) c.args.shards.now.items runs many (λ one. c.if-len-eq1.false (c.len.ensures ∙ (c.args.shards.now.ok.0 ∙ one))) h)
