use Rattle.std.proofs.Common.{◌≡◌, ◌∙◌, ◌<◌, ◌⊎◌, ℕ, ap, sym, subst, refl, [], map, flat_map, length}
use Rattle.std.proofs.lemmas.Result.{on_ok_weaker}
use Rattle.td_stamp.specs.Groups.{arrival_of}
use Rattle.td_stamp.specs.Time.{Timestamp}
use Rattle.td_stamp.specs.Bag.{join}
use Rattle.td_plan.specs.declared.vertex.Kind.TheVariants.{Input, Map, Distinct, Group, Fold, Enter, Feedback, Leave, Output}
use Rattle.td_calls.specs.Callbacks.{nothing_kept, on_arrival}
use Rattle.td_machine.specs.State.{stamped_cmp, output_at_cmp}
use Rattle.td_machine.specs.Steps.{stamped}
use Rattle.td_machine.specs.AtOnce.{fresh}
use Rattle.td_core.specs.Came.{output_at}
use Rattle.td_core.specs.Delivered.{IsSent, IsNoted}
use Rattle.td_core.proofs.Delivering.{can_send, own_place, one_time, some_records, shard_there, nothing_sent, sent_as, passed_on, kept_as}
use Rattle.td_core.proofs.deliver.deliver.Goals as goal

pub send-requires : goal.send-requires
send-requires g c =
    can_send g.L.Law.answers c.args.parts.now c.args.done.now c.requires.hall c.requires.out c.vertex-vertex.result c.time-time.result.now
    (c.vertex-vertex.ensures ∙ ap (λ task. task.vertex) c.task-task.ensures) (c.time-time.ensures ∙ ap (λ task. task.time) c.task-task.ensures)
    c.known.ensures.reached_in_order.numbers c.known.ensures.sends_of_plan c.known.ensures.turns_of_plan

pub send_new-requires-clause-can : goal.send_new-requires-clause-can
send_new-requires-clause-can g c =
    can_send g.L.Law.answers c.args.parts.now c.args.done.now c.requires.hall c.requires.out c.vertex-vertex.result c.time-time.result.now
    (c.vertex-vertex.ensures ∙ ap (λ task. task.vertex) c.task-task.ensures) (c.time-time.ensures ∙ ap (λ task. task.time) c.task-task.ensures)
    c.known.ensures.reached_in_order.numbers c.known.ensures.sends_of_plan c.known.ensures.turns_of_plan

pub send_new-requires-clause-plain : goal.send_new-requires-clause-plain
send_new-requires-clause-plain g c =
    one_time g.L.Law.answers c.args.parts.now c.args.done.now c.requires.hall c.requires.out c.vertex-vertex.result c.time-time.result.now
    (c.vertex-vertex.ensures ∙ ap (λ task. task.vertex) c.task-task.ensures) (c.time-time.ensures ∙ ap (λ task. task.time) c.task-task.ensures)
    c.known.ensures.reached_in_order.tasks Distinct (sym (ap (λ task. task.kind) c.task-task.ensures) ∙ (sym c.kind.ensures ∙ c.in-Distinct.is)) (λ bound. refl)

pub come_out-requires-clause-can : goal.come_out-requires-clause-can
come_out-requires-clause-can g c =
    can_send g.L.Law.answers c.args.parts.now c.args.done.now c.requires.hall c.requires.out c.vertex-vertex.result c.time-time.result.now
    (c.vertex-vertex.ensures ∙ ap (λ task. task.vertex) c.task-task.ensures) (c.time-time.ensures ∙ ap (λ task. task.time) c.task-task.ensures)
    c.known.ensures.reached_in_order.numbers c.known.ensures.sends_of_plan c.known.ensures.turns_of_plan

pub come_out-requires-clause-plain : goal.come_out-requires-clause-plain
come_out-requires-clause-plain g c =
    one_time g.L.Law.answers c.args.parts.now c.args.done.now c.requires.hall c.requires.out c.vertex-vertex.result c.time-time.result.now
    (c.vertex-vertex.ensures ∙ ap (λ task. task.vertex) c.task-task.ensures) (c.time-time.ensures ∙ ap (λ task. task.time) c.task-task.ensures)
    c.known.ensures.reached_in_order.tasks Output (sym (ap (λ task. task.kind) c.task-task.ensures) ∙ (sym c.kind.ensures ∙ c.in-Output.is)) (λ bound. refl)

pub send-requires-in-Enter : goal.send-requires-in-Enter
send-requires-in-Enter g c =
    can_send g.L.Law.answers c.args.parts.now c.args.done.now c.requires.hall c.requires.out c.vertex-vertex.result c.time-time.result.now
    (c.vertex-vertex.ensures ∙ ap (λ task. task.vertex) c.task-task.ensures) (c.time-time.ensures ∙ ap (λ task. task.time) c.task-task.ensures)
    c.known.ensures.reached_in_order.numbers c.known.ensures.sends_of_plan c.known.ensures.turns_of_plan

pub keep-requires-clause-there : goal.keep-requires-clause-there
keep-requires-clause-there g c =
    subst (λ n. n < length c.args.parts.now.shards.items) (sym (c.shard.ensures ∙ ap (λ task. task.shard) c.task-task.ensures))
    (shard_there g.L.Law.answers c.args.parts.now c.args.done.now c.args.port c.args.recs.now c.requires.hall c.requires.out c.requires.content c.known.ensures.reached_in_order.tasks
    c.known.ensures.reached_in_order.numbers)

pub keep-requires-clause-some : goal.keep-requires-clause-some
keep-requires-clause-some g c =
    some_records g.L.Law.answers c.args.parts.now c.args.done.now c.args.port c.args.recs.now c.requires.hall c.requires.out c.requires.content c.known.ensures.reached_in_order.tasks
    c.known.ensures.reached_in_order.numbers

pub keep-requires-clause-of_plan : goal.keep-requires-clause-of_plan
keep-requires-clause-of_plan g c =
    own_place g.L.Law.answers c.args.parts.now c.args.done.now c.requires.hall c.requires.out c.vertex-vertex.result c.time-time.result.now
    (c.vertex-vertex.ensures ∙ ap (λ task. task.vertex) c.task-task.ensures) (c.time-time.ensures ∙ ap (λ task. task.time) c.task-task.ensures) c.known.ensures.sends_of_plan

pub returns-in-Input-clause-ok : goal.returns-in-Input-clause-ok
returns-in-Input-clause-ok g c =
    let parts = c.args.parts.now in
    let task = c.args.done.now in
    sent_as g.L.Law.answers c.known.ensures.counted.append task c.args.port c.args.recs.now parts parts c.known.ensures.in_parts.stamps Input
    (sym (ap (λ task. task.kind) c.task-task.ensures) ∙ (sym c.kind.ensures ∙ c.in-Input.is)) refl [] parts.seen parts.outputs (nothing_sent parts task.vertex task.time) refl refl refl

pub returns-in-Map-clause-ok : goal.returns-in-Map-clause-ok
returns-in-Map-clause-ok g c =
    let parts = c.args.parts.now in
    let task = c.args.done.now in
    let port = c.args.port in
    let recs = c.args.recs.now in
    let sent = c.sent.result.now in
    let kind : task.kind ≡ Map c.in-Map.field-0 = sym (ap (λ task. task.kind) c.task-task.ensures) ∙ (sym c.kind.ensures ∙ c.in-Map.is) in
    let of_vertex : c.vertex-vertex.result ≡ task.vertex = c.vertex-vertex.ensures ∙ ap (λ task. task.vertex) c.task-task.ensures in
    let of_time : c.time-time.result.now ≡ task.time = c.time-time.ensures ∙ ap (λ task. task.time) c.task-task.ensures in
    on_ok_weaker c.send.result
    (λ is.
    sent_as g.L.Law.answers c.known.ensures.counted.append task port recs parts c.send.new.parts c.known.ensures.in_parts.stamps (Map c.in-Map.field-0) kind refl sent parts.seen parts.outputs
    (subst (λ (p : ℕ × Timestamp). IsSent p.0 p.1 sent parts.seen parts.outputs parts c.send.new.parts) (λ i. (of_vertex i, of_time i)) is)
    (sym (c.sent.ensures ∙ (c.known.ensures.a_map_sends task c.in-Map.field-0 port recs nothing_kept kind c.requires.content
    ∙ ap (λ k. flat_map (λ r. (on_arrival g.L.Law.answers k nothing_kept (arrival_of port r)).sent) recs) kind))) refl refl)
    c.send.ensures.ok

pub returns-in-Distinct-clause-ok : goal.returns-in-Distinct-clause-ok
returns-in-Distinct-clause-ok g c =
    let parts = c.args.parts.now in
    let task = c.args.done.now in
    let recs = c.args.recs.now in
    let of_vertex : c.vertex-vertex.result ≡ task.vertex = c.vertex-vertex.ensures ∙ ap (λ task. task.vertex) c.task-task.ensures in
    let of_time : c.time-time.result.now ≡ task.time = c.time-time.ensures ∙ ap (λ task. task.time) c.task-task.ensures in
    on_ok_weaker c.send_new.result
    (λ is.
    sent_as g.L.Law.answers c.known.ensures.counted.append task c.args.port recs parts c.send_new.new.parts c.known.ensures.in_parts.stamps Distinct
    (sym (ap (λ task. task.kind) c.task-task.ensures) ∙ (sym c.kind.ensures ∙ c.in-Distinct.is)) refl (fresh parts.seen task.vertex task.time recs)
    (join stamped_cmp (stamped task.vertex task.time (fresh parts.seen task.vertex task.time recs)) parts.seen) parts.outputs
    (subst (λ (p : ℕ × Timestamp). IsSent p.0 p.1 (fresh parts.seen p.0 p.1 recs) (join stamped_cmp (stamped p.0 p.1 (fresh parts.seen p.0 p.1 recs)) parts.seen) parts.outputs parts c.send_new.new.parts)
    (λ i. (of_vertex i, of_time i)) is) refl refl refl)
    c.send_new.ensures.ok

pub returns-in-Group-clause-ok : goal.returns-in-Group-clause-ok
returns-in-Group-clause-ok g c =
    let parts = c.args.parts.now in
    let task = c.args.done.now in
    let recs = c.args.recs.now in
    let same : task.kind ≡ c.kind.result = sym (ap (λ task. task.kind) c.task-task.ensures) ∙ sym c.kind.ensures in
    let of_shard : c.shard.result ≡ task.shard = c.shard.ensures ∙ ap (λ task. task.shard) c.task-task.ensures in
    let of_vertex : c.vertex-vertex.result ≡ task.vertex = c.vertex-vertex.ensures ∙ ap (λ task. task.vertex) c.task-task.ensures in
    let of_time : c.time-time.result.now ≡ task.time = c.time-time.ensures ∙ ap (λ task. task.time) c.task-task.ensures in
    on_ok_weaker c.keep.result
    (λ is.
    kept_as g.L.Law.answers c.known.ensures.counted.append task c.args.port recs parts c.keep.new.parts c.known.ensures.bags_of_states.notifications
    (subst (λ k. ((code : ℕ) × (k ≡ Group code)) ⊎ ((code : ℕ) × (k ≡ Fold code))) (sym same) c.in-Group.is)
    (shard_there g.L.Law.answers parts task c.args.port recs c.requires.hall c.requires.out c.requires.content c.known.ensures.reached_in_order.tasks c.known.ensures.reached_in_order.numbers)
    (subst (λ (p : ℕ × ℕ × Timestamp). IsNoted p.0 p.1 p.2 (map (arrival_of c.args.port) recs) parts c.keep.new.parts) (λ i. (of_shard i, of_vertex i, of_time i)) is))
    c.keep.ensures.ok

pub returns-in-Enter-clause-ok : goal.returns-in-Enter-clause-ok
returns-in-Enter-clause-ok g c =
    let parts = c.args.parts.now in
    let task = c.args.done.now in
    let same : task.kind ≡ c.kind.result = sym (ap (λ task. task.kind) c.task-task.ensures) ∙ sym c.kind.ensures in
    let of_vertex : c.vertex-vertex.result ≡ task.vertex = c.vertex-vertex.ensures ∙ ap (λ task. task.vertex) c.task-task.ensures in
    let of_time : c.time-time.result.now ≡ task.time = c.time-time.ensures ∙ ap (λ task. task.time) c.task-task.ensures in
    on_ok_weaker c.send-in-Enter.result
    (λ is.
    passed_on g.L.Law.answers c.known.ensures.counted.append task c.args.port c.args.recs.now parts c.send-in-Enter.new.parts c.known.ensures.in_parts.stamps
    (subst (λ k. (k ≡ Enter) ⊎ (k ≡ Feedback) ⊎ (k ≡ Leave)) (sym same) c.in-Enter.is)
    (subst (λ (p : ℕ × Timestamp). IsSent p.0 p.1 c.args.recs.now parts.seen parts.outputs parts c.send-in-Enter.new.parts) (λ i. (of_vertex i, of_time i)) is))
    c.send-in-Enter.ensures.ok

pub returns-in-Output-clause-ok : goal.returns-in-Output-clause-ok
returns-in-Output-clause-ok g c =
    let parts = c.args.parts.now in
    let task = c.args.done.now in
    let recs = c.args.recs.now in
    let of_vertex : c.vertex-vertex.result ≡ task.vertex = c.vertex-vertex.ensures ∙ ap (λ task. task.vertex) c.task-task.ensures in
    let of_time : c.time-time.result.now ≡ task.time = c.time-time.ensures ∙ ap (λ task. task.time) c.task-task.ensures in
    on_ok_weaker c.come_out.result
    (λ is.
    sent_as g.L.Law.answers c.known.ensures.counted.append task c.args.port recs parts c.come_out.new.parts c.known.ensures.in_parts.stamps Output
    (sym (ap (λ task. task.kind) c.task-task.ensures) ∙ (sym c.kind.ensures ∙ c.in-Output.is)) refl recs parts.seen
    (join output_at_cmp (map (output_at task.time.epoch task.vertex) recs) parts.outputs)
    (subst (λ (p : ℕ × Timestamp). IsSent p.0 p.1 recs parts.seen (join output_at_cmp (map (output_at p.1.epoch p.0) recs) parts.outputs) parts c.come_out.new.parts)
    (λ i. (of_vertex i, of_time i)) is) refl refl refl)
    c.come_out.ensures.ok
