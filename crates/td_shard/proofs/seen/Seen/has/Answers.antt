use Rattle.std.proofs.Common.{[], sym, ap, ◌∙◌}
use Rattle.td_stamp.specs.Orders.{rec_cmp}
use Rattle.td_stamp.specs.Bag.{has}
use Rattle.td_machine.specs.State.{stamped_cmp}
use Rattle.td_shard.specs.declared.place.Place.{Place}
use Rattle.td_machine.specs.AtOnce.{stamped_at as at}
use Rattle.td_shard.specs.Seen.{seen_of}
use Rattle.td_shard.proofs.Between.{key-is-has}
use Rattle.td_shard.proofs.Cut.{cut_some, cut_none, has_seen}
use Rattle.td_shard.proofs.seen.Seen.has.Goals as goal

pub returns-in-Some : goal.returns-in-Some
returns-in-Some c =
    let p : Place = record { vertex = c.args.vertex; time = c.copy-time.result } in
    let es = c.self.inside.sets.entries in
    let r = c.args.rec.now in
    let cut = cut_some p c.in-Some.set.now es c.self.invariant (sym c.in-Some.ensures.value) in
    c.contains.ensures ∙ (key-is-has rec_cmp r c.in-Some.set.now.keys ∙ (sym (has_seen p c.in-Some.set.now.keys es _ cut r)
    ∙ (ap (λ t. has stamped_cmp (at c.args.vertex t r) (seen_of es)) c.copy-time.ensures ∙ ap (has stamped_cmp (at c.args.vertex c.args.time.now r)) c.self.view_is)))

pub returns-in-None : goal.returns-in-None
returns-in-None c =
    let p : Place = record { vertex = c.args.vertex; time = c.copy-time.result } in
    let es = c.self.inside.sets.entries in
    let r = c.args.rec.now in
    let cut = cut_none p es c.self.invariant (sym c.in-None.ensures.value) in
    sym (has_seen p [] es _ cut r)
    ∙ (ap (λ t. has stamped_cmp (at c.args.vertex t r) (seen_of es)) c.copy-time.ensures ∙ ap (has stamped_cmp (at c.args.vertex c.args.time.now r)) c.self.view_is)
