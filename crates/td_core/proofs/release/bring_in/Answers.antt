use Rattle.std.proofs.Common.{◌≡◌, ℕ, ◌≤◌, ◌++◌, map, flat_map, refl, ap, sym, ◌∙◌, subst, arith}
use Rattle.std.specs.Prelude.{Some}
use Rattle.std.specs.List.{AllByRecursion, slice_get}
use Rattle.td_stamp.specs.Orders.{entry_cmp}
use Rattle.td_stamp.specs.ProvedOrders.{entry_total, entry_apart}
use Rattle.td_plan.specs.Blocks.{PlacedVertex, vertices}
use Rattle.td_reach.specs.Paths.{IsOf}
use Rattle.td_progress.specs.Bag.{occurrences, IsSameBag, input_stamp}
use Rattle.td_machine.specs.Active.{inputs_of}
use Rattle.td_core.specs.Parts.{state_of}
use Rattle.td_core.specs.Posted.{IsPosted, occurring}
use Rattle.td_core.specs.Released.{HaveRoomForLoads, load_of, loads_in, messages_of, changes_of}
use Rattle.td_core.proofs.PostSteps.{as_many_waits, roomier_then_posted}
use Rattle.td_core.proofs.ReleaseSteps.{untouched, on_err, changes_are_of_plan, still_enough, stamps_then, posts_then}
use Rattle.td_core.proofs.release.bring_in.Goals as goal

pub returns-in_err-loads-clause-err : goal.returns-in_err-loads-clause-err
returns-in_err-loads-clause-err g c = on_err c.from_residual.result (untouched c.args.parts.now)

pub returns-in_err-changes-clause-err : goal.returns-in_err-changes-clause-err
returns-in_err-changes-clause-err g c = on_err c.from_residual-in_err-changes.result (untouched c.args.parts.now)

pub make_room_for_loads-requires-clause-some : goal.make_room_for_loads-requires-clause-some
make_room_for_loads-requires-clause-some g c = (c.known.ensures.reached_in_order.numbers (state_of c.args.parts.now) c.requires.hall.reached).workers

pub add_all-requires : goal.add_all-requires
add_all-requires g c =
    let parts = c.args.parts.now in
    let batch = c.args.batch.now in
    let inv = c.requires.hall in
    let lawful = (c.known.ensures.reached_in_order.numbers (state_of parts) inv.reached).plan in
    let loads : map load_of c.as_slice-2.result.now ≡ loads_in (inputs_of parts.table.plan) batch =
    ap (map load_of) c.as_slice-2.ensures.value ∙ (c.in_ok-loads.ensures ∙ ap (λ l. loads_in l batch) (c.as_slice.ensures.value ∙ inv.inputs)) in
    let changes = c.as_slice-4.ensures.value ∙ (c.in_ok-changes.ensures.changes ∙ ap (flat_map (changes_of parts.routes parts.next)) loads) in
    subst (AllByRecursion (λ r. IsOf parts.table.plan r.stamp)) (sym changes)
    (changes_are_of_plan g.L.Law.answers parts batch inv c.requires.accepted c.requires.open c.requires.below (λ v p at. (c.known.ensures.look_ups.vertices parts.table.plan v p lawful at).number)
    c.known.ensures.sent_of_plan c.known.ensures.come_of_plan lawful)

pub post_loads-requires-clause-some : goal.post_loads-requires-clause-some
post_loads-requires-clause-some g c =
    let parts = c.args.parts.now in
    let some = (c.known.ensures.reached_in_order.numbers (state_of parts) c.requires.hall.reached).workers in
    let many = as_many_waits parts.shards.items c.make_room_for_loads.new.shards.items c.in_ok-make_room_for_loads.ensures.same.waiting in
    omega (arith, some, many)

pub post_loads-requires-clause-apart : goal.post_loads-requires-clause-apart
post_loads-requires-clause-apart g c = c.requires.hall.routes.apart

pub post_loads-requires-clause-room : goal.post_loads-requires-clause-room
post_loads-requires-clause-room g c =
    let parts = c.args.parts.now in
    subst (λ l. HaveRoomForLoads parts.routes (map load_of l) c.make_room_for_loads.new.shards.items) (c.as_slice-3.ensures.value ∙ sym c.as_slice-5.ensures.value) c.in_ok-make_room_for_loads.ensures.room

pub take_off_inputs-requires : goal.take_off_inputs-requires
take_off_inputs-requires g c p =
    let parts = c.args.parts.now in
    let inv = c.requires.hall in
    let lawful = (c.known.ensures.reached_in_order.numbers (state_of parts) inv.reached).plan in
    subst (λ l. occurrences p (map (input_stamp parts.next) l) ≤ occurrences p c.add_all.new.table.stamps) (sym c.as_slice-6.ensures.value)
    (still_enough g.L.Law.answers parts c.args.batch.now inv c.requires.accepted c.requires.open c.requires.below (λ v q at. (c.known.ensures.look_ups.vertices parts.table.plan v q lawful at).number) c.known.ensures.counted.append
    (occurring c.as_slice-4.result.now) c.add_all.new.table.stamps c.in_ok-add_all.ensures.ok p)

pub returns-clause-ok : goal.returns-clause-ok
returns-clause-ok g c =
    let parts = c.args.parts.now in
    let batch = c.args.batch.now in
    let inv = c.requires.hall in
    let lawful = (c.known.ensures.reached_in_order.numbers (state_of parts) inv.reached).plan in
    let numbered : (v : ℕ) (p : PlacedVertex) → slice_get (vertices parts.table.plan) v ≡ Some p → p.vertex.number ≡ v = λ v p at. (c.known.ensures.look_ups.vertices parts.table.plan v p lawful at).number in
    let up = ((c.bags_by_any_order.ensures entry_cmp entry_total entry_apart).rises batch).0 c.list.ensures.sorted in
    let inputs = c.as_slice.ensures.value ∙ inv.inputs in
    let loads : map load_of c.as_slice-2.result.now ≡ loads_in (inputs_of parts.table.plan) batch =
    ap (map load_of) c.as_slice-2.ensures.value ∙ (c.in_ok-loads.ensures ∙ ap (λ l. loads_in l batch) inputs) in
    let posted_loads : map load_of c.as_slice-5.result.now ≡ loads_in (inputs_of parts.table.plan) batch =
    ap (map load_of) c.as_slice-5.ensures.value ∙ (c.in_ok-loads.ensures ∙ ap (λ l. loads_in l batch) inputs) in
    let changes = c.as_slice-4.ensures.value ∙ (c.in_ok-changes.ensures.changes ∙ ap (flat_map (changes_of parts.routes parts.next)) loads) in
    let messages = ap (flat_map (messages_of parts.routes parts.next)) posted_loads
    ∙ posts_then g.L.Law.answers parts batch inv c.requires.accepted c.requires.open c.requires.below numbered c.known.ensures.counted.append up in
    record {
      fields = refl;
      posted = subst (λ cs. IsPosted cs parts.shards.items c.post_loads.new.shards.items) messages
          (roomier_then_posted (flat_map (messages_of parts.routes parts.next) (map load_of c.as_slice-5.result.now)) parts.shards.items c.make_room_for_loads.new.shards.items c.post_loads.new.shards.items
          c.in_ok-make_room_for_loads.ensures.same c.post_loads.ensures);
      plan = c.take_off_inputs.ensures.plan ∙ c.in_ok-add_all.ensures.plan;
      stamps = stamps_then g.L.Law.answers parts batch inv c.requires.accepted c.requires.open c.requires.below numbered c.known.ensures.counted.append up c.known.ensures.in_parts.stamps
          c.add_all.new.table.stamps c.take_off_inputs.new.table.stamps
          (subst (λ l. IsSameBag c.add_all.new.table.stamps (occurring l ++ parts.table.stamps)) changes c.in_ok-add_all.ensures.ok)
          (subst (λ l. IsSameBag c.add_all.new.table.stamps (map (input_stamp parts.next) l ++ c.take_off_inputs.new.table.stamps)) c.as_slice-6.ensures.value c.take_off_inputs.ensures.stamps);
      batches = c.reserve.ensures.items;
      room = let room = c.in_ok-reserve.ensures.ok in omega (arith, room);
    }
