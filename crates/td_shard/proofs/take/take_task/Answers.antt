use Rattle.std.proofs.Common.{arith, ◌≡◌, ◌<◌, ◌∷◌, map, length, get_or, take, refl, sym, ap, ◌∙◌, subst, length-append}
use Rattle.td_shard.specs.declared.runs.Numbered.{Numbered}
use Rattle.td_shard.specs.declared.runs.Lane.{Lane}
use Rattle.td_shard.specs.Runs.{Parts, rec_of, rank, on_lane, all_of, lane_eq, AreLinked, changed_at, without_at, taken_on, lane_recs}
use Rattle.td_shard.proofs.Lanes.{lane_equiv}
use Rattle.td_shard.proofs.TakenUp.{nothing, linked-changed_at, length-changed_at, changed_at-lane}
use Rattle.td_shard.proofs.Tasks.{IsTask, one, task_of, picked, has_first}
use Rattle.td_shard.proofs.Numbers.{length-in_order}
use Rattle.td_shard.proofs.take.take_task.Goals as goal

pub first_place-first-requires : goal.first_place-first-requires
first_place-first-requires c =
    let ps = c.args.runs.now.parts in
    let p = c.place_of-place.result.0 in
    let f = without_at c.place_of-place.result.1 in
    let k = c.copy-lane.result in
    let is = ap (λ (v : Parts). v.parts) c.take_one.ensures in
    let its : (get_or c.take_one.new.runs.parts p nothing).lane ≡ k =
    ap (λ l. (get_or l p nothing).lane) is ∙ (changed_at-lane f (λ x. refl) p p ps nothing ∙ (sym (c.lane.ensures.lane nothing) ∙ sym c.copy-lane.ensures)) in
    has_first lane_eq k c.take_one.new.runs.parts p nothing (omega (arith, c.place_of-place.ensures.within, ap length is, length-changed_at f p ps)) (ap (lane_eq k) its ∙ lane_equiv.refl k)

pub take_lane-requires-clause-linked : goal.take_lane-requires-clause-linked
take_lane-requires-clause-linked c =
    subst (AreLinked lane_eq) (sym (ap (λ (v : Parts). v.parts) c.take_one.ensures)) (linked-changed_at (without_at c.place_of-place.result.1) (λ x. refl) lane_eq (λ x. refl) c.place_of-place.result.0 c.args.runs.now.parts c.requires.linked)

taken_task : (c : goal.After-take_lane) → let s = get_or c.args.runs.now.parts c.place_of-place.result.0 nothing in
    IsTask c.args.next c.args.runs.now.parts c.args.pick s.lane ((one s.recs c.place_of-place.result.1 (c.place_of-place.ensures.waits nothing)).0.rec ∷ map rec_of (take 63 (lane_recs lane_eq s.lane (changed_at (without_at c.place_of-place.result.1) c.place_of-place.result.0 c.args.runs.now.parts)))) c.take_lane.new.runs.parts
taken_task c =
    let ps = c.args.runs.now.parts in
    let p = c.place_of-place.result.0 in
    let o = c.place_of-place.result.1 in
    let s = get_or ps p nothing in
    let qs = changed_at (without_at o) p ps in
    let within : o < length s.recs = c.place_of-place.ensures.waits nothing in
    let its = one s.recs o within in
    let lane : c.copy-lane.result ≡ s.lane = c.copy-lane.ensures ∙ c.lane.ensures.lane nothing in
    let parts : c.take_lane.new.runs.parts ≡ taken_on lane_eq s.lane 63 qs =
    ap (λ (v : Parts). v.parts) c.take_lane.ensures.parts ∙ (ap (λ (k : Lane). taken_on lane_eq k 63 c.take_one.new.runs.parts) lane ∙ ap (λ (v : Parts). taken_on lane_eq s.lane 63 v.parts) c.take_one.ensures) in
    let ranked : rank ps p its.0.number ≡ c.args.pick = ap (λ (r : Numbered). rank ps p r.number) (sym (its.1.is its.0)) ∙ c.place_of-place.ensures.before nothing its.0 in
    subst (IsTask c.args.next ps c.args.pick s.lane (its.0.rec ∷ map rec_of (take 63 (lane_recs lane_eq s.lane qs)))) (sym parts)
    (task_of c.args.next ps p o c.args.pick s nothing its.0 c.requires.numbered c.place_of-place.ensures.within refl its.1 ranked c.requires.linked)

pub returns-clause-linked : goal.returns-clause-linked
returns-clause-linked c = (taken_task c).linked

pub returns-clause-lasts : goal.returns-clause-lasts
returns-clause-lasts c = (taken_task c).lasts

pub returns-clause-left : goal.returns-clause-left
returns-clause-left c = (taken_task c).left

pub returns-clause-numbered : goal.returns-clause-numbered
returns-clause-numbered c = (taken_task c).numbers

pub returns-clause-count : goal.returns-clause-count
returns-clause-count c =
    let ps = c.args.runs.now.parts in
    let p = c.place_of-place.result.0 in
    let o = c.place_of-place.result.1 in
    let s = get_or ps p nothing in
    let its = one s.recs o (c.place_of-place.ensures.waits nothing) in
    let it = picked ps p o s its.0 nothing c.place_of-place.ensures.within refl its.1.found in
    let same = ap (λ (v : Parts). length (all_of v.parts)) c.take_one.ensures in
    omega (arith, c.take_lane.ensures.count, same, ap length it.all, ap length it.others, length-append it.front (on_lane s.lane its.0 ∷ it.back), length-append it.front it.back, length-in_order (all_of ps), length-in_order (all_of c.take_lane.new.runs.parts))
