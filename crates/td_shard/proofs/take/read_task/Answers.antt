use Rattle.std.proofs.Common.{arith, ◌≡◌, ◌-◌, ◌<◌, ◌++◌, ◌∷◌, [], map, length, get_or, take, vec_len, List, refl, sym, ap, ◌∙◌}
use Rattle.td_stamp.specs.declared.values.Rec.{Rec}
use Rattle.td_machine.specs.Steps.{coming}
use Rattle.td_shard.specs.declared.runs.Lane.{Lane}
use Rattle.td_shard.specs.declared.runs.Numbered.{Numbered}
use Rattle.td_shard.specs.Runs.{rec_of, rank, lane_eq, changed_at, without_at, lane_recs}
use Rattle.td_shard.proofs.Lanes.{lane_equiv}
use Rattle.td_shard.proofs.OneRun.{one_read}
use Rattle.td_shard.proofs.Tasks.{one, task_of, has_first}
use Rattle.td_shard.proofs.TakenUp.{nothing}
use Rattle.td_shard.proofs.take.read_task.Goals as goal

pub overflow_add-offset : goal.overflow_add-offset
overflow_add-offset c = omega (arith, c.place_of-picked.ensures.fits)

pub first_place-first-requires : goal.first_place-first-requires
first_place-first-requires c =
    let k = c.lane-lane.result.now in
    has_first lane_eq k c.args.runs.now.parts c.place_of-picked.result.0 nothing c.place_of-picked.ensures.within (ap (lane_eq k) (sym (c.lane-lane.ensures.lane nothing)) ∙ lane_equiv.refl k)

pub read_lane-requires-clause-some : goal.read_lane-requires-clause-some
read_lane-requires-clause-some c =
    let s = get_or c.args.runs.now.parts c.place_of-picked.result.0 nothing in
    let o = c.place_of-picked.result.1 in
    let old = c.args.recs.now in
    let now = c.read.new.recs in
    let its = one s.recs o (c.place_of-picked.ensures.waits nothing) in
    let single = one_read old.items now.items s.recs o (vec_len old) its.0 c.requires.none old.ok.0 its.1 (c.read.ensures.recs nothing) in
    omega (arith, ap length single, now.ok.0)

pub returns : goal.returns
returns c =
    let ps = c.args.runs.now.parts in
    let p = c.place_of-picked.result.0 in
    let o = c.place_of-picked.result.1 in
    let s = get_or ps p nothing in
    let qs = changed_at (without_at o) p ps in
    let old = c.args.recs.now in
    let now = c.read.new.recs in
    let within : o < length s.recs = c.place_of-picked.ensures.waits nothing in
    let its = one s.recs o within in
    let single : now.items ≡ its.0.rec ∷ [] = one_read old.items now.items s.recs o (vec_len old) its.0 c.requires.none old.ok.0 its.1 (c.read.ensures.recs nothing) in
    let many : vec_len now ≡ 1 = now.ok.0 ∙ ap length single in
    let recs : c.read_lane.new.recs.items ≡ its.0.rec ∷ map rec_of (take 63 (lane_recs lane_eq s.lane qs)) =
    c.read_lane.ensures.recs ∙ (ap (λ (l : List Rec). l ++ map rec_of (take (64 - vec_len now) (lane_recs lane_eq c.lane-lane.result.now qs))) single
    ∙ (ap (λ n. its.0.rec ∷ map rec_of (take (64 - n) (lane_recs lane_eq c.lane-lane.result.now qs))) many ∙ ap (λ (k : Lane). its.0.rec ∷ map rec_of (take 63 (lane_recs lane_eq k qs))) (c.lane-lane.ensures.lane nothing))) in
    let ranked : rank ps p its.0.number ≡ c.args.pick = ap (λ (r : Numbered). rank ps p r.number) (sym (its.1.is its.0)) ∙ c.place_of-picked.ensures.before nothing its.0 in
    let lane : c.copy.result ≡ s.lane = c.copy.ensures ∙ c.lane-lane.ensures.lane nothing in
    record {
      task = ap (λ (k : Lane). coming k.vertex k.port k.time c.read_lane.new.recs.items) lane
          ∙ (ap (coming s.lane.vertex s.lane.port s.lane.time) recs
          ∙ (task_of c.args.next ps p o c.args.pick s nothing its.0 c.requires.numbered c.place_of-picked.ensures.within refl its.1 ranked c.requires.linked).task);
    }
