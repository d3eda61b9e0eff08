use Rattle.std.proofs.Common.{arith, ◌≡◌, ◌+◌, ◌-◌, ◌<◌, ◌≤◌, ◌++◌, inl, ℕ, suc, true, map, length, take, drop, get_or, vec_len, List, refl, sym, ap, ◌∙◌, append_assoc, length-append, append-nil}
use Rattle.std.proofs.lemmas.List.{map-append, length-map}
use Rattle.td_stamp.specs.declared.values.Rec.{Rec}
use Rattle.td_shard.specs.declared.runs.Lane.{Lane}
use Rattle.td_shard.specs.Runs.{Part, rec_of, lane_eq, first_on, ahead_of, AreLinked, changed_at, without_at, lane_recs}
use Rattle.td_shard.proofs.Lanes.{lane_equiv}
use Rattle.td_shard.proofs.TakenUp.{nothing, length-changed_at, first-changed_at, linked-changed_at, changed_at-ahead, drop-changed_at, take-append, still, full, skip-recs, first-below, first-same, visit-recs, next_ahead, moved, ended}
use Rattle.td_shard.proofs.take.read_lane.Goals as goal

-- the records after a run of the lane was visited
record Visited (k : Lane) (qs : List Part) (rs : List Rec) (at : ℕ) (rs2 : List Rec) (a : ℕ) : Type 0 where
  recs : rs ++ map rec_of (take (64 - length rs) (lane_recs lane_eq k (drop at qs))) ≡ rs2 ++ map rec_of (take (64 - length rs2) (lane_recs lane_eq k (drop (suc at) qs)))
  ahead : a ≡ ahead_of (first_on lane_eq k (drop (suc at) qs))
  few : length rs2 ≤ 64

visited : (k : Lane) (qs : List Part) (rs : List Rec) (at : ℕ) (rs2 : List Rec) (a : ℕ) (d : Part) → at < length qs → lane_eq k (get_or qs at d).lane ≡ true → length rs ≤ 64 → AreLinked lane_eq qs
    → rs2 ≡ rs ++ map rec_of (take (64 - length rs) (get_or qs at d).recs) → a ≡ (get_or qs at d).ahead → Visited k qs rs at rs2 a
visited k qs rs at rs2 a d h on low l is ahead =
    let s = get_or qs at d in
    let n = 64 - length rs in
    let rest = lane_recs lane_eq k (drop (suc at) qs) in
    let long : length rs2 ≡ length rs + length (take n s.recs) = omega (arith, ap length is, length-append rs (map rec_of (take n s.recs)), length-map (take n s.recs) rec_of) in
    let left : 64 - length rs2 ≡ n - length s.recs = ap (λ i. 64 - i) long ∙ still (length rs) s.recs low in
    record {
      recs = ap (λ t. rs ++ map rec_of (take n t)) (visit-recs lane_eq k at qs s d h refl on)
          ∙ (ap (λ t. rs ++ t) (ap (map rec_of) (take-append n s.recs rest) ∙ map-append rec_of (take n s.recs) (take (n - length s.recs) rest))
          ∙ (sym (append_assoc rs (map rec_of (take n s.recs)) (map rec_of (take (n - length s.recs) rest)))
          ∙ (ap (λ t. t ++ map rec_of (take (n - length s.recs) rest)) (sym is)
          ∙ ap (λ i. rs2 ++ map rec_of (take i rest)) (sym left))));
      ahead = ahead ∙ (next_ahead lane_eq lane_equiv (λ p. p) k qs at s d h refl on l ∙ ap (λ t. ahead_of (first_on lane_eq k t)) (drop-changed_at (λ p. p) at qs));
      few = omega (arith, long, full (length rs) s.recs low);
    }

pub read_run-ahead-requires-clause-within : goal.read_run-ahead-requires-clause-within
read_run-ahead-requires-clause-within c = first-below lane_eq c.args.lane.now c.args.runs.now.parts c.args.first c.requires.first

pub loop-ahead-init : goal.loop-ahead-init
loop-ahead-init c =
    let ps = c.args.runs.now.parts in
    let f = without_at c.args.offset in
    let qs = changed_at f c.args.picked ps in
    let k = c.args.lane.now in
    let old = c.args.recs.now in
    let call = c.read_run-ahead in
    let now = call.new.recs in
    let first : first_on lane_eq k qs ≡ _ = first-changed_at f (λ p. refl) lane_eq k c.args.picked ps ∙ c.requires.first in
    let below = first-below lane_eq k qs c.args.first first in
    let v = visited k qs old.items c.args.first now.items call.result nothing below (first-same lane_eq k qs c.args.first nothing first) (omega (arith, c.requires.some, old.ok)) (linked-changed_at f (λ p. refl) lane_eq (λ p. refl) c.args.picked ps c.requires.linked)
    (call.ensures.recs nothing ∙ ap (λ n. old.items ++ map rec_of (take (64 - n) (get_or qs c.args.first nothing).recs)) old.ok.0) (call.ensures.ahead nothing ∙ sym (changed_at-ahead f (λ p. refl) c.args.picked c.args.first ps nothing)) in
    record {
      recs = ap (λ n. now.items ++ map rec_of (take (64 - n) (lane_recs lane_eq k (drop (suc c.args.first) qs)))) now.ok.0
          ∙ (sym v.recs ∙ (ap (λ t. old.items ++ map rec_of (take (64 - length old.items) t)) (sym (skip-recs lane_eq k qs c.args.first first)) ∙ ap (λ n. old.items ++ map rec_of (take (64 - n) (lane_recs lane_eq k qs))) (sym old.ok.0)));
      ahead = v.ahead;
      within = first-below lane_eq k ps c.args.first c.requires.first;
      fits = call.ensures.fits;
      full = omega (arith, v.few, now.ok);
      room = call.ensures.capacity ∙ c.requires.room;
    }

pub overflow_add-place : goal.overflow_add-place
overflow_add-place c =
    let ps = c.args.runs.now.parts in
    let f = without_at c.args.offset in
    let m = moved lane_eq lane_equiv c.args.lane.now (changed_at f c.args.picked ps) c.loop-ahead.place c.loop-ahead.ahead c.loop-ahead.invariant.ahead c.loop-ahead-test.true in
    omega (arith, m.within, length-changed_at f c.args.picked ps, c.loop-ahead.invariant.fits)

pub read_run-ahead-requires-in-loop-ahead-clause-within : goal.read_run-ahead-requires-in-loop-ahead-clause-within
read_run-ahead-requires-in-loop-ahead-clause-within c =
    let ps = c.args.runs.now.parts in
    let f = without_at c.args.offset in
    let m = moved lane_eq lane_equiv c.args.lane.now (changed_at f c.args.picked ps) c.loop-ahead.place c.loop-ahead.ahead c.loop-ahead.invariant.ahead c.loop-ahead-test.true in
    omega (arith, m.within, length-changed_at f c.args.picked ps)

pub loop-ahead-preserved : goal.loop-ahead-preserved
loop-ahead-preserved c =
    let was = c.loop-ahead.invariant in
    let ps = c.args.runs.now.parts in
    let f = without_at c.args.offset in
    let qs = changed_at f c.args.picked ps in
    let k = c.args.lane.now in
    let at = c.loop-ahead.place + c.loop-ahead.ahead in
    let m = moved lane_eq lane_equiv k qs c.loop-ahead.place c.loop-ahead.ahead was.ahead c.loop-ahead-test.true in
    let call = c.read_run-ahead-in-loop-ahead in
    let now = call.new.recs in
    let old = c.loop-ahead.recs in
    let v = visited k qs old.items at now.items call.result nothing m.within (m.on nothing) (omega (arith, was.full, old.ok)) (linked-changed_at f (λ p. refl) lane_eq (λ p. refl) c.args.picked ps c.requires.linked)
    (call.ensures.recs nothing ∙ ap (λ n. old.items ++ map rec_of (take (64 - n) (get_or qs at nothing).recs)) old.ok.0) (call.ensures.ahead nothing ∙ sym (changed_at-ahead f (λ p. refl) c.args.picked at ps nothing)) in
    record {
      recs = ap (λ n. now.items ++ map rec_of (take (64 - n) (lane_recs lane_eq k (drop (suc at) qs)))) now.ok.0
          ∙ (sym v.recs ∙ (ap (λ t. old.items ++ map rec_of (take (64 - length old.items) t)) (sym m.recs) ∙ (ap (λ n. old.items ++ map rec_of (take (64 - n) (lane_recs lane_eq k (drop (suc c.loop-ahead.place) qs)))) (sym old.ok.0) ∙ was.recs)));
      ahead = v.ahead;
      within = omega (arith, m.within, length-changed_at f c.args.picked ps);
      fits = was.fits;
      full = omega (arith, v.few, now.ok);
      room = call.ensures.capacity ∙ was.room;
    }

pub returns-after-loop-ahead : goal.returns-after-loop-ahead
returns-after-loop-ahead c =
    let was = c.loop-ahead.invariant in
    let qs = changed_at (without_at c.args.offset) c.args.picked c.args.runs.now.parts in
    let now = c.loop-ahead.recs in
    record {
      recs = sym (append-nil now.items) ∙ (ap (λ l. now.items ++ map rec_of l) (sym (ended lane_eq lane_equiv c.args.lane.now qs c.loop-ahead.place c.loop-ahead.ahead (64 - vec_len now) was.ahead (inl (omega (arith, c.loop-ahead-test.false)))).1) ∙ was.recs);
    }
