use Rattle.std.proofs.Common.{arith, ◌≡◌, ◌+◌, ◌-◌, ◌<◌, ◌≤◌, ◌++◌, ◌⊎◌, inl, inr, ℕ, suc, true, length, take, drop, get_or, List, refl, sym, ap, ◌∙◌, subst}
use Rattle.td_shard.specs.declared.runs.Lane.{Lane}
use Rattle.td_shard.specs.Runs.{Part, Parts, lane_eq, first_on, ahead_of, AreLinked, all_of, changed_at, without_front, taken_on}
use Rattle.td_shard.proofs.Lanes.{lane_equiv}
use Rattle.td_shard.proofs.TakenUp.{nothing, length-changed_at, linked-changed_at, still, full, skip, first-below, first-same, visit, next_ahead, moved, ended, less}
use Rattle.td_shard.proofs.take.take_lane.Goals as goal

-- the runs, and how many are counted, after a run of the lane was visited
record Visited (k : Lane) (ps : List Part) (m at : ℕ) (ps2 : List Part) (m2 a : ℕ) : Type 0 where
  parts : take at ps ++ taken_on lane_eq k (64 - m) (drop at ps) ≡ take (suc at) ps2 ++ taken_on lane_eq k (64 - m2) (drop (suc at) ps2)
  count : length (all_of ps2) + m2 ≡ length (all_of ps) + m
  ahead : a ≡ ahead_of (first_on lane_eq k (drop (suc at) ps2))
  linked : AreLinked lane_eq ps2
  long : length ps2 ≡ length ps
  few : m2 ≤ 64

visited : (k : Lane) (ps : List Part) (m at : ℕ) (ps2 : List Part) (m2 a : ℕ) (d : Part) → at < length ps → lane_eq k (get_or ps at d).lane ≡ true → m ≤ 64 → AreLinked lane_eq ps
    → ps2 ≡ changed_at (without_front (64 - m)) at ps → m2 ≡ m + length (take (64 - m) (get_or ps at d).recs) → a ≡ (get_or ps at d).ahead → Visited k ps m at ps2 m2 a
visited k ps m at ps2 m2 a d h on low l is counted ahead =
    let s = get_or ps at d in
    let f = without_front (64 - m) in
    let qs = changed_at f at ps in
    let left : 64 - m2 ≡ 64 - m - length s.recs = ap (λ i. 64 - i) counted ∙ still m s.recs low in
    record {
      parts = visit lane_eq k (64 - m) at ps s d h refl on
          ∙ (ap (λ i. take (suc at) qs ++ taken_on lane_eq k i (drop (suc at) qs)) (sym left)
          ∙ ap (λ t. take (suc at) t ++ taken_on lane_eq k (64 - m2) (drop (suc at) t)) (sym is));
      count = let fewer = less (64 - m) at ps d h in let same = ap (λ t. length (all_of t)) is in omega (arith, fewer, same, counted);
      ahead = ahead ∙ (next_ahead lane_eq lane_equiv f k ps at s d h refl on l ∙ ap (λ t. ahead_of (first_on lane_eq k (drop (suc at) t))) (sym is));
      linked = subst (AreLinked lane_eq) (sym is) (linked-changed_at f (λ p. refl) lane_eq (λ p. refl) at ps l);
      long = ap length is ∙ length-changed_at f at ps;
      few = subst (λ i. i ≤ 64) (sym counted) (full m s.recs low);
    }

pub take_run-ahead-requires-clause-within : goal.take_run-ahead-requires-clause-within
take_run-ahead-requires-clause-within c = first-below lane_eq c.args.lane.now c.args.runs.now.parts c.args.first c.requires.first

pub loop-ahead-init : goal.loop-ahead-init
loop-ahead-init c =
    let ps = c.args.runs.now.parts in
    let k = c.args.lane.now in
    let m = c.args.count.now in
    let call = c.take_run-ahead in
    let now = call.new.runs in
    let below = first-below lane_eq k ps c.args.first c.requires.first in
    let v = visited k ps m c.args.first now.parts call.new.count call.result nothing below (first-same lane_eq k ps c.args.first nothing c.requires.first) (omega (arith, c.requires.some)) c.requires.linked
    (ap (λ (w : Parts). w.parts) call.ensures.parts) (call.ensures.count nothing) (call.ensures.ahead nothing) in
    record {
      parts = sym v.parts ∙ sym (skip lane_eq k (64 - m) ps c.args.first c.requires.first);
      others = call.ensures.parts ∙ ap (λ (l : List Part). record c.args.runs.now { parts = l }) (ap (λ (w : Parts). w.parts) (sym call.ensures.parts));
      count = v.count;
      ahead = v.ahead;
      linked = v.linked;
      within = below;
      long = v.long;
      fits = call.ensures.fits;
      full = v.few;
    }

pub overflow_add-place : goal.overflow_add-place
overflow_add-place c =
    let m = moved lane_eq lane_equiv c.args.lane.now c.loop-ahead.runs.parts c.loop-ahead.place c.loop-ahead.ahead c.loop-ahead.invariant.ahead c.loop-ahead-test.true in
    omega (arith, m.within, c.loop-ahead.invariant.long, c.loop-ahead.invariant.fits)

pub take_run-ahead-requires-in-loop-ahead-clause-within : goal.take_run-ahead-requires-in-loop-ahead-clause-within
take_run-ahead-requires-in-loop-ahead-clause-within c =
    (moved lane_eq lane_equiv c.args.lane.now c.loop-ahead.runs.parts c.loop-ahead.place c.loop-ahead.ahead c.loop-ahead.invariant.ahead c.loop-ahead-test.true).within

pub loop-ahead-preserved : goal.loop-ahead-preserved
loop-ahead-preserved c =
    let was = c.loop-ahead.invariant in
    let ps = c.loop-ahead.runs.parts in
    let k = c.args.lane.now in
    let at = c.loop-ahead.place + c.loop-ahead.ahead in
    let next = moved lane_eq lane_equiv k ps c.loop-ahead.place c.loop-ahead.ahead was.ahead c.loop-ahead-test.true in
    let call = c.take_run-ahead-in-loop-ahead in
    let m = c.loop-ahead.count in
    let now = call.new.runs in
    let v = visited k ps m at now.parts call.new.count call.result nothing next.within (next.on nothing) was.full was.linked
    (ap (λ (w : Parts). w.parts) call.ensures.parts) (call.ensures.count nothing) (call.ensures.ahead nothing) in
    record {
      parts = sym v.parts ∙ (sym (next.parts (64 - m)) ∙ was.parts);
      others = call.ensures.parts ∙ (ap (λ (w : Parts). record w { parts = changed_at (without_front (64 - m)) at ps }) was.others
          ∙ ap (λ (l : List Part). record c.args.runs.now { parts = l }) (ap (λ (w : Parts). w.parts) (sym call.ensures.parts)));
      count = v.count ∙ was.count;
      ahead = v.ahead;
      linked = v.linked;
      within = omega (arith, next.within, was.long);
      long = v.long ∙ was.long;
      fits = was.fits;
      full = v.few;
    }

-- once the lane has no more runs, or the task is full
whole : (old now : Parts) (k : Lane) (m m0 place ahead : ℕ) → take (suc place) now.parts ++ taken_on lane_eq k (64 - m) (drop (suc place) now.parts) ≡ taken_on lane_eq k (64 - m0) old.parts → now ≡ record old { parts = now.parts }
    → ahead ≡ ahead_of (first_on lane_eq k (drop (suc place) now.parts)) → (ahead ≡ 0) ⊎ (64 - m ≡ 0) → now ≡ record old { parts = taken_on lane_eq k (64 - m0) old.parts }
whole old now k m m0 place ahead parts others next end =
    others ∙ ap (λ (l : List Part). record old { parts = l }) (sym (ended lane_eq lane_equiv k now.parts place ahead (64 - m) next end).0 ∙ parts)

pub returns-after-loop-ahead-clause-parts : goal.returns-after-loop-ahead-clause-parts
returns-after-loop-ahead-clause-parts c =
    let was = c.loop-ahead.invariant in
    whole c.args.runs.now c.loop-ahead.runs c.args.lane.now c.loop-ahead.count c.args.count.now c.loop-ahead.place c.loop-ahead.ahead was.parts was.others was.ahead (inl (omega (arith, c.loop-ahead-test.false)))

pub returns-else-count-lt-TASK_SIZE-clause-parts : goal.returns-else-count-lt-TASK_SIZE-clause-parts
returns-else-count-lt-TASK_SIZE-clause-parts c =
    let was = c.loop-ahead.invariant in
    whole c.args.runs.now c.loop-ahead.runs c.args.lane.now c.loop-ahead.count c.args.count.now c.loop-ahead.place c.loop-ahead.ahead was.parts was.others was.ahead (inr (omega (arith, c.if-count-lt-TASK_SIZE.false)))
