use Rattle.std.proofs.Common.{arith, ◌≡◌, ◌-◌, ◌<◌, ◌++◌, map, length, get_or, take, vec_len, sym, ap, ◌∙◌}
use Rattle.td_shard.specs.Runs.{Part, rec_of, changed_at, without_at}
use Rattle.td_shard.proofs.OneRun.{two_reads, whole_read}
use Rattle.td_shard.proofs.TakenUp.{nothing, changed_at-here, changed_at-apart}
use Rattle.td_shard.proofs.take.read_run.Goals as goal
use Rattle.td_shard.proofs.take.read_run.Goals.{then-place-picked, else-place-picked}

pub overflow_add-offset : goal.overflow_add-offset
overflow_add-offset c =
    let d = nothing in
    let same = ap (λ i. length (get_or c.args.runs.now.parts i d).recs) c.if-place-picked.true in
    omega (arith, c.requires.waits d, c.waiting-waiting.ensures.count d, same)

pub read-requires-then-place-picked-clause-range : goal.read-requires-then-place-picked-clause-range
read-requires-then-place-picked-clause-range c =
    let d = nothing in
    let same = ap (λ i. length (get_or c.args.runs.now.parts i d).recs) c.if-place-picked.true in
    omega (arith, c.requires.waits d, c.waiting-waiting.ensures.count d, same)

pub returns-clause-recs : goal.returns-clause-recs
returns-clause-recs c d =
    let ps = c.args.runs.now.parts in
    let place = c.args.place in
    let picked = c.args.picked in
    let o = c.args.offset in
    let s = get_or ps place d in
    let old = c.args.recs.now in
    let n = c.waiting-waiting.result in
    elim c.if-place-picked.branch [
      | then-place-picked w ↦
          let same : place ≡ picked = w.if-place-picked.true in
          let here : get_or (changed_at (without_at o) picked ps) place d ≡ without_at o s =
          ap (λ i. get_or (changed_at (without_at o) i ps) place d) (sym same) ∙ changed_at-here (without_at o) place ps d c.requires.within in
          let within : o < length s.recs = omega (arith, c.requires.waits d, ap (λ i. length (get_or ps i d).recs) same) in
          let mid = w.read.new.recs in
          ap (λ v. v.items) w.recs-is
          ∙ (two_reads old.items mid.items w.read-then-place-picked.new.recs.items s.recs o n (vec_len old) (vec_len mid) old.ok.0 mid.ok.0 c.requires.few within (c.waiting-waiting.ensures.count d) (w.read.ensures.recs d) (w.read-then-place-picked.ensures.recs d)
          ∙ ap (λ (p : Part). old.items ++ map rec_of (take (64 - vec_len old) p.recs)) (sym here))
      | else-place-picked w ↦
          ap (λ v. v.items) w.recs-is
          ∙ (whole_read old.items w.read-else-place-picked.new.recs.items s.recs n (64 - vec_len old) (c.waiting-waiting.ensures.count d) (w.read-else-place-picked.ensures.recs d)
          ∙ ap (λ (p : Part). old.items ++ map rec_of (take (64 - vec_len old) p.recs)) (sym (changed_at-apart (without_at o) picked place ps d w.if-place-picked.false)))
    ]
