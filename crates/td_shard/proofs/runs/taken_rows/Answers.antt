use Rattle.std.proofs.Common.{arith, ◌+◌, ◌<◌, length, refl}
use Rattle.td_shard.proofs.Ordered.{stands}
use Rattle.td_shard.proofs.Trimmed.{taken-front}
use Rattle.td_shard.proofs.runs.taken_rows.Goals as goal

pub returns-in-Some-clause-within : goal.returns-in-Some-clause-within
returns-in-Some-clause-within c =
    let runs = c.args.runs.now in
    let some : 0 < length runs.items = omega (arith, c.in-Some.ensures.variant.0 refl, runs.ok.0) in
    let s = stands c.args.start (c.args.start + c.args.len) runs.items 0 _ _ some c.in-Some.ensures.lookup c.requires in
    omega (arith, s.some, s.high)

pub returns-in-Some-clause-count : goal.returns-in-Some-clause-count
returns-in-Some-clause-count c =
    let runs = c.args.runs.now in
    let some : 0 < length runs.items = omega (arith, c.in-Some.ensures.variant.0 refl, runs.ok.0) in
    taken-front c.args.start c.args.len runs.items _ _ some c.in-Some.ensures.lookup
