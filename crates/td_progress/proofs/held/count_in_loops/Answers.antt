use Rattle.std.proofs.Common.{◌≡◌, ◌+◌, ◌-◌, ◌≤◌, length, ap, ◌∙◌, arith}
use Rattle.std.specs.List.{range_with_len}
use Rattle.td_progress.specs.Ways.{places_of}
use Rattle.td_progress.specs.Held.{count_among}
use Rattle.td_progress.specs.declared.ways.Side.TheVariants as sides
use Rattle.td_progress.proofs.Visits.{loops_more, loops_some, among_le, all_long}
use Rattle.td_progress.proofs.held.count_in_loops.Goals as goal

pub overflow_add-count : goal.overflow_add-count
overflow_add-count c =
    let plan = c.args.ways.now in
    let ks = c.args.chains.now.entries in
    let k = c.args.class.now in
    let i = c.loop-index.index in
    let low : places_of plan ≤ i = omega (arith, c.places.ensures, c.from-index.ensures, c.loop-index.auto.index) in
    let high : i + 1 ≤ length ks = omega (arith, c.loop-index-test.true, c.len-index-end.ensures.len) in
    let more = loops_more plan ks k c.args.from c.args.upto (places_of plan) i low in
    let some = loops_some plan ks k c.args.from c.args.upto (places_of plan) (i + 1) (length ks) high in
    let all = among_le plan ks c.requires.laid k c.args.from c.args.upto sides.Before 0 in
    omega (arith, more, some, all, c.loop-index.invariant, c.count_at-count.ensures, c.requires.fits)

pub loop-index-preserved : goal.loop-index-preserved
loop-index-preserved c =
    let plan = c.args.ways.now in
    let ks = c.args.chains.now.entries in
    let k = c.args.class.now in
    let i = c.loop-index.index in
    let low : places_of plan ≤ i = omega (arith, c.places.ensures, c.from-index.ensures, c.loop-index.auto.index) in
    let more = loops_more plan ks k c.args.from c.args.upto (places_of plan) i low in
    omega (arith, more, c.loop-index.invariant, c.count_at-count.ensures)

pub returns : goal.returns
returns c =
    let plan = c.args.ways.now in
    let ks = c.args.chains.now.entries in
    let long = all_long plan ks c.requires.laid in
    let end : c.loop-index.index ≡ length ks = omega (arith, long, c.places.ensures, c.from-index.ensures, c.loop-index.auto.index, c.loop-index.auto.index-end, c.loop-index-test.false, c.len-index-end.ensures.len) in
    c.loop-index.invariant ∙ ap (λ n. count_among plan ks c.args.class.now c.args.from c.args.upto (range_with_len (places_of plan) (n - places_of plan))) end
