use Rattle.std.proofs.Common.{◌≡◌, ◌+◌, ◌<◌, length, take, slice_index_or, sym, ap, ◌∙◌, arith}
use Rattle.td_progress.specs.declared.ways.Side.TheVariants as sides
use Rattle.td_progress.specs.Ways.{number_of, row}
use Rattle.td_progress.specs.Held.{count_among}
use Rattle.td_progress.proofs.Visits.{among_more, among_some, among_le}
use Rattle.td_progress.proofs.held.count_tested.Goals as goal

pub overflow_add-count : goal.overflow_add-count
overflow_add-count c =
    let plan = c.args.ways.now in
    let ks = c.args.chains.now.entries in
    let k = c.args.class.now in
    let i = c.loop-number.number-index in
    let is = row plan sides.Before (number_of plan k.place) in
    let within : i < length is = omega (arith, c.loop-number-test.true, ap length c.row-number-items.ensures) in
    let at : slice_index_or is i 0 ≡ c.from.result = ap (λ xs. slice_index_or xs i 0) (sym c.row-number-items.ensures) ∙ sym c.from.ensures in
    let more = among_more plan ks k c.args.from c.args.upto is i c.from.result within at in
    let some = among_some plan ks k c.args.from c.args.upto is (i + 1) in
    let all = among_le plan ks c.requires.laid k c.args.from c.args.upto sides.Before (number_of plan k.place) in
    omega (arith, more, some, all, c.loop-number.invariant, c.count_at-count.ensures, c.requires.fits)

pub loop-number-preserved : goal.loop-number-preserved
loop-number-preserved c =
    let plan = c.args.ways.now in
    let ks = c.args.chains.now.entries in
    let k = c.args.class.now in
    let i = c.loop-number.number-index in
    let is = row plan sides.Before (number_of plan k.place) in
    let within : i < length is = omega (arith, c.loop-number-test.true, ap length c.row-number-items.ensures) in
    let at : slice_index_or is i 0 ≡ c.from.result = ap (λ xs. slice_index_or xs i 0) (sym c.row-number-items.ensures) ∙ sym c.from.ensures in
    let more = among_more plan ks k c.args.from c.args.upto is i c.from.result within at in
    let next : c.loop-number.count + c.count_at-count.result ≡ count_among plan ks k c.args.from c.args.upto (take (i + 1) is) = omega (arith, more, c.loop-number.invariant, c.count_at-count.ensures) in
    next
