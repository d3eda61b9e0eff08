use Rattle.std.proofs.Common.{◌≤◌, ◌<◌, ◌++◌, ◌∙◌, ap, sym, subst, map, length, replicate, slice_index_or}
use Rattle.std.proofs.lemmas.List.{take_all, get_or-map, length-map}
use Rattle.td_progress.specs.Bag.{occurrences}
use Rattle.td_shard.specs.declared.outlet.Outlet.{Outlet}
use Rattle.td_core.specs.Posted.{occurring, stamp_on_outlet}
use Rattle.td_core.proofs.Changes.{change_on, occurring_on, next_off, are_there}
use Rattle.td_core.proofs.deliver.take_off_on.Goals as goal

pub take_off_many-requires : goal.take_off_many-requires
take_off_many-requires c =
    let outs = c.args.outlets.now in
    let t = c.args.time.now in
    let i = c.loop-outlet.outlet-index in
    let o : Outlet = slice_index_or outs i (record { number = 0; reader = 0; port = 0 }) in
    let within : i < length (map (change_on t c.args.times) outs) = subst (λ n. i < n) (sym (length-map outs (change_on t c.args.times))) c.loop-outlet-test.true in
    subst (λ u. c.args.times ≤ occurrences (stamp_on_outlet u o) c.loop-outlet.table.stamps) (sym c.copy.ensures)
    (are_there c.counted.ensures.append (λ p. (c.counted.ensures.same p p).1 (λ i. p)) (map (change_on t c.args.times) outs) i (change_on t c.args.times o) within
    (sym (get_or-map (change_on t c.args.times) outs i (record { number = 0; reader = 0; port = 0 }) (change_on t c.args.times o) c.loop-outlet-test.true)) c.args.table.now.stamps c.loop-outlet.table.stamps
    (λ p. subst (λ l. occurrences p l ≤ occurrences p c.args.table.now.stamps) (sym (occurring_on t c.args.times outs)) (c.requires p)) c.loop-outlet.invariant.stamps)

pub loop-outlet-preserved : goal.loop-outlet-preserved
loop-outlet-preserved c =
    let outs = c.args.outlets.now in
    let t = c.args.time.now in
    let i = c.loop-outlet.outlet-index in
    let o : Outlet = slice_index_or outs i (record { number = 0; reader = 0; port = 0 }) in
    let within : i < length (map (change_on t c.args.times) outs) = subst (λ n. i < n) (sym (length-map outs (change_on t c.args.times))) c.loop-outlet-test.true in
    record {
      plan = c.take_off_many.ensures.plan ∙ c.loop-outlet.invariant.plan;
      stamps = next_off c.counted.ensures.append (map (change_on t c.args.times) outs) i (change_on t c.args.times o) within
          (sym (get_or-map (change_on t c.args.times) outs i (record { number = 0; reader = 0; port = 0 }) (change_on t c.args.times o) c.loop-outlet-test.true))
          c.args.table.now.stamps c.loop-outlet.table.stamps c.take_off_many.new.self.stamps c.loop-outlet.invariant.stamps
          (λ p. c.take_off_many.ensures.stamps p ∙ ap (λ u. occurrences p (replicate c.args.times (stamp_on_outlet u o) ++ c.take_off_many.new.self.stamps)) c.copy.ensures);
    }

pub returns-clause-stamps : goal.returns-clause-stamps
returns-clause-stamps c p =
    let changes = map (change_on c.args.time.now c.args.times) c.args.outlets.now in
    c.loop-outlet.invariant.stamps p
    ∙ ap (λ rs. occurrences p (occurring rs ++ c.loop-outlet.table.stamps))
    (take_all c.loop-outlet.outlet-index changes (subst (λ n. n ≤ c.loop-outlet.outlet-index) (sym (length-map c.args.outlets.now (change_on c.args.time.now c.args.times))) c.loop-outlet-test.false))
    ∙ ap (λ l. occurrences p (l ++ c.loop-outlet.table.stamps)) (occurring_on c.args.time.now c.args.times c.args.outlets.now)
