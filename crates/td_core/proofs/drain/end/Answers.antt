use Rattle.std.proofs.Common.{◌≡◌, ◌++◌, replicate, refl, sym, ap, ◌∙◌, subst, arith}
use Rattle.std.proofs.lemmas.Option.{slice_get_within}
use Rattle.td_plan.specs.Faults.{IsPlan}
use Rattle.td_progress.specs.Bag.{occurrences}
use Rattle.td_core.specs.declared.post.Change.{Change}
use Rattle.td_core.specs.Parts.{state_of}
use Rattle.td_core.specs.Given.{took}
use Rattle.td_core.proofs.GiveSteps.{others_left, so_often, gone_is_took, edge_is_small}
use Rattle.td_core.proofs.drain.end.Goals as goal

pub took-took-requires : goal.took-took-requires
took-took-requires c =
    let parts = c.args.parts.now in
    edge_is_small (state_of parts) parts.routes c.requires.routes c.in_parts.ensures.own_stamps c.args.task.now c.counted.ensures.contains c.counted.ensures.same c.counted.ensures.append
    parts.table.stamps c.requires.active c.plan.ensures.each (subst IsPlan c.plan.ensures.plan c.vertices-lawful.ensures.lawful) c.work-some.ensures.sized

pub take_off_many-requires : goal.take_off_many-requires
take_off_many-requires c =
    let parts = c.args.parts.now in
    let task = c.args.task.now in
    let p = c.took-took.result.stamp in
    let is : took parts.routes task task.content ≡ c.took-took.result = sym c.took-took.ensures in
    let gone = ap (occurrences p) (gone_is_took (state_of parts) parts.routes c.requires.routes c.in_parts.ensures.own_stamps task task.content) in
    let many = ap (λ (r : Change). occurrences p (replicate r.times r.stamp)) is ∙ so_often c.counted.ensures.same c.counted.ensures.append p c.took-took.result.times in
    let least = c.requires.active p in
    omega (arith, gone, many, least)

pub remove-requires : goal.remove-requires
remove-requires c =
    let within = slice_get_within c.args.parts.now.out.items c.args.place c.args.task.now c.requires.there in
    let all = c.args.parts.now.out.ok.0 in
    omega (arith, within, all)

pub returns : goal.returns
returns c =
    let parts = c.args.parts.now in
    let task = c.args.task.now in
    let gone = gone_is_took (state_of parts) parts.routes c.requires.routes c.in_parts.ensures.own_stamps task task.content in
    let is : c.took-took.result ≡ took parts.routes task task.content = c.took-took.ensures in
    record {
      fields = refl;
      plan = c.take_off_many.ensures.plan;
      stamps = λ p. c.take_off_many.ensures.stamps p
          ∙ ap (λ l. occurrences p (l ++ c.take_off_many.new.self.stamps)) (ap (λ (r : Change). replicate r.times r.stamp) is ∙ sym gone);
      out = c.remove.ensures.items ∙ others_left task parts.out.items c.args.place c.requires.there c.requires.one_a_shard;
    }
