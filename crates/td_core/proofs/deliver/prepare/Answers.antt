use Rattle.std.proofs.Common.{◌++◌, ◌∙◌, ap, sym, subst, length}
use Rattle.std.specs.List.{AllByRecursion}
use Rattle.std.proofs.lemmas.Result.{on_ok_weaker}
use Rattle.td_reach.specs.Paths.{IsOf}
use Rattle.td_progress.specs.Bag.{occurrences}
use Rattle.td_core.specs.Posted.{occurring}
use Rattle.td_core.proofs.Sending.{changes_of_plan}
use Rattle.td_core.proofs.deliver.prepare.Goals as goal

pub add_all-requires : goal.add_all-requires
add_all-requires c =
    subst (AllByRecursion (λ r. IsOf c.args.table.now.plan r.stamp)) (sym (c.as_slice.ensures.value ∙ c.in_ok-changes.ensures.changes))
    (changes_of_plan c.args.table.now.plan c.args.time.now (length c.args.recs.now) c.args.outlets.now c.requires.of_plan)

pub returns-clause-stamps : goal.returns-clause-stamps
returns-clause-stamps c =
    on_ok_weaker c.add_all.result
    (λ h p. h p ∙ ap (λ l. occurrences p (l ++ c.args.table.now.stamps)) (ap occurring c.as_slice.ensures.value ∙ c.in_ok-changes.ensures.occurring))
    c.add_all.ensures.ok
