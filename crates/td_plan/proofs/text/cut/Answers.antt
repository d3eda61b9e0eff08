use Rattle.std.proofs.Common.{Some, None}
use Rattle.std.proofs.lemmas.Str.Pattern.{split_parts}
use Rattle.td_plan.proofs.Cuts.{slice_split-Lacks, slice_split-at}
use Rattle.td_plan.proofs.text.cut.Goals as goal

pub returns-in-Some-clause-split : goal.returns-in-Some-clause-split
returns-in-Some-clause-split c =
    let parts = split_parts c.args.at c.args.text.now (Some (c.in-Some.before, c.in-Some.after)) c.in-Some.ensures.cases c.requires in
    rw parts.0 (slice_split-at _ _ _ parts.1)

pub returns-in-None-clause-split : goal.returns-in-None-clause-split
returns-in-None-clause-split c = slice_split-Lacks _ _ (split_parts c.args.at c.args.text.now None c.in-None.ensures.cases c.requires)
