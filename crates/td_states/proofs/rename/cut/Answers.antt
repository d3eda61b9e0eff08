use Rattle.std.proofs.Common.{Some, None, arith}
use Rattle.std.proofs.lemmas.Str.Pattern.{split_parts}
use Rattle.td_states.proofs.Pairs.{slice_split-Lacks, slice_split-at}
use Rattle.td_states.proofs.rename.cut.Goals as goal

pub returns-in-Some : goal.returns-in-Some
returns-in-Some c =
    let parts = split_parts 61 c.args.text.now (Some (c.in-Some.before, c.in-Some.after)) c.in-Some.ensures.cases (omega arith) in
    rw parts.0 (slice_split-at _ _ _ parts.1)

pub returns-in-None : goal.returns-in-None
returns-in-None c = slice_split-Lacks _ _ (split_parts 61 c.args.text.now None c.in-None.ensures.cases (omega arith))
