use Rattle.std.proofs.Common.{◌∙◌, sym, ap, subst, arith}
use Rattle.std.specs.List.{IsDistinct}
use Rattle.std.specs.Map.{keys_of}
use Rattle.td_progress.specs.Bag.{is_stamp}
use Rattle.td_progress.specs.Held.{all_marked, total, AllTimed, AreHeld}
use Rattle.td_progress.proofs.Laid.{nothing_marked, nothing_in_all, nothing_kept, nothing_timed}
use Rattle.td_progress.proofs.held.Held.new.Goals as goal

pub invariant_of-result : goal.invariant_of-result
invariant_of-result c =
    let is = c.in_ok-laid_out.ensures.entries in
    let none = ap total is ∙ nothing_in_all c.args.ways.now in
    (omega (arith, none), omega (arith, none), subst AllTimed (sym is) (nothing_timed c.args.ways.now))

pub returns-clause-kept : goal.returns-clause-kept
returns-clause-kept c =
    let is = c.in_ok-laid_out.ensures.entries in
    subst (AreHeld c.args.ways.now) (sym is) (nothing_kept c.args.ways.now (subst (λ ks. IsDistinct is_stamp (keys_of ks)) is c.in_ok-laid_out.ensures.once))

pub returns-clause-none : goal.returns-clause-none
returns-clause-none c = ap all_marked c.in_ok-laid_out.ensures.entries ∙ nothing_marked c.args.ways.now
