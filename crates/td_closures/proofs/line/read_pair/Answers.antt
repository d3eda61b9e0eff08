use Rattle.std.proofs.Common.{sym, inr}
use Rattle.td_closures.specs.Phrase.{tree_of}
use Rattle.td_closures.specs.Reading.{expression_of, when_of, after_comma, ended, paired, with_when, with_second, with_separator, with_first, pair_of}
use Rattle.td_closures.specs.Kept.{paired_by}
use Rattle.td_closures.proofs.Answered.{handed_on, refused, along}
use Rattle.td_closures.proofs.LineReading.{pair_1, pair_2, pair_3, pair_4, pair_5}
use Rattle.td_closures.proofs.line.read_pair.Goals as goal

pub returns-in_err-first : goal.returns-in_err-first
unfolding pair_of
returns-in_err-first c =
    handed_on paired_by c.in_err-first.field-0.0 c.from_residual.result (pair_of c.args.tokens.now) c.from_residual.ensures.1
    (refused (expression_of c.args.tokens.now) with_first c.in_err-first.field-0.0 c.in_err-first.ensures)

pub returns-in_err-after : goal.returns-in_err-after
returns-in_err-after c =
    handed_on paired_by c.in_err-after.field-0.0 c.from_residual-in_err-after.result (pair_of c.args.tokens.now) c.from_residual-in_err-after.ensures.1
    (along (pair_of c.args.tokens.now) (with_first (tree_of c.in_ok-first.first, c.in_ok-first.others.now)) c.in_err-after.field-0.0
    (pair_1 c.args.tokens.now (tree_of c.in_ok-first.first, c.in_ok-first.others.now) c.in_ok-first.ensures)
    (refused (after_comma c.in_ok-first.others.now) (with_separator (tree_of c.in_ok-first.first)) c.in_err-after.field-0.0 c.in_err-after.ensures))

pub returns-in_err-second : goal.returns-in_err-second
returns-in_err-second c =
    handed_on paired_by c.in_err-second.field-0.0 c.from_residual-in_err-second.result (pair_of c.args.tokens.now) c.from_residual-in_err-second.ensures.1
    (along (pair_of c.args.tokens.now) (with_separator (tree_of c.in_ok-first.first) c.in_ok-after.after.now) c.in_err-second.field-0.0
    (pair_2 c.args.tokens.now (tree_of c.in_ok-first.first, c.in_ok-first.others.now) c.in_ok-after.after.now c.in_ok-first.ensures c.in_ok-after.ensures)
    (refused (expression_of c.in_ok-after.after.now) (with_second (tree_of c.in_ok-first.first)) c.in_err-second.field-0.0 c.in_err-second.ensures))

pub returns-in_err-when : goal.returns-in_err-when
returns-in_err-when c =
    handed_on paired_by c.in_err-when.field-0.0 c.from_residual-in_err-when.result (pair_of c.args.tokens.now) c.from_residual-in_err-when.ensures.1
    (along (pair_of c.args.tokens.now) (with_second (tree_of c.in_ok-first.first) (tree_of c.in_ok-second.second, c.in_ok-second.more.now)) c.in_err-when.field-0.0
    (pair_3 c.args.tokens.now (tree_of c.in_ok-first.first, c.in_ok-first.others.now) c.in_ok-after.after.now (tree_of c.in_ok-second.second, c.in_ok-second.more.now) c.in_ok-first.ensures c.in_ok-after.ensures c.in_ok-second.ensures)
    (refused (when_of c.in_ok-second.more.now) (with_when (tree_of c.in_ok-first.first) (tree_of c.in_ok-second.second)) c.in_err-when.field-0.0 c.in_err-when.ensures))

pub returns-in_err-check_end : goal.returns-in_err-check_end
returns-in_err-check_end c =
    handed_on paired_by c.in_err-check_end.field-0.0 c.from_residual-in_err-check_end.result (pair_of c.args.tokens.now) c.from_residual-in_err-check_end.ensures.1
    (along (pair_of c.args.tokens.now) (with_when (tree_of c.in_ok-first.first) (tree_of c.in_ok-second.second) (tree_of c.in_ok-when.when, c.in_ok-when.rest.now)) c.in_err-check_end.field-0.0
    (pair_4 c.args.tokens.now (tree_of c.in_ok-first.first, c.in_ok-first.others.now) c.in_ok-after.after.now (tree_of c.in_ok-second.second, c.in_ok-second.more.now) (tree_of c.in_ok-when.when, c.in_ok-when.rest.now) c.in_ok-first.ensures c.in_ok-after.ensures c.in_ok-second.ensures c.in_ok-when.ensures)
    (refused (ended c.in_ok-when.rest.now) (paired (tree_of c.in_ok-first.first) (tree_of c.in_ok-second.second) (tree_of c.in_ok-when.when)) c.in_err-check_end.field-0.0 (inr (sym c.in_err-check_end.ensures))))

pub returns : goal.returns
returns c =
    pair_5 c.args.tokens.now (tree_of c.in_ok-first.first, c.in_ok-first.others.now) c.in_ok-after.after.now (tree_of c.in_ok-second.second, c.in_ok-second.more.now) (tree_of c.in_ok-when.when, c.in_ok-when.rest.now) c.in_ok-check_end.field-0
    c.in_ok-first.ensures c.in_ok-after.ensures c.in_ok-second.ensures c.in_ok-when.ensures (sym c.in_ok-check_end.ensures)
