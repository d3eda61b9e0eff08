use Rattle.td_closures.specs.Phrase.{tree_of}
use Rattle.td_closures.specs.Reading.{assigned_of, condition_of, with_target, with_value, changed, expression_of, change_of}
use Rattle.td_closures.specs.Kept.{change_by}
use Rattle.td_closures.proofs.Answered.{handed_on, refused, along}
use Rattle.td_closures.proofs.LineReading.{change_1, change_2, change_3}
use Rattle.td_closures.proofs.line.read_change.Goals as goal

pub returns-in_err-name : goal.returns-in_err-name
unfolding change_of
returns-in_err-name c =
    handed_on change_by c.in_err-name.field-0.0 c.from_residual.result (change_of c.args.verb c.args.tokens.now) c.from_residual.ensures.1
    (refused (assigned_of c.args.verb c.args.tokens.now) (with_target c.args.verb) c.in_err-name.field-0.0 c.in_err-name.ensures)

pub returns-in_err-value : goal.returns-in_err-value
returns-in_err-value c =
    handed_on change_by c.in_err-value.field-0.0 c.from_residual-in_err-value.result (change_of c.args.verb c.args.tokens.now) c.from_residual-in_err-value.ensures.1
    (along (change_of c.args.verb c.args.tokens.now) (with_target c.args.verb (c.in_ok-name.name, c.in_ok-name.others.now)) c.in_err-value.field-0.0
    (change_1 c.args.verb c.args.tokens.now (c.in_ok-name.name, c.in_ok-name.others.now) c.in_ok-name.ensures)
    (refused (expression_of c.in_ok-name.others.now) (with_value c.args.verb c.in_ok-name.name) c.in_err-value.field-0.0 c.in_err-value.ensures))

pub returns-in_err-when : goal.returns-in_err-when
returns-in_err-when c =
    handed_on change_by c.in_err-when.field-0.0 c.from_residual-in_err-when.result (change_of c.args.verb c.args.tokens.now) c.from_residual-in_err-when.ensures.1
    (along (change_of c.args.verb c.args.tokens.now) (with_value c.args.verb c.in_ok-name.name (tree_of c.in_ok-value.value, c.in_ok-value.more.now)) c.in_err-when.field-0.0
    (change_2 c.args.verb c.args.tokens.now (c.in_ok-name.name, c.in_ok-name.others.now) (tree_of c.in_ok-value.value, c.in_ok-value.more.now) c.in_ok-name.ensures c.in_ok-value.ensures)
    (refused (condition_of c.args.verb c.in_ok-value.more.now) (changed c.in_ok-name.name (tree_of c.in_ok-value.value)) c.in_err-when.field-0.0 c.in_err-when.ensures))

pub returns : goal.returns
returns c =
    change_3 c.args.verb c.args.tokens.now (c.in_ok-name.name, c.in_ok-name.others.now) (tree_of c.in_ok-value.value, c.in_ok-value.more.now) (tree_of c.in_ok-when.when, c.in_ok-when.rest.now)
    c.in_ok-name.ensures c.in_ok-value.ensures c.in_ok-when.ensures
