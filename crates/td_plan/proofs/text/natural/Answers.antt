use Rattle.std.proofs.Common.{rules, ◌∙◌, None}
use Rattle.td_plan.proofs.Numerals.{natural_parse, natural_unplain, printed, only}
use Rattle.td_plan.proofs.text.natural.Goals as goal

pub returns-then-not-is_numeral-clause-exact : goal.returns-then-not-is_numeral-clause-exact
returns-then-not-is_numeral-clause-exact c = natural_unplain c.args.word.now (search rules)

pub returns-then-not-is_numeral-clause-none : goal.returns-then-not-is_numeral-clause-none
returns-then-not-is_numeral-clause-none c = only c.args.word.now None (natural_unplain c.args.word.now (search rules))

pub returns-clause-exact : goal.returns-clause-exact
returns-clause-exact c = c.ok.ensures.value ∙ natural_parse c.args.word.now c.parse.result c.parse.ensures.value.0 (search rules)

pub returns-clause-printed : goal.returns-clause-printed
returns-clause-printed c = printed c.args.word.now c.ok.result (c.ok.ensures.value ∙ natural_parse c.args.word.now c.parse.result c.parse.ensures.value.0 (search rules))

pub returns-clause-none : goal.returns-clause-none
returns-clause-none c = only c.args.word.now c.ok.result (c.ok.ensures.value ∙ natural_parse c.args.word.now c.parse.result c.parse.ensures.value.0 (search rules))
