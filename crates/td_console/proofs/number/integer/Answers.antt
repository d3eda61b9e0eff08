use Rattle.std.proofs.Common.{rules, None, Some, IfNone, ap, sym, ◌∙◌, subst, lit<}
use Rattle.std.proofs.lemmas.Str.Pattern.{strip_prefix_char}
use Rattle.td_console.specs.Number.{positive}
use Rattle.td_console.proofs.Signs.{integer_plain, IsNoInteger, none_plain, great_plain, none_minus, great_minus, natural_fits}
use Rattle.td_console.proofs.number.integer.Goals as goal

pub returns-in_err-natural-in-None-clause-exact : goal.returns-in_err-natural-in-None-clause-exact
returns-in_err-natural-in-None-clause-exact c =
    c.from_residual-in_err-natural-in-None.ensures ∙ ap positive (c.in_err-natural-in-None.ensures.exact) ∙ sym (integer_plain c.args.word.now (strip_prefix_char 45 c.args.word.now None c.in-None.ensures.cases (lit< tt)))

pub returns-in_ok-natural-in-None-clause-exact : goal.returns-in_ok-natural-in-None-clause-exact
returns-in_ok-natural-in-None-clause-exact c =
    c.positive.ensures ∙ ap positive (c.in_ok-natural-in-None.ensures.exact) ∙ sym (integer_plain c.args.word.now (strip_prefix_char 45 c.args.word.now None c.in-None.ensures.cases (lit< tt)))

pub returns-in_ok-natural-in-None-clause-none : goal.returns-in_ok-natural-in-None-clause-none
returns-in_ok-natural-in-None-clause-none c =
    let word = c.args.word.now in
    subst (λ r. IfNone r (IsNoInteger word)) (sym c.positive.ensures)
    (great_plain word (strip_prefix_char 45 word None c.in-None.ensures.cases (lit< tt)) c.in_ok-natural-in-None.field-0
    (natural_fits word c.in_ok-natural-in-None.field-0 c.in_ok-natural-in-None.ensures.exact) c.in_ok-natural-in-None.ensures.printed)

pub returns-in_err-natural-in-None-clause-none : goal.returns-in_err-natural-in-None-clause-none
returns-in_err-natural-in-None-clause-none c =
    let word = c.args.word.now in
    subst (λ r. IfNone r (IsNoInteger word)) (sym c.from_residual-in_err-natural-in-None.ensures)
    (none_plain word (strip_prefix_char 45 word None c.in-None.ensures.cases (lit< tt)) c.in_err-natural-in-None.ensures.none)

pub returns-in_err-natural-in-Some-clause-none : goal.returns-in_err-natural-in-Some-clause-none
returns-in_err-natural-in-Some-clause-none c =
    let word = c.args.word.now in
    subst (λ r. IfNone r (IsNoInteger word)) (sym c.from_residual.ensures) (none_minus word c.in-Some.digits.now (strip_prefix_char 45 word (Some c.in-Some.digits) c.in-Some.ensures.cases (lit< tt)) c.in_err-natural-in-Some.ensures.none)

pub returns-in_ok-natural-in-Some-clause-none : goal.returns-in_ok-natural-in-Some-clause-none
returns-in_ok-natural-in-Some-clause-none c =
    let word = c.args.word.now in
    subst (λ r. IfNone r (IsNoInteger word)) (sym c.negative.ensures)
    (great_minus word c.in-Some.digits.now (strip_prefix_char 45 word (Some c.in-Some.digits) c.in-Some.ensures.cases (lit< tt)) c.in_ok-natural-in-Some.field-0
    (natural_fits c.in-Some.digits.now c.in_ok-natural-in-Some.field-0 c.in_ok-natural-in-Some.ensures.exact) c.in_ok-natural-in-Some.ensures.printed)

pub returns-in_ok-natural-in-Some-clause-exact : goal.returns-in_ok-natural-in-Some-clause-exact
returns-in_ok-natural-in-Some-clause-exact c = search rules

pub returns-in_ok-natural-in-Some-clause-printed : goal.returns-in_ok-natural-in-Some-clause-printed
returns-in_ok-natural-in-Some-clause-printed c = search rules
