use Rattle.std.proofs.Common.{Option, Err, refl, sym, subst, inr}
use Rattle.td_console.specs.declared.faults.Fault.{Fault}
use Rattle.td_calls.specs.Stored.{stored_in}
use Rattle.td_console.specs.Answer.{lines_of_run, IsAnswerAt}
use Rattle.td_console.proofs.Wide.{none_wide}
use Rattle.td_console.proofs.Asking.{answer_of_text, refusal_of_text}
use Rattle.td_console.proofs.question.asked_by.Goals as goal

pub returns-in-Some-clause-ok : goal.returns-in-Some-clause-ok
returns-in-Some-clause-ok g c =
    let stored = stored_in g.L.Law.answers (g.C.Closures.stored c.args.calls.now) in
    let none = none_wide c.args.input.now (sym c.in-Some.ensures.ascii) in
    answer_of_text stored c.args.input.now c.in-Some.text.now c.in-Some.ensures.some none (λ asked. lines_of_run g.L.Law.answers asked.plan asked.batches.items) c.question_of_text.result c.question_of_text.ensures.ok

pub returns-in-Some-clause-err : goal.returns-in-Some-clause-err
returns-in-Some-clause-err g c =
    let stored = stored_in g.L.Law.answers (g.C.Closures.stored c.args.calls.now) in
    let none = none_wide c.args.input.now (sym c.in-Some.ensures.ascii) in
    refusal_of_text stored c.args.input.now c.in-Some.text.now c.in-Some.ensures.some none c.question_of_text.result c.question_of_text.ensures.err

pub returns-in-None-clause-err : goal.returns-in-None-clause-err
returns-in-None-clause-err g c =
    let stored = stored_in g.L.Law.answers (g.C.Closures.stored c.args.calls.now) in
    inr (subst (λ (o : Option Fault). IsAnswerAt stored c.args.input.now o (Err c.find_wide_fault.result)) (sym c.find_wide_fault.ensures.first) refl)
