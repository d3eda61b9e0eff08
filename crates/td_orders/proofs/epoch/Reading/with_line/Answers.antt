use Rattle.std.proofs.Common.{◌≡◌, ◌+◌, ◌∙◌, rules, sym, ap, ℕ, Option}
use Rattle.td_orders.specs.declared.note.Flaw.{Flaw}
use Rattle.td_orders.specs.Orders.{Orders, service_line_of}
use Rattle.td_orders.specs.Lines.{line_in}
use Rattle.td_orders.specs.Scripts.{place, with_said}
use Rattle.td_orders.proofs.Scripts.{line_read}
use Rattle.td_orders.proofs.epoch.Reading.with_line.Goals as goal

pub returns-clause-order : goal.returns-clause-order
returns-clause-order c =
    let f = place c.args.self.now in
    let is = ap (λ (r : Orders). with_said f.plan f.limit f.number f.flaw r (line_in c.args.text.now) (service_line_of f.placing f.hold f.questions f.copies (line_in c.args.text.now))) (sym c.replace-read.ensures.value)
    ∙ ap (λ (w : Option (ℕ × Flaw)). with_said f.plan f.limit f.number w c.replace-read.result (line_in c.args.text.now) (service_line_of f.placing f.hold f.questions f.copies (line_in c.args.text.now))) (sym c.take-flaw.ensures.value)
    ∙ ap (with_said f.plan f.limit f.number c.take-flaw.result c.replace-read.result (line_in c.args.text.now)) (sym c.in_ok-words.ensures.ok) ∙ c.in_ok-said.ensures.gives in
    let next : c.in-Some.next ≡ f.number + 1 = (let e = c.in-Some.ensures in let i = c.in-Some.is in search rules) in
    (line_read f c.in_ok-said.said (line_in c.args.text.now) c.taken_out-order.result.1 c.taken_out-order.result.0 c.in-Some.next c.requires.ready is c.taken_out-order.ensures.parts c.taken_out-order.ensures.some c.taken_out-order.ensures.same next).1

pub returns-clause-none_left : goal.returns-clause-none_left
returns-clause-none_left c =
    let f = place c.args.self.now in
    let is = ap (λ (r : Orders). with_said f.plan f.limit f.number f.flaw r (line_in c.args.text.now) (service_line_of f.placing f.hold f.questions f.copies (line_in c.args.text.now))) (sym c.replace-read.ensures.value)
    ∙ ap (λ (w : Option (ℕ × Flaw)). with_said f.plan f.limit f.number w c.replace-read.result (line_in c.args.text.now) (service_line_of f.placing f.hold f.questions f.copies (line_in c.args.text.now))) (sym c.take-flaw.ensures.value)
    ∙ ap (with_said f.plan f.limit f.number c.take-flaw.result c.replace-read.result (line_in c.args.text.now)) (sym c.in_ok-words.ensures.ok) ∙ c.in_ok-said.ensures.gives in
    let next : c.in-Some.next ≡ f.number + 1 = (let e = c.in-Some.ensures in let i = c.in-Some.is in search rules) in
    (line_read f c.in_ok-said.said (line_in c.args.text.now) c.taken_out-order.result.1 c.taken_out-order.result.0 c.in-Some.next c.requires.ready is c.taken_out-order.ensures.parts c.taken_out-order.ensures.some c.taken_out-order.ensures.same next).0
