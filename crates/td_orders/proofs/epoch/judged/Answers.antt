use Rattle.std.proofs.Common.{◌∙◌, ⊎_elim, ℕ, true, sym, ap}
use Rattle.td_orders.specs.declared.note.Cause.TheVariants.{TooManyRecords}
use Rattle.td_orders.specs.Noted.{flaw_of}
use Rattle.td_orders.specs.Orders.{no_orders, numbered}
use Rattle.td_orders.specs.Lines.{line_in}
use Rattle.td_orders.specs.Scripts.{refused, unless_refused}
use Rattle.td_orders.proofs.Scripts.{as_said, gives_refused, refused_alone, over_or_not, fault_or_not, memory_gives, gives_as}
use Rattle.td_orders.proofs.epoch.judged.Goals as goal

pub returns-then-is_over-clause-gives : goal.returns-then-is_over-clause-gives
returns-then-is_over-clause-gives c =
    let a = c.args in
    gives_refused c.refused.result _ (refused a.number (numbered c.request_in-request.result no_orders) (flaw_of TooManyRecords (line_in a.text.now)))
    (over_or_not a.limit a.number (line_in a.text.now) a.read c.in-Ok.next _ true c.in-Ok.ensures.gives (sym c.is_over.ensures ∙ c.if-is_over.true)
    ∙ ap as_said (refused_alone a.number a.read (flaw_of TooManyRecords (line_in a.text.now)) c.requires.ready ∙ ap (λ (q : ℕ). refused a.number (numbered q no_orders) (flaw_of TooManyRecords (line_in a.text.now))) (sym c.request_in-request.ensures)))
    c.refused.ensures.ok c.refused.ensures.err

pub returns-in-Err-clause-gives : goal.returns-in-Err-clause-gives
returns-in-Err-clause-gives c =
    let a = c.args in
    let r = c.refused_for.result in
    ⊎_elim (λ memory. memory_gives r _ (c.refused_for.ensures.memory memory))
    (λ is.
    gives_as r (unless_refused a.number (line_in a.text.now) (numbered c.request_in-request.result no_orders) c.in-Err.fault a.limit) _
    (fault_or_not a.limit a.number (line_in a.text.now) a.read c.in-Err.fault _ c.requires.ready is ∙ ap (λ (q : ℕ). unless_refused a.number (line_in a.text.now) (numbered q no_orders) c.in-Err.fault a.limit) (sym c.request_in-request.ensures))
    c.refused_for.ensures.gives) c.in-Err.ensures.gives
