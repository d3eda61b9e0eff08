use Rattle.td_machine.proofs.laws.exact_work_drained.Goals as goal

pub returns : goal.returns
returns g c plan states first workers events replies S lawful ordered l m p none_taken =
    c.exact_work.ensures plan states first workers events replies S lawful ordered l m p (λ e low high. c.never_stuck.ensures plan states first workers events replies S lawful ordered l m p none_taken e high)
