use Rattle.td_journal.proofs.journal.Journal.payload.Goals as goal

pub returns-clause-ok : goal.returns-clause-ok
returns-clause-ok c = c.in_ok-cell_payload.ensures.ok
