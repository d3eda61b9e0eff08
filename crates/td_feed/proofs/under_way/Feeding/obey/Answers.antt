use Rattle.std.proofs.Common.{refl, sym, ap}
use Rattle.td_orders.specs.declared.source.Asked.TheVariants.{Epochs}
use Rattle.td_feed.specs.Carried.{new_to}
use Rattle.td_feed.proofs.Stepping.{does_for, does_then, does_handed, does_step}
use Rattle.td_feed.proofs.under_way.Feeding.obey.Goals as goal

pub returns-in_err-submit_all-in-Epochs-clause-does : goal.returns-in_err-submit_all-in-Epochs-clause-does
returns-in_err-submit_all-in-Epochs-clause-does g c =
    does_handed c.from_residual.result c.from_residual.ensures.1
    (does_for c.in-Epochs.is (does_step (Epochs c.in-Epochs.group) (ap (new_to (g.E.Obey.keeping c.args.self.now.engine)) (sym c.from_vec.ensures)) refl (c.in_err-submit_all-in-Epochs.ensures c.args.seen)))

pub returns-in_ok-submit_all-in-Epochs-clause-does : goal.returns-in_ok-submit_all-in-Epochs-clause-does
returns-in_ok-submit_all-in-Epochs-clause-does g c =
    does_then
    (does_for c.in-Epochs.is (does_step (Epochs c.in-Epochs.group) (ap (new_to (g.E.Obey.keeping c.args.self.now.engine)) (sym c.from_vec.ensures)) refl (c.in_ok-submit_all-in-Epochs.ensures c.args.seen)))
    c.keep_pace.ensures.steps

pub keep_pace-requires : goal.keep_pace-requires
keep_pace-requires g c = record { whole = (c.in_ok-submit_all-in-Epochs.ensures c.args.seen).fed.carried.whole }

pub returns-in_err-obey_one-in-One-clause-does : goal.returns-in_err-obey_one-in-One-clause-does
returns-in_err-obey_one-in-One-clause-does g c = does_handed c.from_residual-in_err-obey_one-in-One.result c.from_residual-in_err-obey_one-in-One.ensures.1 (does_for c.in-One.is c.in_err-obey_one-in-One.ensures.does)

pub returns-in_ok-obey_one-in-One-clause-does : goal.returns-in_ok-obey_one-in-One-clause-does
returns-in_ok-obey_one-in-One-clause-does g c = does_then (does_for c.in-One.is c.in_ok-obey_one-in-One.ensures.does) c.keep_pace-in-One.ensures.steps
