use Rattle.std.proofs.Common.{◌≡◌, refl, ◌∙◌}
use Rattle.std.specs.Prelude.{Result, Ok, Err}
use Rattle.td_store.specs.declared.standing.error.KeeperError.{KeeperError}
use Rattle.td_keeper.specs.declared.command.Command.TheVariants.{CloseFree}
use Rattle.td_keeper.specs.Driven.{closed}
use Rattle.td_feed.specs.Stepping.{faulted, outcome_of}
use Rattle.td_feed.proofs.Held.{base_itself}
use Rattle.td_feed.proofs.Stepping.{on_done, quietly_comes, quiet_as, quiet_nothing, closed_stands}
use Rattle.td_feed.proofs.under_way.Feeding.close_freed.Goals as goal

-- the answer is that of the reply
as_reply : (r : Result (Unit {0}) KeeperError) → faulted r ≡ outcome_of (closed r)
as_reply (Ok x) = refl
as_reply (Err e) = refl

pub returns-then-self-eq0-clause-quiet : goal.returns-then-self-eq0-clause-quiet
returns-then-self-eq0-clause-quiet g c = quiet_nothing c.requires.whole

pub returns-then-self-eq0-clause-base : goal.returns-then-self-eq0-clause-base
returns-then-self-eq0-clause-base g c = base_itself (g.E.Obey.keeping c.args.self.now.engine)

pub returns-clause-quiet : goal.returns-clause-quiet
returns-clause-quiet g c =
    let old = g.E.Obey.keeping c.args.self.now.engine in
    let new = g.E.Obey.keeping c.close_free-closed.new.self in
    let most = c.args.self.now.freed in
    let r = c.close_free-closed.result in
    let comes = c.known.ensures.comes (CloseFree most) (closed r) old new c.known.ensures.keeper c.known-2.ensures.keeper c.close_free-closed.ensures.closed c.requires.whole tt c.close_free-closed.ensures.device.size c.close_free-closed.ensures.device.lawful in
    quiet_as (outcome_of (closed r)) c.answered.result (c.answered.ensures ∙ as_reply r) (quietly_comes (CloseFree most) (closed r) old new comes refl refl (λ done. (comes.obeyed done).carried))

pub returns-clause-base : goal.returns-clause-base
returns-clause-base g c =
    let old = g.E.Obey.keeping c.args.self.now.engine in
    let new = g.E.Obey.keeping c.close_free-closed.new.self in
    (c.known.ensures.comes (CloseFree c.args.self.now.freed) (closed c.close_free-closed.result) old new c.known.ensures.keeper c.known-2.ensures.keeper c.close_free-closed.ensures.closed c.requires.whole tt c.close_free-closed.ensures.device.size c.close_free-closed.ensures.device.lawful).base

pub returns-clause-stands : goal.returns-clause-stands
returns-clause-stands g c =
    on_done _ c.close_free-closed.result c.answered.result c.answered.ensures
    (closed_stands g.D.Disk.view g.L.Law.answers c.args.self.now.freed c.close_free-closed.result (g.E.Obey.keeping c.args.self.now.engine) (g.E.Obey.keeping c.close_free-closed.new.self) c.close_free-closed.ensures.closed)
