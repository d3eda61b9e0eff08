use Rattle.std.proofs.Common.{◌≡◌, refl, sym, ◌∙◌}
use Rattle.std.specs.Prelude.{Result, Ok, Err}
use Rattle.td_store.specs.declared.standing.error.KeeperError.{KeeperError}
use Rattle.td_keeper.specs.declared.command.Command.TheVariants.{Settle}
use Rattle.std.proofs.lemmas.Result.{on_ok_weaker}
use Rattle.td_feed.proofs.Stepping.{on_done, quietly_comes, quiet_as, since_same}
use Rattle.td_keeper.specs.Driven.{settled}
use Rattle.td_feed.specs.Stepping.{faulted, outcome_of}
use Rattle.td_feed.proofs.under_way.pass.Goals as goal

-- the answer is that of the reply
as_reply : (r : Result (Unit {0}) KeeperError) → faulted r ≡ outcome_of (settled r)
as_reply (Ok x) = refl
as_reply (Err e) = refl

pub returns-clause-quiet : goal.returns-clause-quiet
returns-clause-quiet g c =
    let old = g.E.Obey.keeping c.args.engine.now in
    let new = g.E.Obey.keeping c.settle-passed.new.self in
    let r = c.settle-passed.result in
    let comes = c.known.ensures.resting Settle (settled r) old new refl c.known.ensures.keeper c.known-2.ensures.keeper c.settle-passed.ensures.settled c.requires.whole in
    quiet_as (outcome_of (settled r)) c.answered.result (c.answered.ensures ∙ as_reply r) (quietly_comes Settle (settled r) old new comes refl refl (λ none. comes.rests refl))

pub returns-clause-stays : goal.returns-clause-stays
returns-clause-stays g c =
    let old = g.E.Obey.keeping c.args.engine.now in
    let new = g.E.Obey.keeping c.settle-passed.new.self in
    let comes = c.known.ensures.resting Settle (settled c.settle-passed.result) old new refl c.known.ensures.keeper c.known-2.ensures.keeper c.settle-passed.ensures.settled c.requires.whole in
    record { rests = comes.rests refl; stands = comes.stands refl; base = comes.base }

pub returns-clause-done : goal.returns-clause-done
returns-clause-done g c = λ alone all.
    let old = g.E.Obey.keeping c.args.engine.now in
    let new = g.E.Obey.keeping c.settle-passed.new.self in
    let stays = returns-clause-stays g c in
    on_done _ c.settle-passed.result c.answered.result c.answered.ensures
    (on_ok_weaker c.settle-passed.result (λ passed. record { all = passed.0 ∙ (all ∙ sym (since_same old new stays.stands stays.base.base)); passed = passed.1 }) (c.settle-passed.ensures.own alone))
