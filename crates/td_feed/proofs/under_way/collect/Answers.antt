use Rattle.std.proofs.Common.{◌≡◌, ℕ, refl, ◌∙◌}
use Rattle.std.specs.Prelude.{Result, Ok, Err}
use Rattle.td_store.specs.declared.standing.error.KeeperError.{KeeperError}
use Rattle.td_keeper.specs.declared.command.Command.TheVariants.{Collect}
use Rattle.td_feed.proofs.Stepping.{on_done, quietly_comes, quiet_as}
use Rattle.td_keeper.specs.Driven.{collected}
use Rattle.td_feed.specs.Stepping.{faulted, outcome_of}
use Rattle.td_feed.proofs.under_way.collect.Goals as goal

-- the answer is that of the reply
as_reply : (r : Result ℕ KeeperError) → faulted r ≡ outcome_of (collected r)
as_reply (Ok x) = refl
as_reply (Err e) = refl

pub returns-clause-quiet : goal.returns-clause-quiet
returns-clause-quiet g c =
    let old = g.E.Obey.keeping c.args.engine.now in
    let new = g.E.Obey.keeping c.collect-collected.new.self in
    let r = c.collect-collected.result in
    let comes = c.known.ensures.resting Collect (collected r) old new refl c.known.ensures.keeper c.known-2.ensures.keeper c.collect-collected.ensures.collected c.requires.whole in
    quiet_as (outcome_of (collected r)) c.answered.result (c.answered.ensures ∙ as_reply r) (quietly_comes Collect (collected r) old new comes refl refl (λ none. comes.rests refl))

pub returns-clause-stays : goal.returns-clause-stays
returns-clause-stays g c =
    let old = g.E.Obey.keeping c.args.engine.now in
    let new = g.E.Obey.keeping c.collect-collected.new.self in
    let comes = c.known.ensures.resting Collect (collected c.collect-collected.result) old new refl c.known.ensures.keeper c.known-2.ensures.keeper c.collect-collected.ensures.collected c.requires.whole in
    record { rests = comes.rests refl; stands = comes.stands refl; base = comes.base }

pub returns-clause-all : goal.returns-clause-all
returns-clause-all g c = λ alone done. on_done _ c.collect-collected.result c.answered.result c.answered.ensures (c.collect-collected.ensures.own alone done)
