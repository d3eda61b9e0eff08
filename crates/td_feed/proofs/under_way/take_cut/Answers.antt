use Rattle.std.proofs.Common.{◌≡◌, ℕ, refl, ◌∙◌}
use Rattle.std.specs.Prelude.{Result, Ok, Err}
use Rattle.td_store.specs.declared.standing.error.KeeperError.{KeeperError}
use Rattle.td_keeper.specs.Driven.{cutting}
use Rattle.td_feed.proofs.Held.{cut_keeps, cut_is_quiet, cut_is_resting, cut_submits_none}
use Rattle.td_feed.proofs.Stepping.{on_done, quietly_comes, quiet_as, cut_obeys, cut_is_still, cut_waits, cut_base}
use Rattle.td_keeper.specs.Driven.{cut}
use Rattle.td_feed.specs.Stepping.{faulted, outcome_of}
use Rattle.td_feed.proofs.under_way.take_cut.Goals as goal

-- the answer is that of the reply
as_reply : (r : Result ℕ KeeperError) → faulted r ≡ outcome_of (cut r)
as_reply (Ok x) = refl
as_reply (Err e) = refl

pub returns-clause-quiet : goal.returns-clause-quiet
returns-clause-quiet g c =
    let view = g.D.Disk.view in
    let answers = g.L.Law.answers in
    let seen = c.args.seen in
    let old = g.E.Obey.keeping c.args.engine.now in
    let new = g.E.Obey.keeping c.cut-cut.new.self in
    let r = c.cut-cut.result in
    let comes = c.known.ensures.resting (cutting seen) (cut r) old new (cut_is_still seen) c.known.ensures.keeper c.known-2.ensures.keeper (cut_obeys view answers seen (cut r) old new c.cut-cut.ensures.cut) c.requires.whole in
    quiet_as (outcome_of (cut r)) c.answered.result (c.answered.ensures ∙ as_reply r) (quietly_comes (cutting seen) (cut r) old new comes (cut_is_quiet seen) (cut_submits_none seen) (λ none. comes.rests (cut_is_resting seen)))

pub returns-clause-rests : goal.returns-clause-rests
returns-clause-rests g c =
    let view = g.D.Disk.view in
    let answers = g.L.Law.answers in
    let seen = c.args.seen in
    let old = g.E.Obey.keeping c.args.engine.now in
    let new = g.E.Obey.keeping c.cut-cut.new.self in
    (c.known.ensures.resting (cutting seen) (cut c.cut-cut.result) old new (cut_is_still seen) c.known.ensures.keeper c.known-2.ensures.keeper (cut_obeys view answers seen (cut c.cut-cut.result) old new c.cut-cut.ensures.cut) c.requires.whole).rests (cut_is_resting seen)

pub returns-clause-held : goal.returns-clause-held
returns-clause-held g c =
    let view = g.D.Disk.view in
    let answers = g.L.Law.answers in
    let seen = c.args.seen in
    let old = g.E.Obey.keeping c.args.engine.now in
    let new = g.E.Obey.keeping c.cut-cut.new.self in
    cut_keeps seen old new (c.known.ensures.resting (cutting seen) (cut c.cut-cut.result) old new (cut_is_still seen) c.known.ensures.keeper c.known-2.ensures.keeper (cut_obeys view answers seen (cut c.cut-cut.result) old new c.cut-cut.ensures.cut) c.requires.whole).base

pub returns-clause-waits : goal.returns-clause-waits
returns-clause-waits g c =
    on_done _ c.cut-cut.result c.answered.result c.answered.ensures
    (cut_waits g.D.Disk.view g.L.Law.answers c.args.seen c.cut-cut.result (g.E.Obey.keeping c.args.engine.now) (g.E.Obey.keeping c.cut-cut.new.self) c.cut-cut.ensures.cut)

pub returns-clause-place : goal.returns-clause-place
returns-clause-place g c = λ alone done.
    on_done _ c.cut-cut.result c.answered.result c.answered.ensures
    (cut_base g.D.Disk.view g.L.Law.answers c.args.seen c.cut-cut.result (g.E.Obey.keeping c.args.engine.now) (g.E.Obey.keeping c.cut-cut.new.self) _ c.cut-cut.ensures.cut (c.cut-cut.ensures.own alone done))
