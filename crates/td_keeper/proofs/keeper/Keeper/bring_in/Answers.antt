use Rattle.std.proofs.Common.{◌≡◌, ◌+◌, ◌++◌, length, sym, ap, ◌∙◌, subst, arith}
use Rattle.td_watch.specs.Words.{KeepsOrder}
use Rattle.td_machine.specs.State.{HallState}
use Rattle.td_machine.specs.Steps.{collect_step}
use Rattle.td_machine.specs.Sound.{outs_by}
use Rattle.td_store.specs.standing.Standing.{standing_from}
use Rattle.td_keeper.specs.Keeping.{Keeping, IsKeeping, keeping_of, words_at, published}
use Rattle.td_keeper.specs.Halls.{with_collected}
use Rattle.td_keeper.proofs.Collecting.{still, as_many, room, fits, meant_by}
use Rattle.td_keeper.proofs.Kept.{in_order}
use Rattle.td_keeper.proofs.keeper.Keeper.bring_in.Goals as goal

pub append-requires : goal.append-requires
append-requires g c =
    let keeping = subst (λ (q : Keeping g.row.D.Denot). IsKeeping q g.L.Law.answers) c.self.view_is c.self.invariant.1 in
    let few = room g.L.Law.answers c.run_joins.ensures.states c.run_joins.ensures.outs c.args.self.now keeping (g.H.AnyHall.state c.args.hall.now) c.requires c.each_is_sound.ensures.sound c.in-Ok.outs.items (g.H.AnyHall.state c.collect_outputs.new.self) c.in-Ok.ensures.ok in
    omega (arith, few, c.in_ok-reserve.ensures.ok, c.len.ensures, c.inputs.result.now.ok.0, ap length c.inputs.ensures, ap (λ (S : HallState). length S.batches) c.hall.ensures)

pub overflow_add-self : goal.overflow_add-self
overflow_add-self g c =
    let keeping = subst (λ (q : Keeping g.row.D.Denot). IsKeeping q g.L.Law.answers) c.self.view_is c.self.invariant.1 in
    let few = fits g.L.Law.answers c.run_joins.ensures.states c.run_joins.ensures.outs c.args.self.now keeping (g.H.AnyHall.state c.args.hall.now) c.requires c.each_is_sound.ensures.sound c.in-Ok.outs.items (g.H.AnyHall.state c.collect_outputs.new.self) c.in-Ok.ensures.ok in
    let same = ap (λ (q : Keeping g.row.D.Denot). q.collected) c.self.view_is in
    omega (arith, few, same, c.len-count.ensures, c.in-Ok.outs.ok.0, c.self.ranges)

pub returns-clause-meaning : goal.returns-clause-meaning
returns-clause-meaning g c =
    let keeping = subst (λ (q : Keeping g.row.D.Denot). IsKeeping q g.L.Law.answers) c.self.view_is c.self.invariant.1 in
    meant_by g.L.Law.answers c.run_joins.ensures.states c.run_joins.ensures.outs c.args.self.now keeping (g.H.AnyHall.state c.args.hall.now) c.requires c.each_is_sound.ensures.sound c.in-Ok.outs.items (g.H.AnyHall.state c.collect_outputs.new.self) c.in-Ok.ensures.ok c.len-count.result (c.len-count.ensures ∙ c.in-Ok.outs.ok.0)

pub publish-requires-clause-ordered : goal.publish-requires-clause-ordered
publish-requires-clause-ordered g c =
    let k = c.args.self.now in
    let S = (g.H.AnyHall.state c.args.hall.now) in
    let keeping = subst (λ (q : Keeping g.row.D.Denot). IsKeeping q g.L.Law.answers) c.self.view_is c.self.invariant.1 in
    let right = still g.L.Law.answers c.run_joins.ensures.states c.run_joins.ensures.outs k keeping S c.requires c.each_is_sound.ensures.sound in
    let many = as_many g.L.Law.answers c.run_joins.ensures.states c.run_joins.ensures.outs k keeping S c.requires c.each_is_sound.ensures.sound c.in-Ok.outs.items (g.H.AnyHall.state c.collect_outputs.new.self) c.in-Ok.ensures.ok in
    let same = ap (λ (q : Keeping g.row.D.Denot). q.collected) c.self.view_is in
    let count : c.self.inside.collected + c.len-count.result ≡ (collect_step S).1.collected = omega (arith, many, same, c.requires.collected, c.len-count.ensures, c.in-Ok.outs.ok.0) in
    let standing = ap (λ (q : Keeping g.row.D.Denot). q.standing) c.self.view_is in
    subst KeepsOrder (sym (c.words_at-words.ensures ∙ (λ i. words_at (standing i) (count i)))) (in_order g.L.Law.answers (with_collected k S) right)

pub invariant_of-self-2 : goal.invariant_of-self-2
invariant_of-self-2 g c =
    let k = c.args.self.now in
    let S = (g.H.AnyHall.state c.args.hall.now) in
    let inside = c.self.inside in
    let keeping = subst (λ (q : Keeping g.row.D.Denot). IsKeeping q g.L.Law.answers) c.self.view_is c.self.invariant.1 in
    let right = still g.L.Law.answers c.run_joins.ensures.states c.run_joins.ensures.outs k keeping S c.requires c.each_is_sound.ensures.sound in
    let many = as_many g.L.Law.answers c.run_joins.ensures.states c.run_joins.ensures.outs k keeping S c.requires c.each_is_sound.ensures.sound c.in-Ok.outs.items (g.H.AnyHall.state c.collect_outputs.new.self) c.in-Ok.ensures.ok in
    let same = ap (λ (q : Keeping g.row.D.Denot). q.collected) c.self.view_is in
    let count : inside.collected + c.len-count.result ≡ (collect_step S).1.collected = omega (arith, many, same, c.requires.collected, c.len-count.ensures, c.in-Ok.outs.ok.0) in
    let outs : c.append.new.queue.items ≡ inside.queue.items ++ outs_by (collect_step S).0 =
    c.append.ensures ∙ ((λ i. c.reserve.ensures.items i ++ c.in-Ok.outs.items) ∙ ap (λ p. inside.queue.items ++ outs_by p.0) (sym c.in-Ok.ensures.ok)) in
    let s = standing_from inside.checkpoint inside.submitted.items in
    let watch : c.publish.new.watch ≡ published inside.watch (words_at s (collect_step S).1.collected) =
    c.publish.ensures ∙ ap (published inside.watch) (c.words_at-words.ensures ∙ ap (words_at s) count) in
    let now : keeping_of inside.device inside.plan inside.head inside.checkpoint inside.submitted.items inside.broken inside.taken (inside.collected + c.len-count.result) c.append.new.queue.items c.publish.new.watch ≡ with_collected k S =
    (λ i. keeping_of inside.device inside.plan inside.head inside.checkpoint inside.submitted.items inside.broken inside.taken (count i) (outs i) (watch i))
    ∙ ap (λ (q : Keeping g.row.D.Denot). with_collected q S) c.self.view_is in
    (c.self.invariant.0, subst (λ (q : Keeping g.row.D.Denot). IsKeeping q g.L.Law.answers) (sym now) right, c.self.invariant.2, c.self.invariant.3, c.self.invariant.4)
