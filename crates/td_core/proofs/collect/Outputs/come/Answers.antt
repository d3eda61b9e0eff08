use Rattle.std.proofs.Common.{◌∙◌, ◌++◌, map, ap}
use Rattle.std.specs.BTreeMap.{insert_entry}
use Rattle.std.specs.Ordering.{nat_cmp}
use Rattle.std.proofs.lemmas.Result.{on_ok_weaker, on_err_weaker}
use Rattle.td_stamp.specs.Bag.{join}
use Rattle.td_machine.specs.State.{output_at_cmp}
use Rattle.td_core.specs.Came.{output_of, output_at, at_epoch, came}
use Rattle.td_core.proofs.CameLists.{grown, as_before, put_in, each_at}
use Rattle.td_core.proofs.collect.Outputs.come.Goals as goal

pub returns-in-Some-clause-ok : goal.returns-in-Some-clause-ok
returns-in-Some-clause-ok c =
    let es = c.self.inside.epochs.entries in
    let new = c.push_outputs.new.outputs in
    on_ok_weaker c.push_outputs.result
    (λ h. ap (came (λ v. v.items)) (c.get_mut.follows.holds new).0
    ∙ (grown c.bags_of_states.ensures.outputs (λ v. v.items) c.args.epoch es c.in-Some.outputs.now new (map (output_of c.args.vertex) c.args.recs.now) c.in-Some.ensures.value h
    ∙ (ap (λ l. join output_at_cmp l (came (λ v. v.items) es)) (each_at c.args.epoch c.args.vertex c.args.recs.now) ∙ ap (join output_at_cmp (map (output_at c.args.epoch c.args.vertex) c.args.recs.now)) c.self.view_is)))
    c.push_outputs.ensures.ok

pub returns-in-Some-clause-err : goal.returns-in-Some-clause-err
returns-in-Some-clause-err c =
    let es = c.self.inside.epochs.entries in
    let new = c.push_outputs.new.outputs in
    on_err_weaker c.push_outputs.result
    (λ h. ap (came (λ v. v.items)) (c.get_mut.follows.holds new).0
    ∙ (as_before c.bags_of_states.ensures.outputs (λ v. v.items) c.args.epoch es c.in-Some.outputs.now new c.in-Some.ensures.value h ∙ c.self.view_is))
    c.push_outputs.ensures.err

pub returns-in_ok-insert-in-None-clause-ok : goal.returns-in_ok-insert-in-None-clause-ok
returns-in_ok-insert-in-None-clause-ok c =
    let es = c.self.inside.epochs.entries in
    let items = c.push_outputs-in-None.new.outputs in
    ap (came (λ v. v.items)) (c.in_ok-insert-in-None.ensures.entries ∙ ap (λ m. insert_entry nat_cmp m.entries c.args.epoch items) c.get_mut.follows.holds-at-none)
    ∙ (put_in c.bags_of_states.ensures.outputs (λ v. v.items) c.args.epoch es items c.in-None.ensures.value
    ∙ (ap (λ l. join output_at_cmp (map (at_epoch c.args.epoch) l) (came (λ v. v.items) es)) (c.in_ok-push_outputs-in-None.ensures.ok ∙ ap (λ l. l ++ map (output_of c.args.vertex) c.args.recs.now) c.new-outputs.ensures.items)
    ∙ (ap (λ l. join output_at_cmp l (came (λ v. v.items) es)) (each_at c.args.epoch c.args.vertex c.args.recs.now) ∙ ap (join output_at_cmp (map (output_at c.args.epoch c.args.vertex) c.args.recs.now)) c.self.view_is)))
