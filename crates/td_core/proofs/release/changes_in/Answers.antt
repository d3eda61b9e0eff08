use Rattle.std.proofs.Common.{◌≡◌, ◌+◌, ◌++◌, [], ◌∷◌, flat_map, length, map, take, ap, sym, ◌∙◌, append_assoc}
use Rattle.td_progress.specs.Bag.{input_stamp}
use Rattle.td_core.specs.declared.post.Change.{Change}
use Rattle.td_core.specs.Posted.{stamp_on_outlet}
use Rattle.td_core.specs.Released.{load_of, changes_of, start_of}
use Rattle.td_core.specs.Routes.{outlets_in}
use Rattle.td_core.proofs.Loads.{one_more_of}
use Rattle.td_core.proofs.release.changes_in.Goals as goal

pub loop-load-preserved : goal.loop-load-preserved
loop-load-preserved c =
    let routes = c.args.routes.now in
    let load = c.load-item.result in
    let changes = changes_of routes c.args.epoch in
    let before = flat_map changes (map load_of (take c.loop-load.load-index c.args.loads.now)) in
    let last : Change = record { stamp = input_stamp (c.args.epoch + 1) load.input; times = 1 } in
    let on_edges = map (λ o. record { stamp = stamp_on_outlet (start_of c.args.epoch) o; times = length load.recs.items }) (outlets_in routes load.input) in
    let many = c.len.ensures ∙ load.recs.ok.0 in
    let more : c.in_ok-more.more.items ≡ on_edges =
    c.in_ok-more.ensures.changes ∙ (λ j. map (λ o. record { stamp = stamp_on_outlet (c.new-time.ensures j) o; times = many j }) (c.outlets-outlets.ensures j)) in
    c.in_ok-push.ensures.items ∙ ((λ j. (c.in_ok-append.ensures.items ∙ (λ k. c.loop-load.invariant k ++ more k)) j ++ c.change_of_input.ensures j ∷ [])
    ∙ (append_assoc before on_edges (last ∷ []) ∙ sym (one_more_of changes load_of c.args.loads.now c.loop-load.load-index load c.loop-load-test.true ∙ ap (λ l. before ++ changes (load_of l)) (sym c.load-item.is))))
