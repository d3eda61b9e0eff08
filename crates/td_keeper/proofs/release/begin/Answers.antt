use Rattle.std.proofs.Common.{◌≡◌, ◌+◌, ◌<◌, [], length, refl, sym, ap, ◌∙◌, subst, true≢false, arith}
use Rattle.std.proofs.lemmas.List.{length-map, length-drop, length-append, get_or_read}
use Rattle.td_store.specs.standing.Standing.{batches_of}
use Rattle.td_keeper.proofs.Beginning.{Found, none_found, found_more, all_found, stands, there}
use Rattle.td_keeper.proofs.release.begin.Goals as goal

pub loop-at-init : goal.loop-at-init
loop-at-init c = none_found c.args.batches.now.items (batches_of c.args.submitted.now.items) c.args.past

pub loop-at-preserved : goal.loop-at-preserved
loop-at-preserved c =
    let some = c.args.batches.now in
    let all = c.args.submitted.now in
    let at = c.loop-at.at in
    let many = length-map all.items (λ s. s.batch) in
    let here : at < length some.items = omega (arith, c.loop-at-test.true, c.len-at-end.ensures, some.ok.0) in
    let place : c.args.past + at < length all.items = omega (arith, here, c.if-len-past.false, c.len.ensures, c.len-2.ensures, some.ok.0, all.ok.0, c.requires) in
    found_more some.items (batches_of all.items) c.args.past at here (omega (arith, place, many))
    (there all.items (c.args.past + at) c.index.result.now place c.index.ensures ∙ (c.eq-same.ensures.same.0 c.if-not-same.false ∙ get_or_read some.items at c.index-in-loop-at.result.now here c.index-in-loop-at.ensures []))
    c.loop-at.invariant

pub returns-then-not-same : goal.returns-then-not-same
returns-then-not-same c =
    let some = c.args.batches.now in
    let all = c.args.submitted.now in
    let at = c.loop-at.at in
    let here : at < length some.items = omega (arith, c.loop-at-test.true, c.len-at-end.ensures, some.ok.0) in
    let place : c.args.past + at < length all.items = omega (arith, here, c.if-len-past.false, c.len.ensures, c.len-2.ensures, some.ok.0, all.ok.0, c.requires) in (
      λ f. absurd (true≢false (sym f)),
      λ begins. absurd (true≢false (sym (c.eq-same.ensures.same.1 (sym (there all.items (c.args.past + at) c.index.result.now place c.index.ensures)
          ∙ ((stands some.items (batches_of all.items) c.args.past at here begins).1 ∙ sym (get_or_read some.items at c.index-in-loop-at.result.now here c.index-in-loop-at.ensures [])))) ∙ c.if-not-same.true)),
    )

pub returns : goal.returns
returns c =
    let some = c.args.batches.now in
    let all = c.args.submitted.now in
    let end : c.loop-at.at ≡ length some.items = omega (arith, c.loop-at-test.false, c.loop-at.auto.at-end, c.len-at-end.ensures, some.ok.0) in
    (λ t. all_found some.items (batches_of all.items) c.args.past (subst (Found some.items (batches_of all.items) c.args.past) end c.loop-at.invariant), λ b. refl)

pub returns-then-len-past : goal.returns-then-len-past
returns-then-len-past c =
    let some = c.args.batches.now in
    let all = c.args.submitted.now in
    let many = length-map all.items (λ s. s.batch) in
    let left = length-drop c.args.past (batches_of all.items) in (
      λ f. absurd (true≢false (sym f)),
      λ begins.
          let parts = ap length begins.1 ∙ length-append some.items begins.0 in
          absurd (omega (arith, parts, left, many, c.if-len-past.true, c.len.ensures, c.len-2.ensures, some.ok.0, all.ok.0, c.requires)),
    )
