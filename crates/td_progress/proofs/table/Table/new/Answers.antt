use Rattle.std.proofs.Common.{◌≡◌, ◌+◌, ◌<◌, ◌≤◌, ◌∷◌, [], List, map, take, length, ℕ, ap, ◌∙◌, arith, slice_index_or}
use Rattle.std.proofs.lemmas.List.{length-take-le, length-map, map-append, take_more, take_all}
use Rattle.td_stamp.specs.Time.{Timestamp}
use Rattle.td_reach.specs.declared.stamp.Stamp.{Stamp}
use Rattle.td_reach.specs.declared.stamp.Place.TheVariants as places
use Rattle.td_progress.specs.Bag.{occurrences, input_stamp}
use Rattle.td_progress.proofs.Counted.{occurrences-cons, occurrences-append, occurrences-le}
use Rattle.td_progress.proofs.table.Table.new.Goals as goal

-- an input's pointstamp more, at the end or at the front
one_more : (p : Stamp) (first : ℕ) (inputs : List ℕ) (i : ℕ) → i < length inputs → (stamps : List Stamp)
    → occurrences p stamps ≡ occurrences p (map (input_stamp first) (take i inputs))
    → occurrences p (input_stamp first (slice_index_or inputs i 0) ∷ stamps) ≡ occurrences p (map (input_stamp first) (take (i + 1) inputs))
one_more p first inputs i within stamps so_far =
    let x = slice_index_or inputs i 0 in
    let before = map (input_stamp first) (take i inputs) in
    let front = occurrences-cons p (input_stamp first x) stamps in
    let back = occurrences-append p before (input_stamp first x ∷ []) in
    let one = occurrences-cons p (input_stamp first x) [] in
    let listed = ap (occurrences p) (ap (map (input_stamp first)) (take_more inputs i 0 within) ∙ map-append (input_stamp first) (take i inputs) (x ∷ [])) in
    omega (arith, so_far, front, back, one, listed)

few : (p : Stamp) (first : ℕ) (inputs : List ℕ) (i : ℕ) → i ≤ length inputs → (stamps : List Stamp)
    → occurrences p stamps ≡ occurrences p (map (input_stamp first) (take i inputs)) → occurrences p stamps ≤ i
few p first inputs i within stamps so_far =
    let most = occurrences-le p (map (input_stamp first) (take i inputs)) in
    let count = length-map (take i inputs) (input_stamp first) ∙ length-take-le i inputs within in
    omega (arith, so_far, most, count)

pub add-requires-clause-fits : goal.add-requires-clause-fits
add-requires-clause-fits c =
    let s : Stamp = record { time = c.new-in-loop-input.result; place = places.Vertex (slice_index_or c.args.inputs.now c.loop-input.input-index 0) } in
    let most = few s c.args.first c.args.inputs.now c.loop-input.input-index c.loop-input.auto.input-index-end c.loop-input.table.stamps (c.loop-input.invariant.stamps s) in
    omega (arith, most)

pub loop-input-init : goal.loop-input-init
loop-input-init c = record {
  plan = c.in_ok-ways.ensures;
  stamps = λ p. ap (occurrences p) c.in_ok-held.ensures.none;
}

pub loop-input-preserved : goal.loop-input-preserved
loop-input-preserved c =
    let x = slice_index_or c.args.inputs.now c.loop-input.input-index 0 in
    let at : Timestamp → Stamp = λ t. record { time = t; place = places.Vertex x } in
    record {
      plan = c.in_ok-add.ensures.plan ∙ c.loop-input.invariant.plan;
      stamps = λ p.
          c.in_ok-add.ensures.ok p
          ∙ ap (λ t. occurrences p (at t ∷ c.loop-input.table.stamps)) c.new-in-loop-input.ensures
          ∙ one_more p c.args.first c.args.inputs.now c.loop-input.input-index c.loop-input-test.true c.loop-input.table.stamps (c.loop-input.invariant.stamps p);
    }

pub returns-clause-inputs : goal.returns-clause-inputs
returns-clause-inputs c p =
    c.loop-input.invariant.stamps p
    ∙ ap (λ xs. occurrences p (map (input_stamp c.args.first) xs)) (take_all c.loop-input.input-index c.args.inputs.now c.loop-input-test.false)
