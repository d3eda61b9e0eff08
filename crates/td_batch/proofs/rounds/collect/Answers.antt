use Rattle.std.proofs.Common.{◌≡◌, ℕ, ◌==◌, ◌+◌, ◌++◌, List, Bool, true, false, length, ap, sym, ◌∙◌, []}
use Rattle.std.proofs.lemmas.List.{get_or_read}
use Rattle.std.specs.List.{list_any}
use Rattle.td_batch.specs.Meaning.{Bags, emitted}
use Rattle.td_batch.specs.Steps.Tree.{nodes_of, reads}
use Rattle.td_batch.proofs.Loops.{put_so_far, put_later}
use Rattle.td_batch.proofs.rounds.collect.Goals as goal
use Rattle.td_batch.proofs.rounds.collect.Goals.{then-is_needed+in_ok-append_at, else-is_needed}

pub loop-place-preserved : goal.loop-place-preserved
loop-place-preserved c =
    let want : List ℕ = reads c.args.is_first (nodes_of c.args.rest.now) ++ c.args.need.now in
    let asked : ℕ → Bool = λ i. list_any (λ s. s == c.args.first + i) want in
    let orig : Bags = c.args.collected.now.items in
    let made : Bags = c.args.made.now in
    let old : Bags = c.loop-place.collected.items in
    let now : Bags = c.if-is_needed.collected.items in
    let place = c.loop-place.place in
    let so_far = c.loop-place.invariant in
    elim c.if-is_needed.branch [
      | then-is_needed+in_ok-append_at w ↦
          let is : now ≡ w.append_at.new.collected.items = ap (λ v. v.items) w.collected-is in
          let others : (i : ℕ) → (i ≡ place → ⊥) → emitted now i ≡ emitted old i = λ i o. ap (λ (bs : Bags). emitted bs i) is ∙ w.in_ok-append_at.ensures.others i o in
          let put : emitted now place ≡ emitted old place ++ emitted made place =
          ap (λ (bs : Bags). emitted bs place) is ∙ w.in_ok-append_at.ensures.put ∙ ap (λ b. emitted old place ++ b) (get_or_read made place c.index-made-place.result c.loop-place-test.true c.index-made-place.is []) in (
            ap (λ (bs : Bags). length bs) is ∙ w.in_ok-append_at.ensures.length ∙ so_far.0,
            put_so_far asked orig made old now place so_far.1 so_far.2 others (λ e. put),
            put_later asked orig made old now place so_far.1 so_far.2 others,
          )
      | else-is_needed w ↦
          let is : now ≡ old = ap (λ v. v.items) w.collected-is in
          let others : (i : ℕ) → (i ≡ place → ⊥) → emitted now i ≡ emitted old i = λ i o. ap (λ (bs : Bags). emitted bs i) is in (
            ap (λ (bs : Bags). length bs) is ∙ so_far.0,
            put_so_far asked orig made old now place so_far.1 so_far.2 others (λ e. (let f : true ≡ false = sym e ∙ sym c.is_needed.ensures ∙ w.if-is_needed.false in absurd (cc))),
            put_later asked orig made old now place so_far.1 so_far.2 others,
          )
    ]
