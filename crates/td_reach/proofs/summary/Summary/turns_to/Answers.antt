use Rattle.std.proofs.Common.{◌≡◌, ◌≤◌, ◌^◌, ◌++◌, ◌&&◌, length, reverse, drop, ap, sym, subst, ◌∙◌, arith}
use Rattle.std.specs.Ordering.{is_le, nat_cmp}
use Rattle.std.specs.Cmp.Lexicographic.{slice_cmp}
use Rattle.std.proofs.lemmas.Bool.{le-leb}
use Rattle.std.proofs.lemmas.List.{reverse-reverse, length-reverse}
use Rattle.td_stamp.specs.Time.{raised, counters_cmp}
use Rattle.td_reach.specs.Summaries.{Effect, apply}
use Rattle.td_reach.proofs.Small.{AreAtMost}
use Rattle.td_reach.proofs.Reversed.{counters_cmp-reverse}
use Rattle.td_reach.proofs.summary.Summary.turns_to.Goals as goal

pub wide-counters-requires : goal.wide-counters-requires
wide-counters-requires c = omega (arith, ap length c.turns.ensures, length-reverse c.args.from.now.turns, c.requires.few)

pub wide-wanted-requires : goal.wide-wanted-requires
wide-wanted-requires c = omega (arith, ap length c.turns-2.ensures, length-reverse c.args.to.now.turns, c.requires.to_few)

pub changed-turned-requires-clause-small : goal.changed-turned-requires-clause-small
changed-turned-requires-clause-small c = subst (λ xs. AreAtMost (2 ^ 65) (reverse xs)) (sym c.as_slice.ensures.value) c.wide-counters.ensures.small

pub changed-turned-requires-clause-room : goal.changed-turned-requires-clause-room
changed-turned-requires-clause-room c =
    let from : reverse c.as_slice.result.now ≡ c.args.from.now.turns = ap reverse (c.as_slice.ensures.value ∙ (c.wide-counters.ensures.same ∙ c.turns.ensures)) ∙ reverse-reverse c.args.from.now.turns in
    let fresh : reverse c.as_slice-2.result.now ≡ c.args.self.now.fresh = ap reverse c.as_slice-2.ensures.value ∙ ap (λ (e : Effect). e.fresh) c.self.view_is in
    let whole : reverse c.as_slice-2.result.now ++ raised c.self.inside.adds (drop c.self.inside.drops (reverse c.as_slice.result.now)) ≡ apply c.args.self.now c.args.from.now.turns =
    λ i. fresh i ++ raised (ap (λ (e : Effect). e.adds) c.self.view_is i) (drop (ap (λ (e : Effect). e.drops) c.self.view_is i) (from i)) in
    omega (arith, ap length whole, c.requires.deep, c.requires.to_few)

pub returns : goal.returns
returns c =
    let t = c.args.from.now in
    let u = c.args.to.now in
    let from : reverse c.as_slice.result.now ≡ t.turns = ap reverse (c.as_slice.ensures.value ∙ (c.wide-counters.ensures.same ∙ c.turns.ensures)) ∙ reverse-reverse t.turns in
    let fresh : reverse c.as_slice-2.result.now ≡ c.args.self.now.fresh = ap reverse c.as_slice-2.ensures.value ∙ ap (λ (e : Effect). e.fresh) c.self.view_is in
    let turned : reverse c.changed-turned.result.items ≡ apply c.args.self.now t.turns =
    c.changed-turned.ensures ∙ (λ i. fresh i ++ raised (ap (λ (e : Effect). e.adds) c.self.view_is i) (drop (ap (λ (e : Effect). e.drops) c.self.view_is i) (from i))) in
    let to : reverse c.wide-wanted.result.items ≡ u.turns = ap reverse (c.wide-wanted.ensures.same ∙ c.turns-2.ensures) ∙ reverse-reverse u.turns in
    let xs = c.changed-turned.result.items in
    let ys = c.wide-wanted.result.items in
    let order : c.cmp.result ≡ counters_cmp (apply c.args.self.now t.turns) u.turns =
    c.cmp.ensures ∙ ((λ i. slice_cmp nat_cmp (c.as_slice-3.ensures.value i) (c.as_slice-4.ensures.value i)) ∙ (counters_cmp-reverse xs ys ∙ (λ i. counters_cmp (turned i) (to i)))) in
    let epoch : t.epoch ≤ u.epoch = omega (arith, c.if-epoch.false, c.epoch.ensures, c.epoch-2.ensures) in
    c.is_le.ensures ∙ (ap is_le order ∙ sym (ap (λ b. b && is_le (counters_cmp (apply c.args.self.now t.turns) u.turns)) (le-leb t.epoch u.epoch epoch)))
