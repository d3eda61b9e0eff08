use Rattle.std.proofs.Common.{◌≡◌, ap, ◌∙◌}
use Rattle.std.specs.Ordering.{is_le, nat_cmp, ordering_then}
use Rattle.std.specs.Cmp.Lexicographic.{slice_cmp}
use Rattle.td_stamp.specs.Time.{counters_cmp}
use Rattle.td_reach.specs.Summaries.{Effect}
use Rattle.td_reach.proofs.Reversed.{counters_cmp-reverse}
use Rattle.td_reach.proofs.summary.Summary.is_first.Goals as goal

pub returns : goal.returns
returns c =
    let s = c.self.inside in
    let t = c.other.inside in
    let drops : c.cmp-drops.result ≡ nat_cmp c.args.self.now.drops c.args.other.now.drops = c.cmp-drops.ensures ∙ (λ i. nat_cmp (ap (λ (e : Effect). e.drops) c.self.view_is i) (ap (λ (e : Effect). e.drops) c.other.view_is i)) in
    let adds : c.cmp-adds.result ≡ nat_cmp c.args.self.now.adds c.args.other.now.adds = c.cmp-adds.ensures ∙ (λ i. nat_cmp (ap (λ (e : Effect). e.adds) c.self.view_is i) (ap (λ (e : Effect). e.adds) c.other.view_is i)) in
    let counters : c.cmp-counters.result ≡ counters_cmp c.args.self.now.fresh c.args.other.now.fresh =
    c.cmp-counters.ensures ∙ ((λ i. slice_cmp nat_cmp (c.as_slice.ensures.value i) (c.as_slice-2.ensures.value i))
    ∙ (counters_cmp-reverse s.fresh.items t.fresh.items ∙ (λ i. counters_cmp (ap (λ (e : Effect). e.fresh) c.self.view_is i) (ap (λ (e : Effect). e.fresh) c.other.view_is i)))) in
    let rest : c.then.result ≡ ordering_then (nat_cmp c.args.self.now.adds c.args.other.now.adds) (counters_cmp c.args.self.now.fresh c.args.other.now.fresh) = c.then.ensures ∙ (λ i. ordering_then (adds i) (counters i)) in
    c.is_le.ensures ∙ ap is_le (c.then-2.ensures ∙ (λ i. ordering_then (drops i) (rest i)))
