use Rattle.std.proofs.Common.{arith, ◌≡◌, ◌+◌, drop, length, ap, sym, ◌∙◌, subst, length-drop}
use Rattle.std.proofs.lemmas.List.{length-map}
use Rattle.td_shard.specs.Runs.{part, InOrder, BeginsAt}
use Rattle.td_shard.proofs.Ordered.{order-rest}
use Rattle.td_shard.proofs.runs.Runs.pop.Goals as goal

pub trim-requires : goal.trim-requires
trim-requires c =
    let m = c.self.inside in
    let rows : length m.recs.items ≡ m.recs.len = let ok = m.recs.ok.0 in omega (arith, ok) in
    subst (λ l. InOrder m.start l (m.start + m.recs.len)) (sym c.pop_front.ensures.rest) (subst (λ n. InOrder m.start (drop 1 m.runs.items) (m.start + n)) rows (order-rest m.start (m.start + length m.recs.items) m.runs.items c.self.invariant.ordered))

pub invariant_of-self : goal.invariant_of-self
invariant_of-self c =
    let was = c.self.invariant in
    let m = c.self.inside in
    let runs = c.pop_front.new.self in
    let now = c.trim.ensures in
    let rows = c.trim.new.recs in
    let fewer = ap length c.pop_front.ensures.rest ∙ length-drop 1 m.runs.items in
    let some = ap (λ v. length v.parts) c.self.view_is in
    record {
      ordered = subst (λ n. InOrder c.trim.new.start runs.items (c.trim.new.start + n)) rows.ok.0 now.ordered;
      begins = subst (λ n. BeginsAt c.trim.new.start n runs.items) rows.ok.0 now.begins;
      runs_kept = omega (arith, was.runs_kept, fewer, runs.ok.0, m.runs.ok.0, c.pop_front.ensures.capacity);
      recs_kept = omega (arith, was.recs_kept, now.fewer, now.capacity);
      numbers = omega (arith, was.numbers, fewer, some, length-map m.runs.items (part m.start m.recs.items), c.requires, runs.ok.0, m.runs.ok.0);
      rec_numbers = omega (arith, was.rec_numbers, now.numbers);
    }
