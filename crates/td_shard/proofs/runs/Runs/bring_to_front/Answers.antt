use Rattle.std.proofs.Common.{arith, suc, ◌≡◌, ◌+◌, ◌-◌, List, drop, length, sym, ap, ◌∙◌, subst}
use Rattle.td_shard.specs.declared.runs.Numbered.{Numbered}
use Rattle.td_shard.specs.Runs.{InOrder, BeginsAt, changed_at, with_first}
use Rattle.td_shard.proofs.Ordered.{Brought, is_brought, moved_within}
use Rattle.td_shard.proofs.Placed.{placed, enough, viewed, as_changed}
use Rattle.td_shard.proofs.runs.Runs.bring_to_front.Goals as goal

pub overflow_sub-to : goal.overflow_sub-to
overflow_sub-to c =
    let at = placed c.self.inside c.args.self.now c.args.place c.index.result.now c.self.invariant c.self.view_is c.requires.place c.index.ensures in
    at.where_it.low

pub move_down-requires : goal.move_down-requires
move_down-requires c =
    let at = placed c.self.inside c.args.self.now c.args.place c.index.result.now c.self.invariant c.self.view_is c.requires.place c.index.ensures in
    let there = enough c.self.inside c.args.self.now c.args.place (suc c.args.offset) c.index.result.now at (λ d. omega (arith, c.requires.offset d)) in
    omega (arith, there, at.fits, at.where_it.low, at.where_it.some)

its : (c : goal.After-move_down) → let r = c.index.result.now in Brought (r.at - c.self.inside.start) (r.end - r.at) c.args.offset c.self.inside.recs.items c.move_down.new.rows.items
its c =
    let at = placed c.self.inside c.args.self.now c.args.place c.index.result.now c.self.invariant c.self.view_is c.requires.place c.index.ensures in
    let there = enough c.self.inside c.args.self.now c.args.place (suc c.args.offset) c.index.result.now at (λ d. omega (arith, c.requires.offset d)) in
    let r = c.index.result.now in
    let s = c.self.inside.start in
    is_brought (r.at - s) (r.end - r.at) c.args.offset c.self.inside.recs.items c.move_down.new.rows.items there (omega (arith, at.where_it.low, at.where_it.some, at.where_it.high)) c.move_down.ensures.items

pub invariant_of-self : goal.invariant_of-self
invariant_of-self c =
    let was = c.self.invariant in
    let m = c.self.inside in
    let now = c.move_down.new.rows in
    record {
      ordered = subst (λ n. InOrder m.start m.runs.items (m.start + n)) (sym (its c).size) was.ordered;
      begins = subst (λ n. BeginsAt m.start n m.runs.items) (sym (its c).size) was.begins;
      runs_kept = was.runs_kept;
      recs_kept = omega (arith, was.recs_kept, (its c).size, now.ok.0, m.recs.ok.0, c.move_down.ensures.capacity);
      numbers = was.numbers;
      rec_numbers = omega (arith, was.rec_numbers, (its c).size, now.ok.0, m.recs.ok.0);
    }

pub returns : goal.returns
returns c =
    let at = placed c.self.inside c.args.self.now c.args.place c.index.result.now c.self.invariant c.self.view_is c.requires.place c.index.ensures in
    let m = c.self.inside in
    let r = c.index.result.now in
    let s = m.start in
    let old = m.recs.items in
    let new = c.move_down.new.rows.items in
    let end : r.end - s ≡ r.at - s + (r.end - r.at) = omega (arith, at.where_it.low, at.where_it.some) in
    as_changed (viewed m) c.args.self.now (changed_at (with_first c.args.offset) c.args.place) _ c.self.view_is
    (moved_within s s (s + length old) c.args.place (with_first c.args.offset) m.runs.items old new r r (omega arith) at.within c.index.ensures c.self.invariant.ordered
    (its c).front (ap (λ n. drop n new) end ∙ ((its c).back ∙ ap (λ n. drop n old) (sym end)))
    (ap (λ (l : List Numbered). record { lane = r.lane; base = r.base; ahead = r.ahead; recs = l }) (its c).mid))
