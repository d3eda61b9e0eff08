use Rattle.std.proofs.Common.{arith, ◌≡◌, ◌+◌, ◌-◌, ◌<◌, ℕ, suc, List, map, length, get_or, set, refl, ap, ◌∙◌, length-append}
use Rattle.std.proofs.lemmas.List.{length-map}
use Rattle.std.specs.VecDeque.{deque_len}
use Rattle.td_shard.specs.declared.runs.Numbered.{Numbered}
use Rattle.td_shard.specs.declared.runs.Run.{Run}
use Rattle.td_shard.specs.declared.runs.Runs.TheInside.{Inside}
use Rattle.td_shard.specs.KeptRuns.{IsRuns}
use Rattle.td_shard.specs.Runs.{Parts, numbered, part, changed_at, with_more}
use Rattle.td_shard.proofs.InOneList.{length-numbered}
use Rattle.td_shard.proofs.Ordered.{order-grow, grown}
use Rattle.td_shard.proofs.Trimmed.{begins-set}
use Rattle.td_shard.proofs.Placed.{At, placed, viewed, as_posted}
use Rattle.td_shard.proofs.runs.Runs.extend_last.Goals as goal

-- the last run, whose records are the last
record IsLast (m : Inside) (v : Parts) (i : ℕ) (r : Run) : Type 0 where
  at : At m v i r
  last : suc i ≡ length m.runs.items
  end : r.end ≡ m.start + length m.recs.items

is_last : (m : Inside) (v : Parts) (n many : ℕ) (r : Run) → IsRuns m → viewed m ≡ v → 0 < deque_len m.runs → n ≡ deque_len m.runs → many ≡ deque_len m.recs → r ≡ get_or m.runs.items (n - 1) r
    → ((d : Run) → (get_or m.runs.items (deque_len m.runs - 1) d).end ≡ m.start + many) → IsLast m v (n - 1) r
is_last m v n many r kept seen some is rows at end =
    let last : suc (n - 1) ≡ length m.runs.items = omega (arith, some, is, m.runs.ok.0) in
    record {
      at = placed m v (n - 1) r kept seen (omega (arith, last, ap (λ (w : Parts). length w.parts) seen, length-map m.runs.items (part m.start m.recs.items))) at;
      last = last;
      end = ap (λ (x : Run). x.end) at ∙ (ap (λ k. (get_or m.runs.items (k - 1) r).end) is ∙ (end r ∙ ap (λ k. m.start + k) (rows ∙ m.recs.ok.0)));
    }

pub invariant_of-self : goal.invariant_of-self
invariant_of-self c =
    let was = c.self.invariant in
    let m = c.self.inside in
    let r = c.index_mut-run.result.now in
    let rows = c.push_rows.new.rows in
    let its = is_last m c.args.self.now c.len-last.result c.len.result r c.self.invariant c.self.view_is (c.ends_on.ensures.some c.if-not-ends_on.false) c.len-last.ensures c.len.ensures c.index_mut-run.ensures.value (c.ends_on.ensures.end c.if-not-ends_on.false) in
    let longer : length rows.items ≡ length m.recs.items + length c.args.recs.now = ap length c.push_rows.ensures.items ∙ (length-append m.recs.items (numbered c.args.number c.args.recs.now) ∙ ap (λ n. length m.recs.items + n) (length-numbered c.args.number c.args.recs.now)) in
    record {
      ordered = order-grow m.start (m.start + length m.recs.items) (m.start + length rows.items) m.runs.items (c.len-last.result - 1) r (record r { end = m.start + c.len.result + length c.args.recs.now }) r its.last c.index_mut-run.ensures.value refl
          (omega (arith, its.at.where_it.some, its.end, c.len.ensures, m.recs.ok.0)) (omega (arith, longer, c.len.ensures, m.recs.ok.0)) was.ordered;
      begins = begins-set m.start (length m.recs.items) (length rows.items) m.runs.items (c.len-last.result - 1) r (record r { end = m.start + c.len.result + length c.args.recs.now }) r its.at.within c.index_mut-run.ensures.value refl was.begins;
      runs_kept = omega (arith, was.runs_kept, c.requires.runs, ap (λ (v : Parts). v.runs) c.self.view_is);
      recs_kept = omega (arith, was.recs_kept, longer, rows.ok.0, m.recs.ok.0, c.push_rows.ensures.capacity, c.requires.room, ap (λ (v : Parts). v.room) c.self.view_is);
      numbers = omega (arith, was.numbers, c.requires.runs, ap (λ (v : Parts). v.runs) c.self.view_is);
      rec_numbers = omega (arith, was.rec_numbers, longer, rows.ok.0, m.recs.ok.0, c.requires.room, ap (λ (v : Parts). v.room) c.self.view_is);
    }

pub returns-clause-extended : goal.returns-clause-extended
returns-clause-extended c t =
    let m = c.self.inside in
    let r = c.index_mut-run.result.now in
    let i = c.len-last.result - 1 in
    let new = numbered c.args.number c.args.recs.now in
    let e = m.start + c.len.result + length c.args.recs.now in
    let its = is_last m c.args.self.now c.len-last.result c.len.result r c.self.invariant c.self.view_is (c.ends_on.ensures.some c.if-not-ends_on.false) c.len-last.ensures c.len.ensures c.index_mut-run.ensures.value (c.ends_on.ensures.end c.if-not-ends_on.false) in
    let old = map (part m.start m.recs.items) m.runs.items in
    let place : i ≡ length old - 1 = omega (arith, its.last, length-map m.runs.items (part m.start m.recs.items)) in
    as_posted (viewed m) c.args.self.now (length c.args.recs.now) (λ l. changed_at (with_more new) (length l - 1) l) _ c.self.view_is
    (ap (λ (l : List Numbered). map (part m.start l) (set m.runs.items i (record r { end = e }))) c.push_rows.ensures.items
    ∙ (grown m.start m.runs.items m.recs.items new i e r r c.self.invariant.ordered its.last c.index_mut-run.ensures.value its.at.where_it.low its.at.where_it.some its.end (omega (arith, its.end, c.len.ensures, m.recs.ok.0, length-numbered c.args.number c.args.recs.now))
    ∙ ap (λ j. changed_at (with_more new) j old) place))
