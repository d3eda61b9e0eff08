use Rattle.std.proofs.Common.{arith, ◌≡◌, ◌+◌, ◌++◌, ◌∷◌, [], List, map, length, sym, ap, ◌∙◌, subst, length-append}
use Rattle.td_shard.specs.declared.runs.Numbered.{Numbered}
use Rattle.td_shard.specs.declared.runs.Run.{Run}
use Rattle.td_shard.specs.Runs.{numbered, part, InOrder, BeginsAt}
use Rattle.td_shard.proofs.InOneList.{length-numbered}
use Rattle.td_shard.proofs.Ordered.{order-push, pushed}
use Rattle.td_shard.proofs.Trimmed.{begins-push}
use Rattle.td_shard.proofs.Placed.{viewed, as_posted}
use Rattle.td_shard.proofs.runs.Runs.push.Goals as goal

pub invariant_of-self : goal.invariant_of-self
invariant_of-self c =
    let was = c.self.invariant in
    let m = c.self.inside in
    let rows = c.push_rows.new.rows in
    let run : Run = record { lane = c.args.lane; base = c.args.number; at = c.self.inside.start + c.len.result; end = c.self.inside.start + c.len.result + length c.args.recs.now; ahead = 0 } in
    let longer : length rows.items ≡ length m.recs.items + length c.args.recs.now = ap length c.push_rows.ensures.items ∙ (length-append m.recs.items (numbered c.args.number c.args.recs.now) ∙ ap (λ n. length m.recs.items + n) (length-numbered c.args.number c.args.recs.now)) in
    let runs = c.push_back_reserved.new.self in
    record {
      ordered = subst (λ l. InOrder m.start l (m.start + length rows.items)) (sym c.push_back_reserved.ensures.items)
          (order-push m.start (m.start + length m.recs.items) (m.start + length rows.items) m.runs.items run (omega (arith, c.len.ensures, m.recs.ok.0)) (omega arith) (omega (arith, longer, c.len.ensures, m.recs.ok.0)) was.ordered);
      begins = subst (λ l. BeginsAt m.start (length rows.items) l) (sym c.push_back_reserved.ensures.items)
          (begins-push m.start (length m.recs.items) (length rows.items) m.runs.items run (omega (arith, c.len.ensures, m.recs.ok.0)) was.begins);
      runs_kept = omega (arith, was.runs_kept, c.push_back_reserved.ensures.len, c.push_back_reserved.ensures.capacity, c.requires.runs, ap (λ v. v.runs) c.self.view_is);
      recs_kept = omega (arith, was.recs_kept, longer, rows.ok.0, m.recs.ok.0, c.push_rows.ensures.capacity, c.requires.room, ap (λ v. v.room) c.self.view_is);
      numbers = omega (arith, was.numbers, c.push_back_reserved.ensures.len, c.requires.runs, ap (λ v. v.runs) c.self.view_is);
      rec_numbers = omega (arith, was.rec_numbers, longer, rows.ok.0, m.recs.ok.0, c.requires.room, ap (λ v. v.room) c.self.view_is);
    }

pub returns : goal.returns
returns c =
    let m = c.self.inside in
    let rows = c.push_rows.new.rows.items in
    let run : Run = record { lane = c.args.lane; base = c.args.number; at = c.self.inside.start + c.len.result; end = c.self.inside.start + c.len.result + length c.args.recs.now; ahead = 0 } in
    as_posted (viewed m) c.args.self.now (length c.args.recs.now) (λ l. l ++ record { lane = c.args.lane; base = c.args.number; ahead = 0; recs = numbered c.args.number c.args.recs.now } ∷ []) _ c.self.view_is
    (ap (map (part m.start rows)) c.push_back_reserved.ensures.items
    ∙ (ap (λ (l : List Numbered). map (part m.start l) (m.runs.items ++ run ∷ [])) c.push_rows.ensures.items
    ∙ pushed m.start m.runs.items m.recs.items (numbered c.args.number c.args.recs.now) run c.self.invariant.ordered (omega (arith, c.len.ensures, m.recs.ok.0)) (omega (arith, length-numbered c.args.number c.args.recs.now))))
