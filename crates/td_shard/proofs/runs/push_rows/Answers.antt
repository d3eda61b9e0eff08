use Rattle.std.proofs.Common.{◌+◌, ◌++◌, ◌∷◌, [], get_or, take, pos, sym, ap, ◌∙◌, append_assoc, arith}
use Rattle.std.proofs.lemmas.List.{take_all}
use Rattle.td_shard.specs.Runs.{numbered}
use Rattle.td_shard.proofs.InOneList.{number_more, length-numbered}
use Rattle.td_shard.proofs.runs.push_rows.Goals as goal

pub loop-rec-preserved : goal.loop-rec-preserved
loop-rec-preserved c =
    let was = c.loop-rec.invariant in
    let old = c.args.rows.now.items in
    let n = c.args.number in
    let i = c.loop-rec.rec-index in
    let recs = c.args.recs.now in
    let r = get_or recs i (record { key = 0; val = pos 0 }) in
    record {
      next = omega (arith, was.next);
      items = c.push_back_reserved.ensures.items ∙ (ap (λ l. l ++ record { number = c.loop-rec.next; rec = r } ∷ []) was.items ∙ (ap (λ m. (old ++ take i (numbered n recs)) ++ record { number = m; rec = r } ∷ []) was.next
          ∙ (append_assoc old (take i (numbered n recs)) (record { number = n + i; rec = r } ∷ []) ∙ ap (λ l. old ++ l) (sym (number_more n i recs (record { key = 0; val = pos 0 }) c.loop-rec-test.true)))));
      capacity = c.push_back_reserved.ensures.capacity ∙ was.capacity;
    }

pub returns-clause-items : goal.returns-clause-items
returns-clause-items c =
    let all = take_all c.loop-rec.rec-index (numbered c.args.number c.args.recs.now) (omega (arith, c.loop-rec-test.false, length-numbered c.args.number c.args.recs.now)) in
    c.loop-rec.invariant.items ∙ ap (λ l. c.args.rows.now.items ++ l) all
