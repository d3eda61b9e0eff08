use Rattle.std.proofs.Common.{◌++◌, ◌<◌, ◌∷◌, [], length, map, take, drop, ◌-◌, ap, sym, ◌∙◌, arith, append_assoc}
use Rattle.std.proofs.lemmas.List.{map-append}
use Rattle.td_shard.specs.Runs.{rec_of}
use Rattle.td_shard.proofs.InOneList.{read_more}
use Rattle.td_shard.proofs.runs.read_rows.Goals as goal

pub loop-place-preserved : goal.loop-place-preserved
loop-place-preserved c =
    let was = c.loop-place.invariant in
    let rows = c.args.rows.now in
    let from = c.args.from in
    let place = c.loop-place.place in
    let x = c.index.result.now in
    let within : place < length rows.items = omega (arith, c.loop-place-test.true, c.requires.within, rows.ok) in
    record {
      items = c.push_reserved.ensures.items ∙ (ap (λ l. l ++ rec_of x ∷ []) was.items
          ∙ (append_assoc c.args.recs.now.items (map rec_of (take (place - from) (drop from rows.items))) (rec_of x ∷ [])
          ∙ ap (λ l. c.args.recs.now.items ++ l) (sym (map-append rec_of (take (place - from) (drop from rows.items)) (x ∷ []))
          ∙ ap (map rec_of) (sym (read_more rows.items from place x (omega (arith, c.loop-place.auto.place)) within c.index.ensures)))));
      len = omega (arith, was.len, c.push_reserved.ensures.len, c.loop-place.auto.place);
      capacity = c.push_reserved.ensures.capacity ∙ was.capacity;
    }
