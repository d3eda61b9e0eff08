use Rattle.std.proofs.Common.{◌≡◌, ◌∙◌, ap, sym, subst, refl, length, map, [], ◌∷◌, ◌++◌, ◌<◌, set, get_or, true, false, is_some, true≢false}
use Rattle.std.specs.Vec.{with_item}
use Rattle.td_reach.specs.declared.stamp.Place.TheVariants as places
use Rattle.td_progress.specs.Bag.{occurrences}
use Rattle.td_stamp.specs.Groups.{arrival_of}
use Rattle.td_reach.specs.declared.stamp.Stamp.{Stamp}
use Rattle.td_shard.specs.Asked.{items_at, with_items}
use Rattle.td_core.specs.Posted.{waits}
use Rattle.td_core.specs.Delivered.{waiting_at_shard}
use Rattle.td_core.proofs.PostSteps.{roomier_same}
use Rattle.td_core.proofs.Sending.{untouched}
use Rattle.td_core.proofs.Keeping.{at_ok, at_err, so_on_err, still_roomier, same_mails, its_waiting, more_waits, added_if}
use Rattle.td_core.proofs.Changes.{as_before}
use Rattle.td_core.proofs.deliver.keep.Goals as goal
use Rattle.td_core.proofs.deliver.keep.Goals.{then-is_asked, else-is_asked}

pub returns-in_err-add_all-clause-err : goal.returns-in_err-add_all-clause-err
returns-in_err-add_all-clause-err c =
    let parts = c.args.parts.now in
    let x = c.index_mut.result.now in
    so_on_err c.from_residual.result
    (untouched parts (record parts { table = c.add_all.new.table; shards = with_item parts.shards c.from.result (record { mailbox = x.mailbox; waiting = x.waiting }) }) refl
    c.add_all.ensures.plan c.in_err-add_all.ensures.err
    (still_roomier parts.shards.items c.from.result x c.index_mut.ensures.value x.waiting refl parts.shards.items (roomier_same parts.shards.items)))

pub returns-then-is_err-clause-err : goal.returns-then-is_err-clause-err
returns-then-is_err-clause-err c =
    let parts = c.args.parts.now in
    let x = c.index_mut.result.now in
    untouched parts (record parts { table = c.take_off_all.new.table; shards = with_item parts.shards c.from.result (record { mailbox = x.mailbox; waiting = c.wait.new.self }) }) refl
    (c.take_off_all.ensures.plan ∙ c.add_all.ensures.plan)
    (as_before c.counted.ensures.append (record { stamp = record { time = c.copy.result; place = places.Vertex c.args.vertex }; times = c.if-is_asked.times } ∷ []) parts.table.stamps c.add_all.new.table.stamps c.take_off_all.new.table.stamps c.in_ok-add_all.ensures.ok c.take_off_all.ensures.stamps)
    (still_roomier parts.shards.items c.from.result x c.index_mut.ensures.value c.wait.new.self (at_err c.wait.result c.if-is_err.ensures.value c.wait.ensures.err) parts.shards.items (roomier_same parts.shards.items))

pub returns-clause-ok : goal.returns-clause-ok
returns-clause-ok c =
    let parts = c.args.parts.now in
    let v = c.args.vertex in
    let t = c.args.time.now in
    let i = c.from.result in
    let x = c.index_mut.result.now in
    let within : i < length parts.shards.items = subst (λ n. n < length parts.shards.items) (sym c.from.ensures) c.requires.there in
    let times : ((c.is_asked.result ≡ true → c.if-is_asked.times ≡ 0) × (c.is_asked.result ≡ false → c.if-is_asked.times ≡ 1)) =
    elim c.if-is_asked.branch [
      | then-is_asked w ↦ (λ e. w.times-is, λ e. absurd (true≢false (sym w.if-is_asked.true ∙ e)))
      | else-is_asked w ↦ (λ e. absurd (true≢false (sym e ∙ w.if-is_asked.false)), λ e. w.times-is)
    ] in
    let own : x.waiting ≡ waiting_at_shard c.args.shard parts = its_waiting parts.shards.items i x c.index_mut.ensures.value within ∙ ap (λ n. get_or (waits parts.shards.items) n []) c.from.ensures in
    let change : Stamp = record { time = c.copy.result; place = places.Vertex v } in
    record {
      fields = refl;
      plan = c.add_all.ensures.plan;
      stamps = λ p. c.in_ok-add_all.ensures.ok p
          ∙ ap (λ l. occurrences p (l ++ parts.table.stamps))
          (added_if v t c.is_asked.result (is_some (items_at (waiting_at_shard c.args.shard parts) v t)) c.if-is_asked.times change (ap (λ u. record { time = u; place = places.Vertex v }) c.copy.ensures)
          times.0 times.1 (c.is_asked.ensures ∙ ap (λ w. is_some (items_at w v t)) own));
      mails = same_mails parts.shards.items i x c.index_mut.ensures.value c.wait.new.self;
      waits = more_waits parts.shards.items i x c.index_mut.ensures.value within c.wait.new.self v t (map (arrival_of c.args.port) c.args.recs.now)
          (at_ok c.wait.result c.if-is_err.ensures.value c.wait.ensures.ok)
          ∙ ap (λ n. set (waits parts.shards.items) n (with_items (get_or (waits parts.shards.items) n []) v t (map (arrival_of c.args.port) c.args.recs.now))) c.from.ensures;
    }
