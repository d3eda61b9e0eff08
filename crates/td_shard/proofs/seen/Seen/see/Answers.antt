use Rattle.std.proofs.Common.{[], Result, Ok, Err, sym, ap, ◌∙◌}
use Rattle.std.specs.Result.{OnErr}
use Rattle.std.specs.BTreeMap.{insert_entry}
use Rattle.td_stamp.specs.Orders.{rec_cmp}
use Rattle.td_stamp.specs.Bag.{join}
use Rattle.td_shard.specs.declared.place.Place.{Place}
use Rattle.td_machine.specs.AtOnce.{fresh}
use Rattle.td_shard.specs.Seen.{fresh_recs, with_fresh, place_cmp, seen_of}
use Rattle.td_shard.proofs.Cut.{cut_some, cut_none, fresh_seen, put_seen, same_seen}
use Rattle.td_shard.proofs.seen.Seen.see.Goals as goal
use Rattle.td_shard.proofs.seen.Seen.see.Goals.{in-Some+in_ok-put_in-in-Some, in-None+in_ok-put_in-in-None+in_ok-insert-in-None+in-Some-1, in-None+in_ok-put_in-in-None+in_ok-insert-in-None+in-None-1}

on_err : {T E P : Type 0} (r : Result T E) → P → OnErr r P
on_err (Ok x) p = tt
on_err (Err e) p = p

pub returns-in_err-put_in-in-Some-clause-err : goal.returns-in_err-put_in-in-Some-clause-err
returns-in_err-put_in-in-Some-clause-err c =
    let p : Place = record { vertex = c.args.vertex; time = c.copy-time.result } in
    let es = c.self.inside.sets.entries in
    let set = c.put_in.new.set in
    let cut = cut_some p c.in-Some.set.now es c.self.invariant (sym c.in-Some.ensures.value) in
    on_err c.from_residual-in_err-put_in-in-Some.result (ap seen_of (c.get_mut.follows.holds set).0 ∙ (same_seen p c.in-Some.set.now.keys es _ cut set c.in_err-put_in-in-Some.ensures.err ∙ c.self.view_is))

pub returns-clause-answer : goal.returns-clause-answer
returns-clause-answer c =
    let p : Place = record { vertex = c.args.vertex; time = c.copy-time.result } in
    let es = c.self.inside.sets.entries in
    let recs = c.args.recs.now in
    let now = ap (λ t. fresh (seen_of es) c.args.vertex t recs) c.copy-time.ensures ∙ ap (λ l. fresh l c.args.vertex c.args.time.now recs) c.self.view_is in
    elim c.match-get_mut.branch [
      | in-Some+in_ok-put_in-in-Some w ↦
          let cut = cut_some p w.in-Some.set.now es c.self.invariant (sym w.in-Some.ensures.value) in
          ap (λ v. v.items) w.new-is ∙ (w.in_ok-put_in-in-Some.ensures.answer ∙ (sym (fresh_seen p w.in-Some.set.now.keys es _ cut recs) ∙ now))
      | in-None+in_ok-put_in-in-None+in_ok-insert-in-None+in-Some-1 w ↦
          let cut = cut_none p es c.self.invariant (sym w.in-None.ensures.value) in
          ap (λ v. v.items) w.new-is ∙ (w.in_ok-put_in-in-None.ensures.answer ∙ (ap (λ ks. fresh_recs ks recs) w.new-set.ensures.empty ∙ (sym (fresh_seen p [] es _ cut recs) ∙ now)))
      | in-None+in_ok-put_in-in-None+in_ok-insert-in-None+in-None-1 w ↦
          let cut = cut_none p es c.self.invariant (sym w.in-None.ensures.value) in
          ap (λ v. v.items) w.new-is ∙ (w.in_ok-put_in-in-None.ensures.answer ∙ (ap (λ ks. fresh_recs ks recs) w.new-set.ensures.empty ∙ (sym (fresh_seen p [] es _ cut recs) ∙ now)))
    ]

pub returns-clause-ok : goal.returns-clause-ok
returns-clause-ok c =
    let p : Place = record { vertex = c.args.vertex; time = c.copy-time.result } in
    let es = c.self.inside.sets.entries in
    let recs = c.args.recs.now in
    let now = ap (λ t. with_fresh (seen_of es) c.args.vertex t recs) c.copy-time.ensures ∙ ap (λ l. with_fresh l c.args.vertex c.args.time.now recs) c.self.view_is in
    elim c.match-get_mut.branch [
      | in-Some+in_ok-put_in-in-Some w ↦
          let set = w.put_in.new.set in
          let cut = cut_some p w.in-Some.set.now es c.self.invariant (sym w.in-Some.ensures.value) in
          w.self-is ∙ (ap seen_of (c.get_mut.follows.holds set).0 ∙ (put_seen p w.in-Some.set.now.keys es _ cut recs set w.in_ok-put_in-in-Some.ensures.ok ∙ now))
      | in-None+in_ok-put_in-in-None+in_ok-insert-in-None+in-Some-1 w ↦
          let set = w.put_in-in-None.new.set in
          let cut = cut_none p es c.self.invariant (sym w.in-None.ensures.value) in
          let keys = w.in_ok-put_in-in-None.ensures.ok ∙ ap (λ ks. join rec_cmp (fresh_recs ks recs) ks) w.new-set.ensures.empty in
          w.self-is ∙ (ap seen_of (w.in_ok-insert-in-None.ensures.entries ∙ ap (λ m. insert_entry place_cmp m.entries p set) c.get_mut.follows.holds-at-none) ∙ (put_seen p [] es _ cut recs set keys ∙ now))
      | in-None+in_ok-put_in-in-None+in_ok-insert-in-None+in-None-1 w ↦
          let set = w.put_in-in-None.new.set in
          let cut = cut_none p es c.self.invariant (sym w.in-None.ensures.value) in
          let keys = w.in_ok-put_in-in-None.ensures.ok ∙ ap (λ ks. join rec_cmp (fresh_recs ks recs) ks) w.new-set.ensures.empty in
          w.self-is ∙ (ap seen_of (w.in_ok-insert-in-None.ensures.entries ∙ ap (λ m. insert_entry place_cmp m.entries p set) c.get_mut.follows.holds-at-none) ∙ (put_seen p [] es _ cut recs set keys ∙ now))
    ]
