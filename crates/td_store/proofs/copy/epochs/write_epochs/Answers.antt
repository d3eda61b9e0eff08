use Rattle.std.proofs.Common.{◌≡◌, ℕ, suc, ◌+◌, ◌≤◌, ◌<◌, ◌^◌, true, List, [], length, take, sym, ap, ◌∙◌, subst, arith, rules, None}
use Rattle.std.proofs.lemmas.List.{take_all}
use Rattle.std.proofs.lemmas.List.Elements.{All-get_or}
use Rattle.td_gate.specs.Region.{opened}
use Rattle.td_gate.specs.Regions.{Replaces}
use Rattle.td_journal.specs.declared.journal.Journal.{Journal}
use Rattle.td_journal.specs.declared.payload.Submitted.{Submitted}
use Rattle.td_journal.specs.Cell.{cell_of, cell_bytes, is_batch, IsCellBatch}
use Rattle.td_journal.specs.Images.{NothingFollows}
use Rattle.td_store.specs.standing.Standing.{Standing, with_more}
use Rattle.td_store.specs.standing.Told.{inputs_of, ring_of}
use Rattle.td_store.specs.copy.Copied.{HasParts}
use Rattle.td_store.proofs.copy.Parts.{next_parts}
use Rattle.td_store.proofs.copy.Rising.{has_room, is_fresh, one_further}
use Rattle.td_store.proofs.copy.Written.{still_closed}
use Rattle.td_store.proofs.copy.Zeroed.{no_head_in_turn, no_head_at_first}
use Rattle.td_store.proofs.copy.epochs.write_epochs.Goals as goal

pub loop-each-init : goal.loop-each-init
loop-each-init g c = record {
  epoch = omega arith;
  size = search rules;
  lawful = ((λ l. l), (λ l. l));
  failures = search rules;
  no_head = λ lawful none. no_head_at_first (g.D.Disk.view c.args.device.now).state none;
  closed = λ lawful closed. closed;
  put = λ lawful plan sizes s ring empty few rising valid closed parts. search rules;
}

pub returns-in_err-write_epoch-clause-no_head : goal.returns-in_err-write_epoch-clause-no_head
returns-in_err-write_epoch-clause-no_head g c lawful none =
    let view = g.D.Disk.view in
    let before = c.loop-each.invariant in
    no_head_in_turn (view c.args.device.now).state (view c.loop-each.device).state (view c.write_epoch.new.device).state (before.no_head lawful none)
    (c.in_err-write_epoch.ensures.no_head (before.lawful.0 lawful))

pub loop-each-preserved : goal.loop-each-preserved
loop-each-preserved g c =
    let view = g.D.Disk.view in
    let before = c.loop-each.invariant in
    let j = c.args.journal.now in
    let w = c.args.submitted.now in
    let i = c.loop-each.each-index in
    let x = c.each-item.result in
    let is = c.each-item.is in
    let lt = c.loop-each-test.true in
    let mid = c.loop-each.device in
    let new = c.write_epoch.new.device in
    let e = c.loop-each.epoch + 1 in
    let place : e ≡ j.kept + (i + 1) = omega (arith, before.epoch) in
    record {
      epoch = omega (arith, before.epoch);
      size = c.in_ok-write_epoch.ensures.device.size ∙ before.size;
      lawful = ((λ l. c.in_ok-write_epoch.ensures.device.lawful.0 (before.lawful.0 l)), (λ l. before.lawful.1 (c.in_ok-write_epoch.ensures.device.lawful.1 l)));
      failures = search rules;
      no_head = λ lawful none. no_head_in_turn (view c.args.device.now).state (view mid).state (view new).state (before.no_head lawful none) (c.in_ok-write_epoch.ensures.no_head (before.lawful.0 lawful));
      closed = λ lawful closed. still_closed c.put_leaves_others.ensures c.cells.ensures.apart j i (cell_bytes j.m e x.request x.batch) (view mid).state.bytes (view new).state.bytes
          (subst (λ (n : ℕ). Replaces (cell_of j n) (cell_bytes j.m e x.request x.batch) (view mid).state.bytes (view new).state.bytes) place (c.in_ok-write_epoch.ensures.written (before.lawful.0 lawful))) (before.closed lawful closed);
      put = λ lawful plan sizes s ring empty few rising valid closed parts.
          let kept : j.kept ≡ s.epoch = ap (λ (k : Journal). k.kept) ring in
          let cells : j.n ≡ sizes.n = ap (λ (k : Journal). k.n) ring in
          let at : e ≡ s.epoch + i + 1 = omega (arith, before.epoch, kept) in
          let small : e < 2 ^ 63 = omega (arith, before.epoch, c.requires.small, lt) in
          let so_far = with_more s (take i w) in
          let batch = subst (λ (y : Submitted). is_batch (inputs_of plan) y.batch ≡ true) (sym is) (All-get_or (λ (y : Submitted). is_batch (inputs_of plan) y.batch ≡ true) w i x lt valid) in
          let short : length x.batch ≤ j.m = subst (λ (y : Submitted). length y.batch ≤ j.m) (sym is) (All-get_or (λ (y : Submitted). length y.batch ≤ j.m) w i x lt c.requires.few) in
          let narrow : j.m < 2 ^ 32 = omega (arith, c.requires.ring.records) in
          let ok : IsCellBatch (inputs_of plan) sizes.m x = record {
            few = subst (λ (k : Journal). length x.batch ≤ k.m) ring short;
            room = subst (λ (k : Journal). k.m < 2 ^ 32) ring narrow;
            lawful = batch;
            fits = c.in_ok-write_epoch.ensures.fits.0;
            request = c.in_ok-write_epoch.ensures.fits.1;
          } in
          let done : Replaces (cell_of (ring_of sizes s.epoch) e) (cell_bytes sizes.m e x.request x.batch) (view mid).state.bytes (view new).state.bytes =
          subst (λ (k : Journal). Replaces (cell_of k e) (cell_bytes k.m e x.request x.batch) (view mid).state.bytes (view new).state.bytes) ring (c.in_ok-write_epoch.ensures.written (before.lawful.0 lawful)) in
          let behind : j.kept + (i + 2) ≡ suc e = omega (arith, before.epoch) in
          let shut : opened (cell_of j (suc e)) (view mid).state.bytes ≡ None =
          subst (λ (n : ℕ). opened (cell_of j n) (view mid).state.bytes ≡ None) behind (before.closed lawful closed (i + 2) (omega arith) (omega (arith, lt, few, cells))) in
          let nothing : NothingFollows (ring_of sizes s.epoch) (view mid).state.bytes e =
          subst (λ (k : Journal). NothingFollows k (view mid).state.bytes e) ring (c.following_is_closed.ensures.done j (view mid).state.bytes e shut) in
          subst (λ (z : Standing). HasParts plan sizes z (view new).state.bytes) (one_further s empty w i x is lt)
          (next_parts c.put_leaves_others.ensures c.parts_are_apart.ensures.heads_cells c.parts_are_apart.ensures.slots_cells c.slots_tell.ensures plan sizes so_far e
          (has_room s empty w i x is lt sizes e at small (omega (arith, few))) c.next_is_put.ensures.done x (is_fresh s empty w i x is lt c.numbers.ensures.one_more rising) ok
          (view mid).state.bytes (view new).state.bytes (before.put lawful plan sizes s ring empty few rising valid closed parts) nothing done);
    }

pub returns-clause-put : goal.returns-clause-put
returns-clause-put g c lawful plan sizes s ring empty few rising valid closed parts =
    let w = c.args.submitted.now in
    subst (λ (l : List Submitted). HasParts plan sizes (with_more s l) (g.D.Disk.view c.loop-each.device).state.bytes) (take_all c.loop-each.each-index w c.loop-each-test.false)
    (c.loop-each.invariant.put lawful plan sizes s ring empty few rising valid closed parts)
