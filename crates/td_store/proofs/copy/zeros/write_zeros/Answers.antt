use Rattle.std.proofs.Common.{◌≡◌, ⊎_elim, inl, inr, ℕ, ◌+◌, ◌≤◌, length, take, ◌∙◌, arith}
use Rattle.std.proofs.lemmas.List.{length-take-le}
use Rattle.td_store.proofs.copy.Zeroed.{OffGates, written_no_head, no_head_in_turn, zeros_more, part_zero}
use Rattle.td_store.proofs.copy.zeros.write_zeros.Goals as goal

-- what is written lies between the ends
within : (at end from n k : ℕ) → OffGates at end → at ≤ from → from + n ≤ end → k ≡ n → OffGates from (from + k)
within at end from n k off begun ends is = (omega (arith, off.0, begun), ⊎_elim (λ low. inl (omega (arith, low, ends, is))) (λ high. inr (omega (arith, high, begun))) off.1)

pub loop-from-preserved : goal.loop-from-preserved
loop-from-preserved g c =
    let view = g.D.Disk.view in
    let inv = c.loop-from.invariant in
    let put = c.in_ok-write.ensures in
    let from = c.loop-from.from in
    let n = c.min-len.result in
    let bytes = take n c.args.zeros.now in
    let few : n ≤ length c.args.zeros.now = omega arith in
    let long : length bytes ≡ n = length-take-le n c.args.zeros.now few in
    let ends : from + n ≤ c.args.end = omega (arith, c.loop-from-test.true) in
    record {
      begun = omega (arith, inv.begun);
      zero = λ l. zeros_more c.args.at from (from + n) n (view c.loop-from.device).state.bytes (view c.write.new.self).state.bytes bytes (omega arith) long
          (inv.zero l) (put.others (inv.lawful.0 l)) (put.written (inv.lawful.0 l)) (part_zero (length c.args.zeros.now) n c.args.zeros.now few c.requires.zero);
      before = λ l i lt. (put.others (inv.lawful.0 l)).before i (omega (arith, lt, inv.begun)) ∙ inv.before l i lt;
      no_head = λ l none. no_head_in_turn (view c.args.device.now).state (view c.loop-from.device).state (view c.write.new.self).state (inv.no_head l none)
          (written_no_head from (length bytes) (view c.loop-from.device).state (view c.write.new.self).state (within c.args.at c.args.end from n (length bytes) c.requires.gates inv.begun ends long)
          (put.images (inv.lawful.0 l)) (put.time (inv.lawful.0 l)));
      size = put.size ∙ inv.size;
      lawful = (λ l. put.lawful.0 (inv.lawful.0 l), λ l. inv.lawful.1 (put.lawful.1 l));
      count = put.cause.stays ∙ inv.count;
    }

pub returns-in_err-write-clause-no_head : goal.returns-in_err-write-clause-no_head
returns-in_err-write-clause-no_head g c l none =
    let view = g.D.Disk.view in
    let inv = c.loop-from.invariant in
    let put = c.in_err-write.ensures in
    let from = c.loop-from.from in
    let n = c.min-len.result in
    let bytes = take n c.args.zeros.now in
    let few : n ≤ length c.args.zeros.now = omega arith in
    let long : length bytes ≡ n = length-take-le n c.args.zeros.now few in
    let ends : from + n ≤ c.args.end = omega (arith, c.loop-from-test.true) in
    no_head_in_turn (view c.args.device.now).state (view c.loop-from.device).state (view c.write.new.self).state (inv.no_head l none)
    (written_no_head from (length bytes) (view c.loop-from.device).state (view c.write.new.self).state (within c.args.at c.args.end from n (length bytes) c.requires.gates inv.begun ends long)
    (put.images (inv.lawful.0 l)) (put.time (inv.lawful.0 l)))
