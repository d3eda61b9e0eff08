use Rattle.std.proofs.Common.{◌≡◌, ℕ, ◌+◌, ◌*◌, ◌/◌, ◌%◌, ◌≤◌, take, length, sym, ◌∙◌, subst, arith}
use Rattle.std.specs.Prelude.{OnOk, Result, Ok, Err}
use Rattle.std.proofs.lemmas.List.{length-replicate}
use Rattle.td_disk.specs.Disk.{SameOutside}
use Rattle.td_head.specs.Layout.{size_of}
use Rattle.td_head.specs.Images.{IsZero}
use Rattle.td_head.proofs.Zeros.{zeros, all_zero, part_zero, part_size, zeros_more, wider, in_turn}
use Rattle.td_head.proofs.format.wipe.Goals as goal

on_ok_from : {T E P Q : Type 0} (r : Result T E) → (P → Q) → OnOk r P → OnOk r Q
on_ok_from (Ok x) f p = f p
on_ok_from (Err e) f p = tt

pub loop-i-preserved : goal.loop-i-preserved
loop-i-preserved g c =
    let view = g.D.Disk.view in
    let inv = c.loop-i.invariant in
    let put = c.in_ok-write.ensures in
    let i = c.loop-i.i in
    let size = size_of c.args.shape in
    let block : length (zeros 4096) ≡ 4096 = length-replicate {A = ℕ} 4096 0 in
    let within : 4096 * i + length (zeros 4096) ≤ size = omega (arith, block, inv.whole, c.loop-i-test.true) in
    record {
      zero = λ l. zeros_more (4096 * i) (4096 * (i + 1)) 4096 (view c.loop-i.device).state.bytes (view c.write.new.self).state.bytes (zeros 4096)
          (inv.zero l) (put.others (inv.lawful.0 l)) (put.written (inv.lawful.0 l)) block (all_zero 4096) (omega arith);
      others = λ l. in_turn size (view c.args.device.now).state.bytes (view c.loop-i.device).state.bytes (view c.write.new.self).state.bytes (inv.others l)
          (wider (4096 * i) (length (zeros 4096)) size (view c.loop-i.device).state.bytes (view c.write.new.self).state.bytes within (put.others (inv.lawful.0 l)));
      whole = inv.whole;
      size = put.size ∙ inv.size;
      lawful = (λ l. put.lawful.0 (inv.lawful.0 l), λ l. inv.lawful.1 (put.lawful.1 l));
      count = put.cause.stays ∙ inv.count;
    }

pub returns-clause-zero : goal.returns-clause-zero
returns-clause-zero g c =
    let view = g.D.Disk.view in
    let inv = c.loop-i.invariant in
    let put = c.in_ok-write-2.ensures in
    let b = c.bytes-bytes.result in
    let k = b % 4096 in
    let at = 4096 * (b / 4096) in
    let done : 4096 * c.loop-i.i ≡ at = omega (arith, c.loop-i-test.false, c.loop-i.auto.i-end) in
    let few : k ≤ 4096 = omega arith in
    let whole : size_of c.args.shape ≤ at + k = omega (arith, c.bytes-bytes.ensures.size) in
    on_ok_from c.sync.result
    (λ (same : (g.D.Disk.view c.write-2.new.self).lawful → (view c.sync.new.self).state.bytes ≡ (view c.write-2.new.self).state.bytes). λ (l : (g.D.Disk.view c.args.device.now).lawful).
    let still = inv.lawful.0 l in
    subst (IsZero (size_of c.args.shape)) (sym (same (put.lawful.0 still)))
    (zeros_more at (size_of c.args.shape) k (view c.loop-i.device).state.bytes (view c.write-2.new.self).state.bytes (take k (zeros 4096))
    (subst (λ (n : ℕ). IsZero n (view c.loop-i.device).state.bytes) done (inv.zero l)) (put.others still) (put.written still) (part_size 4096 k few) (part_zero 4096 k few) whole))
    c.sync.ensures.same

pub returns-clause-others : goal.returns-clause-others
returns-clause-others g c =
    let view = g.D.Disk.view in
    let inv = c.loop-i.invariant in
    let put = c.in_ok-write-2.ensures in
    let b = c.bytes-bytes.result in
    let k = b % 4096 in
    let at = 4096 * (b / 4096) in
    let size = size_of c.args.shape in
    let few : k ≤ 4096 = omega arith in
    let part : length (take k (zeros 4096)) ≡ k = part_size 4096 k few in
    let within : at + length (take k (zeros 4096)) ≤ size = omega (arith, part, c.bytes-bytes.ensures.size) in
    on_ok_from c.sync.result
    (λ (same : (g.D.Disk.view c.write-2.new.self).lawful → (view c.sync.new.self).state.bytes ≡ (view c.write-2.new.self).state.bytes). λ (l : (g.D.Disk.view c.args.device.now).lawful).
    let still = inv.lawful.0 l in
    subst (SameOutside 0 size (view c.args.device.now).state.bytes) (sym (same (put.lawful.0 still)))
    (in_turn size (view c.args.device.now).state.bytes (view c.loop-i.device).state.bytes (view c.write-2.new.self).state.bytes (inv.others l)
    (wider at (length (take k (zeros 4096))) size (view c.loop-i.device).state.bytes (view c.write-2.new.self).state.bytes within (put.others still))))
    c.sync.ensures.same
