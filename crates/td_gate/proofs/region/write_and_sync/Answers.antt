use Rattle.std.proofs.Common.{◌≡◌, List, ℕ, length, refl, subst, sym}
use Rattle.td_disk.specs.Disk.{SameOutside}
use Rattle.td_gate.proofs.CrashSafety.{HasClock, one_call, in_turn}
use Rattle.td_gate.proofs.Images.{same_outside_refl}
use Rattle.td_gate.proofs.region.write_and_sync.Goals as goal

pub returns-clause-crash_safe : goal.returns-clause-crash_safe
returns-clause-crash_safe g c lawful =
    let view = g.D.Disk.view in
    let laws = g.met.D.Disk in
    let still = c.write.ensures.lawful.0 lawful in
    let first = one_call (SameOutside c.args.at (length c.args.bytes.now)) (view c.args.device.now).state (view c.write.new.self).state
    (record { counts_now = λ t f. laws.counts_now c.args.device.now t f lawful; only_now = λ f. laws.only_now c.args.device.now f lawful })
    (same_outside_refl c.args.at (length c.args.bytes.now)) (c.write.ensures.time lawful) (c.write.ensures.images lawful) in
    let mid : HasClock (view c.write.new.self).state = record { counts_now = λ t f. laws.counts_now c.write.new.self t f still; only_now = λ f. laws.only_now c.write.new.self f still } in
    let second = one_call (λ d f. f ≡ d) (view c.write.new.self).state (view c.sync.new.self).state mid (λ f. refl) (c.sync.ensures.time still) (λ f now. (f, c.sync.ensures.images still f now, refl)) in
    in_turn (SameOutside c.args.at (length c.args.bytes.now)) (λ d f. f ≡ d) (SameOutside c.args.at (length c.args.bytes.now)) _ _ _ mid first second (λ d f step. step)
    (λ d e f step same. subst (λ (l : List ℕ). SameOutside c.args.at (length c.args.bytes.now) d l) (sym same) step)
