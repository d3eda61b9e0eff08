use Rattle.std.proofs.Common.{rules, ℕ, ◌+◌, ◌-◌, ◌^◌, ◌<◌, take, subst, arith}
use Rattle.td_gate.specs.CrashSafe.{CrashSafe}
use Rattle.td_gate.specs.Region.{IsSettled, IsOpen, Puts}
use Rattle.td_slots.specs.declared.slots.Slots.{Slots}
use Rattle.td_slots.specs.Slot.{slot, slot_bytes}
use Rattle.td_journal.specs.Numbers.{greatest}
use Rattle.td_store.specs.standing.Told.{slots_of}
use Rattle.td_store.proofs.standing.Kept.{each_keeps}
use Rattle.td_store.proofs.standing.steps.write_states.Goals as goal

pub returns-in_err-write-clause-cut : goal.returns-in_err-write-clause-cut
returns-in_err-write-clause-cut g c =
    record {
      later = λ lawful durable.
          let slot_is = slot c.args.slots.now (1 - c.args.newest) in
          (c.in_err-write.ensures.put.crash_safe lawful (c.durable_is_settled.ensures c.args.device.now slot_is durable)).later;
      begun = λ lawful plan head s k where_ epoch last cut keeps t f le left.
          let view = g.D.Disk.view in
          let laws = g.met.D.Disk in
          let old = c.args.device.now in
          let new = c.write.new.device in
          let n = c.args.newest in
          let x = c.args.states.now in
          let fits : greatest s.last (take k s.submitted) < 2 ^ 64 = let small : c.args.last < 2 ^ 64 = omega arith in subst (λ (q : ℕ). q < 2 ^ 64) last small in
          let settled : IsSettled (slot c.args.slots.now (1 - n)) (view old).state = c.durable_is_settled.ensures old (slot c.args.slots.now (1 - n)) keeps.durable in
          let puts : CrashSafe (Puts (slot (slots_of head.shape) (1 - n)) (slot_bytes head.shape.k (s.epoch + k) (greatest s.last (take k s.submitted)) x)) (view old).state (view new).state =
          subst (λ (t : Slots). CrashSafe (Puts (slot t (1 - n)) (slot_bytes t.k (s.epoch + k) (greatest s.last (take k s.submitted)) x)) (view old).state (view new).state) where_
          (subst (λ (e : ℕ). CrashSafe (Puts (slot c.args.slots.now (1 - n)) (slot_bytes c.args.slots.now.k e (greatest s.last (take k s.submitted)) x)) (view old).state (view new).state) epoch
          (subst (λ (q : ℕ). CrashSafe (Puts (slot c.args.slots.now (1 - n)) (slot_bytes c.args.slots.now.k c.args.epoch q x)) (view old).state (view new).state) last (c.in_err-write.ensures.put.crash_safe lawful settled))) in
          c.write_cut_is_safe.ensures.begun plan head n s k x old new (each_keeps plan head n s (view old).state keeps) cut fits puts t f le left;
      done = search rules;
    }

pub returns-clause-cut : goal.returns-clause-cut
returns-clause-cut g c =
    record {
      later = λ lawful durable.
          let slot_is = slot c.args.slots.now (1 - c.args.newest) in
          (c.in_ok-write.ensures.put.crash_safe lawful (c.durable_is_settled.ensures c.args.device.now slot_is durable)).later;
      begun = λ lawful plan head s k where_ epoch last cut keeps t f le left.
          let view = g.D.Disk.view in
          let laws = g.met.D.Disk in
          let old = c.args.device.now in
          let new = c.write.new.device in
          let n = c.args.newest in
          let x = c.args.states.now in
          let fits : greatest s.last (take k s.submitted) < 2 ^ 64 = let small : c.args.last < 2 ^ 64 = omega arith in subst (λ (q : ℕ). q < 2 ^ 64) last small in
          let settled : IsSettled (slot c.args.slots.now (1 - n)) (view old).state = c.durable_is_settled.ensures old (slot c.args.slots.now (1 - n)) keeps.durable in
          let puts : CrashSafe (Puts (slot (slots_of head.shape) (1 - n)) (slot_bytes head.shape.k (s.epoch + k) (greatest s.last (take k s.submitted)) x)) (view old).state (view new).state =
          subst (λ (t : Slots). CrashSafe (Puts (slot t (1 - n)) (slot_bytes t.k (s.epoch + k) (greatest s.last (take k s.submitted)) x)) (view old).state (view new).state) where_
          (subst (λ (e : ℕ). CrashSafe (Puts (slot c.args.slots.now (1 - n)) (slot_bytes c.args.slots.now.k e (greatest s.last (take k s.submitted)) x)) (view old).state (view new).state) epoch
          (subst (λ (q : ℕ). CrashSafe (Puts (slot c.args.slots.now (1 - n)) (slot_bytes c.args.slots.now.k c.args.epoch q x)) (view old).state (view new).state) last (c.in_ok-write.ensures.put.crash_safe lawful settled))) in
          c.write_cut_is_safe.ensures.begun plan head n s k x old new (each_keeps plan head n s (view old).state keeps) cut fits puts t f le left;
      done = λ lawful plan head s k where_ epoch last cut keeps.
          let view = g.D.Disk.view in
          let laws = g.met.D.Disk in
          let old = c.args.device.now in
          let new = c.write.new.device in
          let n = c.args.newest in
          let x = c.args.states.now in
          let fits : greatest s.last (take k s.submitted) < 2 ^ 64 = let small : c.args.last < 2 ^ 64 = omega arith in subst (λ (q : ℕ). q < 2 ^ 64) last small in
          let settled : IsSettled (slot c.args.slots.now (1 - n)) (view old).state = c.durable_is_settled.ensures old (slot c.args.slots.now (1 - n)) keeps.durable in
          let puts : CrashSafe (Puts (slot (slots_of head.shape) (1 - n)) (slot_bytes head.shape.k (s.epoch + k) (greatest s.last (take k s.submitted)) x)) (view old).state (view new).state =
          subst (λ (t : Slots). CrashSafe (Puts (slot t (1 - n)) (slot_bytes t.k (s.epoch + k) (greatest s.last (take k s.submitted)) x)) (view old).state (view new).state) where_
          (subst (λ (e : ℕ). CrashSafe (Puts (slot c.args.slots.now (1 - n)) (slot_bytes c.args.slots.now.k e (greatest s.last (take k s.submitted)) x)) (view old).state (view new).state) epoch
          (subst (λ (q : ℕ). CrashSafe (Puts (slot c.args.slots.now (1 - n)) (slot_bytes c.args.slots.now.k c.args.epoch q x)) (view old).state (view new).state) last (c.in_ok-write.ensures.put.crash_safe lawful settled))) in
          let also = c.in_ok-write.ensures.device.lawful.0 lawful in
          let is_open : IsOpen (slot (slots_of head.shape) (1 - n)) (slot_bytes head.shape.k (s.epoch + k) (greatest s.last (take k s.submitted)) x) (view new).state =
          subst (λ (t : Slots). IsOpen (slot t (1 - n)) (slot_bytes t.k (s.epoch + k) (greatest s.last (take k s.submitted)) x) (view new).state) where_
          (subst (λ (e : ℕ). IsOpen (slot c.args.slots.now (1 - n)) (slot_bytes c.args.slots.now.k e (greatest s.last (take k s.submitted)) x) (view new).state) epoch
          (subst (λ (q : ℕ). IsOpen (slot c.args.slots.now (1 - n)) (slot_bytes c.args.slots.now.k c.args.epoch q x) (view new).state) last (c.in_ok-write.ensures.put.is_open lawful settled))) in
          record {
            durable = c.in_ok-write.ensures.put.durable lawful;
            tells = c.write_cut_is_safe.ensures.done plan head n s k x old new (each_keeps plan head n s (view old).state keeps) cut fits also puts is_open (view new).state.bytes (laws.reads_image new also);
          };
    }
