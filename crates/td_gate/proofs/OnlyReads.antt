-- Calls that only read.
use Rattle.std.proofs.Common.{◌≡◌, ◌∙◌, refl, sym}
use Rattle.std.specs.Prelude.{◌↔◌}
use Rattle.td_disk.specs.Disk.{DiskView, DiskState, NoNewImages, TimePasses}
use Rattle.td_gate.specs.CrashSafe.{CrashSafe, Unchanged}
use Rattle.td_gate.specs.Reads.{IsRead}
use Rattle.td_gate.proofs.CrashSafety.{HasClock, one_call, in_turn}

pub unchanged_in_turn : (old mid new : DiskState) → HasClock mid → CrashSafe Unchanged old mid → CrashSafe Unchanged mid new → CrashSafe Unchanged old new
unchanged_in_turn old mid new clock one two = in_turn Unchanged Unchanged Unchanged old mid new clock one two (λ d f same. same) (λ d e f first second. second ∙ first)

module _ {D : Type 0} (view : D → DiskView) (clock : (d : D) → (view d).lawful → HasClock (view d).state) where
  -- one read of a disk
  pub one_read : (old new : D) → (view new).capacity ≡ (view old).capacity → ((view old).lawful ↔ (view new).lawful) → ((view old).lawful → (view new).state.bytes ≡ (view old).state.bytes)
      → ((view old).lawful → NoNewImages (view old).state (view new).state) → ((view old).lawful → TimePasses (view old).state (view new).state) → IsRead view old new
  one_read old new size lawful same images time = record {
    size = size;
    lawful = lawful;
    same = same;
    durable = λ l durable c now. durable c (images l c now) ∙ sym (same l);
    crash_safe = λ l. one_call Unchanged (view old).state (view new).state (clock old l) (λ c. refl) (time l) (λ c now. (c, images l c now, refl));
  }

  -- reads, and then others
  pub read_in_turn : (old mid new : D) → IsRead view old mid → IsRead view mid new → IsRead view old new
  read_in_turn old mid new one two = record {
    size = two.size ∙ one.size;
    lawful = (λ l. two.lawful.0 (one.lawful.0 l), λ l. one.lawful.1 (two.lawful.1 l));
    same = λ l. two.same (one.lawful.0 l) ∙ one.same l;
    durable = λ l durable. two.durable (one.lawful.0 l) (one.durable l durable);
    crash_safe = λ l. let still = one.lawful.0 l in unchanged_in_turn (view old).state (view mid).state (view new).state (clock mid still) (one.crash_safe l) (two.crash_safe still);
  }
