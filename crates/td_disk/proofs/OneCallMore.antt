-- One call more in the record of a disk in memory.
use Rattle.std.proofs.Common.{◌≡◌, ℕ, List, [], ◌∷◌, ◌++◌, length, take, drop, Vec, sym, ◌∙◌, ap, subst}
use Rattle.std.specs.declared.alloc.Global.{Global}
use Rattle.std.proofs.lemmas.List.{take_at}
use Rattle.td_disk.specs.Disk.{SameOutside, TimePasses, IsDurable}
use Rattle.td_disk.specs.declared.memory.Call.{Call}
use Rattle.td_disk.specs.declared.memory.Call.TheVariants.{Write, Sync}
use Rattle.td_disk.specs.Record.{Contents, overwritten, written, after_call, replay, synced, IsImage, state_after}
use Rattle.td_disk.specs.RecordProofs.{overwritten_outside, replay_push, time_passes}

-- a vector written over from its start on
pub rewritten : (old new : List ℕ) (n : ℕ) → length new ≡ n → take n (new ++ drop (length new) old) ≡ new
rewritten old new n is = take_at new (drop (length new) old) n is

pub replay_more : (start : List ℕ) (calls new : List Call) (call : Call) → new ≡ calls ++ call ∷ [] → replay (synced start) new ≡ after_call (replay (synced start) calls) call
replay_more start calls new call is = ap (λ (cs : List Call). replay (synced start) cs) is ∙ replay_push (synced start) calls call

pub time_more : (start : List ℕ) (calls new : List Call) (call : Call) → new ≡ calls ++ call ∷ [] → TimePasses (state_after start calls) (state_after start new)
time_more start calls new call is = subst (λ (cs : List Call). TimePasses (state_after start calls) (state_after start cs)) (sym is) (time_passes start calls call)

module _ (start : List ℕ) (calls new : List Call) (at : ℕ) (v : Vec ℕ Global) (bytes : List ℕ) (same : v.items ≡ bytes) (is : new ≡ calls ++ Write at v ∷ []) where
  abbrev was : Contents
  was = replay (synced start) calls

  pub write_contents : replay (synced start) new ≡ written at bytes was
  write_contents = replay_more start calls new (Write at v) is ∙ ap (λ (l : List ℕ). written at l was) same

  pub write_bytes : (replay (synced start) new).bytes ≡ overwritten at bytes was.bytes
  write_bytes = ap (λ (k : Contents). k.bytes) write_contents

  pub write_others : SameOutside at (length bytes) was.bytes (replay (synced start) new).bytes
  write_others = subst (λ (l : List ℕ). SameOutside at (length bytes) was.bytes l) (sym write_bytes) (overwritten_outside at bytes was.bytes)

  pub write_images : (c : List ℕ) → IsImage (replay (synced start) new) c → (d : List ℕ) × IsImage was d × SameOutside at (length bytes) d c
  write_images c image = subst (λ (k : Contents). IsImage k c) write_contents image

module _ (start : List ℕ) (calls new : List Call) (is : new ≡ calls ++ Sync ∷ []) where
  abbrev before : Contents
  before = replay (synced start) calls

  pub sync_contents : replay (synced start) new ≡ synced before.bytes
  sync_contents = replay_more start calls new Sync is

  pub sync_bytes : (replay (synced start) new).bytes ≡ before.bytes
  sync_bytes = ap (λ (k : Contents). k.bytes) sync_contents

  pub sync_durable : IsDurable (state_after start new)
  sync_durable c image = subst (λ (k : Contents). IsImage k c) sync_contents image ∙ sym sync_bytes

  pub sync_images : IsImage before before.bytes → (c : List ℕ) → IsImage (replay (synced start) new) c → IsImage before c
  sync_images read c image = subst (λ (l : List ℕ). IsImage before l) (sym (subst (λ (k : Contents). IsImage k c) sync_contents image)) read
