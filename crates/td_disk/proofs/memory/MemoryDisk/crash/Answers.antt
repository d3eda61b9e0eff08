use Rattle.std.proofs.Common.{◌≡◌, ℕ, List, length, refl, sym, ◌∙◌, ap, subst, rules}
use Rattle.td_disk.specs.declared.memory.Call.{Call}
use Rattle.td_disk.specs.Record.{replay, synced, IsImage, crash_image}
use Rattle.td_disk.specs.RecordProofs.{reads, image_size}
use Rattle.td_disk.specs.MemoryDisk.{contents_of}
use Rattle.td_disk.proofs.Left.{crash_is_image}
use Rattle.td_disk.proofs.memory.MemoryDisk.crash.Goals as goal

pub returns-clause-image : goal.returns-clause-image
returns-clause-image c =
    let it = c.args.self.now in
    let k = contents_of it in
    let same : c.in_ok-initial.initial.items ≡ c.in_ok-bytes.bytes.items = search rules in
    let left : c.in_ok-bytes.bytes.items ≡ crash_image c.args.fill k = search rules in
    let read : (replay (synced c.in_ok-initial.initial.items) c.new.result.items).bytes ≡ crash_image c.args.fill k =
    ap (λ (cs : List Call). (replay (synced c.in_ok-initial.initial.items) cs).bytes) c.new.ensures.items ∙ same ∙ left in
    subst (λ (l : List ℕ). IsImage k l) (sym read) (crash_is_image c.args.fill k (reads (synced it.initial.items) it.calls.items refl))

pub returns-clause-size : goal.returns-clause-size
returns-clause-size c =
    let it = c.args.self.now in
    let k = contents_of it in
    let left : c.in_ok-bytes.bytes.items ≡ crash_image c.args.fill k = search rules in
    ap (λ (l : List ℕ). length l) left
    ∙ image_size it.initial.items it.calls.items (crash_image c.args.fill k) (crash_is_image c.args.fill k (reads (synced it.initial.items) it.calls.items refl))
    ∙ ap (λ (l : List ℕ). length l) (sym it.replayed)
