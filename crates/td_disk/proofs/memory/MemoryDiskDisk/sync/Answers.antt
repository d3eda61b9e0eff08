use Rattle.std.proofs.Common.{◌∙◌, sym, refl}
use Rattle.td_disk.specs.Record.{synced}
use Rattle.td_disk.specs.RecordProofs.{reads}
use Rattle.td_disk.proofs.OneCallMore.{time_more, sync_contents, sync_bytes, sync_durable, sync_images}
use Rattle.td_disk.proofs.memory.MemoryDiskDisk.sync.Goals as goal

pub invariant_of-self : goal.invariant_of-self
invariant_of-self c = record { replayed = c.args.self.now.replayed ∙ sym (sync_bytes c.args.self.now.initial.items c.args.self.now.calls.items c.note_sync.new.calls.items c.in-Ok.ensures.ok) }

pub returns-in-Ok-clause-durable : goal.returns-in-Ok-clause-durable
returns-in-Ok-clause-durable c _ = sync_durable c.args.self.now.initial.items c.args.self.now.calls.items c.note_sync.new.calls.items c.in-Ok.ensures.ok

pub returns-in-Ok-clause-images : goal.returns-in-Ok-clause-images
returns-in-Ok-clause-images c _ = sync_images c.args.self.now.initial.items c.args.self.now.calls.items c.note_sync.new.calls.items c.in-Ok.ensures.ok (reads (synced c.args.self.now.initial.items) c.args.self.now.calls.items refl)

pub returns-in-Ok-clause-time : goal.returns-in-Ok-clause-time
returns-in-Ok-clause-time c _ = time_more c.args.self.now.initial.items c.args.self.now.calls.items c.note_sync.new.calls.items _ c.in-Ok.ensures.ok

pub returns-in-Ok-clause-gives : goal.returns-in-Ok-clause-gives
returns-in-Ok-clause-gives c = record {
  done = sync_contents c.args.self.now.initial.items c.args.self.now.calls.items c.note_sync.new.calls.items c.in-Ok.ensures.ok;
  failed = tt;
}
