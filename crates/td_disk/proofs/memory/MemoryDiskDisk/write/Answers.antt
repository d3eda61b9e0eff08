use Rattle.std.proofs.Common.{List, ℕ, sym, ◌∙◌, ap, arith}
use Rattle.td_disk.specs.Record.{overwritten}
use Rattle.td_disk.proofs.OneCallMore.{rewritten, time_more, write_contents, write_bytes, write_others, write_images}
use Rattle.td_disk.proofs.memory.MemoryDiskDisk.write.Goals as goal

pub invariant_of-self : goal.invariant_of-self
invariant_of-self c =
    let it = c.args.self.now in
    let note = c.in-Ok.ensures.ok in
    record {
      replayed = rewritten it.bytes.items c.overwrite.new.image it.bytes.len (omega arith)
          ∙ c.overwrite.ensures
          ∙ ap (λ (l : List ℕ). overwritten c.args.at c.args.bytes.now l) (c.deref_mut.ensures.value ∙ it.replayed)
          ∙ sym (write_bytes it.initial.items it.calls.items c.note_write.new.calls.items c.args.at note.0 c.args.bytes.now note.1 note.2);
    }

pub returns-in-Ok-clause-others : goal.returns-in-Ok-clause-others
returns-in-Ok-clause-others c _ =
    let it = c.args.self.now in
    let note = c.in-Ok.ensures.ok in
    write_others it.initial.items it.calls.items c.note_write.new.calls.items c.args.at note.0 c.args.bytes.now note.1 note.2

pub returns-in-Ok-clause-images : goal.returns-in-Ok-clause-images
returns-in-Ok-clause-images c _ f image =
    let it = c.args.self.now in
    let note = c.in-Ok.ensures.ok in
    write_images it.initial.items it.calls.items c.note_write.new.calls.items c.args.at note.0 c.args.bytes.now note.1 note.2 f image

pub returns-in-Ok-clause-time : goal.returns-in-Ok-clause-time
returns-in-Ok-clause-time c _ =
    let note = c.in-Ok.ensures.ok in
    time_more c.args.self.now.initial.items c.args.self.now.calls.items c.note_write.new.calls.items _ note.2

pub returns-in-Ok-clause-gives : goal.returns-in-Ok-clause-gives
returns-in-Ok-clause-gives c =
    let it = c.args.self.now in
    let note = c.in-Ok.ensures.ok in
    record {
      done = write_contents it.initial.items it.calls.items c.note_write.new.calls.items c.args.at note.0 c.args.bytes.now note.1 note.2;
      failed = tt;
    }
