use Rattle.std.proofs.Common.{rules, subst}
use Rattle.td_gate.specs.CrashSafe.{CrashSafe}
use Rattle.td_journal.specs.declared.journal.Journal.{Journal}
use Rattle.td_store.specs.group.Groups.{ClosesSome}
use Rattle.td_store.proofs.group.Kept.{each_keeps, at_ok}
use Rattle.td_store.proofs.group.free.close_free.Goals as goal

pub returns-clause-free : goal.returns-clause-free
returns-clause-free g c =
    record {
      later = search rules;
      begun = λ lawful plan h side s ring free keeps.
          let view = g.D.Disk.view in
          let old = c.args.device.now in
          let new = c.close_cells.new.device in
          let safe = subst (λ (j : Journal). CrashSafe (ClosesSome j c.args.first c.args.count) (view old).state (view new).state) ring (c.close_cells.ensures.crash_safe lawful keeps.durable) in
          c.closing_is_safe.ensures.begun plan h side s c.args.first c.args.count old new free (each_keeps plan h side s (view old).state keeps) safe;
      done =
          let view = g.D.Disk.view in
          let old = c.args.device.now in
          let new = c.close_cells.new.device in
          at_ok c.close_cells.result _ _
          (λ durable lawful plan h side s ring free keeps.
          let also = c.close_cells.ensures.device.lawful.0 lawful in
          let safe = subst (λ (j : Journal). CrashSafe (ClosesSome j c.args.first c.args.count) (view old).state (view new).state) ring (c.close_cells.ensures.crash_safe lawful keeps.durable) in
          record {
            durable = durable lawful keeps.durable;
            tells = c.closing_is_safe.ensures.done plan h side s c.args.first c.args.count old new free (each_keeps plan h side s (view old).state keeps) also safe (view new).state.bytes (g.met.D.Disk.reads_image new also);
          })
          c.close_cells.ensures.durable;
    }
