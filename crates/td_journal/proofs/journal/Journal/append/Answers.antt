use Rattle.std.proofs.Common.{arith, rules, ℕ, List, length, ap, sym, ◌∙◌, subst}
use Rattle.td_gate.specs.CrashSafe.{CrashSafe}
use Rattle.td_gate.specs.declared.region.Region.{Region}
use Rattle.td_gate.specs.Region.{IsSettled, IsOpen, Puts}
use Rattle.td_journal.specs.Cell.{cell_bytes}
use Rattle.td_journal.proofs.Cells.{cell_size}
use Rattle.td_journal.proofs.journal.Journal.append.Goals as goal

pub put-requires-clause-len : goal.put-requires-clause-len
put-requires-clause-len g c = ap length (c.deref.ensures.value ∙ c.in_ok-payload.ensures.ok) ∙ cell_size c.args.self.now.m c.args.epoch c.args.request c.args.batch.now (omega (arith, c.if-self-len.false, c.len.ensures)) ∙ sym (ap (λ (r : Region). r.len) c.cell_of.ensures.region)

pub returns-in_err-put-clause-put : goal.returns-in_err-put-clause-put
returns-in_err-put-clause-put g c =
    let view = g.D.Disk.view in
    let region = c.cell_of.ensures.region in
    let payload = c.deref.ensures.value ∙ c.in_ok-payload.ensures.ok in
    record {
      crash_safe = λ lawful settled.
          subst (λ (r : Region). CrashSafe (Puts r (cell_bytes c.args.self.now.m c.args.epoch c.args.request c.args.batch.now)) (view c.args.device.now).state (view c.put.new.device).state) region
          (subst (λ (p : List ℕ). CrashSafe (Puts c.cell_of.result p) (view c.args.device.now).state (view c.put.new.device).state) payload
          (c.in_err-put.ensures.crash_safe lawful (subst (λ (r : Region). IsSettled r (view c.args.device.now).state) (sym region) settled)));
      is_open = search rules;
      durable = search rules;
    }

pub returns-clause-put : goal.returns-clause-put
returns-clause-put g c =
    let view = g.D.Disk.view in
    let region = c.cell_of.ensures.region in
    let payload = c.deref.ensures.value ∙ c.in_ok-payload.ensures.ok in
    record {
      crash_safe = λ lawful settled.
          subst (λ (r : Region). CrashSafe (Puts r (cell_bytes c.args.self.now.m c.args.epoch c.args.request c.args.batch.now)) (view c.args.device.now).state (view c.put.new.device).state) region
          (subst (λ (p : List ℕ). CrashSafe (Puts c.cell_of.result p) (view c.args.device.now).state (view c.put.new.device).state) payload
          (c.in_ok-put.ensures.crash_safe lawful (subst (λ (r : Region). IsSettled r (view c.args.device.now).state) (sym region) settled)));
      is_open = λ lawful settled.
          subst (λ (r : Region). IsOpen r (cell_bytes c.args.self.now.m c.args.epoch c.args.request c.args.batch.now) (view c.put.new.device).state) region
          (subst (λ (p : List ℕ). IsOpen c.cell_of.result p (view c.put.new.device).state) payload
          (c.in_ok-put.ensures.open lawful (subst (λ (r : Region). IsSettled r (view c.args.device.now).state) (sym region) settled)));
      durable = c.in_ok-put.ensures.durable;
    }
