use Rattle.std.proofs.Common.{rules, ◌≤◌, ℕ, List, length, ap, sym, ◌∙◌, arith, subst}
use Rattle.td_gate.specs.CrashSafe.{CrashSafe}
use Rattle.td_gate.specs.declared.region.Region.{Region}
use Rattle.td_gate.specs.Region.{IsSettled, IsOpen, Puts}
use Rattle.td_plan.specs.Lines.{text_of}
use Rattle.td_head.specs.Head.{head_bytes}
use Rattle.td_head.proofs.ReadBack.{head_size}
use Rattle.td_head.proofs.put.put_head.Goals as goal

pub put-requires-clause-len : goal.put-requires-clause-len
put-requires-clause-len g c =
    let spelled = c.deref.ensures ∙ c.in-Ok.ensures.ok in
    let bytes = c.canonical_text.ensures.bytes c.args.plan.now c.in-Ok.ensures.again.lawful in
    let few : length c.deref.result.now ≤ 4096 = subst (λ (l : List ℕ). length l ≤ 4096) (sym spelled) (omega (arith, bytes)) in
    ap length (c.deref-2.ensures.value ∙ c.in_ok-payload.ensures.ok) ∙ head_size 2 c.args.generation c.args.shape c.deref.result.now few
    ∙ sym (ap (λ (r : Region). r.len) c.head_region.ensures)

pub returns-in_err-put-clause-put : goal.returns-in_err-put-clause-put
returns-in_err-put-clause-put g c =
    let view = g.D.Disk.view in
    let region = c.head_region.ensures in
    let payload = c.deref-2.ensures.value ∙ c.in_ok-payload.ensures.ok ∙ ap (head_bytes 2 c.args.generation c.args.shape) (c.deref.ensures ∙ c.in-Ok.ensures.ok) in
    record {
      crash_safe = λ lawful settled.
          subst (λ (r : Region). CrashSafe (Puts r (head_bytes 2 c.args.generation c.args.shape (text_of c.args.plan.now))) (view c.args.device.now).state (view c.put.new.device).state) region
          (subst (λ (p : List ℕ). CrashSafe (Puts c.head_region.result p) (view c.args.device.now).state (view c.put.new.device).state) payload
          (c.in_err-put.ensures.crash_safe lawful (subst (λ (r : Region). IsSettled r (view c.args.device.now).state) (sym region) settled)));
      is_open = search rules;
      durable = search rules;
    }

pub returns-clause-put : goal.returns-clause-put
returns-clause-put g c =
    let view = g.D.Disk.view in
    let region = c.head_region.ensures in
    let payload = c.deref-2.ensures.value ∙ c.in_ok-payload.ensures.ok ∙ ap (head_bytes 2 c.args.generation c.args.shape) (c.deref.ensures ∙ c.in-Ok.ensures.ok) in
    record {
      crash_safe = λ lawful settled.
          subst (λ (r : Region). CrashSafe (Puts r (head_bytes 2 c.args.generation c.args.shape (text_of c.args.plan.now))) (view c.args.device.now).state (view c.put.new.device).state) region
          (subst (λ (p : List ℕ). CrashSafe (Puts c.head_region.result p) (view c.args.device.now).state (view c.put.new.device).state) payload
          (c.in_ok-put.ensures.crash_safe lawful (subst (λ (r : Region). IsSettled r (view c.args.device.now).state) (sym region) settled)));
      is_open = λ lawful settled.
          subst (λ (r : Region). IsOpen r (head_bytes 2 c.args.generation c.args.shape (text_of c.args.plan.now)) (view c.put.new.device).state) region
          (subst (λ (p : List ℕ). IsOpen c.head_region.result p (view c.put.new.device).state) payload
          (c.in_ok-put.ensures.open lawful (subst (λ (r : Region). IsSettled r (view c.args.device.now).state) (sym region) settled)));
      durable = c.in_ok-put.ensures.durable;
    }
