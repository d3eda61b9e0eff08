use Rattle.std.proofs.Common.{◌≡◌, inl, inr, ⊎_elim, ℕ, suc, ◌+◌, ◌<◌, ◌≤◌, ◌^◌, List, length, Result, Err, sym, ap, ◌∙◌, subst, arith, rules}
use Rattle.td_gate.specs.CrashSafe.{CrashSafe}
use Rattle.td_gate.specs.declared.region.Region.{Region}
use Rattle.td_gate.specs.Region.{IsSettled, IsOpen, Puts}
use Rattle.td_journal.specs.declared.journal.Journal.{Journal}
use Rattle.td_journal.specs.declared.error.JournalError.{JournalError as AnyError}
use Rattle.td_journal.specs.declared.error.JournalError.TheVariants as JournalError
use Rattle.td_journal.specs.Cell.{cell_of, cell_bytes, IsCellBatch}
use Rattle.td_journal.specs.Images.{Clears, IsGone}
use Rattle.td_store.specs.standing.Standing.{submission}
use Rattle.td_store.specs.standing.Told.{inputs_of, ring_of}
use Rattle.td_store.proofs.standing.Kept.{each_keeps, keeps_after}
use Rattle.td_store.proofs.standing.steps.submit_batch.Goals as goal

abbrev as_err : AnyError → Result (Unit {0}) AnyError
as_err e = Err e

pub put-requires-clause-len : goal.put-requires-clause-len
put-requires-clause-len g c = ap length (c.deref.ensures.value ∙ c.in_ok-payload.ensures.ok) ∙ c.cells_read_back.ensures.size c.args.journal.now.m c.args.epoch c.args.request c.args.batch.now c.requires.few ∙ sym (ap (λ (r : Region). r.len) c.cell_of.ensures.region)

pub returns-in_err-payload-clause-batch : goal.returns-in_err-payload-clause-batch
returns-in_err-payload-clause-batch g c =
    record {
      later = search rules;
      begun = λ lawful plan head side s ring room fresh valid keeps t f le left. inl left;
      unwritten = search rules;
      kept = λ is lawful plan head side s keeps. keeps;
      done = search rules;
    }

pub returns-in_err-clear-clause-batch : goal.returns-in_err-clear-clause-batch
returns-in_err-clear-clause-batch g c =
    record {
      later = λ lawful durable.
          let old = c.args.device.now in
          let cell = cell_of c.args.journal.now (c.args.epoch + 1) in
          (c.in_err-clear.ensures.crash_safe lawful (c.durable_is_settled.ensures old cell durable)).later;
      begun = λ lawful plan head side s ring room fresh valid keeps t f le left.
          let view = g.D.Disk.view in
          let old = c.args.device.now in
          let mid = c.clear.new.device in
          let e = c.args.epoch in
          let next : e + 1 ≡ suc e = omega arith in
          let settled : IsSettled (cell_of c.args.journal.now (e + 1)) (view old).state = c.durable_is_settled.ensures old (cell_of c.args.journal.now (e + 1)) keeps.durable in
          let clears : CrashSafe (Clears (ring_of head.shape s.epoch) (suc e)) (view old).state (view mid).state =
          subst (λ (j : Journal). CrashSafe (Clears j (suc e)) (view old).state (view mid).state) ring
          (subst (λ (n : ℕ). CrashSafe (Clears c.args.journal.now n) (view old).state (view mid).state) next (c.in_err-clear.ensures.crash_safe lawful settled)) in
          ⊎_elim (λ was. inl was) (λ told. inr (inl told)) (c.submit_is_safe.ensures.cleared plan head side s e old mid room (each_keeps plan head side s (view old).state keeps) clears t f le left);
      unwritten = search rules;
      kept = λ is lawful plan head side s keeps.
          let view = g.D.Disk.view in
          let was : c.in_err-clear.field-0.0 ≡ JournalError.Memory = search (rules, is) in
          keeps_after plan head side s (view c.args.device.now).state (view c.clear.new.device).state keeps
          (c.in_err-clear.ensures.durable was lawful keeps.durable) (c.in_err-clear.ensures.same (ap as_err was) lawful);
      done = search rules;
    }

pub returns-in_err-put-clause-batch : goal.returns-in_err-put-clause-batch
returns-in_err-put-clause-batch g c =
    record {
      later = λ lawful durable.
          let cell = cell_of c.args.journal.now (c.args.epoch + 1) in
          let clears = (c.in_ok-clear.ensures.crash_safe lawful (c.durable_is_settled.ensures c.args.device.now cell durable)).later in
          let still = c.in_ok-clear.ensures.device.lawful.0 lawful in
          let after = c.in_ok-clear.ensures.durable tt lawful durable in
          let puts = (c.in_err-put.ensures.crash_safe still (c.durable_is_settled.ensures c.clear.new.device c.cell_of.result after)).later in
          omega arith;
      begun = λ lawful plan head side s ring room fresh valid keeps t f le left.
          let view = g.D.Disk.view in
          let laws = g.met.D.Disk in
          let old = c.args.device.now in
          let mid = c.clear.new.device in
          let new = c.put.new.device in
          let e = c.args.epoch in
          let r = c.args.request in
          let x = c.args.batch.now in
          let j = c.args.journal.now in
          let next : e + 1 ≡ suc e = omega arith in
          let still = c.in_ok-clear.ensures.device.lawful.0 lawful in
          let settled : IsSettled (cell_of j (e + 1)) (view old).state = c.durable_is_settled.ensures old (cell_of j (e + 1)) keeps.durable in
          let clears : CrashSafe (Clears (ring_of head.shape s.epoch) (suc e)) (view old).state (view mid).state =
          subst (λ (k : Journal). CrashSafe (Clears k (suc e)) (view old).state (view mid).state) ring
          (subst (λ (n : ℕ). CrashSafe (Clears j n) (view old).state (view mid).state) next (c.in_ok-clear.ensures.crash_safe lawful settled)) in
          let gone : IsGone (ring_of head.shape s.epoch) (suc e) (view mid).state =
          subst (λ (k : Journal). IsGone k (suc e) (view mid).state) ring
          (subst (λ (n : ℕ). IsGone j n (view mid).state) next (c.in_ok-clear.ensures.gone lawful settled)) in
          let durable = c.in_ok-clear.ensures.durable tt lawful keeps.durable in
          let settled_mid : IsSettled c.cell_of.result (view mid).state = c.durable_is_settled.ensures mid c.cell_of.result durable in
          let payload = c.deref.ensures.value ∙ c.in_ok-payload.ensures.ok in
          let puts : CrashSafe (Puts (cell_of (ring_of head.shape s.epoch) e) (cell_bytes head.shape.m e r x)) (view mid).state (view new).state =
          subst (λ (k : Journal). CrashSafe (Puts (cell_of k e) (cell_bytes k.m e r x)) (view mid).state (view new).state) ring
          (subst (λ (a : Region). CrashSafe (Puts a (cell_bytes j.m e r x)) (view mid).state (view new).state) c.cell_of.ensures.region
          (subst (λ (p : List ℕ). CrashSafe (Puts c.cell_of.result p) (view mid).state (view new).state) payload (c.in_err-put.ensures.crash_safe still settled_mid))) in
          let fits : r < 2 ^ 64 = omega arith in
          let small : j.m < 2 ^ 32 = omega (arith, c.requires.ring.records) in
          let ok : IsCellBatch (inputs_of plan) head.shape.m (submission r x) = record {
            few = subst (λ (k : Journal). length x ≤ k.m) ring c.requires.few;
            room = subst (λ (k : Journal). k.m < 2 ^ 32) ring small;
            lawful = valid;
            fits = c.in_ok-payload.ensures.fits;
            request = fits;
          } in
          c.submit_is_safe.ensures.begun plan head side s e (submission r x) old mid new room fresh ok (each_keeps plan head side s (view old).state keeps) still clears gone puts t f le left;
      unwritten = search rules;
      kept = search rules;
      done = search rules;
    }

pub returns-clause-batch : goal.returns-clause-batch
returns-clause-batch g c =
    record {
      later = λ lawful durable.
          let cell = cell_of c.args.journal.now (c.args.epoch + 1) in
          let clears = (c.in_ok-clear.ensures.crash_safe lawful (c.durable_is_settled.ensures c.args.device.now cell durable)).later in
          let still = c.in_ok-clear.ensures.device.lawful.0 lawful in
          let after = c.in_ok-clear.ensures.durable tt lawful durable in
          let puts = (c.in_ok-put.ensures.crash_safe still (c.durable_is_settled.ensures c.clear.new.device c.cell_of.result after)).later in
          omega arith;
      begun = λ lawful plan head side s ring room fresh valid keeps t f le left.
          let view = g.D.Disk.view in
          let laws = g.met.D.Disk in
          let old = c.args.device.now in
          let mid = c.clear.new.device in
          let new = c.put.new.device in
          let e = c.args.epoch in
          let r = c.args.request in
          let x = c.args.batch.now in
          let j = c.args.journal.now in
          let next : e + 1 ≡ suc e = omega arith in
          let still = c.in_ok-clear.ensures.device.lawful.0 lawful in
          let settled : IsSettled (cell_of j (e + 1)) (view old).state = c.durable_is_settled.ensures old (cell_of j (e + 1)) keeps.durable in
          let clears : CrashSafe (Clears (ring_of head.shape s.epoch) (suc e)) (view old).state (view mid).state =
          subst (λ (k : Journal). CrashSafe (Clears k (suc e)) (view old).state (view mid).state) ring
          (subst (λ (n : ℕ). CrashSafe (Clears j n) (view old).state (view mid).state) next (c.in_ok-clear.ensures.crash_safe lawful settled)) in
          let gone : IsGone (ring_of head.shape s.epoch) (suc e) (view mid).state =
          subst (λ (k : Journal). IsGone k (suc e) (view mid).state) ring
          (subst (λ (n : ℕ). IsGone j n (view mid).state) next (c.in_ok-clear.ensures.gone lawful settled)) in
          let durable = c.in_ok-clear.ensures.durable tt lawful keeps.durable in
          let settled_mid : IsSettled c.cell_of.result (view mid).state = c.durable_is_settled.ensures mid c.cell_of.result durable in
          let payload = c.deref.ensures.value ∙ c.in_ok-payload.ensures.ok in
          let puts : CrashSafe (Puts (cell_of (ring_of head.shape s.epoch) e) (cell_bytes head.shape.m e r x)) (view mid).state (view new).state =
          subst (λ (k : Journal). CrashSafe (Puts (cell_of k e) (cell_bytes k.m e r x)) (view mid).state (view new).state) ring
          (subst (λ (a : Region). CrashSafe (Puts a (cell_bytes j.m e r x)) (view mid).state (view new).state) c.cell_of.ensures.region
          (subst (λ (p : List ℕ). CrashSafe (Puts c.cell_of.result p) (view mid).state (view new).state) payload (c.in_ok-put.ensures.crash_safe still settled_mid))) in
          let fits : r < 2 ^ 64 = omega arith in
          let small : j.m < 2 ^ 32 = omega (arith, c.requires.ring.records) in
          let ok : IsCellBatch (inputs_of plan) head.shape.m (submission r x) = record {
            few = subst (λ (k : Journal). length x ≤ k.m) ring c.requires.few;
            room = subst (λ (k : Journal). k.m < 2 ^ 32) ring small;
            lawful = valid;
            fits = c.in_ok-payload.ensures.fits;
            request = fits;
          } in
          c.submit_is_safe.ensures.begun plan head side s e (submission r x) old mid new room fresh ok (each_keeps plan head side s (view old).state keeps) still clears gone puts t f le left;
      unwritten = search rules;
      kept = search rules;
      done = λ lawful plan head side s ring room fresh valid keeps.
          let view = g.D.Disk.view in
          let laws = g.met.D.Disk in
          let old = c.args.device.now in
          let mid = c.clear.new.device in
          let new = c.put.new.device in
          let e = c.args.epoch in
          let r = c.args.request in
          let x = c.args.batch.now in
          let j = c.args.journal.now in
          let next : e + 1 ≡ suc e = omega arith in
          let still = c.in_ok-clear.ensures.device.lawful.0 lawful in
          let settled : IsSettled (cell_of j (e + 1)) (view old).state = c.durable_is_settled.ensures old (cell_of j (e + 1)) keeps.durable in
          let clears : CrashSafe (Clears (ring_of head.shape s.epoch) (suc e)) (view old).state (view mid).state =
          subst (λ (k : Journal). CrashSafe (Clears k (suc e)) (view old).state (view mid).state) ring
          (subst (λ (n : ℕ). CrashSafe (Clears j n) (view old).state (view mid).state) next (c.in_ok-clear.ensures.crash_safe lawful settled)) in
          let gone : IsGone (ring_of head.shape s.epoch) (suc e) (view mid).state =
          subst (λ (k : Journal). IsGone k (suc e) (view mid).state) ring
          (subst (λ (n : ℕ). IsGone j n (view mid).state) next (c.in_ok-clear.ensures.gone lawful settled)) in
          let durable = c.in_ok-clear.ensures.durable tt lawful keeps.durable in
          let settled_mid : IsSettled c.cell_of.result (view mid).state = c.durable_is_settled.ensures mid c.cell_of.result durable in
          let payload = c.deref.ensures.value ∙ c.in_ok-payload.ensures.ok in
          let puts : CrashSafe (Puts (cell_of (ring_of head.shape s.epoch) e) (cell_bytes head.shape.m e r x)) (view mid).state (view new).state =
          subst (λ (k : Journal). CrashSafe (Puts (cell_of k e) (cell_bytes k.m e r x)) (view mid).state (view new).state) ring
          (subst (λ (a : Region). CrashSafe (Puts a (cell_bytes j.m e r x)) (view mid).state (view new).state) c.cell_of.ensures.region
          (subst (λ (p : List ℕ). CrashSafe (Puts c.cell_of.result p) (view mid).state (view new).state) payload (c.in_ok-put.ensures.crash_safe still settled_mid))) in
          let fits : r < 2 ^ 64 = omega arith in
          let small : j.m < 2 ^ 32 = omega (arith, c.requires.ring.records) in
          let ok : IsCellBatch (inputs_of plan) head.shape.m (submission r x) = record {
            few = subst (λ (k : Journal). length x ≤ k.m) ring c.requires.few;
            room = subst (λ (k : Journal). k.m < 2 ^ 32) ring small;
            lawful = valid;
            fits = c.in_ok-payload.ensures.fits;
            request = fits;
          } in
          let also = c.in_ok-put.ensures.device.lawful.0 still in
          let is_open : IsOpen (cell_of (ring_of head.shape s.epoch) e) (cell_bytes head.shape.m e r x) (view new).state =
          subst (λ (k : Journal). IsOpen (cell_of k e) (cell_bytes k.m e r x) (view new).state) ring
          (subst (λ (a : Region). IsOpen a (cell_bytes j.m e r x) (view new).state) c.cell_of.ensures.region
          (subst (λ (p : List ℕ). IsOpen c.cell_of.result p (view new).state) payload (c.in_ok-put.ensures.open still settled_mid))) in
          record {
            durable = c.in_ok-put.ensures.durable still;
            tells = c.submit_is_safe.ensures.done plan head side s e (submission r x) old mid new room fresh ok (each_keeps plan head side s (view old).state keeps) still also clears gone puts is_open (view new).state.bytes (laws.reads_image new also);
          };
    }
