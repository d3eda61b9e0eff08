use Rattle.std.proofs.Common.{◌≡◌, inl, inr, ⊎_elim, ℕ, suc, ◌+◌, ◌<◌, ◌≤◌, ◌^◌, Bool, false, List, ◌∷◌, length, refl, sym, ap, ◌∙◌, subst, arith, rules}
use Rattle.td_gate.specs.CrashSafe.{CrashSafe}
use Rattle.td_gate.specs.declared.region.Region.{Region}
use Rattle.td_gate.specs.Region.{IsFilled, IsOpen, Puts}
use Rattle.td_journal.specs.declared.journal.Journal.{Journal}
use Rattle.td_journal.specs.declared.error.JournalError.TheVariants as JournalError
use Rattle.td_journal.specs.Cell.{cell_of, cell_bytes}
use Rattle.td_store.specs.standing.Told.{inputs_of, ring_of}
use Rattle.td_store.specs.group.Groups.{AreCellBatches, EachReady, Spares, touched}
use Rattle.td_store.proofs.group.Kept.{each_keeps, keeps_after, cell_batches, as_err}
use Rattle.td_store.proofs.group.Ready.{room_by, not_full, touched_wide}
use Rattle.td_store.proofs.group.submit.put_group.Goals as goal

pub returns-in_err-get_ready-clause-begun : goal.returns-in_err-get_ready-clause-begun
returns-in_err-get_ready-clause-begun g c lawful plan h side s ring room fresh valid keeps t0 f le left =
    let view = g.D.Disk.view in
    let laws = g.met.D.Disk in
    let j = c.args.journal.now in
    let e = c.args.first in
    let x = c.args.head.now in
    let xs = c.args.others.now in
    let l = length xs in
    let w = length s.submitted in
    let old = c.args.device.now in
    let mid = c.get_ready.new.device in
    let t = c.is_full-is_full.result in
    let n = h.shape.n in
    let place : e ≡ s.epoch + w + 1 = room.epoch in
    let kept : j.kept ≡ s.epoch = ap (λ (k : Journal). k.kept) ring in
    let cells : j.n ≡ n = ap (λ (k : Journal). k.n) ring in
    let full_at : j.kept + j.n ≡ s.epoch + n = omega (arith, kept, cells) in
    let wide : w + touched t (suc l) ≤ n = subst (λ (b : Bool). w + touched b (suc l) ≤ n) (sym c.is_full-is_full.ensures) (room_by (j.kept + j.n) (e + l) w l n s.epoch e full_at refl place room.room) in
    let some : 0 < touched t (suc l) = let wider = touched_wide t (suc l) in omega (arith, wider) in
    let each = each_keeps plan h side s (view old).state keeps in
    let count : l + 1 ≡ suc l = omega arith in
    let safe : CrashSafe (Spares (ring_of h.shape s.epoch) e (touched t (suc l))) (view old).state (view mid).state =
    subst (λ (k : Journal). CrashSafe (Spares k e (touched t (suc l))) (view old).state (view mid).state) ring
    (subst (λ (k : ℕ). CrashSafe (Spares j e (touched t k)) (view old).state (view mid).state) count (c.in_err-get_ready.ensures.crash_safe lawful keeps.durable)) in
    ⊎_elim (λ was. inl was) (λ told. inr (inl told)) (c.group_is_safe.ensures.ready plan h side s e (suc l) t old mid room some wide each safe t0 f le left)

pub returns-in_err-get_ready-clause-kept : goal.returns-in_err-get_ready-clause-kept
returns-in_err-get_ready-clause-kept g c is lawful plan h side s keeps =
    let view = g.D.Disk.view in
    let was : c.in_err-get_ready.field-0.0 ≡ JournalError.Memory = search (rules, is) in
    keeps_after plan h side s (view c.args.device.now).state (view c.get_ready.new.device).state keeps
    (c.in_err-get_ready.ensures.durable (ap as_err was) lawful keeps.durable) (c.in_err-get_ready.ensures.same (ap as_err was) lawful)

pub returns-in_err-uncover-clause-begun : goal.returns-in_err-uncover-clause-begun
returns-in_err-uncover-clause-begun g c lawful plan h side s ring room fresh valid keeps t0 f le left =
    let view = g.D.Disk.view in
    let laws = g.met.D.Disk in
    let j = c.args.journal.now in
    let e = c.args.first in
    let x = c.args.head.now in
    let xs = c.args.others.now in
    let l = length xs in
    let w = length s.submitted in
    let old = c.args.device.now in
    let mid = c.get_ready.new.device in
    let t = c.is_full-is_full.result in
    let n = h.shape.n in
    let place : e ≡ s.epoch + w + 1 = room.epoch in
    let kept : j.kept ≡ s.epoch = ap (λ (k : Journal). k.kept) ring in
    let cells : j.n ≡ n = ap (λ (k : Journal). k.n) ring in
    let full_at : j.kept + j.n ≡ s.epoch + n = omega (arith, kept, cells) in
    let wide : w + touched t (suc l) ≤ n = subst (λ (b : Bool). w + touched b (suc l) ≤ n) (sym c.is_full-is_full.ensures) (room_by (j.kept + j.n) (e + l) w l n s.epoch e full_at refl place room.room) in
    let some : 0 < touched t (suc l) = let wider = touched_wide t (suc l) in omega (arith, wider) in
    let each = each_keeps plan h side s (view old).state keeps in
    let count : l + 1 ≡ suc l = omega arith in
    let full : w + suc l < n → t ≡ false = λ left. c.is_full-is_full.ensures ∙ not_full (j.kept + j.n) (e + l) w l n s.epoch e full_at refl place left in
    let still = c.in_ok-get_ready.ensures.device.lawful.0 lawful in
    let safe : CrashSafe (Spares (ring_of h.shape s.epoch) e (touched t (suc l))) (view old).state (view mid).state =
    subst (λ (k : Journal). CrashSafe (Spares k e (touched t (suc l))) (view old).state (view mid).state) ring
    (subst (λ (k : ℕ). CrashSafe (Spares j e (touched t k)) (view old).state (view mid).state) count (c.in_ok-get_ready.ensures.crash_safe lawful keeps.durable)) in
    let ready : EachReady (ring_of h.shape s.epoch) e xs t (view mid).state =
    subst (λ (k : Journal). EachReady k e xs t (view mid).state) ring (c.in_ok-get_ready.ensures.ready lawful keeps.durable) in
    let payload : c.deref.result.now ≡ cell_bytes j.m e x.request x.batch = c.deref.ensures.value ∙ c.in_ok-payload.ensures.ok in
    let filled : IsFilled c.cell_of.result (cell_bytes j.m e x.request x.batch) (view mid).state =
    subst (λ (a : Region). IsFilled a (cell_bytes j.m e x.request x.batch) (view mid).state) (sym c.cell_of.ensures.region)
    (subst (λ (p : List ℕ). IsFilled (cell_of j e) p (view mid).state) payload (c.in_ok-get_ready.ensures.filled lawful keeps.durable)) in
    let new = c.uncover.new.device in
    let puts : CrashSafe (Puts (cell_of (ring_of h.shape s.epoch) e) (cell_bytes h.shape.m e x.request x.batch)) (view mid).state (view new).state =
    subst (λ (k : Journal). CrashSafe (Puts (cell_of k e) (cell_bytes k.m e x.request x.batch)) (view mid).state (view new).state) ring
    (subst (λ (a : Region). CrashSafe (Puts a (cell_bytes j.m e x.request x.batch)) (view mid).state (view new).state) c.cell_of.ensures.region
    (c.steps_are_puts.ensures.open c.cell_of.result (cell_bytes j.m e x.request x.batch) mid new (c.in_err-uncover.ensures.crash_safe still (cell_bytes j.m e x.request x.batch) filled))) in
    let small : j.m < 2 ^ 32 = omega (arith, c.requires.ring.records) in
    let one : x.request < 2 ^ 64 = omega arith in
    let ok : AreCellBatches (inputs_of plan) h.shape.m (x ∷ xs) =
    subst (λ (k : Journal). AreCellBatches (inputs_of plan) k.m (x ∷ xs)) ring
    (cell_batches (inputs_of plan) j.m (x ∷ xs) small c.requires.few valid ((c.in_ok-payload.ensures.fits, one), c.in_ok-bytes.ensures.fits)) in
    c.group_is_safe.ensures.begun plan h side s e x xs t old mid new room some wide full fresh ok each still safe ready puts t0 f le left

pub returns-clause-begun : goal.returns-clause-begun
returns-clause-begun g c lawful plan h side s ring room fresh valid keeps t0 f le left =
    let view = g.D.Disk.view in
    let laws = g.met.D.Disk in
    let j = c.args.journal.now in
    let e = c.args.first in
    let x = c.args.head.now in
    let xs = c.args.others.now in
    let l = length xs in
    let w = length s.submitted in
    let old = c.args.device.now in
    let mid = c.get_ready.new.device in
    let t = c.is_full-is_full.result in
    let n = h.shape.n in
    let place : e ≡ s.epoch + w + 1 = room.epoch in
    let kept : j.kept ≡ s.epoch = ap (λ (k : Journal). k.kept) ring in
    let cells : j.n ≡ n = ap (λ (k : Journal). k.n) ring in
    let full_at : j.kept + j.n ≡ s.epoch + n = omega (arith, kept, cells) in
    let wide : w + touched t (suc l) ≤ n = subst (λ (b : Bool). w + touched b (suc l) ≤ n) (sym c.is_full-is_full.ensures) (room_by (j.kept + j.n) (e + l) w l n s.epoch e full_at refl place room.room) in
    let some : 0 < touched t (suc l) = let wider = touched_wide t (suc l) in omega (arith, wider) in
    let each = each_keeps plan h side s (view old).state keeps in
    let count : l + 1 ≡ suc l = omega arith in
    let full : w + suc l < n → t ≡ false = λ left. c.is_full-is_full.ensures ∙ not_full (j.kept + j.n) (e + l) w l n s.epoch e full_at refl place left in
    let still = c.in_ok-get_ready.ensures.device.lawful.0 lawful in
    let safe : CrashSafe (Spares (ring_of h.shape s.epoch) e (touched t (suc l))) (view old).state (view mid).state =
    subst (λ (k : Journal). CrashSafe (Spares k e (touched t (suc l))) (view old).state (view mid).state) ring
    (subst (λ (k : ℕ). CrashSafe (Spares j e (touched t k)) (view old).state (view mid).state) count (c.in_ok-get_ready.ensures.crash_safe lawful keeps.durable)) in
    let ready : EachReady (ring_of h.shape s.epoch) e xs t (view mid).state =
    subst (λ (k : Journal). EachReady k e xs t (view mid).state) ring (c.in_ok-get_ready.ensures.ready lawful keeps.durable) in
    let payload : c.deref.result.now ≡ cell_bytes j.m e x.request x.batch = c.deref.ensures.value ∙ c.in_ok-payload.ensures.ok in
    let filled : IsFilled c.cell_of.result (cell_bytes j.m e x.request x.batch) (view mid).state =
    subst (λ (a : Region). IsFilled a (cell_bytes j.m e x.request x.batch) (view mid).state) (sym c.cell_of.ensures.region)
    (subst (λ (p : List ℕ). IsFilled (cell_of j e) p (view mid).state) payload (c.in_ok-get_ready.ensures.filled lawful keeps.durable)) in
    let new = c.uncover.new.device in
    let puts : CrashSafe (Puts (cell_of (ring_of h.shape s.epoch) e) (cell_bytes h.shape.m e x.request x.batch)) (view mid).state (view new).state =
    subst (λ (k : Journal). CrashSafe (Puts (cell_of k e) (cell_bytes k.m e x.request x.batch)) (view mid).state (view new).state) ring
    (subst (λ (a : Region). CrashSafe (Puts a (cell_bytes j.m e x.request x.batch)) (view mid).state (view new).state) c.cell_of.ensures.region
    (c.steps_are_puts.ensures.open c.cell_of.result (cell_bytes j.m e x.request x.batch) mid new (c.in_ok-uncover.ensures.crash_safe still (cell_bytes j.m e x.request x.batch) filled))) in
    let small : j.m < 2 ^ 32 = omega (arith, c.requires.ring.records) in
    let one : x.request < 2 ^ 64 = omega arith in
    let ok : AreCellBatches (inputs_of plan) h.shape.m (x ∷ xs) =
    subst (λ (k : Journal). AreCellBatches (inputs_of plan) k.m (x ∷ xs)) ring
    (cell_batches (inputs_of plan) j.m (x ∷ xs) small c.requires.few valid ((c.in_ok-payload.ensures.fits, one), c.in_ok-bytes.ensures.fits)) in
    c.group_is_safe.ensures.begun plan h side s e x xs t old mid new room some wide full fresh ok each still safe ready puts t0 f le left

pub returns-clause-done : goal.returns-clause-done
returns-clause-done g c lawful plan h side s ring room fresh valid keeps =
    let view = g.D.Disk.view in
    let laws = g.met.D.Disk in
    let j = c.args.journal.now in
    let e = c.args.first in
    let x = c.args.head.now in
    let xs = c.args.others.now in
    let l = length xs in
    let w = length s.submitted in
    let old = c.args.device.now in
    let mid = c.get_ready.new.device in
    let t = c.is_full-is_full.result in
    let n = h.shape.n in
    let place : e ≡ s.epoch + w + 1 = room.epoch in
    let kept : j.kept ≡ s.epoch = ap (λ (k : Journal). k.kept) ring in
    let cells : j.n ≡ n = ap (λ (k : Journal). k.n) ring in
    let full_at : j.kept + j.n ≡ s.epoch + n = omega (arith, kept, cells) in
    let wide : w + touched t (suc l) ≤ n = subst (λ (b : Bool). w + touched b (suc l) ≤ n) (sym c.is_full-is_full.ensures) (room_by (j.kept + j.n) (e + l) w l n s.epoch e full_at refl place room.room) in
    let some : 0 < touched t (suc l) = let wider = touched_wide t (suc l) in omega (arith, wider) in
    let each = each_keeps plan h side s (view old).state keeps in
    let count : l + 1 ≡ suc l = omega arith in
    let full : w + suc l < n → t ≡ false = λ left. c.is_full-is_full.ensures ∙ not_full (j.kept + j.n) (e + l) w l n s.epoch e full_at refl place left in
    let still = c.in_ok-get_ready.ensures.device.lawful.0 lawful in
    let safe : CrashSafe (Spares (ring_of h.shape s.epoch) e (touched t (suc l))) (view old).state (view mid).state =
    subst (λ (k : Journal). CrashSafe (Spares k e (touched t (suc l))) (view old).state (view mid).state) ring
    (subst (λ (k : ℕ). CrashSafe (Spares j e (touched t k)) (view old).state (view mid).state) count (c.in_ok-get_ready.ensures.crash_safe lawful keeps.durable)) in
    let ready : EachReady (ring_of h.shape s.epoch) e xs t (view mid).state =
    subst (λ (k : Journal). EachReady k e xs t (view mid).state) ring (c.in_ok-get_ready.ensures.ready lawful keeps.durable) in
    let payload : c.deref.result.now ≡ cell_bytes j.m e x.request x.batch = c.deref.ensures.value ∙ c.in_ok-payload.ensures.ok in
    let filled : IsFilled c.cell_of.result (cell_bytes j.m e x.request x.batch) (view mid).state =
    subst (λ (a : Region). IsFilled a (cell_bytes j.m e x.request x.batch) (view mid).state) (sym c.cell_of.ensures.region)
    (subst (λ (p : List ℕ). IsFilled (cell_of j e) p (view mid).state) payload (c.in_ok-get_ready.ensures.filled lawful keeps.durable)) in
    let new = c.uncover.new.device in
    let puts : CrashSafe (Puts (cell_of (ring_of h.shape s.epoch) e) (cell_bytes h.shape.m e x.request x.batch)) (view mid).state (view new).state =
    subst (λ (k : Journal). CrashSafe (Puts (cell_of k e) (cell_bytes k.m e x.request x.batch)) (view mid).state (view new).state) ring
    (subst (λ (a : Region). CrashSafe (Puts a (cell_bytes j.m e x.request x.batch)) (view mid).state (view new).state) c.cell_of.ensures.region
    (c.steps_are_puts.ensures.open c.cell_of.result (cell_bytes j.m e x.request x.batch) mid new (c.in_ok-uncover.ensures.crash_safe still (cell_bytes j.m e x.request x.batch) filled))) in
    let small : j.m < 2 ^ 32 = omega (arith, c.requires.ring.records) in
    let one : x.request < 2 ^ 64 = omega arith in
    let ok : AreCellBatches (inputs_of plan) h.shape.m (x ∷ xs) =
    subst (λ (k : Journal). AreCellBatches (inputs_of plan) k.m (x ∷ xs)) ring
    (cell_batches (inputs_of plan) j.m (x ∷ xs) small c.requires.few valid ((c.in_ok-payload.ensures.fits, one), c.in_ok-bytes.ensures.fits)) in
    let also = c.in_ok-uncover.ensures.device.lawful.0 still in
    let is_open : IsOpen (cell_of (ring_of h.shape s.epoch) e) (cell_bytes h.shape.m e x.request x.batch) (view new).state =
    subst (λ (k : Journal). IsOpen (cell_of k e) (cell_bytes k.m e x.request x.batch) (view new).state) ring
    (subst (λ (a : Region). IsOpen a (cell_bytes j.m e x.request x.batch) (view new).state) c.cell_of.ensures.region
    (c.in_ok-uncover.ensures.open still (cell_bytes j.m e x.request x.batch) filled)) in record {
      durable = c.in_ok-uncover.ensures.durable still;
      tells = c.group_is_safe.ensures.done plan h side s e x xs t old mid new room some wide full fresh ok each still also safe ready puts is_open (view new).state.bytes (laws.reads_image new also);
    }

pub returns-in_err-get_ready-clause-later : goal.returns-in_err-get_ready-clause-later
returns-in_err-get_ready-clause-later g c lawful durable = (c.in_err-get_ready.ensures.crash_safe lawful durable).later

pub returns-in_err-uncover-clause-later : goal.returns-in_err-uncover-clause-later
returns-in_err-uncover-clause-later g c lawful durable =
    let ready = (c.in_ok-get_ready.ensures.crash_safe lawful durable).later in
    let still = c.in_ok-get_ready.ensures.device.lawful.0 lawful in
    let filled = subst (λ (a : Region). IsFilled a c.deref.result.now (g.D.Disk.view c.get_ready.new.device).state) (sym c.cell_of.ensures.region) (c.in_ok-get_ready.ensures.filled lawful durable) in
    let puts = (c.in_err-uncover.ensures.crash_safe still c.deref.result.now filled).later in
    omega (arith, ready, puts)

pub returns-clause-later : goal.returns-clause-later
returns-clause-later g c lawful durable =
    let ready = (c.in_ok-get_ready.ensures.crash_safe lawful durable).later in
    let still = c.in_ok-get_ready.ensures.device.lawful.0 lawful in
    let filled = subst (λ (a : Region). IsFilled a c.deref.result.now (g.D.Disk.view c.get_ready.new.device).state) (sym c.cell_of.ensures.region) (c.in_ok-get_ready.ensures.filled lawful durable) in
    let puts = (c.in_ok-uncover.ensures.crash_safe still c.deref.result.now filled).later in
    omega (arith, ready, puts)
