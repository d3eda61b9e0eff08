use Rattle.std.proofs.Common.{◌≡◌, ⊎_elim, inl, inr, ℕ, ◌≤◌, List, length, refl, sym, ap, ◌∙◌, subst, arith, Result, Ok, Err}
use Rattle.std.specs.Prelude.{Option, Some, None, Vec, IfOk, IfErr}
use Rattle.std.specs.declared.alloc.Global.{Global}
use Rattle.td_gate.specs.Region.{opened}
use Rattle.td_head.specs.Layout.{head}
use Rattle.td_head.specs.Head.{Fields, candidate, greater, head_of, fields_in, text_in}
use Rattle.td_head.specs.Read.{Headed, Refused, IsFieldsTold, fields_of, chosen_of}
use Rattle.td_head.proofs.Canonical.{decided}
use Rattle.td_head.proofs.Told.{small_disk, no_head, of_fields}
use Rattle.td_head.proofs.head.read.Goals as goal

if_ok_map : {T E : Type 0} {P Q : T → Type 0} (r : Result T E) → ((s : T) → P s → Q s) → IfOk r P → IfOk r Q
if_ok_map (Ok s) f p = f s p
if_ok_map (Err e) f p = tt

if_err_map : {T E : Type 0} {P Q : E → Type 0} (r : Result T E) → ((e : E) → P e → Q e) → IfErr r P → IfErr r Q
if_err_map (Ok s) f p = tt
if_err_map (Err e) f p = f e p

is_none : (o : Option (ℕ × Vec ℕ Global)) → ((v : ℕ × Vec ℕ Global) → o ≡ Some v → ⊥) → chosen_of o ≡ None
is_none None not = refl
is_none (Some v) not = absurd (not v refl)

pub returns-then-size-lt-HEADS_LEN-clause-refused : goal.returns-then-size-lt-HEADS_LEN-clause-refused
returns-then-size-lt-HEADS_LEN-clause-refused g c =
    let view = g.D.Disk.view in
    let laws = g.met.D.Disk in
    let old = c.args.device.now in
    let image = (view old).state.bytes in
    let plan = c.args.plan.now in
    let size = c.size-size.result in
    let whole : (g.D.Disk.view old).lawful → length image ≡ (g.D.Disk.view old).capacity = λ l. laws.image_size old image l (laws.reads_image old l) in
    let d = decided (text_in (head_of image)) c.one_answer.ensures.either c.one_answer.ensures.not_both c.one_answer.ensures.one_plan in
    inr (inr (λ l. small_disk plan image size (g.D.Disk.view old).capacity (sym c.size-size.ensures) (whole l) d c.if-size-lt-HEADS_LEN.true))

pub returns-in_default-clause-refused : goal.returns-in_default-clause-refused
returns-in_default-clause-refused g c =
    let view = g.D.Disk.view in
    let laws = g.met.D.Disk in
    let old = c.args.device.now in
    let image = (view old).state.bytes in
    let plan = c.args.plan.now in
    let size = c.size-size.result in
    let whole : (g.D.Disk.view old).lawful → length image ≡ (g.D.Disk.view old).capacity = λ l. laws.image_size old image l (laws.reads_image old l) in
    let d = decided (text_in (head_of image)) c.one_answer.ensures.either c.one_answer.ensures.not_both c.one_answer.ensures.one_plan in
    let held : (g.D.Disk.view old).lawful → head_of image ≡ chosen_of c.later.result = λ l.
    ap (λ (f : Option Fields). greater f (candidate 1 (opened (head 1) image))) (c.in_ok-first.ensures.told l)
    ∙ ap (λ (b : List ℕ). greater (fields_of 0 c.in_ok-first.first) (candidate 1 (opened (head 1) b))) (sym (c.in_ok-first.ensures.read.same l))
    ∙ ap (greater (fields_of 0 c.in_ok-first.first)) (c.in_ok-second.ensures.told (c.in_ok-first.ensures.read.lawful.0 l)) ∙ sym c.later.ensures.greater in
    let large : 8258 ≤ size = omega (arith, c.if-size-lt-HEADS_LEN.false) in
    inr (inr (λ l. no_head plan image size (g.D.Disk.view old).capacity (sym c.size-size.ensures) (whole l) d large (held l ∙ is_none c.later.result c.in_default.not-Some)))

pub returns-clause-told : goal.returns-clause-told
returns-clause-told g c =
    let view = g.D.Disk.view in
    let laws = g.met.D.Disk in
    let old = c.args.device.now in
    let image = (view old).state.bytes in
    let plan = c.args.plan.now in
    let size = c.size-size.result in
    let whole : (g.D.Disk.view old).lawful → length image ≡ (g.D.Disk.view old).capacity = λ l. laws.image_size old image l (laws.reads_image old l) in
    let d = decided (text_in (head_of image)) c.one_answer.ensures.either c.one_answer.ensures.not_both c.one_answer.ensures.one_plan in
    let held : (g.D.Disk.view old).lawful → head_of image ≡ chosen_of c.later.result = λ l.
    ap (λ (f : Option Fields). greater f (candidate 1 (opened (head 1) image))) (c.in_ok-first.ensures.told l)
    ∙ ap (λ (b : List ℕ). greater (fields_of 0 c.in_ok-first.first) (candidate 1 (opened (head 1) b))) (sym (c.in_ok-first.ensures.read.same l))
    ∙ ap (greater (fields_of 0 c.in_ok-first.first)) (c.in_ok-second.ensures.told (c.in_ok-first.ensures.read.lawful.0 l)) ∙ sym c.later.ensures.greater in
    let large : 8258 ≤ size = omega (arith, c.if-size-lt-HEADS_LEN.false) in
    let fields : Fields = fields_in c.in-Some.side c.in-Some.payload.items in
    let held_is : (g.D.Disk.view old).lawful → head_of image ≡ Some fields = λ l. held l ∙ ap chosen_of c.in-Some.is in
    let still = ap (fields_in c.in-Some.side) c.deref.ensures.value in
    if_ok_map c.told.result (λ s told. λ l. of_fields plan image size (g.D.Disk.view old).capacity (sym c.size-size.ensures) (whole l) fields (Headed s) large (held_is l)
    (subst (λ (f : Fields). IsFieldsTold plan size f (Headed s)) still told)) c.told.ensures.told

pub returns-clause-refused : goal.returns-clause-refused
returns-clause-refused g c =
    let view = g.D.Disk.view in
    let laws = g.met.D.Disk in
    let old = c.args.device.now in
    let image = (view old).state.bytes in
    let plan = c.args.plan.now in
    let size = c.size-size.result in
    let whole : (g.D.Disk.view old).lawful → length image ≡ (g.D.Disk.view old).capacity = λ l. laws.image_size old image l (laws.reads_image old l) in
    let d = decided (text_in (head_of image)) c.one_answer.ensures.either c.one_answer.ensures.not_both c.one_answer.ensures.one_plan in
    let held : (g.D.Disk.view old).lawful → head_of image ≡ chosen_of c.later.result = λ l.
    ap (λ (f : Option Fields). greater f (candidate 1 (opened (head 1) image))) (c.in_ok-first.ensures.told l)
    ∙ ap (λ (b : List ℕ). greater (fields_of 0 c.in_ok-first.first) (candidate 1 (opened (head 1) b))) (sym (c.in_ok-first.ensures.read.same l))
    ∙ ap (greater (fields_of 0 c.in_ok-first.first)) (c.in_ok-second.ensures.told (c.in_ok-first.ensures.read.lawful.0 l)) ∙ sym c.later.ensures.greater in
    let large : 8258 ≤ size = omega (arith, c.if-size-lt-HEADS_LEN.false) in
    let fields : Fields = fields_in c.in-Some.side c.in-Some.payload.items in
    let held_is : (g.D.Disk.view old).lawful → head_of image ≡ Some fields = λ l. held l ∙ ap chosen_of c.in-Some.is in
    let still = ap (fields_in c.in-Some.side) c.deref.ensures.value in
    if_err_map c.told.result (λ e one. ⊎_elim (λ memory. inr (inl memory)) (λ told. inr (inr (λ l. of_fields plan image size (g.D.Disk.view old).capacity (sym c.size-size.ensures) (whole l) fields (Refused e) large (held_is l)
    (subst (λ (f : Fields). IsFieldsTold plan size f (Refused e)) still told)))) one) c.told.ensures.refused

pub returns-in_default-clause-read : goal.returns-in_default-clause-read
returns-in_default-clause-read g c = c.reads_in_turn.ensures.read _ _ _ c.in_ok-first.ensures.read c.in_ok-second.ensures.read

pub returns-clause-read : goal.returns-clause-read
returns-clause-read g c = c.reads_in_turn.ensures.read _ _ _ c.in_ok-first.ensures.read c.in_ok-second.ensures.read
