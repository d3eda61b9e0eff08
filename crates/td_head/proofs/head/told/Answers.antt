use Rattle.std.proofs.Common.{◌≡◌, ℕ, ◌+◌, ◌-◌, ◌<◌, ◌≤◌, Bool, true, false, not, List, take, drop, inr, refl, sym, ap, ◌∙◌, subst, arith}
use Rattle.std.specs.Prelude.{Decides, bytes_eq, Option, Some, None, IfNone}
use Rattle.td_head.specs.Layout.{Sizes, is_shape, size_of}
use Rattle.td_head.specs.Head.{fields_in, is_version, told_of, IsCanonical}
use Rattle.td_head.specs.declared.head.Head.{Head}
use Rattle.td_plan.specs.Lines.{text_of}
use Rattle.td_head.specs.Read.{Headed, IsFieldsTold}
use Rattle.td_head.proofs.Canonical.{decided}
use Rattle.td_head.proofs.Told.{bad_version, bad_generation, bad_shape, bad_length, bad_text, bad_size, good, told_damaged, told_by}
use Rattle.td_head.proofs.head.told.Goals as goal

if_none : {X P : Type 0} (o : Option X) → ((x : X) → o ≡ Some x → ⊥) → IfNone o P → P
if_none None not p = p
if_none (Some x) not p = absurd (not x refl)

pub returns-then-not-can_read-clause-refused : goal.returns-then-not-can_read-clause-refused
returns-then-not-can_read-clause-refused c =
    let f = fields_in c.args.side c.args.payload.now in
    let d = decided f.text c.one_answer.ensures.either c.one_answer.ensures.not_both c.one_answer.ensures.one_plan in
    let bad : is_version f.version ≡ false = ap is_version (sym c.u32_at-version.ensures) ∙ sym c.can_read.ensures ∙ c.if-not-can_read.true in
    inr (told_damaged c.args.size f c.args.plan.now d.0 d.1 (bad_version c.args.size f bad d.0))

pub returns-then-generation-eq0-clause-refused : goal.returns-then-generation-eq0-clause-refused
returns-then-generation-eq0-clause-refused c =
    let f = fields_in c.args.side c.args.payload.now in
    let d = decided f.text c.one_answer.ensures.either c.one_answer.ensures.not_both c.one_answer.ensures.one_plan in
    inr (told_damaged c.args.size f c.args.plan.now d.0 d.1 (bad_generation c.args.size f (sym c.u64_at-generation.ensures ∙ c.if-generation-eq0.true) d.0))

pub returns-in_default-clause-refused : goal.returns-in_default-clause-refused
returns-in_default-clause-refused c =
    let f = fields_in c.args.side c.args.payload.now in
    let d = decided f.text c.one_answer.ensures.either c.one_answer.ensures.not_both c.one_answer.ensures.one_plan in
    let same : record { m = c.u32_at.result; n = c.u32_at-2.result; k = c.u32_at-3.result } ≡ f.sizes = λ i. record { m = c.u32_at.ensures i; n = c.u32_at-2.ensures i; k = c.u32_at-3.ensures i } in
    let bad : is_shape f.sizes ≡ false = subst (λ (s : Sizes). is_shape s ≡ false) same (if_none c.new.result c.in_default.not-Some c.new.ensures.none) in
    inr (told_damaged c.args.size f c.args.plan.now d.0 d.1 (bad_shape c.args.size f bad d.0))

pub returns-then-len-gt4096-clause-refused : goal.returns-then-len-gt4096-clause-refused
returns-then-len-gt4096-clause-refused c =
    let f = fields_in c.args.side c.args.payload.now in
    let d = decided f.text c.one_answer.ensures.either c.one_answer.ensures.not_both c.one_answer.ensures.one_plan in
    let long : 4096 < f.text_len = omega (arith, c.if-len-gt4096.true, c.u32_at-len.ensures) in
    inr (told_damaged c.args.size f c.args.plan.now d.0 d.1 (bad_length c.args.size f long d.0))

pub returns-then-not-branch-clause-refused : goal.returns-then-not-branch-clause-refused
returns-then-not-branch-clause-refused c =
    let f = fields_in c.args.side c.args.payload.now in
    let back : (32 + c.u32_at-len.result) - 32 ≡ c.u32_at-len.result = omega arith in
    let text = ap (λ (n : ℕ). take n (drop 32 c.args.payload.now)) (back ∙ c.u32_at-len.ensures) in
    let not_so = c.if-not-branch.true in
    let decides : Decides false (IsCanonical f.text) = subst (λ (t : List ℕ). Decides false (IsCanonical t)) text (subst (λ (b : Bool). Decides b (IsCanonical (take ((32 + c.u32_at-len.result) - 32) (drop 32 c.args.payload.now)))) not_so c.in_ok-is_canonical.ensures.ok) in
    inr (told_damaged c.args.size f c.args.plan.now false decides (bad_text c.args.size f))

pub returns-then-size-bytes-clause-refused : goal.returns-then-size-bytes-clause-refused
returns-then-size-bytes-clause-refused c =
    let f = fields_in c.args.side c.args.payload.now in
    let d = decided f.text c.one_answer.ensures.either c.one_answer.ensures.not_both c.one_answer.ensures.one_plan in
    let same : c.in-Some.shape ≡ f.sizes = c.in-Some.ensures.made ∙ (λ i. record { m = c.u32_at.ensures i; n = c.u32_at-2.ensures i; k = c.u32_at-3.ensures i }) in
    let small : c.args.size < size_of f.sizes = subst (λ (s : Sizes). c.args.size < size_of s) same (omega (arith, c.if-size-bytes.true, c.bytes.ensures.size)) in
    inr (told_damaged c.args.size f c.args.plan.now d.0 d.1 (bad_size c.args.size f small d.0))

pub returns-then-eq-clause-told : goal.returns-then-eq-clause-told
returns-then-eq-clause-told c =
    let f = fields_in c.args.side c.args.payload.now in
    let head : Head = record { version = c.u32_at-version.result; side = c.args.side; generation = c.u64_at-generation.result; shape = c.in-Some.shape } in
    let back : (32 + c.u32_at-len.result) - 32 ≡ c.u32_at-len.result = omega arith in
    let text = ap (λ (n : ℕ). take n (drop 32 c.args.payload.now)) (back ∙ c.u32_at-len.ensures) in
    let so = c.if-not-branch.false in
    let decides : Decides true (IsCanonical f.text) = subst (λ (t : List ℕ). Decides true (IsCanonical t)) text (subst (λ (b : Bool). Decides b (IsCanonical (take ((32 + c.u32_at-len.result) - 32) (drop 32 c.args.payload.now)))) so c.in_ok-is_canonical.ensures.ok) in
    let same : c.in-Some.shape ≡ f.sizes = c.in-Some.ensures.made ∙ (λ i. record { m = c.u32_at.ensures i; n = c.u32_at-2.ensures i; k = c.u32_at-3.ensures i }) in
    let shape : is_shape f.sizes ≡ true = subst (λ (s : Sizes). is_shape s ≡ true) same c.bytes.ensures.limits in
    let fit : size_of f.sizes ≤ c.args.size = subst (λ (s : Sizes). size_of s ≤ c.args.size) same (omega (arith, c.if-size-bytes.false, c.bytes.ensures.size)) in
    let version : is_version f.version ≡ true = ap is_version (sym c.u32_at-version.ensures) ∙ sym c.can_read.ensures ∙ c.if-not-can_read.false in
    let gen : 0 < f.generation = omega (arith, c.if-generation-eq0.false, c.u64_at-generation.ensures) in
    let len : f.text_len ≤ 4096 = omega (arith, c.if-len-gt4096.false, c.u32_at-len.ensures) in
    let valid = good c.args.size f version gen shape len fit in
    let eq : c.eq.result ≡ bytes_eq f.text (text_of c.args.plan.now) = c.eq.ensures ∙ ap (λ (l : List ℕ). bytes_eq l c.as_bytes.result.now) text ∙ ap (bytes_eq f.text) (c.as_bytes.ensures.value ∙ c.in-Ok.ensures.ok) in
    let whole : head ≡ told_of f = λ i. record { version = c.u32_at-version.ensures i; side = c.args.side; generation = c.u64_at-generation.ensures i; shape = same i } in
    subst (λ (h : Head). IsFieldsTold c.args.plan.now c.args.size f (Headed h)) (sym whole) (told_by c.args.size f c.args.plan.now true decides valid (sym eq ∙ c.if-eq.true))

pub returns-clause-refused : goal.returns-clause-refused
returns-clause-refused c =
    let f = fields_in c.args.side c.args.payload.now in
    let back : (32 + c.u32_at-len.result) - 32 ≡ c.u32_at-len.result = omega arith in
    let text = ap (λ (n : ℕ). take n (drop 32 c.args.payload.now)) (back ∙ c.u32_at-len.ensures) in
    let so = c.if-not-branch.false in
    let decides : Decides true (IsCanonical f.text) = subst (λ (t : List ℕ). Decides true (IsCanonical t)) text (subst (λ (b : Bool). Decides b (IsCanonical (take ((32 + c.u32_at-len.result) - 32) (drop 32 c.args.payload.now)))) so c.in_ok-is_canonical.ensures.ok) in
    let same : c.in-Some.shape ≡ f.sizes = c.in-Some.ensures.made ∙ (λ i. record { m = c.u32_at.ensures i; n = c.u32_at-2.ensures i; k = c.u32_at-3.ensures i }) in
    let shape : is_shape f.sizes ≡ true = subst (λ (s : Sizes). is_shape s ≡ true) same c.bytes.ensures.limits in
    let fit : size_of f.sizes ≤ c.args.size = subst (λ (s : Sizes). size_of s ≤ c.args.size) same (omega (arith, c.if-size-bytes.false, c.bytes.ensures.size)) in
    let version : is_version f.version ≡ true = ap is_version (sym c.u32_at-version.ensures) ∙ sym c.can_read.ensures ∙ c.if-not-can_read.false in
    let gen : 0 < f.generation = omega (arith, c.if-generation-eq0.false, c.u64_at-generation.ensures) in
    let len : f.text_len ≤ 4096 = omega (arith, c.if-len-gt4096.false, c.u32_at-len.ensures) in
    let valid = good c.args.size f version gen shape len fit in
    let eq : c.eq.result ≡ bytes_eq f.text (text_of c.args.plan.now) = c.eq.ensures ∙ ap (λ (l : List ℕ). bytes_eq l c.as_bytes.result.now) text ∙ ap (bytes_eq f.text) (c.as_bytes.ensures.value ∙ c.in-Ok.ensures.ok) in
    inr (told_by c.args.size f c.args.plan.now false decides valid (sym eq ∙ c.if-eq.false))
