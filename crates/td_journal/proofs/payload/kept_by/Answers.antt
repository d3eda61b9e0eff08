use Rattle.std.proofs.Common.{◌≡◌, ◌+◌, ◌*◌, ◌==◌, [], ◌∷◌, ◌++◌, drop, refl, sym, ap, ◌∙◌, subst}
use Rattle.std.specs.Prelude.{Option, Some, None, IfNone}
use Rattle.std.specs.List.{list_any}
use Rattle.td_stamp.specs.declared.values.Entry.{Entry}
use Rattle.td_gate.specs.declared.fields.Front.{Front}
use Rattle.td_gate.specs.Fields.{is_plain}
use Rattle.td_journal.specs.Numbers.{may_come}
use Rattle.td_journal.specs.Cell.{entry_in}
use Rattle.td_journal.specs.Parsed.{may_come_after}
use Rattle.td_journal.proofs.Parsing.{not_named, too_late, look_more, bad_request, not_plain}
use Rattle.td_journal.proofs.payload.kept_by.Goals as goal

if_none : {X P : Type 0} (o : Option X) → ((x : X) → o ≡ Some x → ⊥) → IfNone o P → P
if_none None not p = p
if_none (Some x) not p = absurd (not x refl)

pub returns-then-not-is_allowed : goal.returns-then-not-is_allowed
returns-then-not-is_allowed g c =
    bad_request c.args.inputs.now c.args.floor c.args.m c.args.payload.now
    (ap (λ (f : Front). may_come c.args.floor f.request) (sym c.read-front.ensures) ∙ sym c.is_allowed.ensures ∙ c.if-not-is_allowed.true)

pub returns-then-not-is_plain : goal.returns-then-not-is_plain
returns-then-not-is_plain g c =
    not_plain c.args.inputs.now c.args.floor c.args.m c.args.payload.now
    (ap (is_plain c.args.m) (sym c.read-front.ensures) ∙ sym c.is_plain.ensures ∙ c.if-not-is_plain.true)

pub returns-in_default : goal.returns-in_default
returns-in_default g c =
    not_named c.args.inputs.now c.args.floor c.args.m c.args.payload.now (g.K.Keeping.Took c.loop-i.keeping) c.read-front.result.count c.loop-i.i c.loop-i.last c.loop-i.invariant c.loop-i-test.true
    (if_none c.entry_at.result c.in_default.not-Some c.entry_at.ensures.none)

pub returns-then-not-goes_on : goal.returns-then-not-goes_on
returns-then-not-goes_on g c =
    too_late c.args.inputs.now c.args.floor c.args.m c.args.payload.now (g.K.Keeping.Took c.loop-i.keeping) c.read-front.result.count c.loop-i.i c.loop-i.last c.loop-i.invariant c.loop-i-test.true
    (ap (may_come_after c.loop-i.last) (sym c.in-Some.ensures.some) ∙ sym c.goes_on.ensures ∙ c.if-not-goes_on.true)

pub loop-i-preserved : goal.loop-i-preserved
loop-i-preserved g c =
    let next = entry_in (drop (24 + 24 * c.loop-i.i) c.args.payload.now) in
    let inputs = c.args.inputs.now in
    look_more inputs c.args.floor c.args.m c.args.payload.now (g.K.Keeping.Took c.loop-i.keeping) c.read-front.result.count c.loop-i.i c.loop-i.last c.loop-i.invariant
    (g.K.Keeping.Took c.take.new.self) c.loop-i-test.true
    (ap (λ (e : Entry). list_any (λ v. v == e.input) inputs) (sym c.in-Some.ensures.some) ∙ c.in-Some.ensures.named)
    (ap (may_come_after c.loop-i.last) (sym c.in-Some.ensures.some) ∙ sym c.goes_on.ensures ∙ c.if-not-goes_on.false)
    (subst (λ (e : Entry). g.K.Keeping.Took c.take.new.self (c.loop-i.invariant.first ++ e ∷ [])) c.in-Some.ensures.some (c.in_ok-take.ensures c.loop-i.invariant.first c.loop-i.invariant.took))
    (Some c.in-Some.entry) (ap (λ (e : Entry). Some e) c.in-Some.ensures.some)
