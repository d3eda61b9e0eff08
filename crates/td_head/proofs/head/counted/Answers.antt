use Rattle.std.proofs.Common.{rules, ◌≡◌, ℕ, Option, None, Some, refl, sym, ap, ◌∙◌}
use Rattle.std.specs.Prelude.{Vec}
use Rattle.std.specs.declared.alloc.Global.{Global}
use Rattle.td_gate.specs.declared.region.Region.{Region}
use Rattle.td_gate.specs.Region.{opened, payload_of}
use Rattle.td_head.specs.Head.{candidate, fields_in}
use Rattle.td_head.proofs.head.counted.Goals as goal

not_some : (o : Option (Vec ℕ Global)) → ((v : Vec ℕ Global) → o ≡ Some v → ⊥) → payload_of o ≡ None
not_some None not = refl
not_some (Some v) not = absurd (not v refl)

pub returns-in_default-clause-told : goal.returns-in_default-clause-told
returns-in_default-clause-told g c lawful =
    let image = (g.D.Disk.view c.args.device.now).state.bytes in
    ap (λ (r : Region). candidate c.args.side (opened r image)) (sym c.head_region-head.ensures)
    ∙ ap (candidate c.args.side) (sym (c.in_ok-payload.ensures.found lawful) ∙ not_some c.in_ok-payload.field-0 c.in_default.not-Some)

pub returns-then-starts_with-clause-told : goal.returns-then-starts_with-clause-told
returns-then-starts_with-clause-told g c lawful =
    let image = (g.D.Disk.view c.args.device.now).state.bytes in
    let counts : candidate c.args.side (Some c.in-Some.payload.items) ≡ Some (fields_in c.args.side c.in-Some.payload.items) = search rules in
    ap (λ (r : Region). candidate c.args.side (opened r image)) (sym c.head_region-head.ensures)
    ∙ ap (candidate c.args.side) (sym (c.in_ok-payload.ensures.found lawful) ∙ ap payload_of c.in-Some.is) ∙ counts

pub returns-else-starts_with-clause-told : goal.returns-else-starts_with-clause-told
returns-else-starts_with-clause-told g c lawful =
    let image = (g.D.Disk.view c.args.device.now).state.bytes in
    let not : candidate c.args.side (Some c.in-Some.payload.items) ≡ None = search rules in
    ap (λ (r : Region). candidate c.args.side (opened r image)) (sym c.head_region-head.ensures)
    ∙ ap (candidate c.args.side) (sym (c.in_ok-payload.ensures.found lawful) ∙ ap payload_of c.in-Some.is) ∙ not
