use Rattle.std.proofs.Common.{◌≡◌, ◌⊎◌, inl, inr, ⊎_elim, ◌+◌, ◌-◌, ◌<◌, ◌^◌, Result, Ok, Err, refl, subst, arith}
use Rattle.std.specs.Prelude.{IfErr, OnOk}
use Rattle.std.proofs.lemmas.Bool.{cases_lt}
use Rattle.td_gate.specs.Region.{IsSettled}
use Rattle.td_head.specs.declared.head.Head.{Head}
use Rattle.td_head.specs.declared.error.HeadError.{HeadError}
use Rattle.td_head.specs.declared.error.HeadError.TheVariants.{LastGeneration, Device}
use Rattle.td_head.specs.Layout.{head as head_of_side}
use Rattle.td_store.proofs.standing.Kept.{each_keeps}
use Rattle.td_store.proofs.standing.steps.raise_head.Goals as goal

-- a refusal that did not call the disk
untouched : (r : Result Head HeadError) (P : Type 0) → r ≡ Err LastGeneration → IfErr r (λ e. (e ≡ Device) ⊎ P) → P
untouched (Ok h) P is why = absurd cc
untouched (Err e) P is (inl failed) = absurd cc
untouched (Err e) P is (inr same) = same

-- what holds of an answer by two clauses on it
both : {T E X Y Z : Type 0} (r : Result T E) → OnOk r X → OnOk r Y → ((h : T) → r ≡ Ok h → X → Y → Z) → OnOk r Z
both (Ok h) x y f = f h refl x y
both (Err e) x y f = tt

not_both : {P : Type 0} (r : Result Head HeadError) (h : Head) → r ≡ Ok h → r ≡ Err LastGeneration → P
not_both (Ok x) h is no_ = absurd cc
not_both (Err e) h is no_ = absurd cc

pub returns-clause-head : goal.returns-clause-head
returns-clause-head g c =
    record {
      later = λ lawful durable.
          let other = head_of_side (1 - c.args.head.now.side) in
          (c.raise.ensures.put.crash_safe lawful (c.durable_is_settled.ensures c.args.device.now other durable)).later;
      begun = λ lawful side s keeps t f le left.
          let view = g.D.Disk.view in
          let old = c.args.device.now in
          let new = c.raise.new.device in
          let plan = c.args.plan.now in
          let h = c.args.head.now in
          let other = head_of_side (1 - h.side) in
          let settled : IsSettled other (view old).state = c.durable_is_settled.ensures old other keeps.durable in
          ⊎_elim
          (λ lt.
          let small : h.generation + 1 < 2 ^ 64 = omega (arith, lt) in
          c.raise_is_safe.ensures.begun plan h side s old new c.vertices-vertices.ensures.lawful (each_keeps plan h side s (view old).state keeps) small (c.raise.ensures.put.crash_safe lawful settled) t f le left)
          (λ ge.
          let last : h.generation ≡ 2 ^ 64 - 1 = omega (arith, ge) in
          let same : new ≡ old = untouched c.raise.result (new ≡ old) (c.raise.ensures.last.1 last) c.raise.ensures.untouched in
          inl (subst (λ (d : g.row.D.Denot). (view d).state.since t f) same left))
          (cases_lt h.generation (2 ^ 64 - 1));
      done =
          both c.raise.result c.raise.ensures.put.is_open c.raise.ensures.put.durable (λ ok is opens durable lawful side s keeps.
          let view = g.D.Disk.view in
          let laws = g.met.D.Disk in
          let old = c.args.device.now in
          let new = c.raise.new.device in
          let plan = c.args.plan.now in
          let h = c.args.head.now in
          let other = head_of_side (1 - h.side) in
          let settled : IsSettled other (view old).state = c.durable_is_settled.ensures old other keeps.durable in
          let small : h.generation + 1 < 2 ^ 64 = ⊎_elim (λ lt. omega (arith, lt))
          (λ ge. let last : h.generation ≡ 2 ^ 64 - 1 = omega (arith, ge) in not_both c.raise.result ok is (c.raise.ensures.last.1 last)) (cases_lt h.generation (2 ^ 64 - 1)) in
          let also = c.raise.ensures.device.lawful.0 lawful in
          record {
            durable = durable lawful;
            tells = c.raise_is_safe.ensures.done plan h side s old new c.vertices-vertices.ensures.lawful (each_keeps plan h side s (view old).state keeps) small also
                (c.raise.ensures.put.crash_safe lawful settled) (opens lawful settled) (view new).state.bytes (laws.reads_image new also);
          });
    }
