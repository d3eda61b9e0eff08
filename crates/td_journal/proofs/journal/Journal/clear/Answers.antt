use Rattle.std.proofs.Common.{◌≡◌, ℕ, List, Some, refl, ap, sym, ◌∙◌, subst, arith}
use Rattle.std.specs.Prelude.{Option, None, Vec}
use Rattle.std.specs.declared.alloc.Global.{Global}
use Rattle.td_gate.specs.declared.region.Region.{Region}
use Rattle.td_gate.specs.Region.{opened, payload_of, IsSettled}
use Rattle.td_gate.specs.Fields.{number_at}
use Rattle.td_journal.proofs.Cells.{closed_bears_nothing}
use Rattle.td_journal.proofs.Clearing.{WasRead, same_images, begins_not, far_borne, cleared, closed_is_gone, other_is_gone}
use Rattle.td_journal.proofs.journal.Journal.clear.Goals as goal

not_some : (o : Option (Vec ℕ Global)) → ((v : Vec ℕ Global) → o ≡ Some v → ⊥) → payload_of o ≡ None
not_some None not = refl
not_some (Some v) not = absurd (not v refl)

pub returns-then-epoch-ge-EPOCHS_END-clause-gone : goal.returns-then-epoch-ge-EPOCHS_END-clause-gone
returns-then-epoch-ge-EPOCHS_END-clause-gone g c lawful settled f image = far_borne c.args.self.now f c.args.epoch (omega (arith, c.if-epoch-ge-EPOCHS_END.true))

pub returns-in_err-shut-clause-crash_safe : goal.returns-in_err-shut-clause-crash_safe
returns-in_err-shut-clause-crash_safe g c lawful settled =
    let view = g.D.Disk.view in
    let old = c.args.device.now in
    let mid = c.get_start.new.device in
    let still = c.in_ok-number.ensures.read.lawful.0 lawful in
    let start = c.in-Some.number.items in
    let was : WasRead c.cell_of-cell.result start (view old).state (view mid).state = record {
      counts = λ t f. g.met.D.Disk.counts_now mid t f still;
      read = c.in_ok-number.ensures.read.crash_safe lawful;
      same = c.in_ok-number.ensures.read.same lawful;
      every = λ settled d image. ap payload_of (sym c.in-Some.is) ∙ c.in_ok-number.ensures.every lawful settled d image;
    } in
    let number : number_at 8 0 start ≡ c.args.epoch = ap (number_at 8 0) (sym c.deref.ensures.value) ∙ sym c.u64_at.ensures ∙ c.if-u64_at-epoch.false in
    cleared c.args.self.now c.args.epoch c.cell_of-cell.result start (view old).state (view mid).state (view c.shut.new.device).state (sym c.cell_of-cell.ensures.region) was
    (omega (arith, c.if-epoch-ge-EPOCHS_END.false)) number (c.in_err-shut.ensures.crash_safe still) settled

pub returns-clause-crash_safe : goal.returns-clause-crash_safe
returns-clause-crash_safe g c lawful settled =
    let view = g.D.Disk.view in
    let old = c.args.device.now in
    let mid = c.get_start.new.device in
    let still = c.in_ok-number.ensures.read.lawful.0 lawful in
    let start = c.in-Some.number.items in
    let was : WasRead c.cell_of-cell.result start (view old).state (view mid).state = record {
      counts = λ t f. g.met.D.Disk.counts_now mid t f still;
      read = c.in_ok-number.ensures.read.crash_safe lawful;
      same = c.in_ok-number.ensures.read.same lawful;
      every = λ settled d image. ap payload_of (sym c.in-Some.is) ∙ c.in_ok-number.ensures.every lawful settled d image;
    } in
    let number : number_at 8 0 start ≡ c.args.epoch = ap (number_at 8 0) (sym c.deref.ensures.value) ∙ sym c.u64_at.ensures ∙ c.if-u64_at-epoch.false in
    cleared c.args.self.now c.args.epoch c.cell_of-cell.result start (view old).state (view mid).state (view c.shut.new.device).state (sym c.cell_of-cell.ensures.region) was
    (omega (arith, c.if-epoch-ge-EPOCHS_END.false)) number (c.in_ok-shut.ensures.crash_safe still) settled

pub returns-clause-gone : goal.returns-clause-gone
returns-clause-gone g c lawful settled =
    let view = g.D.Disk.view in
    let old = c.args.device.now in
    let mid = c.get_start.new.device in
    let still = c.in_ok-number.ensures.read.lawful.0 lawful in
    let start = c.in-Some.number.items in
    let was : WasRead c.cell_of-cell.result start (view old).state (view mid).state = record {
      counts = λ t f. g.met.D.Disk.counts_now mid t f still;
      read = c.in_ok-number.ensures.read.crash_safe lawful;
      same = c.in_ok-number.ensures.read.same lawful;
      every = λ settled d image. ap payload_of (sym c.in-Some.is) ∙ c.in_ok-number.ensures.every lawful settled d image;
    } in
    closed_is_gone c.args.self.now c.args.epoch c.cell_of-cell.result start (view old).state (view mid).state (view c.shut.new.device).state (sym c.cell_of-cell.ensures.region) was
    (c.in_ok-shut.ensures.closed still) settled

pub returns-in_default-clause-gone : goal.returns-in_default-clause-gone
returns-in_default-clause-gone g c lawful settled f now =
    let view = g.D.Disk.view in
    let old = c.args.device.now in
    let mid = c.get_start.new.device in
    let region = c.cell_of-cell.ensures.region in
    let still = c.in_ok-number.ensures.read.lawful.0 lawful in
    let image = same_images (view old).state (view mid).state (λ (t : ℕ) (f : List ℕ). g.met.D.Disk.counts_now mid t f still) (c.in_ok-number.ensures.read.crash_safe lawful) f now in
    let here = subst (λ (r : Region). IsSettled r (view old).state) (sym region) settled in
    closed_bears_nothing c.args.self.now f c.args.epoch (ap (λ (r : Region). opened r f) (sym region)
    ∙ begins_not 8 (opened c.cell_of-cell.result f) (sym (not_some c.in_ok-number.field-0 c.in_default.not-Some) ∙ c.in_ok-number.ensures.every lawful here f image))

pub returns-then-u64_at-epoch-clause-gone : goal.returns-then-u64_at-epoch-clause-gone
returns-then-u64_at-epoch-clause-gone g c lawful settled =
    let view = g.D.Disk.view in
    let old = c.args.device.now in
    let mid = c.get_start.new.device in
    let still = c.in_ok-number.ensures.read.lawful.0 lawful in
    let start = c.in-Some.number.items in
    let was : WasRead c.cell_of-cell.result start (view old).state (view mid).state = record {
      counts = λ t f. g.met.D.Disk.counts_now mid t f still;
      read = c.in_ok-number.ensures.read.crash_safe lawful;
      same = c.in_ok-number.ensures.read.same lawful;
      every = λ settled d image. ap payload_of (sym c.in-Some.is) ∙ c.in_ok-number.ensures.every lawful settled d image;
    } in
    let number : number_at 8 0 start ≡ c.u64_at.result = ap (number_at 8 0) (sym c.deref.ensures.value) ∙ sym c.u64_at.ensures in
    other_is_gone c.args.self.now c.args.epoch c.cell_of-cell.result start (view old).state (view mid).state (sym c.cell_of-cell.ensures.region) was
    (λ is. c.if-u64_at-epoch.true (sym number ∙ is)) settled
