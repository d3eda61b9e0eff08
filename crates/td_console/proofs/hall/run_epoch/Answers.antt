use Rattle.std.proofs.Common.{◌≡◌, ◌++◌, OnOk, ap, ◌∙◌, subst}
use Rattle.std.specs.Prelude.{string_bytes}
use Rattle.td_machine.specs.State.{HallState}
use Rattle.td_core.specs.Drained.{IsKept}
use Rattle.td_console.specs.Answer.{output_text}
use Rattle.td_console.specs.EpochByEpoch.{epoch_after}
use Rattle.td_console.proofs.Released.{is_taken}
use Rattle.td_console.proofs.OneByOne.{always, came, run_on, one_text}
use Rattle.td_console.proofs.hall.run_epoch.Goals as goal

pub returns-in-Ok-clause-ok : goal.returns-in-Ok-clause-ok
returns-in-Ok-clause-ok g c =
    let answers = g.L.Law.answers in
    let drained = c.in_default-drain.ensures in
    let taken = is_taken c.args.hall.now c.args.batch c.requires.between.opened c.requires.below c.in_default.field-0 c.release.new.self c.in_default.ensures.released in
    let kept = subst (λ R. IsKept R c.drain.new.self) taken drained.kept in
    let out = drained.none_out (ap (λ (R : HallState). R.out) taken ∙ c.requires.between.none_out) in
    always c.print_epochs.result
    (run_on answers c.args.hall.now c.args.batch c.requires.between c.drain.new.self kept c.run_joins.ensures.states c.run_joins.ensures.outs out drained.passed drained.unpassed
    c.in-Ok.came.items c.collect.new.self c.in-Ok.ensures.ok)

pub returns-in-Ok-clause-text : goal.returns-in-Ok-clause-text
returns-in-Ok-clause-text g c =
    let answers = g.L.Law.answers in
    let drained = c.in_default-drain.ensures in
    let taken = is_taken c.args.hall.now c.args.batch c.requires.between.opened c.requires.below c.in_default.field-0 c.release.new.self c.in_default.ensures.released in
    let kept = subst (λ R. IsKept R c.drain.new.self) taken drained.kept in
    let out = drained.none_out (ap (λ (R : HallState). R.out) taken ∙ c.requires.between.none_out) in
    let outs =
    came answers c.args.hall.now c.args.batch c.requires.between c.drain.new.self kept c.run_joins.ensures.states c.run_joins.ensures.outs out drained.passed drained.unpassed
    c.in-Ok.came.items c.collect.new.self c.in-Ok.ensures.ok c.in-Ok.ensures.meaning in
    let lines = ap output_text c.as_slice.ensures.value ∙ one_text c.args.hall.now.next (epoch_after answers c.args.hall.now c.args.batch).outs c.in-Ok.came.items outs in
    subst (λ text. OnOk c.print_epochs.result (string_bytes c.print_epochs.new.text ≡ string_bytes c.args.text.now ++ text)) lines c.print_epochs.ensures.ok
