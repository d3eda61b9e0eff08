use Rattle.std.proofs.Common.{◌≡◌, ◌++◌, OnOk, ◌∙◌, subst}
use Rattle.std.specs.Prelude.{string_bytes}
use Rattle.td_console.specs.Answer.{output_text}
use Rattle.td_console.proofs.Released.{collected_all}
use Rattle.td_console.proofs.hall.print_collected.Goals as goal

pub returns-in-Ok-clause-ok : goal.returns-in-Ok-clause-ok
returns-in-Ok-clause-ok g c =
    let all = collected_all g.L.Law.answers c.args.hall.now c.requires.base c.requires.collected c.requires.released c.requires.passed
    c.in-Ok.outs.items _ c.in-Ok.ensures.ok c.in-Ok.ensures.meaning in
    subst (λ epochs. OnOk c.print_epochs.result (string_bytes c.print_epochs.new.text ≡ string_bytes c.args.text.now ++ output_text epochs)) (c.as_slice.ensures.value ∙ all) c.print_epochs.ensures.ok
