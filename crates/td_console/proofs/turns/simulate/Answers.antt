use Rattle.std.proofs.Common.{IsTrue, All, ◌≡◌, ◌⊎◌, ◌++◌, [], None, ap, sym, ◌∙◌, subst, arith, length}
use Rattle.std.specs.Prelude.{string_bytes}
use Rattle.std.specs.List.{list_all}
use Rattle.td_plan.specs.Blocks.{vertices}
use Rattle.td_plan.specs.Inputs.{is_input_of}
use Rattle.td_plan.specs.Tree.{tree_of}
use Rattle.td_calls.specs.Fits.{first_lack}
use Rattle.td_batch.specs.Meaning.{run, numbered}
use Rattle.td_machine.specs.State.{HallState}
use Rattle.td_machine.specs.Steps.{opened}
use Rattle.td_console.specs.declared.faults.Fault.TheVariants.{Memory, Spent}
use Rattle.td_console.specs.Answer.{output_text}
use Rattle.td_console.specs.Turns.{Played, all_released, notes_of}
use Rattle.td_console.proofs.Released.{IsReleased, is_released}
use Rattle.td_console.proofs.OneByOne.{handed_on}
use Rattle.td_console.proofs.Turning.{all_passed}
use Rattle.td_console.proofs.turns.simulate.Goals as goal

pub release_all-requires : goal.release_all-requires
release_all-requires g c = record {
  opened = ap (λ (S : HallState). S.closed) c.requires.opened;
  accepted = subst (λ (S : HallState). All (λ batch. IsTrue (list_all (λ e. is_input_of S.plan e.input) batch)) c.args.batches.items) (sym c.requires.opened) c.requires.accepted;
  few = omega (arith, ap (λ (S : HallState). S.next) c.requires.opened, c.requires.few);
}

pub play-requires-clause-fits : goal.play-requires-clause-fits
play-requires-clause-fits g c =
    let start = opened c.args.plan.now [] 1 c.args.workers in
    let facts = subst (IsReleased start c.args.batches.items) (sym (c.in_ok-release_all.ensures.ok ∙ ap (λ S. all_released S c.args.batches.items) c.requires.opened)) (is_released start c.args.batches.items) in
    subst (λ p. first_lack (g.C.Closures.stored c.args.calls.now) (vertices p) ≡ None)
    (sym facts.plan) c.requires.fits

pub play-requires-clause-none_out : goal.play-requires-clause-none_out
play-requires-clause-none_out g c =
    let start = opened c.args.plan.now [] 1 c.args.workers in
    let facts = subst (IsReleased start c.args.batches.items) (sym (c.in_ok-release_all.ensures.ok ∙ ap (λ S. all_released S c.args.batches.items) c.requires.opened)) (is_released start c.args.batches.items) in
    facts.out

pub print_collected-requires-clause-base : goal.print_collected-requires-clause-base
print_collected-requires-clause-base g c =
    let start = opened c.args.plan.now [] 1 c.args.workers in
    let facts = subst (IsReleased start c.args.batches.items) (sym (c.in_ok-release_all.ensures.ok ∙ ap (λ S. all_released S c.args.batches.items) c.requires.opened)) (is_released start c.args.batches.items) in
    c.in_ok-play.ensures.ok.kept.base ∙ facts.base

pub print_collected-requires-clause-collected : goal.print_collected-requires-clause-collected
print_collected-requires-clause-collected g c =
    let start = opened c.args.plan.now [] 1 c.args.workers in
    let facts = subst (IsReleased start c.args.batches.items) (sym (c.in_ok-release_all.ensures.ok ∙ ap (λ S. all_released S c.args.batches.items) c.requires.opened)) (is_released start c.args.batches.items) in
    c.in_ok-play.ensures.ok.kept.collected ∙ facts.collected

pub print_collected-requires-clause-released : goal.print_collected-requires-clause-released
print_collected-requires-clause-released g c =
    let start = opened c.args.plan.now [] 1 c.args.workers in
    let facts = subst (IsReleased start c.args.batches.items) (sym (c.in_ok-release_all.ensures.ok ∙ ap (λ S. all_released S c.args.batches.items) c.requires.opened)) (is_released start c.args.batches.items) in
    let kept = c.in_ok-play.ensures.ok.kept in
    omega (arith, ap length (kept.batches ∙ facts.batches), kept.next ∙ facts.next)

pub print_collected-requires-clause-passed : goal.print_collected-requires-clause-passed
print_collected-requires-clause-passed g c =
    all_passed g.L.Law.answers c.never_stuck.ensures c.args.plan.now c.args.batches.items c.args.workers c.vertices-lawful.ensures.lawful c.requires.accepted c.requires.few c.requires.some
    (string_bytes c.new-text.result) (string_bytes c.play.new.text) c.play.new.hall
    (subst (λ S. Played g.L.Law.answers c.args.workers c.args.workers (string_bytes c.new-text.result) (string_bytes c.play.new.text) S c.play.new.hall) (c.in_ok-release_all.ensures.ok ∙ ap (λ S. all_released S c.args.batches.items) c.requires.opened) c.in_ok-play.ensures.ok)

pub returns-clause-ok : goal.returns-clause-ok
returns-clause-ok g c =
    let start = opened c.args.plan.now [] 1 c.args.workers in
    let facts = subst (IsReleased start c.args.batches.items) (sym (c.in_ok-release_all.ensures.ok ∙ ap (λ S. all_released S c.args.batches.items) c.requires.opened)) (is_released start c.args.batches.items) in
    let played = c.in_ok-play.ensures.ok in
    let from_start = subst (λ S. Played g.L.Law.answers c.args.workers c.args.workers (string_bytes c.new-text.result) (string_bytes c.play.new.text) S c.play.new.hall) (c.in_ok-release_all.ensures.ok ∙ ap (λ S. all_released S c.args.batches.items) c.requires.opened) played in
    let kept = played.kept in (
      from_start.turns,
      record { end = c.play.new.hall; played = from_start.played; ended = from_start.ended },
      c.in_ok-print_collected.ensures.ok
          ∙ (λ i. (from_start.written ∙ ap (λ l. l ++ notes_of from_start.turns) c.new-text.ensures.bytes) i
          ++ output_text (numbered 1 (run g.L.Law.answers (tree_of ((kept.plan ∙ facts.plan) i)) ((kept.base_states ∙ facts.base_states) i) ((kept.batches ∙ facts.batches) i)).outs)),
    )

pub returns-in_err-play-clause-err : goal.returns-in_err-play-clause-err
returns-in_err-play-clause-err g c =
    handed_on (λ f. (f ≡ Memory) ⊎ (f ≡ Spent)) c.in_err-play.field-0.0 c.from_residual-in_err-play.result c.from_residual-in_err-play.ensures.1 c.in_err-play.ensures.err
