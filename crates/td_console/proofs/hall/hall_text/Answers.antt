use Rattle.std.proofs.Common.{◌≡◌, None, IsTrue, All, ap, sym, subst}
use Rattle.std.specs.List.{list_all}
use Rattle.td_plan.specs.Blocks.{vertices}
use Rattle.td_plan.specs.Inputs.{is_input_of}
use Rattle.td_calls.specs.Fits.{first_lack}
use Rattle.td_machine.specs.State.{HallState}
use Rattle.td_machine.specs.Sound.{run_of}
use Rattle.td_console.proofs.OneByOne.{opened_between}
use Rattle.td_console.proofs.hall.hall_text.Goals as goal

pub text_of_epochs-requires : goal.text_of_epochs-requires
text_of_epochs-requires g c =
    let e = c.in_ok-hall.ensures.ok in
    let plan = ap (λ (S : HallState). S.plan) e in
    record {
      fits = subst (λ p. first_lack (g.C.Closures.stored c.args.calls.now) (vertices p) ≡ None) (sym plan) c.requires.fits;
      accepted = subst (λ p. All (λ batch. IsTrue (list_all (λ e. is_input_of p e.input) batch)) c.args.batches.items) (sym plan) c.requires.accepted;
      few = c.requires.few;
      between = opened_between c.args.plan.now c.args.workers c.in_ok-hall.hall e;
      first = ap (λ (S : HallState). S.next) e;
      without_states = ap (λ (S : HallState). (run_of g.L.Law.answers S).states) e;
    }
