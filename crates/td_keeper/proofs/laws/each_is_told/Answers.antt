use Rattle.std.proofs.Common.{◌≡◌, List, [], ◌∷◌, ◌++◌, ◌||◌, Bool, true, false, refl, ◌∙◌, subst}
use Rattle.std.proofs.lemmas.List.{append-nil}
use Rattle.td_plan.specs.Tree.{tree_of}
use Rattle.td_journal.specs.declared.payload.Submitted.{Submitted}
use Rattle.td_keeper.specs.Driven.{submitted_in, is_failed, Advances, Driven}
use Rattle.td_keeper.proofs.Driving.{driven_advances}
use Rattle.td_keeper.proofs.Failing.{driven_counted, driven_failed, driven_whole}
use Rattle.td_keeper.proofs.Since.{from_start}
use Rattle.td_keeper.proofs.Submitting.{keeps_of}
use Rattle.td_keeper.proofs.laws.each_is_told.Goals as goal

or_false : (b : Bool) → (b || false) ≡ b
or_false true = refl
or_false false = refl

pub returns : goal.returns
returns g c command reply old new kept holds kept_then obeyed =
    let view = g.D.Disk.view in
    let answers = g.L.Law.answers in
    let driven : Driven view answers (command ∷ []) (reply ∷ []) old new = (new, kept_then, obeyed, refl) in
    let none : submitted_in command reply ++ [] ≡ submitted_in command reply = append-nil (submitted_in command reply) in
    let join = c.advances_join.ensures in
    let further = λ (lawful : (view old.device).lawful) (whole : old.broken ≡ false).
    subst (λ (x : List Submitted). Advances view answers old new x) none
    (driven_advances view answers join.submitted join.cut join.later join.last (command ∷ []) (reply ∷ []) old new kept driven lawful whole) in
    record {
      kept = kept;
      obeyed = obeyed;
      driven = driven;
      counted = driven_counted view answers (command ∷ []) (reply ∷ []) old new driven;
      fails = λ is. driven_failed view answers (command ∷ []) (reply ∷ []) old new driven (or_false (is_failed reply) ∙ is);
      whole = λ is. driven_whole view answers (command ∷ []) (reply ∷ []) old new driven (or_false (is_failed reply) ∙ is);
      further = further;
      images = λ lawful whole.
          from_start answers old.plan c.told_in_parts.ensures.together old.head old.side old.standing (submitted_in command reply) (view old.device).state (view new.device).state
          (λ d. g.met.D.Disk.only_now old.device d lawful) (c.standings_advance.ensures.not_yet (tree_of old.plan) old.standing (submitted_in command reply))
          (keeps_of old.broken answers old.plan old.head old.side old.standing (view old.device).state whole (holds lawful))
          ((further lawful whole).since whole);
    }
