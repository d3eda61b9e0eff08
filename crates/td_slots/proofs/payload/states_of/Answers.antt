use Rattle.std.proofs.Common.{◌≡◌, ◌+◌, ◌*◌, ◌++◌, ◌∷◌, [], true, false, Option, Some, None, drop, refl, sym, subst, ◌∙◌}
use Rattle.std.specs.Prelude.{IfNone}
use Rattle.td_stamp.specs.States.{AreStates}
use Rattle.td_slots.specs.Slot.{state_in}
use Rattle.td_slots.proofs.Order.{states_from_chain}
use Rattle.td_slots.proofs.Parsing.{names, is_named, rises, taken}
use Rattle.td_slots.proofs.payload.states_of.Goals.{in-Some+in_ok-push, in_default}
use Rattle.td_slots.proofs.payload.states_of.Goals as goal

if_none : {X P : Type 0} (o : Option X) → ((x : X) → o ≡ Some x → ⊥) → IfNone o P → P
if_none None not p = p
if_none (Some x) not p = absurd (not x refl)

pub push-requires : goal.push-requires
push-requires c =
    let es = c.loop-i.states in
    let this = state_in (drop (24 + 32 * c.loop-i.i) c.args.payload.now) in
    let is : this ≡ (c.in-Some.place, c.state_at.result) = λ j. (sym c.in-Some.ensures.some j, sym c.state_at.ensures j) in
    subst (λ e. AreStates (es ++ e ∷ [])) is
    (states_from_chain (es ++ this ∷ []) (rises c.args.folds.now c.read-i-end.result.count c.args.payload.now c.requires.valid c.loop-i.i es c.loop-i-test.true c.loop-i.invariant.read))

pub loop-i-preserved : goal.loop-i-preserved
loop-i-preserved c =
    let folds = c.args.folds.now in
    let count = c.read-i-end.result.count in
    let bytes = c.args.payload.now in
    let i = c.loop-i.i in
    let es = c.loop-i.states in
    let this = state_in (drop (24 + 32 * i) bytes) in
    elim c.match-kept_at.branch [
      | in-Some+in_ok-push w ↦
          let put : w.push.new.self ≡ es ++ this ∷ [] =
          w.in_ok-push.ensures.ok ∙ (λ j. es ++ (w.in-Some.ensures.some j, w.state_at.ensures j) ∷ []) in
          record {
            count = c.loop-i.invariant.count;
            read = taken folds count bytes c.requires.valid i es c.loop-i-test.true c.loop-i.invariant.read c.match-kept_at.states (w.states-is ∙ put);
          }
      | in_default w ↦
          let no_ : names folds this ≡ false = if_none c.kept_at.result w.in_default.not-Some c.kept_at.ensures.none in
          let yes : names folds this ≡ true = is_named folds count bytes c.requires.valid i es c.loop-i-test.true c.loop-i.invariant.read in
          absurd cc
    ]
