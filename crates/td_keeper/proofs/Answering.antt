-- Each answer is of the history, and of what was acknowledged before it.
use Rattle.std.proofs.Common.{◌≡◌, ℕ, ◌+◌, ◌-◌, ◌≤◌, ◌<◌, List, [], ◌∷◌, ◌++◌, length, map, take, refl, sym, ap, ◌∙◌, subst, arith}
use Rattle.std.proofs.lemmas.List.{append-nil, length-append, length-map, map-append, take_all}
use Rattle.td_stamp.specs.declared.values.Entry.{Entry}
use Rattle.td_stamp.specs.States.{StateList}
use Rattle.td_plan.specs.Lines.{Line}
use Rattle.td_plan.specs.Tree.{tree_of}
use Rattle.td_calls.specs.Answers.{Answers}
use Rattle.td_batch.specs.Meaning.{run, states_after}
use Rattle.td_machine.specs.State.{HallState}
use Rattle.td_machine.specs.Sound.{Sound, run_states}
use Rattle.td_questions.specs.Asked.{answer_to}
use Rattle.td_disk.specs.Disk.{DiskView, DiskState}
use Rattle.td_journal.specs.declared.payload.Submitted.{Submitted as AnySubmitted}
use Rattle.td_store.specs.standing.Standing.{last_epoch, batches_of}
use Rattle.td_store.specs.standing.Stops.{Stands}
use Rattle.td_store.specs.standing.Advanced.{states_by}
use Rattle.td_keeper.specs.declared.command.Command.{Command}
use Rattle.td_keeper.specs.declared.command.Command.TheVariants.{Answer}
use Rattle.td_keeper.specs.declared.command.Reply.{Reply}
use Rattle.td_keeper.specs.declared.command.Reply.TheVariants.{Answered}
use Rattle.td_keeper.specs.Keeping.{Keeping, IsKeeping}
use Rattle.td_keeper.specs.Halls.{IsOwn, last_states}
use Rattle.td_keeper.specs.Driven.{Obeys, Driven}
use Rattle.td_keeper.specs.Acknowledged.{Epoch, epochs_from, acknowledged_in, Acknowledges}
use Rattle.td_keeper.specs.Answering.{IsOfHistory, AllOfHistory, batches_in}
use Rattle.td_keeper.proofs.Collecting.{StatesJoin, OutsJoin, released, cut_meaning}

-- of a hall of the keeper's
module _ {D : Type 0} (answers : Answers) (states_join : StatesJoin answers) (outs_join : OutsJoin answers)
    (k : Keeping D) (keeping : IsKeeping k answers) (S : HallState) (own : IsOwn k S) (sound : Sound answers S) where
  -- it is based no later than the last epoch, and has none after that
  pub based_before : S.base ≤ last_epoch k.standing
  based_before = omega (arith, own.base, keeping.released)

  pub none_after : S.base + length S.batches ≤ last_epoch k.standing
  none_after = let most = released answers states_join outs_join k keeping S own sound in omega (arith, most, sound.released)

  -- where it has that epoch, its states after it are the batch meaning's
  pub last_meaning : (last : ℕ) → last ≡ last_epoch k.standing → last < S.next → (states : StateList) → states ≡ run_states answers S last → states ≡ last_states k answers
  last_meaning last is before states same =
      let after = based_before in
      cut_meaning answers states_join outs_join k keeping S own sound last (omega (arith, after, is)) before states same
      ∙ ap (λ (e : ℕ). states_after answers (tree_of k.plan) k.standing.states (batches_of k.standing.submitted) (e - k.standing.epoch)) is

-- the batches of epochs one after another
batches_are : (n : ℕ) (xs : List AnySubmitted) → map (λ (e : Epoch). e.submitted) (epochs_from n xs) ≡ xs
batches_are n [] = refl
batches_are n (x ∷ xs) = ap (λ (l : List AnySubmitted). x ∷ l) (batches_are (n + 1) xs)

module _ {D : Type 0} (answers : Answers) (join : StatesJoin answers) where
  -- the states after the last epoch are those of the history
  last_is : (k : Keeping D) (history : List AnySubmitted) → Stands (states_by answers k.plan) k.standing history → last_states k answers ≡ states_by answers k.plan [] (batches_of history)
  last_is k history is =
      let s = k.standing in
      let nodes = tree_of k.plan in
      let batches : List (List Entry) = batches_of s.submitted in
      let many = length-map s.submitted (λ (x : AnySubmitted). x.batch) in
      let all : take (last_epoch s - s.epoch) batches ≡ batches = take_all (last_epoch s - s.epoch) batches (omega (arith, many)) in
      let whole : batches_of history ≡ batches_of is.before ++ batches = ap batches_of is.whole ∙ map-append (λ (x : AnySubmitted). x.batch) is.before s.submitted in
      ap (λ (l : List (List Entry)). (run answers nodes s.states l).states) all
      ∙ (ap (λ (t : StateList). (run answers nodes t batches).states) is.states
      ∙ (sym (join nodes [] (batches_of is.before) batches) ∙ ap (λ (l : List (List Entry)). (run answers nodes [] l).states) (sym whole)))

  last_number : (k : Keeping D) (history : List AnySubmitted) → Stands (states_by answers k.plan) k.standing history → last_epoch k.standing ≡ length history
  last_number k history is =
      let whole = ap length is.whole in
      let parts = length-append is.before k.standing.submitted in
      omega (arith, whole, parts, is.epochs)

module _ {D : Type 0} (view : D → DiskView) (answers : Answers) (join : StatesJoin answers)
    (acknowledges : (commands : List Command) (replies : List Reply) (old new : Keeping D) → IsKeeping old answers → Driven view answers commands replies old new
    → Acknowledges answers commands replies old new) where
  one : (c : Command) (r : Reply) (old new : Keeping D) (history : List AnySubmitted) → Stands (states_by answers old.plan) old.standing history → Obeys view answers c r old new
      → IsOfHistory answers old.plan history c r
  one (Answer v w) (Answered e es) old new history is obeys =
      (obeys.last ∙ last_number answers join old history is, obeys.answer ∙ ap (answer_to v w) (last_is answers join old history is))
  one c r old new history is obeys = tt

  -- EACH ANSWER
  pub all_of_history : (commands : List Command) (replies : List Reply) (old new : Keeping D) (history : List AnySubmitted) → IsKeeping old answers
      → Driven view answers commands replies old new → Stands (states_by answers old.plan) old.standing history → AllOfHistory answers old.plan history commands replies
  all_of_history [] replies old new history kept driven is = tt
  all_of_history (c ∷ cs) [] old new history kept driven is = tt
  all_of_history (c ∷ cs) (r ∷ rs) old new history kept driven is =
      let mid = driven.0 in
      let first = acknowledges (c ∷ []) (r ∷ []) old mid kept (mid, driven.1, driven.2, refl) in
      let these : List AnySubmitted = batches_in c r in
      let same : first.batches ≡ these =
      sym (batches_are (last_epoch old.standing + 1) first.batches) ∙ ap (map (λ (e : Epoch). e.submitted)) (sym first.epochs ∙ append-nil (acknowledged_in c r)) in
      let there : Stands (states_by answers old.plan) mid.standing (history ++ these) =
      subst (λ (l : List AnySubmitted). Stands (states_by answers old.plan) mid.standing (history ++ l)) same (first.stands history is) in
      let then : Stands (states_by answers mid.plan) mid.standing (history ++ these) = subst (λ (p : List Line). Stands (states_by answers p) mid.standing (history ++ these)) (sym first.plan) there in (
        one c r old mid history is driven.2,
        subst (λ (p : List Line). AllOfHistory answers p (history ++ these) cs rs) first.plan (all_of_history cs rs mid new (history ++ these) driven.1 driven.3 then),
      )
