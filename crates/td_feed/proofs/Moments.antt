-- What a crash leaves at a moment of a feed.
use Rattle.std.proofs.Common.{◌≡◌, ⊎_elim, ℕ, ◌+◌, ◌-◌, ◌≤◌, List, ◌++◌, length, take, refl, sym, ap, ◌∙◌, subst, arith}
use Rattle.std.proofs.lemmas.List.{append-nil, length-append, take_at, take-append-le}
use Rattle.std.proofs.Math.Seq.{take-append-add}
use Rattle.td_plan.specs.Lines.{Line}
use Rattle.td_plan.specs.Tree.{tree_of}
use Rattle.td_calls.specs.Answers.{Answers}
use Rattle.td_journal.specs.declared.payload.Submitted.{Submitted}
use Rattle.td_store.specs.standing.Standing.{Standing, last_epoch}
use Rattle.td_store.specs.standing.Stops.{Begins, Stands}
use Rattle.td_disk.specs.Disk.{DiskState}
use Rattle.td_gate.specs.CrashSafe.{CrashSafe, Unchanged}
use Rattle.td_store.specs.standing.Advanced.{AdvancesSince, TellsAdvance, states_by}
use Rattle.td_feed.specs.Fed.{TellsHistory, EachTellsHistory, TellsOnward}
use Rattle.td_feed.proofs.Carrying.{Stands-on, as_long}

-- a beginning of a list with more, that is no shorter than the list, is the list with some of what is more
beginning : (h x w rest : List Submitted) → h ++ x ≡ w ++ rest → length h ≤ length w → w ≡ h ++ take (length w - length h) x
beginning h x w rest e le =
    let long : length h + (length w - length h) ≡ length w = omega (arith, le) in
    sym (take_at w rest (length w) refl) ∙ (ap (take (length w)) (sym e) ∙ (ap (λ (m : ℕ). take m (h ++ x)) (sym long) ∙ take-append-add h x (length w - length h)))

-- an image that tells an advance of a standing for a history
pub advanced_onward : (answers : Answers) → Stands-on answers → (plan : List Line) (s : Standing) (history x : List Submitted) (c : List ℕ) → Stands (states_by answers plan) s history
    → TellsAdvance answers plan s x (last_epoch s) c → TellsOnward answers plan history x c
advanced_onward answers stands_on plan s history x c is told =
    let next = stands_on (tree_of plan) s told.standing history x is told.advance in
    let far : length history ≤ length next.0 = omega (arith, as_long answers plan s history is, as_long answers plan told.standing next.0 next.2, told.holds) in
    let same : next.0 ≡ history ++ take (length next.0 - length history) x = beginning history x next.0 next.1.0 next.1.1 far in
    record {
      count = length next.0 - length history;
      few = omega (arith, ap length next.1.1, length-append history x, length-append next.0 next.1.0);
      tells = record { standing = told.standing; told = told.told; stands = subst (λ (l : List Submitted). Stands (states_by answers plan) told.standing l) same next.2 };
    }

module _ (answers : Answers) (plan : List Line) (history x : List Submitted) (c : List ℕ) where
  -- of batches that begin these
  onward_further : (submitted : List Submitted) → Begins submitted x → TellsOnward answers plan history submitted c → TellsOnward answers plan history x c
  onward_further submitted longer told = record {
    count = told.count;
    few = omega (arith, told.few, ap length longer.1, length-append submitted longer.0);
    tells = subst (λ (l : List Submitted). TellsHistory answers plan (history ++ l) c) (sym (ap (take told.count) longer.1 ∙ take-append-le told.count submitted longer.0 told.few)) told.tells;
  }

  -- where nothing was written
  pub onward_still : (old new : DiskState) → CrashSafe Unchanged old new → EachTellsHistory answers plan history old → new.since old.moment c → TellsOnward answers plan history x c
  onward_still old new safe told was =
      let before_it = safe.each c was in
      record {
        count = 0;
        few = omega arith;
        tells = subst (λ (h : List Submitted). TellsHistory answers plan h c) (sym (append-nil history)) (subst (λ i. TellsHistory answers plan history i) (sym before_it.2) (told before_it.0 before_it.1));
      }

  -- AT A MOMENT of a keeper's work, once it was recovered
  pub onward_ever : Stands-on answers → (known : List Line) (s : Standing) (submitted : List Submitted) (old found new : DiskState) → known ≡ plan → CrashSafe Unchanged old found → Stands (states_by answers plan) s history
      → AdvancesSince answers known s submitted (last_epoch s) found new → Begins submitted x → EachTellsHistory answers plan history old → new.since old.moment c → TellsOnward answers plan history x c
  onward_ever stands_on known s submitted old found new same safe is advances longer told was =
      ⊎_elim
      (λ then. onward_still old found safe told then)
      (λ it. onward_further submitted longer (advanced_onward answers stands_on plan s history submitted c is (subst (λ (p : List Line). TellsAdvance answers p s submitted (last_epoch s) c) same it)))
      (advances old.moment c safe.later was)
