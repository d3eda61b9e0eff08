-- The theorem: stint by stint, what a disk tells goes on from what it told.
use Rattle.std.proofs.Common.{◌≡◌, ℕ, true, List, [], ◌∷◌, ◌++◌, refl, sym, ap, ◌∙◌, subst}
use Rattle.std.specs.Prelude.{Ok, Some, All, Contains, map}
use Rattle.std.proofs.lemmas.List.{append-nil, append_assoc}
use Rattle.std.proofs.lemmas.List.Elements.{All-nil, All-append, All-weaker}
use Rattle.td_stamp.specs.declared.epoch_out.EpochOut.{EpochOut}
use Rattle.td_plan.specs.Lines.{Line}
use Rattle.td_plan.specs.Tree.{tree_of}
use Rattle.td_calls.specs.Answers.{Answers}
use Rattle.td_disk.specs.Disk.{DiskView, DiskState}
use Rattle.td_journal.specs.Numbers.{rise}
use Rattle.td_journal.specs.declared.payload.Submitted.{Submitted}
use Rattle.td_store.specs.standing.Standing.{Standing, nothing_told}
use Rattle.td_store.specs.standing.Stops.{Stands}
use Rattle.td_store.specs.standing.Told.{Told}
use Rattle.td_store.specs.standing.Tells.{Tells, first_head}
use Rattle.td_store.specs.standing.Advanced.{states_by}
use Rattle.td_keeper.specs.Driven.{handed_out}
use Rattle.td_keeper.specs.Acknowledged.{Epoch, epochs_of, outs_of, acknowledged_by, Acknowledges}
use Rattle.td_theorem.specs.Life.{Stint, TellsAs, submitted_in_stint, acknowledged_in_life, handed_in_life}
use Rattle.td_theorem.specs.Holds.{IsMadeOf, TheTheorem}
use Rattle.td_theorem.proofs.Numbers.{rise_of}
use Rattle.td_theorem.proofs.Histories.{epoch_still, out_still}
use Rattle.td_theorem.proofs.Plain.{IsPlainStint, PlainLife, plain, plain_life, still_made, same_acknowledged, same_handed}
use Rattle.td_theorem.proofs.Below.{OfDisks, OfKeepers, OfStandings, OfPlays}
use Rattle.td_theorem.proofs.Stints.{same_standing, Leaves, leaves, numbers_rise, handed_meant}
use Rattle.td_theorem.proofs.Engines.{comes}

-- WHAT AN IMAGE TELLS after some stints that began with a history: that and more, which is made of what they submitted
record GoesOn {D : Type 0} (answers : Answers) (plan : List Line) (history : List Submitted) (life : List (Stint D)) (image : List ℕ) : Type 0 where
  standing : Standing
  told : Told plan image (Ok standing)
  more : List Submitted
  stands : Stands (states_by answers plan) standing (history ++ more)
  made : IsMadeOf more life
  acknowledged : All (Contains (epochs_of (history ++ more))) (acknowledged_in_life life)
  handed : All (Contains (outs_of answers plan (history ++ more))) (handed_in_life life)
  once : rise (Some 0) (history ++ more) ≡ true

module _ {D : Type 0} (view : D → DiskView) (answers : Answers)
    (keepers : OfKeepers view answers) (standings : OfStandings answers) (disks : OfDisks view) (plays : OfPlays answers) (plan : List Line) where
  -- a keeper that was found stands for what the image tells
  found_is : (s : Stint D) → IsPlainStint view answers plan s → (from : List ℕ) (at : Standing) → TellsAs plan from (view s.disk).state → Told plan from (Ok at) → s.found.standing ≡ at
  found_is s is from at as_from told =
      same_standing s.found.standing at
      (standings.one_answer plan (view s.found.device).state.bytes (Ok s.found.standing) (Ok at)
      (standings.together plan s.found.head s.found.side s.found.standing (view s.found.device).state.bytes is.keeps.tells)
      (subst (λ (c : List ℕ). Told plan c (Ok at)) (sym was.2) (as_from was.0 at was.1 told)))
    where
      since : (view s.found.device).state.since (view s.disk).state.moment (view s.found.device).state.bytes
      since = disks.counts_now s.found.device (view s.disk).state.moment (view s.found.device).state.bytes is.lawful is.unwritten.later (disks.reads_image s.found.device is.lawful)

      was : (d : List ℕ) × (view s.disk).state.images d × ((view s.found.device).state.bytes ≡ d)
      was = is.unwritten.each (view s.found.device).state.bytes since

  -- a stint, and then others
  module _ (s : Stint D) (life : List (Stint D)) (to : List ℕ) (history batches : List Submitted) (left : Leaves answers plan history batches s)
      (later : GoesOn answers plan (history ++ left.first) life to) where
    abbrev more : List Submitted
    more = left.first ++ later.more

    whole : (history ++ left.first) ++ later.more ≡ history ++ more
    whole = append_assoc history left.first later.more

    -- what was acknowledged comes first
    parts : history ++ more ≡ (history ++ batches) ++ (left.holds.0 ++ later.more)
    parts =
        ap (λ (l : List Submitted). history ++ (l ++ later.more)) left.holds.1
        ∙ (ap (λ (l : List Submitted). history ++ l) (append_assoc batches left.holds.0 later.more)
        ∙ sym (append_assoc history batches (left.holds.0 ++ later.more)))

    epoch_kept : (e : Epoch) → Contains (epochs_of (history ++ batches)) e → Contains (epochs_of (history ++ more)) e
    epoch_kept e there = subst (λ (l : List Submitted). Contains (epochs_of l) e) (sym parts) (epoch_still (history ++ batches) (left.holds.0 ++ later.more) e there)

    out_kept : (o : EpochOut) → Contains (outs_of answers plan (history ++ batches)) o → Contains (outs_of answers plan (history ++ more)) o
    out_kept o there =
        subst (λ (l : List Submitted). Contains (outs_of answers plan l) o) (sym parts)
        (out_still answers plays.states_join plays.outs_join plan (history ++ batches) (left.holds.0 ++ later.more) o there)

    joined : All (Contains (epochs_of (history ++ batches))) (acknowledged_by s.commands s.replies) → All (Contains (outs_of answers plan (history ++ batches))) (handed_out s.replies)
        → GoesOn answers plan history (s ∷ life) to
    joined there meant = record {
      standing = later.standing;
      told = later.told;
      more = more;
      stands = subst (λ (l : List Submitted). Stands (states_by answers plan) later.standing l) whole later.stands;
      made = (left.first, later.more, refl, left.within, later.made);
      acknowledged = All-append (Contains (epochs_of (history ++ more))) (acknowledged_by s.commands s.replies) (acknowledged_in_life life)
          (All-weaker (Contains (epochs_of (history ++ batches))) (Contains (epochs_of (history ++ more))) epoch_kept (acknowledged_by s.commands s.replies) there)
          (subst (λ (l : List Submitted). All (Contains (epochs_of l)) (acknowledged_in_life life)) whole later.acknowledged);
      handed = All-append (Contains (outs_of answers plan (history ++ more))) (handed_out s.replies) (handed_in_life life)
          (All-weaker (Contains (outs_of answers plan (history ++ batches))) (Contains (outs_of answers plan (history ++ more))) out_kept (handed_out s.replies) meant)
          (subst (λ (l : List Submitted). All (Contains (outs_of answers plan l)) (handed_in_life life)) whole later.handed);
      once = subst (λ (l : List Submitted). rise (Some 0) l ≡ true) whole later.once;
    }

  -- one stint after another
  goes_on : (life : List (Stint D)) (from to : List ℕ) (at : Standing) (history : List Submitted) → Told plan from (Ok at) → Stands (states_by answers plan) at history → rise (Some 0) history ≡ true
      → PlainLife view answers plan from life to → GoesOn answers plan history life to
  goes_on [] from to at history told stands rising same = record {
    standing = at;
    told = subst (λ (c : List ℕ). Told plan c (Ok at)) (sym same) told;
    more = [];
    stands = subst (λ (l : List Submitted). Stands (states_by answers plan) at l) (sym (append-nil history)) stands;
    made = refl;
    acknowledged = All-nil (Contains (epochs_of (history ++ [])));
    handed = All-nil (Contains (outs_of answers plan (history ++ [])));
    once = subst (λ (l : List Submitted). rise (Some 0) l ≡ true) (sym (append-nil history)) rising;
  }
  goes_on (s ∷ life) from to at history told stands rising lived =
      joined s life to history acked.batches left (goes_on life s.left to left.standing (history ++ left.first) left.told left.stands risen lived.2) (acked.there history stood_for) meant
    where
      is : IsPlainStint view answers plan s
      is = lived.1

      -- of the plan that the keeper has
      own : IsPlainStint view answers s.found.plan s
      own = subst (λ (p : List Line). IsPlainStint view answers p s) (sym is.for_plan) is

      stood_for : Stands (states_by answers s.found.plan) s.found.standing history
      stood_for =
          subst (λ (p : List Line). Stands (states_by answers p) s.found.standing history) (sym is.for_plan)
          (subst (λ (t : Standing). Stands (states_by answers plan) t history) (sym (found_is s is from at lived.0 told)) stands)

      acked : Acknowledges answers s.commands s.replies s.found s.stood
      acked = keepers.acknowledges s.commands s.replies s.found s.stood is.kept is.driven

      left : Leaves answers plan history acked.batches s
      left = subst (λ (p : List Line). Leaves answers p history acked.batches s) is.for_plan (leaves view answers keepers standings disks s own history stood_for acked)

      meant : All (Contains (outs_of answers plan (history ++ acked.batches))) (handed_out s.replies)
      meant =
          subst (λ (p : List Line). All (Contains (outs_of answers p (history ++ acked.batches))) (handed_out s.replies)) is.for_plan
          (handed_meant view answers keepers standings disks s own history stood_for acked plays)

      risen : rise (Some 0) (history ++ left.first) ≡ true
      risen =
          rise_of standings.one_more standings.joined 0 (history ++ left.first) (history ++ submitted_in_stint s)
          (left.within.0, ap (λ (l : List Submitted). history ++ l) left.within.1 ∙ sym (append_assoc history left.first left.within.0))
          (numbers_rise view answers keepers standings disks s own history stood_for acked rising)

-- THE THEOREM
pub the_theorem : {D : Type 0} (view : D → DiskView) (answers : Answers)
    → OfKeepers view answers → OfStandings answers → OfDisks view → OfPlays answers → TheTheorem view answers
the_theorem view answers keepers standings disks plays plan sizes formatted from to life lawful keeps image lived =
    let told : Told plan from (Ok nothing_told) =
    standings.together plan (first_head sizes) 0 nothing_told from (subst (Tells plan (first_head sizes) 0 nothing_told) (sym (keeps.durable from image)) keeps.tells) in
    let lives = plain_life view answers plan life from to lived in
    let on = goes_on view answers keepers standings disks plays plan (map plain life) from to nothing_told [] told (standings.first (tree_of plan)) refl lives in
    record {
      standing = on.standing;
      told = on.told;
      history = on.more;
      stands = on.stands;
      made = still_made life on.more on.made;
      acknowledged = subst (λ (l : List Epoch). All (Contains (epochs_of on.more)) l) (same_acknowledged life) on.acknowledged;
      handed = subst (λ (l : List EpochOut). All (Contains (outs_of answers plan on.more)) l) (same_handed life) on.handed;
      once = on.once;
      comes = comes answers standings plays plan lawful on.standing to on.more on.told on.stands;
    }
