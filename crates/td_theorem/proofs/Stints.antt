-- One stint: what it leaves tells the history that was found with all that was acknowledged, and then perhaps more of what was submitted.
use Rattle.std.proofs.Common.{◌≡◌, ⊎_elim, ℕ, ◌+◌, ◌-◌, ◌≤◌, Bool, true, false, List, [], ◌∷◌, ◌++◌, length, take, drop, refl, sym, ap, ◌∙◌, subst, arith}
use Rattle.std.specs.Prelude.{Result, Ok, Some, All, Contains}
use Rattle.std.proofs.lemmas.List.{append-nil, append_assoc, length-append, nil_from_length, append_cancel_left, take-append-le}
use Rattle.std.proofs.lemmas.List.Elements.{All-nil, All-cons, All-head, All-tail}
use Rattle.td_stamp.specs.declared.epoch_out.EpochOut.{EpochOut}
use Rattle.td_stamp.specs.declared.values.Output.{Output}
use Rattle.td_plan.specs.Lines.{Line}
use Rattle.td_plan.specs.Tree.{tree_of}
use Rattle.td_calls.specs.Answers.{Answers}
use Rattle.td_batch.specs.Meaning.{numbered}
use Rattle.td_disk.specs.Disk.{DiskView, DiskState}
use Rattle.td_journal.specs.Numbers.{rise}
use Rattle.td_journal.specs.declared.payload.Submitted.{Submitted}
use Rattle.td_store.specs.group.Groups.{may_follow}
use Rattle.td_store.specs.declared.standing.error.KeeperError.{KeeperError}
use Rattle.td_store.specs.standing.Standing.{Standing, last_epoch, batches_of}
use Rattle.td_store.specs.standing.Stops.{Begins, Stands}
use Rattle.td_store.specs.standing.Told.{Told}
use Rattle.td_store.specs.standing.Tells.{Tells, Keeps}
use Rattle.td_store.specs.standing.Advanced.{TellsAdvance, HeldWhere, states_by}
use Rattle.td_keeper.specs.declared.command.Command.{Command}
use Rattle.td_keeper.specs.declared.command.Reply.{Reply}
use Rattle.td_keeper.specs.Keeping.{Keeping, IsKeeping}
use Rattle.td_keeper.specs.Driven.{submitted_in, submitted_by, handed_out, outs_beyond, Driven}
use Rattle.td_keeper.specs.Acknowledged.{outs_of, acknowledged_in, acknowledged_by, Acknowledges}
use Rattle.td_theorem.specs.Life.{Stint, submitted_in_stint}
use Rattle.td_theorem.proofs.Plain.{IsPlainStint}
use Rattle.td_theorem.proofs.Broken.{broken_stays}
use Rattle.td_theorem.proofs.Replies.{answered, length_epochs}
use Rattle.td_theorem.proofs.Numbers.{rise_on, greatest_of}
use Rattle.td_theorem.proofs.Histories.{count_of, longer, outs, count, outs_on, rest_among}
use Rattle.td_theorem.proofs.Below.{OfDisks, OfKeepers, OfStandings, OfPlays}

-- no value is both
never : (b : Bool) → b ≡ true → b ≡ false → ⊥
never b one other = let same : true ≡ false = sym one ∙ other in absurd (cc)

-- of two answers that are the same
pub same_standing : (s t : Standing) → ◌≡◌ {A = Result Standing KeeperError} (Ok s) (Ok t) → s ≡ t
same_standing s t is = cc

-- what holds of all of two lists holds of all of the first
pub first_of : {X : Type 0} (P : X → Type 0) (xs ys : List X) → All P (xs ++ ys) → All P xs
first_of P [] ys all = All-nil P
first_of P (x ∷ xs) ys all = All-cons P x xs (All-head P x (xs ++ ys) all) (first_of P xs ys (All-tail P x (xs ++ ys) all))

module _ {D : Type 0} (view : D → DiskView) (answers : Answers) (keepers : OfKeepers view answers) where
  -- where the device did not fail, as much was acknowledged as was submitted
  as_many : (commands : List Command) (replies : List Reply) (old new : Keeping D) → Driven view answers commands replies old new → new.broken ≡ false
      → length (acknowledged_by commands replies) ≡ length (submitted_by commands replies)
  as_many [] [] old new e whole = refl
  as_many [] (r ∷ rs) old new none whole = absurd none
  as_many (c ∷ cs) [] old new none whole = absurd none
  as_many (c ∷ cs) (r ∷ rs) old new driven whole = by mid.broken refl (as_many cs rs driven.0 new driven.3 whole)
    where
      mid : Keeping D
      mid = driven.0

      by : (b : Bool) → mid.broken ≡ b → length (acknowledged_by cs rs) ≡ length (submitted_by cs rs) → length (acknowledged_in c r ++ acknowledged_by cs rs) ≡ length (submitted_in c r ++ submitted_by cs rs)
      by true broke later = absurd (never new.broken (broken_stays view answers keepers.rest cs rs mid new driven.3 broke).2 whole)
      by false goes_on later =
          let first = answered view answers c r old mid driven.2 in
          let a = length-append (acknowledged_in c r) (acknowledged_by cs rs) in
          let b = length-append (submitted_in c r) (submitted_by cs rs) in
          ⊎_elim (λ broke. absurd (never mid.broken broke goes_on)) (λ here. omega (arith, a, b, here, later)) first.all

  -- so it is what was submitted
  all_of : (commands : List Command) (replies : List Reply) (old new : Keeping D) → Driven view answers commands replies old new
      → (acked : Acknowledges answers commands replies old new) → new.broken ≡ false → submitted_by commands replies ≡ acked.batches
  all_of commands replies old new driven acked whole =
      let many = as_many commands replies old new driven whole in
      let named = ap length acked.epochs in
      let each = length_epochs (last_epoch old.standing + 1) acked.batches in
      let parts = ap length acked.submitted.1 in
      let sum = length-append acked.batches acked.submitted.0 in
      let none : acked.submitted.0 ≡ [] = nil_from_length acked.submitted.0 (omega (arith, many, named, each, parts, sum)) in
      acked.submitted.1 ∙ (ap (λ (l : List Submitted). acked.batches ++ l) none ∙ append-nil acked.batches)

  module _ (standings : OfStandings answers) where
    -- THE NUMBERS of what is submitted rise, from those of the history on
    rises : (commands : List Command) (replies : List Reply) (old new : Keeping D) (history : List Submitted) → IsKeeping old answers
        → Driven view answers commands replies old new → Stands (states_by answers old.plan) old.standing history → rise (Some 0) history ≡ true
        → rise (Some 0) (history ++ submitted_by commands replies) ≡ true
    rises [] [] old new history kept e stands rising = subst (λ (l : List Submitted). rise (Some 0) l ≡ true) (sym (append-nil history)) rising
    rises [] (r ∷ rs) old new history kept none stands rising = absurd none
    rises (c ∷ cs) [] old new history kept none stands rising = absurd none
    rises (c ∷ cs) (r ∷ rs) old new history kept driven stands rising =
        subst (λ (l : List Submitted). rise (Some 0) l ≡ true) (append_assoc history (submitted_in c r) (submitted_by cs rs))
        (by mid.broken refl (λ stood rising_on. rises cs rs driven.0 new (history ++ submitted_in c r) driven.1 driven.3 stood rising_on))
      where
        mid : Keeping D
        mid = driven.0

        here : rise (Some 0) (history ++ submitted_in c r) ≡ true
        here =
            rise_on standings.one_more standings.joined 0 history (submitted_in c r) rising
            (subst (λ (n : ℕ). may_follow (Some n) (submitted_in c r) ≡ true) (sym (greatest_of standings.joined (states_by answers old.plan) old.standing history stands))
            (answered view answers c r old mid driven.2).fresh)

        alone : Driven view answers (c ∷ []) (r ∷ []) old mid
        alone = (mid, driven.1, driven.2, refl)

        by : (b : Bool) → mid.broken ≡ b
            → (Stands (states_by answers mid.plan) mid.standing (history ++ submitted_in c r) → rise (Some 0) (history ++ submitted_in c r) ≡ true
            → rise (Some 0) ((history ++ submitted_in c r) ++ submitted_by cs rs) ≡ true)
            → rise (Some 0) ((history ++ submitted_in c r) ++ submitted_by cs rs) ≡ true
        by true broke later =
            subst (λ (l : List Submitted). rise (Some 0) ((history ++ submitted_in c r) ++ l) ≡ true) (sym (broken_stays view answers keepers.rest cs rs mid new driven.3 broke).1)
            (subst (λ (l : List Submitted). rise (Some 0) l ≡ true) (sym (append-nil (history ++ submitted_in c r))) here)
        by false goes_on later =
            let acked = keepers.acknowledges (c ∷ []) (r ∷ []) old mid kept alone in
            let all : submitted_in c r ≡ acked.batches = sym (append-nil (submitted_in c r)) ∙ all_of (c ∷ []) (r ∷ []) old mid alone acked goes_on in
            let stood : Stands (states_by answers old.plan) mid.standing (history ++ submitted_in c r) =
            subst (λ (l : List Submitted). Stands (states_by answers old.plan) mid.standing (history ++ l)) (sym all) (acked.stands history stands) in
            later (subst (λ (p : List Line). Stands (states_by answers p) mid.standing (history ++ submitted_in c r)) (sym acked.plan) stood) here

    module _ (disks : OfDisks view) where
      -- where nothing was written since a keeper stood, whose device had not failed
      unwritten : (k : Keeping D) (x : List Submitted) (c : List ℕ) → (view k.device).lawful → k.broken ≡ false → HeldWhere k.broken answers k.plan k.head k.side k.standing (view k.device).state
          → (view k.device).state.since (view k.device).state.moment c → TellsAdvance answers k.plan k.standing x (last_epoch k.standing) c
      unwritten k x c lawful whole held was =
          let keeps : Keeps k.plan k.head k.side k.standing (view k.device).state = subst (λ (b : Bool). HeldWhere b answers k.plan k.head k.side k.standing (view k.device).state) whole held in
          record {
            standing = k.standing;
            told = standings.together k.plan k.head k.side k.standing c (subst (Tells k.plan k.head k.side k.standing) (sym (keeps.durable c (disks.only_now k.device c lawful was))) keeps.tells);
            advance = standings.not_yet (tree_of k.plan) k.standing x;
            holds = omega arith;
          }

      -- each image since then
      advanced : (commands : List Command) (replies : List Reply) (old new : Keeping D) (c : List ℕ) → IsKeeping old answers → (view old.device).lawful → old.broken ≡ false
          → HeldWhere old.broken answers old.plan old.head old.side old.standing (view old.device).state
          → Driven view answers commands replies old new → (view new.device).state.since (view old.device).state.moment c
          → TellsAdvance answers old.plan old.standing (submitted_by commands replies) (last_epoch old.standing) c
      advanced commands replies old new c kept lawful whole held driven left =
          ⊎_elim (λ was. unwritten old (submitted_by commands replies) c lawful whole held was) (λ told. told)
          ((keepers.advances commands replies old new kept lawful whole driven).since whole (view old.device).state.moment c (omega arith) left)

-- of a list that begins a history with what was submitted, and goes as far as what was acknowledged: what comes after the history
parted : (history batches all told : List Submitted) → Begins batches all → Begins told (history ++ all) → length history + length batches ≤ length told
    → (first : List Submitted) × (told ≡ history ++ first) × Begins batches first × Begins first all
parted history batches all told begins within far = (first, is, (on.0, refl), (within.0, rest))
  where
    count : length (history ++ batches) ≤ length told
    count = let n = length-append history batches in omega (arith, n, far)

    whole : (history ++ batches) ++ begins.0 ≡ told ++ within.0
    whole = append_assoc history batches begins.0 ∙ (ap (λ (l : List Submitted). history ++ l) (sym begins.1) ∙ within.1)

    on : Begins (history ++ batches) told
    on = longer (history ++ batches) begins.0 told within.0 whole count

    first : List Submitted
    first = batches ++ on.0

    is : told ≡ history ++ first
    is = on.1 ∙ append_assoc history batches on.0

    rest : all ≡ first ++ within.0
    rest =
        append_cancel_left history all (first ++ within.0)
        (within.1 ∙ (ap (λ (l : List Submitted). l ++ within.0) is ∙ append_assoc history first within.0))

-- a beginning of a beginning is one
through : (a b c : List Submitted) → Begins a b → Begins b c → Begins a c
through a b c first second = (first.0 ++ second.0, second.1 ∙ (ap (λ (l : List Submitted). l ++ second.0) first.1 ∙ append_assoc a first.0 second.0))

-- WHAT A STINT LEAVES of a plan: a history that was found, with these batches and perhaps more of what it submitted
pub record Leaves {D : Type 0} (answers : Answers) (plan : List Line) (history batches : List Submitted) (s : Stint D) : Type 0 where
  pub standing : Standing
  pub told : Told plan s.left (Ok standing)
  pub first : List Submitted
  pub stands : Stands (states_by answers plan) standing (history ++ first)
  pub holds : Begins batches first
  pub within : Begins first (submitted_in_stint s)

module _ {D : Type 0} (view : D → DiskView) (answers : Answers)
    (keepers : OfKeepers view answers) (standings : OfStandings answers) (disks : OfDisks view)
    (s : Stint D) (is : IsPlainStint view answers s.found.plan s) (history : List Submitted) (stands : Stands (states_by answers s.found.plan) s.found.standing history)
    (acked : Acknowledges answers s.commands s.replies s.found s.stood) where
  -- what its commands submitted that were replied to, and the others
  abbrev seen : List Submitted
  seen = submitted_by s.commands s.replies

  abbrev unseen : List Submitted
  unseen = submitted_by s.more s.unseen

  held_found : HeldWhere s.found.broken answers s.found.plan s.found.head s.found.side s.found.standing (view s.found.device).state
  held_found = subst (λ (b : Bool). HeldWhere b answers s.found.plan s.found.head s.found.side s.found.standing (view s.found.device).state) (sym is.fresh.whole) is.keeps

  lawful_stood : (view s.stood.device).lawful
  lawful_stood = (keepers.advances s.commands s.replies s.found s.stood is.kept is.lawful is.fresh.whole is.driven).lawful

  many : length history ≡ last_epoch s.found.standing
  many = count_of (states_by answers s.found.plan) s.found.standing history stands

  -- of an advance that is told: where it holds what was acknowledged, all that it tells comes after the history
  of_advance : (t : Standing) (told : Told s.found.plan s.left (Ok t)) (all w : List Submitted) → Begins acked.batches all → Begins w (history ++ all) → Stands (states_by answers s.found.plan) t w
      → last_epoch s.stood.standing ≤ last_epoch t → Begins all (submitted_in_stint s) → Leaves answers s.found.plan history acked.batches s
  of_advance t told all w begins within stood far among =
      let n = count_of (states_by answers s.found.plan) t w stood in
      let last = acked.last in
      let p = parted history acked.batches all w begins within (omega (arith, n, many, last, far)) in
      record {
        standing = t;
        told = told;
        first = p.0;
        stands = subst (λ (l : List Submitted). Stands (states_by answers s.found.plan) t l) p.1 stood;
        holds = p.2;
        within = through p.0 all (submitted_in_stint s) p.3 among;
      }

  -- stopped with its device whole by the last reply
  of_whole : s.stood.broken ≡ false → Leaves answers s.found.plan history acked.batches s
  of_whole whole = of_advance tells.standing tells.told (acked.batches ++ unseen) told.0 (unseen, refl) within told.2 tells.holds ([], among)
    where
      all : seen ≡ acked.batches
      all = all_of view answers keepers s.commands s.replies s.found s.stood is.driven acked whole

      tells : TellsAdvance answers s.found.plan s.stood.standing unseen (last_epoch s.stood.standing) s.left
      tells =
          subst (λ (p : List Line). TellsAdvance answers p s.stood.standing unseen (last_epoch s.stood.standing) s.left) acked.plan
          (advanced view answers keepers standings disks s.more s.unseen s.stood s.ended s.left acked.kept lawful_stood whole is.held is.stopped is.crashed)

      told : (w : List Submitted) × Begins w ((history ++ acked.batches) ++ unseen) × Stands (states_by answers s.found.plan) tells.standing w
      told = standings.each (tree_of s.found.plan) s.stood.standing tells.standing (history ++ acked.batches) unseen (acked.stands history stands) tells.advance

      within : Begins told.0 (history ++ (acked.batches ++ unseen))
      within = subst (λ (l : List Submitted). Begins told.0 l) (append_assoc history acked.batches unseen) told.1

      among : submitted_in_stint s ≡ (acked.batches ++ unseen) ++ []
      among = ap (λ (l : List Submitted). l ++ unseen) all ∙ sym (append-nil (acked.batches ++ unseen))

  -- or with its device failed
  of_broken : s.stood.broken ≡ true → Leaves answers s.found.plan history acked.batches s
  of_broken broke = of_advance tells.standing tells.told seen told.0 acked.submitted told.1 told.2 far (unseen, refl)
    where
      device : s.ended.device ≡ s.stood.device
      device = (broken_stays view answers keepers.rest s.more s.unseen s.stood s.ended is.stopped broke).0

      image : (view s.stood.device).state.images s.left
      image = disks.only_now s.stood.device s.left lawful_stood (subst (λ (d : D). (view d).state.since (view s.stood.device).state.moment s.left) device is.crashed)

      since : (view s.stood.device).state.since (view s.found.device).state.moment s.left
      since =
          let later = (keepers.advances s.commands s.replies s.found s.stood is.kept is.lawful is.fresh.whole is.driven).later in
          disks.counts_now s.stood.device (view s.found.device).state.moment s.left lawful_stood later image

      tells : TellsAdvance answers s.found.plan s.found.standing seen (last_epoch s.found.standing) s.left
      tells = advanced view answers keepers standings disks s.commands s.replies s.found s.stood s.left is.kept is.lawful is.fresh.whole held_found is.driven since

      told : (w : List Submitted) × Begins w (history ++ seen) × Stands (states_by answers s.found.plan) tells.standing w
      told = standings.each (tree_of s.found.plan) s.found.standing tells.standing history seen stands tells.advance

      holds : (x : List Submitted) × TellsAdvance answers s.stood.plan s.stood.standing x (last_epoch s.stood.standing) s.left
      holds = (subst (λ (b : Bool). HeldWhere b answers s.stood.plan s.stood.head s.stood.side s.stood.standing (view s.stood.device).state) broke is.held) s.left image

      far : last_epoch s.stood.standing ≤ last_epoch tells.standing
      far =
          let other : Told s.found.plan s.left (Ok holds.1.standing) = subst (λ (p : List Line). Told p s.left (Ok holds.1.standing)) acked.plan holds.1.told in
          let same : tells.standing ≡ holds.1.standing = same_standing tells.standing holds.1.standing (standings.one_answer s.found.plan s.left (Ok tells.standing) (Ok holds.1.standing) tells.told other) in
          subst (λ (t : Standing). last_epoch s.stood.standing ≤ last_epoch t) (sym same) holds.1.holds

  -- A STINT LEAVES ALL THAT IT ACKNOWLEDGED
  pub leaves : Leaves answers s.found.plan history acked.batches s
  leaves = by s.stood.broken refl
    where
      by : (b : Bool) → s.stood.broken ≡ b → Leaves answers s.found.plan history acked.batches s
      by false whole = of_whole whole
      by true broke = of_broken broke

  -- THE NUMBERS of what it leaves rise
  pub numbers_rise : rise (Some 0) history ≡ true → rise (Some 0) (history ++ submitted_in_stint s) ≡ true
  numbers_rise rising = subst (λ (l : List Submitted). rise (Some 0) l ≡ true) (append_assoc history seen unseen) (by s.stood.broken refl)
    where
      here : rise (Some 0) (history ++ seen) ≡ true
      here = rises view answers keepers standings s.commands s.replies s.found s.stood history is.kept is.driven stands rising

      by : (b : Bool) → s.stood.broken ≡ b → rise (Some 0) ((history ++ seen) ++ unseen) ≡ true
      by true broke =
          let none = (broken_stays view answers keepers.rest s.more s.unseen s.stood s.ended is.stopped broke).1 in
          subst (λ (l : List Submitted). rise (Some 0) ((history ++ seen) ++ l) ≡ true) (sym none) (subst (λ (l : List Submitted). rise (Some 0) l ≡ true) (sym (append-nil (history ++ seen))) here)
      by false whole =
          let all = all_of view answers keepers s.commands s.replies s.found s.stood is.driven acked whole in
          let stood : Stands (states_by answers s.found.plan) s.stood.standing (history ++ seen) = subst (λ (l : List Submitted). Stands (states_by answers s.found.plan) s.stood.standing (history ++ l)) (sym all) (acked.stands history stands) in
          rises view answers keepers standings s.more s.unseen s.stood s.ended (history ++ seen) acked.kept is.stopped
          (subst (λ (p : List Line). Stands (states_by answers p) s.stood.standing (history ++ seen)) (sym acked.plan) stood) here

  module _ (plays : OfPlays answers) where
    abbrev from : Standing
    from = s.found.standing

    -- the outputs of what the keeper stood for, with what it submitted, and with what it acknowledged
    abbrev with_seen : List (List Output)
    with_seen = outs answers s.found.plan from.states (from.submitted ++ seen)

    abbrev with_acked : List (List Output)
    with_acked = outs answers s.found.plan from.states (from.submitted ++ acked.batches)

    abbrev later : List (List Output)
    later = outs answers s.found.plan (states_by answers s.found.plan from.states (batches_of (from.submitted ++ acked.batches))) acked.submitted.0

    abbrev n : ℕ
    n = s.stood.collected - from.epoch

    begin : with_seen ≡ with_acked ++ later
    begin =
        ap (outs answers s.found.plan from.states) (ap (λ (l : List Submitted). from.submitted ++ l) acked.submitted.1 ∙ sym (append_assoc from.submitted acked.batches acked.submitted.0))
        ∙ outs_on answers plays.states_join plays.outs_join s.found.plan from.states (from.submitted ++ acked.batches) acked.submitted.0

    few : n ≤ length with_acked
    few =
        let each = count answers s.found.plan from.states (from.submitted ++ acked.batches) in
        let sum = length-append from.submitted acked.batches in
        let last = acked.last in
        let done = acked.kept.done in
        omega (arith, each, sum, last, done)

    -- what went out and what is left in the queue
    outs_are : handed_out s.replies ++ s.stood.queue ≡ numbered (from.epoch + 1) (take n with_acked)
    outs_are =
        let none : from.epoch - from.epoch ≡ 0 = omega arith in
        (keepers.hands s.commands s.replies s.found s.stood is.kept is.driven).outs
        ∙ (ap (λ (q : List EpochOut). q ++ outs_beyond s.found answers seen s.stood.collected) is.fresh.queue
        ∙ (ap (λ (k : ℕ). numbered (k + 1) (take (s.stood.collected - k) (drop (k - from.epoch) with_seen))) is.fresh.collected
        ∙ (ap (λ (k : ℕ). numbered (from.epoch + 1) (take n (drop k with_seen))) none
        ∙ (ap (λ (l : List (List Output)). numbered (from.epoch + 1) (take n l)) begin
        ∙ ap (numbered (from.epoch + 1)) (take-append-le n with_acked later few)))))

    -- ITS OUTPUTS are of the history with what was acknowledged
    pub handed_meant : All (Contains (outs_of answers s.found.plan (history ++ acked.batches))) (handed_out s.replies)
    handed_meant =
        first_of (Contains (outs_of answers s.found.plan (history ++ acked.batches))) (handed_out s.replies) s.stood.queue
        (subst (λ (l : List EpochOut). All (Contains (outs_of answers s.found.plan (history ++ acked.batches))) l) (sym outs_are)
        (rest_among answers plays.states_join plays.outs_join s.found.plan from history stands acked.batches n))
