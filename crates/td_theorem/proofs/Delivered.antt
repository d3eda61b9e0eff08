-- Streams that hold their outputs: what each leaves, and what it writes.
use Rattle.std.proofs.Common.{◌≡◌, ◌⊎◌, ⊎_elim, ℕ, ◌+◌, ◌-◌, ◌<◌, ◌≤◌, Bool, true, List, [], ◌∷◌, ◌++◌, length, take, drop, refl, sym, ap, ◌∙◌, subst, arith}
use Rattle.std.specs.Prelude.{Option, Some, None, Result, Ok, Err, OnOk, All}
use Rattle.std.proofs.lemmas.List.{append-nil, append_assoc}
use Rattle.std.proofs.lemmas.List.Elements.{All-nil, All-cons, All-append, All-weaker}
use Rattle.std.proofs.Math.Seq.{take-append-add}
use Rattle.td_stamp.specs.declared.epoch_out.EpochOut.{EpochOut}
use Rattle.td_stamp.specs.declared.values.Output.{Output}
use Rattle.td_plan.specs.Lines.{Line}
use Rattle.td_calls.specs.Answers.{Answers}
use Rattle.td_batch.specs.Meaning.{numbered}
use Rattle.td_disk.specs.Disk.{DiskView, DiskState}
use Rattle.td_journal.specs.declared.payload.Submitted.{Submitted}
use Rattle.td_store.specs.declared.standing.error.KeeperError.{KeeperError}
use Rattle.td_store.specs.standing.Standing.{Standing, last_epoch, last_request, batches_of}
use Rattle.td_store.specs.standing.Stops.{Stands}
use Rattle.td_store.specs.standing.Told.{Told}
use Rattle.td_store.specs.standing.Advanced.{states_by}
use Rattle.td_questions.specs.declared.question.Wanted.{Wanted as Of}
use Rattle.td_keeper.specs.declared.command.Command.{Command}
use Rattle.td_keeper.specs.declared.command.Command.TheVariants.{Answer}
use Rattle.td_keeper.specs.declared.command.Reply.{Reply}
use Rattle.td_keeper.specs.declared.command.Reply.TheVariants.{Out, Answered, Refused}
use Rattle.td_keeper.specs.Keeping.{Keeping, IsKeeping, EachKeepsTo, EverKeepsTo}
use Rattle.td_keeper.specs.Driven.{submitted_by, handed_in, handed_out, outs_beyond, HandsOn, Obeys, Driven}
use Rattle.td_keeper.specs.Acknowledged.{outs_of, Acknowledges}
use Rattle.td_console.specs.declared.faults.Fault.{Fault}
use Rattle.td_feed.specs.Carried.{new_to}
use Rattle.td_orders.specs.Scripts.{script_of}
use Rattle.td_feed.specs.Fed.{TellsHistory, EachTellsHistory, TellsOnward}
use Rattle.td_feed.specs.Held.{seen_after}
use Rattle.td_orders.specs.Noted.{Aside, note_line}
use Rattle.td_feed.specs.Said.{Saying, replied, aside, full, answered, copied, not_copied, commands_in, replies_in, out_lines, full_line, copied_line, not_copied_line, request_in, line_of, answer_text, lines_of, Wanted, SaysBy, SaysFrom, SaysFed}
use Rattle.td_feed.specs.Session.{wanted_by, wanted_of, script_by}
use Rattle.td_theorem.specs.Life.{TellsAs}
use Rattle.td_theorem.specs.Feeds.{found_by}
use Rattle.td_theorem.specs.Held.{Delivery, seen_by, seen_in_all, HoldsBack, IsPart, WritesAgain, IsDelivery, Deliveries}
use Rattle.td_theorem.proofs.Below.{OfDisks}
use Rattle.td_theorem.proofs.Histories.{StatesJoin, OutsJoin, outs, count, outs_on, rest_of, numbered-append}
use Rattle.td_theorem.proofs.Stints.{same_standing, first_of}

-- the lines of an epoch that is handed out are a part of the lines of the reply
one_written : (marks : Bool) (request : ℕ) (reply : Reply) → All (λ out. IsPart (out_lines marks out) (line_of marks request reply)) (handed_in reply)
one_written marks request (Out (Some out)) =
    All-cons (λ o. IsPart (out_lines marks o) (out_lines marks out)) out [] ([], [], sym (append-nil (out_lines marks out))) (All-nil (λ o. IsPart (out_lines marks o) (out_lines marks out)))
one_written marks request (Out None) = All-nil (λ out. IsPart (out_lines marks out) [])
one_written marks request reply = All-nil (λ out. IsPart (out_lines marks out) (line_of marks request reply))

-- a part of one of two texts is a part of both
part_first : (part a b : List ℕ) → IsPart part a → IsPart part (a ++ b)
part_first part a b is = (
  is.0,
  is.1 ++ b,
  ap (λ (l : List ℕ). l ++ b) is.2 ∙ (append_assoc is.0 (part ++ is.1) b ∙ ap (λ (l : List ℕ). is.0 ++ l) (append_assoc part is.1 b)),
)

part_then : (part a b : List ℕ) → IsPart part b → IsPart part (a ++ b)
part_then part a b is = (a ++ is.0, is.1, ap (λ (l : List ℕ). a ++ l) is.2 ∙ sym (append_assoc a is.0 (part ++ is.1)))

-- so behind other lines
behind : (marks : Bool) (line : List ℕ) (more : List Saying) → All (λ out. IsPart (out_lines marks out) (lines_of marks more)) (handed_out (replies_in more))
    → All (λ out. IsPart (out_lines marks out) (line ++ lines_of marks more)) (handed_out (replies_in more))
behind marks line more all =
    All-weaker (λ out. IsPart (out_lines marks out) (lines_of marks more)) (λ out. IsPart (out_lines marks out) (line ++ lines_of marks more))
    (λ out is. part_then (out_lines marks out) line (lines_of marks more) is) (handed_out (replies_in more)) all

module _ {D : Type 0} (view : D → DiskView) (answers : Answers) where
  -- a question hands out no epoch
  none_asked : (vertex : ℕ) (wanted : Of) (reply : Reply) (old new : Keeping D) → Obeys view answers (Answer vertex wanted) reply old new → handed_in reply ≡ []
  none_asked vertex wanted (Answered epoch entries) old new asks = refl
  none_asked vertex wanted (Refused error back) old new asks = refl
  none_asked vertex wanted other old new asks = absurd asks

  -- and those of all epochs that were handed out are parts of all lines
  pub all_written : (marks : Bool) (sayings : List Saying) (old new : Keeping D) → Driven view answers (commands_in sayings) (replies_in sayings) old new
      → All (λ out. IsPart (out_lines marks out) (lines_of marks sayings)) (handed_out (replies_in sayings))
  all_written marks [] old new driven = All-nil (λ out. IsPart (out_lines marks out) [])
  all_written marks (replied command reply ∷ more) old new driven =
      let line = line_of marks (request_in command) reply in
      let lines = lines_of marks more in
      All-append (λ out. IsPart (out_lines marks out) (line ++ lines)) (handed_in reply) (handed_out (replies_in more))
      (All-weaker (λ out. IsPart (out_lines marks out) line) (λ out. IsPart (out_lines marks out) (line ++ lines)) (λ out is. part_first (out_lines marks out) line lines is) (handed_in reply) (one_written marks (request_in command) reply))
      (behind marks line more (all_written marks more driven.0 new driven.3))
  all_written marks (aside note ∷ more) old new driven = behind marks (note_line note) more (all_written marks more old new driven)
  all_written marks (full epoch ∷ more) old new driven = behind marks (full_line epoch) more (all_written marks more old new driven)
  all_written marks (copied name shape epoch ∷ more) old new driven = behind marks (copied_line name epoch) more (all_written marks more old new driven)
  all_written marks (not_copied name shape why ∷ more) old new driven = behind marks (not_copied_line name why) more (all_written marks more old new driven)
  all_written marks (answered vertex wanted reply ∷ more) old new driven =
      let line = answer_text vertex wanted reply in
      subst (λ (l : List EpochOut). All (λ out. IsPart (out_lines marks out) (line ++ lines_of marks more)) (l ++ handed_out (replies_in more)))
      (sym (none_asked vertex wanted reply old driven.0 driven.2)) (behind marks line more (all_written marks more driven.0 new driven.3))

-- outputs of epochs up to one
none_after : (P : EpochOut → Type 0) (n last : ℕ) (xs : List (List Output)) → n + length xs ≤ last + 1 → All (λ out. last < out.epoch → P out) (numbered n xs)
none_after P n last [] few = All-nil (λ out. last < out.epoch → P out)
none_after P n last (x ∷ xs) few =
    All-cons (λ out. last < out.epoch → P out) (record { epoch = n; recs = x }) (numbered (n + 1) xs) (λ after. absurd (omega (arith, few, after))) (none_after P (n + 1) last xs (omega (arith, few)))

-- an answer of a reading of an image, as it is handed in
abbrev pub OneAnswer : Type 0
OneAnswer = (plan : List Line) (image : List ℕ) (a b : Result Standing KeeperError) → Told plan image a → Told plan image b → a ≡ b

-- what a feed leaves at a moment, as it is handed in
abbrev pub MomentsAreTold : {D : Type 0} → (D → DiskView) → Answers → Type 0
MomentsAreTold {D = D} view answers = (marks : Bool) (result : Result (Unit {0}) Fault) (plan : List Line) (alone : Bool) (disk left : D) (before after : Option (List ℕ)) (wanted : Wanted)
    (from : SaysFrom view answers marks result plan alone disk left before after wanted) → (view disk).lawful
    → (commands : List Command) (replies : List Reply) → Driven view answers commands replies (found_by from) from.ended
    → (history : List Submitted) → EachTellsHistory answers plan history (view disk).state
    → (c : List ℕ) → (view left).state.since (view disk).state.moment c → TellsOnward answers plan history (submitted_by commands replies) c

module _ {D : Type 0} (view : D → DiskView) (answers : Answers) (one : OneAnswer) (moments : MomentsAreTold view answers) (plan : List Line) where
  -- each image of a disk that tells as an image tells its history, and keeps nothing beyond the epoch
  each_tells : (image : List ℕ) (disk : D) (last : ℕ) (h : HoldsBack answers plan last image) → TellsAs plan image (view disk).state → EachTellsHistory answers plan h.history (view disk).state
  each_tells image disk last h alike c is = record { standing = h.tells.standing; told = alike c h.tells.standing is h.tells.told; stands = h.tells.stands }

  each_low : (image : List ℕ) (disk : D) (last : ℕ) → HoldsBack answers plan last image → TellsAs plan image (view disk).state → EachKeepsTo plan last (view disk).state
  each_low image disk last h alike c is s told =
      subst (λ (t : Standing). t.epoch ≤ last)
      (sym (same_standing s h.tells.standing (one plan c (Ok s) (Ok h.tells.standing) told (alike c h.tells.standing is h.tells.told)))) h.low

  -- whatever a keeper said, it was told commands
  told_some : (marks : Bool) (result : Result (Unit {0}) Fault) (before after : Option (List ℕ)) (old new : Keeping D) (x : List Submitted) (notes : List Aside)
      → SaysBy view answers marks result before after old new x notes
      → (commands : List Command) × (replies : List Reply) × Driven view answers commands replies old new
  told_some marks (Ok done) before after old new x notes says = (commands_in says.sayings, replies_in says.sayings, says.driven)
  told_some marks (Err fault) before after old new x notes says =
      ⊎_elim (λ unheard. (unheard.1.commands, unheard.1.replies, unheard.1.driven)) (λ some. (commands_in some.sayings, replies_in some.sayings, some.driven)) says

  -- what a crash leaves of it tells a history that begins with the one that was told
  module _ (alone : Bool) (disk left : D) (before after : Option (List ℕ)) (wanted : Wanted) (lawful : (view disk).lawful) (history : List Submitted) (told : EachTellsHistory answers plan history (view disk).state)
      (image : List ℕ) (crashed : (view left).state.since (view disk).state.moment image) where
    onward : (result : Result (Unit {0}) Fault) → SaysFrom view answers true result plan alone disk left before after wanted → (more : List Submitted) × TellsHistory answers plan more image
    onward result from =
        let some = told_some true result before after (found_by from) from.ended (new_to (found_by from) (wanted.epochs (last_epoch from.keeper.standing) (last_request from.keeper.standing)))
        from.notes from.said in
        let goes = moments true result plan alone disk left before after wanted from lawful some.0 some.1 some.2 history told image crashed in
        (history ++ take goes.count (submitted_by some.0 some.1), goes.tells)

    still : (result : Result (Unit {0}) Fault) → SaysFed view answers true result plan alone disk left before after wanted → (more : List Submitted) × TellsHistory answers plan more image
    still (Ok done) from = onward (Ok done) from
    still (Err fault) said =
        ⊎_elim
        (λ untouched.
        let was = (untouched.unwritten lawful).each image crashed in
        (history, subst (TellsHistory answers plan history) (sym was.2) (told was.0 was.1)))
        (λ from. onward (Err fault) from) said

  -- A DELIVERY leaves what holds back all that was not seen
  holds_on : (image : List ℕ) (d : Delivery D) (last : ℕ) → HoldsBack answers plan last image → TellsAs plan image (view d.disk).state → IsDelivery view answers plan d
      → HoldsBack answers plan (seen_by plan last d) d.image
  holds_on image d last h alike is = record { history = tells.0; tells = tells.1; low = kept d.image is.crashed tells.1.standing tells.1.told }
    where
      tells : (more : List Submitted) × TellsHistory answers plan more d.image
      tells =
          still d.alone d.disk d.left d.before d.after (wanted_of d.options is.streams.records plan d.input) is.lawful h.history (each_tells image d.disk last h alike) d.image is.crashed
          d.result is.streams.fed.said

      kept : EverKeepsTo plan (seen_by plan last d) (view d.disk).state.moment (view d.left).state
      kept =
          subst (λ (m : ℕ). EverKeepsTo plan (seen_after last (script_by d.options m plan d.input).orders) (view d.disk).state.moment (view d.left).state) is.records
          (is.streams.ever_held is.holds is.lawful last (each_low image d.disk last h alike))

  -- and so do several
  pub all_hold : (ds : List (Delivery D)) (from to : List ℕ) (last : ℕ) → HoldsBack answers plan last from → Deliveries view answers plan from ds to
      → HoldsBack answers plan (seen_in_all plan last ds) to
  all_hold [] from to last h same = subst (HoldsBack answers plan last) (sym same) h
  all_hold (d ∷ more) from to last h ds = all_hold more d.image to (seen_by plan last d) (holds_on from d last h ds.0 ds.1) ds.2

  module _ (disks : OfDisks view) (states_join : StatesJoin answers) (outs_join : OutsJoin answers)
      (acknowledges : (commands : List Command) (replies : List Reply) (old new : Keeping D) → IsKeeping old answers
      → Driven view answers commands replies old new → Acknowledges answers commands replies old new)
      (hands : (commands : List Command) (replies : List Reply) (old new : Keeping D) → IsKeeping old answers
      → Driven view answers commands replies old new → HandsOn answers old new (submitted_by commands replies) (handed_out replies)) where
    -- what the commands of a keeper handed out that was just found, where all went out: the outputs of what it stood for come first
    handed_first : (commands : List Command) (replies : List Reply) (old new : Keeping D) → IsKeeping old answers → Driven view answers commands replies old new
        → old.collected ≡ old.standing.epoch → old.queue ≡ [] → new.collected ≡ last_epoch new.standing → new.queue ≡ []
        → (more : List EpochOut) × (handed_out replies ≡ numbered (old.standing.epoch + 1) (outs answers old.plan old.standing.states old.standing.submitted) ++ more)
    handed_first commands replies old new kept driven first empty all none = (numbered (s.epoch + 1 + length there) (take more later), is)
      where
        s : Standing
        s = old.standing

        x : List Submitted
        x = submitted_by commands replies

        there : List (List Output)
        there = outs answers old.plan s.states s.submitted

        later : List (List Output)
        later = outs answers old.plan (states_by answers old.plan s.states (batches_of s.submitted)) x

        n : ℕ
        n = new.collected - s.epoch

        more : ℕ
        more = n - length there

        begin : outs answers old.plan s.states (s.submitted ++ x) ≡ there ++ later
        begin = outs_on answers states_join outs_join old.plan s.states s.submitted x

        far : n ≡ length there + more
        far =
            let last = (acknowledges commands replies old new kept driven).last in
            let many = count answers old.plan s.states s.submitted in
            omega (arith, last, many, all)

        is : handed_out replies ≡ numbered (s.epoch + 1) there ++ numbered (s.epoch + 1 + length there) (take more later)
        is =
            let zero_left : s.epoch - s.epoch ≡ 0 = omega arith in
            sym (append-nil (handed_out replies))
            ∙ (ap (λ (q : List EpochOut). handed_out replies ++ q) (sym none)
            ∙ ((hands commands replies old new kept driven).outs
            ∙ (ap (λ (q : List EpochOut). q ++ outs_beyond old answers x new.collected) empty
            ∙ (ap (λ (k : ℕ). numbered (k + 1) (take (new.collected - k) (drop (k - s.epoch) (outs answers old.plan s.states (s.submitted ++ x))))) first
            ∙ (ap (λ (k : ℕ). numbered (s.epoch + 1) (take n (drop k (outs answers old.plan s.states (s.submitted ++ x))))) zero_left
            ∙ (ap (λ (l : List (List Output)). numbered (s.epoch + 1) (take n l)) begin
            ∙ (ap (λ (k : ℕ). numbered (s.epoch + 1) (take k (there ++ later))) far
            ∙ (ap (numbered (s.epoch + 1)) (take-append-add there later more) ∙ numbered-append (s.epoch + 1) there (take more later)))))))))

    -- A STREAM THAT ANSWERED OK, by one worker
    module _ (image : List ℕ) (d : Delivery D) (last : ℕ) (h : HoldsBack answers plan last image) (alike : TellsAs plan image (view d.disk).state) (lawful : (view d.disk).lawful)
        {limit : Option ℕ} (done : Unit {0}) (from : SaysFrom view answers true (Ok done) plan true d.disk d.left d.before d.after (wanted_by d.options.refuse limit (script_of d.options.placing d.options.hold d.options.questions d.options.copies limit plan d.input))) where
      abbrev keeper : Keeping D
      keeper = found_by from

      -- its keeper stood for what the image told
      stood : keeper.standing ≡ h.tells.standing
      stood =
          let device = from.keeper.device in
          let sound = from.lawful lawful in
          let unwritten = from.unwritten lawful in
          let since = disks.counts_now device (view d.disk).state.moment (view device).state.bytes sound unwritten.later (disks.reads_image device sound) in
          let was = unwritten.each (view device).state.bytes since in
          same_standing keeper.standing h.tells.standing
          (one plan (view device).state.bytes (Ok keeper.standing) (Ok h.tells.standing) (from.told lawful)
          (subst (λ (c : List ℕ). Told plan c (Ok h.tells.standing)) (sym was.2) (alike was.0 h.tells.standing was.1 h.tells.told)))

      stands : Stands (states_by answers keeper.plan) keeper.standing h.history
      stands =
          subst (λ (p : List Line). Stands (states_by answers p) keeper.standing h.history) (sym from.plan_is)
          (subst (λ (s : Standing). Stands (states_by answers plan) s h.history) (sym stood) h.tells.stands)

      low : keeper.standing.epoch ≤ last
      low = subst (λ (s : Standing). s.epoch ≤ last) (sym stood) h.low

      -- the outputs of the history: those up to the checkpoint, and those after it
      parts : outs_of answers keeper.plan h.history
          ≡ numbered 1 (outs answers keeper.plan [] stands.before) ++ numbered (keeper.standing.epoch + 1) (outs answers keeper.plan keeper.standing.states keeper.standing.submitted)
      parts =
          ap (outs_of answers keeper.plan) (sym (append-nil h.history))
          ∙ (rest_of answers states_join outs_join keeper.plan keeper.standing h.history stands []
          ∙ ap (λ (l : List Submitted). numbered 1 (outs answers keeper.plan [] stands.before) ++ numbered (keeper.standing.epoch + 1) (outs answers keeper.plan keeper.standing.states l)) (append-nil keeper.standing.submitted))

      handed : (more : List EpochOut) × (handed_out (replies_in from.said.sayings) ≡ numbered (keeper.standing.epoch + 1) (outs answers keeper.plan keeper.standing.states keeper.standing.submitted) ++ more)
      handed =
          let out = from.all_out refl in
          handed_first (commands_in from.said.sayings) (replies_in from.said.sayings) keeper from.ended from.kept from.said.driven from.fresh.collected from.fresh.queue out.collected out.none_left

      abbrev text : List ℕ
      text = lines_of true from.said.sayings

      abbrev IsWritten : EpochOut → Type 0
      IsWritten out = last < out.epoch → IsPart (out_lines true out) text

      before_it : All IsWritten (numbered 1 (outs answers keeper.plan [] stands.before))
      before_it =
          let many = count answers keeper.plan [] stands.before in
          none_after (λ out. IsPart (out_lines true out) text) 1 last (outs answers keeper.plan [] stands.before) (omega (arith, many, stands.epochs, low))

      after_it : All IsWritten (numbered (keeper.standing.epoch + 1) (outs answers keeper.plan keeper.standing.states keeper.standing.submitted))
      after_it =
          let these = numbered (keeper.standing.epoch + 1) (outs answers keeper.plan keeper.standing.states keeper.standing.submitted) in
          All-weaker (λ out. IsPart (out_lines true out) text) IsWritten (λ out is after. is) these
          (first_of (λ out. IsPart (out_lines true out) text) these handed.0
          (subst (λ (l : List EpochOut). All (λ out. IsPart (out_lines true out) text) l) handed.1 (all_written view answers true from.said.sayings keeper from.ended from.said.driven)))

      pub writes_again : WritesAgain answers plan last image d
      writes_again = record {
        history = h.history;
        tells = h.tells;
        text = text;
        said = from.said.said;
        each = subst (λ (p : List Line). All IsWritten (outs_of answers p h.history)) from.plan_is
            (subst (All IsWritten) (sym parts)
            (All-append IsWritten (numbered 1 (outs answers keeper.plan [] stands.before))
            (numbered (keeper.standing.epoch + 1) (outs answers keeper.plan keeper.standing.states keeper.standing.submitted)) before_it after_it));
      }

    -- by its answer
    pub again : (image : List ℕ) (d : Delivery D) (last : ℕ) → HoldsBack answers plan last image → TellsAs plan image (view d.disk).state → IsDelivery view answers plan d → d.alone ≡ true
        → OnOk d.result (WritesAgain answers plan last image d)
    again image d last h alike is alone = by d.result refl
      where
        by : (r : Result (Unit {0}) Fault) → d.result ≡ r → OnOk r (WritesAgain answers plan last image d)
        by (Ok done) same =
            writes_again image d last h alike is.lawful done
            (subst (λ (a : Bool). SaysFed view answers true (Ok done) plan a d.disk d.left d.before d.after (wanted_of d.options is.streams.records plan d.input)) alone
            (subst (λ (r : Result (Unit {0}) Fault). SaysFed view answers true r plan d.alone d.disk d.left d.before d.after (wanted_of d.options is.streams.records plan d.input)) same is.streams.fed.said))
        by (Err fault) same = tt
