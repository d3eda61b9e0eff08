-- How what a feed writes comes together.
use Rattle.std.proofs.Common.{◌≡◌, ◌⊎◌, ⊎_elim, inl, inr, ℕ, Bool, true, false, List, [], ◌∷◌, ◌++◌, refl, sym, ap, ◌∙◌, subst}
use Rattle.std.specs.Prelude.{Option, Some, None, Result, Ok, Err, OnOk, IfErr}
use Rattle.std.specs.Result.{IsErrAnd}
use Rattle.std.specs.Io.KnownBytes.{Appends}
use Rattle.std.proofs.KnownBytes.{Appends-nil, Appends-trans}
use Rattle.std.proofs.lemmas.List.{append-nil, append_assoc}
use Rattle.td_plan.specs.Lines.{Line as PlanLine}
use Rattle.td_calls.specs.Answers.{Answers}
use Rattle.td_stamp.specs.declared.epoch_out.EpochOut.{EpochOut}
use Rattle.td_disk.specs.Disk.{DiskView}
use Rattle.td_journal.specs.declared.payload.Submitted.{Submitted as AnySubmitted}
use Rattle.td_store.specs.declared.standing.error.KeeperError.TheVariants as error
use Rattle.td_store.specs.standing.Stops.{Begins}
use Rattle.td_keeper.specs.declared.command.Command.{Command}
use Rattle.td_keeper.specs.declared.command.Command.TheVariants.{Submit, SubmitAs, SubmitAll, Release, Settle, Collect, NextOut, Cut, CutUpTo, Answer, WriteCut, CloseFree}
use Rattle.td_keeper.specs.declared.command.Reply.{Reply}
use Rattle.td_keeper.specs.declared.command.Reply.TheVariants.{Submitted, SubmittedAs, SubmittedAll, Released, Settled, Collected, Out, CutTaken, Answered, Written, Closed, Refused, RefusedAll}
use Rattle.td_keeper.specs.Keeping.{Keeping}
use Rattle.td_keeper.specs.Driven.{submitted_in, submitted_by, Obeys, Driven}
use Rattle.td_pool.specs.declared.error.PoolError.{PoolError}
use Rattle.td_console.specs.declared.faults.Fault.{Fault}
use Rattle.td_console.specs.declared.faults.Fault.TheVariants.{Output, Memory, Keeper}
use Rattle.td_orders.specs.declared.note.Note.{Note}
use Rattle.td_questions.specs.declared.question.Wanted.{Wanted as Of}
use Rattle.td_head.specs.Layout.{Sizes}
use Rattle.td_orders.specs.Noted.{Aside, copied_in, note_line}
use Rattle.td_orders.specs.Noted.Aside.{to_say, to_answer, to_copy}
use Rattle.td_feed.specs.Fed.{pool_fault}
use Rattle.td_feed.specs.Said.{request_in, line_of, answer_text, full_line, copied_line, not_copied_line, Saying, commands_in, replies_in, notes_among, lines_of, Wanted, Says, SaysSome, SaysUnheard, SaysBy, SaysFrom, SaysFed, IsOfReplies, copies_said, Refuses}
use Rattle.td_feed.specs.Said.Saying.{replied, aside, full, answered, copied, not_copied}
use Rattle.td_feed.proofs.Replies.{of_memory, for_memory, of_reply, of_pool_error}

-- whether a command's reply has no line
abbrev pub is_quiet : Command → Bool
is_quiet Release = true
is_quiet Settle = true
is_quiet Collect = true
is_quiet Cut = true
is_quiet (CutUpTo epoch) = true
is_quiet (CloseFree most) = true
is_quiet _ = false

-- all of some batches begin them, and what begins a beginning begins the whole
pub begins_all : (some all : List AnySubmitted) → some ≡ all → Begins some all
begins_all some all is = ([], sym is ∙ sym (append-nil some))

pub begins_further : (some x y : List AnySubmitted) → Begins some x → Begins x y → Begins some y
begins_further some x y first next = (first.0 ++ next.0, next.1 ∙ ap (λ (l : List AnySubmitted). l ++ next.0) first.1 ∙ append_assoc some first.0 next.0)

-- what one command submitted
begins_one : (c : Command) (r : Reply) (x : List AnySubmitted) → Begins (submitted_in c r) x → Begins (submitted_in c r ++ []) x
begins_one c r x b = (b.0, b.1 ∙ ap (λ (l : List AnySubmitted). l ++ b.0) (sym (append-nil (submitted_in c r))))

-- notes and answers, and then others
pub notes-append : (ss ts : List Saying) → notes_among (ss ++ ts) ≡ notes_among ss ++ notes_among ts
notes-append [] ts = refl
notes-append (replied x r ∷ ss) ts = notes-append ss ts
notes-append (aside n ∷ ss) ts = ap (λ (l : List Aside). to_say n ∷ l) (notes-append ss ts)
notes-append (full e ∷ ss) ts = notes-append ss ts
notes-append (answered v q r ∷ ss) ts = ap (λ (l : List Aside). to_answer v q ∷ l) (notes-append ss ts)
notes-append (copied n s e ∷ ss) ts = ap (λ (l : List Aside). to_copy n s (Some e) ∷ l) (notes-append ss ts)
notes-append (not_copied n s w ∷ ss) ts = ap (λ (l : List Aside). to_copy n s None ∷ l) (notes-append ss ts)

module _ {D : Type 0} (view : D → DiskView) (answers : Answers) (marks : Bool) where
  -- what is said, as commands and their replies
  abbrev Told : List Saying → Keeping D → Keeping D → Type 0
  Told ss a b = Driven view answers (commands_in ss) (replies_in ss) a b

  told-append : (ss ts : List Saying) (a b c : Keeping D) → Told ss a b → Told ts b c → Told (ss ++ ts) a c
  told-append [] ts a b c is rest = subst (λ (k : Keeping D). Told ts k c) is rest
  told-append (replied x r ∷ ss) ts a b c first rest = (first.0, first.1, first.2, told-append ss ts first.0 b c first.3 rest)
  told-append (aside n ∷ ss) ts a b c first rest = told-append ss ts a b c first rest
  told-append (full e ∷ ss) ts a b c first rest = told-append ss ts a b c first rest
  told-append (answered v q r ∷ ss) ts a b c first rest = (first.0, first.1, first.2, told-append ss ts first.0 b c first.3 rest)
  told-append (copied n s e ∷ ss) ts a b c first rest = told-append ss ts a b c first rest
  told-append (not_copied n s w ∷ ss) ts a b c first rest = told-append ss ts a b c first rest

  submitted-append : (ss ts : List Saying) → submitted_by (commands_in (ss ++ ts)) (replies_in (ss ++ ts)) ≡ submitted_by (commands_in ss) (replies_in ss) ++ submitted_by (commands_in ts) (replies_in ts)
  submitted-append [] ts = refl
  submitted-append (replied x r ∷ ss) ts =
      ap (λ (l : List AnySubmitted). submitted_in x r ++ l) (submitted-append ss ts)
      ∙ sym (append_assoc (submitted_in x r) (submitted_by (commands_in ss) (replies_in ss)) (submitted_by (commands_in ts) (replies_in ts)))
  submitted-append (aside n ∷ ss) ts = submitted-append ss ts
  submitted-append (full e ∷ ss) ts = submitted-append ss ts
  submitted-append (answered v q r ∷ ss) ts =
      ap (λ (l : List AnySubmitted). submitted_in (Answer v q) r ++ l) (submitted-append ss ts)
      ∙ sym (append_assoc (submitted_in (Answer v q) r) (submitted_by (commands_in ss) (replies_in ss)) (submitted_by (commands_in ts) (replies_in ts)))
  submitted-append (copied n s e ∷ ss) ts = submitted-append ss ts
  submitted-append (not_copied n s w ∷ ss) ts = submitted-append ss ts

  -- what is said submits a beginning of some batches, after others
  begins_after : (ss ts : List Saying) (x y : List AnySubmitted) → submitted_by (commands_in ss) (replies_in ss) ≡ x → Begins (submitted_by (commands_in ts) (replies_in ts)) y
      → Begins (submitted_by (commands_in (ss ++ ts)) (replies_in (ss ++ ts))) (x ++ y)
  begins_after ss ts x y is begins =
      let then : List AnySubmitted = submitted_by (commands_in ts) (replies_in ts) in
      let said : submitted_by (commands_in (ss ++ ts)) (replies_in (ss ++ ts)) ≡ x ++ then = submitted-append ss ts ∙ ap (λ (l : List AnySubmitted). l ++ then) is in
      (begins.0, ap (λ (l : List AnySubmitted). x ++ l) begins.1 ∙ sym (append_assoc x then begins.0) ∙ ap (λ (l : List AnySubmitted). l ++ begins.0) (sym said))

  -- lines of what is said, one after another
  lines-append : (ss ts : List Saying) → lines_of marks (ss ++ ts) ≡ lines_of marks ss ++ lines_of marks ts
  lines-append [] ts = refl
  lines-append (replied x r ∷ ss) ts =
      ap (λ (l : List ℕ). line_of marks (request_in x) r ++ l) (lines-append ss ts) ∙ sym (append_assoc (line_of marks (request_in x) r) (lines_of marks ss) (lines_of marks ts))
  lines-append (aside n ∷ ss) ts = ap (λ (l : List ℕ). note_line n ++ l) (lines-append ss ts) ∙ sym (append_assoc (note_line n) (lines_of marks ss) (lines_of marks ts))
  lines-append (answered v q r ∷ ss) ts =
      ap (λ (l : List ℕ). answer_text v q r ++ l) (lines-append ss ts) ∙ sym (append_assoc (answer_text v q r) (lines_of marks ss) (lines_of marks ts))
  lines-append (copied n s e ∷ ss) ts = ap (λ (l : List ℕ). copied_line n e ++ l) (lines-append ss ts) ∙ sym (append_assoc (copied_line n e) (lines_of marks ss) (lines_of marks ts))
  lines-append (not_copied n s w ∷ ss) ts = ap (λ (l : List ℕ). not_copied_line n w ++ l) (lines-append ss ts) ∙ sym (append_assoc (not_copied_line n w) (lines_of marks ss) (lines_of marks ts))
  lines-append (full e ∷ ss) ts = ap (λ (l : List ℕ). full_line e ++ l) (lines-append ss ts) ∙ sym (append_assoc (full_line e) (lines_of marks ss) (lines_of marks ts))

  -- a refusal that is among the replies to the last of what was said is among all
  cause-append : (f : Fault) (ss ts : List Saying) → IsOfReplies f (replies_in ts) → IsOfReplies f (replies_in (ss ++ ts))
  cause-append f [] ts is = is
  cause-append f (replied x r ∷ ss) ts is = λ e same. ⊎_elim inl (λ among. inr (inr among)) (cause-append f ss ts is e same)
  cause-append f (aside n ∷ ss) ts is = cause-append f ss ts is
  cause-append f (full e ∷ ss) ts is = cause-append f ss ts is
  cause-append f (answered v q r ∷ ss) ts is = λ e same. ⊎_elim inl (λ among. inr (inr among)) (cause-append f ss ts is e same)
  cause-append f (copied n s e ∷ ss) ts is = cause-append f ss ts is
  cause-append f (not_copied n s w ∷ ss) ts is = cause-append f ss ts is

  -- the notes of two, where the second has only the first of them
  some_noted : (ss ts : List Saying) (later ns ms : List Aside) → notes_among ss ≡ ns → notes_among ts ++ later ≡ ms → notes_among (ss ++ ts) ++ later ≡ ns ++ ms
  some_noted ss ts later ns ms first rest =
      ap (λ (l : List Aside). l ++ later) (notes-append ss ts) ∙ append_assoc (notes_among ss) (notes_among ts) later ∙ (λ i. first i ++ rest i)

  -- nothing was told
  pub says_nothing : (w : Option (List ℕ)) (k : Keeping D) → Says view answers marks w w k k [] []
  says_nothing w k = record { sayings = []; driven = refl; submitted = refl; noted = refl; said = Appends-nil w }

  -- one command was told, and its line was written
  pub says_one : (before after : Option (List ℕ)) (c : Command) (r : Reply) (old new : Keeping D) → Driven view answers (c ∷ []) (r ∷ []) old new
      → Appends before after (line_of marks (request_in c) r) → Says view answers marks before after old new (submitted_in c r) []
  says_one before after c r old new driven said = record {
    sayings = replied c r ∷ [];
    driven = driven;
    submitted = append-nil (submitted_in c r);
    noted = refl;
    said = subst (λ (l : List ℕ). Appends before after l) (sym (append-nil (line_of marks (request_in c) r))) said;
  }

  -- a note was written
  pub says_note : (before after : Option (List ℕ)) (n : Note) (k : Keeping D) → Appends before after (note_line n) → Says view answers marks before after k k [] (to_say n ∷ [])
  says_note before after n k said = record {
    sayings = aside n ∷ [];
    driven = refl;
    submitted = refl;
    noted = refl;
    said = subst (λ (l : List ℕ). Appends before after l) (sym (append-nil (note_line n))) said;
  }

  -- a question was answered
  pub says_answer : (before after : Option (List ℕ)) (v : ℕ) (q : Of) (r : Reply) (old new : Keeping D) → Driven view answers (Answer v q ∷ []) (r ∷ []) old new
      → Appends before after (answer_text v q r) → Says view answers marks before after old new [] (to_answer v q ∷ [])
  says_answer before after v q r old new driven said = record {
    sayings = answered v q r ∷ [];
    driven = driven;
    submitted = refl;
    noted = refl;
    said = subst (λ (l : List ℕ). Appends before after l) (sym (append-nil (answer_text v q r))) said;
  }

  -- that the journal is full was written
  pub says_full : (before after : Option (List ℕ)) (e : ℕ) (k : Keeping D) → Appends before after (full_line e) → Says view answers marks before after k k [] []
  says_full before after e k said = record {
    sayings = full e ∷ [];
    driven = refl;
    submitted = refl;
    noted = refl;
    said = subst (λ (l : List ℕ). Appends before after l) (sym (append-nil (full_line e))) said;
  }

  -- one after the other
  pub says_then : (u v w : Option (List ℕ)) (a b c : Keeping D) (x y : List AnySubmitted) (ns ms : List Aside) → Says view answers marks u v a b x ns
      → Says view answers marks v w b c y ms → Says view answers marks u w a c (x ++ y) (ns ++ ms)
  says_then u v w a b c x y ns ms first rest = record {
    sayings = first.sayings ++ rest.sayings;
    driven = told-append first.sayings rest.sayings a b c first.driven rest.driven;
    submitted = submitted-append first.sayings rest.sayings ∙ (λ i. first.submitted i ++ rest.submitted i);
    noted = notes-append first.sayings rest.sayings ∙ (λ i. first.noted i ++ rest.noted i);
    said = subst (λ (l : List ℕ). Appends u w l) (sym (lines-append first.sayings rest.sayings)) (Appends-trans u v w (lines_of marks first.sayings) (lines_of marks rest.sayings) first.said rest.said);
  }

  pub then_some : {f : Fault} (u v w : Option (List ℕ)) (a b c : Keeping D) (x y : List AnySubmitted) (ns ms : List Aside) → Says view answers marks u v a b x ns
      → SaysSome view answers marks f v w b c y ms → SaysSome view answers marks f u w a c (x ++ y) (ns ++ ms)
  then_some {f = f} u v w a b c x y ns ms first rest = record {
    sayings = first.sayings ++ rest.sayings;
    driven = told-append first.sayings rest.sayings a b c first.driven rest.driven;
    submitted = begins_after first.sayings rest.sayings x y first.submitted rest.submitted;
    later = rest.later;
    noted = some_noted first.sayings rest.sayings rest.later ns ms first.noted rest.noted;
    text = lines_of marks first.sayings ++ rest.text;
    unsaid = rest.unsaid;
    lines = lines-append first.sayings rest.sayings ∙ ap (λ (l : List ℕ). lines_of marks first.sayings ++ l) rest.lines ∙ sym (append_assoc (lines_of marks first.sayings) rest.text rest.unsaid);
    said = Appends-trans u v w (lines_of marks first.sayings) rest.text first.said rest.said;
    cause = cause-append f first.sayings rest.sayings rest.cause;
  }

  -- all is some, whatever the replies
  pub some_of_all : (f : Fault) (u v : Option (List ℕ)) (a b : Keeping D) (x : List AnySubmitted) (ns : List Aside) → ((rs : List Reply) → IsOfReplies f rs) → Says view answers marks u v a b x ns
      → SaysSome view answers marks f u v a b x ns
  some_of_all f u v a b x ns cause all = record {
    sayings = all.sayings;
    driven = all.driven;
    submitted = begins_all (submitted_by (commands_in all.sayings) (replies_in all.sayings)) x all.submitted;
    later = [];
    noted = append-nil (notes_among all.sayings) ∙ all.noted;
    text = lines_of marks all.sayings;
    unsaid = [];
    lines = sym (append-nil (lines_of marks all.sayings));
    said = all.said;
    cause = cause (replies_in all.sayings);
  }

  -- the same at another refusal
  pub some_for : {x : List AnySubmitted} (f e : Fault) (u v : Option (List ℕ)) (a b : Keeping D) (ns : List Aside) → ((rs : List Reply) → IsOfReplies f rs) → SaysSome view answers marks e u v a b x ns → SaysSome view answers marks f u v a b x ns
  some_for f e u v a b ns cause some = record {
    sayings = some.sayings;
    driven = some.driven;
    submitted = some.submitted;
    later = some.later;
    noted = some.noted;
    text = some.text;
    unsaid = some.unsaid;
    lines = some.lines;
    said = some.said;
    cause = cause (replies_in some.sayings);
  }

  -- of more notes
  pub some_of_more : {f : Fault} {x : List AnySubmitted} (u v : Option (List ℕ)) (a b : Keeping D) (ns more ms : List Aside) → ns ++ more ≡ ms → SaysSome view answers marks f u v a b x ns
      → SaysSome view answers marks f u v a b x ms
  some_of_more u v a b ns more ms is some = record {
    sayings = some.sayings;
    driven = some.driven;
    submitted = some.submitted;
    later = some.later ++ more;
    noted = sym (append_assoc (notes_among some.sayings) some.later more) ∙ ap (λ (l : List Aside). l ++ more) some.noted ∙ is;
    text = some.text;
    unsaid = some.unsaid;
    lines = some.lines;
    said = some.said;
    cause = some.cause;
  }

  -- of more batches
  pub some_of_longer : {f : Fault} {x y : List AnySubmitted} (u v : Option (List ℕ)) (a b : Keeping D) (ns : List Aside) → Begins x y → SaysSome view answers marks f u v a b x ns
      → SaysSome view answers marks f u v a b y ns
  some_of_longer {x = x} {y = y} u v a b ns longer some = record {
    sayings = some.sayings;
    driven = some.driven;
    submitted = begins_further (submitted_by (commands_in some.sayings) (replies_in some.sayings)) x y some.submitted longer;
    later = some.later;
    noted = some.noted;
    text = some.text;
    unsaid = some.unsaid;
    lines = some.lines;
    said = some.said;
    cause = some.cause;
  }

  -- the last line was not written
  pub unsaid_one : {x : List AnySubmitted} (f : Fault) (w : Option (List ℕ)) (c : Command) (r : Reply) (old new : Keeping D) → IsOfReplies f (r ∷ []) → Driven view answers (c ∷ []) (r ∷ []) old new
      → Begins (submitted_in c r) x → SaysSome view answers marks f w w old new x []
  unsaid_one {x = x} f w c r old new cause driven begins = record {
    sayings = replied c r ∷ [];
    driven = driven;
    submitted = begins_one c r x begins;
    later = [];
    noted = refl;
    text = [];
    unsaid = lines_of marks (replied c r ∷ []);
    lines = refl;
    said = Appends-nil w;
    cause = cause;
  }

  pub unsaid_none : {x : List AnySubmitted} (f : Fault) (w : Option (List ℕ)) (k : Keeping D) (ns : List Aside) → IsOfReplies f [] → SaysSome view answers marks f w w k k x ns
  unsaid_none {x = x} f w k ns cause =
      record { sayings = []; driven = refl; submitted = (x, refl); later = ns; noted = refl; text = []; unsaid = []; lines = refl; said = Appends-nil w; cause = cause }

  -- a refused command writes nothing
  pub refused_some : {x : List AnySubmitted} (f : Fault) (w : Option (List ℕ)) (c : Command) (old new : Keeping D) (told : Refuses view answers f c old new) → Begins (submitted_in c told.reply) x
      → SaysSome view answers marks f w w old new x []
  refused_some f w c old new told begins = unsaid_one f w c told.reply old new (of_reply f told.reply told.refused told.fault_is) told.driven begins

  -- whatever was written, the keeper was told
  pub unheard : {f : Fault} {x : List AnySubmitted} (u v : Option (List ℕ)) (a b : Keeping D) (ns : List Aside) → SaysSome view answers marks f u v a b x ns → SaysUnheard view answers marks a b x
  unheard u v a b ns some = record { commands = commands_in some.sayings; replies = replies_in some.sayings; driven = some.driven; submitted = some.submitted }

  pub unheard_of_longer : {x y : List AnySubmitted} (a b : Keeping D) → Begins x y → SaysUnheard view answers marks a b x → SaysUnheard view answers marks a b y
  unheard_of_longer {x = x} {y = y} a b longer told =
      record { commands = told.commands; replies = told.replies; driven = told.driven; submitted = begins_further (submitted_by told.commands told.replies) x y told.submitted longer }

  -- whatever came of it, the keeper was told commands
  pub always_driven : (result : Result (Unit {0}) Fault) (u v : Option (List ℕ)) (a b : Keeping D) (x : List AnySubmitted) (ns : List Aside) → SaysBy view answers marks result u v a b x ns
      → SaysUnheard view answers marks a b x
  always_driven (Ok done) u v a b x ns all = unheard u v a b ns (some_of_all Memory u v a b x ns of_memory all)
  always_driven (Err fault) u v a b x ns said = ⊎_elim (λ output. output.1) (λ some. unheard u v a b ns some) said

  driven-append : (cs : List Command) (rs : List Reply) (ds : List Command) (ss : List Reply) (a b c : Keeping D) → Driven view answers cs rs a b
      → Driven view answers ds ss b c → Driven view answers (cs ++ ds) (rs ++ ss) a c
  driven-append [] [] ds ss a b c is rest = subst (λ (k : Keeping D). Driven view answers ds ss k c) is rest
  driven-append [] (r ∷ rs) ds ss a b c none rest = absurd none
  driven-append (x ∷ cs) [] ds ss a b c none rest = absurd none
  driven-append (x ∷ cs) (r ∷ rs) ds ss a b c first rest = (first.0, first.1, first.2, driven-append cs rs ds ss first.0 b c first.3 rest)

  -- and what commands submitted, and then others
  by-append : (cs : List Command) (rs : List Reply) (ds : List Command) (ss : List Reply) (a b : Keeping D) → Driven view answers cs rs a b
      → submitted_by (cs ++ ds) (rs ++ ss) ≡ submitted_by cs rs ++ submitted_by ds ss
  by-append [] [] ds ss a b is = refl
  by-append [] (r ∷ rs) ds ss a b none = absurd none
  by-append (x ∷ cs) [] ds ss a b none = absurd none
  by-append (x ∷ cs) (r ∷ rs) ds ss a b first =
      ap (λ (l : List AnySubmitted). submitted_in x r ++ l) (by-append cs rs ds ss first.0 b first.3) ∙ sym (append_assoc (submitted_in x r) (submitted_by cs rs) (submitted_by ds ss))

  pub then_unheard : {y : List AnySubmitted} (u v : Option (List ℕ)) (a b c : Keeping D) (x : List AnySubmitted) (ns : List Aside) → Says view answers marks u v a b x ns
      → SaysUnheard view answers marks b c y → SaysUnheard view answers marks a c (x ++ y)
  then_unheard u v a b c x ns first rest =
      let then : List AnySubmitted = submitted_by rest.commands rest.replies in
      let by : submitted_by (commands_in first.sayings ++ rest.commands) (replies_in first.sayings ++ rest.replies) ≡ x ++ then =
      by-append (commands_in first.sayings) (replies_in first.sayings) rest.commands rest.replies a b first.driven ∙ ap (λ (l : List AnySubmitted). l ++ then) first.submitted in
      record {
        commands = commands_in first.sayings ++ rest.commands;
        replies = replies_in first.sayings ++ rest.replies;
        driven = driven-append (commands_in first.sayings) (replies_in first.sayings) rest.commands rest.replies a b c first.driven rest.driven;
        submitted = (rest.submitted.0, ap (λ (l : List AnySubmitted). x ++ l) rest.submitted.1 ∙ sym (append_assoc x then rest.submitted.0) ∙ ap (λ (l : List AnySubmitted). l ++ rest.submitted.0) (sym by));
      }

  -- AT AN ANSWER
  pub then_by : (result : Result (Unit {0}) Fault) (u v w : Option (List ℕ)) (a b c : Keeping D) (x y : List AnySubmitted) (ns ms : List Aside) → Says view answers marks u v a b x ns
      → SaysBy view answers marks result v w b c y ms → SaysBy view answers marks result u w a c (x ++ y) (ns ++ ms)
  then_by (Ok done) u v w a b c x y ns ms first rest = says_then u v w a b c x y ns ms first rest
  then_by (Err fault) u v w a b c x y ns ms first rest = ⊎_elim (λ output. inl (output.0, then_unheard u v a b c x ns first output.1)) (λ some. inr (then_some u v w a b c x y ns ms first some)) rest

  pub by_ok : (result : Result (Unit {0}) Fault) (u v : Option (List ℕ)) (a b : Keeping D) (x : List AnySubmitted) (ns : List Aside) → result ≡ Ok tt
      → Says view answers marks u v a b x ns → SaysBy view answers marks result u v a b x ns
  by_ok result u v a b x ns is says = subst (λ (r : Result (Unit {0}) Fault). SaysBy view answers marks r u v a b x ns) (sym is) says

  pub by_refusal : (result : Result (Unit {0}) Fault) (P : Fault → Type 0) (u v : Option (List ℕ)) (a b : Keeping D) (x : List AnySubmitted) (ns : List Aside) → IsErrAnd result P
      → ((f : Fault) → P f → ((f ≡ Output) × SaysUnheard view answers marks a b x) ⊎ SaysSome view answers marks f u v a b x ns)
      → SaysBy view answers marks result u v a b x ns
  by_refusal (Ok done) P u v a b x ns none step = absurd none
  by_refusal (Err fault) P u v a b x ns is step = step fault is

  -- the same fault is handed on, with more that was asked for
  pub handed_on : (result : Result (Unit {0}) Fault) (e : Fault) (u v w : Option (List ℕ)) (a b c : Keeping D) (x y z : List AnySubmitted) (ns ms more all : List Aside) → (ns ++ ms) ++ more ≡ all → Begins (x ++ y) z
      → IsErrAnd result (λ f. f ≡ e) → Says view answers marks u v a b x ns → SaysBy view answers marks (Err e) v w b c y ms
      → SaysBy view answers marks result u w a c z all
  handed_on (Ok done) e u v w a b c x y z ns ms more all whole longer none first rest = absurd none
  handed_on (Err f) e u v w a b c x y z ns ms more all whole longer is first rest =
      ⊎_elim (λ output. inl (is ∙ output.0, unheard_of_longer a c longer (then_unheard u v a b c x ns first output.1)))
      (λ some. inr (subst (λ (d : Fault). SaysSome view answers marks d u w a c z all) (sym is)
      (some_of_more u w a c (ns ++ ms) more all whole (some_of_longer u w a c (ns ++ ms) longer (then_some u v w a b c x y ns ms first some))))) rest

  -- a command whose reply has no line
  pub says_silent : (w : Option (List ℕ)) (c : Command) (r : Reply) (old new : Keeping D) → Driven view answers (c ∷ []) (r ∷ []) old new → line_of marks (request_in c) r ≡ []
      → Says view answers marks w w old new (submitted_in c r) []
  says_silent w c r old new driven none = says_one w w c r old new driven (subst (λ (l : List ℕ). Appends w w l) (sym none) (Appends-nil w))

  quiet_release : (r : Reply) (old new : Keeping D) → Obeys view answers Release r old new → line_of marks 0 r ≡ []
  quiet_release (Submitted n) old new not_so = absurd not_so
  quiet_release (SubmittedAs n) old new not_so = absurd not_so
  quiet_release (SubmittedAll n m) old new not_so = absurd not_so
  quiet_release (RefusedAll e xs) old new not_so = absurd not_so
  quiet_release (Released n) old new is = refl
  quiet_release Settled old new is = refl
  quiet_release (Collected n) old new is = refl
  quiet_release (Out o) old new not_so = absurd not_so
  quiet_release (CutTaken n) old new is = refl
  quiet_release (Answered m ys) old new is = refl
  quiet_release Closed old new is = refl
  quiet_release (Written w) old new not_so = absurd not_so
  quiet_release (Refused e b) old new is = refl

  quiet_settle : (r : Reply) (old new : Keeping D) → Obeys view answers Settle r old new → line_of marks 0 r ≡ []
  quiet_settle (Submitted n) old new not_so = absurd not_so
  quiet_settle (SubmittedAs n) old new not_so = absurd not_so
  quiet_settle (SubmittedAll n m) old new not_so = absurd not_so
  quiet_settle (RefusedAll e xs) old new not_so = absurd not_so
  quiet_settle (Released n) old new is = refl
  quiet_settle Settled old new is = refl
  quiet_settle (Collected n) old new is = refl
  quiet_settle (Out o) old new not_so = absurd not_so
  quiet_settle (CutTaken n) old new is = refl
  quiet_settle (Answered m ys) old new is = refl
  quiet_settle Closed old new is = refl
  quiet_settle (Written w) old new not_so = absurd not_so
  quiet_settle (Refused e b) old new is = refl

  quiet_collect : (r : Reply) (old new : Keeping D) → Obeys view answers Collect r old new → line_of marks 0 r ≡ []
  quiet_collect (Submitted n) old new not_so = absurd not_so
  quiet_collect (SubmittedAs n) old new not_so = absurd not_so
  quiet_collect (SubmittedAll n m) old new not_so = absurd not_so
  quiet_collect (RefusedAll e xs) old new not_so = absurd not_so
  quiet_collect (Released n) old new is = refl
  quiet_collect Settled old new is = refl
  quiet_collect (Collected n) old new is = refl
  quiet_collect (Out o) old new not_so = absurd not_so
  quiet_collect (CutTaken n) old new is = refl
  quiet_collect (Answered m ys) old new is = refl
  quiet_collect Closed old new is = refl
  quiet_collect (Written w) old new not_so = absurd not_so
  quiet_collect (Refused e b) old new is = refl

  quiet_cut : (r : Reply) (old new : Keeping D) → Obeys view answers Cut r old new → line_of marks 0 r ≡ []
  quiet_cut (Submitted n) old new not_so = absurd not_so
  quiet_cut (SubmittedAs n) old new not_so = absurd not_so
  quiet_cut (SubmittedAll n m) old new not_so = absurd not_so
  quiet_cut (RefusedAll e xs) old new not_so = absurd not_so
  quiet_cut (Released n) old new is = refl
  quiet_cut Settled old new is = refl
  quiet_cut (Collected n) old new is = refl
  quiet_cut (Out o) old new not_so = absurd not_so
  quiet_cut (CutTaken n) old new is = refl
  quiet_cut (Answered m ys) old new is = refl
  quiet_cut Closed old new is = refl
  quiet_cut (Written w) old new not_so = absurd not_so
  quiet_cut (Refused e b) old new is = refl

  quiet_cut_up_to : (most : ℕ) (r : Reply) (old new : Keeping D) → Obeys view answers (CutUpTo most) r old new → line_of marks 0 r ≡ []
  quiet_cut_up_to most (Submitted n) old new not_so = absurd not_so
  quiet_cut_up_to most (SubmittedAs n) old new not_so = absurd not_so
  quiet_cut_up_to most (SubmittedAll n m) old new not_so = absurd not_so
  quiet_cut_up_to most (RefusedAll e xs) old new not_so = absurd not_so
  quiet_cut_up_to most (Released n) old new is = refl
  quiet_cut_up_to most Settled old new is = refl
  quiet_cut_up_to most (Collected n) old new is = refl
  quiet_cut_up_to most (Out o) old new not_so = absurd not_so
  quiet_cut_up_to most (CutTaken n) old new is = refl
  quiet_cut_up_to most (Answered m ys) old new is = refl
  quiet_cut_up_to most Closed old new is = refl
  quiet_cut_up_to most (Written w) old new not_so = absurd not_so
  quiet_cut_up_to most (Refused e b) old new is = refl

  quiet_close : (most : ℕ) (r : Reply) (old new : Keeping D) → Obeys view answers (CloseFree most) r old new → line_of marks 0 r ≡ []
  quiet_close most (Submitted n) old new not_so = absurd not_so.0
  quiet_close most (SubmittedAs n) old new not_so = absurd not_so.0
  quiet_close most (SubmittedAll n m) old new not_so = absurd not_so.0
  quiet_close most (RefusedAll e xs) old new not_so = absurd not_so.0
  quiet_close most (Out o) old new not_so = absurd not_so.0
  quiet_close most (Answered m ys) old new not_so = absurd not_so.0
  quiet_close most (Written w) old new not_so = absurd not_so.0
  quiet_close most (Released n) old new is = refl
  quiet_close most Settled old new is = refl
  quiet_close most (Collected n) old new is = refl
  quiet_close most (CutTaken n) old new is = refl
  quiet_close most Closed old new is = refl
  quiet_close most (Refused e b) old new is = refl

  -- releasing, settling, collecting, cutting and closing cells write no line
  pub quietly : (w : Option (List ℕ)) (c : Command) (r : Reply) (old new : Keeping D) → is_quiet c ≡ true → Obeys view answers c r old new
      → Driven view answers (c ∷ []) (r ∷ []) old new → Says view answers marks w w old new [] []
  quietly w Release r old new quiet is driven = says_silent w Release r old new driven (quiet_release r old new is)
  quietly w Settle r old new quiet is driven = says_silent w Settle r old new driven (quiet_settle r old new is)
  quietly w Collect r old new quiet is driven = says_silent w Collect r old new driven (quiet_collect r old new is)
  quietly w Cut r old new quiet is driven = says_silent w Cut r old new driven (quiet_cut r old new is)
  quietly w (CutUpTo e) r old new quiet is driven = says_silent w (CutUpTo e) r old new driven (quiet_cut_up_to e r old new is)
  quietly w (Submit batch) r old new not_so is driven = absurd (let is = not_so in cc)
  quietly w (SubmitAs request batch) r old new not_so is driven = absurd (let is = not_so in cc)
  quietly w (SubmitAll group) r old new not_so is driven = absurd (let is = not_so in cc)
  quietly w (Answer v q) r old new not_so is driven = absurd (let is = not_so in cc)
  quietly w NextOut r old new not_so is driven = absurd (let is = not_so in cc)
  quietly w WriteCut r old new not_so is driven = absurd (let is = not_so in cc)
  quietly w (CloseFree most) r old new quiet is driven = says_silent w (CloseFree most) r old new driven (quiet_close most r old new is)

  -- the lines of one reply, where they were to be written
  pub said_by : (result : Result (Unit {0}) Fault) (w v : Option (List ℕ)) (c : Command) (r : Reply) (old new : Keeping D) (x : List AnySubmitted) (P : Type 0)
      → Driven view answers (c ∷ []) (r ∷ []) old new → submitted_in c r ≡ x → OnOk result (Appends w v (line_of marks (request_in c) r))
      → IfErr result (λ f. (f ≡ Output) ⊎ ((f ≡ Memory) × P)) → (P → v ≡ w) → SaysBy view answers marks result w v old new x []
  said_by (Ok done) w v c r old new x P driven is said none same =
      subst (λ (l : List AnySubmitted). Says view answers marks w v old new l []) is (says_one w v c r old new driven said)
  said_by (Err f) w v c r old new x P driven is said why same =
      ⊎_elim (λ output. inl (output, unheard w w old new [] (unsaid_one Memory w c r old new (of_memory (r ∷ [])) driven (begins_all (submitted_in c r) x is))))
      (λ memory. inr (subst (λ (u : Option (List ℕ)). SaysSome view answers marks f w u old new x []) (sym (same memory.1))
      (unsaid_one f w c r old new (for_memory f memory.0 (r ∷ [])) driven (begins_all (submitted_in c r) x is)))) why

  -- the line of a note, where it was to be written
  pub noted_by : (result : Result (Unit {0}) Fault) (w v : Option (List ℕ)) (n : Note) (k : Keeping D) (P : Type 0) → OnOk result (Appends w v (note_line n))
      → IfErr result (λ f. (f ≡ Output) ⊎ ((f ≡ Memory) × P)) → (P → v ≡ w) → SaysBy view answers marks result w v k k [] (to_say n ∷ [])
  noted_by (Ok done) w v n k P said none same = says_note w v n k said
  noted_by (Err f) w v n k P said why same =
      ⊎_elim (λ output. inl (output, unheard w w k k (to_say n ∷ []) (unsaid_none Memory w k (to_say n ∷ []) (of_memory []))))
      (λ memory. inr (subst (λ (u : Option (List ℕ)). SaysSome view answers marks f w u k k [] (to_say n ∷ [])) (sym (same memory.1)) (unsaid_none f w k (to_say n ∷ []) (for_memory f memory.0 [])))) why

  -- that a copy was made was written, or why it was not
  pub says_copied : (before after : Option (List ℕ)) (n : List ℕ) (s : Sizes) (e : ℕ) (k : Keeping D) → Appends before after (copied_line n e) → Says view answers marks before after k k [] (to_copy n s (Some e) ∷ [])
  says_copied before after n s e k said = record {
    sayings = copied n s e ∷ [];
    driven = refl;
    submitted = refl;
    noted = refl;
    said = subst (λ (l : List ℕ). Appends before after l) (sym (append-nil (copied_line n e))) said;
  }

  pub says_not_copied : (before after : Option (List ℕ)) (n : List ℕ) (s : Sizes) (why : List ℕ) (k : Keeping D) → Appends before after (not_copied_line n why) → Says view answers marks before after k k [] (to_copy n s None ∷ [])
  says_not_copied before after n s why k said = record {
    sayings = not_copied n s why ∷ [];
    driven = refl;
    submitted = refl;
    noted = refl;
    said = subst (λ (l : List ℕ). Appends before after l) (sym (append-nil (not_copied_line n why))) said;
  }

  -- a line that stands for one of these, where it was to be written
  pub line_by : (result : Result (Unit {0}) Fault) (w v : Option (List ℕ)) (line : List ℕ) (ns : List Aside) (k : Keeping D) (P : Type 0) → (Appends w v line → Says view answers marks w v k k [] ns)
      → OnOk result (Appends w v line) → IfErr result (λ f. (f ≡ Output) ⊎ ((f ≡ Memory) × P)) → (P → v ≡ w) → SaysBy view answers marks result w v k k [] ns
  line_by (Ok done) w v line ns k P says said none same = says said
  line_by (Err f) w v line ns k P says said why same =
      ⊎_elim (λ output. inl (output, unheard w w k k ns (unsaid_none Memory w k ns (of_memory []))))
      (λ memory. inr (subst (λ (u : Option (List ℕ)). SaysSome view answers marks f w u k k [] ns) (sym (same memory.1)) (unsaid_none f w k ns (for_memory f memory.0 [])))) why

  -- an answer, of which nothing was written
  unsaid_answer : (f : Fault) (w : Option (List ℕ)) (v : ℕ) (q : Of) (r : Reply) (old new : Keeping D) → IsOfReplies f (r ∷ []) → Driven view answers (Answer v q ∷ []) (r ∷ []) old new
      → SaysSome view answers marks f w w old new [] (to_answer v q ∷ [])
  unsaid_answer f w v q r old new cause driven = record {
    sayings = answered v q r ∷ [];
    driven = driven;
    submitted = ([], refl);
    later = [];
    noted = refl;
    text = [];
    unsaid = lines_of marks (answered v q r ∷ []);
    lines = refl;
    said = Appends-nil w;
    cause = cause;
  }

  -- the lines of an answer, where they were to be written
  pub answered_by : (result : Result (Unit {0}) Fault) (w u : Option (List ℕ)) (v : ℕ) (q : Of) (r : Reply) (old new : Keeping D) (P : Type 0)
      → Driven view answers (Answer v q ∷ []) (r ∷ []) old new → OnOk result (Appends w u (answer_text v q r))
      → IfErr result (λ f. (f ≡ Output) ⊎ ((f ≡ Memory) × P)) → (P → u ≡ w) → SaysBy view answers marks result w u old new [] (to_answer v q ∷ [])
  answered_by (Ok done) w u v q r old new P driven said none same = says_answer w u v q r old new driven said
  answered_by (Err f) w u v q r old new P driven said why same =
      ⊎_elim (λ output. inl (output, unheard w w old new (to_answer v q ∷ []) (unsaid_answer Memory w v q r old new (of_memory (r ∷ [])) driven)))
      (λ memory. inr (subst (λ (t : Option (List ℕ)). SaysSome view answers marks f w t old new [] (to_answer v q ∷ [])) (sym (same memory.1)) (unsaid_answer f w v q r old new (for_memory f memory.0 (r ∷ [])) driven))) why

  -- a question that was not answered
  pub unanswered : (f : Fault) (w : Option (List ℕ)) (c : Command) (old new : Keeping D) (ns : List Aside) → ((r : Reply) → submitted_in c r ≡ []) → Refuses view answers f c old new
      → SaysSome view answers marks f w w old new [] ns
  unanswered f w c old new ns none refuses = some_of_more w w old new [] ns ns refl (refused_some f w c old new refuses (begins_all (submitted_in c refuses.reply) [] (none refuses.reply)))

  -- the line that the journal is full, where it was to be written
  pub full_by : (result : Result (Unit {0}) Fault) (w v : Option (List ℕ)) (e : ℕ) (k : Keeping D) (P : Type 0) → OnOk result (Appends w v (full_line e))
      → IfErr result (λ f. (f ≡ Output) ⊎ ((f ≡ Memory) × P)) → (P → v ≡ w) → SaysBy view answers marks result w v k k [] []
  full_by (Ok done) w v e k P said none same = says_full w v e k said
  full_by (Err f) w v e k P said why same =
      ⊎_elim (λ output. inl (output, unheard w w k k [] (unsaid_none Memory w k [] (of_memory []))))
      (λ memory. inr (subst (λ (u : Option (List ℕ)). SaysSome view answers marks f w u k k [] []) (sym (same memory.1)) (unsaid_none f w k [] (for_memory f memory.0 [])))) why

  -- after what was said
  pub then_quiet : (result : Result (Unit {0}) Fault) (u v w : Option (List ℕ)) (a b c : Keeping D) (x : List AnySubmitted) (ns : List Aside) → Says view answers marks u v a b x ns
      → SaysBy view answers marks result v w b c [] [] → SaysBy view answers marks result u w a c x ns
  then_quiet result u v w a b c x ns first rest =
      subst (λ (l : List AnySubmitted). SaysBy view answers marks result u w a c l ns) (append-nil x)
      (subst (λ (l : List Aside). SaysBy view answers marks result u w a c (x ++ []) l) (append-nil ns) (then_by result u v w a b c x [] ns [] first rest))

  -- OUTPUTS THAT ARE HELD BACK: the lines of the replies are what was written, and what is held; and none of them is the keeper's refusal
  pub record Holding (before after : Option (List ℕ)) (old new : Keeping D) (held : List ℕ) : Type 0 where
    pub some : SaysSome view answers marks Memory before after old new [] []
    pub held_is : some.unsaid ≡ held
    pub none : submitted_by (commands_in some.sayings) (replies_in some.sayings) ≡ []

  pub holding_nothing : (w : Option (List ℕ)) (k : Keeping D) (held : List ℕ) → held ≡ [] → Holding w w k k held
  holding_nothing w k held is = record {
    some = record { sayings = []; driven = refl; submitted = ([], refl); later = []; noted = refl; text = []; unsaid = []; lines = refl; said = Appends-nil w; cause = of_memory [] };
    held_is = sym is;
    none = refl;
  }

  -- one reply more, whose lines are held too
  pub holding_more : (u v : Option (List ℕ)) (a b c : Keeping D) (o : Option EpochOut) (held more : List ℕ) → Holding u v a b held
      → Driven view answers (NextOut ∷ []) (Out o ∷ []) b c → more ≡ held ++ line_of marks 0 (Out o) → Holding u v a c more
  holding_more u v a b c o held more so_far driven is =
      let s = so_far.some in
      let one : List Saying = replied NextOut (Out o) ∷ [] in
      let none : submitted_by (commands_in (s.sayings ++ one)) (replies_in (s.sayings ++ one)) ≡ [] =
      submitted-append s.sayings one ∙ append-nil (submitted_by (commands_in s.sayings) (replies_in s.sayings)) ∙ so_far.none in
      record {
        some = record {
          sayings = s.sayings ++ one;
          driven = told-append s.sayings one a b c s.driven driven;
          submitted = begins_all (submitted_by (commands_in (s.sayings ++ one)) (replies_in (s.sayings ++ one))) [] none;
          later = s.later;
          noted = ap (λ (l : List Aside). l ++ s.later) (notes-append s.sayings one ∙ append-nil (notes_among s.sayings)) ∙ s.noted;
          text = s.text;
          unsaid = more;
          lines = lines-append s.sayings one
              ∙ ap (λ (l : List ℕ). l ++ lines_of marks one) s.lines
              ∙ append_assoc s.text s.unsaid (lines_of marks one)
              ∙ ap (λ (l : List ℕ). s.text ++ l) (ap (λ (l : List ℕ). l ++ lines_of marks one) so_far.held_is ∙ ap (λ (l : List ℕ). held ++ l) (append-nil (line_of marks 0 (Out o))) ∙ sym is);
          said = s.said;
          cause = of_memory (replies_in (s.sayings ++ one));
        };
        held_is = refl;
        none = none;
      }

  -- a reply that has none
  pub none_out : (o : Option EpochOut) → ((out : EpochOut) → o ≡ Some out → ⊥) → line_of marks 0 (Out o) ≡ []
  none_out None not_some = refl
  none_out (Some out) not_some = absurd (not_some out refl)

  -- what is held is written
  pub holding_written : (u v w : Option (List ℕ)) (a b : Keeping D) (held after : List ℕ) → Holding u v a b held → Appends v w held → after ≡ [] → Holding u w a b after
  holding_written u v w a b held after so_far written none =
      let s = so_far.some in
      record {
        some = record {
          sayings = s.sayings;
          driven = s.driven;
          submitted = s.submitted;
          later = s.later;
          noted = s.noted;
          text = s.text ++ s.unsaid;
          unsaid = [];
          lines = s.lines ∙ sym (append-nil (s.text ++ s.unsaid));
          said = Appends-trans u v w s.text s.unsaid s.said (subst (λ (l : List ℕ). Appends v w l) (sym so_far.held_is) written);
          cause = s.cause;
        };
        held_is = sym none;
        none = so_far.none;
      }

  -- or not yet
  pub holding_piece : {W S : Type 0} (contents : W → Option (List ℕ)) (bytes : S → List ℕ) (u : Option (List ℕ)) (v w : W) (a b : Keeping D) (held after : S) → Holding u (contents v) a b (bytes held)
      → (Appends (contents v) (contents w) (bytes held) × (bytes after ≡ [])) ⊎ ((w ≡ v) × (after ≡ held)) → Holding u (contents w) a b (bytes after)
  holding_piece contents bytes u v w a b held after so_far (inl written) =
      holding_written u (contents v) (contents w) a b (bytes held) (bytes after) so_far written.0 written.1
  holding_piece contents bytes u v w a b held after so_far (inr same) =
      subst (λ (l : List ℕ). Holding u (contents w) a b l) (ap bytes (sym same.1)) (subst (λ x. Holding u (contents x) a b (bytes held)) (sym same.0) so_far)

  -- nothing is held any more
  no_notes : (ns later : List Aside) → ns ++ later ≡ [] → ns ≡ []
  no_notes [] later is = refl
  no_notes (n ∷ ns) later is = absurd (let no = is in cc)

  pub all_written : (u v : Option (List ℕ)) (a b : Keeping D) (held : List ℕ) → Holding u v a b held → held ≡ [] → Says view answers marks u v a b [] []
  all_written u v a b held so_far none =
      let s = so_far.some in
      record {
        sayings = s.sayings;
        driven = s.driven;
        submitted = so_far.none;
        noted = no_notes (notes_among s.sayings) s.later s.noted;
        said = subst (λ (l : List ℕ). Appends u v l) (sym (s.lines ∙ ap (λ (l : List ℕ). s.text ++ l) (so_far.held_is ∙ none) ∙ append-nil s.text)) s.said;
      }

  -- the last of it
  pub last_written : (result : Result (Unit {0}) Fault) (u v w : Option (List ℕ)) (a b : Keeping D) (held : List ℕ) → Holding u v a b held
      → OnOk result (Appends v w held) → IfErr result (λ f. f ≡ Output) → SaysBy view answers marks result u w a b [] []
  last_written (Ok done) u v w a b held so_far written why = all_written u w a b [] (holding_written u v w a b held [] so_far written refl) refl
  last_written (Err f) u v w a b held so_far written why = inl (why, unheard u v a b [] so_far.some)

-- a refusal of a writer's, or for want of memory, is not the device's
pub no_device_if : {T : Type 0} (result : Result T Fault) (P : Type 0) → IfErr result (λ f. (f ≡ Output) ⊎ ((f ≡ Memory) × P)) → result ≡ Err (Keeper error.Device) → ⊥
no_device_if (Ok x) P none is = absurd (let not_so = is in cc)
no_device_if (Err f) P why is = ⊎_elim (λ output. absurd (let not_so = is in let other = output in cc)) (λ memory. absurd (let not_so = is in let other = memory.0 in cc)) why

pub no_device_said : {T : Type 0} (result : Result T Fault) → IfErr result (λ f. (f ≡ Output) ⊎ (f ≡ Memory)) → result ≡ Err (Keeper error.Device) → ⊥
no_device_said (Ok x) none is = absurd (let not_so = is in cc)
no_device_said (Err f) why is = ⊎_elim (λ output. absurd (let not_so = is in let other = output in cc)) (λ memory. absurd (let not_so = is in let other = memory in cc)) why

pub output_no_device : {T : Type 0} (result : Result T Fault) → IfErr result (λ f. f ≡ Output) → result ≡ Err (Keeper error.Device) → ⊥
output_no_device (Ok x) none is = absurd (let not_so = is in cc)
output_no_device (Err f) why is = absurd (let not_so = is in let other = why in cc)

-- HOW A FEED ENDED, where a worker's refusal may stand in place of what did not pass
abbrev pub EndedAs : Result (Unit {0}) Fault → Result (Unit {0}) PoolError → Fault → Type 0
EndedAs obeyed worked f = (obeyed ≡ Err f) ⊎ (((obeyed ≡ Ok tt) ⊎ ((e : ℕ) × (obeyed ≡ Err (Keeper (error.NotPassed e))))) × ((r : PoolError) × (worked ≡ Err r) × (f ≡ pool_fault r)))

module _ {D : Type 0} (view : D → DiskView) (answers : Answers) (marks : Bool) (u v : Option (List ℕ)) (a b : Keeping D) (x : List AnySubmitted) (ns : List Aside) where
  some_by : (f : Fault) (obeyed : Result (Unit {0}) Fault) → ((rs : List Reply) → IsOfReplies f rs) → SaysBy view answers marks obeyed u v a b x ns → (obeyed ≡ Ok tt) ⊎ ((e : ℕ) × (obeyed ≡ Err (Keeper (error.NotPassed e))))
      → SaysSome view answers marks f u v a b x ns
  some_by f (Ok done) cause says why = some_of_all view answers marks f u v a b x ns cause says
  some_by f (Err e) cause says why =
      ⊎_elim (λ output. ⊎_elim (λ not_so. absurd (let is = not_so in cc)) (λ unpassed. absurd (let is = unpassed.1 in let other = output.0 in cc)) why) (λ some. some_for view answers marks f e u v a b ns cause some) says

  pub ended_says : (obeyed result : Result (Unit {0}) Fault) (worked : Result (Unit {0}) PoolError) → OnOk result ((obeyed ≡ Ok tt) × (worked ≡ Ok tt)) → IfErr result (EndedAs obeyed worked)
      → SaysBy view answers marks obeyed u v a b x ns → SaysBy view answers marks result u v a b x ns
  ended_says obeyed (Ok done) worked ok err says = subst (λ (r : Result (Unit {0}) Fault). SaysBy view answers marks r u v a b x ns) ok.0 says
  ended_says obeyed (Err f) worked ok err says =
      ⊎_elim (λ same. subst (λ (r : Result (Unit {0}) Fault). SaysBy view answers marks r u v a b x ns) same says)
      (λ other. inr (some_by f obeyed (subst (λ (d : Fault). (rs : List Reply) → IsOfReplies d rs) (sym other.1.2) (of_pool_error other.1.0)) says other.0)) err

-- a feed of a disk
module _ {D : Type 0} (view : D → DiskView) (answers : Answers) (marks : Bool) where
  pub fed_says : (result : Result (Unit {0}) Fault) (plan : List PlanLine) (alone : Bool) (disk left : D) (before after : Option (List ℕ)) (wanted : Wanted)
      → SaysFrom view answers marks result plan alone disk left before after wanted → SaysFed view answers marks result plan alone disk left before after wanted
  fed_says (Ok done) plan alone disk left before after wanted says = says
  fed_says (Err f) plan alone disk left before after wanted says = inr says

  -- and which copies its lines say were made
  pub says_copies : (result : Result (Unit {0}) Fault) (plan : List PlanLine) (alone : Bool) (disk left : D) (before after : Option (List ℕ)) (wanted : Wanted)
      (says : SaysFrom view answers marks result plan alone disk left before after wanted) → copies_said view answers marks result plan alone disk left before after wanted (fed_says result plan alone disk left before after wanted says) ≡ copied_in says.notes
  unfolding fed_says
  says_copies (Ok done) plan alone disk left before after wanted says = refl
  says_copies (Err f) plan alone disk left before after wanted says = refl
