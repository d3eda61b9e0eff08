-- How calls of a feed come together, one after another.
use Rattle.std.proofs.Common.{◌≡◌, ◌⊎◌, ⊎_elim, inl, inr, ℕ, Bool, true, false, List, [], ◌∷◌, refl, sym, ap, ◌∙◌, subst}
use Rattle.std.specs.Prelude.{Option, Some, None, option_map, Result, Ok, Err, OnOk, IfErr, IfSome}
use Rattle.std.specs.Result.{IsErrAnd}
use Rattle.std.proofs.lemmas.Result.{on_ok_weaker, on_err_weaker}
use Rattle.td_calls.specs.Answers.{Answers}
use Rattle.td_disk.specs.Disk.{DiskView}
use Rattle.td_journal.specs.declared.payload.Submitted.{Submitted}
use Rattle.td_console.specs.Refusals.{keeper_fault}
use Rattle.td_store.specs.declared.standing.error.KeeperError.{KeeperError}
use Rattle.td_store.specs.declared.standing.error.KeeperError.TheVariants as error
use Rattle.td_keeper.specs.declared.command.Command.{Command}
use Rattle.td_keeper.specs.declared.command.Command.TheVariants.{Answer}
use Rattle.td_keeper.specs.declared.command.Reply.{Reply}
use Rattle.td_keeper.specs.Keeping.{Keeping}
use Rattle.td_keeper.specs.Driven.{submitted_in}
use Rattle.td_store.specs.standing.Stops.{Begins}
use Rattle.td_disk.specs.Calls.{KeepsDevice}
use Rattle.td_pool.specs.declared.error.PoolError.{PoolError}
use Rattle.td_console.specs.declared.faults.Fault.{Fault}
use Rattle.std.specs.Io.KnownBytes.{Appends}
use Rattle.td_console.specs.declared.faults.Fault.TheVariants.{Keeper, Output, Memory}
use Rattle.td_orders.specs.Noted.{note_line}
use Rattle.td_feed.specs.Carried.{batch_in, new_to, Carries, Leaves}
use Rattle.td_feed.specs.Said.{answer_text, full_line, Says, SaysSome, SaysBy, IsOfReplies, Refuses}
use Rattle.td_orders.specs.declared.note.Note.{Note}
use Rattle.td_questions.specs.declared.question.Wanted.{Wanted as Of}
use Rattle.td_orders.specs.Noted.{Aside, ComeOf, copied_in}
use Rattle.td_orders.specs.Noted.Aside.{to_say, to_answer}
use Rattle.td_orders.specs.Orders.{submissions, notes_in}
use Rattle.td_orders.specs.Scripts.{Script}
use Rattle.td_feed.specs.Copied.{Copied, MakesCopies}
use Rattle.td_feed.specs.Session.{KeepsDisk, FeedsNoting, Feeds, FeedsCopying, FeedsScript, IsObeyed, IsNotObeyed}
use Rattle.td_feed.proofs.Copies.{as_they_ask, none_yet, none_made}
use Rattle.td_feed.proofs.Carrying.{at_err, at_ok, ok_only, ended_ok, ended_err, unmoved, then_carries, carries_then, carries_after, leaves_none, leaves_all, leaves_then, leaves_after}
use Rattle.td_feed.proofs.Counting.{keeper_device, counts_same, counts_handed, counts_after, same_count, ended_counts}
use Rattle.td_feed.proofs.Lines.{EndedAs, is_quiet, says_nothing, then_quiet, then_by, quietly, noted_by, line_by, answered_by, unanswered, full_by, unsaid_none, refused_some, ended_says}

-- what holds of the value, where it is known
pub known : {A : Type 0} (P : A → Type 0) (o : Option A) (a : A) → o ≡ Some a → IfSome o P → P a
known P o a is p = subst (λ (q : Option _). IfSome q P) is p

pub mapped : {A B : Type 0} (P : B → Type 0) (f : A → B) (o : Option A) (a : A) → o ≡ Some a → IfSome (option_map f o) P → P (f a)
mapped P f o a is p = known P (option_map f o) (f a) (ap (option_map f) is) p

pub in_some_is : {A : Type 0} {P : A → Type 0} (o : Option A) → ((a : A) → o ≡ Some a → P a) → IfSome o P
in_some_is (Some a) f = f a refl
in_some_is None f = tt

-- no refusal is none of the device's
abbrev as_ok : {T : Type 0} → T → Result T Fault
as_ok x = Ok x

pub ok_no_device : {T : Type 0} (x : T) → as_ok x ≡ Err (Keeper error.Device) → ⊥
ok_no_device x is = absurd (let not_so = is in cc)

abbrev pub done : Result (Unit {0}) Fault
done = Ok tt

-- refusals, of a keeper's call and of a feed
abbrev pub done_by : {T : Type 0} → T → Result T KeeperError
done_by x = Ok x

abbrev pub refused_by : (T : Type 0) → KeeperError → Result T KeeperError
refused_by T e = Err e

abbrev as_fault : (T : Type 0) → Fault → Result T Fault
as_fault T f = Err f

error_or : {T E : Type 0} → E → Result T E → E
error_or none (Ok x) = none
error_or none (Err e) = e

keeper_in : {T : Type 0} (e d : KeeperError) → refused_by T e ≡ refused_by T d → e ≡ d
unfolding error_or
keeper_in e d is = ap (error_or d) is

fault_in : {T : Type 0} (f d : Fault) → as_fault T f ≡ as_fault T d → f ≡ d
unfolding error_or
fault_in f d is = ap (error_or d) is

-- THE DISK
module _ {D : Type 0} {view : D → DiskView} where
  -- nothing was done with it
  pub disk_same : {T : Type 0} {a b : D} (r : Result T Fault) → b ≡ a → (r ≡ Err (Keeper error.Device) → ⊥) → KeepsDisk view r a b
  disk_same {a = a} {b = b} r is no_device = subst (λ (d : D). KeepsDisk view r a d) (sym is)
      (record { size = refl; lawful = (λ l. l, λ l. l); counts = counts_same r (view a).failures (view a).failures no_device refl })

  -- one call after another, of which the first did not fail
  pub disk_then : {S T : Type 0} {x : S} {r : Result T Fault} {a b c : D} → KeepsDisk view (Ok x) a b → KeepsDisk view r b c
      → KeepsDisk view r a c
  disk_then {x = x} {r = r} {a = a} {b = b} {c = c} first next = record {
    size = next.size ∙ first.size;
    lawful = (λ l. next.lawful.0 (first.lawful.0 l), λ l. first.lawful.1 (next.lawful.1 l));
    counts = counts_after r (view a).failures (view b).failures (view c).failures (same_count x (view a).failures (view b).failures first.counts) next.counts;
  }

  -- a disk whose keeper was recovered
  pub disk_recovered : {T : Type 0} {x : T} {a b : D} → KeepsDevice view error.Device (done_by x) a b → KeepsDisk view done a b
  disk_recovered {x = x} {a = a} {b = b} kept = record {
    size = kept.size;
    lawful = kept.lawful;
    counts = counts_same done (view a).failures (view b).failures (ok_no_device tt) (sym (⊎_elim (λ failed. absurd (let never : done_by x ≡ Err error.Device = failed in cc)) (λ same. same) kept.counts.stays));
  }

  -- one that came back
  pub disk_refused : {S T : Type 0} {a b : D} (e : KeeperError) (f : Fault) → f ≡ keeper_fault e → KeepsDevice view error.Device (refused_by T e) a b
      → KeepsDisk {T = S} view (Err f) a b
  disk_refused {S = S} {T = T} {a = a} {b = b} e f is kept = record {
    size = kept.size;
    lawful = kept.lawful;
    counts = record {
      later = kept.counts.later;
      rises = λ failed. kept.counts.rises (ap (refused_by T) (keeper_device e (sym is ∙ fault_in f (Keeper error.Device) failed)));
      stays = ⊎_elim (λ device. inl (ap (as_fault S) (is ∙ ap keeper_fault (keeper_in e error.Device device)))) inr kept.counts.stays;
    };
  }

  -- the same fault is handed on
  pub disk_handed : {S T : Type 0} {e : Fault} {a b : D} (r : Result T Fault) → IsErrAnd r (λ f. f ≡ e) → KeepsDisk {T = S} view (Err e) a b → KeepsDisk view r a b
  disk_handed {S = S} {e = e} {a = a} {b = b} r is kept = record { size = kept.size; lawful = kept.lawful; counts = counts_handed {S = S} r e (view a).failures (view b).failures is kept.counts }

  -- another answer, that is no refusal
  pub disk_ok : {S T : Type 0} {x : S} {y : T} {a b : D} → KeepsDisk {T = S} view (Ok x) a b → KeepsDisk {T = T} view (Ok y) a b
  disk_ok {x = x} {y = y} {a = a} {b = b} kept = record {
    size = kept.size;
    lawful = kept.lawful;
    counts = counts_same (as_ok y) (view a).failures (view b).failures (ok_no_device y) (sym (same_count x (view a).failures (view b).failures kept.counts));
  }

  -- how a feed ended, where what hindered a task may stand in place of what did not pass
  pub disk_ended : {a b : D} (obeyed r : Result (Unit {0}) Fault) (worked : Result (Unit {0}) PoolError) → OnOk r ((obeyed ≡ Ok tt) × (worked ≡ Ok tt)) → IfErr r (EndedAs obeyed worked)
      → KeepsDisk view obeyed a b → KeepsDisk view r a b
  disk_ended {a = a} {b = b} obeyed r worked ok err kept =
      record { size = kept.size; lawful = kept.lawful; counts = ended_counts obeyed r worked (view a).failures (view b).failures ok err kept.counts }

-- a keeper went on twice, with nothing submitted
pub went_on : {D : Type 0} {answers : Answers} {a b c : Keeping D} → Carries answers a b [] → Carries answers b c [] → Carries answers a c []
went_on {answers = answers} {a = a} {b = b} {c = c} first next = then_carries answers a b c [] [] first next

-- WHAT IS FED
module _ {D : Type 0} {view : D → DiskView} {answers : Answers} {marks : Bool} where
  pub fed_nothing : {w : Option (List ℕ)} {k : Keeping D} → k.broken ≡ false → Feeds view answers marks (Ok tt) w w k k []
  fed_nothing {w = w} {k = k} whole = record { carried = unmoved answers k k refl refl whole; left = tt; said = says_nothing view answers marks w k }

  -- and then nothing more
  pub fed_then : {d : Unit {0}} {r : Result (Unit {0}) Fault} {u v w : Option (List ℕ)} {a b c : Keeping D} {x : List Submitted} {ns : List Aside} → FeedsNoting view answers marks (Ok d) u v a b x ns
      → Feeds view answers marks r v w b c [] → FeedsNoting view answers marks r u w a c x ns
  fed_then {r = r} {u = u} {v = v} {w = w} {a = a} {b = b} {c = c} {x = x} {ns = ns} first next = record {
    carried = on_ok_weaker r (λ more. carries_then view answers a b c x first.carried more) next.carried;
    left = on_err_weaker r (λ more. leaves_then view answers a b c x first.carried more) next.left;
    said = then_quiet view answers marks r u v w a b c x ns first.said next.said;
  }

  -- nothing, and then these
  pub fed_after : {d : Unit {0}} {r : Result (Unit {0}) Fault} {u v w : Option (List ℕ)} {a b c : Keeping D} {x : List Submitted} → Feeds view answers marks (Ok d) u v a b []
      → Feeds view answers marks r v w b c x → Feeds view answers marks r u w a c x
  fed_after {r = r} {u = u} {v = v} {w = w} {a = a} {b = b} {c = c} {x = x} first next = record {
    carried = on_ok_weaker r (λ more. carries_after view answers a b c x first.carried more) next.carried;
    left = on_err_weaker r (λ more. leaves_after view answers a b c x first.carried more) next.left;
    said = then_by view answers marks r u v w a b c [] x [] [] first.said next.said;
  }

  -- the same fault is handed on
  pub fed_handed : {e : Fault} {u v : Option (List ℕ)} {a b : Keeping D} {x : List Submitted} {ns : List Aside} (r : Result (Unit {0}) Fault) → IsErrAnd r (λ f. f ≡ e)
      → FeedsNoting view answers marks (Err e) u v a b x ns → FeedsNoting view answers marks r u v a b x ns
  fed_handed (Ok d) none fed = absurd none
  fed_handed {u = u} {v = v} {a = a} {b = b} {x = x} {ns = ns} (Err f) is fed =
      subst (λ (g : Fault). FeedsNoting view answers marks (Err g) u v a b x ns) (sym is) fed

  -- a command whose reply has no line was obeyed
  pub fed_quietly : {w : Option (List ℕ)} {a b : Keeping D} (command : Command) (reply : Reply) → is_quiet command ≡ true → Carries answers a b [] → IsObeyed view answers command reply a b
      → Feeds view answers marks (Ok tt) w w a b []
  fed_quietly {w = w} {a = a} {b = b} command reply quiet carried is =
      record { carried = carried; left = tt; said = quietly view answers marks w command reply a b quiet is.obeyed is.driven }

  -- nothing was submitted, at whatever answer
  pub fed_quiet : {u v : Option (List ℕ)} {a b : Keeping D} (r : Result (Unit {0}) Fault) → Carries answers a b [] → SaysBy view answers marks r u v a b [] []
      → Feeds view answers marks r u v a b []
  fed_quiet {a = a} {b = b} r carried said = record { carried = at_ok r carried; left = at_err r (leaves_none view answers a b [] carried); said = said }

  -- a command was refused
  pub fed_refused : {w : Option (List ℕ)} {a b : Keeping D} {x : List Submitted} (e : Fault) (r : Result (Unit {0}) Fault) (command : Command) → IsErrAnd r (λ f. f ≡ e) → new_to a (batch_in command) ≡ x
      → IsNotObeyed view answers e command a b → Feeds view answers marks r w w a b x
  fed_refused e (Ok d) command none is refused = absurd none
  fed_refused {w = w} {a = a} {b = b} {x = x} e (Err f) command same is refused = record {
    carried = tt;
    left = subst (λ (l : List Submitted). Leaves view answers a b l) is refused.left;
    said = inr (subst (λ (d : Fault). SaysSome view answers marks d w w a b x []) (sym same)
        (refused_some view answers marks e w command a b refused.refused (subst (Begins (submitted_in command refused.refused.reply)) is refused.submitted)));
  }

  -- a note was to be written
  pub fed_note : {u v : Option (List ℕ)} {k : Keeping D} {P : Type 0} (r : Result (Unit {0}) Fault) (note : Note) → k.broken ≡ false → OnOk r (Appends u v (note_line note))
      → IfErr r (λ f. (f ≡ Output) ⊎ ((f ≡ Memory) × P)) → (P → v ≡ u) → FeedsNoting view answers marks r u v k k [] (to_say note ∷ [])
  fed_note {u = u} {v = v} {k = k} {P = P} r note whole said unsaid same = record {
    carried = at_ok r (unmoved answers k k refl refl whole);
    left = at_err r (leaves_none view answers k k [] (unmoved answers k k refl refl whole));
    said = noted_by view answers marks r u v note k P said unsaid same;
  }

  -- a line that stands for one of these was to be written
  pub fed_line : {u v : Option (List ℕ)} {k : Keeping D} {P : Type 0} (r : Result (Unit {0}) Fault) (line : List ℕ) (ns : List Aside) → k.broken ≡ false → (Appends u v line → Says view answers marks u v k k [] ns)
      → OnOk r (Appends u v line) → IfErr r (λ f. (f ≡ Output) ⊎ ((f ≡ Memory) × P)) → (P → v ≡ u) → FeedsNoting view answers marks r u v k k [] ns
  fed_line {u = u} {v = v} {k = k} {P = P} r line ns whole says said unsaid same = record {
    carried = at_ok r (unmoved answers k k refl refl whole);
    left = at_err r (leaves_none view answers k k [] (unmoved answers k k refl refl whole));
    said = line_by view answers marks r u v line ns k P says said unsaid same;
  }

  -- a question was answered, and the answer was to be written
  pub fed_answer : {u v : Option (List ℕ)} {a b : Keeping D} {P : Type 0} (r : Result (Unit {0}) Fault) (vertex : ℕ) (wanted : Of) (reply : Reply) → IsObeyed view answers (Answer vertex wanted) reply a b
      → Carries answers a b [] → OnOk r (Appends u v (answer_text vertex wanted reply)) → IfErr r (λ f. (f ≡ Output) ⊎ ((f ≡ Memory) × P)) → (P → v ≡ u)
      → FeedsNoting view answers marks r u v a b [] (to_answer vertex wanted ∷ [])
  fed_answer {u = u} {v = v} {a = a} {b = b} {P = P} r vertex wanted reply is carried said unsaid same = record {
    carried = at_ok r carried;
    left = at_err r (leaves_none view answers a b [] carried);
    said = answered_by view answers marks r u v vertex wanted reply a b P is.driven said unsaid same;
  }

  -- or it was not
  pub fed_unanswered : {w : Option (List ℕ)} {a b : Keeping D} {ns : List Aside} (e : Fault) (r : Result (Unit {0}) Fault) (command : Command) → IsErrAnd r (λ f. f ≡ e) → Carries answers a b []
      → ((reply : Reply) → submitted_in command reply ≡ []) → Refuses view answers e command a b → FeedsNoting view answers marks r w w a b [] ns
  fed_unanswered e (Ok d) command none carried nothing refused = absurd none
  fed_unanswered {w = w} {a = a} {b = b} {ns = ns} e (Err f) command same carried nothing refused = record {
    carried = tt;
    left = leaves_none view answers a b [] carried;
    said = inr (subst (λ (d : Fault). SaysSome view answers marks d w w a b [] ns) (sym same) (unanswered view answers marks e w command a b ns nothing refused));
  }

  -- it was to be written that the journal is full
  pub fed_full : {u v : Option (List ℕ)} {k : Keeping D} {P : Type 0} (r : Result (Unit {0}) Fault) (e : ℕ) → k.broken ≡ false → OnOk r (Appends u v (full_line e))
      → IfErr r (λ f. (f ≡ Output) ⊎ ((f ≡ Memory) × P)) → (P → v ≡ u) → Feeds view answers marks r u v k k []
  fed_full {u = u} {v = v} {k = k} {P = P} r e whole said unsaid same = record {
    carried = at_ok r (unmoved answers k k refl refl whole);
    left = at_err r (leaves_none view answers k k [] (unmoved answers k k refl refl whole));
    said = full_by view answers marks r u v e k P said unsaid same;
  }

  -- nothing was done
  pub unfed : {w : Option (List ℕ)} {k : Keeping D} {x : List Submitted} {ns : List Aside} (f : Fault) → IsOfReplies f [] → k.broken ≡ false → FeedsNoting view answers marks (Err f) w w k k x ns
  unfed {w = w} {k = k} {x = x} {ns = ns} f cause whole = record {
    carried = tt;
    left = leaves_none view answers k k x (unmoved answers k k refl refl whole);
    said = inr (unsaid_none view answers marks f w k ns cause);
  }

  -- what is left at any answer
  pub left_of : {u v : Option (List ℕ)} {a b : Keeping D} {x : List Submitted} {ns : List Aside} (r : Result (Unit {0}) Fault) → FeedsNoting view answers marks r u v a b x ns → Leaves view answers a b x
  left_of {a = a} {b = b} {x = x} (Ok d) fed = leaves_all view answers a b x fed.carried
  left_of (Err f) fed = fed.left

-- WHAT IS FED, with copies
module _ {D E : Type 0} {view : D → DiskView} {answers : Answers} {marks : Bool} {new_view : E → DiskView} where
  -- nothing that asks for a copy
  pub fed_uncopied : {r : Result (Unit {0}) Fault} {u v : Option (List ℕ)} {kept : Option (List (Copied E))} {a b : Keeping D} {x : List Submitted} (ns : List Aside) → ComeOf ns ns → copied_in ns ≡ []
      → FeedsNoting view answers marks r u v a b x ns → FeedsCopying view answers marks new_view r u v kept kept a b x ns
  fed_uncopied {kept = kept} {a = a} {x = x} ns came none fed = record {
    done = ns;
    came = came;
    fed = fed;
    copied = subst (λ (said : List (List ℕ × ℕ)). MakesCopies view new_view answers said kept kept a x) (sym none) (none_made view new_view answers kept a x);
  }

  pub none_fed : {w : Option (List ℕ)} {kept : Option (List (Copied E))} {k : Keeping D} {s : Script} (f : Fault) → IsOfReplies f [] → k.broken ≡ false
      → FeedsScript view answers marks new_view (Err f) w w kept kept k k s
  none_fed {s = s} f cause whole = record { sound = tt; fed = fed_uncopied (notes_in s.orders) (as_they_ask s.orders) (none_yet s.orders) (unfed f cause whole) }

  -- and then nothing more
  pub copying_then : {d : Unit {0}} {r : Result (Unit {0}) Fault} {u v w : Option (List ℕ)} {had has : Option (List (Copied E))} {a b c : Keeping D} {x : List Submitted} {ns : List Aside}
      → FeedsCopying view answers marks new_view (Ok d) u v had has a b x ns → Feeds view answers marks r v w b c []
      → FeedsCopying view answers marks new_view r u w had has a c x ns
  copying_then first next = record { done = first.done; came = first.came; fed = fed_then first.fed next; copied = first.copied }

  -- the same fault is handed on
  pub copying_handed : {e : Fault} {u v : Option (List ℕ)} {had has : Option (List (Copied E))} {a b : Keeping D} {x : List Submitted} {ns : List Aside} (r : Result (Unit {0}) Fault) → IsErrAnd r (λ f. f ≡ e)
      → FeedsCopying view answers marks new_view (Err e) u v had has a b x ns → FeedsCopying view answers marks new_view r u v had has a b x ns
  copying_handed r is fed = record { done = fed.done; came = fed.came; fed = fed_handed r is fed.fed; copied = fed.copied }

  -- how a feed of a script ended
  pub fed_ended : {u v : Option (List ℕ)} {had has : Option (List (Copied E))} {a b : Keeping D} {s : Script} (obeyed r : Result (Unit {0}) Fault) (worked : Result (Unit {0}) PoolError) → OnOk r ((obeyed ≡ Ok tt) × (worked ≡ Ok tt)) → IfErr r (EndedAs obeyed worked)
      → FeedsScript view answers marks new_view obeyed u v had has a b s → FeedsScript view answers marks new_view r u v had has a b s
  fed_ended {u = u} {v = v} {a = a} {b = b} {s = s} obeyed r worked ok err fed =
      let x : List Submitted = new_to a (submissions s.orders) in
      let same = ok_only (obeyed ≡ Ok tt) (worked ≡ Ok tt) r ok in
      let noting = fed.fed.fed in record {
        sound = ended_ok (s.fault ≡ None) tt obeyed r same fed.sound;
        fed = record {
          done = fed.fed.done;
          came = fed.fed.came;
          fed = record {
            carried = ended_ok (Carries answers a b x) tt obeyed r same noting.carried;
            left = ended_err (Carries answers a b x) (Leaves view answers a b x) obeyed r (λ whole. leaves_all view answers a b x whole) noting.carried noting.left;
            said = ended_says view answers marks u v a b x fed.fed.done obeyed r worked ok err noting.said;
          };
          copied = fed.fed.copied;
        };
      }

  -- a script was refused
  pub err_fed : {u v : Option (List ℕ)} {had has : Option (List (Copied E))} {a b : Keeping D} {s : Script} (P : Fault → Type 0) (r : Result (Unit {0}) Fault) (done : List Aside) → IsErrAnd r P
      → ComeOf (notes_in s.orders) done → Leaves view answers a b (new_to a (submissions s.orders))
      → SaysBy view answers marks r u v a b (new_to a (submissions s.orders)) done
      → MakesCopies view new_view answers (copied_in done) had has a (new_to a (submissions s.orders))
      → FeedsScript view answers marks new_view r u v had has a b s
  err_fed P (Ok d) done none came left said copied = absurd none
  err_fed P (Err f) done holds came left said copied =
      record { sound = tt; fed = record { done = done; came = came; fed = record { carried = tt; left = left; said = said }; copied = copied } }
