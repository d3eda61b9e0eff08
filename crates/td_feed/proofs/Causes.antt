-- Why a feed or a stream is refused.
use Rattle.std.proofs.Common.{⊎_elim, ◌≡◌, ◌⊎◌, ℕ, Bool, true, false, List, ◌++◌, length, inl, inr, refl, sym, ap, ◌∙◌, subst}
use Rattle.std.specs.Prelude.{Option, Some, None, Result, Ok, Err, IfErr, IfSome}
use Rattle.std.specs.Result.{IsOk, IsErrAnd}
use Rattle.td_plan.specs.Lines.{Line as PlanLine}
use Rattle.td_calls.specs.Answers.{Answers}
use Rattle.td_calls.specs.declared.error.CallsError.{CallsError}
use Rattle.td_calls.specs.declared.error.CallsError.TheVariants as calls
use Rattle.td_core.specs.declared.error.HallError.TheVariants as hall
use Rattle.td_pool.specs.declared.error.PoolError.{PoolError}
use Rattle.td_pool.specs.declared.error.PoolError.TheVariants as pool
use Rattle.td_disk.specs.Disk.{DiskView}
use Rattle.td_journal.specs.declared.payload.Submitted.{Submitted}
use Rattle.td_journal.specs.Numbers.{greatest}
use Rattle.td_console.specs.declared.faults.Fault.{Fault}
use Rattle.td_console.specs.declared.faults.Fault.TheVariants.{Line, Output, Memory, Keeper}
use Rattle.td_console.specs.Refusals.{keeper_fault}
use Rattle.td_console.specs.Answer.{lack_fault}
use Rattle.td_store.specs.declared.standing.error.KeeperError.{KeeperError}
use Rattle.td_store.specs.declared.standing.error.KeeperError.TheVariants as keeper
use Rattle.td_keeper.specs.declared.command.Reply.{Reply}
use Rattle.td_keeper.specs.declared.command.Reply.TheVariants.{Refused, RefusedAll}
use Rattle.td_keeper.specs.declared.submit_all.GroupError.TheVariants.{Keeper as ByKeeper}
use Rattle.td_feed.specs.Said.{fault_in}
use Rattle.td_orders.specs.declared.source.Asked.{Asked}
use Rattle.td_orders.specs.declared.source.Asked.TheVariants.{One, Epochs}
use Rattle.td_orders.specs.declared.order.Order.{Order}
use Rattle.td_orders.specs.Scripts.{Script, Asks, IsOf, TellsLine, is_of_reader}
use Rattle.td_store.specs.standing.Standing.{last_epoch, last_request}
use Rattle.td_keeper.specs.Keeping.{Keeping}
use Rattle.td_orders.specs.Lines.{has_overlong}
use Rattle.td_orders.specs.Placed.{placed}
use Rattle.td_feed.specs.declared.session.StreamOptions.{StreamOptions}
use Rattle.td_feed.specs.Fed.{EachTellsHistory, pool_fault}
use Rattle.td_feed.specs.Session.{script_by}
use Rattle.td_feed.specs.Caused.{is_of_keeper, IsOfWriter, IsOfAsked, IsOfScript, IsOfStream, IsRefusedFor}
use Rattle.td_feed.proofs.Counting.{fault_of}
use Rattle.td_feed.proofs.Lines.{EndedAs}
use Rattle.td_feed.proofs.Obeyed.{IsPart}
use Rattle.td_feed.specs.Served.{script_at}

told_error : (e : KeeperError) → is_of_keeper (keeper_fault e) ≡ true
told_error keeper.Memory = refl
told_error _ = refl

-- a refusal that is told is the keeper's, or want of memory
pub told_fault : (reply : Reply) → is_of_keeper (fault_in reply) ≡ true
told_fault (Refused error back) = told_error error
told_fault (RefusedAll (ByKeeper error) back) = told_error error
told_fault _ = refl

-- one of the keeper's is none of a writer's
pub of_keeper : {W : Type 0} (has : W → ℕ → Type 0) (f : Fault) → is_of_keeper f ≡ true → IsOfWriter has f
of_keeper has Output is = absurd (let no = is in cc)
of_keeper has f is = is

pub if_of_keeper : {W T : Type 0} (has : W → ℕ → Type 0) (r : Result T Fault) → IfErr r (λ f. is_of_keeper f ≡ true) → IfErr r (IsOfWriter has)
if_of_keeper has (Ok d) is = tt
if_of_keeper has (Err f) is = of_keeper has f is

-- a writer that has room does not fail
pub of_written : {W : Type 0} (has : W → ℕ → Type 0) (w : W) (n : ℕ) (r : Result (Unit {0}) Fault) → (has w n → IsOk r) → IfErr r (λ f. f ≡ Output) → IfErr r (IsOfWriter has)
of_written has w n (Ok d) room err = tt
of_written has w n (Err f) room err = subst (IsOfWriter has) (sym err) (λ always. let no = room (always w n) in cc)

pub of_noted : {W : Type 0} (has : W → ℕ → Type 0) (w : W) (n : ℕ) (P : Type 0) (r : Result (Unit {0}) Fault) → IfErr r (λ f. (f ≡ Output) ⊎ ((f ≡ Memory) × P)) → (has w n → IfErr r (λ f. f ≡ Memory)) → IfErr r (IsOfWriter has)
of_noted has w n P (Ok d) unsaid room = tt
of_noted has w n P (Err f) unsaid room =
    ⊎_elim (λ output. subst (IsOfWriter has) (sym output) (λ always. let no = sym output ∙ room (always w n) in absurd cc)) (λ memory. subst (IsOfWriter has) (sym memory.0) refl) unsaid

-- the same fault is handed on
pub handed : {T : Type 0} (P : Fault → Type 0) (r : Result T Fault) (e : Fault) → IsErrAnd r (λ f. f ≡ e) → P e → IfErr r P
handed P (Ok d) e same is = tt
handed P (Err f) e same is = subst P (sym same) is

-- one of the writer's is one of the stream's
pub of_writer : {W : Type 0} (overlong : Bool) (s : Script) (has : W → ℕ → Type 0) (f : Fault) → IsOfWriter has f → IsOfStream overlong s has f
of_writer overlong s has (Line n fault) is = absurd (let no = is in cc)
of_writer overlong s has Output is = is
of_writer overlong s has f is = tt

pub if_of_writer : {W : Type 0} (overlong : Bool) (all : Option Script) (has : W → ℕ → Type 0) (r : Result (Unit {0}) Fault) → IfErr r (IsOfWriter has) → IfSome all (λ s. IfErr r (IsOfStream overlong s has))
if_of_writer overlong None has r is = tt
if_of_writer overlong (Some s) has (Ok d) is = tt
if_of_writer overlong (Some s) has (Err f) is = of_writer overlong s has f is

pub handed_of_writer : {W : Type 0} (overlong : Bool) (all : Option Script) (has : W → ℕ → Type 0) (r : Result (Unit {0}) Fault) (e : Fault) → IsErrAnd r (λ f. f ≡ e) → IsOfWriter has e
    → IfSome all (λ s. IfErr r (IsOfStream overlong s has))
handed_of_writer overlong all has r e same is = if_of_writer overlong all has r (handed (IsOfWriter has) r e same is)

-- AND ONE OF A READER'S: of what is left of a script, of which some orders are done
reader_fault : {W : Type 0} (has : W → ℕ → Type 0) (a b : Bool) (s l : Script) (done : List Order) (f : Fault) → (b ≡ true → a ≡ true) → (s.orders ≡ done ++ l.orders) × (s.fault ≡ l.fault) → is_of_reader f ≡ true
    → TellsLine b (Some l) f → IsOfStream a s has f
reader_fault has a b s l done (Line n fault) more part of (inl comes) = inl (part.1 ∙ comes.1)
reader_fault has a b s l done (Line n fault) more part of (inr long) = inr (inr (long.0, more long.1))
reader_fault has a b s l done Output more part of tells = absurd (let no = of in cc)
reader_fault has a b s l done f more part of tells = tt

pub of_reader : {W : Type 0} (has : W → ℕ → Type 0) (a b : Bool) (all left : Option Script) (done : List Order) (r : Result (Unit {0}) Fault) (e : Fault) → IsErrAnd r (λ f. f ≡ e) → (b ≡ true → a ≡ true)
    → IsPart all done left → is_of_reader e ≡ true → TellsLine b left e → IfSome all (λ s. IfErr r (IsOfStream a s has))
of_reader has a b None left done r e same more part of tells = tt
of_reader has a b (Some s) None done r e same more part of tells = absurd part
of_reader has a b (Some s) (Some l) done r e same more part of tells = handed (IsOfStream a s has) r e same (reader_fault has a b s l done e more part of tells)

-- or of an order that says what was seen
seen_fault : {W : Type 0} (has : W → ℕ → Type 0) (a : Bool) (s : Script) (done : List Order) (asked : Asked) (orders later : List Order) (f : Fault) → s.orders ≡ done ++ (orders ++ later) → IsOf asked orders → IsOfAsked asked f
    → IsOfStream a s has f
seen_fault has a s done (One order) orders later (Line n fault) parts of is =
    inr (inl (record { before = done; order = order; after = later; parts = parts ∙ ap (λ (l : List Order). done ++ (l ++ later)) of; seen = is }))
seen_fault has a s done (One order) orders later f parts of is = absurd is
seen_fault has a s done (Epochs group) orders later f parts of is = absurd is

pub of_seen : {W : Type 0} (has : W → ℕ → Type 0) (a : Bool) (all left next : Option Script) (done : List Order) (asked : Asked) (r : Result (Unit {0}) Fault) (e : Fault) → IsErrAnd r (λ f. f ≡ e)
    → IsPart all done left → Asks left next (Some asked) → IsOfAsked asked e → IfSome all (λ s. IfErr r (IsOfStream a s has))
of_seen has a None left next done asked r e same part asks is = tt
of_seen has a (Some s) None next done asked r e same part asks is = absurd part
of_seen has a (Some s) (Some l) None done asked r e same part asks is = absurd asks
of_seen has a (Some s) (Some l) (Some n) done asked r e same part asks is =
    handed (IsOfStream a s has) r e same (seen_fault has a s done asked asks.0 n.orders e (part.0 ∙ ap (λ (x : List Order). done ++ x) asks.2) asks.1 is)

-- what is told of a script at the disk of a keeper
pub tells_there : {D S : Type 0} (script : ℕ → ℕ → S → Option Script) (k : Keeping D) (told last : ℕ) (orders : S) (overlong : Bool) (f : Fault) → told ≡ last_epoch k.standing → last ≡ last_request k.standing
    → TellsLine overlong (script told last orders) f → TellsLine overlong (script_at script k orders) f
tells_there script k told last orders overlong f far top tells =
    subst (λ (q : ℕ). TellsLine overlong (script (last_epoch k.standing) q orders) f) top (subst (λ (t : ℕ). TellsLine overlong (script t last orders) f) far tells)

-- a worker's is none of a line, and none of the writer's
of_pool : {W : Type 0} (overlong : Bool) (s : Script) (has : W → ℕ → Type 0) (p : PoolError) → IsOfStream overlong s has (pool_fault p)
of_pool overlong s has (pool.NoCall vertex code) = tt
of_pool overlong s has pool.Memory = tt
of_pool overlong s has (pool.Hall hall.Memory) = tt
of_pool overlong s has (pool.Hall hall.Spent) = tt
of_pool overlong s has _ = tt

-- what ended as the workers did
pub ended_for : {W : Type 0} (overlong : Bool) (s : Script) (has : W → ℕ → Type 0) (obeyed r : Result (Unit {0}) Fault) (worked : Result (Unit {0}) PoolError) → IfErr r (EndedAs obeyed worked)
    → IfErr obeyed (IsOfStream overlong s has) → IfErr r (IsOfStream overlong s has)
ended_for overlong s has obeyed (Ok d) worked err is = tt
ended_for overlong s has obeyed (Err f) worked (inl same) is = subst (λ (x : Result (Unit {0}) Fault). IfErr x (IsOfStream overlong s has)) same is
ended_for overlong s has obeyed (Err f) worked (inr workers) is = subst (IsOfStream overlong s has) (sym workers.1.2) (of_pool overlong s has workers.1.0)

-- nor is that of a hall that cannot be opened
pub of_opening : {W T : Type 0} (overlong : Bool) (s : Script) (has : W → ℕ → Type 0) (f : Fault) → (f ≡ Memory) ⊎ ((f ≡ Keeper keeper.Epochs) × T) → IsOfStream overlong s has f
of_opening overlong s has f (inl is) = subst (IsOfStream overlong s has) (sym is) tt
of_opening overlong s has f (inr is) = subst (IsOfStream overlong s has) (sym is.0) tt

-- what comes before the first line is neither a line's fault nor the writer's
abbrev pub is_other : Fault → Bool
is_other (Line n fault) = false
is_other Output = false
is_other _ = true

pub other_keeper : (e : KeeperError) → is_other (keeper_fault e) ≡ true
other_keeper keeper.Memory = refl
other_keeper _ = refl

pub other_lack : (lack : CallsError) → is_other (lack_fault lack) ≡ true
other_lack (calls.NoCall vertex code) = refl
other_lack _ = refl

module _ {D W : Type 0} (view : D → DiskView) (answers : Answers) (has : W → ℕ → Type 0) where
  pub refused_before : (how : StreamOptions) (f : Fault) (plan : List PlanLine) (disk : D) (input : List ℕ) → is_other f ≡ true → IsRefusedFor view answers has how (Err f) plan disk input
  refused_before how f plan disk input other = record {
    records = 0;
    line = λ n fault is. absurd (let no : is_other (Line n fault) ≡ true = subst (λ (x : Fault). is_other x ≡ true) (fault_of f (Line n fault) is) other in cc);
    output = λ is. absurd (let no : is_other Output ≡ true = subst (λ (x : Fault). is_other x ≡ true) (fault_of f Output is) other in cc);
  }

  -- and of a keeper whose disk has so many epochs, and this number above all before
  pub refused_at : (how : StreamOptions) (r : Result (Unit {0}) Fault) (plan : List PlanLine) (disk : D) (input : List ℕ) (records told last : ℕ)
      → IfErr r (IsOfStream (has_overlong (Some input)) (placed how.refuse told last (script_by how records plan input)) has)
      → ((view disk).lawful → (history : List Submitted) → EachTellsHistory answers plan history (view disk).state → (told ≡ length history) × (last ≡ greatest 0 history))
      → IsRefusedFor view answers has how r plan disk input
  refused_at how r plan disk input records told last is at =
      let cause : Fault → Type 0 = IsOfStream (has_overlong (Some input)) (placed how.refuse told last (script_by how records plan input)) has in
      record {
        records = records;
        line = λ n fault same lawful history known.
            let there = at lawful history known in
            let script : ℕ → ℕ → Script = λ t l. placed how.refuse t l (script_by how records plan input) in
            subst (λ (l : ℕ). IsOfScript (has_overlong (Some input)) (script (length history) l) n fault) there.1
            (subst (λ (t : ℕ). IsOfScript (has_overlong (Some input)) (script t last) n fault) there.0
            (subst (λ (x : Result (Unit {0}) Fault). IfErr x cause) same is));
        output = λ same. subst (λ (x : Result (Unit {0}) Fault). IfErr x cause) same is;
      }
