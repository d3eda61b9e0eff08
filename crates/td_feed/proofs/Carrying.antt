-- How what a feed's calls leave of a keeper comes together.
use Rattle.std.proofs.Common.{◌≡◌, ◌⊎◌, ⊎_elim, inl, inr, ℕ, ◌+◌, ◌-◌, ◌≤◌, Bool, false, List, [], ◌∷◌, ◌++◌, length, take, drop, refl, sym, ap, ◌∙◌, subst, arith}
use Rattle.std.specs.Prelude.{Option, Some, None, IfSome, Result, Ok, Err, OnOk, OnErr}
use Rattle.std.specs.Option.{option_map}
use Rattle.std.proofs.lemmas.List.{append-nil, append_assoc, length-append, take_at, take-append-le, take_all, take-map, take-append-drop, length-drop}
use Rattle.std.proofs.Math.Seq.{take-append-add}
use Rattle.td_stamp.specs.declared.values.Entry.{Entry}
use Rattle.td_stamp.specs.States.{StateList}
use Rattle.td_plan.specs.Lines.{Line}
use Rattle.td_plan.specs.Tree.{Nodes, tree_of}
use Rattle.td_calls.specs.Answers.{Answers}
use Rattle.td_batch.specs.Meaning.{run}
use Rattle.td_disk.specs.Disk.{DiskView, DiskState}
use Rattle.td_gate.specs.CrashSafe.{CrashSafe, Unchanged}
use Rattle.td_head.specs.declared.head.Head.{Head}
use Rattle.td_journal.specs.declared.payload.Submitted.{Submitted}
use Rattle.td_journal.specs.Numbers.{greatest}
use Rattle.td_store.specs.standing.Standing.{Standing, last_epoch, last_request, batches_of, with_more, cut_at}
use Rattle.td_store.specs.standing.Stops.{Advance, Begins, Stands}
use Rattle.td_store.specs.declared.standing.error.KeeperError.{KeeperError}
use Rattle.td_store.specs.standing.Told.{Told}
use Rattle.td_store.specs.standing.Tells.{Tells, Keeps}
use Rattle.td_store.specs.standing.Advanced.{TellsAdvance, SinceAdvance, HeldWhere, states_by}
use Rattle.td_keeper.specs.declared.command.Reply.{Reply}
use Rattle.td_keeper.specs.Grouped.{AllOrNone}
use Rattle.td_keeper.specs.Keeping.{Keeping, IsKeeping, with_epochs, with_group, with_checkpoint}
use Rattle.td_feed.specs.Fed.{TellsHistory, EachTellsHistory, EachTellsSome}
use Rattle.td_feed.specs.Carried.{StandsFor, Carries, Stopped, Leaves}
use Rattle.td_orders.specs.OrderProofs.{greatest-append}

-- the law, as it is handed in: what is told after a stop stands for a beginning
abbrev pub Stands-on : Answers → Type 0
Stands-on answers = (nodes : Nodes) (s t : Standing) (history submitted : List Submitted)
    → Stands (λ b x. (run answers nodes b x).states) s history
    → Advance (λ b x. (run answers nodes b x).states) (with_more s submitted) t
    → (told : List Submitted) × Begins told (history ++ submitted) × Stands (λ b x. (run answers nodes b x).states) t told

-- and of a cut
abbrev pub Cuts-on : Answers → Type 0
Cuts-on answers = (nodes : Nodes) (s : Standing) (k : ℕ) → k ≤ length s.submitted
    → Advance (λ b y. (run answers nodes b y).states) s (cut_at s k (run answers nodes s.states (batches_of (take k s.submitted))).states)

-- what holds, holds at an error
pub at_err : {T E P : Type 0} (r : Result T E) → P → OnErr r P
at_err (Ok x) p = tt
at_err (Err e) p = p

pub err_weaker : {T E : Type 0} (P Q : Type 0) (r : Result T E) → (P → Q) → OnErr r P → OnErr r Q
err_weaker P Q (Ok x) step p = tt
err_weaker P Q (Err e) step p = step p

pub ok_only : {T E : Type 0} (P Q : Type 0) (r : Result T E) → OnOk r (P × Q) → OnOk r P
ok_only P Q (Ok x) both = both.0
ok_only P Q (Err e) both = tt

pub at_ok : {T E P : Type 0} (r : Result T E) → P → OnOk r P
at_ok (Ok x) p = p
at_ok (Err e) p = tt

-- where something is known, at any answer
pub either_way : {T E A : Type 0} {P Q : A → Type 0} (r : Result T E) (o : Option A) → ((a : A) → P a → Q a) → OnOk r (IfSome o P) → OnErr r (IfSome o Q) → IfSome o Q
either_way (Ok x) (Some a) f p q = f a p
either_way (Ok x) None f p q = tt
either_way (Err e) o f p q = q

-- how a feed ended, and how it obeyed
pub ended_ok : {T E : Type 0} (P : Type 0) (x : T) (obeyed result : Result T E) → OnOk result (obeyed ≡ Ok x) → OnOk obeyed P → OnOk result P
ended_ok P x obeyed (Ok y) is p = subst (λ r. OnOk r P) is p
ended_ok P x obeyed (Err e) is p = tt

pub ended_err : {T E : Type 0} (P Q : Type 0) (obeyed result : Result T E) → (P → Q) → OnOk obeyed P → OnErr obeyed Q → OnErr result Q
ended_err P Q (Ok x) result f p q = at_err result (f p)
ended_err P Q (Err e) result f p q = at_err result q

pub in_some : {A : Type 0} {P : A → Type 0} (o : Option A) → ((a : A) → P a) → IfSome o P
in_some (Some a) f = f a
in_some None f = tt

-- what is known of what a thing is made to is known of it
pub of_made : {A B : Type 0} (f : A → B) (P : B → Type 0) (o : Option A) (made : Option B) → made ≡ option_map f o → IfSome made P → IfSome o (λ a. P (f a))
of_made f P None made is p = tt
of_made f P (Some a) made is p = subst (λ m. IfSome m P) is p

-- two answers
abbrev ok_of : Standing → Result Standing KeeperError
ok_of s = Ok s

same_ok : (a b : Standing) → ok_of a ≡ ok_of b → a ≡ b
same_ok a b e = cc

-- a standing has as many epochs as the history for which it stands
pub as_long : (answers : Answers) (plan : List Line) (s : Standing) (history : List Submitted) → Stands (states_by answers plan) s history → length history ≡ last_epoch s
as_long answers plan s history is = omega (arith, ap length is.whole, length-append is.before s.submitted, is.epochs)

-- a beginning that is no shorter
same_list : {A : Type 0} (h w rest : List A) → h ≡ w ++ rest → length h ≤ length w → w ≡ h
same_list h w [] e le = sym (e ∙ append-nil w)
same_list h w (r ∷ rest) e le = absurd (omega (arith, ap length e, length-append w (r ∷ rest), le))

-- a beginning of one more that is no shorter
one_more : {A : Type 0} (h : List A) (b : A) (w rest : List A) → h ++ b ∷ [] ≡ w ++ rest → length h ≤ length w → (w ≡ h) ⊎ (w ≡ h ++ b ∷ [])
one_more h b w [] e le = inr (sym (e ∙ append-nil w))
one_more h b w (r ∷ rest) e le =
    let same : length w ≡ length h = omega (arith, ap length e, length-append h (b ∷ []), length-append w (r ∷ rest), le) in
    inl (sym (take_at w (r ∷ rest) (length w) refl) ∙ ap (take (length w)) (sym e) ∙ take_at h (b ∷ []) (length w) (sym same))

-- a standing with epochs more stands for the history with them
more_stands : (answers : Answers) (plan : List Line) (s : Standing) (history x : List Submitted) → Stands (states_by answers plan) s history
    → Stands (states_by answers plan) (with_more s x) (history ++ x)
more_stands answers plan s history x is = record {
  before = is.before;
  epochs = is.epochs;
  states = is.states;
  last = is.last;
  whole = ap (λ (l : List Submitted). l ++ x) is.whole ∙ append_assoc is.before s.submitted x;
}

module _ {D : Type 0} (answers : Answers) where
  -- what moves neither plan nor standing
  pub unmoved : (old new : Keeping D) → new.plan ≡ old.plan → new.standing ≡ old.standing → new.broken ≡ false → Carries answers old new []
  unmoved old new plan standing whole = record {
    plan = plan;
    whole = whole;
    told = omega (arith, ap last_epoch standing);
    last = ap last_request standing;
    stands = λ history is.
        subst (λ (h : List Submitted). Stands (states_by answers new.plan) new.standing h) (sym (append-nil history))
        (subst (λ (p : List Line). Stands (states_by answers p) new.standing history) (sym plan)
        (subst (λ (s : Standing). Stands (states_by answers old.plan) s history) (sym standing) is));
  }

  -- so is one that is another, which has the same plan and standing
  pub moved : (old new other : Keeping D) → new ≡ other → other.plan ≡ old.plan → other.standing ≡ old.standing → other.broken ≡ false → Carries answers old new []
  moved old new other is plan standing whole = subst (λ (k : Keeping D). Carries answers old k []) (sym is) (unmoved old other plan standing whole)

  -- one after the other
  pub then_carries : (a b c : Keeping D) (x y : List Submitted) → Carries answers a b x → Carries answers b c y → Carries answers a c (x ++ y)
  then_carries a b c x y first second = record {
    plan = second.plan ∙ first.plan;
    whole = second.whole;
    told = omega (arith, second.told, first.told, length-append x y);
    last = second.last ∙ (ap (λ (q : ℕ). greatest q y) first.last ∙ sym (greatest-append (last_request a.standing) x y));
    stands = λ history is.
        subst (λ (h : List Submitted). StandsFor answers c h) (append_assoc history x y) (second.stands (history ++ x) (first.stands history is));
  }

  -- by a reply that is known
  pub carried_by : (old new : Keeping D) (x : Reply → List Submitted) → {r t : Reply} → r ≡ t → Carries answers old new (x r) → Carries answers old new (x t)
  carried_by old new x is carries = subst (λ (r : Reply). Carries answers old new (x r)) is carries

  -- epochs that were submitted
  pub submitted : (old new : Keeping D) (device : D) (x : List Submitted) → old.broken ≡ false → new ≡ with_epochs old device x → Carries answers old new x
  submitted old new device x whole is =
      subst (λ (k : Keeping D). Carries answers old k x) (sym is) (record {
        plan = refl;
        whole = whole;
        told = omega (arith, length-append old.standing.submitted x);
        last = greatest-append old.standing.last old.standing.submitted x;
        stands = λ history s. more_stands answers old.plan old.standing history x s;
      })

  -- or a group, if there is one
  pub grouped : (old new : Keeping D) (x : List Submitted) → old.broken ≡ false → new ≡ with_group old new.device x → Carries answers old new x
  grouped old new [] whole is = unmoved old new (ap (λ (k : Keeping D). k.plan) is) (ap (λ (k : Keeping D). k.standing) is) (ap (λ (k : Keeping D). k.broken) is ∙ whole)
  grouped old new (s ∷ x) whole is = submitted old new new.device (s ∷ x) whole is

module _ (answers : Answers) (stands_on : Stands-on answers) where
  -- an image that tells an advance of a standing by nothing
  still_told : (plan : List Line) (s : Standing) (history : List Submitted) (c : List ℕ) → Stands (states_by answers plan) s history
      → TellsAdvance answers plan s [] (last_epoch s) c → TellsHistory answers plan history c
  still_told plan s history c is told =
      let next = stands_on (tree_of plan) s told.standing history [] is told.advance in
      let far : length history ≤ length next.0 = omega (arith, as_long answers plan s history is, as_long answers plan told.standing next.0 next.2, told.holds) in
      let same : next.0 ≡ history = same_list history next.0 next.1.0 (sym (append-nil history) ∙ next.1.1) far in
      record { standing = told.standing; told = told.told; stands = subst (λ (h : List Submitted). Stands (states_by answers plan) told.standing h) same next.2 }

  -- or by one batch
  one_told : (plan : List Line) (s : Standing) (history : List Submitted) (x : Submitted) (c : List ℕ) → Stands (states_by answers plan) s history
      → TellsAdvance answers plan s (x ∷ []) (last_epoch s) c → TellsHistory answers plan history c ⊎ TellsHistory answers plan (history ++ x ∷ []) c
  one_told plan s history x c is told =
      let next = stands_on (tree_of plan) s told.standing history (x ∷ []) is told.advance in
      let far : length history ≤ length next.0 = omega (arith, as_long answers plan s history is, as_long answers plan told.standing next.0 next.2, told.holds) in
      let tells : (h : List Submitted) → next.0 ≡ h → TellsHistory answers plan h c =
      λ h same. record { standing = told.standing; told = told.told; stands = subst (λ (l : List Submitted). Stands (states_by answers plan) told.standing l) same next.2 } in
      ⊎_elim (λ same. inl (tells history same)) (λ same. inr (tells (history ++ x ∷ []) same)) (one_more history x next.0 next.1.0 next.1.1 far)

  -- a cut that was written
  pub checkpointed : {D : Type 0} → Cuts-on answers → (old new : Keeping D) (device : D) → old.broken ≡ false → IsKeeping old answers → new ≡ with_checkpoint old device → Carries answers old new []
  checkpointed {D = D} cuts_on old new device whole kept is =
      let s = old.standing in
      let n = old.base - s.epoch in
      let most : n ≤ length s.submitted = omega (arith, kept.released, kept.from_checkpoint) in
      let t : Standing = cut_at s n old.base_states in
      let states : (run answers (tree_of old.plan) s.states (batches_of (take n s.submitted))).states ≡ old.base_states =
      ap (λ (l : List (List Entry)). (run answers (tree_of old.plan) s.states l).states) (sym (take-map (λ s. s.batch) n s.submitted)) ∙ sym kept.base_states in
      let none : with_more s [] ≡ s = λ i. record { epoch = s.epoch; states = s.states; last = s.last; submitted = append-nil s.submitted i } in
      let advance : Advance (states_by answers old.plan) (with_more s []) t =
      subst (λ (u : Standing). Advance (states_by answers old.plan) u t) (sym none)
      (subst (λ (l : StateList). Advance (states_by answers old.plan) s (cut_at s n l)) states (cuts_on (tree_of old.plan) s n most)) in
      subst (λ (k : Keeping D). Carries answers old k []) (sym is) (record {
        plan = refl;
        whole = whole;
        told = omega (arith, length-drop n s.submitted, most);
        last = sym (greatest-append s.last (take n s.submitted) (drop n s.submitted)) ∙ ap (greatest s.last) (take-append-drop n s.submitted);
        stands = λ history h.
            let next = stands_on (tree_of old.plan) s t history [] h advance in
            let far : length history ≤ length next.0 = omega (arith, as_long answers old.plan s history h, as_long answers old.plan t next.0 next.2, length-drop n s.submitted, most) in
            let same : next.0 ≡ history = same_list history next.0 next.1.0 (sym (append-nil history) ∙ next.1.1) far in
            subst (λ (l : List Submitted). Stands (states_by answers old.plan) t l) (same ∙ sym (append-nil history)) next.2;
      })

-- what is told where the device failed in a call
module _ {D : Type 0} (view : D → DiskView) (answers : Answers) (stands_on : Stands-on answers) (old new : Keeping D)
    (before : (view new.device).lawful → (view old.device).lawful)
    (counts : (view new.device).lawful → (c : List ℕ) → (view new.device).state.images c → (view new.device).state.since (view old.device).state.moment c) where
  pub stopped_one : (x : Submitted) → ((view old.device).lawful → SinceAdvance answers old.plan old.standing (x ∷ []) (last_epoch old.standing) (view old.device).state.moment (view new.device).state)
      → Stopped view answers old new (x ∷ []) 0 1
  stopped_one x since history is lawful c image =
      ⊎_elim (λ t. inl (subst (λ (h : List Submitted). TellsHistory answers old.plan h c) (sym (append-nil history)) t)) (λ t. inr (omega arith, t))
      (one_told answers stands_on old.plan old.standing history x c is (since (before lawful) c (counts lawful c image)))

  pub stopped_none : ((view old.device).lawful → SinceAdvance answers old.plan old.standing [] (last_epoch old.standing) (view old.device).state.moment (view new.device).state)
      → Stopped view answers old new [] 0 0
  stopped_none since history is lawful c image =
      inl (subst (λ (h : List Submitted). TellsHistory answers old.plan h c) (sym (append-nil history))
      (still_told answers stands_on old.plan old.standing history c is (since (before lawful) c (counts lawful c image))))

-- and in a call that submits a group
module _ {D : Type 0} (view : D → DiskView) (answers : Answers) (old new : Keeping D)
    (before : (view new.device).lawful → (view old.device).lawful)
    (counts : (view new.device).lawful → (c : List ℕ) → (view new.device).state.images c → (view new.device).state.since (view old.device).state.moment c) where
  pub stopped_all : (x : List Submitted) → ((view old.device).lawful → AllOrNone old.plan old.standing x (view old.device).state.moment (view new.device).state)
      → Stopped view answers old new x 0 (length x)
  stopped_all x since history is lawful c image =
      ⊎_elim
      (λ told. inl (subst (λ (h : List Submitted). TellsHistory answers old.plan h c) (sym (append-nil history)) (record { standing = old.standing; told = told; stands = is })))
      (λ told. inr (
        omega arith,
        subst (λ (l : List Submitted). TellsHistory answers old.plan (history ++ l) c) (sym (take_all (0 + length x) x (omega arith)))
            (record { standing = with_more old.standing x; told = told; stands = more_stands answers old.plan old.standing history x is }),
      ))
      (since (before lawful) c (counts lawful c image))

module _ {D : Type 0} (view : D → DiskView) (answers : Answers) where
  -- a refusal with nothing submitted
  pub leaves_none : (old new : Keeping D) (more : List Submitted) → Carries answers old new [] → Leaves view answers old new more
  leaves_none old new more is = record { count = 0; group = 0; few = omega arith; left = inl is }

  -- with all of them
  pub leaves_all : (old new : Keeping D) (more : List Submitted) → Carries answers old new more → Leaves view answers old new more
  leaves_all old new more is =
      record { count = length more; group = 0; few = omega arith; left = inl (subst (λ (x : List Submitted). Carries answers old new x) (sym (take_all (length more) more (omega arith))) is) }

  -- a refusal in the middle
  pub then_leaves : (a b c : Keeping D) (x y z all : List Submitted) → all ≡ x ++ (y ++ z) → Carries answers a b x → Leaves view answers b c y → Leaves view answers a c all
  then_leaves a b c x y z all is first rest = record {
    count = length x + rest.count;
    group = rest.group;
    few = omega (arith, rest.few, ap length is, length-append x (y ++ z), length-append y z);
    left = ⊎_elim
        (λ whole. inl (subst (λ (l : List Submitted). Carries answers a c l) (sym (part rest.count rest.few)) (then_carries answers a b c x (take rest.count y) first whole)))
        (λ stopped. inr (λ history stands lawful i image.
        ⊎_elim
        (λ t. inl (tells history i rest.count rest.few t))
        (λ t. inr (omega (arith, t.0, ap length is, length-append x (y ++ z), length-append y z), subst (λ (n : ℕ). TellsHistory answers a.plan (history ++ take n all) i) (in_turn (length x) rest.count rest.group) (tells history i (rest.count + rest.group) t.0 t.1)))
        (stopped (history ++ x) (first.stands history stands) lawful i image)))
        rest.left;
  }
    where
      in_turn : (a b c : ℕ) → a + (b + c) ≡ a + b + c
      in_turn a b c = omega arith

      part : (n : ℕ) → n ≤ length y → take (length x + n) all ≡ x ++ take n y
      part n le = ap (λ (l : List Submitted). take (length x + n) l) is ∙ take-append-add x (y ++ z) n ∙ ap (λ (l : List Submitted). x ++ l) (take-append-le n y z le)

      tells : (history : List Submitted) (i : List ℕ) (n : ℕ) → n ≤ length y → TellsHistory answers b.plan ((history ++ x) ++ take n y) i → TellsHistory answers a.plan (history ++ take (length x + n) all) i
      tells history i n le t =
          subst (λ (p : List Line). TellsHistory answers p (history ++ take (length x + n) all) i) first.plan
          (subst (λ (l : List Submitted). TellsHistory answers b.plan l i) (append_assoc history x (take n y) ∙ ap (λ (l : List Submitted). history ++ l) (sym (part n le))) t)

module _ {D : Type 0} (view : D → DiskView) (answers : Answers) (a b c : Keeping D) where
  -- one after the other, where one of them submits nothing
  pub carries_after : (y : List Submitted) → Carries answers a b [] → Carries answers b c y → Carries answers a c y
  carries_after y first rest = then_carries answers a b c [] y first rest

  pub carries_then : (x : List Submitted) → Carries answers a b x → Carries answers b c [] → Carries answers a c x
  carries_then x first rest = subst (λ (l : List Submitted). Carries answers a c l) (append-nil x) (then_carries answers a b c x [] first rest)

  pub leaves_after : (y : List Submitted) → Carries answers a b [] → Leaves view answers b c y → Leaves view answers a c y
  leaves_after y first rest = then_leaves view answers a b c [] y [] y (sym (append-nil y)) first rest

  pub leaves_then : (x : List Submitted) → Carries answers a b x → Leaves view answers b c [] → Leaves view answers a c x
  leaves_then x first rest = then_leaves view answers a b c x [] [] x (sym (append-nil x)) first rest

-- the law: what is told in parts is told
abbrev pub Together : Type 0
Together = (plan : List Line) (head : Head) (side : ℕ) (s : Standing) (image : List ℕ) → Tells plan head side s image → Told plan image (Ok s)

abbrev pub One-answer : Type 0
One-answer = (plan : List Line) (image : List ℕ) (a b : Result Standing KeeperError) → Told plan image a → Told plan image b → a ≡ b

module _ {D : Type 0} (view : D → DiskView) (answers : Answers) (together : Together) where
  -- the disk of a whole keeper tells what its standing stands for
  pub each_told : (k : Keeping D) (history : List Submitted) → k.broken ≡ false → StandsFor answers k history
      → ((view k.device).lawful → HeldWhere k.broken answers k.plan k.head k.side k.standing (view k.device).state) → (view k.device).lawful → EachTellsHistory answers k.plan history (view k.device).state
  each_told k history whole is held lawful c image =
      let keeps : Keeps k.plan k.head k.side k.standing (view k.device).state = subst (λ (b : Bool). HeldWhere b answers k.plan k.head k.side k.standing (view k.device).state) whole (held lawful) in
      record { standing = k.standing; told = subst (λ (i : List ℕ). Told k.plan i (Ok k.standing)) (sym (keeps.durable c image)) (together k.plan k.head k.side k.standing (view k.device).state.bytes keeps.tells); stands = is }

  -- at the end
  pub ended_some : (old new : Keeping D) (history more : List Submitted) → StandsFor answers old history → Leaves view answers old new more
      → ((view new.device).lawful → HeldWhere new.broken answers new.plan new.head new.side new.standing (view new.device).state) → (view new.device).lawful
      → EachTellsSome answers old.plan history more (view new.device).state
  ended_some old new history more is leaves held lawful = record {
    count = leaves.count;
    group = leaves.group;
    each = ⊎_elim
        (λ whole c image. inl (subst (λ (p : List Line). TellsHistory answers p (history ++ take leaves.count more) c) whole.plan (each_told new (history ++ take leaves.count more) whole.whole (whole.stands history is) held lawful c image)))
        (λ stopped c image. ⊎_elim inl (λ t. inr t.1) (stopped history is lawful c image))
        leaves.left;
  }

  pub ended_all : (old new : Keeping D) (history more : List Submitted) → StandsFor answers old history → Carries answers old new more
      → ((view new.device).lawful → HeldWhere new.broken answers new.plan new.head new.side new.standing (view new.device).state) → (view new.device).lawful
      → EachTellsHistory answers old.plan (history ++ more) (view new.device).state
  ended_all old new history more is carries held lawful =
      subst (λ (p : List Line). EachTellsHistory answers p (history ++ more) (view new.device).state) carries.plan
      (each_told new (history ++ more) carries.whole (carries.stands history is) held lawful)

-- the same history, with nothing submitted
pub none_more : (answers : Answers) (plan : List Line) (history more : List Submitted) (state : DiskState) → EachTellsHistory answers plan history state → EachTellsSome answers plan history more state
none_more answers plan history more state told =
    record { count = 0; group = 0; each = λ c image. inl (subst (λ (h : List Submitted). TellsHistory answers plan h c) (sym (append-nil history)) (told c image)) }

module _ (answers : Answers) (plan : List Line) (history : List Submitted) (old now : DiskState) (safe : CrashSafe Unchanged old now)
    (counts : (c : List ℕ) → now.images c → now.since old.moment c) (told : EachTellsHistory answers plan history old) where
  -- a recovery leaves what was told
  pub still_each : EachTellsHistory answers plan history now
  still_each c image =
      let from = safe.each c (counts c image) in
      subst (λ (i : List ℕ). TellsHistory answers plan history i) (sym from.2) (told from.0 from.1)

  -- and finds it
  pub found : One-answer → now.images now.bytes → (s : Standing) → Told plan now.bytes (Ok s) → Stands (states_by answers plan) s history
  found one_answer reads s is =
      let t = still_each now.bytes reads in
      let same : t.standing ≡ s = same_ok t.standing s (one_answer plan now.bytes (Ok t.standing) (Ok s) t.told is) in
      subst (λ (u : Standing). Stands (states_by answers plan) u history) same t.stands
