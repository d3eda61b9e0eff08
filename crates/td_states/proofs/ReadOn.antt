-- A line more is read, or has the first fault.
use Rattle.std.proofs.Common.{◌≡◌, inl, ℕ, zero, suc, ◌+◌, ◌^◌, ◌<◌, Bool, true, false, ◌&&◌, ◌==◌, nat_lt, eqb-true, cond, List, [], ◌∷◌, ◌++◌, length, map, Option, Some, None, is_none, Ok, Err, refl, sym, ap, ◌∙◌, subst, arith, append-nil, length-append}
use Rattle.std.specs.List.{list_all, list_any}
use Rattle.std.proofs.lemmas.Bool.{and_parts, and_from, ltb-true}
use Rattle.std.proofs.lemmas.List.{append_assoc, map-append}
use Rattle.std.proofs.lemmas.List.Folds.{list_all-append}
use Rattle.std.proofs.lemmas.Grind.{flat_map-append}
use Rattle.td_stamp.specs.declared.values.State.{State}
use Rattle.td_stamp.specs.States.{StateList}
use Rattle.td_plan.specs.Lines.{Line as PlanLine}
use Rattle.td_plan.specs.Text.{text_lines}
use Rattle.td_slots.specs.declared.slots.Checkpoint.{Checkpoint}
use Rattle.td_slots.specs.Parsed.{last_place, may_come_after}
use Rattle.td_store.specs.standing.Told.{folds_of}
use Rattle.td_states.specs.declared.rename.Rename.{Rename}
use Rattle.td_states.specs.declared.line.StatesLine.{StatesLine}
use Rattle.td_states.specs.declared.line.StatesLine.TheVariants.{PassedOver, Kept, Last, Held}
use Rattle.td_states.specs.declared.error.StatesFault.{StatesFault}
use Rattle.td_states.specs.declared.error.StatesFault.TheVariants.{Syntax, NoSuchFold, Order}
use Rattle.td_states.specs.declared.error.StatesError.{StatesError}
use Rattle.td_states.specs.declared.error.StatesError.TheVariants.{Line}
use Rattle.td_states.specs.Lines.{line_of}
use Rattle.td_states.specs.Spelled.{renamed_vertex, renamed, last_said, state_said, sayings, has_form, said_once, said_of, Spells, AreRead, unless, takes_last, fault_after, next_fault, IsFirstFault, StatesTextFault}
use Rattle.td_states.specs.Steps.{begun, with_last, with_held, next_read, read_on, or_fault, EndsAt, IsReadUpTo}
use Rattle.td_states.proofs.Order.{ordered, ordered_more, last_pushed, no_last}

-- what a fault leaves out, and what it lets through
holds : (b : Bool) (fault : StatesFault) → unless b fault ≡ None → b ≡ true
holds true fault e = refl
holds false fault e = absurd (let no = e in cc)

map_none : (renames : List Rename) (written : StateList) → map (renamed renames) written ≡ [] → written ≡ []
map_none renames [] e = refl
map_none renames (x ∷ xs) e = absurd (let no = e in cc)

last_one : (q : ℕ) → 0 < q → last_said q ≡ Last q ∷ []
last_one zero h = absurd (omega (arith, h))
last_one (suc q) h = refl

module _ (folds : List ℕ) (renames : List Rename) (front : List (List ℕ)) (line : List ℕ) (said : StatesLine) (says : line_of line ≡ Some said) where
  forms_more : list_all has_form front ≡ true → list_all has_form (front ++ line ∷ []) ≡ true
  forms_more h = list_all-append has_form front (line ∷ []) ∙ rw (h, says) refl

  said_more : said_of (front ++ line ∷ []) ≡ said_of front ++ said_once (Some said)
  said_more =
      flat_map-append (λ l. said_once (line_of l)) front (line ∷ [])
      ∙ ap (λ (l : List StatesLine). said_of front ++ l) (append-nil (said_once (line_of line)) ∙ ap said_once says)

  -- with a request number
  last_more : (c : Checkpoint) (q : ℕ) → Spells folds renames front c → takes_last c q ≡ true → said ≡ Last q → Spells folds renames (front ++ line ∷ []) (with_last c q)
  last_more c q is takes of =
      let parts = and_parts (nat_lt 0 q) ((c.last == 0) && is_none (last_place c.states)) takes in
      let before = and_parts (c.last == 0) (is_none (last_place c.states)) parts.1 in
      let none : c.states ≡ [] = no_last c.states before.1 in
      let no_last_ : c.last ≡ 0 = eqb-true c.last 0 before.0 in
      let written : is.written ≡ [] = map_none renames is.written (sym is.renames_to ∙ none) in
      record {
        written = is.written;
        forms = forms_more is.forms;
        said = said_more ∙ ap (λ (l : List StatesLine). l ++ said_once (Some said)) (is.said ∙ ap (λ (n : ℕ). sayings c.epoch n is.written) no_last_ ∙ ap (sayings c.epoch 0) written)
            ∙ ap (λ (s : StatesLine). Kept c.epoch ∷ said_once (Some s)) of
            ∙ ap (λ (l : List StatesLine). Kept c.epoch ∷ l) (sym (last_one q (ltb-true 0 q parts.0)) ∙ sym (append-nil (last_said q)))
            ∙ ap (λ (w : StateList). sayings c.epoch q w) (sym written);
        renames_to = is.renames_to;
        lawful = is.lawful;
        small = is.small;
        slot = is.slot;
      }

  -- with a state
  held_more : (c : Checkpoint) (v k : ℕ) (s : State) → Spells folds renames front c → list_any (λ w. w == renamed_vertex renames v) folds ≡ true
      → may_come_after (last_place c.states) (renamed_vertex renames v, k) ≡ true → said ≡ Held v k s
      → Spells folds renames (front ++ line ∷ []) (with_held c (renamed renames ((v, k), s)))
  held_more c v k s is fold may of =
      let x : (ℕ × ℕ) × State = ((v, k), s) in
      let y : (ℕ × ℕ) × State = renamed renames x in
      let lawful = and_parts (list_all (λ e. list_any (λ w. w == e.0.0) folds) c.states) (ordered c.states) is.lawful in
      record {
        written = is.written ++ x ∷ [];
        forms = forms_more is.forms;
        said = said_more ∙ ap (λ (l : List StatesLine). l ++ said_once (Some said)) is.said ∙ ap (λ (t : StatesLine). sayings c.epoch c.last is.written ++ said_once (Some t)) of
            ∙ ap (λ (l : List StatesLine). Kept c.epoch ∷ l)
            (append_assoc (last_said c.last) (map state_said is.written) (Held v k s ∷ []) ∙ ap (λ (l : List StatesLine). last_said c.last ++ l) (sym (map-append state_said is.written (x ∷ []))));
        renames_to = ap (λ (l : StateList). l ++ y ∷ []) is.renames_to ∙ sym (map-append (renamed renames) is.written (x ∷ []));
        lawful = and_from (list_all (λ e. list_any (λ w. w == e.0.0) folds) (c.states ++ y ∷ [])) (ordered (c.states ++ y ∷ []))
            (list_all-append (λ e. list_any (λ w. w == e.0.0) folds) c.states (y ∷ []) ∙ rw (lawful.0, fold) refl) (ordered_more c.states y lawful.1 may);
        small = is.small;
        slot = is.slot;
      }

  -- with nothing
  none_more : (c : Checkpoint) → Spells folds renames front c → said ≡ PassedOver → Spells folds renames (front ++ line ∷ []) c
  none_more c is of = record {
    written = is.written;
    forms = forms_more is.forms;
    said = said_more ∙ ap (λ (s : StatesLine). said_of front ++ said_once (Some s)) of ∙ append-nil (said_of front) ∙ is.said;
    renames_to = is.renames_to;
    lawful = is.lawful;
    small = is.small;
    slot = is.slot;
  }

  -- the epoch
  kept_more : (e : ℕ) → AreRead folds renames front None → e < 2 ^ 63 → said ≡ Kept e → Spells folds renames (front ++ line ∷ []) (begun e)
  kept_more e is small of = record {
    written = [];
    forms = forms_more is.0;
    said = said_more ∙ ap (λ (l : List StatesLine). l ++ said_once (Some said)) is.1 ∙ ap (λ (s : StatesLine). said_once (Some s)) of;
    renames_to = refl;
    lawful = refl;
    small = small;
    slot = refl;
  }

  state_more : (c : Checkpoint) (v k : ℕ) (s : State) → Spells folds renames front c → said ≡ Held v k s → (fold may : Bool)
      → list_any (λ w. w == renamed_vertex renames v) folds ≡ fold → may_come_after (last_place c.states) (renamed_vertex renames v, k) ≡ may
      → cond fold (unless may Order) (Some NoSuchFold) ≡ None → Spells folds renames (front ++ line ∷ []) (with_held c (renamed renames ((v, k), s)))
  state_more c v k s is of true true fold may e = held_more c v k s is fold may of
  state_more c v k s is of true false fold may e = absurd (let no = e in cc)
  state_more c v k s is of false may fold is_ e = absurd (let no = e in cc)

  next_more : (c : Checkpoint) → Spells folds renames front c → (s : StatesLine) → said ≡ s → next_fault folds renames c s ≡ None → Spells folds renames (front ++ line ∷ []) (next_read renames c s)
  next_more c is PassedOver of e = none_more c is of
  next_more c is (Kept epoch) of e = absurd (let no = e in cc)
  next_more c is (Last q) of e = last_more c q is (holds (takes_last c q) Syntax e) of
  next_more c is (Held v k s) of e =
      state_more c v k s is of (list_any (λ w. w == renamed_vertex renames v) folds) (may_come_after (last_place c.states) (renamed_vertex renames v, k)) refl refl e

  first_more : AreRead folds renames front None → (s : StatesLine) → said ≡ s → fault_after folds renames None (Some s) ≡ None → AreRead folds renames (front ++ line ∷ []) (read_on renames None (Some s))
  first_more is PassedOver of e = (forms_more is.0, said_more ∙ ap (λ (s : StatesLine). said_of front ++ said_once (Some s)) of ∙ append-nil (said_of front) ∙ is.1)
  first_more is (Kept epoch) of e = kept_more epoch is (ltb-true epoch (2 ^ 63) (holds (nat_lt epoch (2 ^ 63)) Syntax e)) of
  first_more is (Last q) of e = absurd (let no = e in cc)
  first_more is (Held v k s) of e = absurd (let no = e in cc)

  read_more : (read : Option Checkpoint) → AreRead folds renames front read → fault_after folds renames read (Some said) ≡ None → AreRead folds renames (front ++ line ∷ []) (read_on renames read (Some said))
  read_more None is e = first_more is said refl e
  read_more (Some c) is e = next_more c is said refl e

-- what an answer says
ok_parts : (n : ℕ) (next read : Option Checkpoint) (fault : Option StatesFault) → or_fault n next fault ≡ Ok read → (fault ≡ None) × (next ≡ read)
ok_parts n next read None e = (refl, cc)
ok_parts n next read (Some fault) e = absurd (let no = e in cc)

err_parts : (n : ℕ) (next : Option Checkpoint) (error : StatesError) (fault : Option StatesFault) → or_fault n next fault ≡ Err error → (f : StatesFault) × (fault ≡ Some f) × (error ≡ Line n f)
err_parts n next error None e = absurd (let no = e in cc)
err_parts n next error (Some fault) e = (fault, refl, cc)

module _ (folds : List ℕ) (renames : List Rename) (lines : List (List ℕ)) (line : List ℕ) (rest : List (List ℕ)) (n : ℕ) (read : Option Checkpoint)
    (so_far : IsReadUpTo folds renames lines (line ∷ rest) n read) where
  -- one line more
  pub line_more : (said : Option StatesLine) → line_of line ≡ said → (next : Option Checkpoint) → or_fault (n + 1) (read_on renames read said) (fault_after folds renames read said) ≡ Ok next
      → IsReadUpTo folds renames lines rest (n + 1) next
  line_more None is next e = absurd (let no = (ok_parts (n + 1) read next (Some Syntax) e).0 in cc)
  line_more (Some said) is next e =
      let parts = ok_parts (n + 1) (read_on renames read (Some said)) next (fault_after folds renames read (Some said)) e in
      record {
        front = so_far.front ++ line ∷ [];
        splits = so_far.splits ∙ sym (append_assoc so_far.front (line ∷ []) rest);
        number = omega (arith, so_far.number, length-append so_far.front (line ∷ []));
        are_read = subst (λ (r : Option Checkpoint). AreRead folds renames (so_far.front ++ line ∷ []) r) parts.1 (read_more folds renames so_far.front line said is read so_far.are_read parts.0);
      }

  -- or its fault
  pub line_fault : (error : StatesError) → or_fault (n + 1) (read_on renames read (line_of line)) (fault_after folds renames read (line_of line)) ≡ Err error
      → (f : StatesFault) × (error ≡ Line (n + 1) f) × IsFirstFault folds renames lines (n + 1) f
  line_fault error e =
      let parts = err_parts (n + 1) (read_on renames read (line_of line)) error (fault_after folds renames read (line_of line)) e in (
        parts.0,
        parts.2,
        record {
          front = so_far.front;
          line = line;
          rest = rest;
          splits = so_far.splits;
          so_far = read;
          read = so_far.are_read;
          number = ap (λ (m : ℕ). m + 1) so_far.number;
          has = parts.1;
        },
      )

-- before the first line, and after the last
pub none_yet : (folds : List ℕ) (renames : List Rename) (lines : List (List ℕ)) → IsReadUpTo folds renames lines lines 0 None
none_yet folds renames lines = record { front = []; splits = refl; number = refl; are_read = (refl, refl) }

module _ (folds : List ℕ) (renames : List Rename) (lines rest : List (List ℕ)) (n : ℕ) (read : Option Checkpoint) (none : rest ≡ []) (so_far : IsReadUpTo folds renames lines rest n read) where
  front_is : so_far.front ≡ lines
  front_is = sym (so_far.splits ∙ ap (λ (r : List (List ℕ)). so_far.front ++ r) none ∙ append-nil so_far.front)

  pub all_read : AreRead folds renames lines read
  all_read = subst (λ (l : List (List ℕ)). AreRead folds renames l read) front_is so_far.are_read

  pub all_counted : n ≡ length lines
  all_counted = so_far.number ∙ ap length front_is

-- a state of a fold is put at the end, where it may come
module _ (at : Checkpoint) (x : (ℕ × ℕ) × State) (new : StateList) (may : may_come_after (last_place at.states) x.0 ≡ true) (set : new ≡ at.states ++ x ∷ []) where
  pub held_given : (n : ℕ) (c : Checkpoint) → c ≡ at
      → or_fault n (Some (with_held c x)) (unless (may_come_after (last_place c.states) x.0) Order) ≡ Ok (Some (record { slot = at.slot; epoch = at.epoch; last = at.last; states = new }))
  held_given n c is =
      ap (λ (d : Checkpoint). or_fault n (Some (with_held d x)) (unless (may_come_after (last_place d.states) x.0) Order)) is
      ∙ ap (λ (b : Bool). or_fault n (Some (with_held at x)) (unless b Order)) may
      ∙ ap (λ (l : StateList). Ok (Some (record { slot = at.slot; epoch = at.epoch; last = at.last; states = l }))) (sym set)

  pub held_ends : ordered at.states ≡ true → EndsAt (record { slot = at.slot; epoch = at.epoch; last = at.last; states = new }) (Some x.0)
  held_ends rises = record { last = sym (ap last_place set ∙ last_pushed at.states x); rises = ap ordered set ∙ ordered_more at.states x rises may }

-- a fault of the lines is one of the text
pub told_fault : (plan : List PlanLine) (renames : List Rename) (text folds : List ℕ) → folds ≡ folds_of plan → (line : List ℕ) (rest : List (List ℕ)) (n : ℕ) (read : Option Checkpoint)
    → IsReadUpTo folds renames (text_lines text) (line ∷ rest) n read → (error : StatesError) → or_fault (n + 1) (read_on renames read (line_of line)) (fault_after folds renames read (line_of line)) ≡ Err error
    → StatesTextFault plan renames text error
told_fault plan renames text folds is line rest n read so_far error e =
    let found = line_fault folds renames (text_lines text) line rest n read so_far error e in
    subst (StatesTextFault plan renames text) (sym found.1) (inl (subst (λ (fs : List ℕ). IsFirstFault fs renames (text_lines text) (n + 1) found.0) is found.2))
