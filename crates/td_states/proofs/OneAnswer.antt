-- A text that spells a checkpoint has no fault.
use Rattle.std.proofs.Common.{◌≡◌, ◌⊎◌, inl, inr, ℕ, zero, suc, ◌^◌, ◌<◌, Bool, true, false, ◌&&◌, ◌==◌, nat_lt, cond, List, [], ◌∷◌, ◌++◌, map, Option, Some, None, is_none, refl, sym, ap, ◌∙◌, arith}
use Rattle.std.specs.List.{list_all, list_any}
use Rattle.std.proofs.lemmas.Bool.{and_parts, lt-ltb}
use Rattle.std.proofs.lemmas.List.{map-append}
use Rattle.std.proofs.lemmas.List.Folds.{list_all-append}
use Rattle.std.proofs.lemmas.Grind.{flat_map-append}
use Rattle.td_stamp.specs.declared.values.State.{State}
use Rattle.td_stamp.specs.States.{StateList}
use Rattle.td_slots.specs.declared.slots.Checkpoint.{Checkpoint}
use Rattle.td_slots.specs.Parsed.{last_place, may_come_after}
use Rattle.td_states.specs.declared.rename.Rename.{Rename}
use Rattle.td_states.specs.declared.line.StatesLine.{StatesLine}
use Rattle.td_states.specs.declared.line.StatesLine.TheVariants.{PassedOver, Kept, Last, Held}
use Rattle.td_states.specs.declared.error.StatesFault.{StatesFault}
use Rattle.td_states.specs.declared.error.StatesFault.TheVariants.{Syntax, NoSuchFold, Order}
use Rattle.td_states.specs.Lines.{line_of}
use Rattle.td_states.specs.Spelled.{renamed_vertex, renamed, last_said, state_said, sayings, has_form, said_once, said_of, Spells, AreRead, unless, takes_last, fault_after, next_fault, IsFirstFault, SaysNothing}
use Rattle.td_states.proofs.Order.{ordered, before}

-- lines of states alone
no_kept_in : (xs : List StatesLine) (e : ℕ) (more : List StatesLine) (w : StateList) → xs ++ Kept e ∷ more ≡ map state_said w → ⊥
no_kept_in [] e more [] h = cc
no_kept_in [] e more (((v, k), s) ∷ w) h = cc
no_kept_in (x ∷ xs) e more [] h = cc
no_kept_in (x ∷ xs) e more (((v, k), s) ∷ w) h = let rest : xs ++ Kept e ∷ more ≡ map state_said w = cc in no_kept_in xs e more w rest

no_last_in : (xs : List StatesLine) (q : ℕ) (more : List StatesLine) (w : StateList) → xs ++ Last q ∷ more ≡ map state_said w → ⊥
no_last_in [] q more [] h = cc
no_last_in [] q more (((v, k), s) ∷ w) h = cc
no_last_in (x ∷ xs) q more [] h = cc
no_last_in (x ∷ xs) q more (((v, k), s) ∷ w) h = let rest : xs ++ Last q ∷ more ≡ map state_said w = cc in no_last_in xs q more w rest

-- lines of a checkpoint behind its epoch
no_kept : (xs : List StatesLine) (e : ℕ) (more : List StatesLine) (l : ℕ) (w : StateList) → xs ++ Kept e ∷ more ≡ last_said l ++ map state_said w → ⊥
no_kept xs e more zero w h = no_kept_in xs e more w h
no_kept [] e more (suc l) w h = cc
no_kept (x ∷ xs) e more (suc l) w h = let rest : xs ++ Kept e ∷ more ≡ map state_said w = cc in no_kept_in xs e more w rest

-- a request number behind these is the first of all, and not 0
first_last : (q : ℕ) (more : List StatesLine) (k l : ℕ) (x w : StateList) → (last_said k ++ map state_said x) ++ Last q ∷ more ≡ last_said l ++ map state_said w → (k ≡ 0) × (x ≡ []) × (0 < q)
first_last q more k zero x w h = absurd (no_last_in (last_said k ++ map state_said x) q more w h)
first_last q more zero (suc l) [] w h = let same : q ≡ suc l = cc in (refl, refl, omega arith)
first_last q more zero (suc l) (((v, key), s) ∷ x) w h = absurd cc
first_last q more (suc k) (suc l) x w h = let rest : map state_said x ++ Last q ∷ more ≡ map state_said w = cc in absurd (no_last_in (map state_said x) q more w rest)

-- a state behind these is the next one
state_behind : (v k : ℕ) (s : State) (more : List StatesLine) (x w : StateList) → map state_said x ++ Held v k s ∷ more ≡ map state_said w → (rest : StateList) × (w ≡ x ++ ((v, k), s) ∷ rest)
state_behind v k s more [] [] h = absurd cc
state_behind v k s more [] (((u, l), t) ∷ w) h = (w, let a : v ≡ u = cc in let b : k ≡ l = cc in let c : s ≡ t = cc in λ i. ((sym a i, sym b i), sym c i) ∷ w)
state_behind v k s more (((u, l), t) ∷ x) [] h = absurd cc
state_behind v k s more (((u, l), t) ∷ x) (((y, m), z) ∷ w) h =
    let rest : map state_said x ++ Held v k s ∷ more ≡ map state_said w = cc in
    let n = state_behind v k s more x w rest in
    (n.0, let a : u ≡ y = cc in let b : l ≡ m = cc in let c : t ≡ z = cc in λ i. ((sym a i, sym b i), sym c i) ∷ n.1 i)

next_held : (v key : ℕ) (s : State) (more : List StatesLine) (k l : ℕ) (x w : StateList) → (last_said k ++ map state_said x) ++ Held v key s ∷ more ≡ last_said l ++ map state_said w
    → (rest : StateList) × (w ≡ x ++ ((v, key), s) ∷ rest)
next_held v key s more zero zero x w h = state_behind v key s more x w h
next_held v key s more zero (suc l) [] w h = absurd cc
next_held v key s more zero (suc l) (((u, m), t) ∷ x) w h = absurd cc
next_held v key s more (suc k) zero x [] h = absurd cc
next_held v key s more (suc k) zero x (((u, m), t) ∷ w) h = absurd cc
next_held v key s more (suc k) (suc l) x w h = let rest : map state_said x ++ Held v key s ∷ more ≡ map state_said w = cc in state_behind v key s more x w rest

-- what a fault says
lets_none : (b : Bool) (fault f : StatesFault) → b ≡ true → unless b fault ≡ Some f → ⊥
lets_none true fault f e h = cc
lets_none false fault f e h = cc

state_none : (fold may : Bool) (f : StatesFault) → fold ≡ true → may ≡ true → cond fold (unless may Order) (Some NoSuchFold) ≡ Some f → ⊥
state_none true true f a b h = cc
state_none true false f a b h = cc
state_none false may f a b h = cc

module _ (folds : List ℕ) (renames : List Rename) (front : List (List ℕ)) (line : List ℕ) (rest lines : List (List ℕ)) (splits : lines ≡ front ++ line ∷ rest) (c : Checkpoint) (is : Spells folds renames lines c) where
  has : has_form line ≡ true
  has = let all = and_parts (list_all has_form front) (list_all has_form (line ∷ rest)) (sym (list_all-append has_form front (line ∷ rest)) ∙ ap (list_all has_form) (sym splits) ∙ is.forms) in
      (and_parts (has_form line) (list_all has_form rest) all.1).0

  -- what is said, at the line
  module _ (s : StatesLine) (says : line_of line ≡ Some s) where
    said_at : sayings c.epoch c.last is.written ≡ said_of front ++ (said_once (Some s) ++ said_of rest)
    said_at =
        sym is.said ∙ ap said_of splits ∙ flat_map-append (λ l. said_once (line_of l)) front (line ∷ rest)
        ∙ ap (λ (o : Option StatesLine). said_of front ++ (said_once o ++ said_of rest)) says

    module _ (nothing : said_of front ≡ []) where
      first_at : sayings c.epoch c.last is.written ≡ said_once (Some s) ++ said_of rest
      first_at = said_at ∙ ap (λ (l : List StatesLine). l ++ (said_once (Some s) ++ said_of rest)) nothing

      no_first : (t : StatesLine) (f : StatesFault) → s ≡ t → fault_after folds renames None (Some t) ≡ Some f → ⊥
      no_first PassedOver f of h = cc
      no_first (Kept e) f of h =
          let at : sayings c.epoch c.last is.written ≡ Kept e ∷ said_of rest = first_at ∙ ap (λ (t : StatesLine). said_once (Some t) ++ said_of rest) of in
          let same : c.epoch ≡ e = cc in
          let small = is.small in
          lets_none (nat_lt e (2 ^ 63)) Syntax f (lt-ltb e (2 ^ 63) (omega (arith, small, same))) h
      no_first (Last q) f of h = let at : sayings c.epoch c.last is.written ≡ Last q ∷ said_of rest = first_at ∙ ap (λ (t : StatesLine). said_once (Some t) ++ said_of rest) of in cc
      no_first (Held v k st) f of h = let at : sayings c.epoch c.last is.written ≡ Held v k st ∷ said_of rest = first_at ∙ ap (λ (t : StatesLine). said_once (Some t) ++ said_of rest) of in cc

    module _ (b : Checkpoint) (read : Spells folds renames front b) where
      next_at : sayings c.epoch c.last is.written ≡ sayings b.epoch b.last read.written ++ (said_once (Some s) ++ said_of rest)
      next_at = said_at ∙ ap (λ (l : List StatesLine). l ++ (said_once (Some s) ++ said_of rest)) read.said

      behind : (t : StatesLine) → s ≡ t → (more : List StatesLine) → said_once (Some t) ≡ t ∷ more → (last_said b.last ++ map state_said read.written) ++ t ∷ (more ++ said_of rest) ≡ last_said c.last ++ map state_said is.written
      behind t of more once =
          let at : sayings c.epoch c.last is.written ≡ sayings b.epoch b.last read.written ++ ((t ∷ more) ++ said_of rest) =
          next_at ∙ ap (λ (u : StatesLine). sayings b.epoch b.last read.written ++ (said_once (Some u) ++ said_of rest)) of
          ∙ ap (λ (l : List StatesLine). sayings b.epoch b.last read.written ++ (l ++ said_of rest)) once in
          cc

      no_state : (v k : ℕ) (st : State) (f : StatesFault) → s ≡ Held v k st → next_fault folds renames b (Held v k st) ≡ Some f → ⊥
      no_state v k st f of h =
          let n = next_held v k st (said_of rest) b.last c.last read.written is.written (behind (Held v k st) of [] refl) in
          let y = renamed renames ((v, k), st) in
          let states : c.states ≡ b.states ++ y ∷ map (renamed renames) n.0 =
          is.renames_to ∙ ap (map (renamed renames)) n.1 ∙ map-append (renamed renames) read.written (((v, k), st) ∷ n.0) ∙ ap (λ (l : StateList). l ++ y ∷ map (renamed renames) n.0) (sym read.renames_to) in
          let lawful = and_parts (list_all (λ e. list_any (λ w. w == e.0.0) folds) c.states) (ordered c.states) is.lawful in
          let folds_all = sym (list_all-append (λ e. list_any (λ w. w == e.0.0) folds) b.states (y ∷ map (renamed renames) n.0)) ∙ ap (list_all (λ e. list_any (λ w. w == e.0.0) folds)) (sym states) ∙ lawful.0 in
          let of_rest = and_parts (list_all (λ e. list_any (λ w. w == e.0.0) folds) b.states) (list_all (λ e. list_any (λ w. w == e.0.0) folds) (y ∷ map (renamed renames) n.0)) folds_all in
          let fold = and_parts (list_any (λ w. w == y.0.0) folds) (list_all (λ e. list_any (λ w. w == e.0.0) folds) (map (renamed renames) n.0)) of_rest.1 in
          let may = before b.states (map (renamed renames) n.0) y (ap ordered (sym states) ∙ lawful.1) in
          state_none (list_any (λ w. w == renamed_vertex renames v) folds) (may_come_after (last_place b.states) (renamed_vertex renames v, k)) f fold.0 may h

      no_next : (t : StatesLine) (f : StatesFault) → s ≡ t → next_fault folds renames b t ≡ Some f → ⊥
      no_next PassedOver f of h = cc
      no_next (Kept e) f of h = no_kept (last_said b.last ++ map state_said read.written) e (said_of rest) c.last is.written (behind (Kept e) of [] refl)
      no_next (Last q) f of h =
          let n = first_last q (said_of rest) b.last c.last read.written is.written (behind (Last q) of [] refl) in
          let states : b.states ≡ [] = read.renames_to ∙ ap (map (renamed renames)) n.1 in
          let takes : takes_last b q ≡ true =
          ap (λ (m : ℕ). nat_lt 0 q && ((m == 0) && is_none (last_place b.states))) n.0 ∙ ap (λ (l : StateList). nat_lt 0 q && is_none (last_place l)) states ∙ rw (lt-ltb 0 q n.2) refl in
          lets_none (takes_last b q) Syntax f takes h
      no_next (Held v k st) f of h = no_state v k st f of h

  no_fault_at : (so_far : Option Checkpoint) → AreRead folds renames front so_far → (said : Option StatesLine) → line_of line ≡ said → (f : StatesFault) → fault_after folds renames so_far said ≡ Some f → ⊥
  no_fault_at so_far read None says f h = let no = sym (ap (λ (o : Option StatesLine). is_some_line o) says) ∙ has in cc
    where
      is_some_line : Option StatesLine → Bool
      is_some_line None = false
      is_some_line (Some s) = true
  no_fault_at None read (Some s) says f h = no_first s says read.1 s f refl h
  no_fault_at (Some b) read (Some s) says f h = no_next s says b read s f refl h

no_fault : (folds : List ℕ) (renames : List Rename) (lines : List (List ℕ)) (c : Checkpoint) (n : ℕ) (f : StatesFault) → Spells folds renames lines c → IsFirstFault folds renames lines n f → ⊥
no_fault folds renames lines c n f is fault =
    no_fault_at folds renames fault.front fault.line fault.rest lines fault.splits c is fault.so_far fault.read (line_of fault.line) refl f fault.has

-- nor does it say nothing
nothing_said : (folds : List ℕ) (renames : List Rename) (lines : List (List ℕ)) (c : Checkpoint) (n : ℕ) (f : StatesFault) → Spells folds renames lines c → SaysNothing folds renames lines n f → ⊥
nothing_said folds renames lines c n f is none = let same : sayings c.epoch c.last is.written ≡ [] = sym is.said ∙ none.read.1 in cc

pub text_no_fault : (folds : List ℕ) (renames : List Rename) (lines : List (List ℕ)) (c : Checkpoint) (n : ℕ) (f : StatesFault) → Spells folds renames lines c
    → IsFirstFault folds renames lines n f ⊎ SaysNothing folds renames lines n f → ⊥
text_no_fault folds renames lines c n f is (inl fault) = no_fault folds renames lines c n f is fault
text_no_fault folds renames lines c n f is (inr none) = nothing_said folds renames lines c n f is none
