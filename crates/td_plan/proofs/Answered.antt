-- What the first pass computes is what the definitions say.
use Rattle.std.proofs.Common.{◌≡◌, ℕ, suc, ◌+◌, ◌⊎◌, Bool, true, false, List, [], ◌∷◌, ◌++◌, length, refl, sym, ap, ◌∙◌, cond, arith, subst, inl, inr}
use Rattle.std.specs.Prelude.{Option, Some, None, is_none, option_map, Result, Ok, Err, flat_map}
use Rattle.std.specs.List.{list_all}
use Rattle.std.proofs.lemmas.List.{append-nil, append_assoc, length_push}
use Rattle.std.proofs.lemmas.List.Elements.{filter_map-append}
use Rattle.std.proofs.lemmas.Grind.{flat_map-append}
use Rattle.td_plan.specs.declared.error.PlanError.{PlanError}
use Rattle.td_plan.specs.declared.reader.Feedback.{Feedback}
use Rattle.td_plan.specs.Text.{text_lines, words, is_passed_over}
use Rattle.td_plan.specs.Lines.{Line, has_form}
use Rattle.td_plan.specs.Blocks.{no_scope, scope_after, scope_of}
use Rattle.td_plan.specs.Faults.{Fault, fault_of, is_faultless}
use Rattle.td_plan.specs.Texts.{Spells, IsReadAs, IsFormless, AreReadAs, plan_lines, numbered, IsFirstFault, IsReadWhole}
use Rattle.td_plan.specs.Steps.Words.{line_of, reading_of}
use Rattle.td_plan.specs.Steps.Reading.{Draft, feedback_of, with_reading, line_or_fault, error_of, lines_from, answer_then}
use Rattle.td_plan.proofs.Readings.{both, line_sound, line_again}
use Rattle.td_plan.proofs.Spelling.{apart}
use Rattle.td_plan.proofs.Growth.{scope_push, faultless_push}

-- ONE LINE
pub reading_sound : (text : List ℕ) (r : Option Line) → reading_of text ≡ Some r → IsReadAs text r
reading_sound text r e = by (is_passed_over text) refl e
  where
    here : (o : Option Line) → line_of (words text) ≡ o → option_map (λ l. Some l) o ≡ Some r → IsReadAs text r
    here None at e = absurd (cc)
    here (Some l) at e =
        let read = line_sound (words text) l at in
        let same : Some l ≡ r = cc in
        subst (IsReadAs text) same (read.written, read.form)

    by : (b : Bool) → is_passed_over text ≡ b → cond b (Some None) (option_map (λ l. Some l) (line_of (words text))) ≡ Some r → IsReadAs text r
    by true p e = let same : None ≡ r = cc in subst (IsReadAs text) same p
    by false p e = here (line_of (words text)) refl e

spelled_again : (text : List ℕ) (l : Line) → Spells text l → line_of (words text) ≡ Some l
spelled_again text l s = ap line_of s.0 ∙ line_again l s.1

pub reading_none : (text : List ℕ) → reading_of text ≡ None → IsFormless text
reading_none text e = by (is_passed_over text) refl e
  where
    here : (o : Option Line) → line_of (words text) ≡ o → option_map (λ l. Some l) o ≡ None → (l : Line) → Spells text l → ⊥
    here None at e l s = let again = spelled_again text l s in cc
    here (Some k) at e l s = cc

    by : (b : Bool) → is_passed_over text ≡ b → cond b (Some None) (option_map (λ l. Some l) (line_of (words text))) ≡ None → IsFormless text
    by true p e = absurd (cc)
    by false p e = (p, here (line_of (words text)) refl e)

spelled : (text : List ℕ) (l : Line) → Spells text l → reading_of text ≡ Some (Some l)
spelled text l s = by (is_passed_over text) refl
  where
    by : (b : Bool) → is_passed_over text ≡ b → cond b (Some None) (option_map (λ l. Some l) (line_of (words text))) ≡ Some (Some l)
    by true p = absurd (apart text l p s.0 s.1)
    by false p = ap (option_map (λ l. Some l)) (spelled_again text l s)

pub reading_again : (text : List ℕ) (r : Option Line) → IsReadAs text r → reading_of text ≡ Some r
reading_again text (Some l) s = spelled text l s
reading_again text None p = rw p refl

pub formless_again : (text : List ℕ) → IsFormless text → reading_of text ≡ None
formless_again text f = by (reading_of text) refl
  where
    by : (o : Option (Option Line)) → reading_of text ≡ o → reading_of text ≡ None
    by None at = at
    by (Some None) at = absurd (let p : is_passed_over text ≡ true = reading_sound text None at in let q = f.0 in cc)
    by (Some (Some l)) at = absurd (f.1 l (reading_sound text (Some l) at))

-- THE DRAFT OF WHAT WAS READ
abbrev pub feedbacks_of : List (ℕ × Line) → List Feedback
feedbacks_of ls = flat_map (λ l. feedback_of l.0 l.1) ls

abbrev pub draft_of : List (Option Line) → Draft
draft_of rs = record { lines = plan_lines rs; feedbacks = feedbacks_of (numbered 1 rs) }

lines_push : (rs : List (Option Line)) (r : Option Line) → plan_lines (rs ++ r ∷ []) ≡ plan_lines rs ++ plan_lines (r ∷ [])
lines_push rs r = filter_map-append (λ o. o) rs (r ∷ [])

numbered_push : (n : ℕ) (rs : List (Option Line)) (r : Option Line) → numbered n (rs ++ r ∷ []) ≡ numbered n rs ++ numbered (n + length rs) (r ∷ [])
numbered_push n [] r = ap (λ k. numbered k (r ∷ [])) (let z : n ≡ n + 0 = omega arith in z)
numbered_push n (None ∷ rs) r = numbered_push (n + 1) rs r ∙ ap (λ k. numbered (n + 1) rs ++ numbered k (r ∷ [])) (let z : n + 1 + length rs ≡ n + length (None ∷ rs) = omega arith in z)
numbered_push n (Some l ∷ rs) r =
    ap (λ ls. (n, l) ∷ ls) (numbered_push (n + 1) rs r ∙ ap (λ k. numbered (n + 1) rs ++ numbered k (r ∷ [])) (let z : n + 1 + length rs ≡ n + length (Some l ∷ rs) = omega arith in z))

draft_passed : (rs : List (Option Line)) → draft_of (rs ++ None ∷ []) ≡ draft_of rs
draft_passed rs = λ i. record {
  lines = (lines_push rs None ∙ append-nil (plan_lines rs)) i;
  feedbacks = feedbacks_of ((numbered_push 1 rs None ∙ append-nil (numbered 1 rs)) i);
}

draft_taken : (rs : List (Option Line)) (l : Line) (n : ℕ) → n ≡ length rs
    → draft_of (rs ++ Some l ∷ []) ≡ record { lines = (draft_of rs).lines ++ l ∷ []; feedbacks = (draft_of rs).feedbacks ++ feedback_of (n + 1) l }
draft_taken rs l n e =
    let number : 1 + length rs ≡ n + 1 = omega (arith, e) in
    λ i. record {
      lines = lines_push rs (Some l) i;
      feedbacks = (ap feedbacks_of (numbered_push 1 rs (Some l)) ∙ flat_map-append (λ (p : ℕ × Line). feedback_of p.0 p.1) (numbered 1 rs) ((1 + length rs, l) ∷ [])
          ∙ ap (λ fs. (draft_of rs).feedbacks ++ fs) (append-nil (feedback_of (1 + length rs) l) ∙ ap (λ k. feedback_of k l) number)) i;
    }

-- LINES, FROM THE FRONT
-- what the lines that were read so far tell
abbrev pub Outcome : List ℕ → Result Draft PlanError → Type 0
Outcome text (Ok draft) = (rs : List (Option Line)) × IsReadWhole text rs × (draft ≡ draft_of rs)
Outcome text (Err e) = (fault : Fault) × (n : ℕ) × (e ≡ error_of fault n) × IsFirstFault text fault n

read_push : (front : List (List ℕ)) (rs : List (Option Line)) (text : List ℕ) (r : Option Line) → AreReadAs front rs → IsReadAs text r → AreReadAs (front ++ text ∷ []) (rs ++ r ∷ [])
read_push [] [] text r a here = (here, tt)
read_push [] (q ∷ rs) text r a here = absurd a
read_push (f ∷ front) [] text r a here = absurd a
read_push (f ∷ front) (q ∷ rs) text r a here = (a.0, read_push front rs text r a.1 here)

read_length : (front : List (List ℕ)) (rs : List (Option Line)) → AreReadAs front rs → length front ≡ length rs
read_length [] [] a = refl
read_length [] (q ∷ rs) a = absurd a
read_length (f ∷ front) [] a = absurd a
read_length (f ∷ front) (q ∷ rs) a = ap suc (read_length front rs a.1)

-- what was read before the lines that are left
pub record IsFront (text : List ℕ) (draft : Draft) (n : ℕ) (texts : List (List ℕ)) : Type 0 where
  pub front : List (List ℕ)
  pub readings : List (Option Line)
  pub splits : text_lines text ≡ front ++ texts
  pub read : AreReadAs front readings
  pub draft_is : draft ≡ draft_of readings
  pub number_is : n ≡ length front
  pub faultless : is_faultless no_scope (plan_lines readings) ≡ true

front_passed : (text : List ℕ) (draft : Draft) (n : ℕ) (t : List ℕ) (texts : List (List ℕ)) → IsFront text draft n (t ∷ texts) → IsReadAs t None → IsFront text draft (n + 1) texts
front_passed text draft n t texts f here = record {
  front = f.front ++ t ∷ [];
  readings = f.readings ++ None ∷ [];
  splits = f.splits ∙ sym (append_assoc f.front (t ∷ []) texts);
  read = read_push f.front f.readings t None f.read here;
  draft_is = f.draft_is ∙ sym (draft_passed f.readings);
  number_is = omega (arith, f.number_is, length_push f.front t);
  faultless = ap (is_faultless no_scope) (lines_push f.readings None ∙ append-nil (plan_lines f.readings)) ∙ f.faultless;
}

front_taken : (text : List ℕ) (draft : Draft) (n : ℕ) (t : List ℕ) (texts : List (List ℕ)) (line : Line) → IsFront text draft n (t ∷ texts) → IsReadAs t (Some line) → fault_of (scope_of draft.lines) line ≡ None
    → IsFront text (record { lines = draft.lines ++ line ∷ []; feedbacks = draft.feedbacks ++ feedback_of (n + 1) line }) (n + 1) texts
front_taken text draft n t texts line f here none = record {
  front = f.front ++ t ∷ [];
  readings = f.readings ++ Some line ∷ [];
  splits = f.splits ∙ sym (append_assoc f.front (t ∷ []) texts);
  read = read_push f.front f.readings t (Some line) f.read here;
  draft_is = ap (λ (d : Draft). record { lines = d.lines ++ line ∷ []; feedbacks = d.feedbacks ++ feedback_of (n + 1) line }) f.draft_is ∙ sym (draft_taken f.readings line n (f.number_is ∙ read_length f.front f.readings f.read));
  number_is = omega (arith, f.number_is, length_push f.front t);
  faultless = ap (is_faultless no_scope) (lines_push f.readings (Some line)) ∙ faultless_push (plan_lines f.readings) line f.faultless (ap (λ (d : Draft). fault_of (scope_of d.lines) line) (sym f.draft_is) ∙ none);
}

first_fault : (text : List ℕ) (draft : Draft) (n : ℕ) (t : List ℕ) (texts : List (List ℕ)) (fault : Fault) → IsFront text draft n (t ∷ texts)
    → (IsFormless t × (fault ≡ Fault.syntax)) ⊎ ((l : Line) × Spells t l × (fault_of (scope_of draft.lines) l ≡ Some fault)) → IsFirstFault text fault (n + 1)
first_fault text draft n t texts fault f has = record {
  front = f.front;
  line = t;
  rest = texts;
  splits = f.splits;
  readings = f.readings;
  read = f.read;
  faultless = f.faultless;
  is_number = omega (arith, f.number_is);
  has = subst (λ (d : Draft). (IsFormless t × (fault ≡ Fault.syntax)) ⊎ ((l : Line) × Spells t l × (fault_of (scope_of d.lines) l ≡ Some fault))) f.draft_is has;
}

refused : (text : List ℕ) (r : Result Draft PlanError) (fault : Fault) (n : ℕ) → Err (error_of fault n) ≡ r → IsFirstFault text fault n → Outcome text r
refused text r fault n e here = subst (Outcome text) e (fault, n, refl, here)

pub sound : (texts : List (List ℕ)) (text : List ℕ) (draft : Draft) (n : ℕ) → IsFront text draft n texts → (r : Result Draft PlanError) → lines_from draft n texts ≡ r → Outcome text r
sound [] text draft n f r e =
    let read : AreReadAs (text_lines text) f.readings = subst (λ ts. AreReadAs ts f.readings) (sym (f.splits ∙ append-nil f.front)) f.read in
    subst (Outcome text) e (f.readings, record { read = read; faultless = f.faultless }, f.draft_is)
sound (t ∷ texts) text draft n f r e = by (reading_of t) refl e (λ d m g q. sound texts text d m g r q)
  where
    line : (l : Line) (o : Option Fault) → Spells t l → fault_of (scope_of draft.lines) l ≡ o → answer_then (λ longer. lines_from longer (n + 1) texts) (line_or_fault draft (n + 1) l o) ≡ r
        → ((d : Draft) (m : ℕ) → IsFront text d m texts → lines_from d m texts ≡ r → Outcome text r) → Outcome text r
    line l None s at e rest = rest (record { lines = draft.lines ++ l ∷ []; feedbacks = draft.feedbacks ++ feedback_of (n + 1) l }) (n + 1) (front_taken text draft n t texts l f s at) e
    line l (Some fault) s at e rest = refused text r fault (n + 1) e (first_fault text draft n t texts fault f (inr (l, s, at)))

    by : (o : Option (Option Line)) → reading_of t ≡ o → answer_then (λ longer. lines_from longer (n + 1) texts) (with_reading draft (n + 1) o) ≡ r
        → ((d : Draft) (m : ℕ) → IsFront text d m texts → lines_from d m texts ≡ r → Outcome text r) → Outcome text r
    by None at e rest = refused text r Fault.syntax (n + 1) e (first_fault text draft n t texts Fault.syntax f (inl (reading_none t at, refl)))
    by (Some None) at e rest = rest draft (n + 1) (front_passed text draft n t texts f (reading_sound t None at)) e
    by (Some (Some l)) at e rest = line l (fault_of (scope_of draft.lines) l) (reading_sound t (Some l) at) refl e rest

-- AND BACK
none_when : (o : Option Fault) → is_none o ≡ true → o ≡ None
none_when None e = refl
none_when (Some f) e = cc

-- a draft with more of what was read, after n lines
abbrev pub further : Draft → ℕ → List (Option Line) → Draft
further draft n rs = record { lines = draft.lines ++ plan_lines rs; feedbacks = draft.feedbacks ++ feedbacks_of (numbered (n + 1) rs) }

pub complete : (texts : List (List ℕ)) (rs : List (Option Line)) (draft : Draft) (n : ℕ) (more : List (List ℕ)) → AreReadAs texts rs → is_faultless (scope_of draft.lines) (plan_lines rs) ≡ true
    → lines_from draft n (texts ++ more) ≡ lines_from (further draft n rs) (n + length texts) more
complete [] [] draft n more a f =
    λ i. lines_from (record { lines = sym (append-nil draft.lines) i; feedbacks = sym (append-nil draft.feedbacks) i }) ((let z : n ≡ n + 0 = omega arith in z) i) more
complete [] (r ∷ rs) draft n more a f = absurd a
complete (t ∷ texts) [] draft n more a f = absurd a
complete (t ∷ texts) (None ∷ rs) draft n more a f =
    ap (λ o. answer_then (λ longer. lines_from longer (n + 1) (texts ++ more)) (with_reading draft (n + 1) o)) (reading_again t None a.0)
    ∙ complete texts rs draft (n + 1) more a.1 f ∙ (λ i. lines_from (further draft (n + 1) rs) ((let z : n + 1 + length texts ≡ n + length (t ∷ texts) = omega arith in z) i) more)
complete (t ∷ texts) (Some l ∷ rs) draft n more a f =
    let parts = both (is_none (fault_of (scope_of draft.lines) l)) (is_faultless (scope_after (scope_of draft.lines) l) (plan_lines rs)) f in
    let none : fault_of (scope_of draft.lines) l ≡ None = none_when (fault_of (scope_of draft.lines) l) parts.0 in
    let later : is_faultless (scope_of (draft.lines ++ l ∷ [])) (plan_lines rs) ≡ true = ap (λ s. is_faultless s (plan_lines rs)) (scope_push draft.lines l) ∙ parts.1 in
    let next : Draft = record { lines = draft.lines ++ l ∷ []; feedbacks = draft.feedbacks ++ feedback_of (n + 1) l } in
    ap (λ o. answer_then (λ longer. lines_from longer (n + 1) (texts ++ more)) (with_reading draft (n + 1) o)) (reading_again t (Some l) a.0)
    ∙ ap (λ o. answer_then (λ longer. lines_from longer (n + 1) (texts ++ more)) (line_or_fault draft (n + 1) l o)) none
    ∙ complete texts rs next (n + 1) more a.1 later
    ∙ (λ i. lines_from (record { lines = append_assoc draft.lines (l ∷ []) (plan_lines rs) i; feedbacks = append_assoc draft.feedbacks (feedback_of (n + 1) l) (feedbacks_of (numbered (n + 1 + 1) rs)) i })
    ((let z : n + 1 + length texts ≡ n + length (t ∷ texts) = omega arith in z) i) more)

pub all_formed : (texts : List (List ℕ)) (rs : List (Option Line)) → AreReadAs texts rs → list_all has_form (plan_lines rs) ≡ true
all_formed [] [] a = refl
all_formed [] (r ∷ rs) a = absurd a
all_formed (t ∷ texts) [] a = absurd a
all_formed (t ∷ texts) (None ∷ rs) a = all_formed texts rs a.1
all_formed (t ∷ texts) (Some l ∷ rs) a = rw (a.0.1, all_formed texts rs a.1) refl
