-- Each text is answered in one way: by the plan that it spells, or by its first fault.
use Rattle.std.proofs.Common.{◌≡◌, ℕ, ◌+◌, ◌⊎◌, Bool, true, false, ◌&&◌, ◌||◌, List, [], ◌∷◌, ◌++◌, length, refl, sym, ap, ◌∙◌, cond, arith, subst, inl, inr}
use Rattle.std.specs.Prelude.{Option, Some, None, option_map, find, Result, Ok, Err, IfOk, IfErr}
use Rattle.std.specs.List.{list_any}
use Rattle.std.proofs.lemmas.List.{append-nil}
use Rattle.td_plan.specs.declared.error.PlanError.{PlanError}
use Rattle.td_plan.specs.declared.error.PlanError.TheVariants as errors
use Rattle.td_plan.specs.declared.reader.Feedback.{Feedback}
use Rattle.td_plan.specs.Text.{text_lines}
use Rattle.td_plan.specs.Lines.{Line}
use Rattle.td_plan.specs.Lines.Line.{vertex, loop, end}
use Rattle.td_plan.specs.Blocks.{scope_of, vertices}
use Rattle.td_plan.specs.Faults.{Fault, is_feedback, is_stray, is_nil, has_ends, fault_of, IsPlan}
use Rattle.td_plan.specs.Texts.{plan_lines, numbered, PlanText, PlanFault, IsFirstFault, IsReadWhole, EndsInLoop, IsFirstStray, LacksEnds, first_stray, Spells, IsFormless}
use Rattle.td_plan.specs.Steps.Reading.{Draft, no_draft, is_stray_at, lines_from, answer_then, if_closed, stray_line, plan_unless, second_pass, answer_of, error_of, with_reading, line_or_fault}
use Rattle.td_plan.proofs.Answered.{Outcome, IsFront, draft_of, feedbacks_of, further, sound, complete, all_formed, reading_again, formless_again}
use Rattle.td_plan.proofs.Trees.{neither}

-- THE FIRST STRAY FEEDBACK
strays : (plan : List Line) (ls : List (ℕ × Line))
    → option_map (λ (f : Feedback). f.line) (find (λ f. is_stray_at (vertices plan) f.number) (feedbacks_of ls)) ≡ option_map (λ (l : ℕ × Line). l.0) (find (λ l. is_stray plan l.1) ls)
strays plan [] = refl
strays plan ((n, loop b) ∷ ls) = strays plan ls
strays plan ((n, end) ∷ ls) = strays plan ls
strays plan ((n, vertex v) ∷ ls) = by (is_feedback v.kind) (is_stray_at (vertices plan) v.number) refl (strays plan ls)
  where
    here : Feedback
    here = record { line = n; number = v.number }

    by : (feedback stray : Bool) → is_stray_at (vertices plan) v.number ≡ stray
        → option_map (λ (f : Feedback). f.line) (find (λ f. is_stray_at (vertices plan) f.number) (feedbacks_of ls)) ≡ option_map (λ (l : ℕ × Line). l.0) (find (λ l. is_stray plan l.1) ls)
        → option_map (λ (f : Feedback). f.line) (find (λ f. is_stray_at (vertices plan) f.number) (cond feedback (here ∷ []) [] ++ feedbacks_of ls))
        ≡ option_map (λ (l : ℕ × Line). l.0) (cond (feedback && stray) (Some (n, vertex v)) (find (λ l. is_stray plan l.1) ls))
    by false stray t rest = rest
    by true true t rest = ap (λ b. option_map (λ (f : Feedback). f.line) (cond b (Some here) (find (λ f. is_stray_at (vertices plan) f.number) (feedbacks_of ls)))) t
    by true false t rest = ap (λ b. option_map (λ (f : Feedback). f.line) (cond b (Some here) (find (λ f. is_stray_at (vertices plan) f.number) (feedbacks_of ls)))) t ∙ rest

stray_same : (rs : List (Option Line)) → stray_line (draft_of rs) ≡ first_stray rs
stray_same rs = strays (plan_lines rs) (numbered 1 rs)

-- none is found where no line is stray, and the other way round
none_found : (p : Line → Bool) (n : ℕ) (rs : List (Option Line)) → list_any p (plan_lines rs) ≡ false → option_map (λ (l : ℕ × Line). l.0) (find (λ l. p l.1) (numbered n rs)) ≡ None
none_found p n [] h = refl
none_found p n (None ∷ rs) h = none_found p (n + 1) rs h
none_found p n (Some l ∷ rs) h =
    let parts = neither (p l) (list_any p (plan_lines rs)) h in
    ap (λ b. option_map (λ (l : ℕ × Line). l.0) (cond b (Some (n, l)) (find (λ l. p l.1) (numbered (n + 1) rs)))) parts.0 ∙ none_found p (n + 1) rs parts.1

none_is : (p : Line → Bool) (n : ℕ) (rs : List (Option Line)) → option_map (λ (l : ℕ × Line). l.0) (find (λ l. p l.1) (numbered n rs)) ≡ None → list_any p (plan_lines rs) ≡ false
none_is p n [] h = refl
none_is p n (None ∷ rs) h = none_is p (n + 1) rs h
none_is p n (Some l ∷ rs) h = by (p l) refl h (none_is p (n + 1) rs)
  where
    by : (b : Bool) → p l ≡ b → option_map (λ (l : ℕ × Line). l.0) (cond b (Some (n, l)) (find (λ l. p l.1) (numbered (n + 1) rs))) ≡ None
        → (option_map (λ (l : ℕ × Line). l.0) (find (λ l. p l.1) (numbered (n + 1) rs)) ≡ None → list_any p (plan_lines rs) ≡ false) → (p l || list_any p (plan_lines rs)) ≡ false
    by true t h rest = absurd (cc)
    by false t h rest = ap (λ b. b || list_any p (plan_lines rs)) t ∙ rest h

-- THE ANSWER IS WHAT THE DEFINITIONS SAY
start : (text : List ℕ) → IsFront text no_draft 0 (text_lines text)
start text = record { front = []; readings = []; splits = refl; read = tt; draft_is = refl; number_is = refl; faultless = refl }

abbrev Means : List ℕ → Result (List Line) PlanError → Type 0
Means text (Ok plan) = PlanText text plan
Means text (Err e) = PlanFault text e

fault_means : (text : List ℕ) (fault : Fault) (n : ℕ) → IsFirstFault text fault n → PlanFault text (error_of fault n)
fault_means text Fault.syntax n f = inl f
fault_means text Fault.number n f = f
fault_means text Fault.order n f = f
fault_means text Fault.nest n f = f
fault_means text Fault.bound n f = f
fault_means text Fault.fold_in_loop n f = f
fault_means text Fault.again n f = inl f
fault_means text Fault.too_many n f = f

-- what is read whole, with no loop left open
second_means : (text : List ℕ) (rs : List (Option Line)) → IsReadWhole text rs → is_nil (scope_of (plan_lines rs)).loops ≡ true → Means text (second_pass (draft_of rs))
second_means text rs w closed = by (stray_line (draft_of rs)) refl
  where
    unless : first_stray rs ≡ None → (b : Bool) → has_ends (vertices (plan_lines rs)) ≡ b → Means text (cond b (Ok (plan_lines rs)) (Err errors.NoInputOrOutput))
    unless none true ends = record {
      readings = rs;
      read = w.read;
      plan_is = refl;
      lawful = record {
        formed = all_formed (text_lines text) rs w.read;
        faultless = w.faultless;
        closed = closed;
        none_stray = none_is (is_stray (plan_lines rs)) 1 rs none;
        ends = ends;
      };
    }
    unless none false ends = record { readings = rs; whole = w; closed = closed; none_stray = none_is (is_stray (plan_lines rs)) 1 rs none; lacks = ends }

    by : (o : Option ℕ) → stray_line (draft_of rs) ≡ o → Means text (plan_unless (draft_of rs) o)
    by (Some n) at = inr (record { readings = rs; whole = w; closed = closed; first = sym (stray_same rs) ∙ at })
    by None at = unless (sym (stray_same rs) ∙ at) (has_ends (vertices (plan_lines rs))) refl

-- what is read whole
first_means : (text : List ℕ) (rs : List (Option Line)) → IsReadWhole text rs → Means text (answer_then second_pass (if_closed (length (text_lines text) + 1) (draft_of rs)))
first_means text rs w = by (is_nil (scope_of (plan_lines rs)).loops) refl
  where
    by : (b : Bool) → is_nil (scope_of (plan_lines rs)).loops ≡ b → Means text (answer_then second_pass (cond b (Ok (draft_of rs)) (Err (errors.Syntax (length (text_lines text) + 1)))))
    by true t = second_means text rs w t
    by false t = inr (record { readings = rs; whole = w; opened = t; is_number = refl })

pub means : (text : List ℕ) → Means text (answer_of text)
means text = by (lines_from no_draft 0 (text_lines text)) refl
  where
    here : (w : Result Draft PlanError) → Outcome text w → Means text (answer_then second_pass (answer_then (if_closed (length (text_lines text) + 1)) w))
    here (Ok draft) o = subst (λ d. Means text (answer_then second_pass (if_closed (length (text_lines text) + 1) d))) (sym o.2) (first_means text o.0 o.1)
    here (Err e) o = subst (PlanFault text) (sym o.2) (fault_means text o.0 o.1 o.3)

    by : (w : Result Draft PlanError) → lines_from no_draft 0 (text_lines text) ≡ w → Means text (answer_then second_pass (answer_then (if_closed (length (text_lines text) + 1)) w))
    by w at = here w (sound (text_lines text) text no_draft 0 (start text) w at)

-- AND ONLY THAT
read_whole : (text : List ℕ) (rs : List (Option Line)) → IsReadWhole text rs → lines_from no_draft 0 (text_lines text) ≡ Ok (draft_of rs)
read_whole text rs w = ap (lines_from no_draft 0) (sym (append-nil (text_lines text))) ∙ complete (text_lines text) rs no_draft 0 [] w.read w.faultless

closed_when : (n : ℕ) (draft : Draft) (b : Bool) → is_nil (scope_of draft.lines).loops ≡ b → if_closed n draft ≡ cond b (Ok draft) (Err (errors.Syntax n))
closed_when n draft b h = ap (λ b. cond b (Ok draft) (Err (errors.Syntax n))) h

-- a text that is read whole, with no loop left open, is answered by the second pass
whole_answered : (text : List ℕ) (rs : List (Option Line)) → IsReadWhole text rs → is_nil (scope_of (plan_lines rs)).loops ≡ true → answer_of text ≡ second_pass (draft_of rs)
whole_answered text rs w closed =
    ap (λ r. answer_then second_pass (answer_then (if_closed (length (text_lines text) + 1)) r)) (read_whole text rs w) ∙ ap (answer_then second_pass) (closed_when (length (text_lines text) + 1) (draft_of rs) true closed)

ends_when : (draft : Draft) (b : Bool) → has_ends (vertices draft.lines) ≡ b → plan_unless draft None ≡ cond b (Ok draft.lines) (Err errors.NoInputOrOutput)
ends_when draft b h = ap (λ b. cond b (Ok draft.lines) (Err errors.NoInputOrOutput)) h

not_stray : (rs : List (Option Line)) → list_any (is_stray (plan_lines rs)) (plan_lines rs) ≡ false → stray_line (draft_of rs) ≡ None
not_stray rs h = stray_same rs ∙ none_found (is_stray (plan_lines rs)) 1 rs h

pub plan_answered : (text : List ℕ) (plan : List Line) → PlanText text plan → answer_of text ≡ Ok plan
plan_answered text plan p =
    let lawful : IsPlan (plan_lines p.readings) = subst IsPlan p.plan_is p.lawful in
    whole_answered text p.readings (record { read = p.read; faultless = lawful.faultless }) lawful.closed
    ∙ ap (plan_unless (draft_of p.readings)) (not_stray p.readings lawful.none_stray)
    ∙ ends_when (draft_of p.readings) true lawful.ends
    ∙ ap Ok (sym p.plan_is)

first_answered : (text : List ℕ) (fault : Fault) (n : ℕ) → IsFirstFault text fault n → answer_of text ≡ Err (error_of fault n)
first_answered text fault n f = ap (λ r. answer_then second_pass (answer_then (if_closed (length (text_lines text) + 1)) r)) refused
  where
    number : 0 + length f.front + 1 ≡ n
    number = omega (arith, f.is_number)

    by : (IsFormless f.line × (fault ≡ Fault.syntax)) ⊎ ((l : Line) × Spells f.line l × (fault_of (scope_of (plan_lines f.readings)) l ≡ Some fault))
        → lines_from (further no_draft 0 f.readings) (0 + length f.front) (f.line ∷ f.rest) ≡ Err (error_of fault n)
    by (inl none) =
        ap (λ o. answer_then (λ longer. lines_from longer (0 + length f.front + 1) f.rest) (with_reading (further no_draft 0 f.readings) (0 + length f.front + 1) o)) (formless_again f.line none.0)
        ∙ (λ i. Err (error_of (sym none.1 i) (number i)))
    by (inr some) =
        ap (λ o. answer_then (λ longer. lines_from longer (0 + length f.front + 1) f.rest) (with_reading (further no_draft 0 f.readings) (0 + length f.front + 1) o)) (reading_again f.line (Some some.0) some.1)
        ∙ ap (λ o. answer_then (λ longer. lines_from longer (0 + length f.front + 1) f.rest) (line_or_fault (further no_draft 0 f.readings) (0 + length f.front + 1) some.0 o)) some.2
        ∙ (λ i. Err (error_of fault (number i)))

    refused : lines_from no_draft 0 (text_lines text) ≡ Err (error_of fault n)
    refused = ap (lines_from no_draft 0) f.splits ∙ complete f.front f.readings no_draft 0 (f.line ∷ f.rest) f.read f.faultless ∙ by f.has

open_answered : (text : List ℕ) (n : ℕ) → EndsInLoop text n → answer_of text ≡ Err (errors.Syntax n)
open_answered text n f =
    ap (λ r. answer_then second_pass (answer_then (if_closed (length (text_lines text) + 1)) r)) (read_whole text f.readings f.whole)
    ∙ ap (answer_then second_pass) (closed_when (length (text_lines text) + 1) (draft_of f.readings) false f.opened) ∙ ap (λ m. Err (errors.Syntax m)) (sym f.is_number)

stray_answered : (text : List ℕ) (n : ℕ) → IsFirstStray text n → answer_of text ≡ Err (errors.Again n)
stray_answered text n f = whole_answered text f.readings f.whole f.closed ∙ ap (plan_unless (draft_of f.readings)) (stray_same f.readings ∙ f.first)

lacking_answered : (text : List ℕ) → LacksEnds text → answer_of text ≡ Err errors.NoInputOrOutput
lacking_answered text f =
    whole_answered text f.readings f.whole f.closed ∙ ap (plan_unless (draft_of f.readings)) (not_stray f.readings f.none_stray) ∙ ends_when (draft_of f.readings) false f.lacks

pub fault_answered : (text : List ℕ) (e : PlanError) → PlanFault text e → answer_of text ≡ Err e
fault_answered text (errors.Syntax n) (inl f) = first_answered text Fault.syntax n f
fault_answered text (errors.Syntax n) (inr f) = open_answered text n f
fault_answered text (errors.Number n) f = first_answered text Fault.number n f
fault_answered text (errors.Order n) f = first_answered text Fault.order n f
fault_answered text (errors.Nest n) f = first_answered text Fault.nest n f
fault_answered text (errors.Bound n) f = first_answered text Fault.bound n f
fault_answered text (errors.FoldInLoop n) f = first_answered text Fault.fold_in_loop n f
fault_answered text (errors.Again n) (inl f) = first_answered text Fault.again n f
fault_answered text (errors.Again n) (inr f) = stray_answered text n f
fault_answered text (errors.TooMany n) f = first_answered text Fault.too_many n f
fault_answered text errors.NoInputOrOutput f = lacking_answered text f
fault_answered text errors.Memory f = absurd f

-- THE LAWS
pub one_plan : (text : List ℕ) (p q : List Line) → PlanText text p → PlanText text q → p ≡ q
one_plan text p q a b = let same : Ok p ≡ Ok q = sym (plan_answered text p a) ∙ plan_answered text q b in cc

pub one_fault : (text : List ℕ) (d e : PlanError) → PlanFault text d → PlanFault text e → d ≡ e
one_fault text d e a b = let same : Err d ≡ Err e = sym (fault_answered text d a) ∙ fault_answered text e b in cc

pub not_both : (text : List ℕ) (p : List Line) (e : PlanError) → PlanText text p → PlanFault text e → ⊥
not_both text p e a b = let same : Ok p ≡ Err e = sym (plan_answered text p a) ∙ fault_answered text e b in cc

pub either : (text : List ℕ) → ((p : List Line) × PlanText text p) ⊎ ((e : PlanError) × PlanFault text e)
either text = by (answer_of text) (means text)
  where
    by : (r : Result (List Line) PlanError) → Means text r → ((p : List Line) × PlanText text p) ⊎ ((e : PlanError) × PlanFault text e)
    by (Ok p) m = inl (p, m)
    by (Err e) m = inr (e, m)

-- WHAT THE READER HANDS OUT
pub read_ok : {X : Type 0} (text : List ℕ) (lines : X → List Line) (r : Result X PlanError) → IfOk r (λ x. answer_of text ≡ Ok (lines x)) → IfOk r (λ x. PlanText text (lines x))
read_ok text lines (Ok x) a = subst (Means text) a (means text)
read_ok text lines (Err e) a = tt

pub read_refused : {X : Type 0} (text : List ℕ) (r : Result X PlanError) → IfErr r (λ e. (e ≡ errors.Memory) ⊎ (answer_of text ≡ Err e)) → IfErr r (λ e. (e ≡ errors.Memory) ⊎ PlanFault text e)
read_refused text (Ok x) a = tt
read_refused text (Err e) (inl m) = inl m
read_refused text (Err e) (inr a) = inr (subst (Means text) a (means text))
