-- What is read of a text is what it spells, and the other way round.
use Rattle.std.specs.Prelude.{◌≡◌, ◌⊎◌, ℕ, ◌+◌, Bool, true, false, nat_lt, if◌then◌else◌, List, [], ◌∷◌, ◌++◌, length, Result, Ok, Err, IfOk, IfErr}
use Rattle.std.proofs.Common.{refl, ap, sym, ◌∙◌, arith, inl, inr}
use Rattle.std.proofs.lemmas.Bool.{ltb-false, le-ltb}
use Rattle.td_plan.specs.Text.{text_lines}
use Rattle.td_closures.specs.declared.token.Token.{Token}
use Rattle.td_closures.specs.declared.fault.Wrong.{Wrong}
use Rattle.td_closures.specs.declared.fault.Wrong.TheVariants as wrongs
use Rattle.td_closures.specs.declared.fault.Fault.{Fault}
use Rattle.td_closures.specs.Reading.{and_then, line_of}
use Rattle.td_closures.specs.Drafts.{Said, Draft, no_draft, closures_of, with_line, tokens_in, is_long, after_words, nodes_in, after_nodes}
use Rattle.td_closures.specs.Texts.{says_nothing, IsSaid, AreSaidBy, AreSaid, Adds, Add, ClosuresText, with_said, with_tokens, with_text, at_line, lines_then, lines_from, closures_then, answer_of, IsFirstFault}
use Rattle.td_closures.specs.Kept.{AnswersText}
use Rattle.td_closures.proofs.LineReading.{and_then_ok, then_ok, line_sound, line_complete}

-- THE TOKENS OF A LINE
said_by_line : (d : Draft) (ts : List Token) (f : Draft) (b : Bool) → nat_lt d.nodes (nodes_in ts) ≡ b
    → ◌≡◌ {A = Result Draft Wrong} (if b then Err wrongs.TooMany else and_then (line_of ts) (with_line (after_nodes d ts))) (Ok f) → IsSaid d ts f
said_by_line d ts f true t e = absurd (cc)
said_by_line d ts f false t e =
    let a = and_then_ok (line_of ts) (with_line (after_nodes d ts)) f e in
    record { line = a.0; spelled = line_sound ts a.0 a.1; few = ltb-false d.nodes (nodes_in ts) t; stands = a.2 }

said_by : (d : Draft) (ts : List Token) (f : Draft) (b : Bool) → ◌≡◌ {A = Result Draft Wrong} (if b then Ok d else with_said d ts) (Ok f) → AreSaidBy b d ts f
said_by d ts f true h = let same : f ≡ d = cc in same
said_by d ts f false h = said_by_line d ts f (nat_lt d.nodes (nodes_in ts)) refl h

said_sound : (d : Draft) (ts : List Token) (f : Draft) → with_tokens d ts ≡ Ok f → AreSaid d ts f
said_sound d ts f h = said_by d ts f (says_nothing ts) h

line_again : (d : Draft) (ts : List Token) (f : Draft) → IsSaid d ts f
    → ◌≡◌ {A = Result Draft Wrong} (if nat_lt d.nodes (nodes_in ts) then Err wrongs.TooMany else and_then (line_of ts) (with_line (after_nodes d ts))) (Ok f)
line_again d ts f h =
    let all : and_then (line_of ts) (with_line (after_nodes d ts)) ≡ Ok f = then_ok (line_of ts) (with_line (after_nodes d ts)) h.line (line_complete ts h.line h.spelled) ∙ h.stands in
    ap (λ (b : Bool). (let r : Result Draft Wrong = if b then Err wrongs.TooMany else and_then (line_of ts) (with_line (after_nodes d ts)) in r)) (le-ltb d.nodes (nodes_in ts) h.few) ∙ all

again_by : (d : Draft) (ts : List Token) (f : Draft) (b : Bool) → AreSaidBy b d ts f → ◌≡◌ {A = Result Draft Wrong} (if b then Ok d else with_said d ts) (Ok f)
again_by d ts f true h = let e : d ≡ f = sym h in (λ i. Ok (e i))
again_by d ts f false h = line_again d ts f h

said_complete : (d : Draft) (ts : List Token) (f : Draft) → AreSaid d ts f → with_tokens d ts ≡ Ok f
said_complete d ts f h = again_by d ts f (says_nothing ts) h

-- A LINE OF THE TEXT
adds_by : (d : Draft) (line : List ℕ) (f : Draft) (b : Bool) → is_long d line ≡ b
    → ◌≡◌ {A = Result Draft Wrong} (if b then Err wrongs.TooMany else with_tokens (after_words d line) (tokens_in d line)) (Ok f) → Adds d line f
adds_by d line f true t e = absurd (cc)
adds_by d line f false t e = record { short = t; said = said_sound (after_words d line) (tokens_in d line) f e }

pub adds_sound : (d : Draft) (line : List ℕ) (f : Draft) → with_text d line ≡ Ok f → Adds d line f
adds_sound d line f h = adds_by d line f (is_long d line) refl h

pub adds_complete : (d : Draft) (line : List ℕ) (f : Draft) → Adds d line f → with_text d line ≡ Ok f
adds_complete d line f a =
    ap (λ (b : Bool). (let r : Result Draft Wrong = if b then Err wrongs.TooMany else with_tokens (after_words d line) (tokens_in d line) in r)) a.short
    ∙ said_complete (after_words d line) (tokens_in d line) f a.said

-- THE LINES OF THE TEXT
lines_by : (d : Draft) (n : ℕ) (line : List ℕ) (lines : List (List ℕ)) (e : Draft) → ((f : Draft) → lines_from f (n + 1) lines ≡ Ok e → Add f lines e)
    → (r : Result Draft Wrong) → with_text d line ≡ r → lines_then (λ f. lines_from f (n + 1) lines) (at_line (n + 1) r) ≡ Ok e → Add d (line ∷ lines) e
lines_by d n line lines e ih (Ok f) t k = (f, adds_sound d line f t, ih f k)
lines_by d n line lines e ih (Err w) t k = absurd (cc)

pub lines_sound : (d : Draft) (n : ℕ) (lines : List (List ℕ)) (e : Draft) → lines_from d n lines ≡ Ok e → Add d lines e
lines_sound d n [] e h = let same : d ≡ e = cc in same
lines_sound d n (line ∷ lines) e h = lines_by d n line lines e (λ f k. lines_sound f (n + 1) lines e k) (with_text d line) refl h

pub lines_complete : (d : Draft) (n : ℕ) (lines : List (List ℕ)) (e : Draft) → Add d lines e → lines_from d n lines ≡ Ok e
lines_complete d n [] e h = λ i. Ok (h i)
lines_complete d n (line ∷ lines) e h =
    ap (λ (r : Result Draft Wrong). lines_then (λ f. lines_from f (n + 1) lines) (at_line (n + 1) r)) (adds_complete d line h.0 h.1) ∙ lines_complete h.0 (n + 1) lines e h.2

-- the first fault, after n lines
record FaultFrom (d : Draft) (n : ℕ) (lines : List (List ℕ)) (fault : Fault) : Type 0 where
  front : List (List ℕ)
  line : List ℕ
  rest : List (List ℕ)
  splits : lines ≡ front ++ line ∷ rest
  is_number : fault.line ≡ n + (length front + 1)
  before : Draft
  adds : Add d front before
  cause : with_text before line ≡ Err fault.wrong

fault_by : (d : Draft) (n : ℕ) (line : List ℕ) (lines : List (List ℕ)) (fault : Fault) → ((f : Draft) → lines_from f (n + 1) lines ≡ Err fault → FaultFrom f (n + 1) lines fault)
    → (r : Result Draft Wrong) → with_text d line ≡ r → lines_then (λ f. lines_from f (n + 1) lines) (at_line (n + 1) r) ≡ Err fault → FaultFrom d n (line ∷ lines) fault
fault_by d n line lines fault ih (Ok f) t k =
    let m : FaultFrom f (n + 1) lines fault = ih f k in
    record {
      front = line ∷ m.front;
      line = m.line;
      rest = m.rest;
      splits = ap (λ (x : List (List ℕ)). line ∷ x) m.splits;
      is_number = omega (arith, m.is_number);
      before = m.before;
      adds = (f, adds_sound d line f t, m.adds);
      cause = m.cause;
    }
fault_by d n line lines fault ih (Err w) t k =
    let same : ◌≡◌ {A = Fault} (record { line = n + 1; wrong = w }) fault = cc in
    let wrong_is : w ≡ fault.wrong = ap (λ (x : Fault). x.wrong) same in
    record {
      front = [];
      line = line;
      rest = lines;
      splits = refl;
      is_number = (let e : n + 1 ≡ fault.line = ap (λ (x : Fault). x.line) same in omega (arith, e));
      before = d;
      adds = refl;
      cause = cc;
    }

lines_fault : (d : Draft) (n : ℕ) (lines : List (List ℕ)) (fault : Fault) → lines_from d n lines ≡ Err fault → FaultFrom d n lines fault
lines_fault d n [] fault h = absurd (cc)
lines_fault d n (line ∷ lines) fault h = fault_by d n line lines fault (λ f k. lines_fault f (n + 1) lines fault k) (with_text d line) refl h

first_fault : (text : List ℕ) (fault : Fault) → lines_from no_draft 0 (text_lines text) ≡ Err fault → IsFirstFault text fault
first_fault text fault h =
    let m : FaultFrom no_draft 0 (text_lines text) fault = lines_fault no_draft 0 (text_lines text) fault h in
    record {
      front = m.front;
      line = m.line;
      rest = m.rest;
      splits = m.splits;
      is_number = omega (arith, m.is_number);
      before = m.before;
      lines = m.adds;
      adds_nothing = λ f a. (let ok : with_text m.before m.line ≡ Ok f = adds_complete m.before m.line f a in let no : with_text m.before m.line ≡ Err fault.wrong = m.cause in cc);
      cause = m.cause;
    }

-- THE TEXT
spelled : (text : List ℕ) (cs : List Said) (r : Result Draft Fault) → lines_from no_draft 0 (text_lines text) ≡ r → closures_then r ≡ Ok cs → ClosuresText text cs
spelled text cs (Ok d) t k = let same : cs ≡ closures_of d = cc in record { draft = d; lines = lines_sound no_draft 0 (text_lines text) d t; closures_are = same }
spelled text cs (Err e) t k = absurd (cc)

faulty : (text : List ℕ) (fault : Fault) (r : Result Draft Fault) → lines_from no_draft 0 (text_lines text) ≡ r → closures_then r ≡ Err fault → IsFirstFault text fault
faulty text fault (Ok d) t k = absurd (cc)
faulty text fault (Err e) t k = let same : e ≡ fault = cc in first_fault text fault (let all : lines_from no_draft 0 (text_lines text) ≡ Err fault = cc in all)

read_again : (text : List ℕ) (cs : List Said) → ClosuresText text cs → answer_of text ≡ Ok cs
read_again text cs t =
    let e : closures_of t.draft ≡ cs = sym t.closures_are in
    ap closures_then (lines_complete no_draft 0 (text_lines text) t.draft t.lines) ∙ (λ i. Ok (e i))

pub ok : {A : Type 0} (by : A → List Said) (text : List ℕ) (r : Result A Fault) → AnswersText by r (answer_of text) → IfOk r (λ x. ClosuresText text (by x))
ok by text (Ok x) h = spelled text (by x) (lines_from no_draft 0 (text_lines text)) refl h
ok by text (Err e) h = tt

pub refused : {A : Type 0} (by : A → List Said) (text : List ℕ) (r : Result A Fault) → AnswersText by r (answer_of text) → IfErr r (λ fault. (fault.wrong ≡ wrongs.Memory) ⊎ IsFirstFault text fault)
refused by text (Ok x) h = tt
refused by text (Err e) (inl m) = inl m
refused by text (Err e) (inr h) = inr (faulty text e (lines_from no_draft 0 (text_lines text)) refl h)

pub none : {A : Type 0} (by : A → List Said) (text : List ℕ) (r : Result A Fault) → AnswersText by r (answer_of text) → IfErr r (λ fault. (fault.wrong ≡ wrongs.Memory) ⊎ ((cs : List Said) → ClosuresText text cs → ⊥))
none by text (Ok x) h = tt
none by text (Err e) (inl m) = inl m
none by text (Err e) (inr h) = inr (λ cs t. (let all : answer_of text ≡ Ok cs = read_again text cs t in let no : answer_of text ≡ Err e = h in cc))
