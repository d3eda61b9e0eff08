-- A byte above 127 and a DEL are alike no printable characters, so a text has the plan or the fault that it has with the
-- one in the place of the other.
use Rattle.std.proofs.Common.{◌≡◌, ℕ, ◌+◌, ◌≤◌, Bool, true, false, ◌==◌, nat_le, List, [], ◌∷◌, ◌++◌, length, map, refl, sym, ap, ◌∙◌, cond, arith, subst, ◌⊎◌, inl, inr, Option, Some, None}
use Rattle.std.specs.List.{list_all, slice_split, onto_first}
use Rattle.std.specs.Char.{is_ascii}
use Rattle.std.proofs.lemmas.Bool.{leb-true, lt-ltb}
use Rattle.std.proofs.lemmas.Bool.Decides.{nat_tests}
use Rattle.td_plan.specs.declared.error.PlanError.{PlanError}
use Rattle.td_plan.specs.declared.error.PlanError.TheVariants as errors
use Rattle.td_plan.specs.Faults.{Fault}
use Rattle.td_plan.specs.Text.{text_lines, without_empty_last, is_printable, is_passed_over}
use Rattle.td_plan.specs.Lines.{Line}
use Rattle.td_plan.specs.Texts.{Spells, IsReadAs, IsFormless, AreReadAs, PlanText, PlanFault, IsFirstFault, IsReadWhole, EndsInLoop, IsFirstStray, LacksEnds}
use Rattle.td_console.specs.declared.faults.Fault.{Fault as AnyFault}
use Rattle.td_console.specs.declared.faults.Fault.TheVariants.{Plan, Memory}
use Rattle.td_report.specs.Narrowed.{narrow, narrowed}
use Rattle.td_report.proofs.Printable.{both, all_printable, spelled, passed_over}

-- BYTES
ascii_byte : (b : ℕ) → is_ascii (narrow b) ≡ true
ascii_byte b = by (is_ascii b) refl
  where
    by : (t : Bool) → is_ascii b ≡ t → is_ascii (cond t b 127) ≡ true
    by true e = e
    by false e = refl

pub ascii : (bs : List ℕ) → list_all is_ascii (narrowed bs) ≡ true
ascii [] = refl
ascii (b ∷ bs) = rw (ascii_byte b, ascii bs) refl

-- a byte that is printable, before or after, stays as it is
kept_byte : (b : ℕ) → is_printable (narrow b) ≡ true → narrow b ≡ b
kept_byte b h = by (is_ascii b) h
  where
    by : (t : Bool) → is_printable (cond t b 127) ≡ true → cond t b 127 ≡ b
    by true h = refl
    by false h = cc

plain_byte : (b : ℕ) → is_printable b ≡ true → narrow b ≡ b
plain_byte b h =
    let p = both (nat_le 32 b) (nat_le b 126) h in
    let le : b ≤ 126 = leb-true b 126 p.1 in
    let lt : is_ascii b ≡ true = lt-ltb b 128 (omega arith) in
    rw lt refl

pub kept : (bs : List ℕ) → all_printable (narrowed bs) ≡ true → narrowed bs ≡ bs
kept [] h = refl
kept (b ∷ bs) h = let p = both (is_printable (narrow b)) (all_printable (narrowed bs)) h in rw (kept_byte b p.0, kept bs p.1) refl

plain : (bs : List ℕ) → all_printable bs ≡ true → narrowed bs ≡ bs
plain [] h = refl
plain (b ∷ bs) h = let p = both (is_printable b) (all_printable bs) h in rw (plain_byte b p.0, plain bs p.1) refl

-- LINES
line_feed : (b : ℕ) → (narrow b == 10) ≡ (b == 10)
line_feed b = by (is_ascii b) refl
  where
    by : (t : Bool) → is_ascii b ≡ t → (cond t b 127 == 10) ≡ (b == 10)
    by true e = refl
    by false e = grind (arith, nat_tests)

parts : (bs : List ℕ) → slice_split (λ b. b == 10) (narrowed bs) ≡ map narrowed (slice_split (λ b. b == 10) bs)
parts [] = refl
parts (b ∷ bs) = rw (line_feed b, parts bs) (by (b == 10) (slice_split (λ b. b == 10) bs))
  where
    by : (t : Bool) (ps : List (List ℕ)) → cond t ([] ∷ map narrowed ps) (onto_first (narrow b) (map narrowed ps)) ≡ map narrowed (cond t ([] ∷ ps) (onto_first b ps))
    by true ps = refl
    by false [] = refl
    by false (p ∷ ps) = refl

dropped : (ps : List (List ℕ)) → without_empty_last (map narrowed ps) ≡ map narrowed (without_empty_last ps)
dropped [] = refl
dropped ([] ∷ []) = refl
dropped ([] ∷ p ∷ ps) = ap (λ l. [] ∷ l) (dropped (p ∷ ps))
dropped ((b ∷ bs) ∷ ps) = ap (λ l. narrowed (b ∷ bs) ∷ l) (dropped ps)

lines : (bs : List ℕ) → text_lines (narrowed bs) ≡ map narrowed (text_lines bs)
lines bs = ap without_empty_last (parts bs) ∙ dropped (slice_split (λ b. b == 10) bs)

-- WHAT IS READ
spells_kept : (line : List ℕ) (l : Line) → Spells (narrowed line) l → narrowed line ≡ line
spells_kept line l s = kept line (spelled (narrowed line) l s.0 s.1)

read_kept : (line : List ℕ) (r : Option Line) → IsReadAs (narrowed line) r → narrowed line ≡ line
read_kept line None h = kept line (passed_over (narrowed line) h)
read_kept line (Some l) s = spells_kept line l s

all_kept : (ls : List (List ℕ)) (rs : List (Option Line)) → AreReadAs (map narrowed ls) rs → map narrowed ls ≡ ls
all_kept [] rs h = refl
all_kept (l ∷ ls) [] h = absurd h
all_kept (l ∷ ls) (r ∷ rs) h = rw (read_kept l r h.0, all_kept ls rs h.1) refl

formless : (line : List ℕ) → IsFormless (narrowed line) → IsFormless line
formless line h = (over (is_passed_over line) refl, λ l s. let same : narrowed line ≡ line = plain line (spelled line l s.0 s.1) in h.1 l (rw same s))
  where
    over : (t : Bool) → is_passed_over line ≡ t → t ≡ false
    over false e = refl
    over true e =
        let same : narrowed line ≡ line = plain line (passed_over line e) in
        let no : is_passed_over (narrowed line) ≡ false = h.0 in
        let yes : is_passed_over (narrowed line) ≡ true = rw same e in
        cc

-- lines that are all read are those of the text
read_lines : (text : List ℕ) (rs : List (Option Line)) → AreReadAs (text_lines (narrowed text)) rs → text_lines (narrowed text) ≡ text_lines text
read_lines text rs h = lines text ∙ all_kept (text_lines text) rs (subst (λ ls. AreReadAs ls rs) (lines text) h)

whole : (text : List ℕ) (rs : List (Option Line)) → IsReadWhole (narrowed text) rs → IsReadWhole text rs
whole text rs h = record { read = subst (λ ls. AreReadAs ls rs) (read_lines text rs h.read) h.read; faultless = h.faultless }

-- THE PLAN
pub plan_text : (text : List ℕ) (plan : List Line) → PlanText (narrowed text) plan → PlanText text plan
plan_text text plan h =
    record { readings = h.readings; read = subst (λ ls. AreReadAs ls h.readings) (read_lines text h.readings h.read) h.read; plan_is = h.plan_is; lawful = h.lawful }

-- THE FAULT
-- lines that are cut at a line are cut there before
record IsCut (ls front : List (List ℕ)) (line : List ℕ) (rest : List (List ℕ)) : Type 0 where
  before : List (List ℕ)
  at : List ℕ
  after : List (List ℕ)
  splits : ls ≡ before ++ at ∷ after
  front_is : map narrowed before ≡ front
  line_is : narrowed at ≡ line
  count : length front ≡ length before

cut : (ls front : List (List ℕ)) (line : List ℕ) (rest : List (List ℕ)) → map narrowed ls ≡ front ++ line ∷ rest → IsCut ls front line rest
cut [] [] line rest e = cc
cut [] (f ∷ front) line rest e = cc
cut (l ∷ ls) [] line rest e = record { before = []; at = l; after = ls; splits = refl; front_is = refl; line_is = cc; count = refl }
cut (l ∷ ls) (f ∷ front) line rest e =
    let more : map narrowed ls ≡ front ++ line ∷ rest = cc in
    let c = cut ls front line rest more in
    let first : narrowed l ≡ f = cc in
    record {
      before = l ∷ c.before;
      at = c.at;
      after = c.after;
      splits = λ i. l ∷ c.splits i;
      front_is = rw (first, c.front_is) refl;
      line_is = c.line_is;
      count = rw c.count refl;
    }

first_fault : (text : List ℕ) (fault : Fault) (n : ℕ) → IsFirstFault (narrowed text) fault n → IsFirstFault text fault n
first_fault text fault n h =
    let c = cut (text_lines text) h.front h.line h.rest (sym (lines text) ∙ h.splits) in
    let read : AreReadAs (map narrowed c.before) h.readings = subst (λ ls. AreReadAs ls h.readings) (sym c.front_is) h.read in
    record {
      front = c.before;
      line = c.at;
      rest = c.after;
      splits = c.splits;
      readings = h.readings;
      read = subst (λ ls. AreReadAs ls h.readings) (all_kept c.before h.readings read) read;
      faultless = h.faultless;
      is_number = h.is_number ∙ ap (λ k. k + 1) c.count;
      has = elim h.has [
        | inl f ↦ inl (formless c.at (subst IsFormless (sym c.line_is) f.0), f.1)
        | inr s ↦ inr (s.0, let spells : Spells (narrowed c.at) s.0 = subst (λ x. Spells x s.0) (sym c.line_is) s.1 in subst (λ x. Spells x s.0) (spells_kept c.at s.0 spells) spells, s.2)
      ];
    }

ends_in_loop : (text : List ℕ) (n : ℕ) → EndsInLoop (narrowed text) n → EndsInLoop text n
ends_in_loop text n h =
    record { readings = h.readings; whole = whole text h.readings h.whole; opened = h.opened; is_number = h.is_number ∙ ap (λ ls. length ls + 1) (read_lines text h.readings h.whole.read) }

first_stray : (text : List ℕ) (n : ℕ) → IsFirstStray (narrowed text) n → IsFirstStray text n
first_stray text n h = record { readings = h.readings; whole = whole text h.readings h.whole; closed = h.closed; first = h.first }

lacks_ends : (text : List ℕ) → LacksEnds (narrowed text) → LacksEnds text
lacks_ends text h = record { readings = h.readings; whole = whole text h.readings h.whole; closed = h.closed; none_stray = h.none_stray; lacks = h.lacks }

pub plan_fault : (text : List ℕ) (e : PlanError) → PlanFault (narrowed text) e → PlanFault text e
plan_fault text (errors.Syntax n) (inl h) = inl (first_fault text Fault.syntax n h)
plan_fault text (errors.Syntax n) (inr h) = inr (ends_in_loop text n h)
plan_fault text (errors.Number n) h = first_fault text Fault.number n h
plan_fault text (errors.Order n) h = first_fault text Fault.order n h
plan_fault text (errors.Nest n) h = first_fault text Fault.nest n h
plan_fault text (errors.Bound n) h = first_fault text Fault.bound n h
plan_fault text (errors.FoldInLoop n) h = first_fault text Fault.fold_in_loop n h
plan_fault text (errors.Again n) (inl h) = inl (first_fault text Fault.again n h)
plan_fault text (errors.Again n) (inr h) = inr (first_stray text n h)
plan_fault text (errors.TooMany n) h = first_fault text Fault.too_many n h
plan_fault text errors.NoInputOrOutput h = lacks_ends text h
plan_fault text errors.Memory h = absurd h

-- THE REFUSAL, from that of the text as it is read
pub refusal : (text : List ℕ) (d : PlanError) (f : AnyFault) → (d ≡ errors.Memory → f ≡ Memory) → (f ≡ Memory) ⊎ (f ≡ Plan d) → (d ≡ errors.Memory) ⊎ PlanFault (narrowed text) d →
    (f ≡ Memory) ⊎ ((e : PlanError) × (f ≡ Plan e) × PlanFault text e)
refusal text d f memory (inl e) why = inl e
refusal text d f memory (inr e) (inl m) = inl (memory m)
refusal text d f memory (inr e) (inr h) = inr (d, e, plan_fault text d h)
