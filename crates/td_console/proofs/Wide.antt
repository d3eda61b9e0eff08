-- The first byte above 127, line by line.
use Rattle.std.proofs.Common.{◌≡◌, ℕ, suc, ◌+◌, ◌≤◌, Bool, true, false, ◌&&◌, ◌||◌, ◌==◌, List, [], ◌∷◌, ◌++◌, length, refl, sym, ap, ◌∙◌, cond, arith, Some, None, Option, is_some, Result, Ok, Err, nat_le, nat_lt, bit_or}
use Rattle.std.specs.List.{list_all, before_first, after_first, slice_get, slice_split, onto_first}
use Rattle.std.specs.Char.{is_ascii}
use Rattle.std.specs.Str.{IsAscii, IsUtf8}
use Rattle.std.specs.Result.{result_ok}
use Rattle.std.specs.Prelude.{MatchResult}
use Rattle.std.proofs.lemmas.Str.{IsUtf8-from_ascii}
use Rattle.std.proofs.lemmas.Str.Ascii.{IsAscii-nil, IsAscii-cons}
use Rattle.std.proofs.lemmas.Nat.{or_lt, le_or_l, le_or_r}
use Rattle.std.proofs.lemmas.Bool.{ltb-false, ltb-true, leb-true, lt-ltb, eqb-true}
use Rattle.td_plan.specs.Text.{text_lines, without_empty_last, words, is_printable}
use Rattle.td_console.specs.declared.faults.Fault.{Fault}
use Rattle.td_console.specs.Parts.{is_separator, are_two_dashes, data_lines, wide_fault_at, wide_faults, wide_fault}
use Rattle.td_console.proofs.Separated.{both, before-yes, before-no, after-yes, after-no}

-- bytes that are ASCII are a text
all_ascii : (bs : List ℕ) → list_all is_ascii bs ≡ true → IsAscii bs
all_ascii [] h = IsAscii-nil
all_ascii (b ∷ bs) h = let p = both (is_ascii b) (list_all is_ascii bs) h in IsAscii-cons b bs (ltb-true b 128 p.0) (all_ascii bs p.1)

pub read_ascii : {S E : Type 0} (bs : List ℕ) (A : S → Type 0) (B : E → Type 0) (r : Result S E) → list_all is_ascii bs ≡ true → MatchResult r A (λ e. ¬ (IsUtf8 bs) × B e) → is_some (result_ok r) ≡ list_all is_ascii bs
read_ascii bs A B (Ok s) h k = sym h
read_ascii bs A B (Err e) h k = absurd (k.0 (IsUtf8-from_ascii bs (all_ascii bs h)))

-- a printable line is ASCII
ascii_printable : (b : ℕ) → is_printable b ≡ true → is_ascii b ≡ true
ascii_printable b h = let p = both (nat_le 32 b) (nat_le b 126) h in let le : b ≤ 126 = leb-true b 126 p.1 in lt-ltb b 128 (omega arith)

all_printable : (bs : List ℕ) → list_all is_printable bs ≡ true → list_all is_ascii bs ≡ true
all_printable [] h = refl
all_printable (b ∷ bs) h = let p = both (is_printable b) (list_all is_printable bs) h in rw (ascii_printable b p.0, all_printable bs p.1) refl

-- so a line that is not does not separate
not_separator : (line : List ℕ) → list_all is_ascii line ≡ false → is_separator line ≡ false
not_separator line h = by (is_separator line) refl
  where
    by : (b : Bool) → is_separator line ≡ b → b ≡ false
    by false e = refl
    by true e = let f : list_all is_ascii line ≡ true = all_printable line (both (list_all is_printable line) (are_two_dashes (words line)) e).0 in cc

-- the first fault from line n on, in the data or before
abbrev pub wide_from : Bool → ℕ → List (List ℕ) → Option Fault
wide_from true n lines = slice_get (wide_faults true n lines) 0
wide_from false n lines =
    slice_get (wide_faults false n (before_first is_separator lines) ++ wide_faults true (n + length (before_first is_separator lines) + 1) (after_first is_separator lines)) 0

pub wide_start : (input : List ℕ) → wide_fault input ≡ wide_from false (0 + 1) (text_lines input)
wide_start input =
    let before = before_first is_separator (text_lines input) in
    let e : length before + 2 ≡ 0 + 1 + length before + 1 = omega arith in
    ap (λ k. slice_get (wide_faults false 1 before ++ wide_faults true k (data_lines input)) 0) e

faults_none : (b : Bool) (n : ℕ) (line : List ℕ) (lines : List (List ℕ)) → list_all is_ascii line ≡ true → wide_faults b n (line ∷ lines) ≡ wide_faults b (n + 1) lines
faults_none b n line lines h = rw h refl

faults_some : (b : Bool) (n : ℕ) (line : List ℕ) (lines : List (List ℕ)) → list_all is_ascii line ≡ false → wide_faults b n (line ∷ lines) ≡ wide_fault_at b n ∷ wide_faults b (n + 1) lines
faults_some b n line lines h = rw h refl

-- a line that is ASCII
pub wide_next : (b : Bool) (n : ℕ) (line : List ℕ) (lines : List (List ℕ)) → list_all is_ascii line ≡ true → wide_from b n (line ∷ lines) ≡ wide_from (b || is_separator line) (n + 1) lines
wide_next true n line lines h = ap (λ fs. slice_get fs 0) (faults_none true n line lines h)
wide_next false n line lines h = by (is_separator line) refl
  where
    by : (s : Bool) → is_separator line ≡ s → wide_from false n (line ∷ lines) ≡ wide_from s (n + 1) lines
    by true e =
        let k : n + 0 + 1 ≡ n + 1 = omega arith in
        rw (before-yes line lines e, after-yes line lines e) (ap (λ m. slice_get (wide_faults true m lines) 0) k)
    by false e =
        let before = before_first is_separator lines in
        let k : n + suc (length before) + 1 ≡ n + 1 + length before + 1 = omega arith in
        rw (before-no line lines e, after-no line lines e)
        (ap (λ fs. slice_get (fs ++ wide_faults true (n + suc (length before) + 1) (after_first is_separator lines)) 0) (faults_none false n line before h)
        ∙ ap (λ m. slice_get (wide_faults false (n + 1) before ++ wide_faults true m (after_first is_separator lines)) 0) k)

-- and one that is not
pub wide_found : (b : Bool) (n : ℕ) (line : List ℕ) (lines : List (List ℕ)) → list_all is_ascii line ≡ false → wide_from b n (line ∷ lines) ≡ Some (wide_fault_at b n)
wide_found true n line lines h = ap (λ fs. slice_get fs 0) (faults_some true n line lines h)
wide_found false n line lines h =
    let before = before_first is_separator lines in
    rw (before-no line lines (not_separator line h))
    (ap (λ fs. slice_get (fs ++ wide_faults true (n + suc (length before) + 1) (after_first is_separator (line ∷ lines))) 0) (faults_some false n line before h))

pub wide_end : (b : Bool) (n : ℕ) → wide_from b n [] ≡ None
wide_end true n = refl
wide_end false n = refl

-- where all lines are ASCII, the bytes are
ascii_parts : (bs : List ℕ) → list_all (list_all is_ascii) (slice_split (λ b. b == 10) bs) ≡ true → list_all is_ascii bs ≡ true
ascii_parts [] h = refl
ascii_parts (b ∷ bs) h = by (b == 10) (slice_split (λ b. b == 10) bs) refl (ascii_parts bs) h
  where
    by : (t : Bool) (parts : List (List ℕ)) → (b == 10) ≡ t → (list_all (list_all is_ascii) parts ≡ true → list_all is_ascii bs ≡ true) →
        list_all (list_all is_ascii) (cond t ([] ∷ parts) (onto_first b parts)) ≡ true → (is_ascii b && list_all is_ascii bs) ≡ true
    by true parts e more k = let feed : b ≡ 10 = eqb-true b 10 e in rw (feed, more k) refl
    by false [] e more k = let p = both (is_ascii b) true (both (is_ascii b && true) true k).0 in rw (p.0, more refl) refl
    by false (part ∷ parts) e more k =
        let p = both (is_ascii b && list_all is_ascii part) (list_all (list_all is_ascii) parts) k in
        let q = both (is_ascii b) (list_all is_ascii part) p.0 in
        rw (q.0, more (rw (q.1, p.1) refl)) refl

ascii_dropped : (parts : List (List ℕ)) → list_all (list_all is_ascii) (without_empty_last parts) ≡ true → list_all (list_all is_ascii) parts ≡ true
ascii_dropped [] h = refl
ascii_dropped ([] ∷ []) h = refl
ascii_dropped ([] ∷ part ∷ parts) h = ascii_dropped (part ∷ parts) h
ascii_dropped ((b ∷ bs) ∷ parts) h = let p = both (list_all is_ascii (b ∷ bs)) (list_all (list_all is_ascii) (without_empty_last parts)) h in rw (p.0, ascii_dropped parts p.1) refl

pub ascii_lines : (bs : List ℕ) → list_all (list_all is_ascii) (text_lines bs) ≡ true → list_all is_ascii bs ≡ true
ascii_lines bs h = ascii_parts bs (ascii_dropped (slice_split (λ b. b == 10) bs) h)

-- and where the bytes are ASCII, all lines are
split_ascii : (bs : List ℕ) → list_all is_ascii bs ≡ true → list_all (list_all is_ascii) (slice_split (λ b. b == 10) bs) ≡ true
split_ascii [] h = refl
split_ascii (b ∷ bs) h = let p = both (is_ascii b) (list_all is_ascii bs) h in by (b == 10) (slice_split (λ b. b == 10) bs) p.0 (split_ascii bs p.1)
  where
    by : (t : Bool) (parts : List (List ℕ)) → is_ascii b ≡ true → list_all (list_all is_ascii) parts ≡ true → list_all (list_all is_ascii) (cond t ([] ∷ parts) (onto_first b parts)) ≡ true
    by true parts one more = more
    by false [] one more = rw one refl
    by false (part ∷ parts) one more = let p = both (list_all is_ascii part) (list_all (list_all is_ascii) parts) more in rw (one, p.0, p.1) refl

kept_ascii : (parts : List (List ℕ)) → list_all (list_all is_ascii) parts ≡ true → list_all (list_all is_ascii) (without_empty_last parts) ≡ true
kept_ascii [] h = refl
kept_ascii ([] ∷ []) h = refl
kept_ascii ([] ∷ part ∷ parts) h = kept_ascii (part ∷ parts) h
kept_ascii ((b ∷ bs) ∷ parts) h = let p = both (list_all is_ascii (b ∷ bs)) (list_all (list_all is_ascii) parts) h in rw (p.0, kept_ascii parts p.1) refl

none_from : (b : Bool) (n : ℕ) (lines : List (List ℕ)) → list_all (list_all is_ascii) lines ≡ true → wide_from b n lines ≡ None
none_from b n [] h = wide_end b n
none_from b n (line ∷ lines) h =
    let p = both (list_all is_ascii line) (list_all (list_all is_ascii) lines) h in
    wide_next b n line lines p.0 ∙ none_from (b || is_separator line) (n + 1) lines p.1

-- so there is no fault of such a byte
pub none_wide : (input : List ℕ) → list_all is_ascii input ≡ true → wide_fault input ≡ None
none_wide input h = wide_start input ∙ none_from false (0 + 1) (text_lines input) (kept_ascii (slice_split (λ b. b == 10) input) (split_ascii input h))

-- one more byte of a sweep
pub swept : (a b : ℕ) → nat_lt (bit_or a b) 128 ≡ (nat_lt a 128 && is_ascii b)
swept a b = by (nat_lt a 128) (is_ascii b) (nat_lt (bit_or a b) 128) refl refl refl
  where
    by : (p q r : Bool) → nat_lt a 128 ≡ p → is_ascii b ≡ q → nat_lt (bit_or a b) 128 ≡ r → r ≡ (p && q)
    by true true true e f g = refl
    by true true false e f g = let least = ltb-false (bit_or a b) 128 g in let most = or_lt 7 a b (ltb-true a 128 e) (ltb-true b 128 f) in absurd (omega (arith, least, most))
    by true false true e f g = absurd (omega (arith, ltb-false b 128 f, ltb-true (bit_or a b) 128 g, le_or_r a b))
    by true false false e f g = refl
    by false q true e f g = absurd (omega (arith, ltb-false a 128 e, ltb-true (bit_or a b) 128 g, le_or_l a b))
    by false q false e f g = refl
