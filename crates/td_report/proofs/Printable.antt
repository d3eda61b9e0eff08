-- A line that is passed over or spells a line of a plan is printable.
use Rattle.std.proofs.Common.{◌≡◌, ℕ, ◌+◌, ◌%◌, ◌<◌, ◌≤◌, ◌^◌, Bool, true, false, ◌&&◌, ◌==◌, nat_lt, nat_le, List, [], ◌∷◌, length, filter, map, refl, ap, ◌∙◌, cond, arith}
use Rattle.std.specs.Prelude.{decimal}
use Rattle.std.specs.List.{list_all, slice_split, onto_first}
use Rattle.std.proofs.lemmas.Bool.{ltb-true, leb-true, le-leb, lt-ltb, eqb-true}
use Rattle.std.proofs.lemmas.List.Folds.{list_all-append}
use Rattle.std.proofs.lemmas.Fmt.{decimal_by_steps}
use Rattle.td_plan.specs.declared.vertex.Kind.{Kind}
use Rattle.td_plan.specs.declared.vertex.Kind.TheVariants.{Input, Map, Distinct, Group, Fold, Enter, Feedback, Leave, Output}
use Rattle.td_plan.specs.Text.{words, is_printable, is_comment, is_passed_over, has_nine_digits}
use Rattle.td_plan.specs.Lines.{Line, words_of, words_of_kind, has_form, has_code, has_arity}
use Rattle.td_plan.specs.Lines.Line.{vertex, loop, end}

pub both : (p q : Bool) → (p && q) ≡ true → (p ≡ true) × (q ≡ true)
both true q e = (refl, e)
both false q e = cc

-- all bytes of a text, and all of some texts
abbrev pub all_printable : List ℕ → Bool
all_printable bytes = list_all is_printable bytes

abbrev each_printable : List (List ℕ) → Bool
each_printable parts = list_all all_printable parts

-- THE WORDS OF A LINE OF A PLAN
digit : (m : ℕ) → m < 10 → is_printable (48 + m) ≡ true
digit m h = let a : 32 ≤ 48 + m = omega arith in let b : 48 + m ≤ 126 = omega arith in rw (le-leb 32 (48 + m) a, le-leb (48 + m) 126 b) refl

number : (n : ℕ) → n < 2 ^ 64 → all_printable (decimal n) ≡ true
number n h =
    decimal_by_steps (λ m ds. all_printable ds ≡ true) (λ m lt. rw (digit m lt) refl)
    (λ m ds ten p. list_all-append is_printable ds ((48 + m % 10) ∷ []) ∙ rw (p, digit (m % 10) (omega arith)) refl) n h

nine : (n : ℕ) → has_nine_digits n ≡ true → all_printable (decimal n) ≡ true
nine n h = let lt : n < 1000000000 = ltb-true n 1000000000 h in number n (omega arith)

code : (n : ℕ) → nat_le n 65535 ≡ true → all_printable (decimal n) ≡ true
code n h = let le : n ≤ 65535 = leb-true n 65535 h in number n (omega arith)

numbers : (ns : List ℕ) → list_all has_nine_digits ns ≡ true → each_printable (map decimal ns) ≡ true
numbers [] h = refl
numbers (n ∷ ns) h = let p = both (has_nine_digits n) (list_all has_nine_digits ns) h in rw (nine n p.0, numbers ns p.1) refl

kinds : (k : Kind) → has_code k ≡ true → each_printable (words_of_kind k) ≡ true
kinds Input h = refl
kinds Distinct h = refl
kinds Enter h = refl
kinds Feedback h = refl
kinds Leave h = refl
kinds Output h = refl
kinds (Map c) h = rw (code c h) refl
kinds (Group c) h = rw (code c h) refl
kinds (Fold c) h = rw (code c h) refl

of_line : (l : Line) → has_form l ≡ true → each_printable (words_of l) ≡ true
of_line (loop b) h = rw (nine b h) refl
of_line end h = refl
of_line (vertex v) h =
    let arity = both (has_nine_digits v.number && has_code v.kind && list_all has_nine_digits v.sources) (has_arity v.kind (length v.sources)) h in
    let sources = both (has_nine_digits v.number && has_code v.kind) (list_all has_nine_digits v.sources) arity.0 in
    let first = both (has_nine_digits v.number) (has_code v.kind) sources.0 in
    rw (nine v.number first.0, list_all-append all_printable (words_of_kind v.kind) (map decimal v.sources), kinds v.kind first.1, numbers v.sources sources.1) refl

-- A TEXT OF PRINTABLE WORDS
of_parts : (bs : List ℕ) → each_printable (slice_split (λ b. b == 32) bs) ≡ true → all_printable bs ≡ true
of_parts [] h = refl
of_parts (b ∷ bs) h = by (b == 32) (slice_split (λ b. b == 32) bs) refl (of_parts bs) h
  where
    by : (t : Bool) (parts : List (List ℕ)) → (b == 32) ≡ t → (each_printable parts ≡ true → all_printable bs ≡ true) →
        each_printable (cond t ([] ∷ parts) (onto_first b parts)) ≡ true → (is_printable b && all_printable bs) ≡ true
    by true parts e more k = let space : b ≡ 32 = eqb-true b 32 e in rw (space, more k) refl
    by false [] e more k = let p = both (is_printable b) true (both (is_printable b && true) true k).0 in rw (p.0, more refl) refl
    by false (part ∷ parts) e more k =
        let p = both (is_printable b && all_printable part) (each_printable parts) k in
        let q = both (is_printable b) (all_printable part) p.0 in
        rw (q.0, more (rw (q.1, p.1) refl)) refl

of_words : (parts : List (List ℕ)) → each_printable (filter (λ w. nat_lt 0 (length w)) parts) ≡ true → each_printable parts ≡ true
of_words [] h = refl
of_words ([] ∷ parts) h = of_words parts h
of_words ((b ∷ bs) ∷ parts) h = by (nat_lt 0 (length (b ∷ bs))) (lt-ltb 0 (length (b ∷ bs)) (omega arith)) (of_words parts) h
  where
    by : (t : Bool) → t ≡ true → (each_printable (filter (λ w. nat_lt 0 (length w)) parts) ≡ true → each_printable parts ≡ true) →
        each_printable (cond t ((b ∷ bs) ∷ filter (λ w. nat_lt 0 (length w)) parts) (filter (λ w. nat_lt 0 (length w)) parts)) ≡ true → each_printable ((b ∷ bs) ∷ parts) ≡ true
    by true e more k = let p = both (all_printable (b ∷ bs)) (each_printable (filter (λ w. nat_lt 0 (length w)) parts)) k in rw (p.0, more p.1) refl
    by false e more k = cc

pub spelled : (text : List ℕ) (l : Line) → words text ≡ words_of l → has_form l ≡ true → all_printable text ≡ true
spelled text l e form = of_parts text (of_words (slice_split (λ b. b == 32) text) (ap each_printable e ∙ of_line l form))

pub passed_over : (text : List ℕ) → is_passed_over text ≡ true → all_printable text ≡ true
passed_over text h = (both (all_printable text) (is_comment (words text)) h).0
