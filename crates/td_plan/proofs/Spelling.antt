-- A line of a plan is told by the words by which it is written.
use Rattle.std.proofs.Common.{◌≡◌, ℕ, ◌<◌, ◌≤◌, ◌^◌, Bool, true, false, ◌&&◌, List, [], ◌∷◌, ◌++◌, map, length, get_or, drop, refl, ap, arith, nat_le, ◌+◌, ◌*◌, ◌%◌, length-append, lit<, ◌==◌}
use Rattle.std.specs.List.{list_all}
use Rattle.std.specs.Fmt.{decimal}
use Rattle.std.proofs.lemmas.Bool.{ltb-true, leb-true}
use Rattle.std.proofs.lemmas.Fmt.{decimal_injective, decimal_by_steps}
use Rattle.std.proofs.lemmas.List.{get_or_append_left}
use Rattle.td_plan.specs.declared.vertex.Kind.{Kind}
use Rattle.td_plan.specs.declared.vertex.Kind.TheVariants.{Input, Map, Distinct, Group, Fold, Enter, Feedback, Leave, Output}
use Rattle.std.proofs.lemmas.Bool.Decides.{nat_tests}
use Rattle.td_plan.specs.Text.{has_nine_digits}
use Rattle.td_plan.specs.Lines.{Vertex, Line, words_of, words_of_kind, has_form, has_code}
use Rattle.td_plan.specs.Lines.Line.{vertex, loop, end}
use Rattle.td_plan.specs.Text.{is_comment, is_printable, is_passed_over, words}

both : (p q : Bool) → (p && q) ≡ true → (p ≡ true) × (q ≡ true)
both true q e = (refl, e)
both false q e = cc

small : (n : ℕ) → has_nine_digits n ≡ true → n < 2 ^ 64
small n e = let h : n < 1000000000 = ltb-true n 1000000000 e in omega arith

-- numbers that are written alike are alike
numbers_same : (xs ys : List ℕ) → list_all has_nine_digits xs ≡ true → list_all has_nine_digits ys ≡ true → map decimal xs ≡ map decimal ys → xs ≡ ys
numbers_same [] [] p q e = refl
numbers_same [] (y ∷ ys) p q e = cc
numbers_same (x ∷ xs) [] p q e = cc
numbers_same (x ∷ xs) (y ∷ ys) p q e =
    let hp = both _ _ p in
    let hq = both _ _ q in
    λ i. decimal_injective x y (small x hp.0) (small y hq.0) (ap (λ l. get_or l 0 []) e) i ∷ numbers_same xs ys hp.1 hq.1 (ap (drop 1) e) i

code_same : (c d : ℕ) → nat_le c 65535 ≡ true → nat_le d 65535 ≡ true → decimal c ≡ decimal d → c ≡ d
code_same c d p q e =
    let h : c ≤ 65535 = leb-true c 65535 p in
    let k : d ≤ 65535 = leb-true d 65535 q in
    decimal_injective c d (omega arith) (omega arith) e

-- the first two letters of the first word, by which the kinds differ
abbrev two_letters : List (List ℕ) → ℕ
two_letters l = 256 * get_or (get_or l 0 []) 0 0 + get_or (get_or l 0 []) 1 0

-- kinds that are written alike, with what follows
kinds_same : (k m : Kind) (xs ys : List (List ℕ)) → has_code k ≡ true → has_code m ≡ true → words_of_kind k ++ xs ≡ words_of_kind m ++ ys → (k ≡ m) × (xs ≡ ys)
kinds_same Input Input xs ys p q e = (refl, ap (drop 1) e)
kinds_same Distinct Distinct xs ys p q e = (refl, ap (drop 1) e)
kinds_same Enter Enter xs ys p q e = (refl, ap (drop 1) e)
kinds_same Feedback Feedback xs ys p q e = (refl, ap (drop 1) e)
kinds_same Leave Leave xs ys p q e = (refl, ap (drop 1) e)
kinds_same Output Output xs ys p q e = (refl, ap (drop 1) e)
kinds_same (Map c) (Map d) xs ys p q e = (ap Map (code_same c d p q (ap (λ l. get_or l 1 []) e)), ap (drop 2) e)
kinds_same (Group c) (Group d) xs ys p q e = (ap Group (code_same c d p q (ap (λ l. get_or l 1 []) e)), ap (drop 2) e)
kinds_same (Fold c) (Fold d) xs ys p q e = (ap Fold (code_same c d p q (ap (λ l. get_or l 1 []) e)), ap (drop 2) e)
kinds_same _ _ xs ys p q e = let h = ap two_letters e in absurd (omega arith)

-- a number is not written as a word
pub first_digit : (n : ℕ) → n < 2 ^ 64 → get_or (decimal n) 0 0 < 58
first_digit n h =
    (decimal_by_steps (λ m ds. (0 < length ds) × (get_or ds 0 0 < 58)) (λ m lt. (lit< tt, omega arith))
    (λ m ds ten p. let l : length (ds ++ (48 + m % 10) ∷ []) ≡ length ds + 1 = length-append ds ((48 + m % 10) ∷ []) in (omega (arith, p.0), rw (get_or_append_left ds ((48 + m % 10) ∷ []) 0 0 p.0) p.1)) n h).1

first_digit_least : (n : ℕ) → n < 2 ^ 64 → 48 ≤ get_or (decimal n) 0 0
first_digit_least n h =
    (decimal_by_steps (λ m ds. (0 < length ds) × (48 ≤ get_or ds 0 0)) (λ m lt. (lit< tt, omega arith))
    (λ m ds ten p. let l : length (ds ++ (48 + m % 10) ∷ []) ≡ length ds + 1 = length-append ds ((48 + m % 10) ∷ []) in (omega (arith, p.0), rw (get_or_append_left ds ((48 + m % 10) ∷ []) 0 0 p.0) p.1)) n h).1

number_of_form : (v : Vertex) → has_form (vertex v) ≡ true → v.number < 2 ^ 64
number_of_form v p = small v.number (both _ _ (both _ _ (both _ _ p).0).0).0

pub lines_same : (a b : Line) → has_form a ≡ true → has_form b ≡ true → words_of a ≡ words_of b → a ≡ b
lines_same (vertex v) (vertex w) p q e =
    let hp = both _ _ p in
    let hq = both _ _ q in
    let hp1 = both _ _ hp.0 in
    let hq1 = both _ _ hq.0 in
    let hp2 = both _ _ hp1.0 in
    let hq2 = both _ _ hq1.0 in
    let number : v.number ≡ w.number = decimal_injective v.number w.number (small v.number hp2.0) (small w.number hq2.0) (ap (λ l. get_or l 0 []) e) in
    let rest = kinds_same v.kind w.kind (map decimal v.sources) (map decimal w.sources) hp2.1 hq2.1 (ap (drop 1) e) in
    let sources : v.sources ≡ w.sources = numbers_same v.sources w.sources hp1.1 hq1.1 rest.1 in
    λ i. vertex (record { number = number i; kind = rest.0 i; sources = sources i })
lines_same (loop b) (loop c) p q e = ap loop (decimal_injective b c (small b p) (small c q) (ap (λ l. get_or l 1 []) e))
lines_same end end p q e = refl
lines_same (loop b) end p q e = cc
lines_same end (loop b) p q e = cc
lines_same (vertex v) (loop b) p q e = let f = first_digit v.number (number_of_form v p) in let h = ap (λ l. get_or (get_or l 0 []) 0 0) e in absurd (omega arith)
lines_same (vertex v) end p q e = let f = first_digit v.number (number_of_form v p) in let h = ap (λ l. get_or (get_or l 0 []) 0 0) e in absurd (omega arith)
lines_same (loop b) (vertex v) p q e = let f = first_digit v.number (number_of_form v q) in let h = ap (λ l. get_or (get_or l 0 []) 0 0) e in absurd (omega arith)
lines_same end (vertex v) p q e = let f = first_digit v.number (number_of_form v q) in let h = ap (λ l. get_or (get_or l 0 []) 0 0) e in absurd (omega arith)

-- no line of a plan is a comment
pub not_comment : (l : Line) → has_form l ≡ true → is_comment (words_of l) ≡ false
not_comment (loop b) p = refl
not_comment end p = refl
not_comment (vertex v) p = by (get_or (decimal v.number) 0 0) (first_digit_least v.number (number_of_form v p))
  where
    by : (b : ℕ) → 48 ≤ b → (b == 35) ≡ false
    by b h = grind (arith, nat_tests)

-- a line that is passed over spells nothing
pub apart : (text : List ℕ) (l : Line) → is_passed_over text ≡ true → words text ≡ words_of l → has_form l ≡ true → ⊥
apart text l p w form =
    let comment : is_comment (words text) ≡ true = (both (list_all is_printable text) (is_comment (words text)) p).1 in
    let f : is_comment (words_of l) ≡ false = not_comment l form in
    let g : is_comment (words_of l) ≡ true = rw w at comment in
    cc
