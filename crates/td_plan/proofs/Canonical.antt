-- The canonical text of a plan spells that plan.
use Rattle.std.proofs.Common.{◌≡◌, ℕ, ◌<◌, ◌≤◌, ◌^◌, Bool, true, false, ◌&&◌, ◌==◌, nat_lt, nat_le, List, [], ◌∷◌, ◌++◌, length, map, codes, refl, sym, ap, ◌∙◌, arith, subst}
use Rattle.std.specs.Prelude.{Some, decimal, Result, Ok, Err, IfOk}
use Rattle.std.specs.List.{list_all, slice_split, join_with_byte}
use Rattle.std.specs.Char.{is_ascii_digit}
use Rattle.std.proofs.lemmas.List.{append_assoc}
use Rattle.std.proofs.lemmas.List.Folds.{list_all-append}
use Rattle.std.proofs.lemmas.Bool.{ltb-true, leb-true, lt-ltb}
use Rattle.std.proofs.lemmas.Bool.Decides.{nat_tests}
use Rattle.std.proofs.lemmas.Fmt.{digits_decimal, decimal_nonempty}
use Rattle.td_plan.specs.declared.vertex.Kind.{Kind}
use Rattle.td_plan.specs.declared.vertex.Kind.TheVariants.{Input, Map, Distinct, Group, Fold, Enter, Feedback, Leave, Output}
use Rattle.td_plan.specs.Text.{text_lines, words, has_nine_digits}
use Rattle.td_plan.specs.Lines.{Line, words_of, words_of_kind, has_form, has_code, has_arity, text_of}
use Rattle.td_plan.specs.Lines.Line.{vertex, loop, end}
use Rattle.td_plan.specs.Faults.{IsPlan}
use Rattle.td_plan.specs.Texts.{AreReadAs, plan_lines, PlanText}
use Rattle.td_plan.proofs.Readings.{both, small, below}
use Rattle.td_plan.proofs.Numerals.{own}
use Rattle.td_plan.proofs.Cuts.{lines_cut, words_cut}

-- every byte is above k
abbrev above : ℕ → List ℕ → Bool
above k xs = list_all (λ b. nat_lt k b) xs

not_equal : (c k x : ℕ) → c ≤ k → nat_lt k x ≡ true → (x == c) ≡ false
not_equal c k x le h = let lt : k < x = ltb-true k x h in grind (arith, nat_tests)

same_test : (c : ℕ) → (c == c) ≡ true
same_test c = grind (arith, nat_tests)

-- a first part without the byte at which the list is cut
split_first : (c k : ℕ) (xs ys : List ℕ) → c ≤ k → above k xs ≡ true → slice_split (λ b. b == c) (xs ++ c ∷ ys) ≡ xs ∷ slice_split (λ b. b == c) ys
split_first c k [] ys le h = rw (same_test c)
split_first c k (x ∷ xs) ys le h = let parts = both (nat_lt k x) (above k xs) h in rw (not_equal c k x le parts.0, split_first c k xs ys le parts.1)

split_only : (c k : ℕ) (xs : List ℕ) → c ≤ k → above k xs ≡ true → slice_split (λ b. b == c) xs ≡ xs ∷ []
split_only c k [] le h = refl
split_only c k (x ∷ xs) le h = let parts = both (nat_lt k x) (above k xs) h in rw (not_equal c k x le parts.0, split_only c k xs le parts.1)

-- words of printable characters other than the space, and not empty
abbrev is_word : List ℕ → Bool
is_word w = above 32 w && nat_lt 0 (length w)

words_joined : (w : List ℕ) (ws : List (List ℕ)) → list_all is_word (w ∷ ws) ≡ true → words (join_with_byte 32 (w ∷ ws)) ≡ w ∷ ws
words_joined w [] h =
    let one = both (is_word w) true h in
    let word = both (above 32 w) (nat_lt 0 (length w)) one.0 in
    words_cut w w [] (ltb-true 0 (length w) word.1) (split_only 32 32 w (omega arith) word.0)
words_joined w (v ∷ ws) h =
    let one = both (is_word w) (list_all is_word (v ∷ ws)) h in
    let word = both (above 32 w) (nat_lt 0 (length w)) one.0 in
    words_cut (join_with_byte 32 (w ∷ v ∷ ws)) w (slice_split (λ b. b == 32) (join_with_byte 32 (v ∷ ws))) (ltb-true 0 (length w) word.1) (split_first 32 32 w (join_with_byte 32 (v ∷ ws)) (omega arith) word.0)
    ∙ ap (λ r. w ∷ r) (words_joined v ws one.1)

wider : (k m : ℕ) (xs : List ℕ) → k ≤ m → above m xs ≡ true → above k xs ≡ true
wider k m [] le h = refl
wider k m (x ∷ xs) le h =
    let parts = both (nat_lt m x) (above m xs) h in
    let lt : m < x = ltb-true m x parts.0 in
    rw (lt-ltb k x (omega arith), wider k m xs le parts.1) refl

joined_above : (ws : List (List ℕ)) → list_all is_word ws ≡ true → above 10 (join_with_byte 32 ws) ≡ true
joined_above [] h = refl
joined_above (w ∷ []) h = let one = both (is_word w) true h in wider 10 32 w (omega arith) (both (above 32 w) (nat_lt 0 (length w)) one.0).0
joined_above (w ∷ v ∷ ws) h =
    let one = both (is_word w) (list_all is_word (v ∷ ws)) h in
    list_all-append (λ b. nat_lt 10 b) w (32 ∷ join_with_byte 32 (v ∷ ws)) ∙ rw (wider 10 32 w (omega arith) (both (above 32 w) (nat_lt 0 (length w)) one.0).0, joined_above (v ∷ ws) one.1) refl

-- THE WORDS OF A LINE
digits_above : (ds : List ℕ) → list_all is_ascii_digit ds ≡ true → above 32 ds ≡ true
digits_above [] h = refl
digits_above (d ∷ ds) h =
    let parts = both (is_ascii_digit d) (list_all is_ascii_digit ds) h in
    rw (digit_above d parts.0, digits_above ds parts.1) refl
  where
    digit_above : (d : ℕ) → is_ascii_digit d ≡ true → nat_lt 32 d ≡ true
    digit_above d h = let p = both (nat_le 48 d) (nat_le d 57) h in let ge : 48 ≤ d = leb-true 48 d p.0 in lt-ltb 32 d (omega arith)

number_word : (n : ℕ) → n < 2 ^ 64 → is_word (decimal n) ≡ true
number_word n h = rw (digits_above (decimal n) (digits_decimal own n h), lt-ltb 0 (length (decimal n)) (decimal_nonempty n h)) refl

number_words : (ns : List ℕ) → list_all has_nine_digits ns ≡ true → list_all is_word (map decimal ns) ≡ true
number_words [] h = refl
number_words (n ∷ ns) h = let parts = both (has_nine_digits n) (list_all has_nine_digits ns) h in rw (number_word n (small n parts.0), number_words ns parts.1) refl

kind_words : (k : Kind) → has_code k ≡ true → list_all is_word (words_of_kind k) ≡ true
kind_words Input h = refl
kind_words Distinct h = refl
kind_words Enter h = refl
kind_words Feedback h = refl
kind_words Leave h = refl
kind_words Output h = refl
kind_words (Map c) h = rw (number_word c (small c (below c h))) refl
kind_words (Group c) h = rw (number_word c (small c (below c h))) refl
kind_words (Fold c) h = rw (number_word c (small c (below c h))) refl

line_words : (l : Line) → has_form l ≡ true → list_all is_word (words_of l) ≡ true
line_words (loop b) h = rw (number_word b (small b h)) refl
line_words end h = refl
line_words (vertex v) h =
    let arity = both (has_nine_digits v.number && has_code v.kind && list_all has_nine_digits v.sources) (has_arity v.kind (length v.sources)) h in
    let nine = both (has_nine_digits v.number && has_code v.kind) (list_all has_nine_digits v.sources) arity.0 in
    let code = both (has_nine_digits v.number) (has_code v.kind) nine.0 in
    rw (number_word v.number (small v.number code.0), list_all-append is_word (words_of_kind v.kind) (map decimal v.sources), kind_words v.kind code.1, number_words v.sources nine.1) refl

-- a line has words
first_word : (l : Line) → (w : List ℕ) × (ws : List (List ℕ)) × (words_of l ≡ w ∷ ws)
first_word (vertex v) = (decimal v.number, words_of_kind v.kind ++ map decimal v.sources, refl)
first_word (loop b) = (codes "loop", decimal b ∷ [], refl)
first_word end = (codes "end", [], refl)

-- the words of the canonical text of a line are those of the line
pub words_again : (l : Line) → has_form l ≡ true → words (join_with_byte 32 (words_of l)) ≡ words_of l
words_again l h =
    let f = first_word l in
    let all : list_all is_word (f.0 ∷ f.1) ≡ true = ap (list_all is_word) (sym f.2) ∙ line_words l h in
    ap (λ ws. words (join_with_byte 32 ws)) f.2 ∙ words_joined f.0 f.1 all ∙ sym f.2

-- THE LINES OF A PLAN
first_line : (l : Line) (plan : List Line) → has_form l ≡ true → text_lines (text_of (l ∷ plan)) ≡ join_with_byte 32 (words_of l) ∷ text_lines (text_of plan)
first_line l plan h =
    let line = join_with_byte 32 (words_of l) in
    let split : text_of (l ∷ plan) ≡ line ++ 10 ∷ text_of plan = append_assoc line (10 ∷ []) (text_of plan) in
    lines_cut (text_of (l ∷ plan)) line (text_of plan) (ap (slice_split (λ b. b == 10)) split ∙ split_first 10 10 line (text_of plan) (omega arith) (joined_above (words_of l) (line_words l h)))

pub read_again : (plan : List Line) → list_all has_form plan ≡ true → AreReadAs (text_lines (text_of plan)) (map Some plan)
read_again [] f = tt
read_again (l ∷ plan) f =
    let form = both (has_form l) (list_all has_form plan) f in
    subst (λ ts. AreReadAs ts (map Some (l ∷ plan))) (sym (first_line l plan form.0)) ((words_again l form.0, form.0), read_again plan form.1)

lines_again : (plan : List Line) → plan ≡ plan_lines (map Some plan)
lines_again [] = refl
lines_again (l ∷ plan) = ap (λ r. l ∷ r) (lines_again plan)

pub canonical : (plan : List Line) → IsPlan plan → PlanText (text_of plan) plan
canonical plan p = record { readings = map Some plan; read = read_again plan p.formed; plan_is = lines_again plan; lawful = p }

-- what a call answered is the canonical text, so it spells the plan
pub spelled_again : {S E : Type 0} (bytes : S → List ℕ) (plan : List Line) (r : Result S E) → IsPlan plan → IfOk r (λ text. bytes text ≡ text_of plan) → IfOk r (λ text. PlanText (bytes text) plan)
spelled_again bytes plan (Ok text) p e = subst (λ bs. PlanText bs plan) (sym e) (canonical plan p)
spelled_again bytes plan (Err e) p h = tt
