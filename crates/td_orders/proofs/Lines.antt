-- The lines of an input as they come: one with a line feed after it, and the last one.
use Rattle.std.proofs.Common.{◌≡◌, ℕ, suc, ◌+◌, ◌==◌, Bool, true, false, cond, List, [], ◌∷◌, ◌++◌, length, length-append, take, drop, arith, Option, Some, None, All, refl, sym, ap, ◌∙◌, subst, append_assoc, append-nil}
use Rattle.std.specs.Prelude.{◌||◌, nat_lt, ◌<◌}
use Rattle.std.specs.List.{slice_split, onto_first, list_any}
use Rattle.std.proofs.lemmas.Bool.{lt-ltb}
use Rattle.std.specs.Io.KnownBytes.{Consumes, IsAtEnd, Keeps}
use Rattle.std.proofs.lemmas.List.Splits.{slice_split_none, slice_split_at}
use Rattle.td_plan.specs.Text.{text_lines, without_empty_last}
use Rattle.td_orders.specs.Lines.{first_of, line_in, unread, is_overlong, has_overlong, LosesLines, TakesLine, EndsLine, FindsLine}

-- there is always a part
some_part : (p : ℕ → Bool) (xs : List ℕ) → (part : List ℕ) × (parts : List (List ℕ)) × (slice_split p xs ≡ part ∷ parts)
some_part p [] = ([], [], refl)
some_part p (x ∷ xs) = by (p x) (slice_split p xs)
  where
    by : (b : Bool) (rest : List (List ℕ)) → (part : List ℕ) × (parts : List (List ℕ)) × (cond b ([] ∷ rest) (onto_first x rest) ≡ part ∷ parts)
    by true rest = ([], rest, refl)
    by false [] = (x ∷ [], [], refl)
    by false (part ∷ parts) = (x ∷ part, parts, refl)

without-more : (part next : List ℕ) (parts : List (List ℕ)) → without_empty_last (part ∷ next ∷ parts) ≡ part ∷ without_empty_last (next ∷ parts)
without-more [] next parts = refl
without-more (b ∷ bs) next parts = refl

-- one with a line feed after it, and the last one
whole_line : (part rest : List ℕ) → All (λ b. (b == 10) ≡ false) part → text_lines (part ++ 10 ∷ rest) ≡ part ∷ text_lines rest
whole_line part rest lacks =
    let some = some_part (λ b. b == 10) rest in
    ap without_empty_last (slice_split_at (λ b. b == 10) part 10 rest lacks refl ∙ ap (λ parts. part ∷ parts) some.2)
    ∙ without-more part some.0 some.1 ∙ ap (λ parts. part ∷ without_empty_last parts) (sym some.2)

last_line : (part : List ℕ) → All (λ b. (b == 10) ≡ false) part → (part ≡ [] → ⊥) → text_lines part ≡ part ∷ []
last_line [] lacks some = absurd (some refl)
last_line (b ∷ bs) lacks some = ap without_empty_last (slice_split_none (λ b. b == 10) (b ∷ bs) lacks)

-- the first bytes of some that are in two parts
take_front : (xs ys : List ℕ) (n : ℕ) → n ≡ length xs → take n (xs ++ ys) ≡ xs
take_front [] ys n is = ap (λ m. take m ys) is ∙ take_none ys
  where
    take_none : (ys : List ℕ) → take 0 ys ≡ []
    take_none [] = refl
    take_none (y ∷ ys) = refl
take_front (x ∷ xs) ys n is = ap (λ m. take m (x ∷ xs ++ ys)) is ∙ ap (λ l. x ∷ l) (take_front xs ys (length xs) refl)

drop_front : (xs ys : List ℕ) (n : ℕ) → n ≡ length xs → drop n (xs ++ ys) ≡ ys
drop_front [] ys n is = ap (λ m. drop m ys) is ∙ drop_none ys
  where
    drop_none : (ys : List ℕ) → drop 0 ys ≡ ys
    drop_none [] = refl
    drop_none (y ∷ ys) = refl
drop_front (x ∷ xs) ys n is = ap (λ m. drop m (x ∷ xs ++ ys)) is ∙ drop_front xs ys (length xs) refl

-- A LINE THAT STANDS WHOLE in what was read is found there
takes_whole : (rest : Option (List ℕ)) (line left : List ℕ) → All (λ b. (b == 10) ≡ false) line → TakesLine (unread rest (line ++ 10 ∷ left)) (unread rest left) (Some line)
takes_whole None line left lacks = tt
takes_whole (Some r) line left lacks = ap text_lines (append_assoc line (10 ∷ left) r) ∙ whole_line line (left ++ r) lacks

pub found : (rest : Option (List ℕ)) (bytes : List ℕ) (end : ℕ) → EndsLine bytes end → FindsLine rest bytes (Some end)
found rest bytes end is =
    let text = is.line ++ 10 ∷ [] in
    let size : end ≡ length text = is.size ∙ sym (length-append is.line (10 ∷ [])) in
    let parts : bytes ≡ text ++ is.left = is.cut ∙ sym (append_assoc is.line (10 ∷ []) is.left) in
    let front : take end bytes ≡ text = ap (take end) parts ∙ take_front text is.left end size in
    let after : drop end bytes ≡ is.left = ap (drop end) parts ∙ drop_front text is.left end size in
    let line : line_in (take end bytes) ≡ is.line = ap line_in front ∙ ap first_of (whole_line is.line [] is.lacks) in
    let long : length bytes ≡ length text + length is.left = ap length parts ∙ length-append text is.left in
    let takes : TakesLine (unread rest bytes) (unread rest is.left) (Some is.line) =
    subst (λ (b : List ℕ). TakesLine (unread rest b) (unread rest is.left) (Some is.line)) (sym is.cut) (takes_whole rest is.line is.left is.lacks) in
    let taken : TakesLine (unread rest bytes) (unread rest (drop end bytes)) (Some is.line) = subst (λ (l : List ℕ). TakesLine (unread rest bytes) (unread rest l) (Some is.line)) (sym after) takes in
    (omega (arith, size, long), subst (λ (l : List ℕ). TakesLine (unread rest bytes) (unread rest (drop end bytes)) (Some l)) (sym line) taken)

-- AT THE END what is left is the last line, or there is none
pub found_last : (rest : Option (List ℕ)) (bytes : List ℕ) (end : ℕ) → IsAtEnd rest → All (λ b. (b == 10) ≡ false) bytes → end ≡ length bytes → (bytes ≡ [] → ⊥) → FindsLine rest bytes (Some end)
found_last rest bytes end at_end lacks size some =
    let front : take end bytes ≡ bytes = ap (take end) (sym (append-nil bytes)) ∙ take_front bytes [] end size in
    let after : drop end bytes ≡ [] = ap (drop end) (sym (append-nil bytes)) ∙ drop_front bytes [] end size in
    let line : line_in (take end bytes) ≡ bytes = ap line_in front ∙ ap first_of (last_line bytes lacks some) in
    let taken : TakesLine (unread rest bytes) (unread rest (drop end bytes)) (Some bytes) = by rest at_end after in
    (omega (arith, size), subst (λ (l : List ℕ). TakesLine (unread rest bytes) (unread rest (drop end bytes)) (Some l)) (sym line) taken)
  where
    by : (rest : Option (List ℕ)) → IsAtEnd rest → drop end bytes ≡ [] → TakesLine (unread rest bytes) (unread rest (drop end bytes)) (Some bytes)
    by None at_end after = tt
    by (Some r) at_end after =
        ap text_lines (ap (λ (l : List ℕ). bytes ++ l) at_end ∙ append-nil bytes) ∙ last_line bytes lacks some
        ∙ ap (λ (l : List ℕ). bytes ∷ text_lines l) (sym ((λ i. after i ++ at_end i)))

pub found_none : (rest : Option (List ℕ)) (bytes : List ℕ) → IsAtEnd rest → bytes ≡ [] → FindsLine rest bytes None
found_none None bytes at_end none = tt
found_none (Some r) bytes at_end none = ap text_lines (λ i. none i ++ at_end i)

-- a read moves bytes from the reader to those that were read, and loses none
pub read_on : (rest left : Option (List ℕ)) (bytes piece more : List ℕ) → Consumes rest left piece → more ≡ bytes ++ piece → Keeps (unread rest bytes) (unread left more)
read_on None left bytes piece more is same = tt
read_on (Some r) None bytes piece more is same = absurd is
read_on (Some r) (Some l) bytes piece more is same = ap (λ x. x ++ l) same ∙ append_assoc bytes piece l ∙ ap (λ x. bytes ++ x) (sym is)

pub kept_on : (rest left : Option (List ℕ)) (bytes more : List ℕ) → Keeps rest left → more ≡ bytes → Keeps (unread rest bytes) (unread left more)
kept_on None left bytes more is same = tt
kept_on (Some r) None bytes more is same = absurd is
kept_on (Some r) (Some l) bytes more is same = λ i. same i ++ is i

pub keeps_itself : (a : Option (List ℕ)) → Keeps a a
keeps_itself None = tt
keeps_itself (Some a) = refl

pub keeps_on : (a b c : Option (List ℕ)) → Keeps a b → Keeps b c → Keeps a c
keeps_on None b c ab bc = tt
keeps_on (Some a) None c ab bc = absurd ab
keeps_on (Some a) (Some b) None ab bc = absurd bc
keeps_on (Some a) (Some b) (Some c) ab bc = bc ∙ ab

-- what is taken of the same is taken of the first
pub takes_of : (a b c : Option (List ℕ)) (taken : Option (List ℕ)) → Keeps a b → TakesLine b c taken → TakesLine a c taken
takes_of None b c taken same takes = tt
takes_of (Some a) None c taken same takes = absurd same
takes_of (Some a) (Some b) None (Some line) same takes = absurd takes
takes_of (Some a) (Some b) None None same takes = absurd takes
takes_of (Some a) (Some b) (Some c) (Some line) same takes = ap text_lines (sym same) ∙ takes
takes_of (Some a) (Some b) (Some c) None same takes = ap text_lines (sym same) ∙ takes

-- A LINE THAT IS TOO LONG: where a whole one is
pub whole_overlong : (rest : Option (List ℕ)) (bytes : List ℕ) (end : ℕ) → EndsLine bytes end → 4097 < end → has_overlong (unread rest bytes) ≡ true
whole_overlong None bytes end is long = refl
whole_overlong (Some r) bytes end is long =
    let lines : text_lines (bytes ++ r) ≡ is.line ∷ text_lines (is.left ++ r) = ap (λ (l : List ℕ). text_lines (l ++ r)) is.cut ∙ takes_whole (Some r) is.line is.left is.lacks in
    let more : nat_lt 4096 (length is.line) ≡ true = lt-ltb 4096 (length is.line) (omega (arith, is.size, long)) in
    ap (list_any is_overlong) lines ∙ ap (λ (b : Bool). b || list_any is_overlong (text_lines (is.left ++ r))) more

-- a line that goes on
goes_on : (xs ys first : List ℕ) (parts : List (List ℕ)) → All (λ b. (b == 10) ≡ false) xs → slice_split (λ b. b == 10) ys ≡ first ∷ parts → slice_split (λ b. b == 10) (xs ++ ys) ≡ (xs ++ first) ∷ parts
goes_on [] ys first parts lacks is = is
goes_on (x ∷ xs) ys first parts lacks is =
    ap (λ (b : Bool). cond b ([] ∷ slice_split (λ b. b == 10) (xs ++ ys)) (onto_first x (slice_split (λ b. b == 10) (xs ++ ys)))) (lacks 0 0 (omega arith))
    ∙ ap (onto_first x) (goes_on xs ys first parts (λ k d less. lacks (suc k) d (omega (arith, less))) is)

-- or so much of one was read
pub begun_overlong : (rest : Option (List ℕ)) (bytes : List ℕ) → All (λ b. (b == 10) ≡ false) bytes → 4096 < length bytes → has_overlong (unread rest bytes) ≡ true
begun_overlong None bytes lacks long = refl
begun_overlong (Some r) [] lacks long = absurd (omega (arith, long))
begun_overlong (Some r) (x ∷ xs) lacks long =
    let some = some_part (λ b. b == 10) r in
    let line : List ℕ = x ∷ xs ++ some.0 in
    let lines = ap without_empty_last (goes_on (x ∷ xs) r some.0 some.1 lacks some.2) in
    let size = length-append (x ∷ xs) some.0 in
    let more : nat_lt 4096 (length line) ≡ true = lt-ltb 4096 (length line) (omega (arith, long, size)) in
    ap (list_any is_overlong) lines ∙ ap (λ (b : Bool). b || list_any is_overlong (without_empty_last some.1)) more

-- what is too long is so where nothing was lost
pub overlong_of : (a b : Option (List ℕ)) → Keeps a b → has_overlong b ≡ true → has_overlong a ≡ true
overlong_of None b same is = refl
overlong_of (Some a) None same is = absurd same
overlong_of (Some a) (Some b) same is = ap (λ (l : List ℕ). list_any is_overlong (text_lines l)) (sym same) ∙ is

-- and was so before a line was taken
pub overlong_left : (a b : Option (List ℕ)) (line : List ℕ) → TakesLine a b (Some line) → LosesLines a b
overlong_left None b line takes is = refl
overlong_left (Some a) None line takes is = absurd takes
overlong_left (Some a) (Some b) line takes is = ap (list_any is_overlong) takes ∙ by (is_overlong line)
  where
    by : (first : Bool) → (first || list_any is_overlong (text_lines b)) ≡ true
    by true = refl
    by false = is
