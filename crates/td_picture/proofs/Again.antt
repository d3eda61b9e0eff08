-- The listing of a plan spells that plan.
use Rattle.std.proofs.Common.{◌≡◌, ℕ, ◌≤◌, Bool, true, false, ◌==◌, nat_le, cond, if◌then◌else◌, List, [], ◌∷◌, ◌++◌, codes, refl, sym, ap, ◌∙◌, arith, subst}
use Rattle.std.specs.Prelude.{Option, Some, None}
use Rattle.std.specs.List.{list_all, slice_split, onto_first, join_with_byte}
use Rattle.std.proofs.lemmas.List.{append_assoc}
use Rattle.std.proofs.lemmas.Bool.{leb-true}
use Rattle.std.proofs.lemmas.Bool.Decides.{nat_tests}
use Rattle.td_plan.specs.Text.{text_lines, without_empty_last, words, is_printable, is_passed_over}
use Rattle.td_plan.specs.Lines.{Line, words_of as line_words, has_form, text_of_line}
use Rattle.td_plan.specs.Lines.Line.{vertex, loop, end}
use Rattle.td_plan.specs.Faults.{IsPlan}
use Rattle.td_plan.specs.Texts.{AreReadAs, IsReadAs, plan_lines, PlanText}
use Rattle.td_picture.specs.Words.{Text, told_of, has_closure}
use Rattle.td_picture.specs.Listed.{listed_line, listing_of}
use Rattle.td_picture.proofs.Printable.{is_plain, words_plain, line_plain}
use Rattle.td_picture.proofs.Rows.{both}

-- THE FIRST LINE OF A TEXT
no_feed : (x : ℕ) → is_printable x ≡ true → (x == 10) ≡ false
no_feed x h = let p = both (nat_le 32 x) (nat_le x 126) h in let low : 32 ≤ x = leb-true 32 x p.0 in grind (arith, nat_tests)

split : (line rest : Text) → is_plain line ≡ true → slice_split (λ b. b == 10) (line ++ 10 ∷ rest) ≡ line ∷ slice_split (λ b. b == 10) rest
split [] rest h = refl
split (x ∷ line) rest h = let p = both (is_printable x) (is_plain line) h in rw (no_feed x p.0, split line rest p.1)

some_part : (p : ℕ → Bool) (xs : Text) → (part : Text) × (parts : List Text) × (slice_split p xs ≡ part ∷ parts)
some_part p [] = ([], [], refl)
some_part p (x ∷ xs) = by (p x) (slice_split p xs)
  where
    by : (b : Bool) (rest : List Text) → (part : Text) × (parts : List Text) × (cond b ([] ∷ rest) (onto_first x rest) ≡ part ∷ parts)
    by true rest = ([], rest, refl)
    by false [] = (x ∷ [], [], refl)
    by false (part ∷ parts) = (x ∷ part, parts, refl)

without-more : (part next : Text) (parts : List Text) → without_empty_last (part ∷ next ∷ parts) ≡ part ∷ without_empty_last (next ∷ parts)
without-more [] next parts = refl
without-more (b ∷ bs) next parts = refl

first_line : (line rest : Text) → is_plain line ≡ true → text_lines (line ++ 10 ∷ rest) ≡ line ∷ text_lines rest
first_line line rest h =
    let some = some_part (λ b. b == 10) rest in
    let more : text_lines (line ++ 10 ∷ rest) ≡ without_empty_last (line ∷ some.0 ∷ some.1) = ap without_empty_last (split line rest h ∙ ap (λ (parts : List Text). line ∷ parts) some.2) in
    more ∙ without-more line some.0 some.1 ∙ ap (λ (parts : List Text). line ∷ without_empty_last parts) (sym some.2)

-- a line with its line feed, before others
read_first : (line rest : Text) (r : Option Line) (rs : List (Option Line)) → is_plain line ≡ true → IsReadAs line r → AreReadAs (text_lines rest) rs → AreReadAs (text_lines ((line ++ 10 ∷ []) ++ rest)) (r ∷ rs)
read_first line rest r rs h is more =
    let lines : text_lines ((line ++ 10 ∷ []) ++ rest) ≡ line ∷ text_lines rest = ap text_lines (append_assoc line (10 ∷ []) rest) ∙ first_line line rest h in
    subst (λ (ts : List Text). AreReadAs ts (r ∷ rs)) (sym lines) (is, more)

-- THE LINES OF A LISTING
abbrev has_comment : Line → Bool
has_comment (vertex v) = has_closure v.kind
has_comment _ = false

-- how a line is read, with its comment
abbrev reading_of : Bool → Line → List (Option Line) → List (Option Line)
reading_of true line rs = None ∷ Some line ∷ rs
reading_of false line rs = Some line ∷ rs

abbrev readings_of : List Line → List (Option Line)
readings_of [] = []
readings_of (line ∷ plan) = reading_of (has_comment line) line (readings_of plan)

passed_over : (told : Text) → is_plain told ≡ true → is_passed_over (codes "# " ++ told) ≡ true
passed_over told h = rw h refl

module _ (read_back : (line : Line) → has_form line ≡ true → words (join_with_byte 32 (line_words line)) ≡ line_words line) where
  line_read : (line : Line) (rest : Text) (rs : List (Option Line)) → has_form line ≡ true → AreReadAs (text_lines rest) rs → AreReadAs (text_lines (text_of_line line ++ rest)) (Some line ∷ rs)
  line_read line rest rs form more = read_first (join_with_byte 32 (line_words line)) rest (Some line) rs (line_plain line form) (read_back line form, form) more

  commented : (b : Bool) (told : Text) (line : Line) (rest : Text) (rs : List (Option Line)) → is_plain told ≡ true → has_form line ≡ true → AreReadAs (text_lines rest) rs
      → AreReadAs (text_lines (((if b then codes "# " ++ told ++ codes "\n" else []) ++ text_of_line line) ++ rest)) (reading_of b line rs)
  commented false told line rest rs plain form more = line_read line rest rs form more
  commented true told line rest rs plain form more =
      let comment = codes "# " ++ told in
      let parts : ((comment ++ 10 ∷ []) ++ text_of_line line) ++ rest ≡ (comment ++ 10 ∷ []) ++ (text_of_line line ++ rest) = append_assoc (comment ++ 10 ∷ []) (text_of_line line) rest in
      subst (λ (text : Text). AreReadAs (text_lines text) (None ∷ Some line ∷ rs)) (sym parts)
      (read_first comment (text_of_line line ++ rest) None (Some line ∷ rs) plain (passed_over told plain) (line_read line rest rs form more))

  listed_read : (line : Line) (rest : Text) (rs : List (Option Line)) → has_form line ≡ true → AreReadAs (text_lines rest) rs → AreReadAs (text_lines (listed_line line ++ rest)) (reading_of (has_comment line) line rs)
  listed_read (vertex v) rest rs form more = commented (has_closure v.kind) (told_of v.kind) (vertex v) rest rs (words_plain v.kind) form more
  listed_read (loop bound) rest rs form more = line_read (loop bound) rest rs form more
  listed_read end rest rs form more = line_read end rest rs form more

  all_read : (plan : List Line) → list_all has_form plan ≡ true → AreReadAs (text_lines (listing_of plan)) (readings_of plan)
  all_read [] form = tt
  all_read (line ∷ plan) form =
      let p = both (has_form line) (list_all has_form plan) form in
      listed_read line (listing_of plan) (readings_of plan) p.0 (all_read plan p.1)

  same_lines : (plan : List Line) → plan ≡ plan_lines (readings_of plan)
  same_lines [] = refl
  same_lines (line ∷ plan) = by (has_comment line) (ap (λ (r : List Line). line ∷ r) (same_lines plan))
    where
      by : (b : Bool) → line ∷ plan ≡ line ∷ plan_lines (readings_of plan) → line ∷ plan ≡ plan_lines (reading_of b line (readings_of plan))
      by true rest = rest
      by false rest = rest

  pub listing_read : (plan : List Line) → IsPlan plan → PlanText (listing_of plan) plan
  listing_read plan p = record { readings = readings_of plan; read = all_read plan p.formed; plan_is = same_lines plan; lawful = p }
