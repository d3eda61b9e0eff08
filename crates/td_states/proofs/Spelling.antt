-- The text of a checkpoint spells it.
use Rattle.std.proofs.Common.{◌≡◌, ℕ, zero, suc, ◌<◌, ◌≤◌, ◌^◌, ◌==◌, true, false, List, [], ◌∷◌, ◌++◌, map, codes, ℤ, pos, negsuc, FitsSigned, Option, Some, refl, sym, ap, ◌∙◌, arith}
use Rattle.std.specs.Prelude.{flat_map, slice_index}
use Rattle.std.specs.Int.{w64}
use Rattle.std.specs.Fmt.{decimal, signed_decimal}
use Rattle.std.specs.List.{list_all}
use Rattle.std.proofs.lemmas.Bool.{lt-ltb, ne_eqb}
use Rattle.std.proofs.lemmas.Fmt.{first_decimal, decimal_digit}
use Rattle.std.proofs.lemmas.List.{append_assoc}
use Rattle.std.proofs.lemmas.List.Folds.{list_all-append}
use Rattle.td_gate.specs.Reading.{Each}
use Rattle.td_stamp.specs.declared.values.State.{State}
use Rattle.td_stamp.specs.States.{StateList}
use Rattle.td_plan.specs.Text.{text_lines, words, is_printable, is_comment}
use Rattle.td_slots.specs.declared.slots.Checkpoint.{Checkpoint}
use Rattle.td_slots.specs.Slot.{are_states, FitsState}
use Rattle.td_console.specs.Number.{integer_of}
use Rattle.td_states.specs.declared.line.StatesLine.{StatesLine}
use Rattle.td_states.specs.declared.line.StatesLine.TheVariants.{Kept, Last, Held}
use Rattle.td_states.specs.Lines.{kept_line, last_line, state_line, checkpoint_text, said_by, line_of}
use Rattle.td_states.specs.Spelled.{renamed, last_said, state_said, has_form, said_once, said_of, Spells}
use Rattle.td_states.proofs.Wording.{is_word, number_word, signed_word, word_printable, line_ascii, natural_again, word_first, word_last, line_first}

-- NUMBERS
first_digit : (n : ℕ) → n < 2 ^ 64 → 48 ≤ slice_index (decimal n) 0
first_digit zero h = rw (decimal_digit 0 (omega arith)) (omega arith)
first_digit (suc n) h = let first = first_decimal (suc n) (omega arith) h in omega (arith, first)

no_minus : (n : ℕ) → n < 2 ^ 64 → (slice_index (decimal n) 0 == 45) ≡ false
no_minus n h = ne_eqb (slice_index (decimal n) 0) 45 (λ e. let first = first_digit n h in omega (arith, first, e))

integer_again : (z : ℤ) → FitsSigned w64 z → integer_of (signed_decimal z) ≡ Some z
integer_again (pos n) fits =
    let small : n < 2 ^ 63 = omega (arith, fits) in
    let wide : n < 2 ^ 64 = omega (arith, small) in
    rw (no_minus n wide, natural_again n wide, lt-ltb n (2 ^ 63) small) refl
integer_again (negsuc n) fits =
    let small : n < 2 ^ 63 = omega (arith, fits) in
    let wide : suc n < 2 ^ 64 = omega (arith, small) in
    rw (natural_again (suc n) wide, lt-ltb n (2 ^ 63) small) refl

-- LINES
spaced : (w rest : List ℕ) → is_word w ≡ true → list_all is_printable rest ≡ true → list_all is_printable (w ++ 32 ∷ rest) ≡ true
spaced w rest is h = list_all-append is_printable w (32 ∷ rest) ∙ rw (word_printable w is, h) refl

-- what a line says that has these words, of which the first is no comment
line_said : (line : List ℕ) (ws : List (List ℕ)) → list_all is_printable line ≡ true → words line ≡ ws → is_comment ws ≡ false → line_of line ≡ said_by ws
line_said line ws printable has comment = rw (line_ascii line printable, printable, has, comment) refl

-- `kept E` and `last Q`, without the line feed
abbrev named : List ℕ → ℕ → List ℕ
named word n = word ++ 32 ∷ decimal n

named_printable : (word : List ℕ) (n : ℕ) → is_word word ≡ true → list_all is_printable (named word n) ≡ true
named_printable word n is = spaced word (decimal n) is (word_printable (decimal n) (number_word n))

named_two : (word : List ℕ) (n : ℕ) → is_word word ≡ true → words (named word n) ≡ word ∷ decimal n ∷ []
named_two word n is = word_first word is (decimal n) ∙ ap (λ (ws : List (List ℕ)). word ∷ ws) (word_last (decimal n) (number_word n))

kept_said : (e : ℕ) → e < 2 ^ 64 → line_of (named (codes "kept") e) ≡ Some (Kept e)
kept_said e h =
    line_said (named (codes "kept") e) (codes "kept" ∷ decimal e ∷ []) (named_printable (codes "kept") e refl) (named_two (codes "kept") e refl) refl ∙ rw (natural_again e h) refl

request_said : (q : ℕ) → q < 2 ^ 64 → line_of (named (codes "last") q) ≡ Some (Last q)
request_said q h =
    line_said (named (codes "last") q) (codes "last" ∷ decimal q ∷ []) (named_printable (codes "last") q refl) (named_two (codes "last") q refl) refl ∙ rw (natural_again q h) refl

-- `state VERTEX KEY A B`
abbrev state_words : (ℕ × ℕ) × State → List ℕ
state_words ((v, k), s) = codes "state" ++ (32 ∷ (decimal v ++ (32 ∷ (decimal k ++ (32 ∷ (signed_decimal s.a ++ (32 ∷ signed_decimal s.b)))))))

state_printable : (v k : ℕ) (s : State) → list_all is_printable (state_words ((v, k), s)) ≡ true
state_printable v k s =
    let b = signed_decimal s.b in
    let a = signed_decimal s.a ++ (32 ∷ b) in
    let key = decimal k ++ (32 ∷ a) in
    spaced (codes "state") (decimal v ++ (32 ∷ key)) refl
    (spaced (decimal v) key (number_word v) (spaced (decimal k) a (number_word k) (spaced (signed_decimal s.a) b (signed_word s.a) (word_printable b (signed_word s.b)))))

abbrev five : ℕ → ℕ → State → List (List ℕ)
five v k s = codes "state" ∷ decimal v ∷ decimal k ∷ signed_decimal s.a ∷ signed_decimal s.b ∷ []

state_five : (v k : ℕ) (s : State) → words (state_words ((v, k), s)) ≡ five v k s
state_five v k s =
    let b = signed_decimal s.b in
    let a = signed_decimal s.a ++ (32 ∷ b) in
    let key = decimal k ++ (32 ∷ a) in
    word_first (codes "state") refl (decimal v ++ (32 ∷ key)) ∙ ap (λ (ws : List (List ℕ)). codes "state" ∷ ws) (word_first (decimal v) (number_word v) key
    ∙ ap (λ (ws : List (List ℕ)). decimal v ∷ ws) (word_first (decimal k) (number_word k) a
    ∙ ap (λ (ws : List (List ℕ)). decimal k ∷ ws) (word_first (signed_decimal s.a) (signed_word s.a) b
    ∙ ap (λ (ws : List (List ℕ)). signed_decimal s.a ∷ ws) (word_last b (signed_word s.b)))))

held_said : (v k : ℕ) (s : State) → FitsState ((v, k), s) → line_of (state_words ((v, k), s)) ≡ Some (Held v k s)
held_said v k s fits =
    line_said (state_words ((v, k), s)) (five v k s) (state_printable v k s) (state_five v k s) refl
    ∙ rw (natural_again v fits.vertex, natural_again k fits.key, integer_again s.a fits.a, integer_again s.b fits.b) refl

-- A TEXT IS READ: its lines have forms, and say this
pub record Says (text : List ℕ) (what : List StatesLine) : Type 0 where
  pub forms : list_all has_form (text_lines text) ≡ true
  pub said : said_of (text_lines text) ≡ what

says_none : Says [] []
says_none = record { forms = refl; said = refl }

-- a line more at its front
says_line : (line rest text : List ℕ) (one : StatesLine) (said : List StatesLine) → text ≡ line ++ 10 ∷ rest → list_all is_printable line ≡ true → line_of line ≡ Some one → said_once (Some one) ≡ one ∷ []
    → Says rest said → Says text (one ∷ said)
says_line line rest text one said is printable says once more =
    let lines : text_lines text ≡ line ∷ text_lines rest = ap text_lines is ∙ line_first line rest printable in
    record {
      forms = ap (list_all has_form) lines ∙ rw (says, more.forms) refl;
      said = ap said_of lines ∙ ap (λ (o : Option StatesLine). said_once o ++ said_of (text_lines rest)) says ∙ ap (λ (l : List StatesLine). l ++ said_of (text_lines rest)) once
          ∙ ap (λ (l : List StatesLine). one ∷ l) more.said;
    }

says_states : (states : StateList) → Each FitsState states → Says (flat_map state_line states) (map state_said states)
says_states [] fits = says_none
says_states (((v, k), s) ∷ states) fits =
    says_line (state_words ((v, k), s)) (flat_map state_line states) (flat_map state_line (((v, k), s) ∷ states)) (Held v k s) (map state_said states) is (state_printable v k s) (held_said v k s fits.0) refl
    (says_states states fits.1)
  where
    is : state_line ((v, k), s) ++ flat_map state_line states ≡ state_words ((v, k), s) ++ 10 ∷ flat_map state_line states
    is = simp append_assoc

says_last : (q : ℕ) (rest : List ℕ) (said : List StatesLine) → q < 2 ^ 64 → Says rest said → Says (last_line q ++ rest) (last_said q ++ said)
says_last zero rest said h more = more
says_last (suc q) rest said h more =
    says_line (named (codes "last") (suc q)) rest (last_line (suc q) ++ rest) (Last (suc q)) said is (named_printable (codes "last") (suc q) refl) (request_said (suc q) h) refl more
  where
    is : last_line (suc q) ++ rest ≡ named (codes "last") (suc q) ++ 10 ∷ rest
    is = ap (λ (l : List ℕ). codes "last " ++ l) (append_assoc (decimal (suc q)) (10 ∷ []) rest)

says_kept : (e : ℕ) (rest : List ℕ) (said : List StatesLine) → e < 2 ^ 64 → Says rest said → Says (kept_line e ++ rest) (Kept e ∷ said)
says_kept e rest said h more =
    says_line (named (codes "kept") e) rest (kept_line e ++ rest) (Kept e) said is (named_printable (codes "kept") e refl) (kept_said e h) refl more
  where
    is : kept_line e ++ rest ≡ named (codes "kept") e ++ 10 ∷ rest
    is = ap (λ (l : List ℕ). codes "kept " ++ l) (append_assoc (decimal e) (10 ∷ []) rest)

-- no vertex is renamed
same_renamed : (states : StateList) → states ≡ map (renamed []) states
same_renamed [] = refl
same_renamed (((v, k), s) ∷ states) = ap (λ (l : StateList). ((v, k), s) ∷ l) (same_renamed states)

pub spells_itself : (folds : List ℕ) (c : Checkpoint) → are_states folds c.states ≡ true → c.epoch < 2 ^ 63 → c.slot ≡ 0 → c.last < 2 ^ 64 → Each FitsState c.states → Spells folds [] (text_lines (checkpoint_text c)) c
spells_itself folds c lawful small slot last fits =
    let states = flat_map state_line c.states in
    let wide : c.epoch < 2 ^ 64 = omega (arith, small) in
    let text : kept_line c.epoch ++ (last_line c.last ++ states) ≡ checkpoint_text c = sym (append_assoc (kept_line c.epoch) (last_line c.last) states) in
    let says = says_kept c.epoch (last_line c.last ++ states) (last_said c.last ++ map state_said c.states) wide (says_last c.last states (map state_said c.states) last (says_states c.states fits)) in
    record {
      written = c.states;
      forms = ap (λ (t : List ℕ). list_all has_form (text_lines t)) (sym text) ∙ says.forms;
      said = ap (λ (t : List ℕ). said_of (text_lines t)) (sym text) ∙ says.said;
      renames_to = same_renamed c.states;
      lawful = lawful;
      small = small;
      slot = slot;
    }
