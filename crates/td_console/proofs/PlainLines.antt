-- Plain data lines, from their three numbers.
use Rattle.std.proofs.Common.{◌≡◌, ℕ, zero, suc, ◌+◌, ◌-◌, ◌<◌, ◌≤◌, ◌^◌, ◌==◌, Bool, true, false, ◌&&◌, ◌||◌, not, cond, nat_lt, nat_le, List, [], ◌∷◌, ◌++◌, length, drop, get_or, slice_index, filter, ℤ, pos, negsuc, ◌-ℤ◌, to_z, of_z, w64, subst, Some, None, All, refl, sym, ap, ◌∙◌, arith, append_assoc, length-append, rules}
use Rattle.std.specs.List.{list_all, slice_split}
use Rattle.std.specs.Char.{is_ascii, is_ascii_digit}
use Rattle.std.specs.Str.{IsUtf8, IsCharBoundary}
use Rattle.std.specs.Int.{IsInRange}
use Rattle.std.specs.Str.Parse.{digits_value}
use Rattle.std.proofs.Math.Bool.{and-false}
use Rattle.std.proofs.lemmas.Bool.{ne_eqb, lt-ltb, leb-true, le-leb}
use Rattle.std.proofs.lemmas.List.Folds.{list_all-append}
use Rattle.std.proofs.lemmas.List.Elements.{All-nil, All-cons}
use Rattle.std.proofs.lemmas.List.Splits.{slice_split_at, slice_split_none}
use Rattle.std.proofs.lemmas.Int.{ints, to_z_pos, to_z-of_z}
use Rattle.std.proofs.Math.Seq.{drop-append_seam}
use Rattle.std.proofs.lemmas.List.{get_or-append-add}
use Rattle.std.proofs.lemmas.Str.{IsCharBoundary-after_ascii}
use Rattle.std.proofs.lemmas.Str.Parse.{IsNumeralModel, numerals_by_value, digits_value_short}
use Rattle.td_plan.specs.Text.{text_lines, words, is_printable, is_comment, is_passed_over, natural_of, of_nine_digits, number_of}
use Rattle.td_console.specs.declared.data_line.DataLine.TheVariants.{PassedOver, Record}
use Rattle.td_console.specs.Data.{record_of, spelled, data_line_of}
use Rattle.td_console.specs.Number.{integer_of}
use Rattle.td_console.specs.Plain.{IsFrontNumber, IsFrontInteger, IsPlain, is_sign_or_digit}
use Rattle.td_console.proofs.Separated.{both}
use Rattle.td_console.proofs.Cuts.{lines_cut}

-- what each byte passes
weaker : (p q : ℕ → Bool) → ((b : ℕ) → p b ≡ true → q b ≡ true) → (xs : List ℕ) → list_all p xs ≡ true → list_all q xs ≡ true
weaker p q f [] h = refl
weaker p q f (x ∷ xs) h = let e = both (p x) (list_all p xs) h in rw (f x e.0, weaker p q f xs e.1) refl

none_is : (p : ℕ → Bool) (c : ℕ) → ((b : ℕ) → p b ≡ true → (b == c) ≡ false) → (xs : List ℕ) → list_all p xs ≡ true → All (λ b. (b == c) ≡ false) xs
none_is p c f [] h = All-nil (λ b. (b == c) ≡ false)
none_is p c f (x ∷ xs) h = let e = both (p x) (list_all p xs) h in All-cons (λ b. (b == c) ≡ false) x xs (f x e.0) (none_is p c f xs e.1)

-- digits, and what they write
own : IsNumeralModel (λ ds. list_all is_ascii_digit ds ≡ true) (digits_value 10)
own = numerals_by_value _ (search rules)

pub few_digits : (ds : List ℕ) (most : ℕ) → list_all is_ascii_digit ds ≡ true → length ds ≤ most → digits_value 10 ds < 10 ^ most
few_digits ds most h le = digits_value_short own ds most h le

pub digit_range : (b : ℕ) → is_ascii_digit b ≡ true → IsInRange 48 57 b
digit_range b h = let e = both (nat_le 48 b) (nat_le b 57) h in (leb-true 48 b e.0, leb-true b 57 e.1)

sign_of_digit : (b : ℕ) → is_ascii_digit b ≡ true → is_sign_or_digit b ≡ true
sign_of_digit b h = let r = digit_range b h in rw (le-leb 45 b (omega (arith, r.0)), le-leb b 57 r.1) refl

pub signs_of_digits : (ds : List ℕ) → list_all is_ascii_digit ds ≡ true → list_all is_sign_or_digit ds ≡ true
signs_of_digits ds h = weaker is_ascii_digit is_sign_or_digit sign_of_digit ds h

pub written : (word : List ℕ) → list_all is_ascii_digit word ≡ true → (nat_lt 0 (length word) && (not (slice_index word 0 == 48) || (length word == 1))) ≡ true
    → digits_value 10 word < 2 ^ 64 → natural_of word ≡ Some (digits_value 10 word)
unfolding natural_of
written word digits first small = rw (digits, first, lt-ltb (digits_value 10 word) (2 ^ 64) small) refl

-- words that write numbers are no empty ones
natural_some : (word : List ℕ) (n : ℕ) → natural_of word ≡ Some n → 0 < length word
unfolding natural_of
natural_some [] n h = cc
natural_some (b ∷ word) n h = omega arith

integer_some : (word : List ℕ) (z : ℤ) → integer_of word ≡ Some z → 0 < length word
unfolding natural_of
integer_some [] z h = cc
integer_some (b ∷ word) z h = omega arith

-- a number with no sign
not_minus : (word : List ℕ) → list_all is_ascii_digit word ≡ true → (slice_index word 0 == 45) ≡ false
not_minus [] h = refl
not_minus (b ∷ word) h = let r = digit_range b (both (is_ascii_digit b) (list_all is_ascii_digit word) h).0 in ne_eqb b 45 (λ e. omega (arith, r.0, e))

pub positive_front : (bytes : List ℕ) (n : ℕ) (rest : List ℕ) → IsFrontNumber bytes 18 n rest → IsFrontInteger bytes (to_z w64 n) rest
positive_front bytes n rest f =
    let small : n < 2 ^ 63 = omega (arith, f.small) in
    subst (λ z. IsFrontInteger bytes z rest) (sym (to_z_pos w64 n small)) record {
      word = f.word;
      cut = f.cut;
      signs = signs_of_digits f.word f.digits;
      written = rw (not_minus f.word f.digits, f.written, lt-ltb n (2 ^ 63) small) refl;
      fits = omega (arith, ints);
    }

-- and one that follows a minus sign
pub negative_front : (bytes : List ℕ) (n : ℕ) (rest : List ℕ) → IsFrontNumber bytes 18 n rest → (n ≡ 0 → ⊥)
    → IsFrontInteger (45 ∷ bytes) (to_z w64 (of_z w64 (pos 0 -ℤ to_z w64 n))) rest
negative_front bytes zero rest f some = absurd (some refl)
negative_front bytes (suc m) rest f some =
    let small : m < 2 ^ 63 = omega (arith, f.small) in
    let less : pos 0 -ℤ pos (suc m) ≡ negsuc m = omega (arith, ints) in
    let e : to_z w64 (of_z w64 (pos 0 -ℤ to_z w64 (suc m))) ≡ negsuc m =
    ap (λ z. to_z w64 (of_z w64 (pos 0 -ℤ z))) (to_z_pos w64 (suc m) (omega (arith, f.small)))
    ∙ ap (λ z. to_z w64 (of_z w64 z)) less ∙ to_z-of_z w64 (negsuc m) (omega (arith, ints)) in
    subst (λ z. IsFrontInteger (45 ∷ bytes) z rest) (sym e) record {
      word = 45 ∷ f.word;
      cut = ap (λ r. 45 ∷ r) f.cut;
      signs = signs_of_digits f.word f.digits;
      written = rw (f.written, lt-ltb m (2 ^ 63) small) refl;
      fits = omega (arith, ints);
    }

-- three words with one space between them
module _ (i k v : List ℕ) (is : list_all is_sign_or_digit i ≡ true) (ks : list_all is_sign_or_digit k ≡ true) (vs : list_all is_sign_or_digit v ≡ true) where
  abbrev line : List ℕ
  line = i ++ 32 ∷ (k ++ 32 ∷ v)

  no_space : (b : ℕ) → is_sign_or_digit b ≡ true → (b == 32) ≡ false
  no_space b h = let e = leb-true 45 b (both (nat_le 45 b) (nat_le b 57) h).0 in ne_eqb b 32 (λ f. omega (arith, e, f))

  parts : slice_split (λ b. b == 32) line ≡ i ∷ k ∷ v ∷ []
  parts =
      let p : ℕ → Bool = λ b. b == 32 in
      slice_split_at p i 32 (k ++ 32 ∷ v) (none_is is_sign_or_digit 32 no_space i is) refl
      ∙ ap (λ r. i ∷ r) (slice_split_at p k 32 v (none_is is_sign_or_digit 32 no_space k ks) refl
      ∙ ap (λ r. k ∷ r) (slice_split_none p v (none_is is_sign_or_digit 32 no_space v vs)))

  words_are : 0 < length i → 0 < length k → 0 < length v → words line ≡ i ∷ k ∷ v ∷ []
  words_are some_i some_k some_v =
      ap (filter (λ w. nat_lt 0 (length w))) parts
      ∙ rw (lt-ltb 0 (length i) some_i, lt-ltb 0 (length k) some_k, lt-ltb 0 (length v) some_v) refl

  -- a byte of a plain line
  abbrev in_line : ℕ → Bool
  in_line b = nat_le 32 b && nat_le b 57

  wider : (b : ℕ) → is_sign_or_digit b ≡ true → in_line b ≡ true
  wider b h = let e = both (nat_le 45 b) (nat_le b 57) h in let le = leb-true 45 b e.0 in rw (le-leb 32 b (omega (arith, le)), e.1) refl

  all_in_line : list_all in_line line ≡ true
  all_in_line =
      list_all-append in_line i (32 ∷ (k ++ 32 ∷ v))
      ∙ rw (weaker is_sign_or_digit in_line wider i is, list_all-append in_line k (32 ∷ v), weaker is_sign_or_digit in_line wider k ks, weaker is_sign_or_digit in_line wider v vs) refl

  ascii : list_all is_ascii line ≡ true
  ascii = weaker in_line is_ascii (λ b h. let e = leb-true b 57 (both (nat_le 32 b) (nat_le b 57) h).1 in lt-ltb b 128 (omega (arith, e))) line all_in_line

  no_feed : All (λ b. (b == 10) ≡ false) line
  no_feed = none_is in_line 10 (λ b h. let e = leb-true 32 b (both (nat_le 32 b) (nat_le b 57) h).0 in ne_eqb b 10 (λ f. omega (arith, e, f))) line all_in_line

  lines_are : (bytes rest : List ℕ) → bytes ≡ line ++ 10 ∷ rest → text_lines bytes ≡ line ∷ text_lines rest
  lines_are bytes rest e = lines_cut bytes line rest (ap (slice_split (λ b. b == 10)) e ∙ slice_split_at (λ b. b == 10) line 10 rest no_feed refl)

  joined : (rest : List ℕ) → line ++ 10 ∷ rest ≡ i ++ 32 ∷ (k ++ 32 ∷ (v ++ 10 ∷ rest))
  joined rest = append_assoc i (32 ∷ (k ++ 32 ∷ v)) (10 ∷ rest) ∙ ap (λ r. i ++ 32 ∷ r) (append_assoc k (32 ∷ v) (10 ∷ rest))

  not_comment : list_all is_ascii_digit i ≡ true → 0 < length i → (slice_index i 0 == 35) ≡ false
  not_comment digits some = by i digits some
    where
      by : (w : List ℕ) → list_all is_ascii_digit w ≡ true → 0 < length w → (slice_index w 0 == 35) ≡ false
      by [] d s = absurd (omega arith)
      by (b ∷ w) d s = let r = digit_range b (both (is_ascii_digit b) (list_all is_ascii_digit w) d).0 in ne_eqb b 35 (λ e. omega (arith, r.0, e))

  says : (n key : ℕ) (z : ℤ) → list_all is_ascii_digit i ≡ true → natural_of i ≡ Some n → n < 10 ^ 9 → natural_of k ≡ Some key → integer_of v ≡ Some z
      → data_line_of line ≡ Some (Record n (record { key = key; val = z }))
  says n key z digits wi small wk wv =
      let some = natural_some i n wi in
      let are = words_are some (natural_some k key wk) (integer_some v z wv) in
      let passed : is_passed_over line ≡ false = ap (λ ws. list_all is_printable line && is_comment ws) are ∙ rw (not_comment digits some) (and-false (list_all is_printable line)) in
      let input : number_of i ≡ Some n = ap of_nine_digits wi ∙ ap (λ b. cond b (Some n) None) (lt-ltb n 1000000000 small) in
      ap (λ b. cond b (Some PassedOver) (spelled (words line))) passed ∙ ap spelled are ∙ (λ j. record_of (input j) (wk j) (wv j))

pub is_plain : (bytes after_i from_k after_k from_v after_v rest : List ℕ) (n key : ℕ) (z : ℤ) → IsFrontNumber bytes 9 n after_i → after_i ≡ 32 ∷ from_k
    → IsFrontNumber from_k 19 key after_k → after_k ≡ 32 ∷ from_v → IsFrontInteger from_v z after_v → after_v ≡ 10 ∷ rest
    → IsPlain bytes n (record { key = key; val = z }) rest
is_plain bytes after_i from_k after_k from_v after_v rest n key z i a k b v c =
    let is = signs_of_digits i.word i.digits in
    let ks = signs_of_digits k.word k.digits in
    let cut : bytes ≡ line i.word k.word v.word is ks v.signs ++ 10 ∷ rest =
    i.cut ∙ ap (λ r. i.word ++ r) (a ∙ ap (λ r. 32 ∷ r) (k.cut ∙ ap (λ r. k.word ++ r) (b ∙ ap (λ r. 32 ∷ r) (v.cut ∙ ap (λ r. v.word ++ r) c))))
    ∙ sym (joined i.word k.word v.word is ks v.signs rest) in
    record {
      line = line i.word k.word v.word is ks v.signs;
      cut = cut;
      lines = lines_are i.word k.word v.word is ks v.signs bytes rest cut;
      ascii = ascii i.word k.word v.word is ks v.signs;
      says = says i.word k.word v.word is ks v.signs n key z i.digits i.written i.small k.written v.written;
    }

-- where a text is cut after its first line
module _ (text line rest : List ℕ) (cut : text ≡ line ++ 10 ∷ rest) where
  size : length text ≡ length line + suc (length rest)
  size = ap length cut ∙ length-append line (10 ∷ rest)

  pub seam : IsUtf8 text → IsCharBoundary text (length text - length rest)
  seam utf8 =
      let e = size in
      let at : length text - length rest ≡ length line + 1 = omega arith in
      let end : length line ≡ length line + 0 = omega arith in
      let feed : get_or text (length line) 0 ≡ 10 = ap (λ t. get_or t (length line) 0) cut ∙ ap (λ k. get_or (line ++ 10 ∷ rest) k 0) end ∙ get_or-append-add line (10 ∷ rest) 0 0 in
      rw at (IsCharBoundary-after_ascii text (length line) utf8 (omega arith) (omega (arith, feed)))

  pub after_line : drop (length text - length rest) text ≡ rest
  after_line =
      let e = size in
      let at : length text - length rest ≡ length (line ++ 10 ∷ []) = omega (arith, length-append line (10 ∷ [])) in
      ap (λ n. drop n text) at ∙ ap (drop (length (line ++ 10 ∷ []))) (cut ∙ sym (append_assoc line (10 ∷ []) rest)) ∙ drop-append_seam (line ++ 10 ∷ []) rest

  pub shorter : length rest < length text
  shorter = let e = size in omega arith
