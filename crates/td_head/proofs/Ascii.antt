-- The canonical text of a plan is ASCII.
use Rattle.std.proofs.Common.{◌≡◌, ℕ, zero, suc, ◌&&◌, nat_lt, true, List, [], ◌∷◌, ◌++◌, length, map, codes, refl, arith}
use Rattle.std.specs.Prelude.{decimal}
use Rattle.std.specs.List.{join_with_byte, list_all}
use Rattle.std.specs.Str.{IsAscii, IsUtf8}
use Rattle.std.proofs.lemmas.Bool.{and_parts, ltb-true, leb-true}
use Rattle.std.proofs.lemmas.Fmt.{IsAscii-decimal}
use Rattle.std.proofs.lemmas.Str.{IsAscii-append, IsUtf8-from_ascii}
use Rattle.td_gate.specs.Reading.{Each}
use Rattle.td_plan.specs.declared.vertex.Kind.{Kind}
use Rattle.td_plan.specs.declared.vertex.Kind.TheVariants.{Input, Map, Distinct, Group, Fold, Enter, Feedback, Leave, Output}
use Rattle.td_plan.specs.Text.{has_nine_digits}
use Rattle.td_plan.specs.Lines.{Line, words_of_kind, words_of, has_arity, has_code, has_form, text_of_line, text_of}

ascii_from : (bs : List ℕ) → list_all (λ b. nat_lt b 128) bs ≡ true → IsAscii bs
ascii_from [] h i = omega arith
ascii_from (b ∷ bs) h zero = ltb-true b 128 (and_parts (nat_lt b 128) (list_all (λ b. nat_lt b 128) bs) h).0
ascii_from (b ∷ bs) h (suc i) = ascii_from bs (and_parts (nat_lt b 128) (list_all (λ b. nat_lt b 128) bs) h).1 i

ascii_number : (n : ℕ) → has_nine_digits n ≡ true → IsAscii (decimal n)
ascii_number n h = let lt = ltb-true n 1000000000 h in IsAscii-decimal n (omega (arith, lt))

ascii_join : (ws : List (List ℕ)) → Each IsAscii ws → IsAscii (join_with_byte 32 ws)
ascii_join [] all = ascii_from [] refl
ascii_join (w ∷ []) all = all.0
ascii_join (w ∷ v ∷ ws) all = IsAscii-append w (32 ∷ join_with_byte 32 (v ∷ ws)) all.0 (IsAscii-append (32 ∷ []) (join_with_byte 32 (v ∷ ws)) (ascii_from (32 ∷ []) refl) (ascii_join (v ∷ ws) all.1))

ascii_numbers : (ns : List ℕ) → list_all has_nine_digits ns ≡ true → Each IsAscii (map decimal ns)
ascii_numbers [] h = tt
ascii_numbers (n ∷ ns) h = let parts = and_parts (has_nine_digits n) (list_all has_nine_digits ns) h in (ascii_number n parts.0, ascii_numbers ns parts.1)

ascii_code : (n : ℕ) → has_code (Map n) ≡ true → IsAscii (decimal n)
ascii_code n h = let le = leb-true n 65535 h in IsAscii-decimal n (omega (arith, le))

ascii_kind : (k : Kind) (rest : List (List ℕ)) → has_code k ≡ true → Each IsAscii rest → Each IsAscii (words_of_kind k ++ rest)
ascii_kind Input rest h all = (ascii_from (codes "input") refl, all)
ascii_kind (Map code) rest h all = (ascii_from (codes "map") refl, (ascii_code code h, all))
ascii_kind Distinct rest h all = (ascii_from (codes "distinct") refl, all)
ascii_kind (Group code) rest h all = (ascii_from (codes "group") refl, (ascii_code code h, all))
ascii_kind (Fold code) rest h all = (ascii_from (codes "fold") refl, (ascii_code code h, all))
ascii_kind Enter rest h all = (ascii_from (codes "enter") refl, all)
ascii_kind Feedback rest h all = (ascii_from (codes "feedback") refl, all)
ascii_kind Leave rest h all = (ascii_from (codes "leave") refl, all)
ascii_kind Output rest h all = (ascii_from (codes "output") refl, all)

ascii_words : (l : Line) → has_form l ≡ true → Each IsAscii (words_of l)
ascii_words (Line.vertex v) h =
    let one = and_parts (has_nine_digits v.number && has_code v.kind && list_all has_nine_digits v.sources) (has_arity v.kind (length v.sources)) h in
    let two = and_parts (has_nine_digits v.number && has_code v.kind) (list_all has_nine_digits v.sources) one.0 in
    let three = and_parts (has_nine_digits v.number) (has_code v.kind) two.0 in
    (ascii_number v.number three.0, ascii_kind v.kind (map decimal v.sources) three.1 (ascii_numbers v.sources two.1))
ascii_words (Line.loop bound) h = (ascii_from (codes "loop") refl, (ascii_number bound h, tt))
ascii_words Line.end h = (ascii_from (codes "end") refl, tt)

ascii_text : (plan : List Line) → list_all has_form plan ≡ true → IsAscii (text_of plan)
ascii_text [] h = ascii_from [] refl
ascii_text (l ∷ ls) h =
    let parts = and_parts (has_form l) (list_all has_form ls) h in
    IsAscii-append (text_of_line l) (text_of ls) (IsAscii-append (join_with_byte 32 (words_of l)) (10 ∷ []) (ascii_join (words_of l) (ascii_words l parts.0)) (ascii_from (10 ∷ []) refl)) (ascii_text ls parts.1)

pub utf8_text : (plan : List Line) → list_all has_form plan ≡ true → IsUtf8 (text_of plan)
utf8_text plan h = IsUtf8-from_ascii (text_of plan) (ascii_text plan h)
