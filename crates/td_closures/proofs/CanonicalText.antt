-- The canonical text of closures spells them.
use Rattle.std.specs.Prelude.{◌≡◌, ◌≤◌, ◌<◌, ◌^◌, ℕ, suc, ◌+◌, ◌==◌, pos, negsuc, Bool, true, false, ◌&&◌, nat_lt, nat_le, if◌then◌else◌, List, [], ◌∷◌, ◌++◌, map, length, codes, Some}
use Rattle.std.proofs.Common.{refl, ap, sym, ◌∙◌, arith, subst, append_assoc, length-append, cond}
use Rattle.std.specs.List.{AllByRecursion, list_all, slice_split, onto_first}
use Rattle.std.specs.Fmt.{decimal}
use Rattle.std.proofs.lemmas.List.Folds.{list_all-append}
use Rattle.std.proofs.lemmas.Bool.{ltb-true, lt-ltb, leb-true}
use Rattle.std.proofs.lemmas.Bool.Decides.{nat_tests}
use Rattle.td_formula.specs.declared.expression.Name.{Name}
use Rattle.td_formula.specs.declared.expression.Name.TheVariants as names
use Rattle.td_formula.specs.declared.expression.Sign.{Sign}
use Rattle.td_formula.specs.declared.expression.Sign.TheVariants as signs
use Rattle.td_formula.specs.declared.expression.Operator.{Operator}
use Rattle.td_formula.specs.declared.expression.Operator.TheVariants as operators
use Rattle.td_formula.specs.declared.closure.ClosureKind.{ClosureKind}
use Rattle.td_formula.specs.declared.closure.ClosureKind.TheVariants as kinds
use Rattle.td_plan.specs.Text.{text_lines, without_empty_last}
use Rattle.td_closures.specs.declared.words.Scope.{Scope}
use Rattle.td_closures.specs.declared.token.Verb.TheVariants as verbs
use Rattle.td_closures.specs.Phrase.{Phrase, number, name, parens, prefix, infix', call, choice}
use Rattle.td_closures.specs.Words.{is_of_word, verb_scope}
use Rattle.td_closures.specs.Lines.{Assigned, Paired, Line}
use Rattle.td_closures.specs.Lines.Line.{each, send, keep}
use Rattle.td_closures.specs.Drafts.{Said, no_draft}
use Rattle.td_closures.specs.Texts.{Add, ClosuresText}
use Rattle.td_closures.specs.Canonical.{canonical, name_text, sign_text, operator_text, phrase_text, expression_text, is_one, when_text, change_text, pair_text, kind_text, line_text, lines_text, let_line, item_line, is_unchanged, keep_lines, lines_of, closure_text, closures_text, FitsLimits}
use Rattle.td_closures.specs.Spelled.{register, is_named, IsExpression, AreLets, IsItem, IsPairAt, IsEach, IsKeep, IsClosure, all_lines, nodes_of, AreSpellable}
use Rattle.td_closures.proofs.Complete.{and_left, and_right}
use Rattle.td_closures.proofs.Numerals.{decimal_digits}
use Rattle.td_closures.proofs.Spoken.{IsOfWord, of_word, named_canonical}
use Rattle.td_closures.proofs.CanonicalDrafts.{HaveRoom, bytes_after, nodes_after, AddsAll, add_all}

-- NO LINE FEED STANDS IN A LINE
abbrev is_above : ℕ → Bool
is_above b = nat_lt 10 b

record IsInLine (xs : List ℕ) : Type 0 where
  above : list_all is_above xs ≡ true

in_line_append : {xs ys : List ℕ} → IsInLine xs → IsInLine ys → IsInLine (xs ++ ys)
in_line_append {xs} {ys} h k = record { above = list_all-append is_above xs ys ∙ (rw (h.above, k.above) refl) }

word_above : (b : ℕ) → is_of_word b ≡ true → is_above b ≡ true
word_above b h = let w : IsOfWord b = of_word b h in lt-ltb 10 b (omega (arith, w.least))

in_line_word : (w : List ℕ) → list_all is_of_word w ≡ true → list_all is_above w ≡ true
in_line_word [] h = refl
in_line_word (b ∷ bs) h = rw (word_above b (and_left (is_of_word b) (list_all is_of_word bs) h), in_line_word bs (and_right (is_of_word b) (list_all is_of_word bs) h)) refl

in_line_decimal : (n : ℕ) → n < 2 ^ 64 → IsInLine (decimal n)
in_line_decimal n small = record { above = in_line_word (decimal n) (decimal_digits n small).of_word }

in_line_register : (r n : ℕ) → n ≤ 8 → nat_lt r n ≡ true → IsInLine (register r)
in_line_register r n small h = let below : r < n = ltb-true r n h in in_line_append {xs = codes "r"} {ys = decimal r} (record { above = refl }) (in_line_decimal r (omega arith))

in_line_name : (scope : Scope) (n : ℕ) (x : Name) → n ≤ 8 → is_named scope n (name x) ≡ true → IsInLine (name_text x)
in_line_name scope n (names.Register r) small h = in_line_register r n small h
in_line_name scope n names.Key small h = record { above = refl }
in_line_name scope n _ small h = record { above = refl }

in_line_sign : (s : Sign) → IsInLine (sign_text s)
in_line_sign signs.Not = record { above = refl }
in_line_sign signs.Negative = record { above = refl }
in_line_sign signs.Absolute = record { above = refl }

in_line_operator : (o : Operator) → IsInLine (operator_text o)
in_line_operator operators.Or = record { above = refl }
in_line_operator _ = record { above = refl }

in_line_phrase : (scope : Scope) (n : ℕ) (p : Phrase) → n ≤ 8 → is_named scope n p ≡ true → IsInLine (phrase_text p)
in_line_phrase scope n (number (pos m)) small h = in_line_decimal m (ltb-true m (2 ^ 64) h)
in_line_phrase scope n (number (negsuc m)) small h = absurd (cc)
in_line_phrase scope n (name x) small h = in_line_name scope n x small h
in_line_phrase scope n (parens p) small h = in_line_append {xs = codes "("} (record { above = refl }) (in_line_append {xs = phrase_text p} {ys = codes ")"} (in_line_phrase scope n p small h) (record { above = refl }))
in_line_phrase scope n (prefix s p) small h = in_line_append {xs = sign_text s} {ys = phrase_text p} (in_line_sign s) (in_line_phrase scope n p small h)
in_line_phrase scope n (infix' o p q) small h =
    in_line_append {xs = phrase_text p} (in_line_phrase scope n p small (and_left (is_named scope n p) (is_named scope n q) h))
    (in_line_append {xs = codes " "} (record { above = refl })
    (in_line_append {xs = operator_text o} (in_line_operator o)
    (in_line_append {xs = codes " "} {ys = phrase_text q} (record { above = refl }) (in_line_phrase scope n q small (and_right (is_named scope n p) (is_named scope n q) h)))))
in_line_phrase scope n (call o p q) small h =
    in_line_append {xs = operator_text o} (in_line_operator o)
    (in_line_append {xs = codes "("} (record { above = refl })
    (in_line_append {xs = phrase_text p} (in_line_phrase scope n p small (and_left (is_named scope n p) (is_named scope n q) h))
    (in_line_append {xs = codes ", "} (record { above = refl })
    (in_line_append {xs = phrase_text q} {ys = codes ")"} (in_line_phrase scope n q small (and_right (is_named scope n p) (is_named scope n q) h)) (record { above = refl })))))
in_line_phrase scope n (choice p q r) small h =
    let more = and_right (is_named scope n p) (is_named scope n q && is_named scope n r) h in
    in_line_append {xs = codes "if "} (record { above = refl })
    (in_line_append {xs = phrase_text p} (in_line_phrase scope n p small (and_left (is_named scope n p) (is_named scope n q && is_named scope n r) h))
    (in_line_append {xs = codes " then "} (record { above = refl })
    (in_line_append {xs = phrase_text q} (in_line_phrase scope n q small (and_left (is_named scope n q) (is_named scope n r) more))
    (in_line_append {xs = codes " else "} {ys = phrase_text r} (record { above = refl }) (in_line_phrase scope n r small (and_right (is_named scope n q) (is_named scope n r) more))))))

in_line_expression : (scope : Scope) (n : ℕ) (e : Phrase) → n ≤ 8 → IsExpression scope n e → IsInLine (expression_text e)
in_line_expression scope n e small h = in_line_phrase scope n (canonical e) small (named_canonical scope n e ∙ h.named)

in_line_when_by : (scope : Scope) (n : ℕ) (w : Phrase) (b : Bool) → n ≤ 8 → IsExpression scope n w → IsInLine (if b then [] else codes " when " ++ expression_text w)
in_line_when_by scope n w true small h = record { above = refl }
in_line_when_by scope n w false small h = in_line_append {xs = codes " when "} {ys = expression_text w} (record { above = refl }) (in_line_expression scope n w small h)

in_line_values : (scope : Scope) (n : ℕ) (e w : Phrase) → n ≤ 8 → IsExpression scope n e → IsExpression scope n w → IsInLine (expression_text e ++ when_text w)
in_line_values scope n e w small h k = in_line_append {xs = expression_text e} {ys = when_text w} (in_line_expression scope n e small h) (in_line_when_by scope n w (is_one w) small k)

in_line_pair : (scope : Scope) (n : ℕ) (p : Paired) → n ≤ 8 → IsPairAt scope n p → IsInLine (pair_text p)
in_line_pair scope n p small h =
    in_line_append {xs = expression_text p.first} (in_line_expression scope n p.first small h.first)
    (in_line_append {xs = codes ", "} {ys = expression_text p.second ++ when_text p.when} (record { above = refl }) (in_line_values scope n p.second p.when small h.second h.when))

in_line_change : (scope : Scope) (n : ℕ) (c : Assigned) → n ≤ 8 → IsInLine (name_text c.name) → IsExpression scope n c.value → IsExpression scope n c.when → IsInLine (change_text c)
in_line_change scope n c small x h k =
    in_line_append {xs = name_text c.name} x
    (in_line_append {xs = codes " = "} {ys = expression_text c.value ++ when_text c.when} (record { above = refl }) (in_line_values scope n c.value c.when small h k))

in_line_kind : (kind : ClosureKind) → IsInLine (kind_text kind)
in_line_kind kinds.Map = record { above = refl }
in_line_kind kinds.Group = record { above = refl }
in_line_kind kinds.Fold = record { above = refl }

-- THE LINES OF A CLOSURE
abbrev AreInLines : List Line → Type 0
AreInLines ls = AllByRecursion (λ (l : Line). IsInLine (line_text l)) ls

in_lines_append : (ls ms : List Line) → AreInLines ls → AreInLines ms → AreInLines (ls ++ ms)
in_lines_append [] ms h k = k
in_lines_append (l ∷ ls) ms h k = (h.0, in_lines_append ls ms h.1 k)

one_there : (scope : Scope) (n : ℕ) → IsExpression scope n (number (pos 1))
one_there scope n = record { tree = refl; named = refl; shallow = omega arith }

in_line_lets : (kind : ClosureKind) (n : ℕ) (cs : List Assigned) → AreLets kind n cs → n + length cs ≤ 8 → AreInLines (map let_line cs)
in_line_lets kind n [] h few = tt
in_line_lets kind n (c ∷ cs) h few =
    let scope = verb_scope (Some kind) verbs.Let in
    let x : IsInLine (name_text c.name) = subst (λ (y : Name). IsInLine (name_text y)) (sym h.0.name_is) (in_line_register n 8 (omega arith) (lt-ltb n 8 (omega (arith, few)))) in
    let w : IsExpression scope (suc n) c.when = subst (IsExpression scope (suc n)) (sym h.0.when_is) (one_there scope (suc n)) in
    (in_line_append {xs = codes "  let "} {ys = change_text c} (record { above = refl }) (in_line_change scope (suc n) c (omega (arith, few)) x h.0.value w), in_line_lets kind (suc n) cs h.1 (omega (arith, few)))

in_line_items : (kind : ClosureKind) (n : ℕ) (cs : List Assigned) → n ≤ 8 → AllByRecursion (IsItem kind n) cs → AreInLines (map item_line cs)
in_line_items kind n [] small h = tt
in_line_items kind n (c ∷ cs) small h =
    let scope = verb_scope (Some kind) verbs.Item in
    (in_line_append {xs = codes "  item "} {ys = change_text c} (record { above = refl }) (in_line_change scope n c small (in_line_name scope n c.name small h.0.there) h.0.value h.0.when), in_line_items kind n cs small h.1)

in_line_each : (kind : ClosureKind) (n : ℕ) (ps : List Paired) → n ≤ 8 → AllByRecursion (IsEach kind n) ps → AreInLines (map each ps)
in_line_each kind n [] small h = tt
in_line_each kind n (p ∷ ps) small h = (in_line_append {xs = codes "  each "} {ys = pair_text p} (record { above = refl }) (in_line_pair (verb_scope (Some kind) verbs.Each) n p small h.0.pair), in_line_each kind n ps small h.1)

in_line_sends : (kind : ClosureKind) (n : ℕ) (ps : List Paired) → n ≤ 8 → AllByRecursion (IsPairAt (verb_scope (Some kind) verbs.Send) n) ps → AreInLines (map send ps)
in_line_sends kind n [] small h = tt
in_line_sends kind n (p ∷ ps) small h = (in_line_append {xs = codes "  send "} {ys = pair_text p} (record { above = refl }) (in_line_pair (verb_scope (Some kind) verbs.Send) n p small h.0), in_line_sends kind n ps small h.1)

in_line_keep : (kind : ClosureKind) (n : ℕ) (p : Paired) (b : Bool) → is_unchanged p ≡ b → n ≤ 8 → (is_unchanged p ≡ false → IsKeep kind n p) → AreInLines (if b then [] else keep p ∷ [])
in_line_keep kind n p true e small h = tt
in_line_keep kind n p false e small h = (in_line_append {xs = codes "  keep "} {ys = pair_text p} (record { above = refl }) (in_line_pair (verb_scope (Some kind) verbs.Keep) n p small (h e).pair), tt)

in_line_closure : (c : Said) → IsClosure c → AreInLines (lines_of c)
in_line_closure c h =
    let n : ℕ = length c.lets in
    let most : c.code ≤ 65535 = leb-true c.code 65535 (and_right (nat_le 10000 c.code) (nat_le c.code 65535) h.code) in (
      in_line_append {xs = kind_text c.kind} {ys = decimal c.code} (in_line_kind c.kind) (in_line_decimal c.code (omega arith)),
      in_lines_append (map let_line c.lets) (map item_line c.changes ++ (map each c.each ++ (map send c.sends ++ keep_lines c.keep))) (in_line_lets c.kind 0 c.lets h.lets (omega (arith, h.few)))
          (in_lines_append (map item_line c.changes) (map each c.each ++ (map send c.sends ++ keep_lines c.keep)) (in_line_items c.kind n c.changes h.few h.changes)
          (in_lines_append (map each c.each) (map send c.sends ++ keep_lines c.keep) (in_line_each c.kind n c.each h.few h.each)
          (in_lines_append (map send c.sends) (keep_lines c.keep) (in_line_sends c.kind n c.sends h.few h.sends) (in_line_keep c.kind n c.keep (is_unchanged c.keep) refl h.few h.keep)))),
    )

in_line_all : (cs : List Said) → AllByRecursion IsClosure cs → AreInLines (all_lines cs)
in_line_all [] h = tt
in_line_all (c ∷ cs) h = in_lines_append (lines_of c) (all_lines cs) (in_line_closure c h.0) (in_line_all cs h.1)

-- THE LINES OF THE TEXT
not_feed : (x : ℕ) → is_above x ≡ true → (x == 10) ≡ false
not_feed x h = grind (arith, nat_tests)

split_first : (xs ys : List ℕ) → list_all is_above xs ≡ true → slice_split (λ b. b == 10) (xs ++ 10 ∷ ys) ≡ xs ∷ slice_split (λ b. b == 10) ys
split_first [] ys h = refl
split_first (x ∷ xs) ys h = rw (not_feed x (and_left (is_above x) (list_all is_above xs) h), split_first xs ys (and_right (is_above x) (list_all is_above xs) h)) refl

-- there is always a part
some_part : (p : ℕ → Bool) (xs : List ℕ) → (part : List ℕ) × (parts : List (List ℕ)) × (slice_split p xs ≡ part ∷ parts)
some_part p [] = ([], [], refl)
some_part p (x ∷ xs) = by (p x) (slice_split p xs)
  where
    by : (b : Bool) (rest : List (List ℕ)) → (part : List ℕ) × (parts : List (List ℕ)) × (cond b ([] ∷ rest) (onto_first x rest) ≡ part ∷ parts)
    by true rest = ([], rest, refl)
    by false [] = (x ∷ [], [], refl)
    by false (part ∷ parts) = (x ∷ part, parts, refl)

without-more : (part next : List ℕ) (parts : List (List ℕ)) → without_empty_last (part ∷ next ∷ parts) ≡ part ∷ without_empty_last (next ∷ parts)
without-more [] next parts = refl
without-more (b ∷ bs) next parts = refl

first_line : (line rest : List ℕ) → list_all is_above line ≡ true → text_lines (line ++ 10 ∷ rest) ≡ line ∷ text_lines rest
first_line line rest h =
    let some = some_part (λ b. b == 10) rest in
    ap without_empty_last (split_first line rest h ∙ ap (λ (parts : List (List ℕ)). line ∷ parts) some.2)
    ∙ (without-more line some.0 some.1 ∙ ap (λ (parts : List (List ℕ)). line ∷ without_empty_last parts) (sym some.2))

text_again : (ls : List Line) → AreInLines ls → text_lines (lines_text ls) ≡ map line_text ls
text_again [] h = refl
text_again (l ∷ ls) h = first_line (line_text l) (lines_text ls) h.0.above ∙ ap (λ (x : List (List ℕ)). line_text l ∷ x) (text_again ls h.1)

pub lines_text_append : (ls ms : List Line) → lines_text (ls ++ ms) ≡ lines_text ls ++ lines_text ms
lines_text_append [] ms = refl
lines_text_append (l ∷ ls) ms = ap (λ (x : List ℕ). line_text l ++ 10 ∷ x) (lines_text_append ls ms) ∙ sym (append_assoc (line_text l) (10 ∷ lines_text ls) (lines_text ms))

closures_are_lines : (cs : List Said) → closures_text cs ≡ lines_text (all_lines cs)
closures_are_lines [] = refl
closures_are_lines (c ∷ cs) = ap (λ (x : List ℕ). closure_text c ++ x) (closures_are_lines cs) ∙ sym (lines_text_append (lines_of c) (all_lines cs))

-- ROOM FOR THEM
room : (ls : List Line) (bytes nodes : ℕ) → AllByRecursion (λ (line : List ℕ). length line ≤ 4096) (map line_text ls) → length (lines_text ls) ≤ bytes → nodes_of ls ≤ nodes → HaveRoom bytes nodes ls
room [] bytes nodes h k l = tt
room (x ∷ ls) bytes nodes h k l =
    let long : length (line_text x ++ 10 ∷ lines_text ls) ≡ length (line_text x) + suc (length (lines_text ls)) = length-append (line_text x) (10 ∷ lines_text ls) in (
      record { short = h.0; bytes_left = omega (arith, k, long); nodes_left = omega (arith, l) },
      room ls (bytes_after bytes x) (nodes_after nodes x) h.1 (omega (arith, k, long)) (omega (arith, l)),
    )

-- THE TEXT SPELLS THEM
pub canonical_again : (cs : List Said) → AreSpellable cs → FitsLimits (closures_text cs) → ClosuresText (closures_text cs) cs
canonical_again cs h fits =
    let ls : List Line = all_lines cs in
    let text : closures_text cs ≡ lines_text ls = closures_are_lines cs in
    let lines : text_lines (closures_text cs) ≡ map line_text ls = ap text_lines text ∙ text_again ls (in_line_all cs h.each) in
    let short : AllByRecursion (λ (line : List ℕ). length line ≤ 4096) (map line_text ls) = subst (AllByRecursion (λ (line : List ℕ). length line ≤ 4096)) lines fits.lines in
    let bytes : length (lines_text ls) ≤ 1048577 = subst (λ (x : List ℕ). length x ≤ 1048577) text fits.bytes in
    let all : AddsAll no_draft cs = add_all no_draft 0 cs refl h.each h.apart (omega (arith, h.few)) (room ls 1048577 4096 short bytes h.nodes) in
    record {
      draft = all.end;
      lines = subst (λ (x : List (List ℕ)). Add no_draft x all.end) (sym lines) all.adds;
      closures_are = sym all.closures_are;
    }
