-- The words of a line, and the line that they write.
use Rattle.std.proofs.Common.{◌≡◌, ℕ, ◌<◌, ◌≤◌, ◌^◌, Bool, true, false, ◌&&◌, nat_le, List, [], ◌∷◌, ◌++◌, length, map, refl, sym, ap, ◌∙◌, arith, cond, codes, subst, get_or}
use Rattle.std.specs.Prelude.{Option, Some, None, option_map, decimal, IfOk, IfSome, Result, Ok, Err}
use Rattle.std.specs.List.{list_all}
use Rattle.std.specs.Str.{bytes_eq}
use Rattle.std.proofs.lemmas.Bool.{ltb-true, leb-true, lt-ltb}
use Rattle.std.proofs.lemmas.Slice.Eq.{bytes_eq-Decides}
use Rattle.td_plan.specs.declared.error.PlanError.{PlanError}
use Rattle.td_plan.specs.declared.vertex.Kind.{Kind}
use Rattle.td_plan.specs.declared.vertex.Kind.TheVariants.{Input, Map, Distinct, Group, Fold, Enter, Feedback, Leave, Output}
use Rattle.td_plan.specs.declared.line.WrittenLine.{WrittenLine}
use Rattle.td_plan.specs.Text.{natural_of, number_of, of_nine_digits, has_nine_digits}
use Rattle.td_plan.specs.Lines.{Line, words_of, words_of_kind, has_form, has_code, has_arity}
use Rattle.td_plan.specs.Lines.Line.{vertex, loop, end}
use Rattle.td_plan.specs.Steps.Words.{numbers_of, with_number, code_of, with_rest, plain_kind, coded_kind, with_code, kind_of, kind_by, with_sources, with_kind, vertex_of, head_of, end_of, line_of}
use Rattle.td_plan.specs.Steps.Written.{written_line}
use Rattle.td_plan.proofs.Numerals.{natural_reads, natural_again}
use Rattle.td_plan.proofs.Spelling.{first_digit}

pub small : (n : ℕ) → has_nine_digits n ≡ true → n < 2 ^ 64
small n e = let h : n < 1000000000 = ltb-true n 1000000000 e in omega arith

pub both : (p q : Bool) → (p && q) ≡ true → (p ≡ true) × (q ≡ true)
both true q e = (refl, e)
both false q e = cc

-- NUMBERS
pub number_reads : (word : List ℕ) (n : ℕ) → number_of word ≡ Some n → (word ≡ decimal n) × (has_nine_digits n ≡ true)
number_reads word n e = by (natural_of word) refl e
  where
    here : (m : ℕ) (b : Bool) → natural_of word ≡ Some m → has_nine_digits m ≡ b → cond b (Some m) None ≡ Some n → (word ≡ decimal n) × (has_nine_digits n ≡ true)
    here m true at t e = let same : m ≡ n = cc in (natural_reads word m at ∙ ap decimal same, ap has_nine_digits (sym same) ∙ t)
    here m false at t e = absurd (cc)

    by : (o : Option ℕ) → natural_of word ≡ o → of_nine_digits o ≡ Some n → (word ≡ decimal n) × (has_nine_digits n ≡ true)
    by None at e = absurd (cc)
    by (Some m) at e = here m (has_nine_digits m) at refl e

nine_when : (n : ℕ) → has_nine_digits n ≡ true → of_nine_digits (Some n) ≡ Some n
nine_when n h = rw h refl

pub number_again : (n : ℕ) → has_nine_digits n ≡ true → number_of (decimal n) ≡ Some n
number_again n h = ap of_nine_digits (natural_again n (small n h)) ∙ nine_when n h

-- WHAT IS READ IS WHAT WAS WRITTEN
numbers_sound : (ws : List (List ℕ)) (ss : List ℕ) → numbers_of ws ≡ Some ss → (ws ≡ map decimal ss) × (list_all has_nine_digits ss ≡ true)
numbers_sound [] ss e = let h : [] ≡ ss = cc in (ap (map decimal) h, ap (list_all has_nine_digits) (sym h))
numbers_sound (w ∷ ws) ss e = by (number_of w) (numbers_of ws) refl refl e (numbers_sound ws)
  where
    by : (n : Option ℕ) (o : Option (List ℕ)) → number_of w ≡ n → numbers_of ws ≡ o → with_number n o ≡ Some ss
        → ((ns : List ℕ) → numbers_of ws ≡ Some ns → (ws ≡ map decimal ns) × (list_all has_nine_digits ns ≡ true)) → (w ∷ ws ≡ map decimal ss) × (list_all has_nine_digits ss ≡ true)
    by None o at more e rest = absurd (cc)
    by (Some n) None at more e rest = absurd (cc)
    by (Some n) (Some ns) at more e rest =
        let same : n ∷ ns ≡ ss = cc in
        let here = number_reads w n at in
        let others = rest ns more in
        subst (λ s. (w ∷ ws ≡ map decimal s) × (list_all has_nine_digits s ≡ true)) same ((λ i. here.0 i ∷ others.0 i), rw (here.1, others.1) refl)

code_sound : (rest : List (List ℕ)) (code : ℕ) (more : List (List ℕ)) → code_of rest ≡ Some (code, more) → (rest ≡ decimal code ∷ more) × (nat_le code 65535 ≡ true)
code_sound [] code more e = absurd (cc)
code_sound (word ∷ rest) code more e = by (number_of word) refl e
  where
    here : (c : ℕ) (b : Bool) → number_of word ≡ Some c → nat_le c 65535 ≡ b → cond {A = Option (ℕ × List (List ℕ))} b (Some (c, rest)) None ≡ Some (code, more) → (word ∷ rest ≡ decimal code ∷ more) × (nat_le code 65535 ≡ true)
    here c false at t e = absurd (cc)
    here c true at t e =
        let pair : ◌≡◌ {A = ℕ × List (List ℕ)} (c, rest) (code, more) = cc in
        let c_is : c ≡ code = ap (λ (q : ℕ × List (List ℕ)). q.0) pair in
        let rest_is : rest ≡ more = ap (λ (q : ℕ × List (List ℕ)). q.1) pair in
        let word_is : word ≡ decimal code = (number_reads word c at).0 ∙ ap decimal c_is in
        ((λ i. word_is i ∷ rest_is i), ap (λ n. nat_le n 65535) (sym c_is) ∙ t)

    by : (o : Option ℕ) → number_of word ≡ o → with_rest rest o ≡ Some (code, more) → (word ∷ rest ≡ decimal code ∷ more) × (nat_le code 65535 ≡ true)
    by None at e = absurd (cc)
    by (Some c) at e = here c (nat_le c 65535) at refl e

is_text : (xs ys : List ℕ) → bytes_eq xs ys ≡ true → xs ≡ ys
is_text xs ys = (bytes_eq-Decides xs ys).0

-- one name of a kind after the other
abbrev IsNamed : List (List ℕ) → Kind → Type 0
IsNamed ws kind = (ws ≡ words_of_kind kind) × (has_code kind ≡ true)

named : (name word : List ℕ) (code : List (List ℕ)) (k : Kind) (rest : Option Kind) (kind : Kind) → IsNamed (word ∷ code) k → cond (bytes_eq name word) (Some k) rest ≡ Some kind
    → (rest ≡ Some kind → IsNamed (name ∷ code) kind) → IsNamed (name ∷ code) kind
named name word code k rest kind here e others = by (bytes_eq name word) refl e
  where
    by : (b : Bool) → bytes_eq name word ≡ b → cond b (Some k) rest ≡ Some kind → IsNamed (name ∷ code) kind
    by false t e = others e
    by true t e =
        let same : k ≡ kind = cc in
        subst (IsNamed (name ∷ code)) same ((λ i. is_text name word t i ∷ code) ∙ here.0, here.1)

plain_sound : (name : List ℕ) (kind : Kind) → plain_kind name ≡ Some kind → IsNamed (name ∷ []) kind
plain_sound name kind e =
    named name (codes "input") [] Input _ kind (refl, refl) e (λ e1. named name (codes "distinct") [] Distinct _ kind (refl, refl) e1 (λ e2. named name (codes "enter") [] Enter _ kind (refl, refl) e2
    (λ e3. named name (codes "feedback") [] Feedback _ kind (refl, refl) e3 (λ e4. named name (codes "leave") [] Leave _ kind (refl, refl) e4 (λ e5. named name (codes "output") [] Output _ kind (refl, refl) e5 (λ e6. absurd (cc)))))))

coded_sound : (name : List ℕ) (code : ℕ) (kind : Kind) → nat_le code 65535 ≡ true → coded_kind name code ≡ Some kind → IsNamed (name ∷ decimal code ∷ []) kind
coded_sound name code kind h e =
    named name (codes "map") (decimal code ∷ []) (Map code) _ kind (refl, h) e (λ e1. named name (codes "group") (decimal code ∷ []) (Group code) _ kind (refl, h) e1
    (λ e2. named name (codes "fold") (decimal code ∷ []) (Fold code) _ kind (refl, h) e2 (λ e3. absurd (cc))))

-- a kind, and the words after it
abbrev IsKind : List (List ℕ) → (Kind × List (List ℕ)) → Type 0
IsKind ws p = (ws ≡ words_of_kind p.0 ++ p.1) × (has_code p.0 ≡ true)

kind_sound : (ws : List (List ℕ)) (p : Kind × List (List ℕ)) → kind_of ws ≡ Some p → IsKind ws p
kind_sound [] p e = absurd (cc)
kind_sound (name ∷ ws) p e = by (plain_kind name) refl e
  where
    coded : (q : ℕ × List (List ℕ)) (o : Option Kind) → code_of ws ≡ Some q → coded_kind name q.0 ≡ o → option_map (λ k. (k, q.1)) o ≡ Some p → IsKind (name ∷ ws) p
    coded q None at here e = absurd (cc)
    coded q (Some k) at here e =
        let same : ◌≡◌ {A = Kind × List (List ℕ)} (k, q.1) p = cc in
        let c = code_sound ws q.0 q.1 at in
        let n = coded_sound name q.0 k c.1 here in
        subst (IsKind (name ∷ ws)) same ((λ i. name ∷ c.0 i) ∙ (λ i. n.0 i ++ q.1), n.1)

    by_code : (o : Option (ℕ × List (List ℕ))) → code_of ws ≡ o → with_code name o ≡ Some p → IsKind (name ∷ ws) p
    by_code None at e = absurd (cc)
    by_code (Some q) at e = coded q (coded_kind name q.0) at refl e

    by : (o : Option Kind) → plain_kind name ≡ o → kind_by name ws o ≡ Some p → IsKind (name ∷ ws) p
    by None at e = by_code (code_of ws) refl e
    by (Some k) at e =
        let same : ◌≡◌ {A = Kind × List (List ℕ)} (k, ws) p = cc in
        let n = plain_sound name k at in
        subst (IsKind (name ∷ ws)) same ((λ i. n.0 i ++ ws), n.1)

-- What is known of a line that was read
pub record IsLine (ws : List (List ℕ)) (line : Line) : Type 0 where
  pub written : ws ≡ words_of line
  pub form : has_form line ≡ true

and_true : (a b : Bool) → a ≡ true → b ≡ true → (a && b) ≡ true
and_true true b e f = f
and_true false b e f = e

sourced : (word : List ℕ) (rest ws : List (List ℕ)) (n : ℕ) (k : Kind) (line : Line) → (word ≡ decimal n) × (has_nine_digits n ≡ true) → IsKind rest (k, ws) → (o : Option (List ℕ)) → numbers_of ws ≡ o
    → with_sources n k o ≡ Some line → IsLine (word ∷ rest) line
sourced word rest ws n k line number kind None at e = absurd (cc)
sourced word rest ws n k line number kind (Some ss) at e = by (has_arity k (length ss)) refl e
  where
    by : (b : Bool) → has_arity k (length ss) ≡ b → cond b (Some (vertex (record { number = n; kind = k; sources = ss }))) None ≡ Some line → IsLine (word ∷ rest) line
    by false t e = absurd (cc)
    by true t e =
        let same : vertex (record { number = n; kind = k; sources = ss }) ≡ line = cc in
        let s = numbers_sound ws ss at in
        subst (IsLine (word ∷ rest)) same (record {
          written = (λ i. number.0 i ∷ kind.0 i) ∙ (λ i. decimal n ∷ words_of_kind k ++ s.0 i);
          form = and_true _ _ (and_true _ _ (and_true _ _ number.1 kind.1) s.1) t;
        })

vertex_sound : (word : List ℕ) (rest : List (List ℕ)) (line : Line) → vertex_of (number_of word) rest ≡ Some line → IsLine (word ∷ rest) line
vertex_sound word rest line e = by (number_of word) (kind_of rest) refl refl e
  where
    by : (n : Option ℕ) (p : Option (Kind × List (List ℕ))) → number_of word ≡ n → kind_of rest ≡ p → vertex_of n rest ≡ Some line → IsLine (word ∷ rest) line
    by None p at kat e = absurd (cc)
    by (Some n) None at kat e = absurd (let none : with_kind n None ≡ Some line = ap (with_kind n) (sym kat) ∙ e in cc)
    by (Some n) (Some p) at kat e = sourced word rest p.1 n p.0 line (number_reads word n at) (kind_sound rest p kat) (numbers_of p.1) refl (ap (with_kind n) (sym kat) ∙ e)

head_sound : (word : List ℕ) (rest : List (List ℕ)) (line : Line) → word ≡ codes "loop" → head_of rest ≡ Some line → IsLine (word ∷ rest) line
head_sound word [] line w e = absurd (cc)
head_sound word (b ∷ c ∷ rest) line w e = absurd (cc)
head_sound word (b ∷ []) line w e = by (number_of b) refl e
  where
    by : (n : Option ℕ) → number_of b ≡ n → option_map loop n ≡ Some line → IsLine (word ∷ b ∷ []) line
    by None at e = absurd (cc)
    by (Some n) at e =
        let same : loop n ≡ line = cc in
        let r = number_reads b n at in
        subst (IsLine (word ∷ b ∷ [])) same (record { written = λ i. w i ∷ r.0 i ∷ []; form = r.1 })

end_sound : (word : List ℕ) (rest : List (List ℕ)) (line : Line) → word ≡ codes "end" → end_of rest ≡ Some line → IsLine (word ∷ rest) line
end_sound word (w ∷ rest) line at e = absurd (cc)
end_sound word [] line at e = let same : end ≡ line = cc in subst (IsLine (word ∷ [])) same (record { written = λ i. at i ∷ []; form = refl })

pub line_sound : (ws : List (List ℕ)) (line : Line) → line_of ws ≡ Some line → IsLine ws line
line_sound [] line e = absurd (cc)
line_sound (word ∷ rest) line e = by (bytes_eq word (codes "loop")) refl e
  where
    by_end : (b : Bool) → bytes_eq word (codes "end") ≡ b → cond b (end_of rest) (vertex_of (number_of word) rest) ≡ Some line → IsLine (word ∷ rest) line
    by_end true t e = end_sound word rest line (is_text word (codes "end") t) e
    by_end false t e = vertex_sound word rest line e

    by : (b : Bool) → bytes_eq word (codes "loop") ≡ b → cond b (head_of rest) (cond (bytes_eq word (codes "end")) (end_of rest) (vertex_of (number_of word) rest)) ≡ Some line → IsLine (word ∷ rest) line
    by true t e = head_sound word rest line (is_text word (codes "loop") t) e
    by false t e = by_end (bytes_eq word (codes "end")) refl e

-- WHAT IS WRITTEN IS READ
pub below : (c : ℕ) → nat_le c 65535 ≡ true → has_nine_digits c ≡ true
below c h = let k : c ≤ 65535 = leb-true c 65535 h in lt-ltb c 1000000000 (omega arith)

numbers_again : (ss : List ℕ) → list_all has_nine_digits ss ≡ true → numbers_of (map decimal ss) ≡ Some ss
numbers_again [] h = refl
numbers_again (s ∷ ss) h =
    let parts = both (has_nine_digits s) (list_all has_nine_digits ss) h in
    ap (λ o. with_number o (numbers_of (map decimal ss))) (number_again s parts.0) ∙ ap (option_map (λ ns. s ∷ ns)) (numbers_again ss parts.1)

rest_when : (c : ℕ) (rest : List (List ℕ)) → nat_le c 65535 ≡ true → with_rest rest (Some c) ≡ Some (c, rest)
rest_when c rest h = rw h refl

code_again : (c : ℕ) (rest : List (List ℕ)) → nat_le c 65535 ≡ true → code_of (decimal c ∷ rest) ≡ Some (c, rest)
code_again c rest h = ap (with_rest rest) (number_again c (below c h)) ∙ rest_when c rest h

kind_again : (k : Kind) (rest : List (List ℕ)) → has_code k ≡ true → kind_of (words_of_kind k ++ rest) ≡ Some (k, rest)
kind_again Input rest h = refl
kind_again (Map c) rest h = ap (with_code (codes "map")) (code_again c rest h)
kind_again Distinct rest h = refl
kind_again (Group c) rest h = ap (with_code (codes "group")) (code_again c rest h)
kind_again (Fold c) rest h = ap (with_code (codes "fold")) (code_again c rest h)
kind_again Enter rest h = refl
kind_again Feedback rest h = refl
kind_again Leave rest h = refl
kind_again Output rest h = refl

sources_when : (n : ℕ) (k : Kind) (ss : List ℕ) → has_arity k (length ss) ≡ true → with_sources n k (Some ss) ≡ Some (vertex (record { number = n; kind = k; sources = ss }))
sources_when n k ss h = rw h refl

-- no number is written as a word that begins with a letter
not_word : (n : ℕ) (word : List ℕ) → n < 2 ^ 64 → 58 ≤ get_or word 0 0 → bytes_eq (decimal n) word ≡ false
not_word n word h letter = by (bytes_eq (decimal n) word) refl
  where
    by : (b : Bool) → bytes_eq (decimal n) word ≡ b → bytes_eq (decimal n) word ≡ false
    by false t = t
    by true t =
        let digit = first_digit n h in
        let same : get_or (decimal n) 0 0 ≡ get_or word 0 0 = ap (λ ds. get_or ds 0 0) (is_text (decimal n) word t) in
        absurd (omega arith)

pub line_again : (l : Line) → has_form l ≡ true → line_of (words_of l) ≡ Some l
line_again (loop b) h = ap (option_map loop) (number_again b h)
line_again end h = refl
line_again (vertex v) h =
    let arity = both (has_nine_digits v.number && has_code v.kind && list_all has_nine_digits v.sources) (has_arity v.kind (length v.sources)) h in
    let nine = both (has_nine_digits v.number && has_code v.kind) (list_all has_nine_digits v.sources) arity.0 in
    let code = both (has_nine_digits v.number) (has_code v.kind) nine.0 in
    let rest = words_of_kind v.kind ++ map decimal v.sources in
    let n = decimal v.number in
    ap (λ b. cond b (head_of rest) (cond (bytes_eq n (codes "end")) (end_of rest) (vertex_of (number_of n) rest))) (not_word v.number (codes "loop") (small v.number code.0) (omega arith))
    ∙ ap (λ b. cond b (end_of rest) (vertex_of (number_of n) rest)) (not_word v.number (codes "end") (small v.number code.0) (omega arith))
    ∙ ap (λ o. vertex_of o rest) (number_again v.number code.0)
    ∙ ap (with_kind v.number) (kind_again v.kind (map decimal v.sources) code.1)
    ∙ ap (with_sources v.number v.kind) (numbers_again v.sources nine.1)
    ∙ sources_when v.number v.kind v.sources arity.1

-- what the reader's own value stands for, then, is a line of one of the forms
pub written_form : (ws : List (List ℕ)) (r : Result (Option WrittenLine) PlanError) → IfOk r (λ read. option_map written_line read ≡ line_of ws) → IfOk r (λ read. IfSome read (λ w. has_form (written_line w) ≡ true))
written_form ws (Err e) h = tt
written_form ws (Ok None) h = tt
written_form ws (Ok (Some w)) h = (line_sound ws (written_line w) (sym h)).form
