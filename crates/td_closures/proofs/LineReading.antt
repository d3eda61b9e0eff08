-- What is read of a line is what the grammar says, and the other way round.
use Rattle.std.specs.Prelude.{◌≡◌, ◌≤◌, ◌⊎◌, ℕ, zero, suc, ◌-◌, pos, negsuc, Bool, true, false, if◌then◌else◌, List, [], ◌∷◌, ◌++◌, map, length, Some, None, Result, Ok, Err, ⊤}
use Rattle.std.proofs.Common.{refl, ap, sym, ◌∙◌, arith, subst, append_assoc}
use Rattle.std.proofs.lemmas.List.{map-append}
use Rattle.td_formula.specs.declared.expression.Name.{Name}
use Rattle.td_formula.specs.declared.expression.Operator.TheVariants as operators
use Rattle.td_formula.specs.declared.closure.Assignment.{Assignment}
use Rattle.td_formula.specs.declared.closure.ClosureKind.{ClosureKind}
use Rattle.td_closures.specs.declared.token.Token.{Token}
use Rattle.td_closures.specs.declared.token.Token.TheVariants as tokens
use Rattle.td_closures.specs.declared.token.Verb.{Verb}
use Rattle.td_closures.specs.declared.token.Verb.TheVariants as verbs
use Rattle.td_closures.specs.declared.fault.Wrong.{Wrong}
use Rattle.td_closures.specs.declared.fault.Wrong.TheVariants as wrongs
use Rattle.td_closures.specs.Phrase.{Phrase, number, IsRead}
use Rattle.td_closures.specs.Machine.{wanted, whole, run, Front, front, faulty}
use Rattle.td_closures.specs.Lines.{Assigned, Paired, Line, is_code, IsWhen, IsPair, target_of, IsCondition, IsChange, AreChanges, AreChangesOf, IsLine}
use Rattle.td_closures.specs.Lines.Line.{head, lets, item, each, send, keep}
use Rattle.td_closures.specs.Reading.{and_then, of_front, expression_of, when_of, after_comma, ended, paired, with_when, with_second, with_separator, with_first, pair_of, with_rest, assigned_of, condition_of, changed, with_value, with_target, change_of, after_change, with_next, next_of, with_change, changes_of, head_at, head_of, of_lets, of_item, of_each, of_send, of_keep, verb_line, line_of}
use Rattle.td_closures.specs.Kept.{assigned_by as change_by}
use Rattle.td_closures.proofs.Answered.{refused, along}
use Rattle.td_closures.proofs.Grammar.{is_read, runs}

-- AFTER AN ANSWER
pub and_then_ok : {A B : Type 0} (r : Result A Wrong) (f : A → Result B Wrong) (y : B) → and_then r f ≡ Ok y → (x : A) × (r ≡ Ok x) × (f x ≡ Ok y)
and_then_ok (Ok x) f y h = (x, refl, h)
and_then_ok (Err w) f y h = absurd (cc)

pub then_ok : {A B : Type 0} (r : Result A Wrong) (f : A → Result B Wrong) (x : A) → r ≡ Ok x → and_then r f ≡ f x
then_ok {A} {B} r f x h = ap (λ (s : Result A Wrong). and_then s f) h

-- EXPRESSIONS
front_of : (x : Front) (e : Phrase) (rest : List Token) → of_front x ≡ Ok (e, rest) → x ≡ front e rest
front_of (front f us) e rest h =
    let pair : ◌≡◌ {A = Phrase × List Token} (f, us) (e, rest) = cc in
    ap (λ (q : Phrase × List Token). front q.0 q.1) pair
front_of (faulty w) e rest h = absurd (cc)

pub read_sound : (ts : List Token) (e : Phrase) (rest : List Token) → expression_of ts ≡ Ok (e, rest) → IsRead ts e rest
unfolding expression_of
read_sound ts e rest h = is_read ts e rest (front_of (run (wanted whole) ts) e rest h)

pub read_complete : (ts : List Token) (e : Phrase) (rest : List Token) → IsRead ts e rest → expression_of ts ≡ Ok (e, rest)
unfolding expression_of
read_complete ts e rest r = ap of_front (runs ts e rest r)

-- CONDITIONS
without : (ts : List Token) (w : Phrase) (rest : List Token) → ◌≡◌ {A = Result (Phrase × List Token) Wrong} (Ok (number (pos 1), ts)) (Ok (w, rest)) → (w ≡ number (pos 1)) × (ts ≡ rest)
without ts w rest h =
    let pair : ◌≡◌ {A = Phrase × List Token} (number (pos 1), ts) (w, rest) = cc in
    (sym (ap (λ (q : Phrase × List Token). q.0) pair), ap (λ (q : Phrase × List Token). q.1) pair)

with_none : (ts : List Token) (w : Phrase) (rest : List Token) → (w ≡ number (pos 1)) × (ts ≡ rest) → ◌≡◌ {A = Result (Phrase × List Token) Wrong} (Ok (number (pos 1), ts)) (Ok (w, rest))
with_none ts w rest h = let e : number (pos 1) ≡ w = sym h.0 in (λ i. Ok (e i, h.1 i))

when_sound : (ts : List Token) (w : Phrase) (rest : List Token) → when_of ts ≡ Ok (w, rest) → IsWhen ts w rest
when_sound (tokens.When ∷ ts) w rest h = read_sound ts w rest h
when_sound [] w rest h = without [] w rest h
when_sound (t ∷ ts) w rest h = without (t ∷ ts) w rest h

when_complete : (ts : List Token) (w : Phrase) (rest : List Token) → IsWhen ts w rest → when_of ts ≡ Ok (w, rest)
when_complete (tokens.When ∷ ts) w rest h = read_complete ts w rest h
when_complete [] w rest h = with_none [] w rest h
when_complete (t ∷ ts) w rest h = with_none (t ∷ ts) w rest h

condition_sound : (verb : Verb) (ts : List Token) (w : Phrase) (rest : List Token) → condition_of verb ts ≡ Ok (w, rest) → IsCondition verb ts w rest
condition_sound verbs.Item ts w rest h = when_sound ts w rest h
condition_sound _ ts w rest h = without ts w rest h

condition_complete : (verb : Verb) (ts : List Token) (w : Phrase) (rest : List Token) → IsCondition verb ts w rest → condition_of verb ts ≡ Ok (w, rest)
condition_complete verbs.Item ts w rest h = when_complete ts w rest h
condition_complete _ ts w rest h = with_none ts w rest h

-- COMMAS AND ENDS
comma_sound : (ts us : List Token) → after_comma ts ≡ Ok us → ts ≡ tokens.Comma ∷ us
comma_sound (tokens.Comma ∷ ts) us h = let e : ts ≡ us = cc in ap (λ (x : List Token). tokens.Comma ∷ x) e
comma_sound [] us h = absurd (cc)
comma_sound (t ∷ ts) us h = absurd (cc)

end_sound : (ts : List Token) (x : ⊤) → ended ts ≡ Ok x → ts ≡ tokens.End ∷ []
end_sound (tokens.End ∷ []) x h = refl
end_sound [] x h = absurd (cc)
end_sound (t ∷ ts) x h = absurd (cc)

-- TWO VALUES
pub pair_sound : (ts : List Token) (p : Paired) → pair_of ts ≡ Ok p → IsPair ts p
unfolding pair_of
pair_sound ts p h =
    let a = and_then_ok (expression_of ts) with_first p h in
    let b = and_then_ok (after_comma a.0.1) (with_separator a.0.0) p a.2 in
    let c = and_then_ok (expression_of b.0) (with_second a.0.0) p b.2 in
    let d = and_then_ok (when_of c.0.1) (with_when a.0.0 c.0.0) p c.2 in
    let e = and_then_ok (ended d.0.1) (paired a.0.0 c.0.0 d.0.0) p d.2 in
    let same : ◌≡◌ {A = Paired} (record { first = a.0.0; second = c.0.0; when = d.0.0 }) p = (let k : paired a.0.0 c.0.0 d.0.0 e.0 ≡ Ok p = e.2 in cc) in
    subst (IsPair ts) same (record {
      after_first = b.0;
      after_second = c.0.1;
      first = subst (λ (x : List Token). IsRead ts a.0.0 x) (comma_sound a.0.1 b.0 b.1) (read_sound ts a.0.0 a.0.1 a.1);
      second = read_sound b.0 c.0.0 c.0.1 c.1;
      when = subst (λ (x : List Token). IsWhen c.0.1 d.0.0 x) (end_sound d.0.1 e.0 e.1) (when_sound c.0.1 d.0.0 d.0.1 d.1);
    })

pub pair_complete : (ts : List Token) (p : Paired) → IsPair ts p → pair_of ts ≡ Ok p
unfolding pair_of
pair_complete ts p h =
    then_ok (expression_of ts) with_first (p.first, tokens.Comma ∷ h.after_first) (read_complete ts p.first (tokens.Comma ∷ h.after_first) h.first)
    ∙ (then_ok (expression_of h.after_first) (with_second p.first) (p.second, h.after_second) (read_complete h.after_first p.second h.after_second h.second)
    ∙ then_ok (when_of h.after_second) (with_when p.first p.second) (p.when, tokens.End ∷ []) (when_complete h.after_second p.when (tokens.End ∷ []) h.when))

-- the steps of a pair that is read
pub pair_1 : (ts : List Token) (e : Phrase × List Token) → expression_of ts ≡ Ok e → pair_of ts ≡ with_first e
unfolding pair_of
pair_1 ts e h = then_ok (expression_of ts) with_first e h

pub pair_2 : (ts : List Token) (e : Phrase × List Token) (us : List Token) → expression_of ts ≡ Ok e → after_comma e.1 ≡ Ok us → pair_of ts ≡ with_separator e.0 us
pair_2 ts e us h k = pair_1 ts e h ∙ then_ok (after_comma e.1) (with_separator e.0) us k

pub pair_3 : (ts : List Token) (e : Phrase × List Token) (us : List Token) (f : Phrase × List Token) → expression_of ts ≡ Ok e → after_comma e.1 ≡ Ok us → expression_of us ≡ Ok f
    → pair_of ts ≡ with_second e.0 f
pair_3 ts e us f h k l = pair_2 ts e us h k ∙ then_ok (expression_of us) (with_second e.0) f l

pub pair_4 : (ts : List Token) (e : Phrase × List Token) (us : List Token) (f w : Phrase × List Token) → expression_of ts ≡ Ok e → after_comma e.1 ≡ Ok us → expression_of us ≡ Ok f → when_of f.1 ≡ Ok w
    → pair_of ts ≡ with_when e.0 f.0 w
pair_4 ts e us f w h k l m = pair_3 ts e us f h k l ∙ then_ok (when_of f.1) (with_when e.0 f.0) w m

pub pair_5 : (ts : List Token) (e : Phrase × List Token) (us : List Token) (f w : Phrase × List Token) (x : ⊤) → expression_of ts ≡ Ok e → after_comma e.1 ≡ Ok us → expression_of us ≡ Ok f → when_of f.1 ≡ Ok w → ended w.1 ≡ Ok x
    → pair_of ts ≡ paired e.0 f.0 w.0 x
pair_5 ts e us f w x h k l m n = pair_4 ts e us f w h k l m ∙ then_ok (ended w.1) (paired e.0 f.0 w.0) x n

-- CHANGES
abbrev IsAssigned : Verb → List Token → (Name × List Token) → Type 0
IsAssigned verb ts x = (t : Token) × (ts ≡ t ∷ tokens.Infix operators.Equal ∷ x.1) × (target_of verb t ≡ Ok x.0)

assigned_by : (verb : Verb) (t : Token) (us : List Token) (x : Name × List Token) (r : Result Name Wrong) → target_of verb t ≡ r → with_rest us r ≡ Ok x → IsAssigned verb (t ∷ tokens.Infix operators.Equal ∷ us) x
assigned_by verb t us x (Ok y) e h =
    let pair : ◌≡◌ {A = Name × List Token} (y, us) x = cc in
    let name_is : y ≡ x.0 = ap (λ (q : Name × List Token). q.0) pair in
    let target_is : target_of verb t ≡ Ok x.0 = cc in
    (t, ap (λ (q : Name × List Token). t ∷ tokens.Infix operators.Equal ∷ q.1) pair, target_is)
assigned_by verb t us x (Err w) e h = absurd (cc)

assigned_sound : (verb : Verb) (ts : List Token) (x : Name × List Token) → assigned_of verb ts ≡ Ok x → IsAssigned verb ts x
assigned_sound verb (t ∷ tokens.Infix operators.Equal ∷ us) x h = assigned_by verb t us x (target_of verb t) refl h
assigned_sound verb [] x h = absurd (cc)
assigned_sound verb (t ∷ ts) x h = absurd (cc)

change_sound : (verb : Verb) (ts : List Token) (c : Assigned × List Token) → change_of verb ts ≡ Ok c → IsChange verb ts c.0 c.1
unfolding change_of
change_sound verb ts c h =
    let a = and_then_ok (assigned_of verb ts) (with_target verb) c h in
    let b = and_then_ok (expression_of a.0.1) (with_value verb a.0.0) c a.2 in
    let d = and_then_ok (condition_of verb b.0.1) (changed a.0.0 b.0.0) c b.2 in
    let t = assigned_sound verb ts a.0 a.1 in
    let same : ◌≡◌ {A = Assigned × List Token} (record { name = a.0.0; value = b.0.0; when = d.0.0 }, d.0.1) c = (let k : changed a.0.0 b.0.0 d.0 ≡ Ok c = d.2 in cc) in
    subst (λ (q : Assigned × List Token). IsChange verb ts q.0 q.1) same (record {
      token = t.0;
      values = a.0.1;
      after = b.0.1;
      begins = t.1;
      target = t.2;
      value = read_sound a.0.1 b.0.0 b.0.1 b.1;
      when = condition_sound verb b.0.1 d.0.0 d.0.1 d.1;
    })

change_complete : (verb : Verb) (ts : List Token) (c : Assigned) (rest : List Token) → IsChange verb ts c rest → change_of verb ts ≡ Ok (c, rest)
unfolding change_of
change_complete verb ts c rest h =
    let first : assigned_of verb ts ≡ Ok (c.name, h.values) = ap (assigned_of verb) h.begins ∙ ap (with_rest h.values) h.target in
    then_ok (assigned_of verb ts) (with_target verb) (c.name, h.values) first
    ∙ (then_ok (expression_of h.values) (with_value verb c.name) (c.value, h.after) (read_complete h.values c.value h.after h.value)
    ∙ then_ok (condition_of verb h.after) (changed c.name c.value) (c.when, rest) (condition_complete verb h.after c.when rest h.when))

-- the steps of a change that is read
pub change_1 : (verb : Verb) (ts : List Token) (x : Name × List Token) → assigned_of verb ts ≡ Ok x → change_of verb ts ≡ with_target verb x
unfolding change_of
change_1 verb ts x h = then_ok (assigned_of verb ts) (with_target verb) x h

pub change_2 : (verb : Verb) (ts : List Token) (x : Name × List Token) (e : Phrase × List Token) → assigned_of verb ts ≡ Ok x → expression_of x.1 ≡ Ok e → change_of verb ts ≡ with_value verb x.0 e
change_2 verb ts x e h k = change_1 verb ts x h ∙ then_ok (expression_of x.1) (with_value verb x.0) e k

pub change_3 : (verb : Verb) (ts : List Token) (x : Name × List Token) (e w : Phrase × List Token) → assigned_of verb ts ≡ Ok x → expression_of x.1 ≡ Ok e → condition_of verb e.1 ≡ Ok w → change_of verb ts ≡ changed x.0 e.0 w
change_3 verb ts x e w h k l = change_2 verb ts x e h k ∙ then_ok (condition_of verb e.1) (changed x.0 e.0) w l

-- and of changes
pub changes_none : (verb : Verb) (n : ℕ) (ts : List Token) (done : List Assigned) → n ≡ 0 → changes_of verb n ts done ≡ Err wrongs.TooMany
unfolding changes_of
changes_none verb n ts done e = ap (λ (m : ℕ). changes_of verb m ts done) e

pub changes_step : (verb : Verb) (n : ℕ) (ts : List Token) (done : List Assigned) (c : Assigned × List Token) → (n ≡ 0 → ⊥) → change_of verb ts ≡ Ok c
    → changes_of verb n ts done ≡ next_of (λ us more. changes_of verb (n - 1) us more) (done ++ c.0 ∷ []) c.1
unfolding changes_of
changes_step verb zero ts done c some h = absurd (some refl)
changes_step verb (suc n) ts done c some h =
    let e : n ≡ suc n - 1 = omega arith in
    then_ok (change_of verb ts) (with_change (λ us more. changes_of verb n us more) done) c h
    ∙ ap (λ (m : ℕ). next_of (λ us more. changes_of verb m us more) (done ++ c.0 ∷ []) c.1) e

pub changes_refused : (verb : Verb) (n : ℕ) (ts : List Token) (done : List Assigned) (w : Wrong) → (n ≡ 0 → ⊥) → (w ≡ wrongs.Memory) ⊎ (change_of verb ts ≡ Err w) → (w ≡ wrongs.Memory) ⊎ (changes_of verb n ts done ≡ Err w)
unfolding changes_of
changes_refused verb zero ts done w some h = absurd (some refl)
changes_refused verb (suc n) ts done w some h = refused (change_of verb ts) (with_change (λ us more. changes_of verb n us more) done) w h

-- the last one, one that others follow, and one that is followed by neither
pub changes_last : (verb : Verb) (n : ℕ) (ts : List Token) (done : List Assigned) (c : Assigned × List Token) (out : List Assigned) → (n ≡ 0 → ⊥) → change_of verb ts ≡ Ok c → after_change c.1 ≡ Ok None → out ≡ done ++ c.0 ∷ []
    → changes_of verb n ts done ≡ Ok out
changes_last verb n ts done c out some h last e =
    let back : done ++ c.0 ∷ [] ≡ out = sym e in
    changes_step verb n ts done c some h ∙ then_ok (after_change c.1) (with_next (λ us more. changes_of verb (n - 1) us more) (done ++ c.0 ∷ [])) None last ∙ (λ i. Ok (back i))

pub changes_more : (verb : Verb) (n : ℕ) (ts : List Token) (done : List Assigned) (c : Assigned × List Token) (us : List Token) (all : List Assigned) → (n ≡ 0 → ⊥) → change_of verb ts ≡ Ok c → after_change c.1 ≡ Ok (Some us) → all ≡ done ++ c.0 ∷ []
    → changes_of verb n ts done ≡ changes_of verb (n - 1) us all
changes_more verb n ts done c us all some h next e =
    changes_step verb n ts done c some h ∙ then_ok (after_change c.1) (with_next (λ us more. changes_of verb (n - 1) us more) (done ++ c.0 ∷ [])) (Some us) next ∙ ap (λ (x : List Assigned). changes_of verb (n - 1) us x) (sym e)

pub changes_stray : (verb : Verb) (n : ℕ) (ts : List Token) (done : List Assigned) (c : Assigned × List Token) (w : Wrong) → (n ≡ 0 → ⊥) → change_of verb ts ≡ Ok c → (w ≡ wrongs.Memory) ⊎ (after_change c.1 ≡ Err w)
    → (w ≡ wrongs.Memory) ⊎ (changes_of verb n ts done ≡ Err w)
changes_stray verb n ts done c w some h stray =
    let next = next_of (λ us more. changes_of verb (n - 1) us more) (done ++ c.0 ∷ []) c.1 in
    along (changes_of verb n ts done) next w (changes_step verb n ts done c some h) (refused (after_change c.1) (with_next (λ us more. changes_of verb (n - 1) us more) (done ++ c.0 ∷ [])) w stray)

pub map_push : (done items : List Assignment) (c : Assignment) → items ≡ done ++ c ∷ [] → map change_by items ≡ map change_by done ++ change_by c ∷ []
map_push done items c e = ap (map change_by) e ∙ map-append change_by done (c ∷ [])

-- one or more
abbrev Changed : Verb → ℕ → List Token → List Assigned → List Assigned → Type 0
Changed verb n ts done out = (cs : List Assigned) × (out ≡ done ++ cs) × AreChanges verb ts cs × (length cs ≤ n)

joined : (verb : Verb) (ts us : List Token) (c : Assigned) (cs : List Assigned) → IsChange verb ts c (tokens.Comma ∷ us) → AreChanges verb us cs → AreChanges verb ts (c ∷ cs)
joined verb ts us c [] h k = absurd k
joined verb ts us c (d ∷ ds) h k = (us, h, k)

next_sound : (verb : Verb) (n : ℕ) (ts : List Token) (done : List Assigned) (c : Assigned) (rest : List Token) (out : List Assigned)
    → ((us : List Token) (more out : List Assigned) → changes_of verb n us more ≡ Ok out → Changed verb n us more out)
    → IsChange verb ts c rest → next_of (λ us more. changes_of verb n us more) (done ++ c ∷ []) rest ≡ Ok out → Changed verb (suc n) ts done out
next_sound verb n ts done c (tokens.Comma ∷ us) out ih h e =
    let m = ih us (done ++ c ∷ []) out e in
    (c ∷ m.0, m.1 ∙ append_assoc done (c ∷ []) m.0, joined verb ts us c m.0 h m.2, omega (arith, m.3))
next_sound verb n ts done c (tokens.End ∷ []) out ih h e =
    let same : out ≡ done ++ c ∷ [] = cc in
    (c ∷ [], same, h, omega arith)
next_sound verb n ts done c [] out ih h e = absurd (cc)
next_sound verb n ts done c (t ∷ rest) out ih h e = absurd (cc)

pub changes_sound : (verb : Verb) (n : ℕ) (ts : List Token) (done out : List Assigned) → changes_of verb n ts done ≡ Ok out → Changed verb n ts done out
unfolding changes_of
changes_sound verb zero ts done out h = absurd (cc)
changes_sound verb (suc n) ts done out h =
    let a = and_then_ok (change_of verb ts) (with_change (λ us more. changes_of verb n us more) done) out h in
    next_sound verb n ts done a.0.0 a.0.1 out (λ us more o k. changes_sound verb n us more o k) (change_sound verb ts a.0 a.1) a.2

pub changes_complete : (verb : Verb) (n : ℕ) (ts : List Token) (done cs : List Assigned) → AreChanges verb ts cs → length cs ≤ n → changes_of verb n ts done ≡ Ok (done ++ cs)
unfolding changes_of
changes_complete verb n ts done [] a l = absurd a
changes_complete verb zero ts done (c ∷ cs) a l = absurd (omega arith)
changes_complete verb (suc n) ts done (c ∷ []) a l =
    then_ok (change_of verb ts) (with_change (λ us more. changes_of verb n us more) done) (c, tokens.End ∷ []) (change_complete verb ts c (tokens.End ∷ []) a)
changes_complete verb (suc n) ts done (c ∷ d ∷ cs) a l =
    let grouped : ◌≡◌ {A = Result (List Assigned) Wrong} (Ok ((done ++ c ∷ []) ++ d ∷ cs)) (Ok (done ++ c ∷ d ∷ cs)) = λ i. Ok (append_assoc done (c ∷ []) (d ∷ cs) i) in
    then_ok (change_of verb ts) (with_change (λ us more. changes_of verb n us more) done) (c, tokens.Comma ∷ a.0) (change_complete verb ts c (tokens.Comma ∷ a.0) a.1)
    ∙ (changes_complete verb n a.0 (done ++ c ∷ []) (d ∷ cs) a.2 (omega arith) ∙ grouped)

-- HEADS
abbrev IsHeadOf : ClosureKind → List Token → Line → Type 0
IsHeadOf kind ts l = (code : ℕ) × (ts ≡ tokens.Number (pos code) ∷ tokens.End ∷ []) × (is_code code ≡ true) × (l ≡ head kind code)

head_by : (kind : ClosureKind) (n : ℕ) (l : Line) (b : Bool) → is_code n ≡ b → ◌≡◌ {A = Result Line Wrong} (if b then Ok (head kind n) else Err wrongs.Code) (Ok l) → IsHeadOf kind (tokens.Number (pos n) ∷ tokens.End ∷ []) l
head_by kind n l true t e = let same : l ≡ head kind n = cc in (n, refl, t, same)
head_by kind n l false t e = absurd (cc)

head_sound : (kind : ClosureKind) (ts : List Token) (l : Line) → head_of kind ts ≡ Ok l → IsHeadOf kind ts l
head_sound kind (tokens.Number (pos n) ∷ tokens.End ∷ []) l h = head_by kind n l (is_code n) refl h
head_sound kind (tokens.Number (negsuc n) ∷ tokens.End ∷ []) l h = absurd (cc)
head_sound kind [] l h = absurd (cc)
head_sound kind (t ∷ ts) l h = absurd (cc)

head_complete : (kind : ClosureKind) (code : ℕ) → is_code code ≡ true → head_at kind (pos code) ≡ Ok (head kind code)
head_complete kind code h = ap (λ (b : Bool). (let r : Result Line Wrong = if b then Ok (head kind code) else Err wrongs.Code in r)) h

-- LINES
lets_sound : (verb : Verb) (ts : List Token) (cs : List Assigned) → changes_of verb 64 ts [] ≡ Ok cs → AreChangesOf verb (tokens.Verb verb ∷ ts) cs
lets_sound verb ts cs h =
    let c = changes_sound verb 64 ts [] cs h in
    subst (AreChangesOf verb (tokens.Verb verb ∷ ts)) (sym c.1) (record { after = ts; begins = refl; changes = c.2; few = c.3 })

verb_sound : (verb : Verb) (ts : List Token) (l : Line) → verb_line verb ts ≡ Ok l → IsLine (tokens.Verb verb ∷ ts) l
verb_sound verbs.Let ts l h =
    let a = and_then_ok (changes_of verbs.Let 64 ts []) of_lets l h in
    let same : lets a.0 ≡ l = (let k : of_lets a.0 ≡ Ok l = a.2 in cc) in
    subst (IsLine (tokens.Verb verbs.Let ∷ ts)) same (lets_sound verbs.Let ts a.0 a.1)
verb_sound verbs.Item ts l h =
    let a = and_then_ok (changes_of verbs.Item 64 ts []) of_item l h in
    let same : item a.0 ≡ l = (let k : of_item a.0 ≡ Ok l = a.2 in cc) in
    subst (IsLine (tokens.Verb verbs.Item ∷ ts)) same (lets_sound verbs.Item ts a.0 a.1)
verb_sound verbs.Each ts l h =
    let a = and_then_ok (pair_of ts) of_each l h in
    let same : each a.0 ≡ l = (let k : of_each a.0 ≡ Ok l = a.2 in cc) in
    subst (IsLine (tokens.Verb verbs.Each ∷ ts)) same (record { after = ts; begins = refl; pair = pair_sound ts a.0 a.1 })
verb_sound verbs.Send ts l h =
    let a = and_then_ok (pair_of ts) of_send l h in
    let same : send a.0 ≡ l = (let k : of_send a.0 ≡ Ok l = a.2 in cc) in
    subst (IsLine (tokens.Verb verbs.Send ∷ ts)) same (record { after = ts; begins = refl; pair = pair_sound ts a.0 a.1 })
verb_sound verbs.Keep ts l h =
    let a = and_then_ok (pair_of ts) of_keep l h in
    let same : keep a.0 ≡ l = (let k : of_keep a.0 ≡ Ok l = a.2 in cc) in
    subst (IsLine (tokens.Verb verbs.Keep ∷ ts)) same (record { after = ts; begins = refl; pair = pair_sound ts a.0 a.1 })

pub line_sound : (ts : List Token) (l : Line) → line_of ts ≡ Ok l → IsLine ts l
line_sound (tokens.Kind kind ∷ ts) l h =
    let a = head_sound kind ts l h in
    subst (IsLine (tokens.Kind kind ∷ ts)) (sym a.3) (record { tokens_are = ap (λ (x : List Token). tokens.Kind kind ∷ x) a.1; in_range = a.2 })
line_sound (tokens.Verb verb ∷ ts) l h = verb_sound verb ts l h
line_sound [] l h = absurd (cc)
line_sound (t ∷ ts) l h = absurd (cc)

pub line_complete : (ts : List Token) (l : Line) → IsLine ts l → line_of ts ≡ Ok l
line_complete ts (head kind code) h = ap line_of h.tokens_are ∙ head_complete kind code h.in_range
line_complete ts (lets cs) h = ap line_of h.begins ∙ then_ok (changes_of verbs.Let 64 h.after []) of_lets cs (changes_complete verbs.Let 64 h.after [] cs h.changes h.few)
line_complete ts (item cs) h = ap line_of h.begins ∙ then_ok (changes_of verbs.Item 64 h.after []) of_item cs (changes_complete verbs.Item 64 h.after [] cs h.changes h.few)
line_complete ts (each p) h = ap line_of h.begins ∙ then_ok (pair_of h.after) of_each p (pair_complete h.after p h.pair)
line_complete ts (send p) h = ap line_of h.begins ∙ then_ok (pair_of h.after) of_send p (pair_complete h.after p h.pair)
line_complete ts (keep p) h = ap line_of h.begins ∙ then_ok (pair_of h.after) of_keep p (pair_complete h.after p h.pair)
