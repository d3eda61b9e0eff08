-- The lines of closures that can be spelled add these closures, one after another.
use Rattle.std.specs.Prelude.{◌≡◌, ◌≤◌, ◌<◌, ◌^◌, ℕ, suc, ◌+◌, ◌-◌, pos, Bool, true, false, ◌&&◌, ◌||◌, nat_lt, nat_le, if◌then◌else◌, List, [], ◌∷◌, ◌++◌, map, length, Some, Result, Ok, ⊤}
use Rattle.std.proofs.Common.{refl, ap, sym, ◌∙◌, arith, subst, append_assoc, length-append}
use Rattle.std.specs.List.{AllByRecursion}
use Rattle.std.proofs.lemmas.List.{append-nil, map-append}
use Rattle.std.proofs.lemmas.Bool.{lt-ltb, le-ltb, lt-leb, leb-true}
use Rattle.td_formula.specs.declared.expression.Name.TheVariants as names
use Rattle.td_formula.specs.declared.closure.ClosureKind.{ClosureKind}
use Rattle.td_closures.specs.declared.token.Token.{Token}
use Rattle.td_closures.specs.declared.token.Verb.TheVariants as verbs
use Rattle.td_closures.specs.declared.fault.Wrong.{Wrong}
use Rattle.td_closures.specs.Phrase.{Phrase, number, name}
use Rattle.td_closures.specs.Words.{is_fold, has_items, verb_scope}
use Rattle.td_closures.specs.Lines.{Assigned, Paired, Line, is_code, IsLine}
use Rattle.td_closures.specs.Lines.Line.{head, lets, item, each, send, keep}
use Rattle.td_closures.specs.Drafts.{Said, unchanged, new_closure, Draft, closures_of, has_closure, begun_with, with_head, with_last, with_part, with_line, tokens_in, nodes_in, after_nodes}
use Rattle.td_closures.specs.Texts.{says_nothing, AreSaidBy, AreSaid, Adds, Add}
use Rattle.td_closures.specs.Canonical.{is_one, is_a, is_b, is_unchanged, line_text, let_line, item_line, keep_lines, lines_of}
use Rattle.td_closures.specs.Spelled.{registers, AreLets, IsItem, IsPairAt, IsEach, IsKeep, IsClosure, AreApart, line_tokens, all_lines}
use Rattle.td_closures.proofs.Complete.{and_left, and_right}
use Rattle.td_closures.proofs.SpokenLines.{one_is, IsSaidAt, said_each, said_send, said_keep, said_item, said_let, said_head}

-- ONE LINE. What is left of the bytes and of the nodes
abbrev pub bytes_after : ℕ → Line → ℕ
bytes_after bytes l = bytes - length (line_text l) - 1

abbrev pub nodes_after : ℕ → Line → ℕ
nodes_after nodes l = nodes - nodes_in (line_tokens l)

pub record HasRoom (bytes nodes : ℕ) (l : Line) : Type 0 where
  pub short : length (line_text l) ≤ 4096
  pub bytes_left : length (line_text l) < bytes
  pub nodes_left : nodes_in (line_tokens l) ≤ nodes

not_long : (n bytes : ℕ) → n ≤ 4096 → n < bytes → (nat_lt 4096 n || nat_le bytes n) ≡ false
not_long n bytes h l = rw (le-ltb 4096 n h, lt-leb bytes n l) refl

-- a line of canonical tokens is no line of none
says_some : (l : Line) → says_nothing (line_tokens l) ≡ false
says_some (head kind code) = refl
says_some (lets cs) = refl
says_some (item cs) = refl
says_some (each p) = refl
says_some (send p) = refl
says_some (keep p) = refl

said_by : (d f : Draft) (ts : List Token) (l : Line) → says_nothing ts ≡ false → IsLine ts l → nodes_in ts ≤ d.nodes → with_line (after_nodes d ts) l ≡ Ok f → AreSaid d ts f
said_by d f ts l some spelled few stands = subst (λ (b : Bool). AreSaidBy b d ts f) (sym some) (record { line = l; spelled = spelled; few = few; stands = stands })

adds_line : (d : Draft) (l : Line) (regs : List (List ℕ)) (f : Draft) → IsSaidAt d l regs → HasRoom d.bytes d.nodes l
    → with_line (record d { registers = regs; bytes = bytes_after d.bytes l; nodes = nodes_after d.nodes l }) l ≡ Ok f → Adds d (line_text l) f
adds_line d l regs f said room stands =
    let after : Draft = record d { registers = regs; bytes = bytes_after d.bytes l } in
    let here : AreSaid after (line_tokens l) f = said_by after f (line_tokens l) l (says_some l) said.spelled room.nodes_left stands in
    record {
      short = not_long (length (line_text l)) d.bytes room.short room.bytes_left;
      said = subst (λ (x : List (List ℕ)). AreSaid (record d { registers = x; bytes = bytes_after d.bytes l }) (tokens_in d (line_text l)) f) (sym said.registers_are)
          (subst (λ (ts : List Token). AreSaid after ts f) (sym said.tokens_are) here);
    }

-- SOME LINES
abbrev pub bytes_behind : ℕ → List Line → ℕ
bytes_behind bytes [] = bytes
bytes_behind bytes (l ∷ ls) = bytes_behind (bytes_after bytes l) ls

abbrev pub nodes_behind : ℕ → List Line → ℕ
nodes_behind nodes [] = nodes
nodes_behind nodes (l ∷ ls) = nodes_behind (nodes_after nodes l) ls

abbrev pub HaveRoom : ℕ → ℕ → List Line → Type 0
HaveRoom bytes nodes [] = ⊤
HaveRoom bytes nodes (l ∷ ls) = HasRoom bytes nodes l × HaveRoom (bytes_after bytes l) (nodes_after nodes l) ls

pub room_front : (bytes nodes : ℕ) (ls ms : List Line) → HaveRoom bytes nodes (ls ++ ms) → HaveRoom bytes nodes ls
room_front bytes nodes [] ms h = tt
room_front bytes nodes (l ∷ ls) ms h = (h.0, room_front (bytes_after bytes l) (nodes_after nodes l) ls ms h.1)

pub room_rest : (bytes nodes : ℕ) (ls ms : List Line) → HaveRoom bytes nodes (ls ++ ms) → HaveRoom (bytes_behind bytes ls) (nodes_behind nodes ls) ms
room_rest bytes nodes [] ms h = h
room_rest bytes nodes (l ∷ ls) ms h = room_rest (bytes_after bytes l) (nodes_after nodes l) ls ms h.1

pub add_append : (d e f : Draft) (xs ys : List (List ℕ)) → Add d xs e → Add e ys f → Add d (xs ++ ys) f
add_append d e f [] ys h k = subst (λ (x : Draft). Add x ys f) (sym h) k
add_append d e f (x ∷ xs) ys h k = (h.0, h.1, add_append h.0 e f xs ys h.2 k)

-- a draft in the middle of a closure
abbrev pub middle : List Said → Said → Bool → ℕ → ℕ → ℕ → Draft
middle done c kept n bytes nodes = record { done = done; last = Some c; kept = kept; registers = registers n; bytes = bytes; nodes = nodes }

-- the lines `let`
add_lets : (done : List Said) (c : Said) (n bytes nodes : ℕ) (cs all : List Assigned) (k : ℕ) → AreLets c.kind n cs → all ≡ c.lets ++ cs → k ≡ n + length cs → k ≤ 8 → HaveRoom bytes nodes (map let_line cs)
    → Add (middle done c false n bytes nodes) (map line_text (map let_line cs)) (middle done (record c { lets = all }) false k (bytes_behind bytes (map let_line cs)) (nodes_behind nodes (map let_line cs)))
add_lets done c n bytes nodes [] all k h e count small room =
    let same : c.lets ≡ all = sym (e ∙ append-nil c.lets) in
    let there : n ≡ k = omega (arith, count) in
    λ i. middle done (record c { lets = same i }) false (there i) bytes nodes
add_lets done c n bytes nodes (x ∷ xs) all k h e count small room =
    let d : Draft = middle done c false n bytes nodes in
    let next : Said = record c { lets = c.lets ++ x ∷ [] } in (
      middle done next false (suc n) (bytes_after bytes (let_line x)) (nodes_after nodes (let_line x)),
      adds_line d (let_line x) (registers (suc n)) (middle done next false (suc n) (bytes_after bytes (let_line x)) (nodes_after nodes (let_line x))) (said_let d n c.kind x (omega (arith, count, small)) refl refl h.0) room.0 refl,
      add_lets done next (suc n) (bytes_after bytes (let_line x)) (nodes_after nodes (let_line x)) xs all k h.1 (e ∙ sym (append_assoc c.lets (x ∷ []) xs)) (omega (arith, count)) small room.1,
    )

-- the lines `item`
item_stands : (c : Said) (x : Assigned) → has_items (Some c.kind) ≡ true → with_part c false (item_line x) ≡ Ok (record c { changes = c.changes ++ x ∷ [] })
item_stands c x h = rw h refl

last_stands : (d : Draft) (kept : Bool) (r : Result Said Wrong) (c : Said) → r ≡ Ok c → with_last d kept r ≡ Ok (record d { last = Some c; kept = kept })
last_stands d kept r c h = ap (with_last d kept) h

add_items : (done : List Said) (c : Said) (n bytes nodes : ℕ) (cs all : List Assigned) → n ≤ 8 → AllByRecursion (IsItem c.kind n) cs → all ≡ c.changes ++ cs → HaveRoom bytes nodes (map item_line cs)
    → Add (middle done c false n bytes nodes) (map line_text (map item_line cs)) (middle done (record c { changes = all }) false n (bytes_behind bytes (map item_line cs)) (nodes_behind nodes (map item_line cs)))
add_items done c n bytes nodes [] all small h e room =
    let same : c.changes ≡ all = sym (e ∙ append-nil c.changes) in
    λ i. middle done (record c { changes = same i }) false n bytes nodes
add_items done c n bytes nodes (x ∷ xs) all small h e room =
    let d : Draft = middle done c false n bytes nodes in
    let next : Said = record c { changes = c.changes ++ x ∷ [] } in
    let f : Draft = middle done next false n (bytes_after bytes (item_line x)) (nodes_after nodes (item_line x)) in (
      f,
      adds_line d (item_line x) (registers n) f (said_item d n c.kind x small refl refl h.0) room.0
          (last_stands (middle done c false n (bytes_after bytes (item_line x)) (nodes_after nodes (item_line x))) false (with_part c false (item_line x)) next (item_stands c x h.0.has_some)),
      add_items done next n (bytes_after bytes (item_line x)) (nodes_after nodes (item_line x)) xs all small h.1 (e ∙ sym (append_assoc c.changes (x ∷ []) xs)) room.1,
    )

-- the lines `each`
each_stands : (c : Said) (p : Paired) → has_items (Some c.kind) ≡ true → with_part c false (each p) ≡ Ok (record c { each = c.each ++ p ∷ [] })
each_stands c p h = rw h refl

add_each : (done : List Said) (c : Said) (n bytes nodes : ℕ) (ps all : List Paired) → n ≤ 8 → AllByRecursion (IsEach c.kind n) ps → all ≡ c.each ++ ps → HaveRoom bytes nodes (map each ps)
    → Add (middle done c false n bytes nodes) (map line_text (map each ps)) (middle done (record c { each = all }) false n (bytes_behind bytes (map each ps)) (nodes_behind nodes (map each ps)))
add_each done c n bytes nodes [] all small h e room =
    let same : c.each ≡ all = sym (e ∙ append-nil c.each) in
    λ i. middle done (record c { each = same i }) false n bytes nodes
add_each done c n bytes nodes (p ∷ ps) all small h e room =
    let d : Draft = middle done c false n bytes nodes in
    let next : Said = record c { each = c.each ++ p ∷ [] } in
    let f : Draft = middle done next false n (bytes_after bytes (each p)) (nodes_after nodes (each p)) in (
      f,
      adds_line d (each p) (registers n) f (said_each d n c.kind p small refl refl h.0.pair) room.0
          (last_stands (middle done c false n (bytes_after bytes (each p)) (nodes_after nodes (each p))) false (with_part c false (each p)) next (each_stands c p h.0.has_some)),
      add_each done next n (bytes_after bytes (each p)) (nodes_after nodes (each p)) ps all small h.1 (e ∙ sym (append_assoc c.each (p ∷ []) ps)) room.1,
    )

-- the lines `send`: eight at most
send_stands : (c : Said) (p : Paired) → length c.sends < 8 → with_part c false (send p) ≡ Ok (record c { sends = c.sends ++ p ∷ [] })
send_stands c p h = rw (lt-ltb (length c.sends) 8 h) refl

add_sends : (done : List Said) (c : Said) (n bytes nodes : ℕ) (ps all : List Paired) → n ≤ 8 → AllByRecursion (IsPairAt (verb_scope (Some c.kind) verbs.Send) n) ps → length c.sends + length ps ≤ 8 → all ≡ c.sends ++ ps → HaveRoom bytes nodes (map send ps)
    → Add (middle done c false n bytes nodes) (map line_text (map send ps)) (middle done (record c { sends = all }) false n (bytes_behind bytes (map send ps)) (nodes_behind nodes (map send ps)))
add_sends done c n bytes nodes [] all small h few e room =
    let same : c.sends ≡ all = sym (e ∙ append-nil c.sends) in
    λ i. middle done (record c { sends = same i }) false n bytes nodes
add_sends done c n bytes nodes (p ∷ ps) all small h few e room =
    let d : Draft = middle done c false n bytes nodes in
    let next : Said = record c { sends = c.sends ++ p ∷ [] } in
    let f : Draft = middle done next false n (bytes_after bytes (send p)) (nodes_after nodes (send p)) in
    let long : length (c.sends ++ p ∷ []) ≡ length c.sends + 1 = length-append c.sends (p ∷ []) in (
      f,
      adds_line d (send p) (registers n) f (said_send d n c.kind p small refl refl h.0) room.0
          (last_stands (middle done c false n (bytes_after bytes (send p)) (nodes_after nodes (send p))) false (with_part c false (send p)) next (send_stands c p (omega (arith, few)))),
      add_sends done next n (bytes_after bytes (send p)) (nodes_after nodes (send p)) ps all small h.1 (omega (arith, few, long)) (e ∙ sym (append_assoc c.sends (p ∷ []) ps)) room.1,
    )

-- the line `keep`, where the state does not stay as it is
a_is : (e : Phrase) → is_a e ≡ true → e ≡ name names.A
a_is (name names.A) h = refl
a_is _ h = absurd (cc)

b_is : (e : Phrase) → is_b e ≡ true → e ≡ name names.B
b_is (name names.B) h = refl
b_is _ h = absurd (cc)

unchanged_is : (p : Paired) → is_unchanged p ≡ true → unchanged ≡ p
unchanged_is p h =
    let more : (is_b p.second && is_one p.when) ≡ true = and_right (is_a p.first) (is_b p.second && is_one p.when) h in
    let a : name names.A ≡ p.first = sym (a_is p.first (and_left (is_a p.first) (is_b p.second && is_one p.when) h)) in
    let b : name names.B ≡ p.second = sym (b_is p.second (and_left (is_b p.second) (is_one p.when) more)) in
    let w : number (pos 1) ≡ p.when = sym (one_is p.when (and_right (is_b p.second) (is_one p.when) more)) in
    λ i. record { first = a i; second = b i; when = w i }

keep_stands : (c : Said) (p : Paired) → is_fold (Some c.kind) ≡ true → with_part c false (keep p) ≡ Ok (record c { keep = p })
keep_stands c p h = rw h refl

-- whether the line is there
record Ended (done : List Said) (c : Said) (n bytes nodes : ℕ) (p : Paired) (ls : List Line) : Type 0 where
  kept : Bool
  adds : Add (middle done c false n bytes nodes) (map line_text ls) (middle done (record c { keep = p }) kept n (bytes_behind bytes ls) (nodes_behind nodes ls))

add_keep_by : (done : List Said) (c : Said) (n bytes nodes : ℕ) (p : Paired) (b : Bool) → is_unchanged p ≡ b → n ≤ 8 → c.keep ≡ unchanged → (is_unchanged p ≡ false → IsKeep c.kind n p) → HaveRoom bytes nodes (if b then [] else keep p ∷ [])
    → Ended done c n bytes nodes p (if b then [] else keep p ∷ [])
add_keep_by done c n bytes nodes p true e small fresh h room =
    let same : c.keep ≡ p = fresh ∙ unchanged_is p e in
    record { kept = false; adds = λ i. middle done (record c { keep = same i }) false n bytes nodes }
add_keep_by done c n bytes nodes p false e small fresh h room =
    let d : Draft = middle done c false n bytes nodes in
    let next : Said = record c { keep = p } in
    let f : Draft = middle done next true n (bytes_after bytes (keep p)) (nodes_after nodes (keep p)) in
    let k : IsKeep c.kind n p = h e in
    record {
      kept = true;
      adds = (
        f,
        adds_line d (keep p) (registers n) f (said_keep d n c.kind p small refl refl k.pair) room.0
            (last_stands (middle done c false n (bytes_after bytes (keep p)) (nodes_after nodes (keep p))) true (with_part c false (keep p)) next (keep_stands c p k.has_state)),
        refl,
      );
    }

add_keep : (done : List Said) (c : Said) (n bytes nodes : ℕ) (p : Paired) → n ≤ 8 → c.keep ≡ unchanged → (is_unchanged p ≡ false → IsKeep c.kind n p) → HaveRoom bytes nodes (keep_lines p) → Ended done c n bytes nodes p (keep_lines p)
add_keep done c n bytes nodes p small fresh h room = add_keep_by done c n bytes nodes p (is_unchanged p) refl small fresh h room

-- A CLOSURE
head_stands : (d : Draft) (kind : ClosureKind) (code : ℕ) → has_closure kind code (closures_of d) ≡ false → length (closures_of d) < 256 → with_head d kind code ≡ Ok (begun_with d kind code)
head_stands d kind code h l = rw (h, lt-ltb (length (closures_of d)) 256 l) refl

small_code : (code : ℕ) → is_code code ≡ true → code < 2 ^ 64
small_code code h = let most : code ≤ 65535 = leb-true code 65535 (and_right (nat_le 10000 code) (nat_le code 65535) h) in omega arith

pub record AddsClosure (d : Draft) (c : Said) : Type 0 where
  pub kept : Bool
  pub adds : Add d (map line_text (lines_of c)) (middle (closures_of d) c kept (length c.lets) (bytes_behind d.bytes (lines_of c)) (nodes_behind d.nodes (lines_of c)))

-- what is left behind two parts
bytes_append : (bytes : ℕ) (ls ms : List Line) → bytes_behind bytes (ls ++ ms) ≡ bytes_behind (bytes_behind bytes ls) ms
bytes_append bytes [] ms = refl
bytes_append bytes (l ∷ ls) ms = bytes_append (bytes_after bytes l) ls ms

nodes_append : (nodes : ℕ) (ls ms : List Line) → nodes_behind nodes (ls ++ ms) ≡ nodes_behind (nodes_behind nodes ls) ms
nodes_append nodes [] ms = refl
nodes_append nodes (l ∷ ls) ms = nodes_append (nodes_after nodes l) ls ms

-- parts one after another, in the middle of a closure
then_add : (done : List Said) (a b c : Said) (kept more : Bool) (i j k bytes nodes : ℕ) (ls ms : List Line)
    → Add (middle done a kept i bytes nodes) (map line_text ls) (middle done b kept j (bytes_behind bytes ls) (nodes_behind nodes ls))
    → Add (middle done b kept j (bytes_behind bytes ls) (nodes_behind nodes ls)) (map line_text ms) (middle done c more k (bytes_behind (bytes_behind bytes ls) ms) (nodes_behind (nodes_behind nodes ls) ms))
    → Add (middle done a kept i bytes nodes) (map line_text (ls ++ ms)) (middle done c more k (bytes_behind bytes (ls ++ ms)) (nodes_behind nodes (ls ++ ms)))
then_add done a b c kept more i j k bytes nodes ls ms h l =
    let both = add_append (middle done a kept i bytes nodes) (middle done b kept j (bytes_behind bytes ls) (nodes_behind nodes ls)) (middle done c more k (bytes_behind (bytes_behind bytes ls) ms) (nodes_behind (nodes_behind nodes ls) ms)) (map line_text ls) (map line_text ms) h l in
    let texts : map line_text ls ++ map line_text ms ≡ map line_text (ls ++ ms) = sym (map-append line_text ls ms) in
    let end : middle done c more k (bytes_behind (bytes_behind bytes ls) ms) (nodes_behind (nodes_behind nodes ls) ms) ≡ middle done c more k (bytes_behind bytes (ls ++ ms)) (nodes_behind nodes (ls ++ ms))
    = (let x = sym (bytes_append bytes ls ms) in let y = sym (nodes_append nodes ls ms) in λ z. middle done c more k (x z) (y z)) in
    subst (λ (x : List (List ℕ)). Add (middle done a kept i bytes nodes) x (middle done c more k (bytes_behind bytes (ls ++ ms)) (nodes_behind nodes (ls ++ ms)))) texts
    (subst (λ (x : Draft). Add (middle done a kept i bytes nodes) (map line_text ls ++ map line_text ms) x) end both)

-- all but the head
abbrev body_lines : Said → List Line
body_lines c = map let_line c.lets ++ (map item_line c.changes ++ (map each c.each ++ (map send c.sends ++ keep_lines c.keep)))

record AddsBody (done : List Said) (c : Said) (bytes nodes : ℕ) : Type 0 where
  kept : Bool
  adds : Add (middle done (new_closure c.kind c.code) false 0 bytes nodes) (map line_text (body_lines c)) (middle done c kept (length c.lets) (bytes_behind bytes (body_lines c)) (nodes_behind nodes (body_lines c)))

add_body : (done : List Said) (c : Said) (bytes nodes : ℕ) → IsClosure c → HaveRoom bytes nodes (body_lines c) → AddsBody done c bytes nodes
add_body done c bytes nodes h room =
    let n : ℕ = length c.lets in
    let ls : List Line = map let_line c.lets in
    let ms : List Line = map item_line c.changes in
    let ns : List Line = map each c.each in
    let os : List Line = map send c.sends in
    let ps : List Line = keep_lines c.keep in
    let b1 : ℕ = bytes_behind bytes ls in
    let b2 : ℕ = bytes_behind b1 ms in
    let b3 : ℕ = bytes_behind b2 ns in
    let b4 : ℕ = bytes_behind b3 os in
    let n1 : ℕ = nodes_behind nodes ls in
    let n2 : ℕ = nodes_behind n1 ms in
    let n3 : ℕ = nodes_behind n2 ns in
    let n4 : ℕ = nodes_behind n3 os in
    let room1 : HaveRoom b1 n1 (ms ++ (ns ++ (os ++ ps))) = room_rest bytes nodes ls (ms ++ (ns ++ (os ++ ps))) room in
    let room2 : HaveRoom b2 n2 (ns ++ (os ++ ps)) = room_rest b1 n1 ms (ns ++ (os ++ ps)) room1 in
    let room3 : HaveRoom b3 n3 (os ++ ps) = room_rest b2 n2 ns (os ++ ps) room2 in
    let room4 : HaveRoom b4 n4 ps = room_rest b3 n3 os ps room3 in
    let c0 : Said = new_closure c.kind c.code in
    let c1 : Said = record c0 { lets = c.lets } in
    let c2 : Said = record c1 { changes = c.changes } in
    let c3 : Said = record c2 { each = c.each } in
    let c4 : Said = record c3 { sends = c.sends } in
    let count : n ≡ 0 + length c.lets = omega arith in
    let a1 = add_lets done c0 0 bytes nodes c.lets c.lets n h.lets refl count h.few (room_front bytes nodes ls (ms ++ (ns ++ (os ++ ps))) room) in
    let a2 = add_items done c1 n b1 n1 c.changes c.changes h.few h.changes refl (room_front b1 n1 ms (ns ++ (os ++ ps)) room1) in
    let a3 = add_each done c2 n b2 n2 c.each c.each h.few h.each refl (room_front b2 n2 ns (os ++ ps) room2) in
    let a4 = add_sends done c3 n b3 n3 c.sends c.sends h.few h.sends (omega (arith, h.few_sends)) refl (room_front b3 n3 os ps room3) in
    let a5 : Ended done c4 n b4 n4 c.keep ps = add_keep done c4 n b4 n4 c.keep h.few refl h.keep room4 in
    let s4 = then_add done c3 c4 c false a5.kept n n n b3 n3 os ps a4 a5.adds in
    let s3 = then_add done c2 c3 c false a5.kept n n n b2 n2 ns (os ++ ps) a3 s4 in
    let s2 = then_add done c1 c2 c false a5.kept n n n b1 n1 ms (ns ++ (os ++ ps)) a2 s3 in
    record { kept = a5.kept; adds = then_add done c0 c1 c false a5.kept 0 n n bytes nodes ls (ms ++ (ns ++ (os ++ ps))) a1 s2 }

pub adds_closure : (d : Draft) (n : ℕ) (c : Said) → d.registers ≡ registers n → IsClosure c → has_closure c.kind c.code (closures_of d) ≡ false → length (closures_of d) < 256 → HaveRoom d.bytes d.nodes (lines_of c) → AddsClosure d c
adds_closure d n c regs h apart few room =
    let top : Line = head c.kind c.code in
    let f : Draft = middle (closures_of d) (new_closure c.kind c.code) false 0 (bytes_after d.bytes top) (nodes_after d.nodes top) in
    let body : AddsBody (closures_of d) c (bytes_after d.bytes top) (nodes_after d.nodes top) = add_body (closures_of d) c (bytes_after d.bytes top) (nodes_after d.nodes top) h room.1 in
    record {
      kept = body.kept;
      adds = (
        f,
        adds_line d top (registers n) f (said_head d n c.kind c.code (small_code c.code h.code) regs h.code) room.0
            (head_stands (record d { registers = registers n; bytes = bytes_after d.bytes top; nodes = nodes_after d.nodes top }) c.kind c.code apart few),
        body.adds,
      );
    }

-- ALL CLOSURES
pub record AddsAll (d : Draft) (cs : List Said) : Type 0 where
  pub end : Draft
  pub adds : Add d (map line_text (all_lines cs)) end
  pub closures_are : closures_of end ≡ closures_of d ++ cs

pub add_all : (d : Draft) (n : ℕ) (cs : List Said) → d.registers ≡ registers n → AllByRecursion IsClosure cs → AreApart (closures_of d) cs → length (closures_of d) + length cs ≤ 256 → HaveRoom d.bytes d.nodes (all_lines cs) → AddsAll d cs
add_all d n [] regs given apart few room = record { end = d; adds = refl; closures_are = sym (append-nil (closures_of d)) }
add_all d n (c ∷ cs) regs given apart few room =
    let one : AddsClosure d c = adds_closure d n c regs given.0 apart.0 (omega (arith, few)) (room_front d.bytes d.nodes (lines_of c) (all_lines cs) room) in
    let e : Draft = middle (closures_of d) c one.kept (length c.lets) (bytes_behind d.bytes (lines_of c)) (nodes_behind d.nodes (lines_of c)) in
    let long : length (closures_of d ++ c ∷ []) ≡ length (closures_of d) + 1 = length-append (closures_of d) (c ∷ []) in
    let more : AddsAll e cs = add_all e (length c.lets) cs refl given.1 apart.1 (omega (arith, few, long)) (room_rest d.bytes d.nodes (lines_of c) (all_lines cs) room) in
    let texts : map line_text (lines_of c) ++ map line_text (all_lines cs) ≡ map line_text (lines_of c ++ all_lines cs) = sym (map-append line_text (lines_of c) (all_lines cs)) in
    record {
      end = more.end;
      adds = subst (λ (x : List (List ℕ)). Add d x more.end) texts (add_append d e more.end (map line_text (lines_of c)) (map line_text (all_lines cs)) one.adds more.adds);
      closures_are = more.closures_are ∙ append_assoc (closures_of d) (c ∷ []) cs;
    }
