-- The keys of arrivals that come in order, put together one arrival after another.
use Rattle.std.proofs.Common.{◌≡◌, ℕ, suc, ◌+◌, ◌<◌, ◌≤◌, ◌==◌, List, [], ◌∷◌, ◌++◌, length, map, drop, get_or, zero, cond, Bool, true, false, refl, ap, sym, ◌∙◌, subst, arith, append_assoc, length-append, eq-eqb, eqb-true}
use Rattle.std.specs.Prelude.{Option, Some, None}
use Rattle.std.proofs.Math.IntN.{pos}
use Rattle.td_stamp.specs.declared.values.Item.{Item}
use Rattle.td_stamp.specs.declared.values.Arrival.{Arrival}
use Rattle.td_stamp.specs.Groups.{runs, with_first}
use Rattle.td_batch.specs.Steps.Sent.{with_run}
use Rattle.td_machine.specs.State.{KeyItems}
use Rattle.td_task.specs.Arriving.{is_key, last_key, into_last, alone, with_arrival_by, with_arrival, with_arrivals, keys_after}
use Rattle.td_task.specs.KeyLists.{without_state}

-- the last key, and one more item of it, where it stands at the end
pub last_key-end : (keys : List KeyItems) (k : KeyItems) → last_key (keys ++ k ∷ []) ≡ Some k.key
last_key-end [] k = refl
last_key-end (x ∷ []) k = refl
last_key-end (x ∷ y ∷ keys) k = last_key-end (y ∷ keys) k

into_last-end : (keys : List KeyItems) (k : KeyItems) (i : Item) → into_last (keys ++ k ∷ []) i ≡ keys ++ record { key = k.key; items = k.items ++ i ∷ []; state = k.state } ∷ []
into_last-end [] k i = refl
into_last-end (x ∷ []) k i = refl
into_last-end (x ∷ y ∷ keys) k i = ap (λ rest. x ∷ rest) (into_last-end (y ∷ keys) k i)

-- RUNS OF ONE KEY: what comes next is of the key before
run-same : (key : ℕ) (items : List Item) (a : Arrival) (gs : List (ℕ × List Item)) → a.key ≡ key → with_run key (items ++ a.item ∷ []) gs ≡ with_run key items (with_first a gs)
run-same key items a [] e = run-same-none
  where
    run-same-none : with_run key (items ++ a.item ∷ []) [] ≡ with_run key items (with_first a [])
    run-same-none = ap (λ k. (k, items ++ a.item ∷ []) ∷ []) (sym e) ∙ sym (ap (λ b. cond b ((a.key, items ++ a.item ∷ []) ∷ []) ((key, items) ∷ (a.key, a.item ∷ []) ∷ [])) (eq-eqb key a.key (sym e)))
run-same key items a (g ∷ gs) e = subst (λ k. with_run k (items ++ a.item ∷ []) (g ∷ gs) ≡ with_run k items (with_first a (g ∷ gs))) e (by (a.key == g.0) refl)
  where
    by : (b : Bool) → (a.key == g.0) ≡ b → cond (a.key == g.0) ((g.0, (items ++ a.item ∷ []) ++ g.1) ∷ gs) ((a.key, items ++ a.item ∷ []) ∷ g ∷ gs)
        ≡ with_run a.key items (cond (a.key == g.0) ((g.0, a.item ∷ g.1) ∷ gs) ((a.key, a.item ∷ []) ∷ g ∷ gs))
    by true h =
        ap (λ b. cond b ((g.0, (items ++ a.item ∷ []) ++ g.1) ∷ gs) ((a.key, items ++ a.item ∷ []) ∷ g ∷ gs)) h
        ∙ ap (λ l. (g.0, l) ∷ gs) (append_assoc items (a.item ∷ []) g.1)
        ∙ sym (ap (λ b. cond b ((g.0, items ++ a.item ∷ g.1) ∷ gs) ((a.key, items) ∷ (g.0, a.item ∷ g.1) ∷ gs)) h)
        ∙ sym (ap (λ b. with_run a.key items (cond b ((g.0, a.item ∷ g.1) ∷ gs) ((a.key, a.item ∷ []) ∷ g ∷ gs))) h)
    by false h =
        ap (λ b. cond b ((g.0, (items ++ a.item ∷ []) ++ g.1) ∷ gs) ((a.key, items ++ a.item ∷ []) ∷ g ∷ gs)) h
        ∙ sym (ap (λ b. cond b ((a.key, items ++ a.item ∷ []) ∷ g ∷ gs) ((a.key, items) ∷ (a.key, a.item ∷ []) ∷ g ∷ gs)) (eq-eqb a.key a.key refl))
        ∙ sym (ap (λ b. with_run a.key items (cond b ((g.0, a.item ∷ g.1) ∷ gs) ((a.key, a.item ∷ []) ∷ g ∷ gs))) h)

-- of another key
run-other : (key : ℕ) (items : List Item) (a : Arrival) (gs : List (ℕ × List Item)) → (key == a.key) ≡ false → with_run key items (with_first a gs) ≡ (key, items) ∷ with_first a gs
run-other key items a [] e = ap (λ b. cond b ((a.key, items ++ a.item ∷ []) ∷ []) ((key, items) ∷ (a.key, a.item ∷ []) ∷ [])) e
run-other key items a (g ∷ gs) e = by (a.key == g.0) refl
  where
    by : (b : Bool) → (a.key == g.0) ≡ b → with_run key items (cond (a.key == g.0) ((g.0, a.item ∷ g.1) ∷ gs) ((a.key, a.item ∷ []) ∷ g ∷ gs))
        ≡ (key, items) ∷ cond (a.key == g.0) ((g.0, a.item ∷ g.1) ∷ gs) ((a.key, a.item ∷ []) ∷ g ∷ gs)
    by true h =
        let same : a.key ≡ g.0 = eqb-true a.key g.0 h in
        let other : (key == g.0) ≡ false = ap (λ k. key == k) (sym same) ∙ e in
        ap (λ b. with_run key items (cond b ((g.0, a.item ∷ g.1) ∷ gs) ((a.key, a.item ∷ []) ∷ g ∷ gs))) h
        ∙ ap (λ b. cond b ((g.0, items ++ a.item ∷ g.1) ∷ gs) ((key, items) ∷ (g.0, a.item ∷ g.1) ∷ gs)) other
        ∙ sym (ap (λ b. (key, items) ∷ cond b ((g.0, a.item ∷ g.1) ∷ gs) ((a.key, a.item ∷ []) ∷ g ∷ gs)) h)
    by false h =
        ap (λ b. with_run key items (cond b ((g.0, a.item ∷ g.1) ∷ gs) ((a.key, a.item ∷ []) ∷ g ∷ gs))) h
        ∙ ap (λ b. cond b ((a.key, items ++ a.item ∷ []) ∷ g ∷ gs) ((key, items) ∷ (a.key, a.item ∷ []) ∷ g ∷ gs)) e
        ∙ sym (ap (λ b. (key, items) ∷ cond b ((g.0, a.item ∷ g.1) ∷ gs) ((a.key, a.item ∷ []) ∷ g ∷ gs)) h)

run-first : (a : Arrival) (gs : List (ℕ × List Item)) → with_run a.key (a.item ∷ []) gs ≡ with_first a gs
run-first a [] = refl
run-first a (g ∷ gs) = refl

-- ALL ARRIVALS, where a key stands at the end
abbrev group : ℕ → List Item → KeyItems
group key items = without_state (key, items)

all_arrivals : (keys : List KeyItems) (key : ℕ) (items : List Item) (rest : List Arrival) →
    with_arrivals (keys ++ group key items ∷ []) rest ≡ keys ++ map without_state (with_run key items (runs rest))
all_arrivals keys key items [] = refl
all_arrivals keys key items (a ∷ rest) =
    ap (λ last. with_arrivals (with_arrival_by (is_key last a.key) (keys ++ group key items ∷ []) a) rest) (last_key-end keys (group key items))
    ∙ by (key == a.key) refl (all_arrivals keys key (items ++ a.item ∷ []) rest) (all_arrivals (keys ++ group key items ∷ []) a.key (a.item ∷ []) rest)
  where
    by : (b : Bool) → (key == a.key) ≡ b
        → with_arrivals (keys ++ group key (items ++ a.item ∷ []) ∷ []) rest ≡ keys ++ map without_state (with_run key (items ++ a.item ∷ []) (runs rest))
        → with_arrivals ((keys ++ group key items ∷ []) ++ group a.key (a.item ∷ []) ∷ []) rest ≡ (keys ++ group key items ∷ []) ++ map without_state (with_run a.key (a.item ∷ []) (runs rest))
        → with_arrivals (with_arrival_by (key == a.key) (keys ++ group key items ∷ []) a) rest
        ≡ keys ++ map without_state (with_run key items (with_first a (runs rest)))
    by true h same other =
        ap (λ b. with_arrivals (with_arrival_by b (keys ++ group key items ∷ []) a) rest) h
        ∙ ap (λ l. with_arrivals l rest) (into_last-end keys (group key items) a.item)
        ∙ same
        ∙ ap (λ gs. keys ++ map without_state gs) (run-same key items a (runs rest) (sym (eqb-true key a.key h)))
    by false h same other =
        ap (λ b. with_arrivals (with_arrival_by b (keys ++ group key items ∷ []) a) rest) h
        ∙ other
        ∙ append_assoc keys (group key items ∷ []) (map without_state (with_run a.key (a.item ∷ []) (runs rest)))
        ∙ ap (λ gs. keys ++ group key items ∷ map without_state gs) (run-first a (runs rest))
        ∙ sym (ap (λ gs. keys ++ map without_state gs) (run-other key items a (runs rest) h))

-- they are the runs of one key
pub arrivals_are_runs : (all : List Arrival) → with_arrivals [] all ≡ map without_state (runs all)
arrivals_are_runs [] = refl
arrivals_are_runs (a ∷ rest) = all_arrivals [] a.key (a.item ∷ []) rest ∙ ap (map without_state) (run-first a (runs rest))

-- THE NUMBER OF KEYS
pub length-into_last : (keys : List KeyItems) (i : Item) → length (into_last keys i) ≡ length keys
length-into_last [] i = refl
length-into_last (k ∷ []) i = refl
length-into_last (k ∷ next ∷ keys) i = ap suc (length-into_last (next ∷ keys) i)

last_key-into_last : (keys : List KeyItems) (i : Item) → last_key (into_last keys i) ≡ last_key keys
last_key-into_last [] i = refl
last_key-into_last (k ∷ []) i = refl
last_key-into_last (k ∷ x ∷ []) i = refl
last_key-into_last (k ∷ x ∷ y ∷ keys) i = last_key-into_last (x ∷ y ∷ keys) i

length-by : (b : Bool) (keys : List KeyItems) (a : Arrival) → length (with_arrival_by b keys a) ≡ length keys + cond b 0 1
length-by true keys a = length-into_last keys a.item ∙ omega arith
length-by false keys a = length-append keys (alone a ∷ [])

key-by : (b : Bool) (last : Option ℕ) (keys : List KeyItems) (a : Arrival) → last_key keys ≡ last → is_key last a.key ≡ b → last_key (with_arrival_by b keys a) ≡ Some a.key
key-by true None keys a e h = absurd (cc)
key-by true (Some key) keys a e h = last_key-into_last keys a.item ∙ e ∙ ap Some (eqb-true key a.key h)
key-by false last keys a e h = last_key-end keys (alone a)

pub last_key-with_arrival : (keys : List KeyItems) (a : Arrival) → last_key (with_arrival keys a) ≡ Some a.key
last_key-with_arrival keys a = key-by (is_key (last_key keys) a.key) (last_key keys) keys a refl refl

pub length-with_arrivals : (keys : List KeyItems) (all : List Arrival) → length (with_arrivals keys all) ≡ length keys + keys_after (last_key keys) all
length-with_arrivals keys [] = omega arith
length-with_arrivals keys (a ∷ rest) =
    let b = is_key (last_key keys) a.key in
    let one : length (with_arrival keys a) ≡ length keys + cond b 0 1 = length-by b keys a in
    let more : length (with_arrivals keys (a ∷ rest)) ≡ length (with_arrival keys a) + keys_after (Some a.key) rest =
    length-with_arrivals (with_arrival keys a) rest ∙ ap (λ last. length (with_arrival keys a) + keys_after last rest) (last_key-with_arrival keys a) in
    omega (arith, one, more)

-- at most as many as there are arrivals
pub keys_after-few : (last : Option ℕ) (all : List Arrival) → keys_after last all ≤ length all
keys_after-few last [] = omega arith
keys_after-few last (a ∷ rest) = by (is_key last a.key) (keys_after-few (Some a.key) rest)
  where
    by : (b : Bool) → keys_after (Some a.key) rest ≤ length rest → cond b 0 1 + keys_after (Some a.key) rest ≤ suc (length rest)
    by true k = omega arith
    by false k = omega arith

-- the arrival that comes next
pub next_of : (xs : List Arrival) (i : ℕ) (d : Arrival) → i < length xs → drop i xs ≡ get_or xs i d ∷ drop (i + 1) xs
next_of [] i d lt = absurd (omega arith)
next_of (x ∷ xs) zero d lt = refl
next_of (x ∷ xs) (suc i) d lt = let e : suc (i + 1) ≡ suc i + 1 = omega arith in next_of xs i d (omega arith) ∙ (λ j. get_or xs i d ∷ drop (e j) (x ∷ xs))

-- there is none behind the last
pub none_left : (xs : List Arrival) (i : ℕ) → (i < length xs → ⊥) → drop i xs ≡ []
none_left [] zero past = refl
none_left [] (suc i) past = refl
none_left (x ∷ xs) zero past = absurd (past (omega arith))
none_left (x ∷ xs) (suc i) past = none_left xs i (λ lt. past (omega (arith, lt)))

-- what stands at no place
abbrev pub no_arrival : Arrival
no_arrival = record { key = 0; item = record { port = 0; val = pos 0 } }

-- ONE STEP: where these arrivals are still to come, of which one comes now
pub next_arrival : (keys : List KeyItems) (last : Option ℕ) (left rest all : List Arrival) (a : Arrival) → with_arrivals keys left ≡ with_arrivals [] all → left ≡ a ∷ rest → last ≡ last_key keys →
    with_arrivals (with_arrival_by (is_key last a.key) keys a) rest ≡ with_arrivals [] all
next_arrival keys last left rest all a made is same = ap (λ l. with_arrivals (with_arrival_by (is_key l a.key) keys a) rest) same ∙ sym (ap (with_arrivals keys) is) ∙ made

pub next_key : (keys : List KeyItems) (last : Option ℕ) (a : Arrival) → last ≡ last_key keys → last_key (with_arrival_by (is_key last a.key) keys a) ≡ Some a.key
next_key keys last a same = ap (λ l. last_key (with_arrival_by (is_key l a.key) keys a)) same ∙ last_key-with_arrival keys a

-- where it brings a key, there are more keys than were brought so far
pub key_to_come : (keys : List KeyItems) (last : Option ℕ) (left rest all : List Arrival) (a : Arrival) → with_arrivals keys left ≡ with_arrivals [] all → left ≡ a ∷ rest → last ≡ last_key keys →
    is_key last a.key ≡ false → length keys < keys_after None all
key_to_come keys last left rest all a made is same new =
    let one : length (with_arrivals keys (a ∷ rest)) ≡ length keys + keys_after last (a ∷ rest) = length-with_arrivals keys (a ∷ rest) ∙ ap (λ l. length keys + keys_after l (a ∷ rest)) (sym same) in
    let next : keys_after last (a ∷ rest) ≡ 1 + keys_after (Some a.key) rest = ap (λ b. cond b 0 1 + keys_after (Some a.key) rest) new in
    let all : length (with_arrivals keys (a ∷ rest)) ≡ 0 + keys_after None all = ap (λ l. length (with_arrivals keys l)) (sym is) ∙ ap length made ∙ length-with_arrivals [] all in
    omega (arith, one, next, all)
