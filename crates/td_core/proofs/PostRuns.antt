-- Records that are posted to one shard, run by run, and the room that is left.
use Rattle.std.proofs.Common.{◌≡◌, ℕ, zero, suc, ◌+◌, ◌-◌, ◌*◌, ◌<◌, ◌≤◌, ◌==◌, ◌%◌, Bool, true, false, cond, List, [], ◌∷◌, ◌++◌, map, filter, take, drop, get_or, set, length, replicate, refl, ap, sym, ◌∙◌, subst, append-nil, drop-cons, length-drop, length-take, arith}
use Rattle.std.specs.List.{AllByRecursion, enumerate_from}
use Rattle.std.proofs.lemmas.Bool.Decides.{nat_tests}
use Rattle.std.proofs.lemmas.List.Elements.{filter-append}
use Rattle.std.proofs.lemmas.Grind.{flat_map-append, get_or-set_at}
use Rattle.std.proofs.lemmas.List.{take_more, get_or-drop, take-append-drop, get_or-set_other}
use Rattle.std.proofs.Math.Seq.{take-add}
use Rattle.std.specs.Prelude.{Result, Ok, Err, OnOk}
use Rattle.td_stamp.specs.declared.values.Rec.{Rec}
use Rattle.td_stamp.specs.Time.{Timestamp}
use Rattle.td_machine.specs.declared.records.Message.{Message}
use Rattle.td_machine.specs.State.{shard_of_key}
use Rattle.td_shard.specs.declared.shard.Shard.{Shard}
use Rattle.td_core.specs.declared.error.HallError.{HallError}
use Rattle.td_shard.specs.declared.outlet.Outlet.{Outlet}
use Rattle.td_core.specs.Posted.{of_shard, mails, waits, IsPosted, IsRoomier, HasRoom, HaveRoom, HaveRoomFor, HaveRoomApart, count_of, runs_of, only_in}
use Rattle.td_shard.specs.Messages.{on_outlet, on_each}
use Rattle.td_core.proofs.PostSteps.{posted_from, roomier_same}

equal : (a b : ℕ) → a ≡ b → (a == b) ≡ true
equal a b e = grind (arith, nat_tests)

not_equal : (a b : ℕ) → (a ≡ b → ⊥) → (a == b) ≡ false
not_equal a b h = by (a == b) refl
  where
    by : (t : Bool) → (a == b) ≡ t → (a == b) ≡ false
    by true e = absurd (h (grind (arith, nat_tests)))
    by false e = e

-- ROOM
pub room_weaker : (runs many runs_less fewer : ℕ → ℕ) → ((s : ℕ) → runs_less s ≤ runs s) → ((s : ℕ) → fewer s ≤ many s) → (k : ℕ) (shards : List Shard)
    → AllByRecursion (λ p. HasRoom (runs p.0) (many p.0) p.1) (enumerate_from k shards) → AllByRecursion (λ p. HasRoom (runs_less p.0) (fewer p.0) p.1) (enumerate_from k shards)
room_weaker runs many runs_less fewer l m k [] h = tt
room_weaker runs many runs_less fewer l m k (s ∷ ss) h =
    let less = l k in
    let few = m k in
    let had = h.0.0 in
    let had_runs = h.0.1 in
    ((omega (arith, few, had), omega (arith, less, had_runs)), room_weaker runs many runs_less fewer l m (k + 1) ss h.1)

-- in shards that are there
pub room_weaker_there : (runs many runs_less fewer : ℕ → ℕ) (k : ℕ) (shards : List Shard) → ((s : ℕ) → s < k + length shards → runs_less s ≤ runs s) → ((s : ℕ) → s < k + length shards → fewer s ≤ many s)
    → AllByRecursion (λ p. HasRoom (runs p.0) (many p.0) p.1) (enumerate_from k shards) → AllByRecursion (λ p. HasRoom (runs_less p.0) (fewer p.0) p.1) (enumerate_from k shards)
room_weaker_there runs many runs_less fewer k [] l m h = tt
room_weaker_there runs many runs_less fewer k (s ∷ ss) l m h =
    let less = l k (omega arith) in
    let few = m k (omega arith) in
    let had = h.0.0 in
    let had_runs = h.0.1 in (
      (omega (arith, few, had), omega (arith, less, had_runs)),
      room_weaker_there runs many runs_less fewer (k + 1) ss (λ i below. l i (omega (arith, below))) (λ i below. m i (omega (arith, below))) h.1,
    )

-- with nothing else to be posted
pub none_more : (runs many : ℕ → ℕ) (shards : List Shard) → HaveRoomFor runs many shards → HaveRoomFor (λ s. runs s + 0) (λ s. many s + 0) shards
none_more runs many shards h = room_weaker runs many (λ s. runs s + 0) (λ s. many s + 0) (λ s. let r = runs s in omega arith) (λ s. let m = many s in omega arith) 0 shards h

pub room_at : (runs many : ℕ → ℕ) (k i at : ℕ) (shards : List Shard) (d : Shard) → at ≡ k + i → i < length shards
    → AllByRecursion (λ p. HasRoom (runs p.0) (many p.0) p.1) (enumerate_from k shards) → HasRoom (runs at) (many at) (get_or shards i d)
room_at runs many k i at [] d e within h = absurd (omega (arith, within))
room_at runs many k zero at (s ∷ ss) d e within h = let none : k ≡ at = omega (arith, e) in subst (λ n. HasRoom (runs n) (many n) s) none h.0
room_at runs many k (suc i) at (s ∷ ss) d e within h = room_at runs many (k + 1) i at ss d (omega (arith, e)) (omega (arith, within)) h.1

pub only_here : (at n : ℕ) → only_in at n at ≡ n
only_here at n = ap (λ b. cond b n 0) (equal at at refl)

-- room that is left when a run was posted to one shard
pub room_left : (runs many : ℕ → ℕ) (m n k i at : ℕ) (shards : List Shard) (s d : Shard) → at ≡ k + i → i < length shards
    → s.mailbox.room ≡ (get_or shards i d).mailbox.room - n → s.mailbox.runs ≡ (get_or shards i d).mailbox.runs - m
    → AllByRecursion (λ p. HasRoom (only_in at m p.0 + runs p.0) (only_in at n p.0 + many p.0) p.1) (enumerate_from k shards)
    → AllByRecursion (λ p. HasRoom (runs p.0) (many p.0) p.1) (enumerate_from k (set shards i s))
room_left runs many m n k i at [] s d e within room run h = absurd (omega (arith, within))
room_left runs many m n k zero at (x ∷ xs) s d e within room run h =
    let here : at ≡ k = omega (arith, e) in
    let all : only_in at n k ≡ n = ap (λ a. only_in a n k) here ∙ only_here k n in
    let one : only_in at m k ≡ m = ap (λ a. only_in a m k) here ∙ only_here k m in
    let had = h.0.0 in
    let had_runs = h.0.1 in (
      (omega (arith, all, had, room), omega (arith, one, had_runs, run)),
      room_weaker (λ j. only_in at m j + runs j) (λ j. only_in at n j + many j) runs many (λ j. let o = only_in at m j in let r = runs j in omega (arith))
          (λ j. let o = only_in at n j in let m = many j in omega (arith)) (k + 1) xs h.1,
    )
room_left runs many m n k (suc i) at (x ∷ xs) s d e within room run h =
    let had = h.0.0 in
    let had_runs = h.0.1 in
    ((omega (arith, had), omega (arith, had_runs)), room_left runs many m n (k + 1) i at xs s d (omega (arith, e)) (omega (arith, within)) room run h.1)

-- THE SHARD alone has more
its_own : (workers at : ℕ) (t : Timestamp) (r : Rec) (os : List Outlet) → shard_of_key workers r.key ≡ at → of_shard workers at (map (on_outlet t r) os) ≡ map (on_outlet t r) os
its_own workers at t r [] e = refl
its_own workers at t r (o ∷ os) e =
    let rest = of_shard workers at (map (on_outlet t r) os) in
    ap (λ b. cond b (on_outlet t r o ∷ rest) rest) (equal (shard_of_key workers r.key) at e) ∙ ap (λ l. on_outlet t r o ∷ l) (its_own workers at t r os e)

not_its : (workers at : ℕ) (t : Timestamp) (r : Rec) (os : List Outlet) → (shard_of_key workers r.key ≡ at → ⊥) → of_shard workers at (map (on_outlet t r) os) ≡ []
not_its workers at t r [] h = refl
not_its workers at t r (o ∷ os) h =
    let rest = of_shard workers at (map (on_outlet t r) os) in
    ap (λ b. cond b (on_outlet t r o ∷ rest) rest) (not_equal (shard_of_key workers r.key) at h) ∙ not_its workers at t r os h

pub own_run : (workers at : ℕ) (t : Timestamp) (os : List Outlet) (recs : List Rec) → AllByRecursion (λ r. shard_of_key workers r.key ≡ at) recs
    → of_shard workers at (on_each os t recs) ≡ on_each os t recs
own_run workers at t os [] h = refl
own_run workers at t os (r ∷ recs) h =
    filter-append (λ c. shard_of_key workers c.rec.key == at) (map (on_outlet t r) os) (on_each os t recs) ∙ (λ i. its_own workers at t r os h.0 i ++ own_run workers at t os recs h.1 i)

pub other_run : (workers at s : ℕ) (t : Timestamp) (os : List Outlet) (recs : List Rec) → (s ≡ at → ⊥) → AllByRecursion (λ r. shard_of_key workers r.key ≡ at) recs
    → of_shard workers s (on_each os t recs) ≡ []
other_run workers at s t os [] other h = refl
other_run workers at s t os (r ∷ recs) other h =
    filter-append (λ c. shard_of_key workers c.rec.key == s) (map (on_outlet t r) os) (on_each os t recs)
    ∙ (λ i. not_its workers s t r os (λ e. other (sym e ∙ h.0)) i ++ other_run workers at s t os recs other h.1 i)

no_mail : (workers at k : ℕ) (cs : List Message) (shards : List Shard) → ((s : ℕ) → (s ≡ at → ⊥) → of_shard workers s cs ≡ []) → at < k → mails shards ≡ posted_from workers k cs shards
no_mail workers at k cs [] others past = refl
no_mail workers at k cs (x ∷ xs) others past =
    let none = others k (λ e. omega (arith, e, past)) in
    λ i. (sym (append-nil x.mailbox.messages) ∙ ap (λ l. x.mailbox.messages ++ l) (sym none)) i ∷ no_mail workers at (k + 1) cs xs others (omega (arith, past)) i

pub mail_of_one : (workers k i at : ℕ) (cs : List Message) (shards : List Shard) (s d : Shard) → at ≡ k + i → i < length shards
    → s.mailbox.messages ≡ (get_or shards i d).mailbox.messages ++ cs → ((j : ℕ) → (j ≡ at → ⊥) → of_shard workers j cs ≡ []) → of_shard workers at cs ≡ cs
    → mails (set shards i s) ≡ posted_from workers k cs shards
mail_of_one workers k i at cs [] s d e within more others own = absurd (omega (arith, within))
mail_of_one workers k zero at cs (x ∷ xs) s d e within more others own =
    let here : at ≡ k = omega (arith, e) in
    let first : s.mailbox.messages ≡ x.mailbox.messages ++ of_shard workers k cs = more ∙ (ap (λ l. x.mailbox.messages ++ l) (sym own) ∙ ap (λ n. x.mailbox.messages ++ of_shard workers n cs) here) in
    λ j. first j ∷ no_mail workers at (k + 1) cs xs others (omega (arith, here)) j
mail_of_one workers k (suc i) at cs (x ∷ xs) s d e within more others own =
    let none = others k (λ same. omega (arith, same, e)) in
    λ j. (sym (append-nil x.mailbox.messages) ∙ ap (λ l. x.mailbox.messages ++ l) (sym none)) j
    ∷ mail_of_one workers (k + 1) i at cs xs s d (omega (arith, e)) (omega (arith, within)) more others own j

pub wait_of_one : (i : ℕ) (shards : List Shard) (s d : Shard) → i < length shards → s.waiting ≡ (get_or shards i d).waiting → waits (set shards i s) ≡ waits shards
wait_of_one i [] s d within same = absurd (omega (arith, within))
wait_of_one zero (x ∷ xs) s d within same = λ j. same j ∷ waits xs
wait_of_one (suc i) (x ∷ xs) s d within same = λ j. x.waiting ∷ wait_of_one i xs s d (omega (arith, within)) same j

pub run_posted : (at : ℕ) (t : Timestamp) (os : List Outlet) (recs : List Rec) (shards : List Shard) (s d : Shard) → at < length shards
    → AllByRecursion (λ r. shard_of_key (length shards) r.key ≡ at) recs → s.mailbox.messages ≡ (get_or shards at d).mailbox.messages ++ on_each os t recs → s.waiting ≡ (get_or shards at d).waiting
    → IsPosted (on_each os t recs) shards (set shards at s)
run_posted at t os recs shards s d within own more same = record {
  mails = mail_of_one (length shards) 0 at at (on_each os t recs) shards s d (omega arith) within more (λ j other. other_run (length shards) at j t os recs other own) (own_run (length shards) at t os recs own);
  waiting = wait_of_one at shards s d within same;
}

only_none : (at s : ℕ) → ◌≡◌ {A = ℕ} (only_in at 0 s) 0
only_none at s = by (s == at)
  where
    by : (b : Bool) → ◌≡◌ {A = ℕ} (cond b 0 0) 0
    by true = refl
    by false = refl

-- ONE RECORD MORE
pub count_first : (workers edges : ℕ) (r : Rec) (recs : List Rec) (s : ℕ) → count_of workers (r ∷ recs) s * edges ≡ only_in (shard_of_key workers r.key) edges s + count_of workers recs s * edges
count_first workers edges r recs s = by (shard_of_key workers r.key == s) refl
  where
    by : (b : Bool) → (shard_of_key workers r.key == s) ≡ b → count_of workers (r ∷ recs) s * edges ≡ only_in (shard_of_key workers r.key) edges s + count_of workers recs s * edges
    by true e =
        let same : s ≡ shard_of_key workers r.key = grind (arith, nat_tests, e) in
        let m = count_of workers recs s in
        let one : suc m * edges ≡ edges + m * edges = grind arith in
        ap (λ b. length (cond b (r ∷ filter (λ x. shard_of_key workers x.key == s) recs) (filter (λ x. shard_of_key workers x.key == s) recs)) * edges) e
        ∙ (one ∙ ap (λ b. cond b edges 0 + m * edges) (sym (equal s (shard_of_key workers r.key) same)))
    by false e =
        let other : s ≡ shard_of_key workers r.key → ⊥ = λ same. grind (arith, nat_tests, e, same) in
        let m = count_of workers recs s in
        let none : m * edges ≡ 0 + m * edges = omega arith in
        ap (λ b. length (cond b (r ∷ filter (λ x. shard_of_key workers x.key == s) recs) (filter (λ x. shard_of_key workers x.key == s) recs)) * edges) e
        ∙ (none ∙ ap (λ b. cond b edges 0 + m * edges) (sym (not_equal s (shard_of_key workers r.key) other)))

pub count_next : (workers edges : ℕ) (recs : List Rec) (i : ℕ) (d : Rec) → i < length recs → (s : ℕ)
    → count_of workers (drop i recs) s * edges ≡ only_in (shard_of_key workers (get_or recs i d).key) edges s + count_of workers (drop (i + 1) recs) s * edges
count_next workers edges recs i d within s =
    let next : suc i ≡ i + 1 = omega arith in
    ap (λ l. count_of workers l s * edges) (drop-cons recs i d within ∙ ap (λ n. get_or recs i d ∷ drop n recs) next) ∙ count_first workers edges (get_or recs i d) (drop (i + 1) recs) s

-- more records on each outlet
pub each_more : (os : List Outlet) (t : Timestamp) (xs ys : List Rec) → on_each os t xs ++ on_each os t ys ≡ on_each os t (xs ++ ys)
each_more os t xs ys = sym (flat_map-append (λ x. map (on_outlet t x) os) xs ys)

-- A RUN MORE
pub count_run : (workers at edges : ℕ) (run rest : List Rec) → AllByRecursion (λ r. shard_of_key workers r.key ≡ at) run → (s : ℕ)
    → count_of workers (run ++ rest) s * edges ≡ only_in at (length run * edges) s + count_of workers rest s * edges
count_run workers at edges [] rest h s =
    let m = count_of workers rest s * edges in
    let none : 0 + m ≡ m = omega arith in
    let zero_times : 0 * edges ≡ 0 = omega arith in
    sym none ∙ ap (λ z. z + m) (sym (ap (λ n. only_in at n s) zero_times ∙ only_none at s))
count_run workers at edges (r ∷ run) rest h s =
    let later = count_run workers at edges run rest h.1 s in
    let first = count_first workers edges r (run ++ rest) s in
    let all : suc (length run) * edges ≡ edges + length run * edges = grind arith in
    let both : only_in at edges s + only_in at (length run * edges) s ≡ only_in at (suc (length run) * edges) s = by (s == at) (length run * edges) ∙ ap (λ n. only_in at n s) (sym all) in
    let here : only_in (shard_of_key workers r.key) edges s ≡ only_in at edges s = ap (λ n. only_in n edges s) h.0 in
    omega (arith, later, first, both, here)
  where
    by : (b : Bool) (n : ℕ) → cond b edges 0 + cond b n 0 ≡ cond b (edges + n) 0
    by true n = omega arith
    by false n = omega arith

pub own_more : (P : Rec → Type 0) (recs : List Rec) (begin end : ℕ) (d : Rec) → begin ≤ end → end < length recs → AllByRecursion P (take (end - begin) (drop begin recs)) → P (get_or recs end d)
    → AllByRecursion P (take (end + 1 - begin) (drop begin recs))
own_more P recs begin end d from within h it =
    let n = end - begin in
    let more : end + 1 - begin ≡ n + 1 = omega (arith, from) in
    let place : begin + n ≡ end = omega (arith, from) in
    let left : length (drop begin recs) ≡ length recs - begin = length-drop begin recs in
    let inside : n < length (drop begin recs) = omega (arith, left, within, from) in
    subst (λ m. AllByRecursion P (take m (drop begin recs))) (sym more) (subst (AllByRecursion P) (sym (take_more (drop begin recs) n d inside))
    (with_last (take n (drop begin recs)) (get_or (drop begin recs) n d) h (subst P (sym (get_or-drop begin recs n d ∙ ap (λ m. get_or recs m d) place)) it)))
  where
    with_last : (xs : List Rec) (x : Rec) → AllByRecursion P xs → P x → AllByRecursion P (xs ++ x ∷ [])
    with_last [] x h it = (it, tt)
    with_last (y ∷ xs) x h it = (h.0, with_last xs x h.1 it)

-- MORE ROOM, shard by shard
pub one_roomier : (i : ℕ) (shards : List Shard) (s d : Shard) → i < length shards → s.mailbox.messages ≡ (get_or shards i d).mailbox.messages → s.waiting ≡ (get_or shards i d).waiting
    → (get_or shards i d).mailbox.room ≤ s.mailbox.room → (get_or shards i d).mailbox.runs ≤ s.mailbox.runs → IsRoomier shards (set shards i s)
one_roomier i [] s d within mail wait room runs = absurd (omega (arith, within))
one_roomier zero (x ∷ xs) s d within mail wait room runs =
    let rest = roomier_same xs in
    record { mails = λ j. mail j ∷ mails xs; waiting = λ j. wait j ∷ waits xs; room = (room, runs, rest.room) }
one_roomier (suc i) (x ∷ xs) s d within mail wait room runs =
    let rest = one_roomier i xs s d (omega (arith, within)) mail wait room runs in
    record { mails = λ j. x.mailbox.messages ∷ rest.mails j; waiting = λ j. x.waiting ∷ rest.waiting j; room = (omega arith, omega arith, rest.room) }

pub one_more_room : (runs many : ℕ → ℕ) (i : ℕ) (shards : List Shard) (s : Shard) → i < length shards
    → ((k : ℕ) (d : Shard) → k < i → HasRoom (runs k) (many k) (get_or shards k d)) → HasRoom (runs i) (many i) s
    → (k : ℕ) (d : Shard) → k < i + 1 → HasRoom (runs k) (many k) (get_or (set shards i s) k d)
one_more_room runs many i [] s within before here k d less = absurd (omega (arith, within))
one_more_room runs many zero (x ∷ xs) s within before here zero d less = here
one_more_room runs many zero (x ∷ xs) s within before here (suc k) d less = absurd (omega (arith, less))
one_more_room runs many (suc i) (x ∷ xs) s within before here zero d less = before 0 d (omega arith)
one_more_room runs many (suc i) (x ∷ xs) s within before here (suc k) d less =
    one_more_room (λ n. runs (suc n)) (λ n. many (suc n)) i xs s (omega (arith, within)) (λ j e l. before (suc j) e (omega (arith, l))) here k d (omega (arith, less))

pub room_by_place : (runs many : ℕ → ℕ) (k : ℕ) (shards : List Shard) → ((i : ℕ) (d : Shard) → i < length shards → HasRoom (runs (k + i)) (many (k + i)) (get_or shards i d))
    → AllByRecursion (λ p. HasRoom (runs p.0) (many p.0) p.1) (enumerate_from k shards)
room_by_place runs many k [] h = tt
room_by_place runs many k (s ∷ ss) h =
    let none : k + 0 ≡ k = omega arith in (
      subst (λ n. HasRoom (runs n) (many n) s) none (h 0 s (omega arith)),
      room_by_place runs many (k + 1) ss
          (λ i d l. let next : k + suc i ≡ k + 1 + i = omega arith in subst (λ n. HasRoom (runs n) (many n) (get_or ss i d)) next (h (suc i) d (omega (arith, l)))),
    )

-- THE RECORDS after a place, in two parts
drop_then : {X : Type 0} (n m : ℕ) (xs : List X) → drop m (drop n xs) ≡ drop (n + m) xs
drop_then zero m xs = let none : m ≡ 0 + m = omega arith in ap (λ k. drop k xs) none
drop_then {X} (suc n) m [] = none m ∙ sym (none (suc n + m))
  where
    none : (k : ℕ) → ◌≡◌ {A = List X} (drop k []) []
    none zero = refl
    none (suc k) = refl
drop_then (suc n) m (x ∷ xs) = let next : suc (n + m) ≡ suc n + m = omega arith in drop_then n m xs ∙ ap (λ k. drop k (x ∷ xs)) next

pub in_two : (recs : List Rec) (begin end : ℕ) → begin ≤ end → drop begin recs ≡ take (end - begin) (drop begin recs) ++ drop end recs
in_two recs begin end from =
    let place : begin + (end - begin) ≡ end = omega (arith, from) in
    sym (take-append-drop (end - begin) (drop begin recs)) ∙ ap (λ l. take (end - begin) (drop begin recs) ++ l) (drop_then begin (end - begin) recs ∙ ap (λ n. drop n recs) place)

pub up_to : (recs : List Rec) (begin end : ℕ) → begin ≤ end → take begin recs ++ take (end - begin) (drop begin recs) ≡ take end recs
up_to recs begin end from = let place : begin + (end - begin) ≡ end = omega (arith, from) in sym (take-add begin (end - begin) recs) ∙ ap (λ n. take n recs) place

-- a run, and the records after it
pub run_and_rest : (workers edges : ℕ) (recs : List Rec) (begin end at : ℕ) → begin ≤ end → AllByRecursion (λ r. shard_of_key workers r.key ≡ at) (take (end - begin) (drop begin recs)) → (s : ℕ)
    → count_of workers (drop begin recs) s * edges ≡ only_in at (length (take (end - begin) (drop begin recs)) * edges) s + count_of workers (drop end recs) s * edges
run_and_rest workers edges recs begin end at from own s =
    ap (λ l. count_of workers l s * edges) (in_two recs begin end from) ∙ count_run workers at edges (take (end - begin) (drop begin recs)) (drop end recs) own s

pub length_of_run : (recs : List Rec) (begin end : ℕ) → begin < end → end ≤ length recs → 0 < length (take (end - begin) (drop begin recs))
length_of_run recs begin end from within = grind (arith, length-take, length-drop)

pub no_more_runs : (at n edges s : ℕ) → 0 < n → only_in at edges s ≤ only_in at (n * edges) s
no_more_runs at zero edges s some = absurd (omega (arith, some))
no_more_runs at (suc n) edges s some = by (s == at)
  where
    by : (b : Bool) → cond b edges 0 ≤ cond b (suc n * edges) 0
    by true = let all : suc n * edges ≡ edges + n * edges = grind arith in omega (arith, all)
    by false = omega arith

-- COUNTS of shards: so many more at a place
pub count_after : (s at more : ℕ) (counts : List ℕ) → at < length counts → get_or (set counts at (get_or counts at 0 + more)) s 0 ≡ get_or counts s 0 + only_in at more s
count_after s at more counts within = by (s == at) refl
  where
    by : (b : Bool) → (s == at) ≡ b → get_or (set counts at (get_or counts at 0 + more)) s 0 ≡ get_or counts s 0 + cond b more 0
    by true e =
        let same : s ≡ at = grind (arith, nat_tests, e) in
        get_or-set_at counts at s (get_or counts at 0 + more) 0 same within ∙ ap (λ n. get_or counts n 0 + more) (sym same)
    by false e =
        let other : s ≡ at → ⊥ = λ same. grind (arith, nat_tests, e, same) in
        let n = get_or counts s 0 in
        let none : n ≡ n + 0 = omega arith in
        get_or-set_other counts at s (get_or counts at 0 + more) 0 other ∙ none

-- none at first
pub none_yet : (n s : ℕ) → ◌≡◌ {A = ℕ} (get_or (replicate n 0) s 0) 0
none_yet zero s = refl
none_yet (suc n) zero = refl
none_yet (suc n) (suc s) = none_yet n s

-- ROOM for what was counted, where there is room for the counts
pub room_once_counted : (r : Result (Unit {0}) HallError) (run_counts counts : List ℕ) (runs many : ℕ → ℕ) (shards : List Shard)
    → ((s : ℕ) → s < length shards → runs s ≡ get_or run_counts s 0) → ((s : ℕ) → s < length shards → many s ≡ get_or counts s 0)
    → OnOk r (HaveRoomFor (λ s. get_or run_counts s 0) (λ s. get_or counts s 0) shards) → OnOk r (HaveRoomFor runs many shards)
room_once_counted (Ok u) run_counts counts runs many shards l m room =
    room_weaker_there (λ s. get_or run_counts s 0) (λ s. get_or counts s 0) runs many 0 shards (λ s below. let e = l s (omega (arith, below)) in omega (arith, e))
    (λ s below. let e = m s (omega (arith, below)) in omega (arith, e)) room
room_once_counted (Err e) run_counts counts runs many shards l m room = tt

-- SEVERAL SHARDS: a run for each message
pub runs_apart : (workers edges : ℕ) (recs : List Rec) (s : ℕ) → (workers ≡ 1 → ⊥) → runs_of workers recs edges s ≡ count_of workers recs s * edges
runs_apart workers edges recs s h = ap (λ b. cond b edges (count_of workers recs s * edges)) (not_equal workers 1 h)

pub room_apart : (recs : List Rec) (edges : ℕ) (shards : List Shard) → (length shards ≡ 1 → ⊥) → HaveRoom recs edges shards → HaveRoomApart recs edges shards
room_apart recs edges shards h room =
    let many : ℕ → ℕ = λ s. count_of (length shards) recs s * edges in
    room_weaker (runs_of (length shards) recs edges) many many many (λ s. let e = runs_apart (length shards) edges recs s h in omega (arith, e)) (λ s. omega arith) 0 shards room

pub more_room_apart : (recs : List Rec) (edges : ℕ) (shards : List Shard) (runs many : ℕ → ℕ) → (length shards ≡ 1 → ⊥)
    → HaveRoomFor (λ s. runs_of (length shards) recs edges s + runs s) (λ s. count_of (length shards) recs s * edges + many s) shards
    → HaveRoomFor (λ s. count_of (length shards) recs s * edges + runs s) (λ s. count_of (length shards) recs s * edges + many s) shards
more_room_apart recs edges shards runs many h room =
    let all : ℕ → ℕ = λ s. count_of (length shards) recs s * edges + many s in
    room_weaker (λ s. runs_of (length shards) recs edges s + runs s) all (λ s. count_of (length shards) recs s * edges + runs s) all
    (λ s. let e = runs_apart (length shards) edges recs s h in omega (arith, e)) (λ s. omega arith) 0 shards room

-- ONE SHARD: a run on each edge, and all are of it
pub all_of_one : (workers : ℕ) → workers ≡ 1 → (recs : List Rec) → AllByRecursion (λ r. shard_of_key workers r.key ≡ 0) recs
all_of_one workers one [] = tt
all_of_one workers one (r ∷ recs) = let below : r.key % workers < workers = omega (arith, one) in (omega (arith, below, one), all_of_one workers one recs)

pub runs_together : (workers edges : ℕ) (recs : List Rec) (s : ℕ) → workers ≡ 1 → runs_of workers recs edges s ≡ edges
runs_together workers edges recs s one = ap (λ b. cond b edges (count_of workers recs s * edges)) (equal workers 1 one)

module _ (recs : List Rec) (edges : ℕ) (shards : List Shard) (one : length shards ≡ 1) where
  run_within : (s : ℕ) → only_in 0 edges s ≤ runs_of (length shards) recs edges s
  run_within s = by (s == 0) (runs_together (length shards) edges recs s one)
    where
      by : (b : Bool) → runs_of (length shards) recs edges s ≡ edges → cond b edges 0 ≤ runs_of (length shards) recs edges s
      by true e = omega (arith, e)
      by false e = omega arith

  messages_within : (s : ℕ) → only_in 0 (length recs * edges) s ≤ count_of (length shards) recs s * edges
  messages_within s =
      let all = ap (λ l. count_of (length shards) l s * edges) (append-nil recs) in
      let run = count_run (length shards) 0 edges recs [] (all_of_one (length shards) one recs) s in
      omega (arith, all, run)

  pub room_together : HaveRoom recs edges shards → HaveRoomFor (only_in 0 edges) (only_in 0 (length recs * edges)) shards
  room_together h =
      room_weaker (runs_of (length shards) recs edges) (λ s. count_of (length shards) recs s * edges) (only_in 0 edges) (only_in 0 (length recs * edges)) run_within messages_within 0 shards h

  pub more_room_together : (runs many : ℕ → ℕ) → HaveRoomFor (λ s. runs_of (length shards) recs edges s + runs s) (λ s. count_of (length shards) recs s * edges + many s) shards
      → HaveRoomFor (λ s. only_in 0 edges s + runs s) (λ s. only_in 0 (length recs * edges) s + many s) shards
  more_room_together runs many h =
      room_weaker (λ s. runs_of (length shards) recs edges s + runs s) (λ s. count_of (length shards) recs s * edges + many s) (λ s. only_in 0 edges s + runs s) (λ s. only_in 0 (length recs * edges) s + many s)
      (λ s. let w = run_within s in omega (arith, w)) (λ s. let w = messages_within s in omega (arith, w)) 0 shards h
