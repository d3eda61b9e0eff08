-- What a ring tells of the epochs from one on, with no byte in it.
use Rattle.std.proofs.Common.{◌≡◌, ◌⊎◌, inl, inr, ℕ, zero, suc, ◌+◌, ◌<◌, ◌≤◌, List, [], ◌∷◌, ◌++◌, length, Option, Some, None, refl, sym, ap, ◌∙◌, subst, arith, Result, Ok, Err}
use Rattle.std.proofs.lemmas.Bool.{cases_eq}
use Rattle.td_journal.specs.declared.error.JournalError.{JournalError}
use Rattle.td_journal.specs.declared.payload.Submitted.{Submitted}
use Rattle.td_journal.specs.Numbers.{raised, floor_after}
use Rattle.td_journal.specs.Cell.{Found}
use Rattle.td_journal.specs.Cell.Found.{ended, submitted, damaged}
use Rattle.td_journal.specs.Ring.{led_by, past, submitted_from}

-- the floor, epoch by epoch
pub floor_none : (floor : Option ℕ) → floor_after floor [] ≡ floor
floor_none None = refl
floor_none (Some q) = refl

pub floor_more : (floor : Option ℕ) (s : Submitted) (w : List Submitted) → floor_after floor (s ∷ w) ≡ floor_after (raised floor s.request) w
floor_more None s w = refl
floor_more (Some q) s w = refl

-- these stand there, one epoch after the other
abbrev pub Runs : (Option ℕ → ℕ → Found) → Option ℕ → ℕ → List Submitted → Type 0
Runs find floor epoch [] = Unit {0}
Runs find floor epoch (s ∷ w) = (find floor epoch ≡ submitted s) × Runs find (raised floor s.request) (suc epoch) w

-- and they are what is read
pub record IsRead (find : Option ℕ → ℕ → Found) (floor : Option ℕ) (n epoch : ℕ) (w : List Submitted) : Type 0 where
  pub runs : Runs find floor epoch w
  pub most : length w ≤ n
  pub ends : length w < n → find (floor_after floor w) (epoch + length w) ≡ ended

pub read_from_runs : (find : Option ℕ → ℕ → Found) (floor : Option ℕ) (n epoch : ℕ) (w : List Submitted) → IsRead find floor n epoch w → submitted_from find floor n epoch ≡ Ok w
read_from_runs find floor zero epoch [] r = refl
read_from_runs find floor zero epoch (s ∷ w) r = absurd (omega (arith, r.most))
read_from_runs find floor (suc n) epoch [] r =
    let place : epoch ≡ epoch + 0 = omega arith in
    ap (λ (f : Found). led_by f (submitted_from find (past floor f) n (suc epoch)))
    (ap (λ (o : Option ℕ). find o epoch) (sym (floor_none floor)) ∙ ap (find (floor_after floor [])) place ∙ r.ends (omega arith))
read_from_runs find floor (suc n) epoch (s ∷ w) r =
    let place : suc epoch + length w ≡ epoch + suc (length w) = omega arith in
    let after = raised floor s.request in
    let rest : submitted_from find after n (suc epoch) ≡ Ok w = read_from_runs find after n (suc epoch) w (record {
      runs = r.runs.1;
      most = omega (arith, r.most);
      ends = λ lt. ap (find (floor_after after w)) place ∙ ap (λ (o : Option ℕ). find o (epoch + suc (length w))) (sym (floor_more floor s w)) ∙ r.ends (omega (arith, lt));
    }) in
    ap (λ (f : Found). led_by f (submitted_from find (past floor f) n (suc epoch))) r.runs.0
    ∙ ap (λ (q : Result (List Submitted) JournalError). led_by (submitted s) q) rest

-- one epoch of what was read
one : (find : Option ℕ → ℕ → Found) (floor : Option ℕ) (n epoch : ℕ) (f : Found) (w : List Submitted) → find floor epoch ≡ f → led_by f (submitted_from find (past floor f) n (suc epoch)) ≡ Ok w
    → ((f ≡ ended) × (w ≡ [])) ⊎ ((s : Submitted) × (v : List Submitted) × (f ≡ submitted s) × (submitted_from find (raised floor s.request) n (suc epoch) ≡ Ok v) × (w ≡ s ∷ v))
one find floor n epoch ended w is e = inl (refl, cc)
one find floor n epoch (damaged i) w is e = absurd cc
one find floor n epoch (submitted s) w is e = led s (submitted_from find (raised floor s.request) n (suc epoch)) w refl e
  where
    led : (s : Submitted) (rest : Result (List Submitted) JournalError) (w : List Submitted) → submitted_from find (raised floor s.request) n (suc epoch) ≡ rest → led_by (submitted s) rest ≡ Ok w
        → ((submitted s ≡ ended) × (w ≡ [])) ⊎ ((s2 : Submitted) × (v : List Submitted) × (submitted s ≡ submitted s2) × (submitted_from find (raised floor s2.request) n (suc epoch) ≡ Ok v) × (w ≡ s2 ∷ v))
    led s (Ok v) w from e = inr (s, v, refl, from, cc)
    led s (Err i) w from e = absurd cc

pub runs_from_read : (find : Option ℕ → ℕ → Found) (floor : Option ℕ) (n epoch : ℕ) (w : List Submitted) → submitted_from find floor n epoch ≡ Ok w → IsRead find floor n epoch w
runs_from_read find floor zero epoch w e =
    let is : [] ≡ w = cc in
    subst (IsRead find floor zero epoch) is (record { runs = tt; most = omega arith; ends = λ lt. absurd (omega (arith, lt)) })
runs_from_read find floor (suc n) epoch w e = elim (one find floor n epoch (find floor epoch) w refl e) [
  | inl end ↦
      let place : epoch + 0 ≡ epoch = omega arith in
      subst (IsRead find floor (suc n) epoch) (sym end.1) (record {
        runs = tt;
        most = omega arith;
        ends = λ lt. ap (λ (o : Option ℕ). find o (epoch + 0)) (floor_none floor) ∙ ap (find floor) place ∙ end.0;
      })
  | inr more ↦
      let s = more.0 in
      let v = more.1 in
      let after = raised floor s.request in
      let again = runs_from_read find after n (suc epoch) v more.3 in
      let place : epoch + suc (length v) ≡ suc epoch + length v = omega arith in
      subst (IsRead find floor (suc n) epoch) (sym more.4) (record {
        runs = (more.2, again.runs);
        most = omega (arith, again.most);
        ends = λ lt. ap (λ (o : Option ℕ). find o (epoch + suc (length v))) (floor_more floor s v) ∙ ap (find (floor_after after v)) place ∙ again.ends (omega (arith, lt));
      })
]

-- the same, where nothing changed
pub runs_same : (find other : Option ℕ → ℕ → Found) (floor : Option ℕ) (epoch : ℕ) (w : List Submitted) → ((o : Option ℕ) (e : ℕ) → epoch ≤ e → e < epoch + length w → other o e ≡ find o e) → Runs find floor epoch w → Runs other floor epoch w
runs_same find other floor epoch [] same r = tt
runs_same find other floor epoch (s ∷ w) same r = (
  same floor epoch (omega arith) (omega arith) ∙ r.0,
  runs_same find other (raised floor s.request) (suc epoch) w (λ o e low high. same o e (omega (arith, low)) (omega (arith, high))) r.1,
)

-- more epochs behind them
pub runs_append : (find : Option ℕ → ℕ → Found) (floor : Option ℕ) (epoch : ℕ) (w xs : List Submitted) → Runs find floor epoch w → Runs find (floor_after floor w) (epoch + length w) xs → Runs find floor epoch (w ++ xs)
runs_append find floor epoch [] xs r more =
    let place : epoch + 0 ≡ epoch = omega arith in
    subst (λ (o : Option ℕ). Runs find o epoch xs) (floor_none floor) (subst (λ (e : ℕ). Runs find (floor_after floor []) e xs) place more)
runs_append find floor epoch (s ∷ w) xs r more =
    let place : epoch + suc (length w) ≡ suc epoch + length w = omega arith in (
      r.0,
      runs_append find (raised floor s.request) (suc epoch) w xs r.1
          (subst (λ (o : Option ℕ). Runs find o (suc epoch + length w) xs) (floor_more floor s w) (subst (λ (e : ℕ). Runs find (floor_after floor (s ∷ w)) e xs) place more)),
    )

-- one of them
pub run_at : (find : Option ℕ → ℕ → Found) (floor : Option ℕ) (epoch : ℕ) (w : List Submitted) → Runs find floor epoch w → (e : ℕ) → epoch ≤ e → e < epoch + length w → (o : Option ℕ) × (s : Submitted) × (find o e ≡ submitted s)
run_at find floor epoch [] r e low high = absurd (omega (arith, low, high))
run_at find floor epoch (s ∷ w) r e low high = elim (cases_eq e epoch) [
  | inl is ↦ (floor, s, ap (find floor) is ∙ r.0)
  | inr not ↦ run_at find (raised floor s.request) (suc epoch) w r.1 e (omega (arith, not, low)) (omega (arith, high))
]
