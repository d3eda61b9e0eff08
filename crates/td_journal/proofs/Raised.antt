-- What a ring tells where there are no numbers, it tells after the number 0.
use Rattle.std.proofs.Common.{◌≡◌, ℕ, zero, suc, max, ◌==◌, ◌||◌, ◌&&◌, Bool, true, false, nat_lt, List, Option, Some, None, Result, Ok, Err, refl, ap, ◌∙◌}
use Rattle.std.proofs.lemmas.Bool.{and_parts, and_from, eqb-true}
use Rattle.td_gate.specs.Fields.{front_in, is_plain}
use Rattle.td_journal.specs.declared.payload.Submitted.{Submitted}
use Rattle.td_journal.specs.declared.error.JournalError.{JournalError}
use Rattle.td_journal.specs.Numbers.{may_come}
use Rattle.td_journal.specs.Cell.{Found, where_valid, where_borne, bears, is_cell, is_batch, batch_in, submitted_in, found_in}
use Rattle.td_journal.specs.Cell.Found.{ended, submitted, damaged}
use Rattle.td_journal.specs.Ring.{before_others, led_by, past, submitted_from}

-- what is found without a floor is found after 0, and bears the number 0
abbrev Stays : Found → Found → Type 0
Stays ended g = g ≡ ended
Stays (submitted s) g = (g ≡ submitted s) × (s.request ≡ 0)
Stays (damaged i) g = Unit {0}

pub found_raised : (inputs : List ℕ) (m epoch i : ℕ) (o : Option (List ℕ)) → Stays (found_in inputs None m epoch i o) (found_in inputs (Some 0) m epoch i o)
found_raised inputs m epoch i None = refl
found_raised inputs m epoch i (Some bytes) = by (bears bytes epoch) (is_cell inputs None m bytes) refl
  where
    by : (b v : Bool) → is_cell inputs None m bytes ≡ v
        → Stays (where_borne b (where_valid v i (submitted_in bytes))) (where_borne b (where_valid (is_cell inputs (Some 0) m bytes) i (submitted_in bytes)))
    by false v is = refl
    by true false is = tt
    by true true is =
        let f = front_in bytes in
        let one = and_parts (is_plain m f) ((f.request == 0) && is_batch inputs (batch_in bytes)) is in
        let two = and_parts (f.request == 0) (is_batch inputs (batch_in bytes)) one.1 in
        let may : may_come (Some 0) f.request ≡ true = ap (λ (b : Bool). b || nat_lt 0 f.request) two.0 in
        let valid : is_cell inputs (Some 0) m bytes ≡ true =
        and_from (is_plain m f) (may_come (Some 0) f.request && is_batch inputs (batch_in bytes)) one.0 (and_from (may_come (Some 0) f.request) (is_batch inputs (batch_in bytes)) may two.1) in
        (ap (λ (b : Bool). where_valid b i (submitted_in bytes)) valid, eqb-true f.request 0 two.0)

before_raised : (s : Submitted) (r t : Result (List Submitted) JournalError) (w : List Submitted) → ((v : List Submitted) → r ≡ Ok v → t ≡ Ok v) → before_others s r ≡ Ok w → before_others s t ≡ Ok w
before_raised s (Ok v) t w more is = ap (before_others s) (more v refl) ∙ is
before_raised s (Err e) t w more is = absurd cc

pub ring_raised : (find : Option ℕ → ℕ → Found) → ((e : ℕ) → Stays (find None e) (find (Some 0) e)) → (n e : ℕ) (w : List Submitted)
    → submitted_from find None n e ≡ Ok w → submitted_from find (Some 0) n e ≡ Ok w
ring_raised find stays zero e w is = is
ring_raised find stays (suc n) e w is = by (ring_raised find stays n (suc e)) (find None e) (find (Some 0) e) (stays e) is
  where
    by : ((v : List Submitted) → submitted_from find None n (suc e) ≡ Ok v → submitted_from find (Some 0) n (suc e) ≡ Ok v)
        → (f g : Found) → Stays f g → led_by f (submitted_from find (past None f) n (suc e)) ≡ Ok w → led_by g (submitted_from find (past (Some 0) g) n (suc e)) ≡ Ok w
    by rest ended g same told = ap (λ (x : Found). led_by x (submitted_from find (past (Some 0) x) n (suc e))) same ∙ told
    by rest (submitted s) g same told =
        ap (λ (x : Found). led_by x (submitted_from find (past (Some 0) x) n (suc e))) same.0
        ∙ ap (λ (r : ℕ). before_others s (submitted_from find (Some (max 0 r)) n (suc e))) same.1
        ∙ before_raised s (submitted_from find None n (suc e)) (submitted_from find (Some 0) n (suc e)) w rest told
    by rest (damaged i) g same told = absurd cc
