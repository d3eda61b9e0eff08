-- How a payload is read, record by record.
use Rattle.std.proofs.Common.{◌≡◌, ℕ, suc, ◌+◌, ◌-◌, ◌*◌, ◌<◌, Bool, true, false, ◌&&◌, ◌==◌, List, [], ◌∷◌, ◌++◌, length, drop, Option, Some, None, refl, sym, ap, ◌∙◌, arith, append-nil}
use Rattle.std.specs.List.{list_all, list_any}
use Rattle.std.specs.Ordering.{is_le}
use Rattle.std.proofs.lemmas.List.{append_assoc, drop-drop, length-append}
use Rattle.std.proofs.lemmas.List.Folds.{list_all-append}
use Rattle.std.proofs.lemmas.Bool.{and_from, and_parts, and_left, and_right}
use Rattle.td_stamp.specs.declared.values.Entry.{Entry}
use Rattle.td_stamp.specs.Orders.{entry_cmp}
use Rattle.td_gate.specs.Fields.{front_in, number_at, is_plain, each_in}
use Rattle.td_journal.specs.Numbers.{may_come}
use Rattle.td_journal.specs.Cell.{entry_in, batch_in, is_batch, is_cell}
use Rattle.td_journal.specs.Parsed.{may_come_after, are_in_order}

abbrev pub names : List ℕ → Entry → Bool
names inputs e = list_any (λ v. v == e.input) inputs

-- what is left from the i-th record on
abbrev pub left : ℕ → ℕ → List ℕ → List Entry
left count i bytes = each_in entry_in 24 (count - i) (drop (24 + 24 * i) bytes)

pub left_step : (count i : ℕ) (bytes : List ℕ) → i < count → left count i bytes ≡ entry_in (drop (24 + 24 * i) bytes) ∷ left count (i + 1) bytes
left_step count i bytes lt =
    let more : count - i ≡ suc (count - (i + 1)) = omega (arith, lt) in
    let place : (24 + 24 * i) + 24 ≡ 24 + 24 * (i + 1) = omega arith in
    ap (λ (n : ℕ). each_in entry_in 24 n (drop (24 + 24 * i) bytes)) more
    ∙ ap (λ (b : List ℕ). entry_in (drop (24 + 24 * i) bytes) ∷ each_in entry_in 24 (count - (i + 1)) b) (drop-drop 24 (24 + 24 * i) bytes ∙ ap (λ (n : ℕ). drop n bytes) place)

pub left_all : (count : ℕ) (bytes : List ℕ) → left count count bytes ≡ []
left_all count bytes = let none : count - count ≡ 0 = omega arith in ap (λ (n : ℕ). each_in entry_in 24 n (drop (24 + 24 * count) bytes)) none

pub left_start : (count : ℕ) (bytes : List ℕ) → count ≡ number_at 4 16 bytes → batch_in bytes ≡ left count 0 bytes
left_start count bytes is =
    let all : count ≡ count - 0 = omega arith in
    let place : 24 ≡ 24 + 24 * 0 = omega arith in
    ap (λ (n : ℕ). each_in entry_in 24 n (drop 24 bytes)) (sym is ∙ all) ∙ ap (λ (n : ℕ). each_in entry_in 24 (count - 0) (drop n bytes)) place

-- the last of these
abbrev pub last_entry : List Entry → Option Entry
last_entry [] = None
last_entry (x ∷ []) = Some x
last_entry (x ∷ y ∷ ys) = last_entry (y ∷ ys)

last_pushed : (es : List Entry) (e : Entry) → last_entry (es ++ e ∷ []) ≡ Some e
last_pushed [] e = refl
last_pushed (x ∷ []) e = refl
last_pushed (x ∷ y ∷ ys) e = last_pushed (y ∷ ys) e

ordered_more : (es : List Entry) (e : Entry) → are_in_order es ≡ true → may_come_after (last_entry es) e ≡ true → are_in_order (es ++ e ∷ []) ≡ true
ordered_more [] e all one = refl
ordered_more (y ∷ []) e all one = and_from (is_le (entry_cmp y e)) true one refl
ordered_more (y ∷ z ∷ zs) e all one =
    let parts = and_parts (is_le (entry_cmp y z)) (are_in_order (z ∷ zs)) all in
    and_from (is_le (entry_cmp y z)) (are_in_order ((z ∷ zs) ++ e ∷ [])) parts.0 (ordered_more (z ∷ zs) e parts.1 one)

broken : (es rest : List Entry) (e : Entry) → may_come_after (last_entry es) e ≡ false → are_in_order (es ++ e ∷ rest) ≡ false
broken [] rest e no_ = absurd cc
broken (y ∷ []) rest e no_ = and_left (is_le (entry_cmp y e)) (are_in_order (e ∷ rest)) no_
broken (y ∷ z ∷ zs) rest e no_ = and_right (is_le (entry_cmp y z)) (are_in_order ((z ∷ zs) ++ e ∷ rest)) (broken (z ∷ zs) rest e no_)

-- The first i records were looked at: they name inputs, are in order, and end with the last one; and they were taken.
pub record Looked (Took : List Entry → Type 0) (inputs : List ℕ) (count i : ℕ) (bytes : List ℕ) (last : Option Entry) : Type 0 where
  pub first : List Entry
  pub read : batch_in bytes ≡ first ++ left count i bytes
  pub named : list_all (names inputs) first ≡ true
  pub rises : are_in_order first ≡ true
  pub ends : last ≡ last_entry first
  pub many : length first ≡ i
  pub took : Took first

-- what makes a payload not valid
module _ (inputs : List ℕ) (floor : Option ℕ) (m : ℕ) (bytes : List ℕ) where
  abbrev request : ℕ
  request = number_at 8 8 bytes

  abbrev zeros : ℕ
  zeros = number_at 4 20 bytes

  abbrev counted : ℕ
  counted = number_at 4 16 bytes

  abbrev may : Bool
  may = may_come floor request

  abbrev of_batch : Bool
  of_batch = is_batch inputs (batch_in bytes)

  not_a_batch : of_batch ≡ false → is_cell inputs floor m bytes ≡ false
  not_a_batch is = and_right (is_plain m (front_in bytes)) (may && of_batch) (and_right may of_batch is)

  pub bad_request : may ≡ false → is_cell inputs floor m bytes ≡ false
  bad_request not_ = and_right (is_plain m (front_in bytes)) (may && of_batch) (and_left may of_batch not_)

  pub not_plain : is_plain m (front_in bytes) ≡ false → is_cell inputs floor m bytes ≡ false
  not_plain not_ = and_left (is_plain m (front_in bytes)) (may && of_batch) not_

  module _ (Took : List Entry → Type 0) (count i : ℕ) (last : Option Entry) (looked : Looked Took inputs count i bytes last) where
    abbrev next : Entry
    next = entry_in (drop (24 + 24 * i) bytes)

    whole : i < count → batch_in bytes ≡ looked.first ++ next ∷ left count (i + 1) bytes
    whole lt = looked.read ∙ ap (λ (l : List Entry). looked.first ++ l) (left_step count i bytes lt)

    -- a record that names no input, or that comes too late
    pub not_named : i < count → names inputs next ≡ false → is_cell inputs floor m bytes ≡ false
    not_named lt no_ =
        let es = looked.first in
        let rest = left count (i + 1) bytes in
        let none : list_all (names inputs) (es ++ next ∷ rest) ≡ false = list_all-append (names inputs) es (next ∷ rest) ∙ and_right (list_all (names inputs) es) (list_all (names inputs) (next ∷ rest)) (and_left (names inputs next) (list_all (names inputs) rest) no_) in
        not_a_batch (ap (is_batch inputs) (whole lt) ∙ and_left (list_all (names inputs) (es ++ next ∷ rest)) (are_in_order (es ++ next ∷ rest)) none)

    pub too_late : i < count → may_come_after last next ≡ false → is_cell inputs floor m bytes ≡ false
    too_late lt no_ =
        let es = looked.first in
        let rest = left count (i + 1) bytes in
        not_a_batch (ap (is_batch inputs) (whole lt)
        ∙ and_right (list_all (names inputs) (es ++ next ∷ rest)) (are_in_order (es ++ next ∷ rest)) (broken es rest next (ap (λ (l : Option Entry). may_come_after l next) (sym looked.ends) ∙ no_)))

    -- one record more, which is taken
    pub look_more : (TookMore : List Entry → Type 0) → i < count → names inputs next ≡ true → may_come_after last next ≡ true → TookMore (looked.first ++ next ∷ [])
        → (e : Option Entry) → e ≡ Some next → Looked TookMore inputs count (i + 1) bytes e
    look_more TookMore lt named late took e is =
        let es = looked.first in
        record {
          first = es ++ next ∷ [];
          read = whole lt ∙ sym (append_assoc es (next ∷ []) (left count (i + 1) bytes));
          named = list_all-append (names inputs) es (next ∷ []) ∙ and_from (list_all (names inputs) es) (list_all (names inputs) (next ∷ [])) looked.named (and_from (names inputs next) true named refl);
          rises = ordered_more es next looked.rises (ap (λ (l : Option Entry). may_come_after l next) (sym looked.ends) ∙ late);
          ends = is ∙ sym (last_pushed es next);
          many = length-append es (next ∷ []) ∙ ap (λ (n : ℕ). n + 1) looked.many;
          took = took;
        }

    -- after the last of them
    pub all_looked : i ≡ count → batch_in bytes ≡ looked.first
    all_looked done = looked.read ∙ ap (λ (n : ℕ). looked.first ++ left count n bytes) done ∙ ap (λ (l : List Entry). looked.first ++ l) (left_all count bytes) ∙ append-nil looked.first

    pub is_valid : may ≡ true → is_plain m (front_in bytes) ≡ true → i ≡ count → is_cell inputs floor m bytes ≡ true
    is_valid number plain done =
        and_from (is_plain m (front_in bytes)) (may && of_batch) plain
        (and_from may of_batch number (ap (is_batch inputs) (all_looked done) ∙ and_from (list_all (names inputs) looked.first) (are_in_order looked.first) looked.named looked.rises))

pub none_looked : (Took : List Entry → Type 0) (inputs : List ℕ) (count : ℕ) (bytes : List ℕ) → count ≡ number_at 4 16 bytes → Took [] → (last : Option Entry) → last ≡ None → Looked Took inputs count 0 bytes last
none_looked Took inputs count bytes is took last none = record { first = []; read = left_start count bytes is; named = refl; rises = refl; ends = none; many = refl; took = took }
