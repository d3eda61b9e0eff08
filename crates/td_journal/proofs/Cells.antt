-- What a cell has for an epoch.
use Rattle.std.proofs.Common.{◌≡◌, inl, inr, ℕ, ◌+◌, ◌-◌, ◌*◌, ◌<◌, ◌≤◌, ◌^◌, Bool, true, false, ◌&&◌, ◌==◌, nat_lt, List, [], ◌++◌, length, drop, replicate, Option, Some, None, refl, sym, ap, ◌∙◌, arith}
use Rattle.std.specs.Prelude.{flat_map}
use Rattle.std.specs.Int.{w64, cast_unsigned}
use Rattle.std.proofs.lemmas.Bool.{cases_Bool, and_parts, and_from, eqb-true, lt-ltb, le-leb, eq-eqb}
use Rattle.std.proofs.lemmas.List.{append_assoc, length-append, length-replicate}
use Rattle.td_stamp.specs.declared.values.Entry.{Entry}
use Rattle.td_gate.specs.declared.fields.Front.{Front}
use Rattle.td_gate.specs.Fields.{number_bytes, number_at, signed_at, signed_bytes, front_bytes, front_in, front_len, front_of, is_plain, each_in}
use Rattle.td_gate.specs.Reading.{number_behind, signed_behind, length_bytes, front_back, front_past, front_size, each_back, each_size}
use Rattle.td_gate.specs.Region.{opened}
use Rattle.td_journal.specs.declared.journal.Journal.{Journal}
use Rattle.td_journal.specs.declared.payload.Submitted.{Submitted}
use Rattle.td_journal.specs.Numbers.{may_come}
use Rattle.td_journal.specs.Images.{IsBorne}
use Rattle.td_journal.specs.Cell.{cell_of, cell_len, entry_bytes, entry_in, cell_bytes, batch_in, submitted_in, is_batch, is_cell, bears, where_borne, where_valid, found_in, FitsEntry, IsCellBatch}
use Rattle.td_journal.specs.Cell.Found.{ended, submitted}

-- a cell that has something for an epoch bears it
pub borne : (inputs : List ℕ) (floor : Option ℕ) (m e i : ℕ) (h : Option (List ℕ)) → (found_in inputs floor m e i h ≡ ended → ⊥) → (bytes : List ℕ) × (h ≡ Some bytes) × (bears bytes e ≡ true)
borne inputs floor m e i None not = absurd (not refl)
borne inputs floor m e i (Some bytes) not = elim (cases_Bool (bears bytes e)) [
  | inl holds ↦ (bytes, refl, holds)
  | inr fails ↦ absurd (not (ap (λ (t : Bool). where_borne t (where_valid (is_cell inputs floor m bytes) i (submitted_in bytes))) fails))
]

-- one that does not bear it has nothing
pub not_borne : (inputs : List ℕ) (floor : Option ℕ) (m e i : ℕ) (h : Option (List ℕ)) → ((bytes : List ℕ) → h ≡ Some bytes → bears bytes e ≡ true → ⊥) → found_in inputs floor m e i h ≡ ended
not_borne inputs floor m e i None not = refl
not_borne inputs floor m e i (Some bytes) not = elim (cases_Bool (bears bytes e)) [
  | inl holds ↦ absurd (not bytes refl holds)
  | inr fails ↦ ap (λ (t : Bool). where_borne t (where_valid (is_cell inputs floor m bytes) i (submitted_in bytes))) fails
]

-- what it has has a number that may come
pub found_may_come : (inputs : List ℕ) (floor : Option ℕ) (m e i : ℕ) (h : Option (List ℕ)) (s : Submitted) → found_in inputs floor m e i h ≡ submitted s → may_come floor s.request ≡ true
found_may_come inputs floor m e i None s is = absurd cc
found_may_come inputs floor m e i (Some bytes) s is = elim (cases_Bool (bears bytes e)) [
  | inl holds ↦ valid_may_come (is_cell inputs floor m bytes) refl (sym (ap (λ (t : Bool). where_borne t (where_valid (is_cell inputs floor m bytes) i (submitted_in bytes))) holds) ∙ is)
  | inr fails ↦ absurd (apart s (sym (ap (λ (t : Bool). where_borne t (where_valid (is_cell inputs floor m bytes) i (submitted_in bytes))) fails) ∙ is))
]
  where
    apart : (s : Submitted) → ended ≡ submitted s → ⊥
    apart s is = cc

    valid_may_come : (t : Bool) → is_cell inputs floor m bytes ≡ t → where_valid t i (submitted_in bytes) ≡ submitted s → may_come floor s.request ≡ true
    valid_may_come true valid is =
        let same : submitted_in bytes ≡ s = cc in
        sym (ap (λ (s : Submitted). may_come floor s.request) same)
        ∙ (and_parts (may_come floor (front_in bytes).request) (is_batch inputs (batch_in bytes)) (and_parts (is_plain m (front_in bytes)) _ valid).1).0
    valid_may_come false valid is = absurd cc

-- a payload bears one number
pub bears_one : (bytes : List ℕ) (e f : ℕ) → bears bytes e ≡ true → bears bytes f ≡ true → e ≡ f
bears_one bytes e f one other =
    let is : (front_in bytes).epoch ≡ e = eqb-true _ e (and_parts (nat_lt e (2 ^ 63)) _ one).1 in
    let also : (front_in bytes).epoch ≡ f = eqb-true _ f (and_parts (nat_lt f (2 ^ 63)) _ other).1 in
    sym is ∙ also

-- a closed cell bears nothing
pub closed_bears_nothing : (j : Journal) (c : List ℕ) (e : ℕ) → opened (cell_of j e) c ≡ None → IsBorne j c e → ⊥
closed_bears_nothing j c e none borne = apart borne.0 (sym none ∙ borne.1)
  where
    apart : (bytes : List ℕ) → None ≡ Some bytes → ⊥
    apart bytes is = cc

-- an entry is read back
three_parts : (a b c rest : List ℕ) → (a ++ (b ++ c)) ++ rest ≡ a ++ (b ++ (c ++ rest))
three_parts a b c rest = simp append_assoc

entry_numbers : (e : Entry) (a b c rest : List ℕ) → a ≡ number_bytes 8 e.input → b ≡ number_bytes 8 e.rec.key → c ≡ signed_bytes e.rec.val → FitsEntry e
    → (number_at 8 0 ((a ++ (b ++ c)) ++ rest) ≡ e.input) × (number_at 8 8 ((a ++ (b ++ c)) ++ rest) ≡ e.rec.key) × (signed_at 16 ((a ++ (b ++ c)) ++ rest) ≡ e.rec.val)
entry_numbers e a b c rest ea eb ec fits =
    let la : length a ≡ 8 = ap length ea ∙ length_bytes 8 e.input in
    let lb : length b ≡ 8 = ap length eb ∙ length_bytes 8 e.rec.key in
    let lab : length (a ++ b) ≡ 16 = length-append a b ∙ omega arith in
    let whole = three_parts a b c rest in (
      ap (number_at 8 0) (whole ∙ ap (λ (l : List ℕ). l ++ (b ++ (c ++ rest))) ea) ∙ number_behind 8 0 e.input [] (b ++ (c ++ rest)) refl fits.input,
      ap (number_at 8 8) (whole ∙ ap (λ (l : List ℕ). a ++ (l ++ (c ++ rest))) eb) ∙ number_behind 8 8 e.rec.key a (c ++ rest) la fits.key,
      ap (signed_at 16) (whole ∙ sym (append_assoc a b (c ++ rest)) ∙ ap (λ (l : List ℕ). (a ++ b) ++ (l ++ rest)) ec) ∙ signed_behind 16 e.rec.val (a ++ b) rest lab fits.val,
    )

entry_back : (e : Entry) (rest : List ℕ) → FitsEntry e → entry_in (entry_bytes e ++ rest) ≡ e
entry_back e rest fits =
    let each = entry_numbers e (number_bytes 8 e.input) (number_bytes 8 e.rec.key) (signed_bytes e.rec.val) rest refl refl refl fits in
    λ i. record { input = each.0 i; rec = record { key = each.1 i; val = each.2 i } }

pub entry_size : (e : Entry) → length (entry_bytes e) ≡ 24
entry_size e = sizes (number_bytes 8 e.input) (number_bytes 8 e.rec.key) (signed_bytes e.rec.val) (length_bytes 8 e.input) (length_bytes 8 e.rec.key) (length_bytes 8 (cast_unsigned w64 e.rec.val))
  where
    sizes : (a b c : List ℕ) → length a ≡ 8 → length b ≡ 8 → length c ≡ 8 → length (a ++ (b ++ c)) ≡ 24
    sizes a b c ea eb ec = omega (arith, length-append a (b ++ c), length-append b c)

-- A PAYLOAD IS READ BACK
abbrev filler : ℕ → List Entry → List ℕ
filler m x = flat_map entry_bytes x ++ replicate (24 * (m - length x)) 0

pub cell_size : (m e r : ℕ) (x : List Entry) → length x ≤ m → length (cell_bytes m e r x) ≡ cell_len m
cell_size m e r x few = sizes (front_bytes (front_of e r (length x))) (flat_map entry_bytes x) (replicate (24 * (m - length x)) 0) (front_size (front_of e r (length x))) (each_size entry_bytes 24 entry_size x) (length-replicate (24 * (m - length x)) 0)
  where
    sizes : (a b c : List ℕ) → length a ≡ 24 → length b ≡ 24 * length x → length c ≡ 24 * (m - length x) → length (a ++ (b ++ c)) ≡ 24 + 24 * m
    sizes a b c ea eb ec = omega (arith, length-append a (b ++ c), length-append b c, few)

module _ (inputs : List ℕ) (floor : Option ℕ) (m e : ℕ) (x : Submitted) (ok : IsCellBatch inputs m x) where
  abbrev bytes : List ℕ
  bytes = cell_bytes m e x.request x.batch

  cell_front : e < 2 ^ 64 → front_in bytes ≡ front_of e x.request (length x.batch)
  cell_front lt = front_back (front_of e x.request (length x.batch)) (filler m x.batch) (record { epoch = lt; request = ok.request; count = omega (arith, ok.few, ok.room); zeros = omega arith })

  cell_batch : e < 2 ^ 64 → batch_in bytes ≡ x.batch
  cell_batch lt =
      ap (λ (f : Front). each_in entry_in 24 f.count (drop front_len bytes)) (cell_front lt)
      ∙ ap (each_in entry_in 24 (length x.batch)) (front_past (front_of e x.request (length x.batch)) (filler m x.batch))
      ∙ each_back entry_bytes entry_in 24 FitsEntry entry_back entry_size x.batch (replicate (24 * (m - length x.batch)) 0) ok.fits

  cell_submitted : e < 2 ^ 64 → submitted_in bytes ≡ x
  cell_submitted lt =
      let front = cell_front lt in
      let batch = cell_batch lt in
      λ i. record { request = (front i).request; batch = batch i }

  cell_bears : e < 2 ^ 63 → bears bytes e ≡ true
  cell_bears lt =
      and_from (nat_lt e (2 ^ 63)) ((front_in bytes).epoch == e) (lt-ltb e (2 ^ 63) lt)
      (eq-eqb ((front_in bytes).epoch) e (ap (λ (f : Front). f.epoch) (cell_front (omega (arith, lt)))))

  cell_valid : e < 2 ^ 64 → may_come floor x.request ≡ true → is_cell inputs floor m bytes ≡ true
  cell_valid lt may =
      and_from (is_plain m (front_in bytes)) (may_come floor (front_in bytes).request && is_batch inputs (batch_in bytes))
      (ap (is_plain m) (cell_front lt) ∙ le-leb (length x.batch) m ok.few)
      (and_from (may_come floor (front_in bytes).request) (is_batch inputs (batch_in bytes))
      (ap (λ (f : Front). may_come floor f.request) (cell_front lt) ∙ may)
      (ap (is_batch inputs) (cell_batch lt) ∙ ok.lawful))

  pub cell_found : (i : ℕ) → may_come floor x.request ≡ true → e < 2 ^ 63 → found_in inputs floor m e i (Some bytes) ≡ submitted x
  cell_found i may lt =
      let small : e < 2 ^ 64 = omega (arith, lt) in
      ap (λ (t : Bool). where_borne t (where_valid (is_cell inputs floor m bytes) i (submitted_in bytes))) (cell_bears lt)
      ∙ ap (λ (t : Bool). where_valid t i (submitted_in bytes)) (cell_valid small may)
      ∙ ap submitted (cell_submitted small)
