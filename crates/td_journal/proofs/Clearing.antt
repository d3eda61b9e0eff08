-- A cell is read by its first bytes, and closed where these bear an epoch; and what a cell that is read whole has.
use Rattle.std.proofs.Common.{◌≡◌, ◌≢◌, inl, inr, ⊎_elim, ℕ, ◌+◌, ◌%◌, ◌<◌, ◌≤◌, ◌^◌, Bool, true, false, nat_lt, ◌==◌, List, take, Option, Some, None, refl, sym, ap, ◌∙◌, subst, arith}
use Rattle.std.proofs.lemmas.Bool.{and_right, and_from, and_parts, lt-ltb, ltb-true, eq-eqb, eqb-true, ne_eqb}
use Rattle.std.proofs.lemmas.Bool.Decides.{nat_tests}
use Rattle.td_disk.specs.Disk.{DiskState}
use Rattle.td_gate.specs.CrashSafe.{CrashSafe, Unchanged}
use Rattle.td_gate.specs.declared.region.Region.{Region}
use Rattle.td_gate.specs.Region.{gate_of, opened, start_of, SameWithin, IsSettled, IsClosed, Closes}
use Rattle.td_gate.specs.Fields.{number_at}
use Rattle.td_gate.specs.Reading.{number_taken}
use Rattle.td_journal.specs.declared.journal.Journal.{Journal}
use Rattle.td_journal.specs.declared.payload.Submitted.{Submitted}
use Rattle.td_journal.specs.Cell.{cell_of, bears, found_in, where_borne, where_valid, is_cell, submitted_in}
use Rattle.td_journal.specs.Cell.Found.{ended, submitted, damaged}
use Rattle.td_journal.specs.Images.{IsBorne, IsGone, Clears}
use Rattle.td_journal.specs.Ring.{found}
use Rattle.td_journal.proofs.Cells.{closed_bears_nothing}

pub bears_it : (bytes : List ℕ) (e : ℕ) → e < 2 ^ 63 → number_at 8 0 bytes ≡ e → bears bytes e ≡ true
bears_it bytes e small is = and_from (nat_lt e (2 ^ 63)) (number_at 8 0 bytes == e) (lt-ltb e (2 ^ 63) small) (eq-eqb (number_at 8 0 bytes) e is)

pub bears_other : (bytes : List ℕ) (e : ℕ) → (number_at 8 0 bytes ≡ e → ⊥) → bears bytes e ≡ false
bears_other bytes e not = and_right (nat_lt e (2 ^ 63)) (number_at 8 0 bytes == e) (ne_eqb (number_at 8 0 bytes) e not)

bears_parts : (bytes : List ℕ) (e : ℕ) → bears bytes e ≡ true → (e < 2 ^ 63) × (number_at 8 0 bytes ≡ e)
bears_parts bytes e is =
    let parts = and_parts (nat_lt e (2 ^ 63)) (number_at 8 0 bytes == e) is in
    (ltb-true e (2 ^ 63) parts.0, eqb-true (number_at 8 0 bytes) e parts.1)

-- WHAT STANDS AT THE FRONT OF A CELL
number_of_start : (bytes start : List ℕ) → take 8 bytes ≡ start → number_at 8 0 bytes ≡ number_at 8 0 start
number_of_start bytes start is = sym (number_taken 8 8 bytes (omega arith)) ∙ ap (number_at 8 0) is

begins : (n : ℕ) (start : List ℕ) (o : Option (List ℕ)) → Some start ≡ start_of n o → (bytes : List ℕ) × (o ≡ Some bytes) × (take n bytes ≡ start)
begins n start None is = absurd cc
begins n start (Some bytes) is = (bytes, refl, cc)

pub begins_not : (n : ℕ) (o : Option (List ℕ)) → None ≡ start_of n o → o ≡ None
begins_not n None is = refl
begins_not n (Some bytes) is = absurd cc

-- the cell bears the number that its first bytes are, and no other
pub start_borne : (j : Journal) (c start : List ℕ) (e : ℕ) → e < 2 ^ 63 → number_at 8 0 start ≡ e → Some start ≡ start_of 8 (opened (cell_of j e) c) → IsBorne j c e
start_borne j c start e small is held =
    let whole = begins 8 start (opened (cell_of j e) c) held in
    (whole.0, whole.1, bears_it whole.0 e small (number_of_start whole.0 start whole.2 ∙ is))

pub start_other : (j : Journal) (c start : List ℕ) (e : ℕ) → (number_at 8 0 start ≡ e → ⊥) → Some start ≡ start_of 8 (opened (cell_of j e) c) → IsBorne j c e → ⊥
start_other j c start e not held borne =
    let whole = begins 8 start (opened (cell_of j e) c) held in
    let same : Some whole.0 ≡ Some borne.0 = sym whole.1 ∙ borne.1 in
    let bytes : whole.0 ≡ borne.0 = cc in
    not (sym (number_of_start whole.0 start whole.2) ∙ ap (number_at 8 0) bytes ∙ (bears_parts borne.0 e borne.2).1)

-- an epoch of 2 ^ 63 and above is borne nowhere
pub far_borne : (j : Journal) (c : List ℕ) (e : ℕ) → 2 ^ 63 ≤ e → IsBorne j c e → ⊥
far_borne j c e far borne = let small = (bears_parts borne.0 e borne.2).0 in omega (arith, far, small)

-- A READ, AND THEN THE CELL IS CLOSED
-- each image of a disk that was only read is one of before
pub same_images : (old mid : DiskState) → ((t : ℕ) (c : List ℕ) → t ≤ mid.moment → mid.images c → mid.since t c) → CrashSafe Unchanged old mid → (c : List ℕ) → mid.images c → old.images c
same_images old mid counts read c now = let from = read.each c (counts old.moment c read.later now) in subst old.images (sym from.2) from.1

still_settled : (r : Region) (old mid : DiskState) → ((c : List ℕ) → mid.images c → old.images c) → mid.bytes ≡ old.bytes → IsSettled r old → IsSettled r mid
still_settled r old mid images bytes settled c now = subst (λ (b : List ℕ). SameWithin r.at (r.len + 1) b c) (sym bytes) (settled c (images c now))

then_cleared : (j : Journal) (e : ℕ) (old mid new : DiskState) → ((t : ℕ) (c : List ℕ) → t ≤ mid.moment → mid.images c → mid.since t c) → CrashSafe Unchanged old mid
    → ((d : List ℕ) → old.images d → IsBorne j d e) → CrashSafe (Closes (cell_of j e)) mid new → CrashSafe (Clears j e) old new
then_cleared j e old mid new counts read held closes = record {
  later = omega (arith, read.later, closes.later);
  each = λ c left. ⊎_elim
      (λ was. let from = read.each c was in (from.0, from.1, inl from.2))
      (λ now. let d = same_images old mid counts read now.0 now.1 in (now.0, d, inr (held now.0 d, now.2)))
      (closes.before old.moment c read.later left);
  before = λ t c le left. ⊎_elim
      (λ was. ⊎_elim (λ earlier. inl earlier) (λ from. inr (from.0, from.1, inl from.2)) (read.before t c le was))
      (λ now. let d = same_images old mid counts read now.0 now.1 in inr (now.0, d, inr (held now.0 d, now.2)))
      (closes.before t c (omega (arith, le, read.later)) left);
}

-- the first bytes of an open cell were read
pub record WasRead (r : Region) (start : List ℕ) (old mid : DiskState) : Type 0 where
  pub counts : (t : ℕ) (c : List ℕ) → t ≤ mid.moment → mid.images c → mid.since t c
  pub read : CrashSafe Unchanged old mid
  pub same : mid.bytes ≡ old.bytes
  pub every : IsSettled r old → (c : List ℕ) → old.images c → Some start ≡ start_of 8 (opened r c)

pub cleared : (j : Journal) (e : ℕ) (r : Region) (start : List ℕ) (old mid new : DiskState) → cell_of j e ≡ r → WasRead r start old mid → e < 2 ^ 63 → number_at 8 0 start ≡ e
    → (IsSettled r mid → CrashSafe (Closes r) mid new) → IsSettled (cell_of j e) old → CrashSafe (Clears j e) old new
cleared j e r start old mid new is was small number closes settled =
    let back = sym is in
    let here : IsSettled r old = subst (λ (r : Region). IsSettled r old) is settled in
    let now : IsSettled r mid = still_settled r old mid (same_images old mid was.counts was.read) was.same here in
    then_cleared j e old mid new was.counts was.read
    (λ d image. start_borne j d start e small number (was.every here d image ∙ ap (λ (r : Region). start_of 8 (opened r d)) back))
    (subst (λ (r : Region). CrashSafe (Closes r) mid new) back (closes now))

pub closed_is_gone : (j : Journal) (e : ℕ) (r : Region) (start : List ℕ) (old mid new : DiskState) → cell_of j e ≡ r → WasRead r start old mid
    → (IsSettled r mid → IsClosed r new) → IsSettled (cell_of j e) old → IsGone j e new
closed_is_gone j e r start old mid new is was closed settled c image =
    let here : IsSettled r old = subst (λ (r : Region). IsSettled r old) is settled in
    let now : IsSettled r mid = still_settled r old mid (same_images old mid was.counts was.read) was.same here in
    closed_bears_nothing j c e (ap (λ (r : Region). opened r c) is ∙ shut r c (closed now c image))
  where
    shut : (r : Region) (c : List ℕ) → gate_of r c ≢ 165 → opened r c ≡ None
    shut r c is = grind (arith, nat_tests)

pub other_is_gone : (j : Journal) (e : ℕ) (r : Region) (start : List ℕ) (old mid : DiskState) → cell_of j e ≡ r → WasRead r start old mid → (number_at 8 0 start ≡ e → ⊥) → IsSettled (cell_of j e) old → IsGone j e mid
other_is_gone j e r start old mid is was number settled c image =
    let here : IsSettled r old = subst (λ (r : Region). IsSettled r old) is settled in
    start_other j c start e number (was.every here c (same_images old mid was.counts was.read c image) ∙ ap (λ (r : Region). start_of 8 (opened r c)) (sym is))

-- OF WHAT IS FOUND: nothing where the cell is closed, or bears another number
pub none_found : (inputs : List ℕ) (j : Journal) (c : List ℕ) (o : Option ℕ) (e : ℕ) → opened (cell_of j e) c ≡ None → found inputs j c o e ≡ ended
none_found inputs j c o e is = ap (found_in inputs o j.m e (e % j.n)) is

pub other_found : (inputs : List ℕ) (j : Journal) (c : List ℕ) (o : Option ℕ) (e : ℕ) (bytes : List ℕ) → opened (cell_of j e) c ≡ Some bytes → bears bytes e ≡ false → found inputs j c o e ≡ ended
other_found inputs j c o e bytes is fails = ap (found_in inputs o j.m e (e % j.n)) is ∙ ap (λ (t : Bool). where_borne t (where_valid (is_cell inputs o j.m bytes) (e % j.n) (submitted_in bytes))) fails

-- a payload that bears the epoch, valid or not
pub valid_found : (inputs : List ℕ) (j : Journal) (c : List ℕ) (o : Option ℕ) (e : ℕ) (bytes : List ℕ) (s : Submitted) → opened (cell_of j e) c ≡ Some bytes → bears bytes e ≡ true → is_cell inputs o j.m bytes ≡ true → s ≡ submitted_in bytes → found inputs j c o e ≡ submitted s
valid_found inputs j c o e bytes s is borne valid read =
    ap (found_in inputs o j.m e (e % j.n)) is ∙ ap (λ (t : Bool). where_borne t (where_valid (is_cell inputs o j.m bytes) (e % j.n) (submitted_in bytes))) borne
    ∙ ap (λ (t : Bool). where_valid t (e % j.n) (submitted_in bytes)) valid ∙ ap submitted (sym read)

pub damaged_found : (inputs : List ℕ) (j : Journal) (c : List ℕ) (o : Option ℕ) (e : ℕ) (bytes : List ℕ) → opened (cell_of j e) c ≡ Some bytes → bears bytes e ≡ true → is_cell inputs o j.m bytes ≡ false → found inputs j c o e ≡ damaged (e % j.n)
damaged_found inputs j c o e bytes is borne bad =
    ap (found_in inputs o j.m e (e % j.n)) is ∙ ap (λ (t : Bool). where_borne t (where_valid (is_cell inputs o j.m bytes) (e % j.n) (submitted_in bytes))) borne
    ∙ ap (λ (t : Bool). where_valid t (e % j.n) (submitted_in bytes)) bad
