-- What a ring tells while a group of epochs is put on it, and once it is.
use Rattle.std.proofs.Common.{◌≡◌, ◌⊎◌, inl, inr, ⊎_elim, ℕ, suc, ◌+◌, ◌%◌, ◌<◌, ◌≤◌, ◌^◌, Bool, true, List, [], ◌∷◌, ◌++◌, length, Option, Some, None, refl, sym, ap, ◌∙◌, subst, arith, Ok}
use Rattle.std.proofs.lemmas.Bool.{cases_Bool, and_parts}
use Rattle.std.proofs.lemmas.List.{length-append}
use Rattle.td_gate.specs.Region.{opened}
use Rattle.td_journal.specs.declared.journal.Journal.{Journal}
use Rattle.td_journal.specs.declared.payload.Submitted.{Submitted}
use Rattle.td_journal.specs.Numbers.{floor_after, may_come, raised}
use Rattle.td_journal.specs.Cell.{cell_of, cell_bytes, bears, found_in, where_borne, where_valid, is_cell, submitted_in, IsCellBatch}
use Rattle.td_journal.specs.Cell.Found.{ended, submitted}
use Rattle.td_journal.specs.Ring.{found, told_after}
use Rattle.td_journal.specs.Images.{IsBorne, IsNext}
use Rattle.td_store.specs.group.Groups.{payloads, Hold, AreCellBatches, may_follow}
use Rattle.td_store.proofs.group.Runs.{Runs, IsRead, read_from_runs, runs_from_read, runs_same, runs_append}

-- what is written for an epoch is found
abbrev pub IsFoundAgain : Type 0
IsFoundAgain = (inputs : List ℕ) (floor : Option ℕ) (m e i : ℕ) (x : Submitted)
    → IsCellBatch inputs m x → may_come floor x.request ≡ true → e < 2 ^ 63
    → found_in inputs floor m e i (Some (cell_bytes m e x.request x.batch)) ≡ submitted x

-- where nothing is borne, nothing is found
nothing_found : (inputs : List ℕ) (floor : Option ℕ) (m e i : ℕ) (h : Option (List ℕ)) → ((bytes : List ℕ) → h ≡ Some bytes → bears bytes e ≡ true → ⊥) → found_in inputs floor m e i h ≡ ended
nothing_found inputs floor m e i None not = refl
nothing_found inputs floor m e i (Some bytes) not = elim (cases_Bool (bears bytes e)) [
  | inl holds ↦ absurd (not bytes refl holds)
  | inr fails ↦ ap (λ (t : Bool). where_borne t (where_valid (is_cell inputs floor m bytes) i (submitted_in bytes))) fails
]

module _ (inputs : List ℕ) (j : Journal) where
  -- where the cell of an epoch holds the same, the ring has the same for it
  found_same : (d c : List ℕ) (o : Option ℕ) (e : ℕ) → opened (cell_of j e) c ≡ opened (cell_of j e) d → found inputs j c o e ≡ found inputs j d o e
  found_same d c o e is = ap (found_in inputs o j.m e (e % j.n)) is

  found_closed : (c : List ℕ) (o : Option ℕ) (e : ℕ) → opened (cell_of j e) c ≡ None → found inputs j c o e ≡ ended
  found_closed c o e is = ap (found_in inputs o j.m e (e % j.n)) is

  -- what the cells hold is what runs on
  held_runs : IsFoundAgain → (c : List ℕ) (floor : Option ℕ) (e : ℕ) (xs : List Submitted) → Hold j c e (payloads j.m e xs) → AreCellBatches inputs j.m xs → may_follow floor xs ≡ true → e + length xs ≤ 2 ^ 63 → Runs (found inputs j c) floor e xs
  held_runs again c floor e [] hold ok may small = tt
  held_runs again c floor e (x ∷ xs) hold ok may small =
      let parts = and_parts (may_come floor x.request) (may_follow (raised floor x.request) xs) may in (
        ap (found_in inputs floor j.m e (e % j.n)) hold.0 ∙ again inputs floor j.m e (e % j.n) x ok.0 parts.0 (omega (arith, small)),
        held_runs again c (raised floor x.request) (suc e) xs hold.1 ok.1 parts.1 (omega (arith, small)),
      )

  module _ (d c : List ℕ) (floor : Option ℕ) (checkpoint : ℕ) (w : List Submitted) (e : ℕ) (next : IsNext inputs j d floor checkpoint w e)
      (same : (f : ℕ) → checkpoint < f → f < e → opened (cell_of j f) c ≡ opened (cell_of j f) d) where
    told_before : IsRead (found inputs j d) floor j.n (suc checkpoint) w
    told_before = runs_from_read (found inputs j d) floor j.n (suc checkpoint) w next.told

    place : suc checkpoint + length w ≡ e
    place = omega (arith, next.epoch)

    runs_still : Runs (found inputs j c) floor (suc checkpoint) w
    runs_still = runs_same (found inputs j d) (found inputs j c) floor (suc checkpoint) w
        (λ o f low high. found_same d c o f (same f (omega (arith, low)) (omega (arith, high, place)))) told_before.runs

    -- WHILE THE CELL OF THE NEXT EPOCH is as it was or closed, whatever stands behind it
    pub told_still : (opened (cell_of j e) c ≡ opened (cell_of j e) d) ⊎ (opened (cell_of j e) c ≡ None) → told_after inputs j c floor checkpoint ≡ Ok w
    told_still is = read_from_runs (found inputs j c) floor j.n (suc checkpoint) w (record {
      runs = runs_still;
      most = told_before.most;
      ends = λ lt. ap (found inputs j c (floor_after floor w)) place ∙ ⊎_elim
          (λ as_before. found_same d c (floor_after floor w) e as_before ∙ ap (found inputs j d (floor_after floor w)) (sym place) ∙ told_before.ends lt)
          (λ none. found_closed c (floor_after floor w) e none)
          is;
    })

    -- ONCE THE GROUP STANDS in its cells, and nothing follows it
    pub told_more : IsFoundAgain → (xs : List Submitted) → Hold j c e (payloads j.m e xs) → AreCellBatches inputs j.m xs → may_follow (floor_after floor w) xs ≡ true → e + length xs ≤ 2 ^ 63
        → length w + length xs ≤ j.n → (length w + length xs < j.n → IsBorne j c (e + length xs) → ⊥) → told_after inputs j c floor checkpoint ≡ Ok (w ++ xs)
    told_more again xs hold ok may small room nothing =
        let long = length-append w xs in
        let there : suc checkpoint + length (w ++ xs) ≡ e + length xs = omega (arith, long, place) in
        let more : Runs (found inputs j c) (floor_after floor w) (suc checkpoint + length w) xs =
        subst (λ (f : ℕ). Runs (found inputs j c) (floor_after floor w) f xs) (sym place) (held_runs again c (floor_after floor w) e xs hold ok may small) in
        read_from_runs (found inputs j c) floor j.n (suc checkpoint) (w ++ xs) (record {
          runs = runs_append (found inputs j c) floor (suc checkpoint) w xs runs_still more;
          most = omega (arith, long, room);
          ends = λ lt. ap (found inputs j c (floor_after floor (w ++ xs))) there
              ∙ nothing_found inputs (floor_after floor (w ++ xs)) j.m (e + length xs) ((e + length xs) % j.n) (opened (cell_of j (e + length xs)) c) (λ bytes is bears. nothing (omega (arith, lt, long)) (bytes, is, bears));
        })
