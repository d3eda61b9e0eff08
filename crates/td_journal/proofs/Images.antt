-- What a put into one cell makes of what the ring tells.
use Rattle.std.proofs.Common.{◌≡◌, ◌≢◌, ◌⊎◌, inl, inr, ℕ, suc, ◌+◌, ◌-◌, ◌%◌, ◌<◌, ◌≤◌, ◌^◌, true, List, [], ◌∷◌, ◌++◌, length, take, drop, Option, Some, None, refl, sym, ap, ◌∙◌, subst, arith, Ok}
use Rattle.std.proofs.lemmas.Bool.{cases_eq, cases_lt}
use Rattle.std.proofs.lemmas.List.{length_push, length-drop}
use Rattle.std.proofs.Math.Nat.{mod-lt, add-mod_right}
use Rattle.td_gate.specs.Region.{opened}
use Rattle.td_journal.specs.declared.journal.Journal.{Journal}
use Rattle.td_journal.specs.declared.payload.Submitted.{Submitted}
use Rattle.td_journal.specs.Numbers.{floor_after, may_come, rise}
use Rattle.td_journal.specs.Cell.{Found, cell, cell_of, cell_bytes, bears, found_in, IsCellBatch}
use Rattle.td_journal.specs.Cell.Found.{ended, submitted, damaged}
use Rattle.td_journal.specs.Ring.{found, told_after}
use Rattle.td_journal.specs.Images.{IsBorne, IsNext, SameCells, NothingFollows}
use Rattle.td_journal.proofs.Places.{residues}
use Rattle.td_journal.proofs.Ring.{Runs, IsRead, read_from_runs, runs_from_read, runs_same, runs_push, runs_drop, run_at, floor_past_first}
use Rattle.td_journal.proofs.Rising.{runs_rise}
use Rattle.td_journal.proofs.Cells.{borne, not_borne, found_may_come, bears_one, cell_found}

-- All cells but one hold the same.
pub record SameBut (j : Journal) (i : ℕ) (old new : List ℕ) : Type 0 where
  pub others : (k : ℕ) → k ≢ i → opened (cell j k) new ≡ opened (cell j k) old

not_ended : (s : Submitted) → submitted s ≡ ended → ⊥
not_ended s is = cc

cases_ended : (f : Found) → (f ≡ ended) ⊎ (f ≢ ended)
cases_ended ended = inl refl
cases_ended (submitted s) = inr (λ is. cc)
cases_ended (damaged i) = inr (λ is. cc)

-- a cell bears one epoch
one_epoch : (j : Journal) (d : List ℕ) (e f : ℕ) → e % j.n ≡ f % j.n → IsBorne j d e → IsBorne j d f → e ≡ f
one_epoch j d e f same here there =
    let held : Some here.0 ≡ Some there.0 = sym here.1 ∙ ap (λ (i : ℕ). opened (cell j i) d) same ∙ there.1 in
    let bytes : here.0 ≡ there.0 = cc in
    bears_one there.0 e f (subst (λ (b : List ℕ). bears b e ≡ true) bytes here.2) there.2

module _ (inputs : List ℕ) (j : Journal) where
  -- where the cell of an epoch holds the same, the ring has the same for it
  found_same : (d c : List ℕ) (o : Option ℕ) (e : ℕ) → opened (cell_of j e) c ≡ opened (cell_of j e) d → found inputs j c o e ≡ found inputs j d o e
  found_same d c o e is = ap (found_in inputs o j.m e (e % j.n)) is

  -- where the cell is closed, nothing
  found_closed : (c : List ℕ) (o : Option ℕ) (e : ℕ) → opened (cell_of j e) c ≡ None → found inputs j c o e ≡ ended
  found_closed c o e is = ap (found_in inputs o j.m e (e % j.n)) is

  -- what the ring has for an epoch is borne
  is_borne : (d : List ℕ) (o : Option ℕ) (e : ℕ) → found inputs j d o e ≢ ended → IsBorne j d e
  is_borne d o e not = borne inputs o j.m e (e % j.n) (opened (cell_of j e) d) not

  nothing_borne : (d : List ℕ) (o : Option ℕ) (e : ℕ) → (IsBorne j d e → ⊥) → found inputs j d o e ≡ ended
  nothing_borne d o e not = not_borne inputs o j.m e (e % j.n) (opened (cell_of j e) d) (λ bytes is bears. not (bytes, is, bears))

  -- what the ring tells where all cells hold the same
  pub told_same : (d c : List ℕ) (floor : Option ℕ) (checkpoint : ℕ) (w : List Submitted) → 0 < j.n → SameCells j d c → told_after inputs j d floor checkpoint ≡ Ok w → told_after inputs j c floor checkpoint ≡ Ok w
  told_same d c floor checkpoint w some same told =
      let each : (o : Option ℕ) (e : ℕ) → found inputs j c o e ≡ found inputs j d o e = λ o e. found_same d c o e (same (e % j.n) (mod-lt e some)) in
      let r = runs_from_read (found inputs j d) floor j.n (suc checkpoint) w told in
      read_from_runs (found inputs j c) floor j.n (suc checkpoint) w (record {
        runs = runs_same (found inputs j d) (found inputs j c) floor (suc checkpoint) w (λ o e low high. each o e) r.runs;
        most = r.most;
        ends = λ lt. each (floor_after floor w) (suc checkpoint + length w) ∙ r.ends lt;
      })

  -- the numbers that it tells rise
  pub told_rises : (d : List ℕ) (floor : Option ℕ) (checkpoint : ℕ) (w : List Submitted) → told_after inputs j d floor checkpoint ≡ Ok w → rise floor w ≡ true
  told_rises d floor checkpoint w told =
      runs_rise (found inputs j d) (λ o e s is. found_may_come inputs o j.m e (e % j.n) (opened (cell_of j e) d) s is) floor (suc checkpoint) w
      (runs_from_read (found inputs j d) floor j.n (suc checkpoint) w told).runs

  -- all cells hold the same where the one that was written does
  all_same : (i : ℕ) (d c : List ℕ) → SameBut j i d c → opened (cell j i) c ≡ opened (cell j i) d → SameCells j d c
  all_same i d c but is k lt = elim (cases_eq k i) [
    | inl e ↦ subst (λ (x : ℕ). opened (cell j x) c ≡ opened (cell j x) d) (sym e) is
    | inr not ↦ but.others k not
  ]

  -- the epochs before the next one stand in other cells
  before : (d c : List ℕ) (o : Option ℕ) (e f : ℕ) → SameBut j (e % j.n) d c → f < e → e < f + j.n → found inputs j c o f ≡ found inputs j d o f
  before d c o e f but low high = found_same d c o f (but.others (f % j.n) (λ same. residues j.n f e low high same))

  -- THE CELL OF THE NEXT EPOCH IS WRITTEN
  module _ (d c : List ℕ) (floor : Option ℕ) (checkpoint : ℕ) (w : List Submitted) (e : ℕ) (next : IsNext inputs j d floor checkpoint w e) (but : SameBut j (e % j.n) d c) where
    told_before : IsRead (found inputs j d) floor j.n (suc checkpoint) w
    told_before = runs_from_read (found inputs j d) floor j.n (suc checkpoint) w next.told

    place : suc checkpoint + length w ≡ e
    place = omega (arith, next.epoch)

    runs_still : Runs (found inputs j c) floor (suc checkpoint) w
    runs_still = runs_same (found inputs j d) (found inputs j c) floor (suc checkpoint) w
        (λ o f low high. before d c o e f but (omega (arith, place, high)) (omega (arith, place, low, next.room))) told_before.runs

    -- it is closed
    pub closed_next : opened (cell_of j e) c ≡ None → told_after inputs j c floor checkpoint ≡ Ok w
    closed_next none = read_from_runs (found inputs j c) floor j.n (suc checkpoint) w (record {
      runs = runs_still;
      most = told_before.most;
      ends = λ lt. ap (found inputs j c (floor_after floor w)) place ∙ found_closed c (floor_after floor w) e none;
    })

    -- it holds the next epoch
    pub written_next : (x : Submitted) → e < 2 ^ 63 → IsCellBatch inputs j.m x → may_come (floor_after floor w) x.request ≡ true → NothingFollows j d e → opened (cell_of j e) c ≡ Some (cell_bytes j.m e x.request x.batch) → told_after inputs j c floor checkpoint ≡ Ok (w ++ x ∷ [])
    written_next x lt ok may nothing is =
        let now : found inputs j c (floor_after floor w) e ≡ submitted x = ap (found_in inputs (floor_after floor w) j.m e (e % j.n)) is ∙ cell_found inputs (floor_after floor w) j.m e x ok (e % j.n) may lt in
        let more = length_push w x in
        let after : suc checkpoint + length (w ++ x ∷ []) ≡ suc e = omega (arith, more, place) in
        let o = floor_after floor (w ++ x ∷ []) in
        read_from_runs (found inputs j c) floor j.n (suc checkpoint) (w ++ x ∷ []) (record {
          runs = runs_push (found inputs j c) floor (suc checkpoint) w x runs_still (ap (found inputs j c (floor_after floor w)) place ∙ now);
          most = omega (arith, more, next.room);
          ends = λ left. ap (found inputs j c o) after
              ∙ found_same d c o (suc e) (but.others (suc e % j.n) (λ same. residues j.n e (suc e) (omega arith) (omega (arith, left, more)) (sym same)))
              ∙ nothing_borne d o (suc e) nothing;
        })

    -- it is as it was
    pub same_next : opened (cell_of j e) c ≡ opened (cell_of j e) d → told_after inputs j c floor checkpoint ≡ Ok w
    same_next is = told_same d c floor checkpoint w (omega (arith, next.room)) (all_same (e % j.n) d c but is) next.told

  -- THE CELL AFTER THAT OF THE NEXT EPOCH IS CLOSED, where it bears the epoch after it
  module _ (d c : List ℕ) (floor : Option ℕ) (checkpoint : ℕ) (w : List Submitted) (e : ℕ) (next : IsNext inputs j d floor checkpoint w e) (but : SameBut j (suc e % j.n) d c) where
    told_so_far : IsRead (found inputs j d) floor j.n (suc checkpoint) w
    told_so_far = runs_from_read (found inputs j d) floor j.n (suc checkpoint) w next.told

    here : suc checkpoint + length w ≡ e
    here = omega (arith, next.epoch)

    some : 0 < j.n
    some = omega (arith, next.room)

    pub same_following : opened (cell_of j (suc e)) c ≡ opened (cell_of j (suc e)) d → told_after inputs j c floor checkpoint ≡ Ok w
    same_following is = told_same d c floor checkpoint w some (all_same (suc e % j.n) d c but is) next.told

    -- an epoch that the ring has stands elsewhere
    elsewhere : (o : Option ℕ) (f : ℕ) → f ≢ suc e → IsBorne j d (suc e) → IsBorne j d f → found inputs j c o f ≡ found inputs j d o f
    elsewhere o f not follows stands = found_same d c o f (but.others (f % j.n) (λ same. not (one_epoch j d f (suc e) same stands follows)))

    pub closed_following : IsBorne j d (suc e) → opened (cell_of j (suc e)) c ≡ None → told_after inputs j c floor checkpoint ≡ Ok w
    closed_following follows none = read_from_runs (found inputs j c) floor j.n (suc checkpoint) w (record {
      runs = runs_same (found inputs j d) (found inputs j c) floor (suc checkpoint) w
          (λ o f low high. let stood = run_at (found inputs j d) floor (suc checkpoint) w told_so_far.runs f low high in
          elsewhere o f (λ is. absurd (omega (arith, is, here, high))) follows (is_borne d stood.0 f (λ is. not_ended stood.1 (sym stood.2 ∙ is))))
          told_so_far.runs;
      most = told_so_far.most;
      ends = λ lt. ap (found inputs j c (floor_after floor w)) here ∙ still (floor_after floor w) refl;
    })
      where
        -- the next epoch's cell is the one that was closed, or another one
        still : (o : Option ℕ) → o ≡ floor_after floor w → found inputs j c o e ≡ ended
        still o is = elim (cases_eq (e % j.n) (suc e % j.n)) [
          | inl same ↦ found_closed c o e (ap (λ (i : ℕ). opened (cell j i) c) same ∙ none)
          | inr not ↦ found_same d c o e (but.others (e % j.n) not) ∙ ap (λ (o : Option ℕ). found inputs j d o e) is ∙ ap (found inputs j d (floor_after floor w)) (sym here) ∙ told_so_far.ends next.room
        ]

  -- THE CHECKPOINT GOES ON by k of the epochs
  pub told_later : (d : List ℕ) (floor : Option ℕ) (checkpoint k : ℕ) (w : List Submitted) → 0 < j.n → k ≤ length w → told_after inputs j d floor checkpoint ≡ Ok w → told_after inputs j d (floor_after floor (take k w)) (checkpoint + k) ≡ Ok (drop k w)
  told_later d floor checkpoint k w some le told =
      let r = runs_from_read (found inputs j d) floor j.n (suc checkpoint) w told in
      let size : length (drop k w) ≡ length w - k = length-drop k w in
      let start : suc checkpoint + k ≡ suc (checkpoint + k) = omega arith in
      let past : suc (checkpoint + k) + length (drop k w) ≡ suc checkpoint + length w = omega (arith, size, le) in
      let after = floor_after floor (take k w) in
      read_from_runs (found inputs j d) after j.n (suc (checkpoint + k)) (drop k w) (record {
        runs = subst (λ (e : ℕ). Runs (found inputs j d) after e (drop k w)) start (runs_drop (found inputs j d) floor (suc checkpoint) k w le r.runs);
        most = omega (arith, r.most, size);
        ends = λ lt. ap (found inputs j d (floor_after after (drop k w))) past
            ∙ ap (λ (o : Option ℕ). found inputs j d o (suc checkpoint + length w)) (floor_past_first floor k w)
            ∙ ends_there d floor checkpoint w k some r lt size;
      })
    where
      ends_there : (d : List ℕ) (floor : Option ℕ) (checkpoint : ℕ) (w : List Submitted) (k : ℕ) → 0 < j.n → IsRead (found inputs j d) floor j.n (suc checkpoint) w → length (drop k w) < j.n → length (drop k w) ≡ length w - k → found inputs j d (floor_after floor w) (suc checkpoint + length w) ≡ ended
      ends_there d floor checkpoint w k some r lt size = elim (cases_lt (length w) j.n) [
        | inl left ↦ r.ends left
        | inr all ↦
            let whole : length w ≡ j.n = omega (arith, all, r.most) in
            let first = run_at (found inputs j d) floor (suc checkpoint) w r.runs (suc checkpoint) (omega arith) (omega (arith, whole, some)) in
            let around : (suc checkpoint + length w) % j.n ≡ suc checkpoint % j.n = ap (λ (n : ℕ). (suc checkpoint + n) % j.n) whole ∙ add-mod_right (suc checkpoint) j.n in
            let o = floor_after floor w in
            elim (cases_ended (found inputs j d o (suc checkpoint + length w))) [
              | inl is ↦ is
              | inr not ↦ absurd (omega (arith, whole, some, one_epoch j d (suc checkpoint + length w) (suc checkpoint) around (is_borne d o (suc checkpoint + length w) not) (is_borne d first.0 (suc checkpoint) (λ is. not_ended first.1 (sym first.2 ∙ is)))))
            ]
      ]

  -- nothing stands after the checkpoint
  pub nothing_after : (c : List ℕ) (floor : Option ℕ) (checkpoint : ℕ) → opened (cell_of j (suc checkpoint)) c ≡ None → told_after inputs j c floor checkpoint ≡ Ok []
  nothing_after c floor checkpoint none =
      let place : suc checkpoint + 0 ≡ suc checkpoint = omega arith in
      read_from_runs (found inputs j c) floor j.n (suc checkpoint) [] (record {
        runs = tt;
        most = omega arith;
        ends = λ lt. ap (found inputs j c (floor_after floor [])) place ∙ found_closed c (floor_after floor []) (suc checkpoint) none;
      })
