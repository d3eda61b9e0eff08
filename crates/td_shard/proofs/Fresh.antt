-- Records that are put into a set one after another, and taken out again.
use Rattle.std.proofs.Common.{◌≡◌, ℕ, ◌+◌, ◌<◌, ◌≤◌, arith, length-append, List, [], ◌∷◌, ◌++◌, length, get_or, take, drop, Bool, true, false, cond, refl, ap, sym, ◌∙◌, append-nil}
use Rattle.std.proofs.lemmas.List.{drop_more, take_more}
use Rattle.std.specs.BTreeMap.{is_at}
use Rattle.std.specs.Set.{remove_key}
use Rattle.td_stamp.specs.declared.values.Rec.{Rec}
use Rattle.td_stamp.specs.Orders.{rec_cmp}
use Rattle.td_stamp.specs.Bag.{bag_insert, bag_remove, join, has}
use Rattle.td_stamp.specs.BagLaws.{BagLaws}
use Rattle.td_shard.specs.Seen.{fresh_recs}
use Rattle.td_shard.proofs.Between.{key-removed}

module _ (laws : BagLaws rec_cmp) where
  -- one record more comes
  abbrev More : List Rec → List Rec → Rec → Type 0
  More seen xs r = fresh_recs seen (xs ++ r ∷ []) ≡ fresh_recs seen xs ++ cond (has rec_cmp r (join rec_cmp (fresh_recs seen xs) seen)) [] (r ∷ [])

  more-by : (seen xs : List Rec) (x r : Rec) (b : Bool) → has rec_cmp x seen ≡ b → More seen xs r → More (bag_insert rec_cmp x seen) xs r → More seen (x ∷ xs) r
  more-by seen xs x r true e here there = rw e here
  more-by seen xs x r false e here there =
      let more = bag_insert rec_cmp x seen in
      let same : join rec_cmp (fresh_recs more xs) more ≡ bag_insert rec_cmp x (join rec_cmp (fresh_recs more xs) seen) = sym (laws.swaps (x ∷ []) (fresh_recs more xs) seen) in
      rw e (ap (λ l. x ∷ l) (there ∙ ap (λ l. fresh_recs more xs ++ cond (has rec_cmp r l) [] (r ∷ [])) same))

  fresh-more : (seen xs : List Rec) (r : Rec) → More seen xs r
  fresh-more seen [] r = refl
  fresh-more seen (x ∷ xs) r = more-by seen xs x r (has rec_cmp x seen) refl (fresh-more seen xs r) (fresh-more (bag_insert rec_cmp x seen) xs r)

  -- and is put in, where it was not there
  joined-more : (seen xs : List Rec) (r : Rec) (b : Bool) → join rec_cmp (xs ++ cond b [] (r ∷ [])) seen ≡ cond b (join rec_cmp xs seen) (bag_insert rec_cmp r (join rec_cmp xs seen))
  joined-more seen xs r true = ap (λ l. join rec_cmp l seen) (append-nil xs)
  joined-more seen xs r false = laws.append xs (r ∷ []) seen ∙ sym (laws.swaps (r ∷ []) xs seen)

  -- a step of the loop over the records: what is new, and the set
  pub new-after : (old recs new set after : List Rec) (i : ℕ) (d : Rec) → i < length recs → new ≡ fresh_recs old (take i recs) → set ≡ join rec_cmp new old
      → after ≡ new ++ cond (has rec_cmp (get_or recs i d) set) [] (get_or recs i d ∷ []) → after ≡ fresh_recs old (take (i + 1) recs)
  new-after old recs new set after i d h n s e =
      let r = get_or recs i d in
      e ∙ (ap (λ l. new ++ cond (has rec_cmp r l) [] (r ∷ [])) s ∙ (ap (λ l. l ++ cond (has rec_cmp r (join rec_cmp l old)) [] (r ∷ [])) n
      ∙ (sym (fresh-more old (take i recs) r) ∙ ap (fresh_recs old) (sym (take_more recs i d h)))))

  pub set-after : (old new set after set2 : List Rec) (r : Rec) → set ≡ join rec_cmp new old → after ≡ new ++ cond (has rec_cmp r set) [] (r ∷ [])
      → set2 ≡ cond (has rec_cmp r set) set (bag_insert rec_cmp r set) → set2 ≡ join rec_cmp after old
  set-after old new set after set2 r s n e =
      e ∙ (ap (λ l. cond (has rec_cmp r set) l (bag_insert rec_cmp r l)) s ∙ (sym (joined-more old new r (has rec_cmp r set)) ∙ ap (λ l. join rec_cmp l old) (sym n)))

  -- one record is taken out
  pub one-out : (recs keys set : List Rec) (i : ℕ) (d : Rec) → i < length recs → set ≡ join rec_cmp (drop i recs) keys
      → remove_key (is_at (rec_cmp (get_or recs i d))) set ≡ join rec_cmp (drop (i + 1) recs) keys
  one-out recs keys set i d h e =
      let x = get_or recs i d in
      let rest = drop (i + 1) recs in
      key-removed rec_cmp x set ∙ (ap (bag_remove rec_cmp x) (e ∙ ap (λ l. join rec_cmp l keys) (drop_more recs i d h)) ∙ laws.removes x (join rec_cmp rest keys))

-- by one record at most
pub longer : (new after : List Rec) (b : Bool) (r : Rec) → after ≡ new ++ cond b [] (r ∷ []) → length after ≤ length new + 1
longer new after true r e = let n = ap length e in let m = length-append new [] in omega (arith, n, m)
longer new after false r e = let n = ap length e in let m = length-append new (r ∷ []) in omega (arith, n, m)
