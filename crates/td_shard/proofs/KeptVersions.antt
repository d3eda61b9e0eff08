-- Versions as the map keeps them: what a change of it does to what was left.
use Rattle.std.proofs.Common.{◌≡◌, ◌≢◌, ◌↔◌, ℕ, zero, suc, ◌+◌, not, Bool, true, false, cond, nat_lt, List, [], ◌∷◌, map, filter, length, position, Some, None, ◌≤◌, arith, refl, ap, sym, ◌∙◌, subst}
use Rattle.std.specs.Option.{option_map}
use Rattle.std.specs.List.{remove, position_or_len, IsDistinct}
use Rattle.std.specs.List.Sorted.{IsPermutation}
use Rattle.std.proofs.lemmas.List.Sorted.{IsPermutation-map}
use Rattle.std.specs.Map.{lookup, set_value, remove_entry, keys_of}
use Rattle.std.specs.Map.Calls.{RetainsPairs}
use Rattle.std.specs.BTreeMap.{is_at}
use Rattle.std.specs.declared.cmp.Ordering.{Ordering}
use Rattle.std.specs.declared.cmp.Ordering.TheVariants.{Less, Equal, Greater}
use Rattle.std.specs.Ordering.{is_eq, eq_by_cmp}
use Rattle.std.proofs.lemmas.Bool.{ltb-false}
use Rattle.std.proofs.Math.Numerals.{one-add}
use Rattle.std.proofs.lemmas.Map.Steps.{set_value_same}
use Rattle.td_stamp.specs.Orders.{state_key_cmp}
use Rattle.td_stamp.specs.Bag.{bag_insert, bag_remove, join}
use Rattle.td_stamp.specs.BagLaws.{BagLaws}
use Rattle.td_machine.specs.State.{left_cmp}
use Rattle.td_shard.specs.declared.versions.Version.{Version}
use Rattle.td_shard.specs.Versions.{VersionList, left_of, left_in, version_cmp}
use Rattle.td_shard.proofs.Viewed.{seen, lookup-seen, set-seen, remove-seen, keys-seen}
use Rattle.td_shard.proofs.LeftBags.{left_in-more, left_in-moved, left_in-filter, left_in-not, left_in-out, left_in-emptied}

-- ONE VERSION TAKEN OUT, by its place
pub taken_at-place : (v : Version) (vs : List Version) → remove vs (position_or_len (λ k. is_eq (version_cmp v k)) vs) ≡ bag_remove version_cmp v vs
taken_at-place v [] = refl
taken_at-place v (w ∷ vs) = by (version_cmp v w) (taken_at-place v vs)
  where
    by : (o : Ordering) → remove vs (position_or_len (λ k. is_eq (version_cmp v k)) vs) ≡ bag_remove version_cmp v vs
        → remove (w ∷ vs) (cond (not (is_eq o)) (1 + position_or_len (λ k. is_eq (version_cmp v k)) vs) 0) ≡ elim o [ Equal ↦ vs | _ ↦ w ∷ bag_remove version_cmp v vs ]
    by Less e = ap (remove (w ∷ vs)) (one-add (position_or_len (λ k. is_eq (version_cmp v k)) vs)) ∙ ap (λ l. w ∷ l) e
    by Greater e = ap (remove (w ∷ vs)) (one-add (position_or_len (λ k. is_eq (version_cmp v k)) vs)) ∙ ap (λ l. w ∷ l) e
    by Equal e = refl

-- none is at a place past the end
past_end : (vs : List Version) (n : ℕ) → length vs ≤ n → remove vs n ≡ vs
past_end [] zero h = refl
past_end [] (suc n) h = refl
past_end (w ∷ vs) zero h = absurd (omega (arith, h))
past_end (w ∷ vs) (suc n) h = ap (λ l. w ∷ l) (past_end vs n (omega (arith, h)))

pub taken_somewhere : (v : Version) (vs : List Version) (i : ℕ) → position (λ k. is_eq (version_cmp v k)) vs ≡ Some i → remove vs i ≡ bag_remove version_cmp v vs
taken_somewhere v vs i e = by (nat_lt (position_or_len (λ k. is_eq (version_cmp v k)) vs) (length vs)) e
  where
    by : (b : Bool) → cond b (Some (position_or_len (λ k. is_eq (version_cmp v k)) vs)) None ≡ Some i → remove vs i ≡ bag_remove version_cmp v vs
    by true f = let same : position_or_len (λ k. is_eq (version_cmp v k)) vs ≡ i = cc in ap (remove vs) (sym same) ∙ taken_at-place v vs
    by false f = cc

pub taken_nowhere : (v : Version) (vs : List Version) → position (λ k. is_eq (version_cmp v k)) vs ≡ None → vs ≡ bag_remove version_cmp v vs
taken_nowhere v vs e = by (nat_lt (position_or_len (λ k. is_eq (version_cmp v k)) vs) (length vs)) refl e
  where
    by : (b : Bool) → nat_lt (position_or_len (λ k. is_eq (version_cmp v k)) vs) (length vs) ≡ b → cond b (Some (position_or_len (λ k. is_eq (version_cmp v k)) vs)) None ≡ None → vs ≡ bag_remove version_cmp v vs
    by true h f = cc
    by false h f = sym (past_end vs (position_or_len (λ k. is_eq (version_cmp v k)) vs) (ltb-false (position_or_len (λ k. is_eq (version_cmp v k)) vs) (length vs) h)) ∙ taken_at-place v vs

module _ {V : Type 0} (f : V → List Version) where
  abbrev pub told : List ((ℕ × ℕ) × V) → VersionList
  told es = map (seen f) es

  module _ (place : ℕ × ℕ) (es es2 : List ((ℕ × ℕ) × V)) where
    abbrev here : ℕ × ℕ → Bool
    here = is_at (state_key_cmp place)

    found : (x : V) → Some x ≡ lookup here es → lookup here (told es) ≡ Some (f x)
    found x e = lookup-seen f here es ∙ ap (option_map f) (sym e)

    not_found : None ≡ lookup here es → lookup here (told es) ≡ None
    not_found e = lookup-seen f here es ∙ ap (option_map f) (sym e)

    pub told-written : (y : V) → es2 ≡ set_value here es y → told es2 ≡ set_value here (told es) (f y)
    told-written y e = ap told e ∙ sym (set-seen f here es y)

    -- the same versions are written back
    pub told-as_before : (x y : V) → Some x ≡ lookup here es → es2 ≡ set_value here es y → f y ≡ f x → told es2 ≡ told es
    told-as_before x y e g h = told-written y g ∙ (ap (set_value here (told es)) h ∙ set_value_same here (told es) (f x) (found x e))

    pub as_before : (x y : V) → Some x ≡ lookup here es → es2 ≡ set_value here es y → f y ≡ f x → left_in (told es2) ≡ left_in (told es)
    as_before x y e g h = ap left_in (told-as_before x y e g h)

    module _ (laws : BagLaws left_cmp) (v : Version) where
      -- a place has one version more
      pub one_more : (x y : V) → Some x ≡ lookup here es → es2 ≡ set_value here es y → f y ≡ bag_insert version_cmp v (f x) → left_in (told es2) ≡ bag_insert left_cmp (left_of place v) (left_in (told es))
      one_more x y e g h = ap left_in (told-written y g ∙ ap (set_value here (told es)) h) ∙ left_in-more laws place v (f x) (told es) (found x e)

      -- or its first
      pub first_one : (y : V) → IsPermutation ((place, y) ∷ es) es2 → f y ≡ v ∷ [] → left_in (told es2) ≡ bag_insert left_cmp (left_of place v) (left_in (told es))
      first_one y g h =
          left_in-moved laws (told ((place, y) ∷ es)) (told es2) (IsPermutation-map (seen f) ((place, y) ∷ es) es2 g)
          ∙ ap (λ l. join left_cmp (map (left_of place) l) (left_in (told es))) h

      -- a place without versions has none to be taken out
      pub none_out : None ≡ lookup here es → es2 ≡ es → left_in (told es2) ≡ bag_remove left_cmp (left_of place v) (left_in (told es))
      none_out e g = ap (λ l. left_in (told l)) g ∙ sym (left_in-not laws place v (told es) (not_found e))

      -- one is taken out
      pub one_out : (x y : V) → IsDistinct (eq_by_cmp state_key_cmp) (keys_of es) → Some x ≡ lookup here es → es2 ≡ set_value here es y → f y ≡ bag_remove version_cmp v (f x)
          → left_in (told es2) ≡ bag_remove left_cmp (left_of place v) (left_in (told es))
      one_out x y s e g h =
          ap left_in (told-written y g ∙ ap (set_value here (told es)) h)
          ∙ left_in-out laws place v (f x) (told es) (subst (IsDistinct (eq_by_cmp state_key_cmp)) (sym (keys-seen f es)) s) (found x e)

      -- and the place with the last
      pub last_out : (x y : V) (es3 : List ((ℕ × ℕ) × V)) → IsDistinct (eq_by_cmp state_key_cmp) (keys_of es) → Some x ≡ lookup here es → es2 ≡ set_value here es y → f y ≡ bag_remove version_cmp v (f x) → f y ≡ []
          → IsPermutation (remove_entry here es2) es3 → left_in (told es3) ≡ bag_remove left_cmp (left_of place v) (left_in (told es))
      last_out x y es3 s e g h none r =
          let emptied = told-written y g ∙ ap (set_value here (told es)) none in
          left_in-moved laws (told (remove_entry here es2)) (told es3) (IsPermutation-map (seen f) (remove_entry here es2) es3 r)
          ∙ ap left_in (sym (remove-seen f here es2) ∙ ap (remove_entry here) emptied)
          ∙ (left_in-emptied laws place (told es) ∙ (ap left_in (sym emptied) ∙ one_out x y s e g h))

  -- WHAT IS LET GO: each place keeps the versions after an epoch, and stays where there are some
  module _ (laws : BagLaws left_cmp) (epoch : ℕ) {F : Type 0} (T : F → (ℕ × ℕ) → V → Bool → V → F → Type 0) (call : F)
      (calls : (k : ℕ × ℕ) (v : V) (b : Bool) (w : V) (after : F) → T call k v b w after → (f w ≡ filter (λ x. nat_lt epoch x.epoch) (f v)) × ((b ≡ true) ↔ (f w ≢ [])) × (after ≡ call)) where
    later_left : (e : (ℕ × ℕ) × V) (es : List ((ℕ × ℕ) × V)) (w : V) (kept rest : List ((ℕ × ℕ) × V)) (b : Bool) → f w ≡ filter (λ x. nat_lt epoch x.epoch) (f e.1) → (b ≡ true) ↔ (f w ≢ [])
        → left_in (told rest) ≡ filter (λ x. nat_lt epoch x.epoch) (left_in (told es)) → kept ≡ cond b ((e.0, w) ∷ rest) rest
        → left_in (told kept) ≡ filter (λ x. nat_lt epoch x.epoch) (left_in (told (e ∷ es)))
    later_left e es w kept rest b h some more is =
        by b refl is ∙ ((λ i. join left_cmp (map (left_of e.0) (h i)) (more i)) ∙ sym (left_in-filter laws (λ x. nat_lt epoch x.epoch) (seen f e) (told es)))
      where
        none : (xs : List Version) → f w ≡ xs → b ≡ false → f w ≡ []
        none [] g n = g
        none (x ∷ xs) g n = let yes : b ≡ true = some.1 (λ z. let no : x ∷ xs ≡ [] = sym g ∙ z in cc) in cc

        by : (c : Bool) → b ≡ c → kept ≡ cond b ((e.0, w) ∷ rest) rest → left_in (told kept) ≡ join left_cmp (map (left_of e.0) (f w)) (left_in (told rest))
        by true g k = ap (λ l. left_in (told l)) (k ∙ ap (λ c. cond c ((e.0, w) ∷ rest) rest) g)
        by false g k = ap (λ l. left_in (told l)) (k ∙ ap (λ c. cond c ((e.0, w) ∷ rest) rest) g) ∙ ap (λ l. join left_cmp (map (left_of e.0) l) (left_in (told rest))) (sym (none (f w) refl g))

    pub let_go-left : (es kept : List ((ℕ × ℕ) × V)) → RetainsPairs T call es kept → left_in (told kept) ≡ filter (λ x. nat_lt epoch x.epoch) (left_in (told es))
    let_go-left [] kept r = ap (λ l. left_in (told l)) r
    let_go-left (e ∷ es) kept (b, w, after, rest, t, more, is) =
        let c = calls e.0 e.1 b w after t in
        later_left e es w kept rest b c.0 c.1 (let_go-left es rest (subst (λ g. RetainsPairs T g es rest) c.2 more)) is
