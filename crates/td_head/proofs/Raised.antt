-- The head beside the one that counts is put.
use Rattle.std.proofs.Common.{◌≡◌, ◌⊎◌, inl, inr, ⊎_elim, ℕ, ◌+◌, ◌-◌, ◌<◌, ◌≤◌, ◌^◌, Bool, true, false, ◌&&◌, nat_lt, nat_le, List, length, take, codes}
use Rattle.std.proofs.Common.{Option, Some, None, refl, sym, ap, ◌∙◌, subst, arith, Ok}
use Rattle.std.specs.Prelude.{bytes_eq, Decides}
use Rattle.std.specs.Cmp.Lexicographic.{bytes_decides}
use Rattle.std.proofs.lemmas.Bool.{and_parts, lt-ltb, le-ltb, le-leb}
use Rattle.td_gate.specs.declared.region.Region.{Region}
use Rattle.td_gate.specs.Region.{opened, Puts}
use Rattle.td_gate.specs.Regions.{Apart, Replaces}
use Rattle.td_plan.specs.Lines.{Line, text_of}
use Rattle.td_plan.specs.Texts.{PlanText}
use Rattle.td_head.specs.declared.head.Head.{Head}
use Rattle.td_head.specs.declared.error.HeadError.TheVariants.{NotFormatted, Damaged, WrongPlan}
use Rattle.td_head.specs.Layout.{head, head_a, head_b, is_shape, size_of}
use Rattle.td_head.specs.Head.{Fields, fields_in, candidate, greater, head_of, is_version, is_head, where_so, told_of, for_plan, head_in, sized, headed, text_in}
use Rattle.td_head.specs.Head.{IsCanonical, TellsCanonical, raised, raised_bytes}
use Rattle.td_head.proofs.ReadBack.{candidate_back}
use Rattle.td_head.proofs.Same.{when_ok, limits}
use Rattle.td_head.proofs.Told.{good}

-- one of two heads
abbrev chosen : Bool → Fields → Fields → Option Fields
chosen t a b = elim t [ true ↦ Some b | false ↦ Some a ]

-- that which counts is one of the two
pick : (a b : Option Fields) (f : Fields) → greater a b ≡ Some f → (a ≡ Some f) ⊎ (b ≡ Some f)
pick None b f is = inr is
pick (Some a) None f is = inl is
pick (Some a) (Some b) f is = by (nat_lt a.generation b.generation) is
  where
    by : (t : Bool) → chosen t a b ≡ Some f → (Some a ≡ Some f) ⊎ (Some b ≡ Some f)
    by true e = inr e
    by false e = inl e

first_wins : (a b : Fields) → b.generation ≤ a.generation → greater (Some a) (Some b) ≡ Some a
first_wins a b le = ap (λ (t : Bool). chosen t a b) (le-ltb a.generation b.generation le)

second_wins : (a b : Fields) → a.generation < b.generation → greater (Some a) (Some b) ≡ Some b
second_wins a b lt = ap (λ (t : Bool). chosen t a b) (lt-ltb a.generation b.generation lt)

-- what a payload spells, where it begins as a head
abbrev counted : Bool → ℕ → List ℕ → Option Fields
counted t side bytes = elim t [ true ↦ Some (fields_in side bytes) | false ↦ None ]

abbrev side_in : ℕ → Option Fields → ℕ
side_in i None = i
side_in i (Some f) = f.side

side_of : (i : ℕ) (o : Option (List ℕ)) (f : Fields) → candidate i o ≡ Some f → i ≡ f.side
side_of i None f is = absurd cc
side_of i (Some bytes) f is = by (bytes_eq (take 4 bytes) (codes "TDFL")) is
  where
    by : (t : Bool) → counted t i bytes ≡ Some f → i ≡ f.side
    by true e = ap (side_in i) e
    by false e = absurd cc

-- The head with these fields counts, and tells h on a disk of this size.
record Counts (plan : List Line) (canonical : Bool) (image : List ℕ) (h : Head) : Type 0 where
  fields : Fields
  held : head_of image ≡ Some fields
  told : told_of fields ≡ h
  canon : canonical ≡ true

counts : (plan : List Line) (canonical : Bool) (image : List ℕ) (h : Head) → headed canonical plan image ≡ Ok h → Counts plan canonical image h
counts plan canonical image h is = of_head (head_of image) refl (when_ok (nat_le 8258 (length image)) (head_in canonical plan (length image) (head_of image)) NotFormatted h is).1
  where
    of_head : (o : Option Fields) → head_of image ≡ o → head_in canonical plan (length image) o ≡ Ok h → Counts plan canonical image h
    of_head None e told = absurd cc
    of_head (Some f) e told =
        let size = length image in
        let valid = when_ok (is_head canonical size f) (for_plan plan f) Damaged h told in
        let plan_is = when_ok (bytes_eq f.text (text_of plan)) (Ok (told_of f)) WrongPlan h valid.1 in
        let same : told_of f ≡ h = cc in
        let one = and_parts (is_version f.version) (nat_lt 0 f.generation && (is_shape f.sizes && (nat_le f.text_len 4096 && (canonical && nat_le (size_of f.sizes) size)))) valid.0 in
        let two = and_parts (nat_lt 0 f.generation) (is_shape f.sizes && (nat_le f.text_len 4096 && (canonical && nat_le (size_of f.sizes) size))) one.1 in
        let three = and_parts (is_shape f.sizes) (nat_le f.text_len 4096 && (canonical && nat_le (size_of f.sizes) size)) two.1 in
        let four = and_parts (nat_le f.text_len 4096) (canonical && nat_le (size_of f.sizes) size) three.1 in
        let five = and_parts canonical (nat_le (size_of f.sizes) size) four.1 in
        record { fields = f; held = e; told = same; canon = five.0 }

-- a head that can be read
pub head_version : (canonical : Bool) (plan : List Line) (image : List ℕ) (h : Head) → headed canonical plan image ≡ Ok h → is_version h.version ≡ true
head_version canonical plan image h is = of_head (head_of image) (when_ok (nat_le 8258 (length image)) (head_in canonical plan (length image) (head_of image)) NotFormatted h is).1
  where
    of_head : (o : Option Fields) → head_in canonical plan (length image) o ≡ Ok h → is_version h.version ≡ true
    of_head None told = absurd cc
    of_head (Some f) told =
        let size = length image in
        let valid = when_ok (is_head canonical size f) (for_plan plan f) Damaged h told in
        let plan_is = when_ok (bytes_eq f.text (text_of plan)) (Ok (told_of f)) WrongPlan h valid.1 in
        let same : told_of f ≡ h = cc in
        let one = and_parts (is_version f.version) (nat_lt 0 f.generation && (is_shape f.sizes && (nat_le f.text_len 4096 && (canonical && nat_le (size_of f.sizes) size)))) valid.0 in
        subst (λ (z : Head). is_version z.version ≡ true) same one.0

module _ (plan : List Line) (spelled : PlanText (text_of plan) plan) (bytes : length (text_of plan) ≤ 3948)
    (leaves : (r s : Region) (payload old new : List ℕ) → Apart r s → Puts r payload old new → opened s new ≡ opened s old)
    (canonical : Bool) (old new : List ℕ) (h : Head) (is : headed canonical plan old ≡ Ok h) (text : TellsCanonical canonical old) (small : h.generation + 1 < 2 ^ 64) where
  abbrev Now : Head → Type 0
  Now z = (headed canonical plan new ≡ Ok z) × TellsCanonical canonical new

  -- the head that is put, in this place
  abbrev fields_put : ℕ → Fields
  fields_put side = record { side = side; version = 2; generation = h.generation + 1; sizes = h.shape; text_len = length (text_of plan); text = text_of plan }

  still : length new ≡ length old → head_of new ≡ head_of old → Now h
  still size same = (
    ap (λ (f : Option Fields). sized canonical plan (length new) f) same ∙ ap (λ (n : ℕ). sized canonical plan n (head_of old)) size ∙ is,
    subst (λ (f : Option Fields). Decides canonical (IsCanonical (text_in f))) (sym same) text,
  )

  put : length new ≡ length old → canonical ≡ true → (side : ℕ) → side ≡ 1 - h.side → head_of new ≡ Some (fields_put side) → Now (raised h)
  put size canon side side_is held =
      let f = fields_put side in
      let fit = limits canonical plan old h is in
      let large : 8258 ≤ length new = omega (arith, size, fit.1) in
      let valid : is_head true (length new) f ≡ true = good (length new) f refl (omega arith) fit.0 (omega (arith, bytes)) (omega (arith, size, fit.1)) in
      let same : bytes_eq (text_of plan) (text_of plan) ≡ true = (bytes_decides (text_of plan) (text_of plan)).1 refl in
      let told : headed true plan new ≡ Ok (raised h) =
      ap (sized true plan (length new)) held
      ∙ ap (λ (t : Bool). where_so t (head_in true plan (length new) (Some f)) NotFormatted) (le-leb 8258 (length new) large)
      ∙ ap (λ (t : Bool). where_so t (for_plan plan f) Damaged) valid
      ∙ ap (λ (t : Bool). where_so t (Ok (told_of f)) WrongPlan) same
      ∙ ap (λ (i : ℕ). Ok (record { version = 2; side = i; generation = h.generation + 1; shape = h.shape })) side_is in
      let canonical_text : TellsCanonical true new = subst (λ (o : Option Fields). Decides true (IsCanonical (text_in o))) (sym held) (λ e. (plan, spelled, refl), λ e. refl) in
      subst (λ (b : Bool). (headed b plan new ≡ Ok (raised h)) × TellsCanonical b new) (sym canon) (told, canonical_text)

  back : (side : ℕ) → candidate side (Some (raised_bytes h plan)) ≡ Some (fields_put side)
  back side = candidate_back side 2 (h.generation + 1) h.shape (text_of plan) (omega arith) small (limits canonical plan old h is).0 (omega (arith, bytes))

  -- head A stands, and head B is put
  beside_a : (f : Fields) → told_of f ≡ h → canonical ≡ true → head_of old ≡ Some f → candidate 0 (opened head_a old) ≡ Some f → 0 ≡ h.side
      → Puts head_b (raised_bytes h plan) old new → Now h ⊎ Now (raised h)
  beside_a f told canon held mine side p =
      let size = p.others.size in
      let apart : Apart head_b head_a = inr (omega arith) in
      let first : candidate 0 (opened head_a new) ≡ Some f = ap (candidate 0) (leaves head_b head_a (raised_bytes h plan) old new apart p) ∙ mine in
      let now : (o : Option (List ℕ)) → opened head_b new ≡ o → head_of new ≡ greater (Some f) (candidate 1 o) = λ o e.
      ap (λ (x : Option Fields). greater x (candidate 1 (opened head_b new))) first ∙ ap (λ (x : Option (List ℕ)). greater (Some f) (candidate 1 x)) e in
      let lower : f.generation < h.generation + 1 = omega (arith, ap (λ (z : Head). z.generation) told) in
      ⊎_elim
      (λ same. inl (still size (now (opened head_b old) same ∙ ap (λ (x : Option Fields). greater x (candidate 1 (opened head_b old))) (sym mine))))
      (λ other. ⊎_elim (λ none. inl (still size (now None none ∙ sym held)))
      (λ some. inr (put size canon 1 (omega (arith, side)) (now (Some (raised_bytes h plan)) some ∙ ap (greater (Some f)) (back 1) ∙ second_wins f (fields_put 1) lower))) other)
      p.region

  -- head B stands, and head A is put
  beside_b : (f : Fields) → told_of f ≡ h → canonical ≡ true → head_of old ≡ Some f → candidate 1 (opened head_b old) ≡ Some f → 1 ≡ h.side
      → Puts head_a (raised_bytes h plan) old new → Now h ⊎ Now (raised h)
  beside_b f told canon held mine side p =
      let size = p.others.size in
      let apart : Apart head_a head_b = inl (omega arith) in
      let second : candidate 1 (opened head_b new) ≡ Some f = ap (candidate 1) (leaves head_a head_b (raised_bytes h plan) old new apart p) ∙ mine in
      let now : (o : Option (List ℕ)) → opened head_a new ≡ o → head_of new ≡ greater (candidate 0 o) (Some f) = λ o e.
      ap (λ (x : Option (List ℕ)). greater (candidate 0 x) (candidate 1 (opened head_b new))) e ∙ ap (greater (candidate 0 o)) second in
      let lower : f.generation ≤ h.generation + 1 = omega (arith, ap (λ (z : Head). z.generation) told) in
      ⊎_elim
      (λ same. inl (still size (now (opened head_a old) same ∙ ap (greater (candidate 0 (opened head_a old))) (sym mine))))
      (λ other. ⊎_elim (λ none. inl (still size (now None none ∙ sym held)))
      (λ some. inr (put size canon 0 (omega (arith, side))
      (now (Some (raised_bytes h plan)) some ∙ ap (λ (x : Option Fields). greater x (Some f)) (back 0) ∙ first_wins (fields_put 0) f lower))) other)
      p.region

  pub begun : Puts (head (1 - h.side)) (raised_bytes h plan) old new → Now h ⊎ Now (raised h)
  begun p =
      let k = counts plan canonical old h is in
      let f = k.fields in
      let side : f.side ≡ h.side = ap (λ (z : Head). z.side) k.told in
      ⊎_elim
      (λ mine. let zero_is : 0 ≡ h.side = side_of 0 (opened head_a old) f mine ∙ side in
      beside_a f k.told k.canon k.held mine zero_is (subst (λ (i : ℕ). Puts (head (1 - i)) (raised_bytes h plan) old new) (sym zero_is) p))
      (λ mine. let one_is : 1 ≡ h.side = side_of 1 (opened head_b old) f mine ∙ side in
      beside_b f k.told k.canon k.held mine one_is (subst (λ (i : ℕ). Puts (head (1 - i)) (raised_bytes h plan) old new) (sym one_is) p))
      (pick (candidate 0 (opened head_a old)) (candidate 1 (opened head_b old)) f k.held)

  -- once it is put
  done_a : (f : Fields) → told_of f ≡ h → canonical ≡ true → candidate 0 (opened head_a old) ≡ Some f → 0 ≡ h.side → Replaces head_b (raised_bytes h plan) old new → Now (raised h)
  done_a f told canon mine side r =
      let apart : Apart head_b head_a = inr (omega arith) in
      let p : Puts head_b (raised_bytes h plan) old new = record { others = r.others; region = inr (inr r.region) } in
      let first : candidate 0 (opened head_a new) ≡ Some f = ap (candidate 0) (leaves head_b head_a (raised_bytes h plan) old new apart p) ∙ mine in
      let lower : f.generation < h.generation + 1 = omega (arith, ap (λ (z : Head). z.generation) told) in
      put r.others.size canon 1 (omega (arith, side))
      (ap (λ (x : Option Fields). greater x (candidate 1 (opened head_b new))) first ∙ ap (λ (x : Option (List ℕ)). greater (Some f) (candidate 1 x)) r.region
      ∙ ap (greater (Some f)) (back 1) ∙ second_wins f (fields_put 1) lower)

  done_b : (f : Fields) → told_of f ≡ h → canonical ≡ true → candidate 1 (opened head_b old) ≡ Some f → 1 ≡ h.side → Replaces head_a (raised_bytes h plan) old new → Now (raised h)
  done_b f told canon mine side r =
      let apart : Apart head_a head_b = inl (omega arith) in
      let p : Puts head_a (raised_bytes h plan) old new = record { others = r.others; region = inr (inr r.region) } in
      let second : candidate 1 (opened head_b new) ≡ Some f = ap (candidate 1) (leaves head_a head_b (raised_bytes h plan) old new apart p) ∙ mine in
      let lower : f.generation ≤ h.generation + 1 = omega (arith, ap (λ (z : Head). z.generation) told) in
      put r.others.size canon 0 (omega (arith, side))
      (ap (λ (x : Option (List ℕ)). greater (candidate 0 x) (candidate 1 (opened head_b new))) r.region ∙ ap (greater (candidate 0 (Some (raised_bytes h plan)))) second
      ∙ ap (λ (x : Option Fields). greater x (Some f)) (back 0) ∙ first_wins (fields_put 0) f lower)

  pub done : Replaces (head (1 - h.side)) (raised_bytes h plan) old new → Now (raised h)
  done r =
      let k = counts plan canonical old h is in
      let f = k.fields in
      let side : f.side ≡ h.side = ap (λ (z : Head). z.side) k.told in
      ⊎_elim
      (λ mine. let zero_is : 0 ≡ h.side = side_of 0 (opened head_a old) f mine ∙ side in
      done_a f k.told k.canon mine zero_is (subst (λ (i : ℕ). Replaces (head (1 - i)) (raised_bytes h plan) old new) (sym zero_is) r))
      (λ mine. let one_is : 1 ≡ h.side = side_of 1 (opened head_b old) f mine ∙ side in
      done_b f k.told k.canon mine one_is (subst (λ (i : ℕ). Replaces (head (1 - i)) (raised_bytes h plan) old new) (sym one_is) r))
      (pick (candidate 0 (opened head_a old)) (candidate 1 (opened head_b old)) f k.held)
