-- What is read and taken of one run.
use Rattle.std.proofs.Common.{◌≡◌, ℕ, zero, suc, ◌+◌, ◌-◌, ◌<◌, ◌≤◌, ◌==◌, min, false, List, [], ◌∷◌, ◌++◌, map, length, get_or, take, drop, sym, ap, ◌∙◌, arith, append_assoc, length-drop, length-append}
use Rattle.std.proofs.lemmas.List.{take_all, drop_min, map-append, length-map}
use Rattle.std.specs.List.{remove}
use Rattle.td_stamp.specs.declared.values.Rec.{Rec}
use Rattle.td_shard.specs.declared.runs.Numbered.{Numbered}
use Rattle.td_shard.specs.Runs.{rec_of, Part, FrontWaits, changed_at, without_front, without_at, with_first}
use Rattle.td_shard.proofs.Ordered.{length-brought}
use Rattle.td_shard.proofs.TakenUp.{take-append, still, changed_at-here}
use Rattle.td_shard.proofs.Tasks.{IsOne, one}

-- those before one of its records are read, and then those behind it
pub two_reads : (old mid new : List Rec) (rs : List Numbered) (o n len len2 : ℕ) → len ≡ length old → len2 ≡ length mid → len ≤ 64 → o < length rs → n ≡ length rs
    → mid ≡ old ++ map rec_of (take (64 - len) (take (o - 0) (drop 0 rs))) → new ≡ mid ++ map rec_of (take (64 - len2) (take (n - (o + 1)) (drop (o + 1) rs))) → new ≡ old ++ map rec_of (take (64 - len) (remove rs o))
two_reads old mid new rs o n len len2 is is2 h within all first second =
    let front = take o rs in
    let back = drop (suc o) rs in
    let room = 64 - len in
    let to_o : o - 0 ≡ o = omega arith in
    let mid_is : mid ≡ old ++ map rec_of (take room front) = first ∙ ap (λ i. old ++ map rec_of (take room (take i rs))) to_o in
    let rest : take (n - (o + 1)) (drop (o + 1) rs) ≡ back =
    take_all (n - (o + 1)) (drop (o + 1) rs) (omega (arith, all, length-drop (o + 1) rs)) ∙ (let next : o + 1 ≡ suc o = omega arith in ap (λ i. drop i rs) next) in
    let left : 64 - len2 ≡ room - length front =
    (let long : len2 ≡ len + length (take room front) = omega (arith, is, is2, ap length mid_is, length-append old (map rec_of (take room front)), length-map (take room front) rec_of) in ap (λ i. 64 - i) long ∙ still len front h) in
    second ∙ (ap (λ l. mid ++ map rec_of (take (64 - len2) l)) rest
    ∙ (ap (λ l. l ++ map rec_of (take (64 - len2) back)) mid_is
    ∙ (append_assoc old (map rec_of (take room front)) (map rec_of (take (64 - len2) back))
    ∙ (ap (λ i. old ++ (map rec_of (take room front) ++ map rec_of (take i back))) left
    ∙ ap (λ l. old ++ l) (sym (map-append rec_of (take room front) (take (room - length front) back)) ∙ ap (map rec_of) (sym (take-append room front back)))))))

-- one alone is read
pub one_read : (old new : List Rec) (rs : List Numbered) (o len : ℕ) (r : Numbered) → old ≡ [] → len ≡ length old → IsOne rs o r → new ≡ old ++ map rec_of (take (64 - len) (take (o + 1 - o) (drop o rs))) → new ≡ r.rec ∷ []
one_read old new rs o len r none is its e =
    let first : o + 1 - o ≡ 1 = omega arith in
    let room : 64 - len ≡ 64 = omega (arith, is, ap length none) in
    e ∙ (ap (λ l. l ++ map rec_of (take (64 - len) (take (o + 1 - o) (drop o rs)))) none
    ∙ (ap (λ i. map rec_of (take i (take (o + 1 - o) (drop o rs)))) room
    ∙ (ap (λ i. map rec_of (take 64 (take i (drop o rs)))) first
    ∙ ap (λ l. map rec_of (take 64 l)) its.read)))

-- all are read
pub whole_read : (old new : List Rec) (rs : List Numbered) (n room : ℕ) → n ≡ length rs → new ≡ old ++ map rec_of (take room (take (n - 0) (drop 0 rs))) → new ≡ old ++ map rec_of (take room rs)
whole_read old new rs n room all e = e ∙ ap (λ l. old ++ map rec_of (take room l)) (take_all (n - 0) rs (omega (arith, all)))

-- one that was brought to the front is taken
pub taken_one : (o i : ℕ) (ps : List Part) → i < length ps → ((d : Part) → o < length (get_or ps i d).recs) → changed_at (without_front 1) i (changed_at (with_first o) i ps) ≡ changed_at (without_at o) i ps
taken_one o i [] h within = absurd (omega (arith, h))
taken_one o zero (p ∷ ps) h within =
    let its = one p.recs o (within p) in
    ap (λ (l : List Numbered). record p { recs = drop 1 (l ++ remove p.recs o) } ∷ ps) its.1.read
taken_one o (suc i) (p ∷ ps) h within = ap (λ l. p ∷ l) (taken_one o i ps (omega (arith, h)) within)

pub some_there : (o i : ℕ) (ps : List Part) (d : Part) → i < length ps → ((e : Part) → o < length (get_or ps i e).recs) → 1 ≤ length (get_or (changed_at (with_first o) i ps) i d).recs
some_there o i ps d h within =
    let here = ap (λ (p : Part). length p.recs) (changed_at-here (with_first o) i ps d h) in
    omega (arith, here, within d, length-brought o (get_or ps i d).recs (within d))

-- no more are taken than there are
pub capped : (n w m i : ℕ) (ps : List Part) → i < length ps → ((d : Part) → w ≡ length (get_or ps i d).recs) → m ≡ min w n → changed_at (without_front m) i ps ≡ changed_at (without_front n) i ps
capped n w m i [] h many e = absurd (omega (arith, h))
capped n w m zero (p ∷ ps) h many e =
    let least : m ≡ min n (length p.recs) = omega (arith, e, many p) in
    ap (λ (l : List Numbered). record p { recs = l } ∷ ps) (ap (λ j. drop j p.recs) least ∙ drop_min n p.recs)
capped n w m (suc i) (p ∷ ps) h many e = ap (λ l. p ∷ l) (capped n w m i ps (omega (arith, h)) many e)

-- a first run in which some wait
pub front-waits : (ps : List Part) (n : ℕ) → ((d : Part) → n ≡ length (get_or ps 0 d).recs) → (n == 0) ≡ false → FrontWaits ps
front-waits [] n h e = tt
front-waits (p ∷ ps) zero h e = absurd (cc)
front-waits (p ∷ ps) (suc n) h e = omega (arith, h p)
