-- The first run, once its records are taken, is let go.
use Rattle.std.proofs.Common.{◌≡◌, ℕ, ◌+◌, ◌<◌, Bool, true, false, ◌==◌, ◌&&◌, cond, List, [], ◌∷◌, ◌++◌, map, length, get_or, drop, Option, Some, None, filter, refl, sym, ap, ◌∙◌, subst, arith}
use Rattle.std.specs.Option.{option_map}
use Rattle.std.specs.Cmp.{IsEquivalence}
use Rattle.std.proofs.lemmas.Bool.{eqb-true, eq-eqb}
use Rattle.td_shard.specs.declared.runs.Numbered.{Numbered}
use Rattle.td_shard.specs.declared.runs.Lane.{Lane}
use Rattle.td_shard.specs.Runs.{Part, on_lane, all_of, ahead_of, last_by, first_on, last_on, AreLinked, AreNumbered}
use Rattle.td_shard.specs.Messages.{same_edge}
use Rattle.td_shard.specs.Order.{AreAscending}
use Rattle.td_shard.proofs.Linked.{none_on, first_none}

pub linked-rest : (same : Lane → Lane → Bool) (ps : List Part) → AreLinked same ps → AreLinked same (drop 1 ps)
linked-rest same [] h = h
linked-rest same (p ∷ ps) h = h.1

pub messages-rest : (ps : List Part) (d : Part) → 0 < length ps → (get_or ps 0 d).recs ≡ [] → all_of (drop 1 ps) ≡ all_of ps
messages-rest [] d h e = refl
messages-rest (p ∷ ps) d h e = ap (λ (l : List Numbered). map (on_lane p.lane) l ++ all_of ps) (sym e)

module _ (same : Lane → Lane → Bool) (laws : IsEquivalence same) where
  none_ahead : (o : Option ℕ) (a : ℕ) → a ≡ ahead_of o → (a == 0) ≡ true → o ≡ None
  none_ahead None a e h = refl
  none_ahead (Some i) a e h = absurd (let z : a ≡ 0 = eqb-true a 0 h in omega (arith, e, z))

  is_apart : (b c : Bool) → (b ≡ true → c ≡ true → ⊥) → b && c ≡ false
  is_apart true true f = absurd (f refl refl)
  is_apart true false f = refl
  is_apart false c f = refl

  numbers-by : (f : ℕ) (q : Lane) (s : Part) (ps : List Part) (o : Option ℕ) (b : Bool) (was now : Option ℕ) → AreLinked same (s ∷ ps) → last_on same q ps ≡ o → same s.lane q ≡ b → was ≡ option_map (λ i. f + i) (last_by (same q s.lane) o) → now ≡ cond ((s.ahead == 0) && same s.lane q) None was → now ≡ option_map (λ i. f + 1 + i) o
  numbers-by f q s ps (Some i) b was now l e g h n =
      n ∙ (ap (λ c. cond c None was) (is_apart (s.ahead == 0) (same s.lane q) (λ none here. none_of none here)) ∙ (h ∙ ap Some (omega arith)))
    where
      none_of : (s.ahead == 0) ≡ true → same s.lane q ≡ true → ⊥
      none_of none here =
          let last : last_on same q ps ≡ None = none_on same laws s.lane q ps here (none_ahead (first_on same s.lane ps) s.ahead l.0 none) in cc
  numbers-by f q s ps None true was now l e g h n =
      let first : first_on same s.lane ps ≡ None = first_none same laws s.lane q ps g e in
      let zero_ahead : (s.ahead == 0) ≡ true = eq-eqb s.ahead 0 (l.0 ∙ ap ahead_of first) in
      n ∙ (ap (λ c. cond (c && same s.lane q) None was) zero_ahead ∙ ap (λ c. cond c None was) g)
  numbers-by f q s ps None false was now l e g h n =
      n ∙ (ap (λ c. cond c None was) (is_apart (s.ahead == 0) (same s.lane q) (λ none here. absurd (cc))) ∙ (h ∙ ap (λ c. option_map (λ i. f + i) (cond c (Some 0) None)) (laws.symm q s.lane ∙ g)))

  -- the numbers of the last runs, when the first goes
  pub numbers : (f : ℕ) (q : Lane) (ps : List Part) (d : Part) (was now : Option ℕ) → AreLinked same ps → 0 < length ps → was ≡ option_map (λ i. f + i) (last_on same q ps)
      → now ≡ cond (((get_or ps 0 d).ahead == 0) && same (get_or ps 0 d).lane q) None was → now ≡ option_map (λ i. f + 1 + i) (last_on same q (drop 1 ps))
  numbers f q [] d was now l h e n = absurd (omega (arith, h))
  numbers f q (s ∷ ps) d was now l h e n = numbers-by f q s ps (last_on same q ps) (same s.lane q) was now l refl refl e n

-- NUMBERS, when the first goes
pub numbered-rest : (next : ℕ) (ps : List Part) (d : Part) → 0 < length ps → (get_or ps 0 d).recs ≡ [] → AreNumbered next ps → AreNumbered next (drop 1 ps)
numbered-rest next [] d h e is = is
numbered-rest next (p ∷ ps) d h e is = record {
  older = is.older.1;
  ascending = λ c. subst (λ xs. AreAscending (filter (λ x. same_edge c x.1) xs)) (sym (messages-rest (p ∷ ps) d h e)) (is.ascending c);
  grouped = is.grouped.2;
}
