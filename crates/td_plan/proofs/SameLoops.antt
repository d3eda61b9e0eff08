-- The loops of one block, from either end.
use Rattle.std.proofs.Common.{◌≡◌, ℕ, ◌<◌, ◌≤◌, ◌≢◌, Bool, true, false, List, [], ◌∷◌, ◌++◌, length, take, reverse, get_or, refl, sym, ap, ◌∙◌, arith}
use Rattle.std.specs.Prelude.{Option, Some, None, option_map}
use Rattle.std.specs.Bool.{Decides}
use Rattle.std.specs.Str.{bytes_eq}
use Rattle.std.proofs.lemmas.List.{get_or-map, take_all, reverse-reverse, map-append, reverse-append}
use Rattle.std.proofs.lemmas.Slice.Eq.{bytes_eq-Decides}
use Rattle.td_plan.specs.declared.vertex.Loop.{Loop}
use Rattle.td_plan.specs.Blocks.{firsts}

-- that a loop differs shows that the blocks do
pub differ : (xs ys : List Loop) (i : ℕ) (d : Loop) → i < length xs → length xs ≡ length ys → (get_or xs i d).first ≢ (get_or ys i d).first → false ≡ bytes_eq (firsts xs) (firsts ys)
differ xs ys i d lt same ne = by (bytes_eq (firsts xs) (firsts ys)) refl
  where
    by : (b : Bool) → bytes_eq (firsts xs) (firsts ys) ≡ b → false ≡ bytes_eq (firsts xs) (firsts ys)
    by false t = sym t
    by true t = absurd (ne (sym (get_or-map (λ l. l.first) xs i d 0 lt) ∙ ap (λ fs. get_or fs i 0) ((bytes_eq-Decides (firsts xs) (firsts ys)).0 t) ∙ get_or-map (λ l. l.first) ys i d 0 (omega arith)))

pub agree : (xs ys : List Loop) (i : ℕ) → length xs ≤ i → length xs ≡ length ys → firsts (take i xs) ≡ firsts (take i ys) → true ≡ bytes_eq (firsts xs) (firsts ys)
agree xs ys i le same e =
    sym ((bytes_eq-Decides (firsts xs) (firsts ys)).1 (sym (ap firsts (take_all i xs le)) ∙ e ∙ ap firsts (take_all i ys (omega arith))))

-- the same from the other end
decided_alike : {P Q : Type 0} (a b : Bool) → Decides a P → Decides b Q → (P → Q) → (Q → P) → a ≡ b
decided_alike true true p q f g = refl
decided_alike false false p q f g = refl
decided_alike true false p q f g = sym (q.1 (f (p.0 refl)))
decided_alike false true p q f g = p.1 (g (q.0 refl))

firsts_reverse : (ls : List Loop) → firsts (reverse ls) ≡ reverse (firsts ls)
firsts_reverse [] = refl
firsts_reverse (l ∷ ls) = ap firsts (reverse-append (l ∷ []) ls) ∙ map-append (λ (k : Loop). k.first) (reverse ls) (l ∷ []) ∙ ap (λ fs. fs ++ l.first ∷ []) (firsts_reverse ls) ∙ sym (reverse-append (l.first ∷ []) (firsts ls))

turned : (ls block : List Loop) → bytes_eq (firsts (reverse ls)) (firsts block) ≡ bytes_eq (firsts ls) (firsts (reverse block))
turned ls block =
    decided_alike _ _ (bytes_eq-Decides (firsts (reverse ls)) (firsts block)) (bytes_eq-Decides (firsts ls) (firsts (reverse block)))
    (λ p. sym (reverse-reverse (firsts ls)) ∙ ap reverse (sym (firsts_reverse ls) ∙ p) ∙ sym (firsts_reverse block))
    (λ q. firsts_reverse ls ∙ ap reverse q ∙ ap reverse (firsts_reverse block) ∙ reverse-reverse (firsts block))

pub read_there : (o : Option (List Loop)) (loops block : List Loop) → Some loops ≡ option_map reverse o
    → bytes_eq (firsts loops) (firsts block) ≡ elim o [ None ↦ false | Some ls ↦ bytes_eq (firsts ls) (firsts (reverse block)) ]
read_there None loops block e = absurd (cc)
read_there (Some ls) loops block e = let same : loops ≡ reverse ls = cc in ap (λ k. bytes_eq (firsts k) (firsts block)) same ∙ turned ls block

pub twice : (ls : List Loop) → reverse (reverse ls) ≡ ls
twice ls = reverse-reverse ls
