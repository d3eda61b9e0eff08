-- An empty text of closures adds nothing to the catalogue.
use Rattle.std.proofs.Common.{◌≡◌, ◌<◌, ◌≤◌, ℕ, Bool, true, false, cond, if◌then◌else◌, List, [], ◌∷◌, map, Option, Some, None, refl, ap, sym, ◌∙◌, arith}
use Rattle.std.specs.Prelude.{◌==◌, ◌&&◌, nat_lt, is_some}
use Rattle.std.specs.Map.{lookup}
use Rattle.std.proofs.lemmas.Bool.{ltb-true, ltb-false, ne_eqb, and_parts}
use Rattle.td_stamp.specs.declared.values.Rec.{Rec}
use Rattle.td_stamp.specs.declared.values.Item.{Item}
use Rattle.td_stamp.specs.declared.values.State.{State}
use Rattle.td_plan.specs.declared.vertex.Kind.TheVariants.{Map, Group, Fold}
use Rattle.td_catalogue.specs.Catalogue.{catalogue}
use Rattle.td_catalogue.specs.Shelves.{in_catalogue, is_first}
use Rattle.td_formula.specs.declared.closure.Closure.{Closure}
use Rattle.td_formula.specs.declared.closure.ClosureKind.{ClosureKind}
use Rattle.td_formula.specs.declared.closure.ClosureKind.TheVariants as kinds
use Rattle.td_formula.specs.Written.{closure_at, map_answer, group_answer, fold_answer}
use Rattle.td_closures.specs.Texts.{ClosuresText}
use Rattle.td_closures.specs.Drafts.{closures_of}
use Rattle.td_closures.specs.Kept.{said_by}
use Rattle.td_formula.specs.Stored.{stored_beside}
use Rattle.td_c.specs.Stores.{stored_catalogue}

none_said : (closures : List Closure) → map said_by closures ≡ [] → closures ≡ []
none_said [] e = refl
none_said (closure ∷ closures) e = cc

-- it has no lines
pub spells_none : (closures : List Closure) → ClosuresText [] (map said_by closures) → closures ≡ []
spells_none closures text = none_said closures (text.closures_are ∙ sym (ap closures_of text.lines))

-- a code from 10,000 on is not on the first shelf
abbrev are_low : {X : Type 0} → List (ℕ × X) → Bool
are_low [] = true
are_low (e ∷ es) = nat_lt e.0 10000 && are_low es

pub not_first : {X : Type 0} (answers : List (ℕ × X)) (code : ℕ) → 10000 ≤ code → are_low answers ≡ true → is_first answers code ≡ false
not_first [] code high low = refl
not_first (e ∷ es) code high low =
    let parts = and_parts (nat_lt e.0 10000) (are_low es) low in
    let below : e.0 < 10000 = ltb-true e.0 10000 parts.0 in
    let other : (e.0 == code) ≡ false = ne_eqb e.0 code (λ same. absurd (omega (arith, same, below, high))) in
    ap (λ b. is_some (cond b (Some e.1) (lookup (λ c. c == code) es))) other ∙ not_first es code high parts.1

-- what is said of the codes from 10,000 on is said of all
by_code : {X : Type 0} (low high : ℕ → X) → ((code : ℕ) → 10000 ≤ code → high code ≡ low code) → (code : ℕ) → (if nat_lt code 10000 then low code else high code) ≡ low code
by_code low high same code = by (nat_lt code 10000) refl
  where
    by : (b : Bool) → nat_lt code 10000 ≡ b → (if b then low code else high code) ≡ low code
    by true e = refl
    by false e = same code (ltb-false code 10000 e)

no_closure : (kind : ClosureKind) (code : ℕ) → closure_at kind [] code ≡ None
no_closure kind code = by (nat_lt code 10000) None refl
  where
    by : (b : Bool) (found : Option Closure) → found ≡ None → (if b then None else found) ≡ None
    by true found e = refl
    by false found e = e

pub adds_nothing : ((code : ℕ) → 10000 ≤ code → in_catalogue (Map code) ≡ false)
    → ((code : ℕ) → 10000 ≤ code → in_catalogue (Group code) ≡ false)
    → ((code : ℕ) → 10000 ≤ code → in_catalogue (Fold code) ≡ false)
    → ((code port : ℕ) (rec : Rec) → in_catalogue (Map code) ≡ false → catalogue.emit code port rec ≡ [])
    → ((code key : ℕ) (items : List Item) → in_catalogue (Group code) ≡ false → catalogue.group code key items ≡ [])
    → ((code key : ℕ) (state : Option State) (items : List Item) → in_catalogue (Fold code) ≡ false → catalogue.fold code key state items ≡ (state, []))
    → stored_beside stored_catalogue [] ≡ stored_catalogue
adds_nothing no_map no_group no_fold maps groups folds = λ i. record {
  answers = record {
    emit = λ code. by_code catalogue.emit (λ c. map_answer (closure_at kinds.Map [] c))
        (λ c high. ap map_answer (no_closure kinds.Map c) ∙ (λ j port rec. sym (maps c port rec (no_map c high)) j)) code i;
    group = λ code. by_code catalogue.group (λ c. group_answer (closure_at kinds.Group [] c))
        (λ c high. ap group_answer (no_closure kinds.Group c) ∙ (λ j key items. sym (groups c key items (no_group c high)) j)) code i;
    fold = λ code. by_code catalogue.fold (λ c. fold_answer (closure_at kinds.Fold [] c))
        (λ c high. ap fold_answer (no_closure kinds.Fold c) ∙ (λ j key state items. sym (folds c key state items (no_fold c high)) j)) code i;
  };
  codes = record {
    map = λ code. by_code (λ c. in_catalogue (Map c)) (λ c. is_some (closure_at kinds.Map [] c))
        (λ c high. ap is_some (no_closure kinds.Map c) ∙ sym (no_map c high)) code i;
    group = λ code. by_code (λ c. in_catalogue (Group c)) (λ c. is_some (closure_at kinds.Group [] c))
        (λ c high. ap is_some (no_closure kinds.Group c) ∙ sym (no_group c high)) code i;
    fold = λ code. by_code (λ c. in_catalogue (Fold c)) (λ c. is_some (closure_at kinds.Fold [] c))
        (λ c high. ap is_some (no_closure kinds.Fold c) ∙ sym (no_fold c high)) code i;
  };
}
