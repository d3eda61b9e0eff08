-- Which plan a text spells, and why it spells none.
use Rattle.std.specs.Prelude.{◌≡◌, ℕ, ◌+◌, ◌⊎◌, true, false, List, [], ◌∷◌, ◌++◌, length, find, Option, Some, None, option_map, IsTrue}
use Rattle.std.specs.List.{list_any, filter_map}
use Rattle.td_plan.specs.declared.error.PlanError.{PlanError}
use Rattle.td_plan.specs.declared.error.PlanError.TheVariants as errors
use Rattle.td_plan.specs.Text.{text_lines, words, is_passed_over}
use Rattle.td_plan.specs.Lines.{Line, words_of, has_form}
use Rattle.td_plan.specs.Blocks.{no_scope, scope_of, vertices}
use Rattle.td_plan.specs.Faults.{Fault, fault_of, is_faultless, is_stray, is_nil, has_ends, IsPlan}

-- the line of the text is written as this line of a plan
abbrev pub Spells : List ℕ → Line → Type 0
Spells text line = (words text ≡ words_of line) × IsTrue (has_form line)

-- it is passed over, or written as this line of a plan
abbrev pub IsReadAs : List ℕ → Option Line → Type 0
IsReadAs text None = is_passed_over text ≡ true
IsReadAs text (Some line) = Spells text line

-- it is neither
abbrev pub IsFormless : List ℕ → Type 0
IsFormless text = (is_passed_over text ≡ false) × ((line : Line) → Spells text line → ⊥)

-- lines of a text are read so, one by one
abbrev pub AreReadAs : List (List ℕ) → List (Option Line) → Type 0
AreReadAs [] [] = Unit {0}
AreReadAs (text ∷ texts) (reading ∷ readings) = IsReadAs text reading × AreReadAs texts readings
AreReadAs _ _ = ⊥

-- the lines of a plan among what was read
abbrev pub plan_lines : List (Option Line) → List Line
plan_lines readings = filter_map (λ r. r) readings

-- the text spells this plan
pub record PlanText (text : List ℕ) (plan : List Line) : Type 0 where
  pub readings : List (Option Line)
  pub read : AreReadAs (text_lines text) readings
  pub plan_is : plan ≡ plan_lines readings
  pub lawful : IsPlan plan

-- the first line with a fault is this one, and this is its first fault
pub record IsFirstFault (text : List ℕ) (fault : Fault) (n : ℕ) : Type 0 where
  pub front : List (List ℕ)
  pub line : List ℕ
  pub rest : List (List ℕ)
  pub splits : text_lines text ≡ front ++ line ∷ rest
  pub readings : List (Option Line)
  pub read : AreReadAs front readings
  pub faultless : is_faultless no_scope (plan_lines readings) ≡ true
  pub is_number : n ≡ length front + 1
  pub has : (IsFormless line × (fault ≡ Fault.syntax)) ⊎ ((l : Line) × Spells line l × (fault_of (scope_of (plan_lines readings)) l ≡ Some fault))

-- every line is read, none with a fault that the first pass can tell
pub record IsReadWhole (text : List ℕ) (readings : List (Option Line)) : Type 0 where
  pub read : AreReadAs (text_lines text) readings
  pub faultless : is_faultless no_scope (plan_lines readings) ≡ true

-- a loop is open at the end
pub record EndsInLoop (text : List ℕ) (n : ℕ) : Type 0 where
  pub readings : List (Option Line)
  pub whole : IsReadWhole text readings
  pub opened : is_nil (scope_of (plan_lines readings)).loops ≡ false
  pub is_number : n ≡ length (text_lines text) + 1

-- what was read, with the numbers of the lines of the text
abbrev pub numbered : ℕ → List (Option Line) → List (ℕ × Line)
numbered n [] = []
numbered n (None ∷ readings) = numbered (n + 1) readings
numbered n (Some line ∷ readings) = (n, line) ∷ numbered (n + 1) readings

-- the number of the first line with a stray feedback
abbrev pub first_stray : List (Option Line) → Option ℕ
first_stray readings = option_map (λ l. l.0) (find (λ l. is_stray (plan_lines readings) l.1) (numbered 1 readings))

-- the first pass finds nothing, and this is the first line of which the source of a feedback is not read on its block
pub record IsFirstStray (text : List ℕ) (n : ℕ) : Type 0 where
  pub readings : List (Option Line)
  pub whole : IsReadWhole text readings
  pub closed : is_nil (scope_of (plan_lines readings)).loops ≡ true
  pub first : first_stray readings ≡ Some n

-- no line has a fault, and an input or an output is wanting
pub record LacksEnds (text : List ℕ) : Type 0 where
  pub readings : List (Option Line)
  pub whole : IsReadWhole text readings
  pub closed : is_nil (scope_of (plan_lines readings)).loops ≡ true
  pub none_stray : list_any (is_stray (plan_lines readings)) (plan_lines readings) ≡ false
  pub lacks : has_ends (vertices (plan_lines readings)) ≡ false

-- why the text spells no plan
abbrev pub PlanFault : List ℕ → PlanError → Type 0
PlanFault text (errors.Syntax n) = IsFirstFault text Fault.syntax n ⊎ EndsInLoop text n
PlanFault text (errors.Number n) = IsFirstFault text Fault.number n
PlanFault text (errors.Order n) = IsFirstFault text Fault.order n
PlanFault text (errors.Nest n) = IsFirstFault text Fault.nest n
PlanFault text (errors.Bound n) = IsFirstFault text Fault.bound n
PlanFault text (errors.FoldInLoop n) = IsFirstFault text Fault.fold_in_loop n
PlanFault text (errors.Again n) = IsFirstFault text Fault.again n ⊎ IsFirstStray text n
PlanFault text (errors.TooMany n) = IsFirstFault text Fault.too_many n
PlanFault text errors.NoInputOrOutput = LacksEnds text
PlanFault text errors.Memory = ⊥
