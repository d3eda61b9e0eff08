-- Why a feed or a stream is refused.
use Rattle.std.specs.Prelude.{◌≡◌, ◌⊎◌, ℕ, Bool, true, false, List, ◌∷◌, ◌++◌, length, Option, Some, Result, Err, OnOk, IfErr, IsErr}
use Rattle.std.specs.Io.KnownBytes.{Appends}
use Rattle.td_plan.specs.Lines.{Line as PlanLine}
use Rattle.td_calls.specs.Answers.{Answers}
use Rattle.td_disk.specs.Disk.{DiskView}
use Rattle.td_journal.specs.declared.payload.Submitted.{Submitted as AnySubmitted}
use Rattle.td_journal.specs.Numbers.{greatest}
use Rattle.td_console.specs.declared.faults.LineFault.{LineFault}
use Rattle.td_console.specs.declared.faults.LineFault.TheVariants.{Syntax, SeenBefore, NotOut}
use Rattle.td_console.specs.declared.faults.Fault.{Fault}
use Rattle.td_console.specs.declared.faults.Fault.TheVariants.{Line, Output, Memory, Keeper}
use Rattle.td_orders.specs.declared.source.Asked.{Asked}
use Rattle.td_orders.specs.declared.source.Asked.TheVariants.{One}
use Rattle.td_orders.specs.declared.order.Order.{Order}
use Rattle.td_orders.specs.declared.order.Order.TheVariants.{Seen}
use Rattle.td_orders.specs.Orders.{orders_of}
use Rattle.td_orders.specs.Lines.{has_overlong}
use Rattle.td_orders.specs.Placed.{placed}
use Rattle.td_orders.specs.Scripts.{Script}
use Rattle.td_report.specs.Shown.{AlwaysHasRoom}
use Rattle.td_feed.specs.declared.session.StreamOptions.{StreamOptions}
use Rattle.td_feed.specs.Fed.{EachTellsHistory}
use Rattle.td_feed.specs.Session.{script_by}

-- a keeper's refusal, or want of memory
abbrev pub is_of_keeper : Fault → Bool
is_of_keeper Memory = true
is_of_keeper (Keeper error) = true
is_of_keeper _ = false

-- OR THE WRITER FAILED, which one does not that has room for any text at any time
abbrev pub IsOfWriter : {W : Type 0} → (W → ℕ → Type 0) → Fault → Type 0
IsOfWriter has Output = AlwaysHasRoom has → ⊥
IsOfWriter has f = is_of_keeper f ≡ true

-- A LINE WAS NOT WRITTEN: the writer failed, or memory was lacking for the line, with nothing written
abbrev pub IsUnsaid : {W : Type 0} → W → W → Fault → Type 0
IsUnsaid old new f = (f ≡ Output) ⊎ ((f ≡ Memory) × (new ≡ old))

-- A LINE IS WRITTEN, or the writer failed, or memory was lacking
pub record Writes {W : Type 0} (contents : W → Option (List ℕ)) (has : W → ℕ → Type 0) (result : Result (Unit {0}) Fault) (old new : W) (line : List ℕ) : Type 0 where
  pub said : OnOk result (Appends (contents old) (contents new) line)
  pub unsaid : IfErr result (IsUnsaid old new)
  pub fault : IfErr result (IsOfWriter has)

-- a line that says what was seen is refused for that alone
abbrev pub IsOfSeen : Order → ℕ → LineFault → Type 0
IsOfSeen (Seen line epoch) n fault = (n ≡ line) × ((fault ≡ SeenBefore) ⊎ (fault ≡ NotOut))
IsOfSeen order n fault = ⊥

abbrev pub IsOfAsked : Asked → Fault → Type 0
IsOfAsked (One order) (Line n fault) = IsOfSeen order n fault
IsOfAsked asked f = ⊥

-- A LINE'S FAULT is the first of the script; or one of its orders says what was not to be seen; or a line is too long
pub record IsOfOrder (script : Script) (n : ℕ) (fault : LineFault) : Type 0 where
  pub before : List Order
  pub order : Order
  pub after : List Order
  pub parts : script.orders ≡ before ++ order ∷ after
  pub seen : IsOfSeen order n fault

abbrev pub IsOfScript : Bool → Script → ℕ → LineFault → Type 0
IsOfScript overlong script n fault = (script.fault ≡ Some (Line n fault)) ⊎ (IsOfOrder script n fault ⊎ ((fault ≡ Syntax) × (overlong ≡ true)))

-- WHY A STREAM IS REFUSED, where a line has a fault, or the writer failed
abbrev pub IsOfStream : {W : Type 0} → Bool → Script → (W → ℕ → Type 0) → Fault → Type 0
IsOfStream overlong script has (Line n fault) = IsOfScript overlong script n fault
IsOfStream overlong script has Output = AlwaysHasRoom has → ⊥
IsOfStream overlong script has f = Unit {0}

-- A FEED IS REFUSED FOR A CAUSE: an input with a fault answers an error, with nothing written. A line's fault that is told is the input's first, and
-- a writer does not fail that has room for any text at any time
pub record RefusesFor {W : Type 0} (has : W → ℕ → Type 0) (plan : List PlanLine) (input : List ℕ) (result : Result (Unit {0}) Fault) (before after : W) : Type 0 where
  pub fault : IfErr (orders_of plan input) (λ _. IsErr result × (after ≡ before))
  pub line : (n : ℕ) (fault : LineFault) → result ≡ Err (Line n fault) → orders_of plan input ≡ Err (Line n fault)
  pub output : result ≡ Err Output → AlwaysHasRoom has → ⊥

module _ {D W : Type 0} (view : D → DiskView) (answers : Answers) (has : W → ℕ → Type 0) where
  -- A STREAM OF A DISK IS REFUSED FOR A CAUSE, where a line has a fault: that is the first of its input, where epochs have places or not; or a
  -- line says what was not to be seen, or is too long. And where the writer failed: one does not that has room for any text at any time
  pub record IsRefusedFor (how : StreamOptions) (result : Result (Unit {0}) Fault) (plan : List PlanLine) (disk : D) (input : List ℕ) : Type 0 where
    pub records : ℕ
    pub line : (n : ℕ) (fault : LineFault) → result ≡ Err (Line n fault) → (view disk).lawful → (history : List AnySubmitted) → EachTellsHistory answers plan history (view disk).state
        → IsOfScript (has_overlong (Some input)) (placed how.refuse (length history) (greatest 0 history) (script_by how records plan input)) n fault
    pub output : result ≡ Err Output → AlwaysHasRoom has → ⊥
